use Rattle.cache.specs.declared.matching.Marks.{Marks}
use Rattle.std.proofs.Common.{◌≡◌, ◌+◌, ◌≤◌, ◌<◌, length, true, get_or, set, ℕ, sym, ap, subst, ◌∙◌, arith, Bool, List, ◌&&◌, eqb}
use Rattle.lists.proofs.Places.{All-at}
use Rattle.cache.specs.Private.Marks.{agrees_at}
use Rattle.slots.specs.Keys.{slot_key, values_of, held_slots}
use Rattle.slots.specs.declared.Key.{Key}
use mathlib.Core.List.{[]}
use Rattle.pattern.specs.Stored.{agrees_stored}
use Rattle.cache.proofs.Returns.MarkingLoops.{Marking, marking-yes, marking-no, marking-end, key-at, held-below}
use Rattle.cache.proofs.matching.Matching.mark_agreeing.Goals.{then-agrees_key, else-agrees_key}
use Rattle.cache.proofs.matching.Matching.mark_agreeing.Goals as goal

pub bounds-keys-slot : goal.bounds-keys-slot
bounds-keys-slot c =
    let s = c.args.self.now.state.now in
    let i = c.loop-x.x-index in
    let e = c.held_slots-held.ensures in
    let h = All-at i 0 (subst (λ (l : List ℕ). i < length l) e c.loop-x-test.true) (held-below s.slots c.args.self.now.sound) in
    omega (arith, h, c.from-slot.ensures ∙ ap (λ (l : List ℕ). get_or l i 0) e)

pub mark-requires : goal.mark-requires
mark-requires c =
    let s = c.args.self.now.state.now in
    let i = c.loop-x.x-index in
    let e = c.held_slots-held.ensures in
    let h = All-at i 0 (subst (λ (l : List ℕ). i < length l) e c.loop-x-test.true) (held-below s.slots c.args.self.now.sound) in
    omega (arith, h, c.from-slot.ensures ∙ ap (λ (l : List ℕ). get_or l i 0) e)

pub loop-x-preserved : goal.loop-x-preserved
loop-x-preserved c =
    let s = c.args.self.now.state.now in
    let keys = s.keys in
    let q = c.args.q in
    let p = c.args.p.now in
    let held = held_slots s.slots in
    let i = c.loop-x.x-index in
    let marks = c.loop-x.marks.all in
    let same = c.held_slots-held.ensures in
    let lt : i < length held = subst (λ (l : List ℕ). i < length l) same c.loop-x-test.true in
    let test : ℕ → Bool = agrees_at keys q p in
    let h = All-at i 0 lt (held-below s.slots c.args.self.now.sound) in
    let x : ℕ = c.from-slot.result in
    let e : x ≡ get_or held i 0 = c.from-slot.ensures ∙ ap (λ (l : List ℕ). get_or l i 0) same in
    let d : Key = record { query = 0; count = 0; values = [] } in
    let long : length keys ≡ 64 = c.args.self.now.all_keys in
    let r : get_or keys x d ≡ slot_key keys (get_or held i 0) = key-at keys x d long (omega (arith, h, e)) ∙ ap (slot_key keys) e in
    let t : test (get_or held i 0) ≡ c.agrees_key.result = sym (c.agrees_key.ensures ∙ ap (λ (k : Key). eqb k.query q && agrees_stored p (values_of k)) r) in
    elim c.if-agrees_key.branch [
      | then-agrees_key w ↦
          subst (Marking test held c.args.marks.now.all (i + 1)) (sym (ap (λ (m : Marks). m.all) w.marks-is ∙ w.mark.ensures ∙ ap (λ (k : ℕ). set marks k true) e))
          (marking-yes test held c.args.marks.now.all i marks lt c.loop-x.invariant (t ∙ w.if-agrees_key.true))
      | else-agrees_key w ↦
          subst (Marking test held c.args.marks.now.all (i + 1)) (sym (ap (λ (m : Marks). m.all) w.marks-is))
          (marking-no test held c.args.marks.now.all i marks lt c.loop-x.invariant (t ∙ w.if-agrees_key.false))
    ]

pub returns : goal.returns
returns c =
    let s = c.args.self.now.state.now in
    let held = held_slots s.slots in
    let le : length held ≤ c.loop-x.x-index = subst (λ (l : List ℕ). length l ≤ c.loop-x.x-index) c.held_slots-held.ensures c.loop-x-test.false in
    marking-end (agrees_at s.keys c.args.q c.args.p.now) held c.args.marks.now.all c.loop-x.x-index c.loop-x.marks.all le c.loop-x.invariant
