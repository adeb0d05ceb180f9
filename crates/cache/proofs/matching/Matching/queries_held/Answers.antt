use Rattle.std.proofs.Common.{◌≡◌, ◌+◌, ◌≤◌, ◌<◌, true, length, get_or, set, ℕ, sym, ap, subst, ◌∙◌, arith, List}
use Rattle.slots.specs.Keys.{held_slots, slot_key}
use Rattle.lists.proofs.Places.{All-at}
use Rattle.slots.specs.declared.Key.{Key}
use mathlib.Core.List.{[]}
use Rattle.cache.proofs.Returns.MarkingLoops.{Finding, finding-start, finding-end, finding-more, finding-skip, key-at, held-below}
use Rattle.cache.proofs.matching.Matching.queries_held.Goals.{then-q-lt-QUERIES, else-q-lt-QUERIES}
use Rattle.cache.proofs.matching.Matching.queries_held.Goals as goal

pub loop-x-init : goal.loop-x-init
loop-x-init c = let s = c.args.self.now.state.now in finding-start s.keys (held_slots s.slots)

pub bounds-keys-from : goal.bounds-keys-from
bounds-keys-from c =
    let s = c.args.self.now.state.now in
    let i = c.loop-x.x-index in
    let e = c.held_slots-held.ensures in
    let h = All-at i 0 (subst (λ (l : List ℕ). i < length l) e c.loop-x-test.true) (held-below s.slots c.args.self.now.sound) in
    omega (arith, h, c.from.ensures ∙ ap (λ (l : List ℕ). get_or l i 0) e)

pub loop-x-preserved : goal.loop-x-preserved
loop-x-preserved c =
    let s = c.args.self.now.state.now in
    let keys = s.keys in
    let held = held_slots s.slots in
    let i = c.loop-x.x-index in
    let found = c.loop-x.found in
    let same = c.held_slots-held.ensures in
    let lt : i < length held = subst (λ (l : List ℕ). i < length l) same c.loop-x-test.true in
    let h = All-at i 0 lt (held-below s.slots c.args.self.now.sound) in
    let x : ℕ = c.from.result in
    let e : x ≡ get_or held i 0 = c.from.ensures ∙ ap (λ (l : List ℕ). get_or l i 0) same in
    let d : Key = record { query = 0; count = 0; values = [] } in
    let k : Key = get_or keys x d in
    let long : length keys ≡ 64 = c.args.self.now.all_keys in
    let r : k ≡ slot_key keys (get_or held i 0) = key-at keys x d long (omega (arith, h, e)) ∙ ap (slot_key keys) e in
    elim c.if-q-lt-QUERIES.branch [
      | then-q-lt-QUERIES w ↦
          subst (Finding keys held (i + 1)) (sym (w.found-is ∙ ap (λ (q : ℕ). set found q true) c.from-q.ensures))
          (finding-more keys held i found lt c.loop-x.invariant k r (omega (arith, c.from-q.ensures, w.if-q-lt-QUERIES.true)))
      | else-q-lt-QUERIES w ↦
          subst (Finding keys held (i + 1)) (sym w.found-is)
          (finding-skip keys held i found lt c.loop-x.invariant k r (omega (arith, c.from-q.ensures, w.if-q-lt-QUERIES.false)))
    ]

pub returns : goal.returns
returns c =
    let s = c.args.self.now.state.now in
    let le : length (held_slots s.slots) ≤ c.loop-x.x-index = subst (λ (l : List ℕ). length l ≤ c.loop-x.x-index) c.held_slots-held.ensures c.loop-x-test.false in
    finding-end s.keys (held_slots s.slots) c.loop-x.x-index c.loop-x.found le c.loop-x.invariant
