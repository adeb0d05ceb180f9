use Rattle.std.proofs.Common.{◌≡◌, ◌+◌, ◌≤◌, ◌<◌, length, true, false, get_or, set, ℕ, sym, ap, ap₂, subst, ◌∙◌, arith, Bool, List, ◌&&◌}
use Rattle.lists.proofs.Places.{All-at}
use Rattle.slots.specs.Order.{is_marked}
use Rattle.slots.specs.Keys.{held_slots}
use Rattle.cache.specs.Private.Marks.{reaches_at, reached_at}
use Rattle.cache.proofs.Returns.SlotsMatched.{no-mark}
use Rattle.cache.proofs.Returns.MarkingLoops.{Marking, marking-yes, marking-no, marking-end, marked-none, held-below}
use Rattle.cache.proofs.matching.Matching.mark_reached.Goals.{then-matched-slot+then-reaches, else-matched-slot, else-matched-slot-via-then-matched-slot+else-reaches, else-matched-slot-via-else-matched-slot}
use Rattle.cache.proofs.matching.Matching.mark_reached.Goals as goal

pub returns-then-not-matched : goal.returns-then-not-matched
returns-then-not-matched c =
    let a = c.args in
    let s = a.self.now.state.now in
    let reaches : ℕ → Bool = reaches_at s.keys s.queries a.width a.self.now.values.now a.update.now in
    let none = a.matched.now.told c.if-not-matched.true in
    sym (marked-none (reached_at s.keys s.queries a.width a.self.now.values.now a.update.now a.matched.now.all)
    (λ x. ap (λ (b : Bool). b && reaches x) (ap (λ (l : List Bool). is_marked l x) none ∙ no-mark 64 x)) (held_slots s.slots) a.marks.now)

pub bounds-matched-slot : goal.bounds-matched-slot
bounds-matched-slot c =
    let s = c.args.self.now.state.now in
    let i = c.loop-x.x-index in
    let e = c.held_slots-held.ensures in
    let h = All-at i 0 (subst (λ (l : List ℕ). i < length l) e c.loop-x-test.true) (held-below s.slots c.args.self.now.sound) in
    omega (arith, h, c.from-slot.ensures ∙ ap (λ (l : List ℕ). get_or l i 0) e)

pub loop-x-preserved : goal.loop-x-preserved
loop-x-preserved c =
    let a = c.args in
    let s = a.self.now.state.now in
    let held = held_slots s.slots in
    let i = c.loop-x.x-index in
    let marks = c.loop-x.marks in
    let same = c.held_slots-held.ensures in
    let lt : i < length held = subst (λ (l : List ℕ). i < length l) same c.loop-x-test.true in
    let reaches : ℕ → Bool = reaches_at s.keys s.queries a.width a.self.now.values.now a.update.now in
    let test : ℕ → Bool = reached_at s.keys s.queries a.width a.self.now.values.now a.update.now a.matched.now.all in
    let x : ℕ = c.from-slot.result in
    let e : x ≡ get_or held i 0 = c.from-slot.ensures ∙ ap (λ (l : List ℕ). get_or l i 0) same in
    let here : test (get_or held i 0) ≡ test x = sym (ap test e) in
    let stay = λ (f : test x ≡ false). marking-no test held a.marks.now i marks lt c.loop-x.invariant (here ∙ f) in
    elim c.if-matched-slot.branch [
      | then-matched-slot+then-reaches w ↦
          subst (Marking test held a.marks.now (i + 1)) (sym (w.marks-is ∙ ap (λ (k : ℕ). set marks k true) e))
          (marking-yes test held a.marks.now i marks lt c.loop-x.invariant (here ∙ ap₂ ◌&&◌ w.if-matched-slot.true (sym w.reaches.ensures ∙ w.if-reaches.true)))
      | else-matched-slot w ↦
          subst (Marking test held a.marks.now (i + 1)) (sym w.marks-is)
          (stay
          (elim w.else-matched-slot.branch [
            | else-matched-slot-via-then-matched-slot+else-reaches v ↦ ap₂ ◌&&◌ v.if-matched-slot.true (sym v.reaches.ensures ∙ v.if-reaches.false)
            | else-matched-slot-via-else-matched-slot v ↦ ap (λ (b : Bool). b && reaches x) v.if-matched-slot.false
          ]))
    ]

pub returns : goal.returns
returns c =
    let a = c.args in
    let s = a.self.now.state.now in
    let held = held_slots s.slots in
    let le : length held ≤ c.loop-x.x-index = subst (λ (l : List ℕ). length l ≤ c.loop-x.x-index) c.held_slots-held.ensures c.loop-x-test.false in
    marking-end (reached_at s.keys s.queries a.width a.self.now.values.now a.update.now a.matched.now.all) held a.marks.now c.loop-x.x-index c.loop-x.marks le c.loop-x.invariant
