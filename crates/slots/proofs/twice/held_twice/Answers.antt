-- Assumes nothing.
use mathlib.Core.Path.{◌≡◌, refl, sym, ap, ◌∙◌}
use native.Mathlib.Omega.{arith}
use Prim.Native.Nat.{◌<◌, ◌≤◌, ◌%◌}
use borrow.Author.Rules.{rules}
use lib.ListN.{length, get_or, length-set, length-take}
use Rattle.slots.specs.Private.Fingerprints.{slot_print}
use Rattle.slots.proofs.Noted.{noted-start, noted-unmarked, noted-apart, noted-end}
use Rattle.slots.proofs.Repeated.{compared, none_equal}
use Rattle.slots.proofs.twice.held_twice.Goals as goal
use Rattle.slots.proofs.twice.held_twice.Goals.{else-seen-at-via-then-seen-at+else-contains, else-seen-at-via-else-seen-at}

pub loop-i-init : goal.loop-i-init
loop-i-init c = (refl, refl, noted-start _ _ _ _)

pub returns-then-contains : goal.returns-then-contains
returns-then-contains c = compared _ _ _ _ c.held_slots-held.ensures c.any_same.ensures

pub loop-i-preserved : goal.loop-i-preserved
loop-i-preserved c =
    let l = c.loop-i in
    let h = c.print_at-print.result in
    let e : h ≡ slot_print c.args.keys.now (get_or c.held_slots-held.result.now l.i 0) =
    c.print_at-print.ensures in
    let o : length c.args.slots.now.order ≡ 64 = search rules in
    let few : length c.held_slots-held.result.now ≤ 64 = omega (arith, ap length c.held_slots-held.ensures, length-take c.args.slots.now.held c.args.slots.now.order) in
    let m : h % 1024 < length l.seen = omega arith in
    elim c.else-seen-at.branch [
      | else-seen-at-via-then-seen-at+else-contains w ↦
          (simp length-set l.invariant.0, simp length-set l.invariant.1, noted-apart _ _ _ _ _ _ (omega arith) (omega arith) m e (sym w.contains.ensures.value ∙ w.if-contains.false) l.invariant.2)
      | else-seen-at-via-else-seen-at w ↦
          (simp length-set l.invariant.0, simp length-set l.invariant.1, noted-unmarked _ _ _ _ _ _ (omega arith) (omega arith) m e w.if-seen-at.false l.invariant.2)
    ]

pub returns : goal.returns
returns c = none_equal _ _ _ c.held_slots-held.ensures (noted-end _ _ _ _ _ c.loop-i-test.false c.loop-i.invariant.2)
