-- Assumes nothing.
use mathlib.Core.Path.{◌≡◌, refl, sym}
use Prim.Native.Nat.{◌<◌, ◌≤◌}
use borrow.Author.Rules.{rules}
use mathlib.Core.Bool.{true, false}
use lib.ListN.{length, get_or}
use Rattle.slots.specs.Order.{is_marked}
use Rattle.slots.specs.Keys.{held_slots}
use Rattle.slots.proofs.Parts.{parting-leave, parting-stay, parted}
use Rattle.slots.proofs.SlotList.drop.Goals as goal
use Rattle.slots.proofs.SlotList.drop.Goals.{then-is_marked, else-is_marked}

pub loop-x-preserved : goal.loop-x-preserved
loop-x-preserved c =
    let l = c.loop-x in
    let e = l.invariant.0 in
    let h : l.x-index < length (held_slots c.args.self) = rw e at c.loop-x-test.true in
    elim c.if-is_marked.branch [
      | then-is_marked w ↦
          let q : is_marked c.args.gone.now (get_or (held_slots c.args.self) l.x-index 0) ≡ true = rw e at (sym w.if-is_marked.ensures) in
          rw (w.self-is, w.free-is, w.kept-is, w.dropped-is, e) (refl, l.invariant.1, parting-leave _ _ _ _ _ _ _ _ h l.invariant.2 q)
      | else-is_marked w ↦
          let q : is_marked c.args.gone.now (get_or (held_slots c.args.self) l.x-index 0) ≡ false = rw e at (sym w.if-is_marked.ensures) in
          rw (w.self-is, w.free-is, w.kept-is, w.dropped-is, e) (refl, l.invariant.1, parting-stay _ _ _ _ _ _ _ _ h l.invariant.2 q)
    ]

pub returns : goal.returns
returns c =
    let l = c.loop-x in
    let h : length (held_slots c.args.self) ≤ l.x-index = rw l.invariant.0 at c.loop-x-test.false in
    let k : l.x-index ≤ length (held_slots c.args.self) = rw l.invariant.0 at l.auto.x-index-end in
    parted _ _ _ _ _ _ _ _ _ (search rules) h k l.invariant.2 c.copy_from_slice.ensures.after l.invariant.1
