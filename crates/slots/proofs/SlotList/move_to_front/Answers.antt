-- Assumes nothing.
use native.Mathlib.Omega.{arith}
use Rattle.slots.proofs.Moves.{front-turned_is, front_past_is}
use Rattle.slots.proofs.SlotList.move_to_front.Goals as goal

pub returns-then-at-ge-SLOTS : goal.returns-then-at-ge-SLOTS
returns-then-at-ge-SLOTS c = front_past_is _ _ (omega arith)

pub returns : goal.returns
returns c = front-turned_is _ _ _ _ (omega arith) c.from-at.ensures c.rotate_right.ensures.after
