-- Assumes nothing.
use mathlib.Core.Path.{◌≡◌, sym, ap, ◌∙◌}
use native.Mathlib.Omega.{arith}
use Prim.Native.Nat.{ℕ, ◌<◌}
use lib.ListN.{length, get_or}
use Rattle.slots.proofs.Moves.{taken_past, taken_last_is}
use Rattle.slots.proofs.SlotList.take_last.Goals as goal

pub returns-in_err-last : goal.returns-in_err-last
returns-in_err-last c = c.from_residual.ensures ∙ sym (taken_past _ (λ h. absurd (c.in_err-last.ensures h.0)))

pub returns-in_err-slot : goal.returns-in_err-slot
returns-in_err-slot c =
    let few = c.in_err-slot.ensures.lookup.3 in
    c.from_residual-in_err-slot.ensures ∙ sym (taken_past _ (λ h. absurd (omega (arith, few))))

pub returns : goal.returns
returns c =
    let at = c.in_ok-slot.ensures.lookup in
    let inside : c.in_ok-last.last < length c.args.self.order = omega (arith, at.3.0) in
    let slot : c.in_ok-slot.field-0.now ≡ get_or c.args.self.order c.in_ok-last.last c.in_ok-slot.field-0.now =
    at.1 ∙ ap (λ (k : ℕ). get_or c.args.self.order k c.in_ok-slot.field-0.now) c.from.ensures in
    taken_last_is _ _ _ _ _ (omega (arith, c.in_ok-last.ensures)) (omega arith) c.move_to_front-slots.ensures slot inside (omega arith)
