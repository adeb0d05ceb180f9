use Rattle.std.proofs.Common.{rules}
use mir.Syntax.{w32}
use mir.Val.{SFits}
use mir.Facts.{to_z-of_z}
use Rattle.script.proofs.Left.{some-left, none-left}
use Rattle.script.proofs.constants.ConstantsIterator.next.Goals as goal

pub returns-in_default : goal.returns-in_default
returns-in_default c =
    let none = none-left _ _ c.next-t.result c.next-t.ensures c.in_default.not-Constant in
    record { steps = (none, none); goes = search rules }

pub returns-clause-steps : goal.returns-clause-steps
returns-clause-steps c =
    let small : SFits w32 c.in-Constant.value = search rules in
    rw (to_z-of_z small) (some-left _ _ c.next-t.result c.in-Constant.value c.next-t.ensures c.in-Constant.is)

pub returns-clause-goes : goal.returns-clause-goes
returns-clause-goes c =
    let some = some-left _ _ c.next-t.result c.in-Constant.value c.next-t.ensures c.in-Constant.is in
    search rules
