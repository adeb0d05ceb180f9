use Rattle.std.proofs.Common.{map}
use Rattle.meaning.specs.Condition as C
use Rattle.meaning.specs.Statement.{Operand}
use Rattle.pattern.specs.Private.Masks.{comparisons_read}
use Rattle.pattern.specs.Private.Deciding.{FilledAs}
use Rattle.pattern.proofs.Deciding.{read-same}
use Rattle.pattern.proofs.affected.Case.fill.Goals as goal

pub returns : goal.returns
returns c =
    let e = c.filling.ensures in
    read-same (λ (f : Operand → Operand). FilledAs (map (C.renamed f) (comparisons_read c.args.condition.now)) c.fill.result) _ _ _ _ _ _ _ _ e.role e.settings e.given e.asked c.fill.ensures
