-- The part is that of the row.
use Rattle.answer.proofs.Records.{row-there, row-missing}
use Rattle.answer.proofs.row.Goals as goal

pub returns-in-Some-clause-part : goal.returns-in-Some-clause-part
returns-in-Some-clause-part c =
    let r = c.in-Some.range in
    let e = c.in-Some.ensures in
    row-there c.args.bytes.now c.args.i r.start r.end e.0 e.1 e.2

pub returns-in-None-clause-part : goal.returns-in-None-clause-part
returns-in-None-clause-part c = row-missing c.args.bytes.now c.args.i c.in-None.ensures
