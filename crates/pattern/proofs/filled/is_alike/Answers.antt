use Rattle.pattern.proofs.FilledCodes.{alike-is}
use Rattle.pattern.proofs.filled.is_alike.Goals as goal

pub returns : goal.returns
returns c = alike-is c.args.width c.args.query.now c.args.update.now c.from.result c.used.result.now c.from.ensures c.used.ensures.are
