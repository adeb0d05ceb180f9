use Rattle.pattern.proofs.Deciding.{each-one}
use Rattle.pattern.proofs.affected.each_of.Goals as goal

pub returns : goal.returns
returns c = each-one c.args.n c.requires
