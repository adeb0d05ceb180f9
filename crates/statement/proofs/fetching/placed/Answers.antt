-- The items left are still to be made something of.
use Rattle.std.proofs.Common.{◌∙◌, ap}
use Rattle.statement.proofs.Filled.{filled-start, filled-more, filled-end}
use Rattle.statement.proofs.fetching.placed.Goals as goal

pub loop-i-init : goal.loop-i-init
loop-i-init g c = filled-start g.made _ c.args.blank c.args.items.now _ c.filled-all.ensures c.requires.1.1.1.1.1.0

pub loop-i-preserved : goal.loop-i-preserved
loop-i-preserved g c =
    filled-more g.made _ c.args.blank c.args.items.now _ c.loop-i.i _ _ c.loop-i-test.true (c.requires.1.1.1.1.1.1.1 _ _ c.make.ensures ∙ ap g.made c.index-items-i.is) c.loop-i.invariant

pub returns : goal.returns
returns g c = filled-end g.made _ c.args.blank c.args.items.now _ c.loop-i.i c.loop-i-test.false c.loop-i.invariant
