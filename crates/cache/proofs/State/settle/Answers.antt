-- Assumes nothing.
use Rattle.cache.specs.Gives.{with_cache}
use Rattle.cache.proofs.Returns.Asking.{settled-slot, settled-nowhere}
use Rattle.cache.proofs.State.settle.Goals as goal

pub returns-in-Some : goal.returns-in-Some
unfolding with_cache
returns-in-Some c = rw (c.put.ensures, c.put-in-Some.ensures) (settled-slot c.args.self.now c.args.key c.args.place _ _ c.in-Some.is c.from-x.ensures)

pub returns-in_default : goal.returns-in_default
unfolding with_cache
returns-in_default c = settled-nowhere c.args.self.now c.args.key c.args.place c.in_default.is
