-- Assumes nothing.
use mathlib.Core.Path.{sym, ap}
use mathlib.Core.Bool.{Bool}
use Rattle.meaning.specs.Refusals.{or_else}
use Rattle.cache.specs.Private.Outcomes.{lent_in}
use borrow.Author.Tests.{not-true, not-false}
use Rattle.cache.proofs.Returns.Checks.{unfit-of}
use Rattle.cache.proofs.State.check.Goals as goal

pub returns-then-not-fit : goal.returns-then-not-fit
returns-then-not-fit c = sym (ap (λ (b : Bool). or_else b 2 0) (unfit-of c.args.self.now (lent_in c.args.lent) _ _ c.requires (not-true _ c.if-not-fit.true-raw)))

pub returns : goal.returns
returns c = sym (ap (λ (b : Bool). or_else b 2 0) (unfit-of c.args.self.now (lent_in c.args.lent) _ _ c.requires (not-false _ c.if-not-fit.false-raw)))
