-- 2, or what `check_number` gives. Assumes nothing.
use mathlib.Core.Path.{◌∙◌}
use Rattle.cache.specs.Private.Outcomes.{lent_in}
use Rattle.cache.specs.Calls.{unfit}
use Rattle.cache.proofs.Settled.{fit_is}
use Rattle.cache.proofs.Returns.Tested.{counts_of, tables_of}
use Rattle.cache.proofs.Returns.Checks.{exit-number, refused_if, fits, update-unfit, update-fit}
use Rattle.cache.proofs.State.check_update.Goals as goal

pub returns-in_err-check : goal.returns-in_err-check
returns-in_err-check c =
    let a = c.args in
    let l = lent_in a.lent in
    let t = refused_if (unfit a.self.now l) 2 c.in_err-check.field-0.0 c.in_err-check.ensures in
    update-unfit a.self.now a.update a.values _ l t.0 (exit-number c.from_residual.result _ c.from_residual.ensures.1 ∙ t.1)

pub returns : goal.returns
returns c =
    let a = c.args in
    let l = lent_in a.lent in
    update-fit a.self.now a.update a.values _ l (fits a.self.now l c.in_ok-check.ensures) c.check_number.ensures

pub check_number-requires : goal.check_number-requires
check_number-requires c =
    let s = c.args.self.now in
    let h = (fit_is s (lent_in c.args.lent) (fits s (lent_in c.args.lent) c.in_ok-check.ensures)).sound in
    (counts_of s h, tables_of s h)
