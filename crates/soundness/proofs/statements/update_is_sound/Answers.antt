use Rattle.std.proofs.Common.{sym, ◌∙◌, rules, tests}
use Rattle.std.proofs.lemmas.Option.{MatchOption-at_none, MatchOption-at_some}
use Rattle.soundness.proofs.Settings.{update-by}
use Rattle.soundness.proofs.statements.update_is_sound.Goals as goal

pub returns-then-form_fits : goal.returns-then-form_fits
returns-then-form_fits c =
    update-by c.args.columns c.args.u.now c.requires c.used-settings.ensures.size (sym c.form_fits.ensures ∙ c.if-form_fits.true)
    c.used-settings.result.now c.used-settings.ensures.are _ c.after_settings.result c.after_settings.ensures
    (λ e. MatchOption-at_none _ _ e c.is_some_and.ensures)
    (λ k e. let q = MatchOption-at_some _ _ k e c.is_some_and.ensures in search (rules, tests))
