-- Assumes nothing.
use mathlib.Core.Path.{sym, ap, ◌∙◌}
use Rattle.std.proofs.Common.{Option, ok_or}
use Rattle.statement.specs.declared.Refusal.TheVariants as R
use Rattle.cache.specs.declared.Note.{Note}
use Rattle.cache.specs.Private.Outcomes.{lent_in}
use Rattle.cache.specs.Calls.{unfit}
use Rattle.cache.proofs.Returns.Checks.{refused_if, fits}
use Rattle.cache.proofs.Returns.Noting.{note-unfit, notes-asked, notes-exit}
use Rattle.cache.proofs.State.check_note.Goals as goal

pub returns-in_err-check : goal.returns-in_err-check
returns-in_err-check c =
    let s = c.args.self.now in
    let l = lent_in c.args.lent in
    let t = refused_if (unfit s l) 2 c.in_err-check.field-0.0 c.in_err-check.ensures in
    notes-exit s l c.from_residual.result c.in_err-check.field-0.0 c.from_residual.ensures.1 (t.1 ∙ sym (note-unfit s l t.0))

pub returns : goal.returns
returns c =
    let s = c.args.self.now in
    let l = lent_in c.args.lent in
    notes-asked s l (fits s l c.in_ok-check.ensures) c.ok_or.result (c.ok_or.ensures.value ∙ ap (λ (p : Option Note). ok_or p R.Note) c.note.ensures)
