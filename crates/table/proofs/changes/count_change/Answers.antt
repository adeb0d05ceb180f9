-- Nothing, a row inserted, or the rows that meet the condition.
use Rattle.std.proofs.Common.{◌≡◌, ◌≤◌, false, sym, ap, ◌∙◌, arith}
use Rattle.lists.specs.Lists.{count}
use Rattle.table.specs.Rows.{meets_stored}
use Rattle.table.specs.Tests.{longest}
use Rattle.table.specs.Changed.{change_fits}
use Rattle.table.specs.declared.changes.Changed.{Changed}
use Rattle.table.proofs.Recording.{count-met}
use Rattle.table.proofs.Fitting.{refused, refused-area, refused-form, counted-insert, counted-met}
use Rattle.table.proofs.changes.count_change.Goals as goal
use Rattle.table.proofs.changes.count_change.Goals.{then-not-area_fits-via-then-not-area_fits, then-not-area_fits-via-else-not-area_fits+then-not-form_fits}

pub returns-then-not-area_fits : goal.returns-then-not-area_fits
returns-then-not-area_fits c =
    let a = c.args in
    let no : change_fits a.update a.table a.start a.cells.now ≡ false =
    elim c.then-not-area_fits.branch [
      | then-not-area_fits-via-then-not-area_fits w ↦ refused-area a.update a.table a.start a.cells.now a.values.now (sym c.area_fits.ensures ∙ w.if-not-area_fits.true)
      | then-not-area_fits-via-else-not-area_fits+then-not-form_fits w ↦
          refused-form a.update a.table a.start a.cells.now a.values.now (sym c.area_fits.ensures ∙ w.if-not-area_fits.false) (sym w.form_fits.ensures ∙ w.if-not-form_fits.true)
    ] in
    ap (λ (r : Changed). r.count) (refused a.update a.table a.start a.cells.now a.values.now no).0

pub returns-then-update-eq-INSERT : goal.returns-then-update-eq-INSERT
returns-then-update-eq-INSERT c =
    let a = c.args in
    let inside = sym c.area_fits.ensures ∙ c.if-not-area_fits.false in
    let fits = sym c.form_fits.ensures ∙ c.if-not-form_fits.false in
    counted-insert a.update a.table a.start a.cells.now a.values.now inside fits c.if-update-eq-INSERT.true

pub returns : goal.returns
returns c =
    let a = c.args in
    let r = c.of-rows.result in
    let d = a.update.condition in
    let inside = sym c.area_fits.ensures ∙ c.if-not-area_fits.false in
    let fits = sym c.form_fits.ensures ∙ c.if-not-form_fits.false in
    let w : r.width ≤ longest = omega (arith, c.of-rows.ensures.width) in
    let met = count-met d a.values.now c.prepare-test.result c.prepare-test.ensures r w in
    let same = ap (count (meets_stored d a.values.now)) c.of-rows.ensures.rows in
    counted-met a.update a.table a.start a.cells.now a.values.now inside fits c.if-update-eq-INSERT.false _ (c.count_rows.ensures ∙ met ∙ same)
