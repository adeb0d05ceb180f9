-- What an update does to its area, among all cells.
use Rattle.std.proofs.Common.{◌≡◌, ◌+◌, ◌-◌, ◌*◌, ◌≤◌, length, false, sym, ◌∙◌, arith, rules}
use Rattle.table.specs.Changed.{change_fits}
use Rattle.table.proofs.Fitting.{area-inside, refused, refused-area, refused-form, change-fits, done}
use Rattle.table.proofs.changes.change.Goals as goal
use Rattle.table.proofs.changes.change.Goals.{then-not-area_fits-via-then-not-area_fits, then-not-area_fits-via-else-not-area_fits+then-not-form_fits}

pub returns-then-not-area_fits : goal.returns-then-not-area_fits
returns-then-not-area_fits c =
    let a = c.args in
    let no : change_fits a.update a.table a.start a.cells.now ≡ false =
    elim c.then-not-area_fits.branch [
      | then-not-area_fits-via-then-not-area_fits w ↦ refused-area a.update a.table a.start a.cells.now a.values.now (sym c.area_fits.ensures ∙ w.if-not-area_fits.true)
      | then-not-area_fits-via-else-not-area_fits+then-not-form_fits w ↦
          refused-form a.update a.table a.start a.cells.now a.values.now (sym c.area_fits.ensures ∙ w.if-not-area_fits.false) (sym w.form_fits.ensures ∙ w.if-not-form_fits.true)
    ] in
    let d = refused a.update a.table a.start a.cells.now a.values.now no in
    record { counted = c.none.ensures ∙ d.0; cells = d.1 }

pub overflow_add-end : goal.overflow_add-end
overflow_add-end c =
    let a = c.args in
    omega (arith, area-inside a.table a.start (length a.cells.now) (sym c.area_fits.ensures ∙ c.if-not-area_fits.false), c.cells.ensures.are)

pub offset_bounds-cells-start : goal.offset_bounds-cells-start
offset_bounds-cells-start c =
    let a = c.args in
    omega (arith, area-inside a.table a.start (length a.cells.now) (sym c.area_fits.ensures ∙ c.if-not-area_fits.false))

pub slice_bounds-change_area-end : goal.slice_bounds-change_area-end
slice_bounds-change_area-end c =
    let a = c.args in
    let k : a.start + c.cells.result ≤ length a.cells.now = omega (arith, area-inside a.table a.start (length a.cells.now) (sym c.area_fits.ensures ∙ c.if-not-area_fits.false), c.cells.ensures.are) in
    search rules

pub change_area-requires : goal.change_area-requires
change_area-requires c =
    let a = c.args in
    let t = a.table in
    let k : t.capacity ≤ 65535 = omega arith in
    let size : a.start + c.cells.result - a.start ≡ t.count * t.capacity = omega (arith, c.cells.ensures.are) in
    change-fits a.update t a.start a.cells.now a.values.now (sym c.area_fits.ensures ∙ c.if-not-area_fits.false) (sym c.form_fits.ensures ∙ c.if-not-form_fits.false)
    (a.start + c.cells.result - a.start) size k

pub returns : goal.returns
returns c =
    let a = c.args in
    let t = a.table in
    let size : a.start + c.cells.result - a.start ≡ t.count * t.capacity = omega (arith, c.cells.ensures.are) in
    let d = done a.update t a.start a.cells.now a.values.now (sym c.area_fits.ensures ∙ c.if-not-area_fits.false) (sym c.form_fits.ensures ∙ c.if-not-form_fits.false)
    (a.start + c.cells.result - a.start) size c.change_area.result c.change_area.new.area (c.change_area.ensures.counted, c.change_area.ensures.cells) in
    record { counted = d.0; cells = d.1 }
