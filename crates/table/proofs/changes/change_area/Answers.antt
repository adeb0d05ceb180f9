-- Each form by its own law.
use Rattle.std.proofs.Common.{◌≡◌, ℕ, ◌+◌, ◌*◌, ◌≤◌, ◌++◌, [], ◌∷◌, List, length, take, sym, ap, ap₂, ◌∙◌, subst, arith}
use Rattle.std.proofs.lemmas.List.{length-take}
use Rattle.meaning.specs.Cells.{stored}
use Rattle.statement.specs.declared.Setting.{Setting}
use Rattle.table.specs.Rows.{area_rows}
use Rattle.table.specs.Changed.{is_full_ring}
use Rattle.table.specs.Private.Changing.{row_of}
use Rattle.table.proofs.Fitting.{place-room, inserted, updated, gone-few, deleted}
use Rattle.table.proofs.changes.change_area.Goals as goal

pub insert_row-requires : goal.insert_row-requires
insert_row-requires c =
    let a = c.args in
    let t = a.table.now in
    let u = a.update.now in
    let p = c.requires in
    let z = c.if-update-eq-INSERT.true in
    let n : length c.used.result.now ≡ t.count = omega (arith, ap length c.used.ensures.are, length-take u.count u.settings, c.used.ensures.size, p.few, p.given z) in
    subst (λ (k : ℕ). c.new_place.result * k + k ≤ length a.area.now) (sym n)
    (place-room (is_full_ring t) t.count t.rows t.oldest (length a.area.now) p.inside (p.place z) (p.room z) c.new_place.result c.new_place.ensures)

pub returns-then-update-eq-INSERT : goal.returns-then-update-eq-INSERT
returns-then-update-eq-INSERT c =
    let a = c.args in
    let t = a.table.now in
    let u = a.update.now in
    let p = c.requires in
    let z = c.if-update-eq-INSERT.true in
    let ss = c.used.result.now in
    let n : length ss ≡ t.count = omega (arith, ap length c.used.ensures.are, length-take u.count u.settings, c.used.ensures.size, p.few, p.given z) in
    let is : ss ≡ take t.count u.settings = c.used.ensures.are ∙ ap (λ (k : ℕ). take k u.settings) (p.given z) in
    let e = c.insert_row.ensures
    ∙ ap₂ (λ (k : ℕ) (l : List Setting). stored a.area.now (c.new_place.result * k) (area_rows k c.new_place.result a.area.now ++ (row_of l a.values.now ∷ []))) n is in
    let d = inserted u a.values.now t.count t.rows a.area.now (is_full_ring t) t.oldest u.form c.insert_row.new.area z c.used.ensures.size p.few (p.given z) p.inside (p.place z) c.new_place.result
    c.new_place.ensures e c.inserted.result c.inserted.ensures in
    record { counted = d.0; cells = d.1 }

pub returns-then-update-eq-UPDATE : goal.returns-then-update-eq-UPDATE
returns-then-update-eq-UPDATE c =
    let a = c.args in
    let t = a.table.now in
    let d = updated a.update.now a.values.now t.count t.rows a.area.now (is_full_ring t) t.oldest a.update.now.form c.update_rows.result c.update_rows.new.area c.if-update-eq-UPDATE.true
    c.update_rows.ensures.count c.update_rows.ensures.cells in
    record { counted = d.0; cells = d.1 }

pub overflow_sub-result : goal.overflow_sub-result
overflow_sub-result c =
    let a = c.args in
    let t = a.table.now in
    gone-few a.update.now a.values.now t.count t.rows a.area.now (is_full_ring t) t.oldest c.turn_rows.new.area c.turn_rows.ensures c.delete_rows-count.result c.delete_rows-count.ensures.count

pub returns : goal.returns
returns c =
    let a = c.args in
    let t = a.table.now in
    let d = deleted a.update.now a.values.now t.count t.rows a.area.now (is_full_ring t) t.oldest c.turn_rows.new.area c.turn_rows.ensures a.update.now.form c.delete_rows-count.result
    c.delete_rows-count.new.area c.if-update-eq-INSERT.false c.if-update-eq-UPDATE.false c.requires.inside c.delete_rows-count.ensures.count c.delete_rows-count.ensures.cells in
    record { counted = d.0; cells = d.1 }
