-- A row is set.
use Rattle.std.proofs.Common.{◌≡◌, ℕ, ◌+◌, ◌-◌, ◌*◌, ◌≤◌, List, ℤ, true, length, map, refl, sym, ap, ◌∙◌, subst, arith}
use Rattle.meaning.specs.Meaning.{Row}
use Rattle.meaning.specs.Cells.{stored}
use Rattle.statement.specs.Sound.{setting_read}
use Rattle.table.specs.Rows.{area_rows}
use Rattle.table.proofs.Assigning.{made, assigned-length}
use Rattle.table.proofs.Updating.{Left, left-start, update-set, row-next, update-done}
use Rattle.table.proofs.changes.assign_all.Goals as goal

pub loop-init : goal.loop-init
loop-init c =
    let a = c.args in
    let w = c.from-width.result in
    let z : a.used ≡ a.used - 0 = omega arith in
    let inside : a.used * w ≤ length a.area.now = subst (λ (k : ℕ). a.used * k ≤ length a.area.now) (sym c.from-width.ensures) c.requires in
    subst (λ (k : ℕ). Left (λ (r : Row). true) (made a.values.now a.settings.now) w a.used a.area.now a.area.now 0 k 0) z (left-start (λ (r : Row). true) (made a.values.now a.settings.now) w a.used a.area.now inside)

pub loop-preserved : goal.loop-preserved
loop-preserved c =
    let a = c.args in
    let l = c.loop in
    let p = λ (r : Row). true in
    let f = made a.values.now a.settings.now in
    let w = c.from-width.result in
    let keeps = λ (r : List ℤ). assigned-length (map setting_read a.settings.now) a.values.now r in
    row-next p f w a.used a.area.now keeps _ l.counter (l.at + w) (l.counter + 1)
    (update-set p f w a.used a.area.now keeps l.area _ l.at (a.used - l.counter) l.counter (l.counter + 1) c.assign.new.row
    (omega (arith, c.loop-test.true)) l.invariant refl c.assign.ensures refl refl)

pub returns : goal.returns
returns c =
    let a = c.args in
    let l = c.loop in
    let w = c.from-width.result in
    let f = made a.values.now a.settings.now in
    let inside : a.used * w ≤ length a.area.now = subst (λ (k : ℕ). a.used * k ≤ length a.area.now) (sym c.from-width.ensures) c.requires in
    let done = update-done (λ (r : Row). true) f w a.used a.area.now (λ (r : List ℤ). assigned-length (map setting_read a.settings.now) a.values.now r) l.area l.at (a.used - l.counter) l.counter
    (omega (arith, c.loop-test.false)) inside l.invariant in
    done.1 ∙ ap (λ (k : ℕ). stored a.area.now (a.used * k) (map f (area_rows k a.used a.area.now))) c.from-width.ensures
