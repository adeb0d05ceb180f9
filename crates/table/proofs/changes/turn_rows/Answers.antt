-- The cells of the rows in use, turned.
use Rattle.std.proofs.Common.{◌≡◌, ℕ, ◌*◌, ◌≤◌, ◌++◌, length, take, drop, sym, subst, ap₂, ◌∙◌, arith}
use Rattle.lists.specs.Lists.{turned}
use Rattle.table.specs.Private.Changing.{TurnsRows}
use Rattle.table.proofs.Round.{turns-past, turns-rows}
use Rattle.table.proofs.changes.turn_rows.Goals as goal

pub returns-then-k-used : goal.returns-then-k-used
returns-then-k-used c =
    let a = c.args in
    let area = a.area.now in
    let w = c.from-width.result in
    let inside : a.used * w ≤ length area = subst (λ (m : ℕ). a.used * m ≤ length area) (sym c.from-width.ensures) c.requires in
    let z : c.rotate_left.new.self ≡ turned (a.k * w) (take (a.used * w) area) =
    c.rotate_left.ensures.after ∙ ap₂ (λ (m n : ℕ). turned (m * w) (take (n * w) area)) c.from-then-k-used.ensures c.from.ensures in
    subst (λ (m : ℕ). TurnsRows m a.used a.k area (c.rotate_left.new.self ++ drop (c.from.result * w) area)) c.from-width.ensures
    (subst (λ (n : ℕ). TurnsRows w a.used a.k area (c.rotate_left.new.self ++ drop (n * w) area)) (sym c.from.ensures)
    (turns-rows w a.used a.k area (omega arith) inside _ z))

pub returns-else-k-used : goal.returns-else-k-used
returns-else-k-used c = turns-past _ _ _ _ c.if-k-used.false
