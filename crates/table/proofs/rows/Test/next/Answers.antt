-- The sides, and how they stand.
use Rattle.std.proofs.Common.{◌≡◌, ℕ, ◌+◌, ◌*◌, ◌++◌, get_or, ap, ap₂, ◌∙◌, rules}
use mir.Syntax.{w32}
use mir.Val.{to_z, of_z}
use Rattle.statement.specs.Operators.{order_of}
use Rattle.table.specs.Tests.{next_at, target_place}
use Rattle.table.specs.Private.Masks.{side_by}
use Rattle.table.proofs.rows.Test.next.Goals as goal

pub returns : goal.returns
unfolding next_at
returns c =
    let t = c.args.self.now in
    let i = c.args.i in
    let r = c.args.front.now ++ c.args.row.now in
    let ea : to_z w32 (of_z w32 c.side-a.result) ≡ side_by t (2 * i) r = search rules ∙ c.side-a.ensures ∙ ap (λ (j : ℕ). side_by t (2 * j) r) c.from-k.ensures in
    let eb : to_z w32 (of_z w32 c.side-b.result) ≡ side_by t (2 * i + 1) r = search rules ∙ c.side-b.ensures ∙ ap (λ (j : ℕ). side_by t (2 * j + 1) r) c.from-k.ensures in
    ap₂ (λ (j k : ℕ). get_or t.targets (4 * j + k) 0) c.from-k.ensures (c.target_place.ensures.place ∙ ap target_place (c.order.ensures ∙ ap₂ order_of ea eb))
