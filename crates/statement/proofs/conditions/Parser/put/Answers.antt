-- `Parser::put` meets its contract. Assumes nothing.
use Rattle.std.proofs.Common.{refl, ap, ◌∙◌, ℕ, set, rules}
use Rattle.statement.proofs.Filled.{put-noted}
use Rattle.statement.proofs.conditions.Parser.put.Goals as goal

pub returns : goal.returns
returns c =
    let a = c.args in
    record { counted = refl; noted = λ h. put-noted a.nodes.now _ a.self.c.nodes 15 a.node (search rules) (c.put.ensures ∙ ap (λ (k : ℕ). set a.nodes.now k a.node) c.from.ensures) h }
