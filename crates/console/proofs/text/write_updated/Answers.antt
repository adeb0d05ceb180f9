use Rattle.std.proofs.Common.{ℕ, ap, rules}
use Rattle.console.specs.Private.Pieces.{Puts}
use Rattle.console.specs.Printed.{item, updated_text}
use Rattle.console.proofs.Puttings.{puts-as, puts-both}
use Rattle.console.proofs.text.write_updated.Goals as goal

pub returns-clause-result : goal.returns-clause-result
unfolding updated_text
returns-clause-result c =
    let p : Puts c.at-line.result (updated_text c.args.rows c.args.invalidated) c.put-2.new.self = puts-both
    (puts-both (puts-as (ap (λ (n : ℕ). item "rows" n) c.from.ensures) c.item.ensures)
    (puts-both c.put.ensures (puts-as (ap (λ (n : ℕ). item "dropped" n) c.from-2.ensures) c.item-2.ensures)))
    c.put-2.ensures in
    search rules

pub returns-clause-text : goal.returns-clause-text
unfolding updated_text
returns-clause-text c =
    let p : Puts c.at-line.result (updated_text c.args.rows c.args.invalidated) c.put-2.new.self = puts-both
    (puts-both (puts-as (ap (λ (n : ℕ). item "rows" n) c.from.ensures) c.item.ensures)
    (puts-both c.put.ensures (puts-as (ap (λ (n : ℕ). item "dropped" n) c.from-2.ensures) c.item-2.ensures)))
    c.put-2.ensures in
    search rules
