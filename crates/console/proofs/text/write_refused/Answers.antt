use Rattle.std.proofs.Common.{ℕ, ap, ◌∙◌, rules}
use Rattle.console.specs.Private.Pieces.{Puts}
use Rattle.console.specs.Printed.{item, refused_text}
use Rattle.console.proofs.Puttings.{puts-as, puts-both}
use Rattle.console.proofs.text.write_refused.Goals as goal

pub returns-clause-result : goal.returns-clause-result
unfolding refused_text
returns-clause-result g c =
    let p : Puts c.at-line.result (refused_text (g.N.Numbered.number c.args.refusal)) c.put.new.self = puts-both (puts-as (ap (λ (n : ℕ). item "refused" n) (c.from.ensures ∙ c.to_number.ensures)) c.item.ensures) c.put.ensures in
    search rules

pub returns-clause-text : goal.returns-clause-text
unfolding refused_text
returns-clause-text g c =
    let p : Puts c.at-line.result (refused_text (g.N.Numbered.number c.args.refusal)) c.put.new.self = puts-both (puts-as (ap (λ (n : ℕ). item "refused" n) (c.from.ensures ∙ c.to_number.ensures)) c.item.ensures) c.put.ensures in
    search rules
