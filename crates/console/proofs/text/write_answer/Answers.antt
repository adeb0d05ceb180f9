use Rattle.std.proofs.Common.{ℕ, ap, ◌∙◌, rules}
use Rattle.console.specs.Private.Pieces.{Puts}
use Rattle.console.specs.Printed.{item, source_word, answer_text}
use Rattle.console.proofs.Puttings.{puts-as, puts-both}
use Rattle.console.proofs.text.write_answer.Goals as goal

pub returns-clause-result : goal.returns-clause-result
unfolding answer_text
returns-clause-result g c =
    let p : Puts c.at-line.result (answer_text (g.N.Numbered.number c.args.source) c.args.scanned c.args.bytes.now) c.put.new.self = puts-both
    (puts-both (puts-as (c.source_word.ensures ∙ ap source_word c.to_number.ensures) c.put_all.ensures)
    (puts-both (puts-as (ap (λ (n : ℕ). item "read" n) c.from.ensures) c.item.ensures) (puts-both c.put_all-2.ensures c.rows.ensures)))
    c.put.ensures in
    search rules

pub returns-clause-text : goal.returns-clause-text
unfolding answer_text
returns-clause-text g c =
    let p : Puts c.at-line.result (answer_text (g.N.Numbered.number c.args.source) c.args.scanned c.args.bytes.now) c.put.new.self = puts-both
    (puts-both (puts-as (c.source_word.ensures ∙ ap source_word c.to_number.ensures) c.put_all.ensures)
    (puts-both (puts-as (ap (λ (n : ℕ). item "read" n) c.from.ensures) c.item.ensures) (puts-both c.put_all-2.ensures c.rows.ensures)))
    c.put.ensures in
    search rules
