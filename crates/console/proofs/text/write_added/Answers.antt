use Rattle.std.proofs.Common.{◌∷◌, ◌++◌, ap, ap₂, ◌∙◌, rules}
use Rattle.console.specs.Private.Pieces.{Puts, kind_word}
use Rattle.console.specs.Printed.{decimal_text, line, added_text}
use Rattle.console.proofs.Puttings.{puts-as, puts-both}
use Rattle.console.proofs.Shown.{added-is}
use Rattle.console.proofs.text.write_added.Goals as goal

pub returns-clause-result : goal.returns-clause-result
returns-clause-result g c =
    let p : Puts c.at-line.result (added_text (g.N.Numbered.number c.args.kind) c.args.number) c.put.new.self = puts-as (ap₂ (λ w n. line (w ++ (32 ∷ decimal_text n))) (c.kind_word.ensures ∙ ap kind_word c.to_number.ensures) c.from.ensures ∙ added-is _ _) (puts-both c.item.ensures c.put.ensures) in
    search rules

pub returns-clause-text : goal.returns-clause-text
returns-clause-text g c =
    let p : Puts c.at-line.result (added_text (g.N.Numbered.number c.args.kind) c.args.number) c.put.new.self = puts-as (ap₂ (λ w n. line (w ++ (32 ∷ decimal_text n))) (c.kind_word.ensures ∙ ap kind_word c.to_number.ensures) c.from.ensures ∙ added-is _ _) (puts-both c.item.ensures c.put.ensures) in
    search rules
