use Rattle.std.proofs.Common.{◌≡◌, [], List, ℕ, ap, ◌∙◌, rules}
use mir.Syntax.{w32}
use mir.Val.{to_z, of_z}
use lib.ListN.{get_or, drop_of_length-le}
use Rattle.std.proofs.lemmas.List.{drop_more}
use Rattle.console.specs.Printed.{number_text, row_text}
use Rattle.console.proofs.Puttings.{puts-as, puts-both, left-start, left-more, left_end}
use Rattle.console.proofs.Shown.{value-is, values_in, values-of}
use Rattle.console.proofs.text.Writer+u8.row.Goals as goal

pub loop-value-init : goal.loop-value-init
loop-value-init c = left-start (ap row_text (ap values_in c.as_chunks.ensures.front ∙ values-of c.args.row.now))

pub loop-value-preserved : goal.loop-value-preserved
loop-value-preserved c =
    let z : to_z w32 (of_z w32 c.from_be_bytes.result) ≡ c.from_be_bytes.result = search rules in
    left-more _ _ (ap (λ (l : List (List ℕ)). row_text (values_in l)) (drop_more c.as_chunks.result.0.now c.loop-value.value-index [] c.loop-value-test.true))
    (puts-both c.put.ensures (puts-as (ap number_text (z ∙ c.from_be_bytes.ensures ∙ value-is (get_or c.as_chunks.result.0.now c.loop-value.value-index []))) c.number.ensures)) c.loop-value.invariant

pub returns : goal.returns
returns c = left_end (ap (λ (l : List (List ℕ)). row_text (values_in l)) (drop_of_length-le c.as_chunks.result.0.now c.loop-value-test.false)) c.loop-value.invariant
