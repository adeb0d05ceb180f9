use Rattle.std.proofs.Common.{◌≡◌, List, ℕ, sym, ap, ◌∙◌, arith}
use Rattle.meaning.specs.Record.{numbers_of, row_refusal}
use Rattle.console.specs.Printed.{row_text, further_text}
use Rattle.console.proofs.Puttings.{puts-as, puts-both, left-more, left_end}
use Rattle.console.proofs.Shown.{few_rows, rows_end, further-more, further-end, was_ok, was_err}
use Rattle.console.proofs.text.Writer+u8.further.Goals as goal

pub returns-then-is_err : goal.returns-then-is_err
returns-then-is_err c =
    let x = was_err _ (sym c.is_err.ensures.value ∙ c.if-is_err.true) in
    let k : 14 ≡ row_refusal c.args.bytes.now c.loop-i.i = rw x.1 at c.check_row.ensures in
    left_end (further-end c.args.bytes.now c.loop-i.i (λ e. omega (arith, k, e))) c.loop-i.invariant

pub loop-i-preserved : goal.loop-i-preserved
loop-i-preserved c =
    let x = was_ok _ (sym c.is_err.ensures.value ∙ c.if-is_err.false) in
    let k : 0 ≡ row_refusal c.args.bytes.now c.loop-i.i = rw x.1 at c.check_row.ensures in
    left-more _ _ (further-more _ c.loop-i.i (sym k))
    (puts-both c.put_all.ensures (puts-as (ap (λ (s : List ℕ). row_text (numbers_of s)) c.row.ensures.part) c.row-in-loop-i.ensures))
    c.loop-i.invariant

pub returns : goal.returns
returns c = left_end (ap further_text (rows_end c.args.bytes.now c.loop-i.i (omega (arith, few_rows c.args.bytes.now)))) c.loop-i.invariant
