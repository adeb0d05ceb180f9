use Rattle.std.proofs.Common.{◌≡◌, List, ℕ, not, sym, ap, ◌∙◌, arith}
use Rattle.meaning.specs.Record.{numbers_of, row_refusal}
use Rattle.console.specs.Printed.{row_text}
use Rattle.console.proofs.Puttings.{puts_none, puts-as, puts-both}
use Rattle.console.proofs.Shown.{first_more, first-end, was_ok, was_err}
use Rattle.console.proofs.text.Writer+u8.rows.Goals as goal

pub returns-then-is_ok : goal.returns-then-is_ok
returns-then-is_ok c =
    let x = was_ok _ (c.is_ok.ensures.negation ∙ ap not c.if-is_ok.true) in
    let k : 0 ≡ row_refusal c.args.bytes.now 0 = rw x.1 at c.check_row.ensures in
    puts-as (sym (first_more _ (sym k))) (puts-both (puts-as (ap (λ (s : List ℕ). row_text (numbers_of s)) c.row.ensures.part) c.row-then-is_ok.ensures) c.further.ensures)

pub returns-else-is_ok : goal.returns-else-is_ok
returns-else-is_ok c =
    let x = was_err _ (c.is_ok.ensures.negation ∙ ap not c.if-is_ok.false) in
    let k : 14 ≡ row_refusal c.args.bytes.now 0 = rw x.1 at c.check_row.ensures in
    puts-as (sym (first-end c.args.bytes.now (λ e. omega (arith, k, e)))) (puts_none _)
