-- The tests are those of a record, of the numbers that are read.
use Rattle.std.proofs.Common.{◌≡◌, ap, ap₂, sym, ◌∙◌, true, ◌&&◌, ◌+◌, ◌*◌, ◌<◌, rules, arith}
use mathlib.Core.Bool.{and-false}
use borrow.Author.Tests.{lt-ltb, le-ltb}
use lib.Dec.{ltb}
use Rattle.meaning.specs.Record.{row_bytes, has_row}
use Rattle.answer.proofs.Records.{row-short, row-by, row_fits}
use Rattle.answer.proofs.row_range.Goals as goal
use Rattle.answer.proofs.row_range.Goals.{else-agrees-via-then-agrees+else-i-from, else-agrees-via-else-agrees}

pub returns-in_err-head : goal.returns-in_err-head
returns-in_err-head c = let k = row-short c.args.bytes.now c.args.i c.in_err-head.ensures in search rules

pub returns-then-i-from : goal.returns-then-i-from
returns-then-i-from c =
    let bs = c.args.bytes.now in
    let i = c.args.i in
    let h = c.in_ok-head.head in
    let e = c.in_ok-head.ensures in
    let small : h.rows < 65536 = omega (arith, c.type_inv.bytes 6, c.type_inv.bytes 7, e.4) in
    let there : has_row bs i ≡ true = row-by bs i h.size h.version h.columns h.rows e.0 e.1 e.2 e.3 e.4 small ∙ ap₂ ◌&&◌ (sym c.agrees.ensures ∙ c.if-agrees.true) (lt-ltb i h.rows (omega arith)) in
    let width : c.width-width.result ≡ row_bytes bs = c.width-width.ensures ∙ ap (λ n. 4 * n) e.3 in
    (there, ap (λ n. 8 + i * n) width, ap (λ n. 8 + i * c.width-width.result + n) width, rw width (row_fits bs i there))

pub returns : goal.returns
returns c =
    let bs = c.args.bytes.now in
    let i = c.args.i in
    let h = c.in_ok-head.head in
    let e = c.in_ok-head.ensures in
    let small : h.rows < 65536 = omega (arith, c.type_inv.bytes 6, c.type_inv.bytes 7, e.4) in
    let by : has_row bs i ≡ (c.agrees.result && ltb i h.rows) = row-by bs i h.size h.version h.columns h.rows e.0 e.1 e.2 e.3 e.4 small ∙ ap (λ x. x && ltb i h.rows) (sym c.agrees.ensures) in
    elim c.else-agrees.branch [
      | else-agrees-via-then-agrees+else-i-from w ↦ by ∙ ap (λ x. c.agrees.result && x) (le-ltb i h.rows (omega arith)) ∙ and-false c.agrees.result
      | else-agrees-via-else-agrees w ↦ by ∙ ap (λ x. x && ltb i h.rows) w.if-agrees.false
    ]
