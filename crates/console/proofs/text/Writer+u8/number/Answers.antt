use Rattle.std.proofs.Common.{ℕ, ◌∷◌, sym, ap, ◌∙◌}
use lib.IntN.{ℤ, pos, nat_abs}
use lib.Signed.{lt_z}
use mir.Facts.{to_z-of_z}
use Rattle.console.specs.Printed.{decimal_text}
use Rattle.console.proofs.Puttings.{puts-as, puts-both}
use Rattle.console.proofs.Shown.{number-negative, number-positive}
use Rattle.console.proofs.text.Writer+u8.number.Goals as goal
use Rattle.console.proofs.text.Writer+u8.number.Goals.{then-n-lt0, else-n-lt0}

pub returns : goal.returns
returns c =
    let z = to_z-of_z c.ranges.n in
    let e = c.from.ensures ∙ c.unsigned_abs.ensures.value ∙ ap nat_abs z in
    let sign = ap (λ (n : ℤ). lt_z n (pos 0)) (sym z) in
    elim c.if-n-lt0.branch [
      | then-n-lt0 w ↦ puts-as (ap (λ (n : ℕ). 45 ∷ decimal_text n) e ∙ number-negative _ (sign ∙ w.if-n-lt0.true)) (puts-both w.put.ensures (rw w.self-is at c.decimal.ensures))
      | else-n-lt0 w ↦ puts-as (ap decimal_text e ∙ number-positive _ (sign ∙ w.if-n-lt0.false)) (rw w.self-is at c.decimal.ensures)
    ]
