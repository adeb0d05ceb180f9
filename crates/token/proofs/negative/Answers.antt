-- Digits are a constant, and anything else is nothing.
use Rattle.std.proofs.Common.{ap, sym, ◌∙◌, cond, true}
use Rattle.meaning.specs.Tokens.{constant, other, decimal}
use Rattle.token.specs.Tokens.{kind_of}
use Rattle.token.specs.Private.Parts.{signed}
use Rattle.token.proofs.Numbers.{constant-cap}
use Rattle.token.proofs.Words.{negative-is}
use Rattle.token.proofs.negative.Goals as goal

pub returns-then-is_number : goal.returns-then-is_number
returns-then-is_number c =
    let w = c.args.word.now in
    c.constant.ensures
    ∙ ap (λ n. kind_of (constant (signed true n))) c.digits.ensures
    ∙ constant-cap true (decimal w)
    ∙ ap (λ b. kind_of (cond b (constant (signed true (decimal w))) other)) (sym (sym c.is_number.ensures ∙ c.if-is_number.true))
    ∙ sym (negative-is w)

pub returns-else-is_number : goal.returns-else-is_number
returns-else-is_number c =
    let w = c.args.word.now in
    ap (λ b. kind_of (cond b (constant (signed true (decimal w))) other)) (sym (sym c.is_number.ensures ∙ c.if-is_number.false)) ∙ sym (negative-is w)
