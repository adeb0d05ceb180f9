-- Digits are a constant, and another word is a keyword, a name or nothing.
use Rattle.std.proofs.Common.{ap, sym, ◌∙◌, cond, false}
use Rattle.meaning.specs.Tokens.{constant, decimal}
use Rattle.token.specs.Tokens.{kind_of}
use Rattle.token.specs.Private.Parts.{signed, keyword_or_name_of}
use Rattle.token.proofs.Numbers.{constant-cap}
use Rattle.token.proofs.Words.{word-is}
use Rattle.token.proofs.Word.kind.Goals as goal

pub returns-then-is_number : goal.returns-then-is_number
returns-then-is_number c =
    let w = c.args.self.now.bytes.now in
    c.constant.ensures
    ∙ ap (λ n. kind_of (constant (signed false n))) c.digits.ensures
    ∙ constant-cap false (decimal w)
    ∙ ap (λ b. kind_of (cond b (constant (signed false (decimal w))) (keyword_or_name_of w))) (sym (sym c.is_number.ensures ∙ c.if-is_number.true))
    ∙ sym (word-is w c.args.self.now.some)

pub returns-else-is_number : goal.returns-else-is_number
returns-else-is_number c =
    let w = c.args.self.now.bytes.now in
    c.keyword_or_name.ensures
    ∙ ap (λ b. kind_of (cond b (constant (signed false (decimal w))) (keyword_or_name_of w))) (sym (sym c.is_number.ensures ∙ c.if-is_number.false))
    ∙ sym (word-is w c.args.self.now.some)
