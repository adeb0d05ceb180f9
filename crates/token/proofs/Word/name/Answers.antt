-- A word is a name if it begins with a letter.
use Rattle.std.proofs.Common.{◌≡◌, ap, sym, ◌∙◌, true, false, cond, ◌||◌, get_or, arith}
use Rattle.std.proofs.lemmas.Grind.{common_steps}
use Rattle.meaning.specs.Tokens.{is_small, is_capital}
use Rattle.token.specs.declared.Kind.TheVariants.{Name, Other}
use Rattle.token.proofs.Words.{name-is}
use Rattle.token.proofs.Word.name.Goals as goal

pub returns-then-is_ascii_alphabetic : goal.returns-then-is_ascii_alphabetic
returns-then-is_ascii_alphabetic c =
    let w = c.args.self.now.bytes.now in
    let a : (is_small (get_or w 0 0) || is_capital (get_or w 0 0)) ≡ true = grind (arith, common_steps) in
    ap (λ x. cond x Name Other) (sym a) ∙ name-is w c.args.self.now.some c.args.self.now.of_word

pub returns-else-is_ascii_alphabetic : goal.returns-else-is_ascii_alphabetic
returns-else-is_ascii_alphabetic c =
    let w = c.args.self.now.bytes.now in
    let a : (is_small (get_or w 0 0) || is_capital (get_or w 0 0)) ≡ false = grind (arith, common_steps) in
    ap (λ x. cond x Name Other) (sym a) ∙ name-is w c.args.self.now.some c.args.self.now.of_word
