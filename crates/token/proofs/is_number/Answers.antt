-- Each byte is tried.
use Rattle.std.proofs.Common.{sym, ◌∙◌, ◌<◌, length, rules, arith}
use borrow.Author.Tests.{tests}
use Rattle.std.proofs.lemmas.Grind.{common_steps}
use Rattle.std.proofs.lemmas.Iterator.{YieldsList-from_slice}
use Rattle.std.proofs.lemmas.Iterator.Search.{all_from_yields_List}
use Rattle.meaning.specs.Tokens.{is_digit}
use Rattle.token.proofs.Words.{number-is}
use Rattle.token.proofs.is_number.Goals as goal

pub returns-then-not-is_empty : goal.returns-then-not-is_empty
returns-then-not-is_empty c =
    let w = c.args.word.now in
    let l : 0 < length w = grind (arith, common_steps) in
    all_from_yields_List is_digit _ _ _ c.all.ensures.ran (YieldsList-from_slice w c.iter.ensures.rest) (λ x b q k. search (rules, tests)) ∙ sym (number-is w l)
