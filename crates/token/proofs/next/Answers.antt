-- The text's end, or the token behind the spaces.
use Rattle.std.proofs.Common.{ap, ◌∙◌, ◌+◌, length, drop, arith}
use Rattle.lists.specs.Lists.{take_while}
use Rattle.meaning.specs.Tokens.{is_space}
use Rattle.token.proofs.Cases.{spaces-only, behind-spaces}
use Rattle.token.proofs.next.Goals as goal

pub returns-then-start-len : goal.returns-then-start-len
returns-then-start-len c =
    let s = c.args.text.now in
    spaces-only s c.args.at c.run_end-start.result (c.run_end-start.ensures.0 ∙ ap (λ n. n + length (take_while is_space (drop n s))) c.min.ensures) (omega arith)

pub returns : goal.returns
returns c =
    let s = c.args.text.now in
    c.token_here.ensures
    ∙ behind-spaces s c.args.at c.run_end-start.result (c.run_end-start.ensures.0 ∙ ap (λ n. n + length (take_while is_space (drop n s))) c.min.ensures) (omega arith)
