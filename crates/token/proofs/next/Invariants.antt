use Rattle.meaning.specs.Tokens.{is_space}
use Rattle.token.proofs.next.Given as goal

abbrev pub ghost-run_end : goal.ghost-run_end
ghost-run_end a = is_space
