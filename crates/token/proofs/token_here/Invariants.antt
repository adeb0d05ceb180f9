use Rattle.meaning.specs.Tokens.{is_word_byte}
use Rattle.token.proofs.token_here.Given as goal

abbrev pub ghost-run_end : goal.ghost-run_end
ghost-run_end a = is_word_byte
