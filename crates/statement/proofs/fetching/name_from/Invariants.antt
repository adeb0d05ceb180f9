use Rattle.meaning.specs.Tokens.{folded_byte}
use Rattle.statement.proofs.fetching.name_from.Given as goal

abbrev pub ghost-placed : goal.ghost-placed
ghost-placed a = folded_byte
