-- Letters, digits and the underscore.
use Rattle.std.proofs.Common.{arith}
use Rattle.std.proofs.lemmas.Grind.{common_steps}
use Rattle.meaning.specs.Tokens.{is_word_byte, is_name_byte}
use Rattle.token.proofs.is_word_byte.Goals as goal

pub returns-then-is_ascii_alphanumeric : goal.returns-then-is_ascii_alphanumeric
unfolding is_word_byte is_name_byte
returns-then-is_ascii_alphanumeric c = grind (arith, common_steps)

pub returns-else-is_ascii_alphanumeric : goal.returns-else-is_ascii_alphanumeric
unfolding is_word_byte is_name_byte
returns-else-is_ascii_alphanumeric c = grind (arith, common_steps)
