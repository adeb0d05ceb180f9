use Rattle.std.proofs.Common.{replicate, ℕ, ap, ◌∙◌, arith}
use Rattle.pattern.specs.Stored.{pattern_struct}
use Rattle.meaning.specs.Pattern.{anything}
use Rattle.pattern.proofs.ClausePatterns.{any-made}
use Rattle.pattern.proofs.pairing.all_any.Goals as goal

pub returns : goal.returns
returns c = any-made c.entry_count.result (omega (arith, c.entry_count.ensures)) ∙ ap (λ (n : ℕ). pattern_struct (replicate n anything)) c.entry_count.ensures
