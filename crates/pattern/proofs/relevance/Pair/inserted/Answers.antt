use Rattle.std.proofs.Common.{◌≡◌, ℕ, ap, ◌∙◌, arith}
use Rattle.statement.specs.Sound.{settings_read}
use Rattle.pattern.specs.declared.joint.Role.TheVariants.{Inserted}
use Rattle.pattern.specs.Stored.{entry_count, clause_pattern}
use Rattle.pattern.specs.Private.Flat.{chosen_of}
use Rattle.pattern.proofs.ClausePatterns.{one-ready, one-pattern}
use Rattle.pattern.proofs.relevance.Pair.inserted.Goals as goal

pub pattern_of-requires : goal.pattern_of-requires
pattern_of-requires c =
    let a = chosen_of Inserted c.args.self.from (settings_read c.args.self.update.now) c.args.self.query.now.condition c.args.mask in
    (one-ready a c.empty-clause.result c.add.new.clause c.empty-clause.ensures c.add.ensures, omega (arith, c.from.ensures, c.entry_count.ensures))

pub returns : goal.returns
returns c =
    let q = c.args.self.query.now in
    let a = chosen_of Inserted c.args.self.from (settings_read c.args.self.update.now) q.condition c.args.mask in
    let m : c.from.result ≡ entry_count q = c.from.ensures ∙ c.entry_count.ensures in
    c.pattern_of.ensures
    ∙ one-pattern a c.empty-clause.result c.add.new.clause c.empty-clause.ensures c.add.ensures c.from.result (omega (arith, m))
    ∙ ap (λ (m : ℕ). clause_pattern m a) m
