use Rattle.std.proofs.Common.{◌≡◌, ℕ, ap, ◌∙◌, arith, ◌++◌}
use Rattle.statement.specs.Sound.{settings_read}
use Rattle.pattern.specs.declared.joint.Role.TheVariants.{Given}
use Rattle.pattern.specs.Stored.{entry_count, clause_pattern}
use Rattle.pattern.specs.Private.Flat.{chosen_of}
use Rattle.pattern.proofs.ClausePatterns.{two-ready, two-pattern}
use Rattle.pattern.proofs.relevance.Pair.joined.Goals as goal

pub pattern_of-requires : goal.pattern_of-requires
pattern_of-requires c =
    let q = c.args.self.query.now in
    let u = c.args.self.update.now in
    let a = chosen_of Given c.args.self.from (settings_read u) u.condition c.args.given in
    let b = chosen_of c.args.role c.args.self.from (settings_read u) q.condition c.args.asked in
    (two-ready a c.empty-clause.result c.add.new.clause c.empty-clause.ensures c.add.ensures b c.add-2.new.clause c.add-2.ensures, omega (arith, c.from.ensures, c.entry_count.ensures))

pub returns : goal.returns
returns c =
    let q = c.args.self.query.now in
    let u = c.args.self.update.now in
    let a = chosen_of Given c.args.self.from (settings_read u) u.condition c.args.given in
    let b = chosen_of c.args.role c.args.self.from (settings_read u) q.condition c.args.asked in
    let m : c.from.result ≡ entry_count q = c.from.ensures ∙ c.entry_count.ensures in
    c.pattern_of.ensures
    ∙ two-pattern a c.empty-clause.result c.add.new.clause c.empty-clause.ensures c.add.ensures b c.add-2.new.clause c.add-2.ensures c.from.result (omega (arith, m))
    ∙ ap (λ (m : ℕ). clause_pattern m (a ++ b)) m
