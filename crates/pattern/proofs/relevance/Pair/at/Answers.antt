use Rattle.std.proofs.Common.{get_or, ℕ, ap, ap₂, ◌∙◌, ◌++◌}
use Rattle.statement.specs.Sound.{settings_read}
use Rattle.pattern.specs.declared.joint.Role.TheVariants.{Given}
use Rattle.pattern.specs.Stored.{entry_count, clause_pattern}
use Rattle.pattern.specs.Private.Flat.{chosen_of}
use Prim.Native.Nat.{◌/◌, ◌%◌}
use Rattle.pattern.proofs.JointClauses.{pair-chosen}
use Rattle.pattern.proofs.relevance.Pair.at.Goals as goal

pub returns : goal.returns
returns c =
    let q = c.args.self.query.now in
    let u = c.args.self.update.now in
    let p = c.args.p.now in
    let l = c.from.ensures ∙ ap (λ (n : ℕ). c.args.k / n) c.from-size.ensures in
    let r = c.from-2.ensures ∙ ap (λ (n : ℕ). c.args.k % n) c.from-size.ensures in
    c.joined.ensures
    ∙ ap₂ (λ (i j : ℕ). clause_pattern (entry_count q)
    (chosen_of Given c.args.self.from (settings_read u) u.condition (get_or p.update.masks i 0) ++ chosen_of c.args.role c.args.self.from (settings_read u) q.condition (get_or p.query.masks j 0))) l r
    ∙ ap (clause_pattern (entry_count q)) (pair-chosen q u p c.requires.0 c.args.k c.requires.1 c.args.role c.args.self.from)
