use Rattle.std.proofs.Common.{◌≡◌, ◌-◌, ◌*◌, get_or, ℕ, sym, ap, ap₂, ◌∙◌, arith}
use Rattle.statement.specs.Sound.{settings_read}
use Rattle.pattern.specs.declared.joint.Role.TheVariants.{Asked, Inserted, Set}
use Rattle.pattern.specs.Stored.{entry_count, clause_pattern}
use Rattle.pattern.specs.Private.Flat.{chosen_of}
use Rattle.pattern.specs.Private.Pairs.{pair_at}
use Rattle.pattern.proofs.JointClauses.{insert-below, insert-chosen, first-chosen, second-chosen}
use Rattle.pattern.proofs.relevance.Pair.clause_at.Goals as goal

pub bounds-p-from : goal.bounds-p-from
bounds-p-from c =
    let b = c.args.self in
    let h = insert-below c.args.self.query.now c.args.self.update.now c.args.p.now c.requires.0 c.args.i c.requires.1 b.from b.starts c.if-self-eq-INSERT.true in
    omega (arith, c.requires.0.query_masked.few, c.from.ensures)

pub returns-then-self-eq-INSERT : goal.returns-then-self-eq-INSERT
returns-then-self-eq-INSERT c =
    let q = c.args.self.query.now in
    let u = c.args.self.update.now in
    let p = c.args.p.now in
    let b = c.args.self in
    c.inserted.ensures
    ∙ ap (λ (j : ℕ). clause_pattern (entry_count q) (chosen_of Inserted b.from (settings_read u) q.condition (get_or p.query.masks j 0))) c.from.ensures
    ∙ ap (clause_pattern (entry_count q)) (insert-chosen q u p c.requires.0 c.args.i c.requires.1 b.from b.starts c.if-self-eq-INSERT.true)

pub returns-then-k-size : goal.returns-then-k-size
returns-then-k-size c =
    let q = c.args.self.query.now in
    let u = c.args.self.update.now in
    let p = c.args.p.now in
    let b = c.args.self in
    let z : c.from-2.result * c.from-3.result ≡ p.update.count * p.query.count = ap₂ ◌*◌ c.from-2.ensures c.from-3.ensures in
    c.at.ensures
    ∙ ap (λ (j : ℕ). clause_pattern (entry_count q) (pair_at Asked b.from q u j)) c.from-k.ensures
    ∙ ap (clause_pattern (entry_count q)) (first-chosen q u p c.requires.0 c.args.i c.requires.1 b.from b.starts c.if-self-eq-INSERT.false (omega (arith, c.from-k.ensures, c.if-k-size.true)))

pub at-requires-2 : goal.at-requires-2
at-requires-2 c =
    let q = c.args.self.query.now in
    let u = c.args.self.update.now in
    let p = c.args.p.now in
    let b = c.args.self in
    let z : c.from-2.result * c.from-3.result ≡ p.update.count * p.query.count = ap₂ ◌*◌ c.from-2.ensures c.from-3.ensures in
    let r = second-chosen q u p c.requires.0 c.args.i c.requires.1 b.from b.starts c.if-self-eq-INSERT.false (omega (arith, c.from-k.ensures, c.if-k-size.false)) in
    (c.requires.0, omega (arith, r.1, c.from-k.ensures))

pub returns : goal.returns
returns c =
    let q = c.args.self.query.now in
    let u = c.args.self.update.now in
    let p = c.args.p.now in
    let b = c.args.self in
    let z : c.from-2.result * c.from-3.result ≡ p.update.count * p.query.count = ap₂ ◌*◌ c.from-2.ensures c.from-3.ensures in
    let r = second-chosen q u p c.requires.0 c.args.i c.requires.1 b.from b.starts c.if-self-eq-INSERT.false (omega (arith, c.from-k.ensures, c.if-k-size.false)) in
    c.at-2.ensures
    ∙ ap₂ (λ (x y : ℕ). clause_pattern (entry_count q) (pair_at Set b.from q u (x - y))) c.from-k.ensures z
    ∙ ap (clause_pattern (entry_count q)) (sym r.0)
