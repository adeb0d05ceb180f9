use Rattle.std.proofs.Common.{ℕ, sym, ap, ◌∙◌}
use Rattle.pattern.specs.Private.Relevance.{sets_used}
use Rattle.pattern.proofs.Relevant.{other-table, update-relevant, other-relevant}
use Rattle.pattern.proofs.relevance.Pair.is_relevant.Goals as goal

pub returns-then-not-reads : goal.returns-then-not-reads
returns-then-not-reads c = let a = c.args.self in sym (other-table a.query.now a.update.now (sym c.if-not-reads.ensures))

pub returns-then-self-eq-UPDATE : goal.returns-then-self-eq-UPDATE
returns-then-self-eq-UPDATE c =
    let a = c.args.self in
    c.touches.ensures
    ∙ ap (λ (k : ℕ). sets_used k a.query.now a.update.now) a.starts
    ∙ sym (update-relevant a.query.now a.update.now (sym c.if-not-reads.ensures) c.if-self-eq-UPDATE.true)

pub returns : goal.returns
returns c =
    let a = c.args.self in
    sym (other-relevant a.query.now a.update.now (sym c.if-not-reads.ensures) c.if-self-eq-UPDATE.false)
