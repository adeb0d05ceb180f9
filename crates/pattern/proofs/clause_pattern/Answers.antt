use Rattle.std.specs.Prelude.{Some}
use Rattle.std.proofs.Common.{◌≡◌, true, false, replicate, ℕ, refl, ap, ◌∙◌, arith, Bool, eqb}
use borrow.Author.Tests.{eqb-true, eqb-false}
use Rattle.std.specs.Bool.{then_some}
use Rattle.meaning.specs.Pattern.{anything}
use Rattle.statement.specs.declared.Query.{Query}
use Rattle.statement.specs.declared.Update.{Update}
use Rattle.pattern.specs.declared.Pattern.{Pattern}
use Rattle.pattern.specs.Stored.{all_any, entry_count, pattern_struct, pattern_at}
use Rattle.pattern.proofs.Agreeing.{count-many, count-worked, at-past, at-many, at-worked}
use Rattle.pattern.proofs.clause_pattern.Goals as goal

-- where the clauses are not worked out, the first has the pattern of all any
one : (q : Query) (u : Update) (i : ℕ) (p : Pattern) → all_any q u ≡ true → p ≡ pattern_struct (replicate (entry_count q) anything) → then_some (eqb i 0) p ≡ pattern_at q u i
one q u i p m e = go (eqb i 0) refl
  where
    go : (b : Bool) → eqb i 0 ≡ b → then_some b p ≡ pattern_at q u i
    go true h = let t = count-many q u m in let z = eqb-true i 0 h in ap Some e ∙ at-many q u i (omega arith) m
    go false h = let t = count-many q u m in let z = eqb-false i 0 h in at-past q u i (omega arith)

pub returns-in-None : goal.returns-in-None
returns-in-None c = c.then_some.ensures ∙ one c.args.query.now c.args.update.now c.args.i c.all_any.result (rw (c.of-pair.ensures.query, c.of-pair.ensures.update) at c.in-None.ensures) c.all_any.ensures

pub returns-then-p-from : goal.returns-then-p-from
returns-then-p-from c =
    let q = c.args.query.now in
    let u = c.args.update.now in
    let w = rw (c.of-pair.ensures.query, c.of-pair.ensures.update) at c.in-Some.ensures in
    let t = w.1.total_is ∙ count-worked q u w.0 in
    at-past q u c.args.i (omega (arith, c.from.ensures))

pub returns-else-p-from : goal.returns-else-p-from
returns-else-p-from c =
    let q = c.args.query.now in
    let u = c.args.update.now in
    let w = rw (c.of-pair.ensures.query, c.of-pair.ensures.update) at c.in-Some.ensures in
    let t = w.1.total_is ∙ count-worked q u w.0 in
    (rw (c.of-pair.ensures.query, c.of-pair.ensures.update) at c.clause_at.ensures) ∙ at-worked q u c.args.i (omega (arith, c.from.ensures)) w.0
