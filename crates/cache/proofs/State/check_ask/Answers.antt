-- Assumes nothing.
use mathlib.Core.Path.{◌≡◌, ap, ◌∙◌}
use mathlib.Core.Bool.{false, cond}
use borrow.Author.Tests.{lt-leb}
use native.Mathlib.Omega.{arith}
use Prim.Native.Nat.{◌≤◌}
use lib.Dec.{eqb}
use lib.ListN.{length}
use Rattle.statement.specs.Refusals.{number_of}
use Rattle.statement.specs.declared.Refusal.TheVariants.{Number}
use Rattle.statement.specs.declared.Query.{Query}
use Rattle.statement.specs.Compiled.{no_query}
use Rattle.meaning.specs.Plain.{Lengths}
use Rattle.cache.specs.declared.State.{State}
use Rattle.cache.specs.Private.Outcomes.{lent_in}
use Rattle.cache.specs.Calls.{unfit}
use Rattle.cache.proofs.Invariant.Sound.{sound-is}
use Rattle.cache.proofs.Settled.{fit_is}
use Rattle.cache.proofs.Returns.Checks.{exit-number, refused_if, fits, asked-none, first-none, first-there, ask-unfit, ask-none, ask-counted}
use Rattle.cache.proofs.State.check_ask.Goals as goal

-- no more questions are in use than there are
few : (s : State) (l : Lengths) → unfit s l ≡ false → length s.queries ≡ 16 → s.query_count ≤ length s.queries
few s l f e = omega (arith, (sound-is s (fit_is s l f).sound).few_queries, e)

pub returns-in_err-check : goal.returns-in_err-check
returns-in_err-check c =
    let a = c.args in
    let l = lent_in a.lent in
    let t = refused_if (unfit a.self.now l) 2 c.in_err-check.field-0.0 c.in_err-check.ensures in
    ask-unfit a.self.now l a.query a.values _ t.0 (exit-number c.from_residual.result _ c.from_residual.ensures.1 ∙ t.1)

pub returns-in_err-q : goal.returns-in_err-q
returns-in_err-q c =
    let a = c.args in
    let s = a.self.now in
    let l = lent_in a.lent in
    let fit = fits s l c.in_ok-check.ensures in
    let used = c.used_queries-queries.ensures in
    let u = asked-none c.get.result c.in_err-q.field-0.0 Number c.in_err-q.ensures.value in
    let none = first-none s.queries s.query_count a.query no_query (few s l fit used.size) _ used.first c.get.result c.get.ensures.lookup u.0 in
    let out = c.from_residual-in_err-q in
    ask-none s l a.query a.values _ fit none (exit-number out.result _ out.ensures.1 ∙ ap number_of u.1)

pub returns : goal.returns
returns c =
    let a = c.args in
    let s = a.self.now in
    let l = lent_in a.lent in
    let fit = fits s l c.in_ok-check.ensures in
    let used = c.used_queries-queries.ensures in
    let t = first-there s.queries s.query_count a.query no_query (few s l fit used.size) _ used.first c.get.result c.get.ensures.lookup c.in_ok-q.q c.in_ok-q.ensures.ok_part in
    ask-counted s l a.query a.values _ fit (lt-leb s.query_count a.query t.0) (c.check_values.ensures ∙ ap (λ (q : Query). cond (eqb a.values q.parameters) 0 11) t.1)
