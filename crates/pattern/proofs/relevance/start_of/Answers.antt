use Rattle.std.specs.Prelude.{Some, Option}
use Rattle.std.specs.Option.{option_eq}
use Rattle.std.proofs.Common.{ℕ, eqb, sym, ap, ◌∙◌}
use Rattle.pattern.proofs.Relevant.{start_first, start-second, start-neither, second-yes, second-no}
use Rattle.pattern.proofs.relevance.start_of.Goals as goal

pub returns-then-query-update : goal.returns-then-query-update
returns-then-query-update c = let a = c.args in sym (start_first a.query.now a.update.now c.if-query-update.true)

pub returns-then-eq : goal.returns-then-eq
returns-then-eq c =
    let q = c.args.query.now in
    let u = c.args.update.now in
    let e = ap (λ (o : Option ℕ). option_eq eqb o (Some u.table)) (sym c.second_table.ensures) ∙ sym c.eq.ensures in
    sym (start-second q u c.if-query-update.false (second-yes q.second u.table (e ∙ c.if-eq.true)))

pub returns : goal.returns
returns c =
    let q = c.args.query.now in
    let u = c.args.update.now in
    let e = ap (λ (o : Option ℕ). option_eq eqb o (Some u.table)) (sym c.second_table.ensures) ∙ sym c.eq.ensures in
    sym (start-neither q u c.if-query-update.false (second-no q.second u.table (e ∙ c.if-eq.false)))
