use Rattle.std.proofs.Common.{refl, rules, arith, sym, ap, ◌∙◌, ◌+◌, ◌++◌, ℕ, Bool, List, tests}
use Rattle.std.proofs.lemmas.Iterator.{YieldsList-from_range}
use Rattle.std.proofs.lemmas.Iterator.Search.{all_from_yields_List}
use Rattle.std.specs.List.{range_with_len}
use Rattle.lists.specs.Lists.{all, from}
use Rattle.lists.proofs.Chains.{all-is}
use Rattle.pattern.specs.declared.labels.Compared.{Compared}
use Rattle.pattern.specs.Private.Least.{columns_from}
use Rattle.pattern.specs.Private.Deciding.{literals_of, column_fits, possible_code}
use Rattle.pattern.proofs.Trying.{range-from, tests-three}
use Rattle.pattern.proofs.literals.Conjunction.is_possible.Goals as goal

pub returns : goal.returns
unfolding possible_code
returns c =
    let s = c.args.self in
    let ls = literals_of s in
    let p : List Compared → ℕ → Bool = λ cs i. column_fits ls cs (columns_from + i) in
    let cs = s.first.now ++ (s.second.now ++ s.third.now) in
    all_from_yields_List (p cs) _ _ c.all.result c.all.ensures.ran (YieldsList-from_range 0 c.args.width c.args.width refl (omega arith)) (λ x b q k. search (rules, tests))
    ∙ all-is (p cs) (range_with_len 0 c.args.width) ∙ ap (all (p cs)) (range-from 0 c.args.width)
    ∙ sym (ap (λ (ts : List Compared). all (p ts) (from 0 c.args.width)) (tests-three s.first.now s.second.now s.third.now s.want))
