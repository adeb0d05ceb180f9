-- The claims of specs/Demand, all proved. Assumes nothing.
use mathlib.Core.Path.{refl, ap, ◌∙◌}
use Prim.Native.Nat.{zero, suc}
use native.Mathlib.Omega.{arith}
use borrow.Author.Tests.{le-ltb}
use Rattle.meaning.specs.Operator.{eq, ne, lt, le, gt, ge, Predicate, by, is-null, is-not-null, compared}
use Rattle.meaning.proofs.Clauses as M
use Rattle.statement.specs.Operators.{predicate_at, opposite_of}
use Rattle.statement.specs.Demand.{OppositeTwice, OppositeNegates, OppositeIsRule, NumbersStand, OthersStay, Demands}
use Rattle.statement.proofs.OperatorLaws.{predicate-back, opposite-is}

pub opposite_twice : OppositeTwice
unfolding opposite_of
opposite_twice zero h = refl
opposite_twice (suc zero) h = refl
opposite_twice (suc (suc zero)) h = refl
opposite_twice (suc (suc (suc zero))) h = refl
opposite_twice (suc (suc (suc (suc zero)))) h = refl
opposite_twice (suc (suc (suc (suc (suc zero))))) h = refl
opposite_twice (suc (suc (suc (suc (suc (suc zero)))))) h = refl
opposite_twice (suc (suc (suc (suc (suc (suc (suc zero))))))) h = refl
opposite_twice (suc (suc (suc (suc (suc (suc (suc (suc k)))))))) h = absurd (omega arith)

pub opposite_negates : OppositeNegates
opposite_negates k h a b = ap (λ (p : Predicate). compared p a b) (opposite-is k h) ∙ M.opposite_negates (predicate_at k) a b

pub opposite_is_rule : OppositeIsRule
unfolding opposite_of
opposite_is_rule (by eq) = refl
opposite_is_rule (by ne) = refl
opposite_is_rule (by lt) = refl
opposite_is_rule (by le) = refl
opposite_is_rule (by gt) = refl
opposite_is_rule (by ge) = refl
opposite_is_rule is-null = refl
opposite_is_rule is-not-null = refl

pub numbers_stand : NumbersStand
numbers_stand = predicate-back

pub others_stay : OthersStay
unfolding opposite_of
others_stay k h = rw (le-ltb k 8 h)

pub demands : Demands
demands = record {
  opposite_twice = opposite_twice;
  opposite_negates = opposite_negates;
  opposite_is_rule = opposite_is_rule;
  numbers_stand = numbers_stand;
  others_stay = others_stay;
}
