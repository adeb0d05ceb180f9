-- That two names are the same is an equivalence: what `==` on names needs. Assumes nothing.
use Rattle.std.specs.Prelude.{◌≡◌, Bool, true, false, ℕ, List, T, eqb}
use Rattle.std.proofs.Common.{refl, sym, subst, eqb→eq}
use Rattle.std.proofs.Math.Dec.{eqb_refl}
use Rattle.std.specs.Cmp.{IsPartialEquivalence, both_ways}
use Rattle.lists.specs.Tests.{eq_list→eq, eq_list-refl}
use Rattle.meaning.specs.Names.{same_name}
use Rattle.statement.specs.declared.Name.{Name}
use Rattle.statement.specs.Catalog.{name_of_struct}

is_true : (b : Bool) → T b → b ≡ true
is_true true t = refl
is_true false t = absurd t

same-is : (m n : List ℕ) → same_name m n ≡ true → m ≡ n
same-is m n h = eq_list→eq eqb eqb→eq m n (subst T (sym h) tt)

same_self : (n : List ℕ) → same_name n n ≡ true
same_self n = is_true (same_name n n) (eq_list-refl eqb eqb_refl n)

same-turned : (m n : List ℕ) → same_name m n ≡ true → same_name n m ≡ true
same-turned m n h = subst (λ (x : List ℕ). same_name x m ≡ true) (same-is m n h) (same_self m)

pub same-sym : (m n : List ℕ) → same_name m n ≡ same_name n m
same-sym m n = both_ways (same_name m n) (same_name n m) (same-turned m n) (same-turned n m)

pub same_laws : IsPartialEquivalence (λ (a b : Name). same_name (name_of_struct a) (name_of_struct b))
same_laws = record {
  symm = λ a b. same-sym (name_of_struct a) (name_of_struct b);
  trans = λ a b c p q. subst (λ (n : List ℕ). same_name n (name_of_struct c) ≡ true) (sym (same-is (name_of_struct a) (name_of_struct b) p)) q;
}
