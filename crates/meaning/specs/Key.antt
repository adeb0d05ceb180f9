-- Keys of kept answers: document 01, "Patterns", "A key is the question's number with up to eight values." Assumes nothing: these are definitions.
use Rattle.std.specs.Prelude.{◌≡◌, Bool, ◌&&◌, List, ℕ, T, eqb, ℤ}
use Rattle.std.proofs.Common.{subst, eqb→eq}
use mathlib.Core.HLevel.{Discrete}
use Rattle.std.proofs.Math.Dec.{eqb_refl}
use Rattle.lists.specs.Tests.{eq_z, eq_z→eq, eq_z-refl, eq_list, eq_list→eq, eq_list-refl, by_test, both-T, T-both}

pub record Key : Type 0 where
  pub query : ℕ
  pub values : List ℤ

-- the same number and the same values
abbrev pub is_key : Key → Key → Bool
is_key j k = eqb j.query k.query && eq_list eq_z j.values k.values

pub is_key→eq : (j k : Key) → T (is_key j k) → j ≡ k
is_key→eq j k t =
    let b = T-both (eqb j.query k.query) (eq_list eq_z j.values k.values) t in
    let n = eqb→eq j.query k.query b.0 in
    let v = eq_list→eq eq_z eq_z→eq j.values k.values b.1 in
    λ i. record { query = n i; values = v i }

pub is_key-refl : (k : Key) → T (is_key k k)
is_key-refl k = both-T (eqb k.query k.query) (eq_list eq_z k.values k.values) (eqb_refl k.query) (eq_list-refl eq_z eq_z-refl k.values)

abbrev pub same_key : Discrete Key
same_key j k = by_test (is_key j k) (is_key→eq j k) (λ e. subst (λ (l : Key). T (is_key j l)) e (is_key-refl j))
