-- Questions over two tables: the place of a dotted column among the columns of both, and what their WHERE holds with bare columns. Assumes nothing.
use mathlib.Core.Path.{◌≡◌, refl, ap, ◌∙◌}
use mathlib.Core.Bool.{Bool, true, false, not, ◌||◌, cond, false≢true}
use mathlib.Core.List.{List, [], ◌∷◌, map}
use Prim.Native.Nat.{◌+◌, ◌<◌}
use native.Mathlib.Omega.{arith}
use borrow.Author.Tests.{lt-leb, le-leb}
use lib.Dec.{leb}
use lib.ListN.{length}
use Rattle.lists.specs.Lists.{All, any}
use Rattle.lists.proofs.Bools.{not-false, and_right}
use Rattle.lists.proofs.Lists.{All-map, any_false}
use Rattle.meaning.specs.Condition.{Where, operands_in, replaced_in}
use Rattle.meaning.specs.Tokens.{Name}
use Rattle.meaning.specs.Grammar.{Given, Term, column, given, Dotted}
use Rattle.meaning.specs.Limits.{bare_term, term_givens, term_columns}
use Rattle.meaning.specs.Names.{same_name, has, position, is_of, pair_place}
use Rattle.meaning.proofs.Names.{has-position}
use Rattle.meaning.proofs.Clauses.{operands-replaced}

-- ---- a dotted column of a question over two tables

module _ (t : Name) (cs : List Name) (u : Name) (ds : List Name) where
  -- of one of the two tables it has its place among the columns of both
  pub pair_inside : (c : Dotted) → (is_of t cs c || is_of u ds c) ≡ true → pair_place t cs u ds c < length cs + length ds
  pair_inside c h = go (is_of t cs c) (is_of u ds c) refl refl h
    where
      go : (a b : Bool) → is_of t cs c ≡ a → is_of u ds c ≡ b → (a || b) ≡ true
          → cond a (position cs c.1) (cond b (length cs + position ds c.1) (length cs + length ds)) < length cs + length ds
      go true b e f h = let i : position cs c.1 < length cs = has-position cs c.1 (and_right (same_name c.0 t) (has cs c.1) e) in omega arith
      go false true e f h = let i : position ds c.1 < length ds = has-position ds c.1 (and_right (same_name c.0 u) (has ds c.1) f) in omega arith
      go false false e f h = absurd (false≢true h)

  -- and else its place is past them
  pub pair-past : (c : Dotted) → leb (length cs + length ds) (pair_place t cs u ds c) ≡ not (is_of t cs c || is_of u ds c)
  pair-past c = go (is_of t cs c) (is_of u ds c) refl refl
    where
      go : (a b : Bool) → is_of t cs c ≡ a → is_of u ds c ≡ b
          → leb (length cs + length ds) (cond a (position cs c.1) (cond b (length cs + position ds c.1) (length cs + length ds))) ≡ not (a || b)
      go true b e f =
          let i : position cs c.1 < length cs = has-position cs c.1 (and_right (same_name c.0 t) (has cs c.1) e) in
          lt-leb (length cs + length ds) (position cs c.1) (omega arith)
      go false true e f =
          let i : position ds c.1 < length ds = has-position ds c.1 (and_right (same_name c.0 u) (has ds c.1) f) in
          lt-leb (length cs + length ds) (length cs + position ds c.1) (omega arith)
      go false false e f = le-leb (length cs + length ds) (length cs + length ds) (omega arith)

  pub all-of-pair : (xs : List Dotted) → any (λ (c : Dotted). not (is_of t cs c || is_of u ds c)) xs ≡ false → All (λ c. pair_place t cs u ds c < length cs + length ds) xs
  all-of-pair xs h =
      All-map (λ c e. pair_inside c (not-false (is_of t cs c || is_of u ds c) e)) (any_false (λ (c : Dotted). not (is_of t cs c || is_of u ds c)) xs h)

-- ---- a WHERE of it with bare columns has the same constants and question marks, and the names of its columns

givens-bare : (ts : List (Term Dotted)) → term_givens (map bare_term ts) ≡ term_givens ts
givens-bare [] = refl
givens-bare (column c ∷ ts) = givens-bare ts
givens-bare (given v ∷ ts) = ap (λ (vs : List Given). v ∷ vs) (givens-bare ts)

columns-bare : (ts : List (Term Dotted)) → term_columns (map bare_term ts) ≡ map (λ (c : Dotted). c.1) (term_columns ts)
columns-bare [] = refl
columns-bare (column c ∷ ts) = ap (λ (ns : List Name). c.1 ∷ ns) (columns-bare ts)
columns-bare (given v ∷ ts) = columns-bare ts

pub bare-givens : (w : Where (Term Dotted)) → term_givens (operands_in (replaced_in bare_term w)) ≡ term_givens (operands_in w)
bare-givens w = ap term_givens (operands-replaced bare_term w) ∙ givens-bare (operands_in w)

pub bare-columns : (w : Where (Term Dotted)) → term_columns (operands_in (replaced_in bare_term w)) ≡ map (λ (c : Dotted). c.1) (term_columns (operands_in w))
bare-columns w = ap term_columns (operands-replaced bare_term w) ∙ columns-bare (operands_in w)
