-- Statements with names resolved: where the columns that a sentence names are known, those of its statement are inside the table. Assumes nothing.
use mathlib.Core.Path.{◌≡◌, refl, ap}
use mathlib.Core.List.{List, [], ◌∷◌, map}
use Prim.Native.Nat.{ℕ, suc, ◌+◌, ◌<◌, ◌≤◌}
use native.Mathlib.Omega.{arith}
use lib.ListN.{length}
use Rattle.lists.specs.Lists.{All, nil, cons}
use Rattle.lists.proofs.Lists.{All-head, All-tail, All-append, All-left, All-right, All-image}
use Rattle.meaning.specs.Condition.{Comparison, Level, Condition, compare, negate, group, alone, both, single, either, comparisons, sides, Where, always, under, operands_in}
use Rattle.meaning.specs.Tokens.{Name}
use Rattle.meaning.specs.Grammar as G
use Rattle.meaning.specs.Grammar.{Given, Term, given, Listed, last, next, items}
use Rattle.meaning.specs.Limits.{term_givens, term_columns, mark_in, mark_count}
use Rattle.meaning.specs.Names.{position}
use Rattle.meaning.specs.Statement.{Value, Operand, column, value, numbered_all, mark_in_term, settings, operand_of, resolved, resolved_where}

-- "No list is empty."
pub items-some : {A : Type 0} (l : Listed A) → 1 ≤ length (items l)
items-some (last x) = omega arith
items-some (next x l) = omega arith

-- a value for each constant or question mark
pub numbered-length : (m : ℕ) (vs : List Given) → length (numbered_all m vs) ≡ length vs
numbered-length m [] = refl
numbered-length m (v ∷ vs) = ap suc (numbered-length (m + mark_in v) vs)

-- a column of an operand is one of the first n
abbrev pub Within : ℕ → Operand → Type 0
Within n (column i) = i < n
Within n (value v) = Unit {0}

module _ {O : Type 0} (P : O → Type 0) where
  abbrev pub BothSides : Comparison O → Type 0
  BothSides c = P c.left × P c.right

  pub by-sides : (cs : List (Comparison O)) → All P (sides cs) → All BothSides cs
  by-sides [] h = nil
  by-sides (c ∷ cs) h = cons (All-head h, All-head (All-tail h)) (by-sides cs (All-tail (All-tail h)))

  pub to-sides : {cs : List (Comparison O)} → All BothSides cs → All P (sides cs)
  to-sides nil = nil
  to-sides (cons b h) = cons b.0 (cons b.1 (to-sides h))

module _ {C : Type 0} (place : C → ℕ) (width : ℕ) where
  abbrev Known : C → Type 0
  Known c = place c < width

  abbrev KnownTerm : Term C → Type 0
  KnownTerm (G.column n) = Known n
  KnownTerm (given v) = Unit {0}

  known-terms : (ts : List (Term C)) → All Known (term_columns ts) → All KnownTerm ts
  known-terms [] h = nil
  known-terms (G.column n ∷ ts) h = cons (All-head h) (known-terms ts (All-tail h))
  known-terms (given v ∷ ts) h = cons tt (known-terms ts h)

  abbrev Inside : Operand → Type 0
  Inside o = Within width o

  operand-inside : (m : ℕ) (t : Term C) → KnownTerm t → Inside (operand_of place m t)
  operand-inside m (G.column n) h = h
  operand-inside m (given v) h = tt

  resolved-inside : {l : Level} (m : ℕ) (c : Condition (Term C) l) → All (BothSides KnownTerm) (comparisons c)
      → All (BothSides Inside) (comparisons (resolved place m c))
  resolved-inside m (compare c) h =
      cons (operand-inside m c.left (All-head h).0, operand-inside (m + mark_in_term c.left) c.right (All-head h).1) nil
  resolved-inside m (negate c) h = resolved-inside m c h
  resolved-inside m (group c) h = resolved-inside m c h
  resolved-inside m (alone c) h = resolved-inside m c h
  resolved-inside m (both c d) h =
      All-append (resolved-inside m c (All-left (comparisons c) (comparisons d) h))
      (resolved-inside (m + mark_count (term_givens (sides (comparisons c)))) d (All-right (comparisons c) h))
  resolved-inside m (single c) h = resolved-inside m c h
  resolved-inside m (either c d) h =
      All-append (resolved-inside m c (All-left (comparisons c) (comparisons d) h))
      (resolved-inside (m + mark_count (term_givens (sides (comparisons c)))) d (All-right (comparisons c) h))

  -- the columns of a WHERE
  pub tested-inside : (m : ℕ) (w : Where (Term C)) → All (λ c. place c < width) (term_columns (operands_in w))
      → All (Within width) (operands_in (resolved_where place m w))
  tested-inside m always h = nil
  tested-inside m (under c) h = to-sides Inside (resolved-inside m c (by-sides KnownTerm (comparisons c) (known-terms (sides (comparisons c)) h)))

module _ (columns : List Name) where
  -- the columns of SET
  pub set-inside : (m : ℕ) (ss : List (Name × Given)) → All (λ c. position columns c < length columns) (map (λ (s : Name × Given). s.0) ss)
      → All (λ (s : ℕ × Value). s.0 < length columns) (settings columns m ss)
  set-inside m [] h = nil
  set-inside m (s ∷ ss) h = cons (All-head h) (set-inside (m + mark_in s.1) ss (All-tail h))

  -- the columns of SELECT
  pub selected-inside : (cs : List Name) → All (λ c. position columns c < length columns) cs
      → All (λ i. i < length columns) (map (position columns) cs)
  selected-inside cs h = All-image (position columns) h
