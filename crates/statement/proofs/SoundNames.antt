-- Names for a sentence of which a stored statement comes: those of the table and of its columns, at their places. And the limits, each by itself. Assumes nothing.
use mathlib.Core.Path.{◌≡◌, refl, sym, ap, ◌∙◌, subst}
use mathlib.Core.Bool.{Bool, true, false, not, ◌||◌}
use mathlib.Core.List.{List, [], ◌∷◌, ◌++◌, map}
use Prim.Native.Nat.{ℕ, ◌≤◌, ◌<◌}
use native.Mathlib.Omega.{arith}
use borrow.Author.Tests.{ltb-true, lt-ltb, le-ltb}
use lib.Dec.{ltb}
use lib.ListN.{length, get_or, length-map, get_or-map}
use Rattle.lists.specs.Lists.{All, cons, any, all, repeats}
use Rattle.lists.proofs.Bools.{and_left, and_right, and_both, or_left, or_right, not-false}
use Rattle.lists.proofs.Lists.{All-head, All-tail, All-map, any_false, any_none, any_append}
use Rattle.lists.proofs.Places.{All-at}
use Rattle.meaning.specs.Tokens.{Name, is_name}
use Rattle.meaning.specs.Grammar.{Listed, last, next, items, Sentence}
use Rattle.meaning.specs.Limits.{most_name, many_items, rows_outside, many_marks, many_comparisons, deep, long_name, big_constant, past_limit}
use Rattle.meaning.specs.Names.{Schema, no_schema, same_name, has, position, table_names, columns_of, missing}
use Rattle.meaning.proofs.Names.{has-position, position-is}
use Rattle.meaning.proofs.Resolve.{Columns, has-at, position_at, one_table, name-inside}
use Rattle.statement.specs.SoundTest.{TableFits, TablesFit}
use Rattle.statement.proofs.Stored.{all-of}

-- ---- tests of some and of both

pub or-none : (a b : Bool) → a ≡ false → b ≡ false → (a || b) ≡ false
or-none a b h k = ap (λ (x : Bool). x || b) h ∙ k

-- a list that is not empty
pub listed : {A : Type 0} (l : List A) → 1 ≤ length l → (L : Listed A) × (items L ≡ l)
listed [] h = absurd (omega arith)
listed (x ∷ []) h = (last x, refl)
listed (x ∷ y ∷ l) h =
    let r : (L : Listed _) × (items L ≡ y ∷ l) = listed (y ∷ l) (omega arith) in
    (next x r.0, ap (λ ys. x ∷ ys) r.1)

-- ---- the limits

pub record Limits (s : Sentence) : Type 0 where
  pub items_few : many_items s ≡ false
  pub rows_inside : rows_outside s ≡ false
  pub marks_few : many_marks s ≡ false
  pub comparisons_few : many_comparisons s ≡ false
  pub shallow : deep s ≡ false
  pub names_short : long_name s ≡ false
  pub constants_small : big_constant s ≡ false

pub limits-kept : (s : Sentence) → Limits s → past_limit s ≡ false
unfolding past_limit
limits-kept s L =
    or-none (many_items s) _ L.items_few
    (or-none (rows_outside s) _ L.rows_inside
    (or-none (many_marks s) _ L.marks_few
    (or-none (many_comparisons s) _ L.comparisons_few
    (or-none (deep s) _ L.shallow (or-none (long_name s) _ L.names_short L.constants_small)))))

pub limits_of : (s : Sentence) → past_limit s ≡ false → Limits s
unfolding past_limit
limits_of s h₀ =
    let h₁ = or_right (many_items s) _ h₀ in
    let h₂ = or_right (rows_outside s) _ h₁ in
    let h₃ = or_right (many_marks s) _ h₂ in
    let h₄ = or_right (many_comparisons s) _ h₃ in
    let h₅ = or_right (deep s) _ h₄ in
    record {
      items_few = or_left (many_items s) _ h₀;
      rows_inside = or_left (rows_outside s) _ h₁;
      marks_few = or_left (many_marks s) _ h₂;
      comparisons_few = or_left (many_comparisons s) _ h₃;
      shallow = or_left (deep s) _ h₄;
      names_short = or_left (long_name s) _ h₅;
      constants_small = or_right (long_name s) _ h₅;
    }

-- ---- names by their places

-- names that are there have what all that are there have
pub name-has : {P : Name → Type 0} {columns : List Name} → All P columns → (c : Name) → has columns c ≡ true → P c
name-has {P} {columns} a c k = subst P (position-is columns c [] k) (All-at (position columns c) [] (has-position columns c k) a)

pub known-have : {P : Name → Type 0} {columns : List Name} → All P columns → (cs : List Name) → any (λ (n : Name). not (has columns n)) cs ≡ false → All P cs
known-have {P} {columns} a cs h =
    All-map (λ c e. name-has a c (not-false (has columns c) e)) (any_false (λ (n : Name). not (has columns n)) cs h)

-- ---- columns by their places: of any kind, and those of one table

module _ {C : Type 0} (place : C → ℕ) (width : ℕ) (strange : C → Bool) where
  -- columns of which none is strange have their places
  pub places-below : ((c : C) → strange c ≡ false → place c < width) → (cs : List C) → any strange cs ≡ false → all (λ (i : ℕ). ltb i width) (map place cs) ≡ true
  places-below inside [] h = refl
  places-below inside (c ∷ cs) h =
      and_both (ltb (place c) width) _ (lt-ltb (place c) width (inside c (or_left (strange c) _ h))) (places-below inside cs (or_right (strange c) _ h))

  module _ (at : ℕ → C) (K : Columns place width strange at) where
    -- those at places are not strange, and have these places
    pub at-known : (is : List ℕ) → all (λ (i : ℕ). ltb i width) is ≡ true → any strange (map at is) ≡ false
    at-known [] h = refl
    at-known (i ∷ is) h =
        or-none (strange (at i)) _ (K.known i (ltb-true i width (and_left (ltb i width) _ h))) (at-known is (and_right (ltb i width) _ h))

    pub at_back : (is : List ℕ) → all (λ (i : ℕ). ltb i width) is ≡ true → map place (map at is) ≡ is
    at_back [] h = refl
    at_back (i ∷ is) h =
        λ k. K.there i (ltb-true i width (and_left (ltb i width) _ h)) k ∷ at_back is (and_right (ltb i width) _ h) k

module _ (columns : List Name) where
  abbrev pub names_at : List ℕ → List Name
  names_at is = map (λ (i : ℕ). get_or columns i []) is

  module _ (different : repeats same_name columns ≡ false) where
    pub names-known : (is : List ℕ) → all (λ (i : ℕ). ltb i (length columns)) is ≡ true → any (λ (n : Name). not (has columns n)) (names_at is) ≡ false
    names-known = at-known (position columns) (length columns) (λ (n : Name). not (has columns n)) (λ (i : ℕ). get_or columns i []) (one_table columns different)

    pub names-back : (is : List ℕ) → all (λ (i : ℕ). ltb i (length columns)) is ≡ true → map (position columns) (names_at is) ≡ is
    names-back = at_back (position columns) (length columns) (λ (n : Name). not (has columns n)) (λ (i : ℕ). get_or columns i []) (one_table columns different)

  pub positions-below : (cs : List Name) → any (λ (n : Name). not (has columns n)) cs ≡ false → all (λ (i : ℕ). ltb i (length columns)) (map (position columns) cs) ≡ true
  positions-below = places-below (position columns) (length columns) (λ (n : Name). not (has columns n)) (name-inside columns)

-- ---- the table at a place

module _ (ts : List Schema) (T : TablesFit ts) (i : ℕ) (h : i < length ts) where
  abbrev pub schema_at : Schema
  schema_at = get_or ts i no_schema

  pub there-fits : TableFits schema_at
  there-fits = All-at i no_schema h T.each

  name-at : get_or (table_names ts) i [] ≡ schema_at.name
  name-at = get_or-map (λ (t : Schema). t.name) ts i no_schema

  inside : i < length (table_names ts)
  inside = subst (λ n. i < n) (sym (length-map ts (λ (t : Schema). t.name))) h

  pub there_has : has (table_names ts) schema_at.name ≡ true
  there_has = ap (has (table_names ts)) (sym name-at) ∙ has-at (table_names ts) i [] inside

  pub there-place : position (table_names ts) schema_at.name ≡ i
  there-place = ap (position (table_names ts)) (sym name-at) ∙ position_at (table_names ts) i [] T.different inside

  pub there-columns : columns_of ts schema_at.name ≡ schema_at.columns
  there-columns = ap (λ j. (get_or ts j no_schema).columns) there-place

  -- a sentence of it names what there is
  pub there-known : (cs : List Name) → any (λ (n : Name). not (has schema_at.columns n)) cs ≡ false → missing ts schema_at.name cs ≡ false
  there-known cs k =
      or-none (not (has (table_names ts) schema_at.name)) _ (ap not there_has)
      (ap (λ columns. any (λ (n : Name). not (has columns n)) cs) there-columns ∙ k)

  -- its names are names
  pub there-named : (cs : List Name) → any (λ (n : Name). not (has schema_at.columns n)) cs ≡ false → all is_name (schema_at.name ∷ cs) ≡ true
  there-named cs k =
      let N : All (λ n. is_name n ≡ true) (schema_at.name ∷ schema_at.columns) = there-fits.names in
      all-of is_name (cons (All-head N) (known-have (All-tail N) cs k))

  -- of few bytes
  pub there-short : (cs : List Name) → any (λ (n : Name). not (has schema_at.columns n)) cs ≡ false
      → any (λ (n : Name). ltb most_name (length n)) (schema_at.name ∷ cs) ≡ false
  there-short cs k =
      let N : All (λ n. length n ≤ most_name) (schema_at.name ∷ schema_at.columns) = there-fits.short in
      let A : All (λ n. length n ≤ most_name) (schema_at.name ∷ cs) = cons (All-head N) (known-have (All-tail N) cs k) in
      any_none (λ (n : Name). ltb most_name (length n)) (All-map (λ n e. le-ltb most_name (length n) e) A)

-- names known one list after another
pub known-append : (columns cs ds : List Name) → any (λ (n : Name). not (has columns n)) cs ≡ false → any (λ (n : Name). not (has columns n)) ds ≡ false
    → any (λ (n : Name). not (has columns n)) (cs ++ ds) ≡ false
known-append columns cs ds h k = any_append (λ (n : Name). not (has columns n)) cs ds ∙ or-none _ _ h k
