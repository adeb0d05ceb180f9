-- A sentence within the limits is kept whole: its names have at most twelve bytes, its constants 32 bits; ROWS is a number of rows. Assumes nothing.
use mathlib.Core.Path.{◌≡◌, refl, sym, ap, ap₂, ◌∙◌}
use mathlib.Core.Bool.{Bool, true, false, not, ◌&&◌, ◌||◌, cond}
use mathlib.Core.List.{List, [], ◌∷◌, ◌++◌, map}
use Prim.Native.Nat.{◌≤◌}
use native.Mathlib.Omega.{arith}
use borrow.Author.Tests.{leb-true, ltb-false, le-ltb, le-leb}
use lib.Dec.{ltb, leb}
use lib.IntN.{ℤ, pos, negsuc, nat_abs}
use lib.Signed.{le_z}
use lib.ListN.{length}
use lib.Seq.{take_all}
use Rattle.lists.specs.Lists.{any}
use Rattle.lists.proofs.Bools.{or_left, or_right, not-false, clash, and_left, and_right, or_assoc}
use Rattle.lists.proofs.Lists.{any_append, map-append}
use Rattle.meaning.specs.Condition as Q
use Rattle.meaning.specs.Condition.{Optional, Where, mapped_in, sides, operands_in}
use Rattle.meaning.specs.Postfix.{Node, leaf, all_of, any_of, leaves}
use Rattle.meaning.specs.Tokens.{Name}
use Rattle.meaning.specs.Grammar.{Given, constant, mark, Term, column, given, Test, comparison, Dotted, Listed, items, Sentence, pair}
use Rattle.meaning.specs.Limits.{table_named, further_tables, list_columns, list_givens, where_of, term_columns, term_givens, is_within32, outside32, many_items, rows_outside, many_marks, many_comparisons, deep, long_name, big_constant, past_limit}
use Rattle.meaning.proofs.Dotted.{bare-givens, bare-columns}
use Rattle.token.specs.declared.Kind.TheVariants.{Constant, Big}
use Rattle.statement.specs.Private.Built.{short_name, short_given, short_column, short_term, short_nodes, rows_as}

abbrev pub is_long : Name → Bool
is_long n = ltb 12 (length n)

-- ---- what is within the limits

module _ (x : Sentence) (h : past_limit x ≡ false) where
  unrowed : (rows_outside x || (many_marks x || (many_comparisons x || (deep x || (long_name x || big_constant x))))) ≡ false
  unfolding past_limit
  unrowed = or_right (many_items x) _ h

  pub inside-rows : rows_outside x ≡ false
  inside-rows = or_left (rows_outside x) _ unrowed

  named : (long_name x || big_constant x) ≡ false
  named = or_right (deep x) _ (or_right (many_comparisons x) _ (or_right (many_marks x) _ (or_right (rows_outside x) _ unrowed)))

  names : (is_long (table_named x) || any is_long (further_tables x ++ (list_columns x ++ term_columns (operands_in (where_of x))))) ≡ false
  names = or_left (long_name x) (big_constant x) named

  further : (any is_long (further_tables x) || any is_long (list_columns x ++ term_columns (operands_in (where_of x)))) ≡ false
  further = sym (any_append is_long (further_tables x) (list_columns x ++ term_columns (operands_in (where_of x)))) ∙ or_right (is_long (table_named x)) _ names

  columns : (any is_long (list_columns x) || any is_long (term_columns (operands_in (where_of x)))) ≡ false
  columns = sym (any_append is_long (list_columns x) (term_columns (operands_in (where_of x)))) ∙ or_right (any is_long (further_tables x)) _ further

  values : (any outside32 (list_givens x) || any outside32 (term_givens (operands_in (where_of x)))) ≡ false
  values = sym (any_append outside32 (list_givens x) (term_givens (operands_in (where_of x)))) ∙ or_right (long_name x) (big_constant x) named

  pub short-table : is_long (table_named x) ≡ false
  short-table = or_left (is_long (table_named x)) _ names

  pub short-further : any is_long (further_tables x) ≡ false
  short-further = or_left (any is_long (further_tables x)) _ further

  pub short-listed : any is_long (list_columns x) ≡ false
  short-listed = or_left (any is_long (list_columns x)) _ columns

  pub short-tested : any is_long (term_columns (operands_in (where_of x))) ≡ false
  short-tested = or_right (any is_long (list_columns x)) _ columns

  pub within-listed : any outside32 (list_givens x) ≡ false
  within-listed = or_left (any outside32 (list_givens x)) _ values

  pub within-tested : any outside32 (term_givens (operands_in (where_of x))) ≡ false
  within-tested = or_right (any outside32 (list_givens x)) _ values

-- ---- of a question over two tables

abbrev pub is_long_dotted : Dotted → Bool
is_long_dotted c = is_long c.0 || is_long c.1

-- both names of some dotted columns
dotted-short : (xs : List Dotted) → any is_long (map (λ (c : Dotted). c.0) xs) ≡ false → any is_long (map (λ (c : Dotted). c.1) xs) ≡ false → any is_long_dotted xs ≡ false
dotted-short [] h k = refl
dotted-short (c ∷ xs) h k =
    let a : is_long c.0 ≡ false = or_left (is_long c.0) _ h in
    let b : is_long c.1 ≡ false = or_left (is_long c.1) _ k in
    let r : any is_long_dotted xs ≡ false = dotted-short xs (or_right (is_long c.0) _ h) (or_right (is_long c.1) _ k) in
    λ i. (a i || b i) || r i

module _ (cs : Listed Dotted) (t u : Name) (v : Optional (Test Dotted)) (h : past_limit (pair cs t u v) ≡ false) where
  abbrev x : Sentence
  x = pair cs t u v

  abbrev w : Where (Term Dotted)
  w = mapped_in comparison v

  abbrev first : Dotted → Name
  first c = c.0

  pub short-second : is_long u ≡ false
  short-second = or_left (is_long u) _ (short-further x h)

  tables : (any is_long (map first (items cs)) || any is_long (map first (term_columns (operands_in w)))) ≡ false
  tables =
      sym (ap (any is_long) (map-append first (items cs) (term_columns (operands_in w))) ∙ any_append is_long (map first (items cs)) (map first (term_columns (operands_in w))))
      ∙ or_right (is_long u) _ (short-further x h)

  pub dotted-listed : any is_long_dotted (items cs) ≡ false
  dotted-listed = dotted-short (items cs) (or_left (any is_long (map first (items cs))) _ tables) (short-listed x h)

  pub dotted-tested : any is_long_dotted (term_columns (operands_in w)) ≡ false
  dotted-tested =
      dotted-short (term_columns (operands_in w)) (or_right (any is_long (map first (items cs))) _ tables) (sym (ap (any is_long) (bare-columns w)) ∙ short-tested x h)

  pub dotted-within : any outside32 (term_givens (operands_in w)) ≡ false
  dotted-within = sym (ap (any outside32) (bare-givens w)) ∙ within-tested x h

-- ---- is kept whole

pub whole-name : (n : Name) → is_long n ≡ false → short_name n ≡ n
whole-name n h = take_all 12 n (ltb-false 12 (length n) h)

pub whole-dotted : (c : Dotted) → is_long_dotted c ≡ false → short_column true c ≡ c
whole-dotted c h =
    let a : short_name c.0 ≡ c.0 = whole-name c.0 (or_left (is_long c.0) (is_long c.1) h) in
    let b : short_name c.1 ≡ c.1 = whole-name c.1 (or_right (is_long c.0) (is_long c.1) h) in
    λ i. (a i, b i)

pub whole-given : (v : Given) → outside32 v ≡ false → short_given v ≡ v
whole-given (constant z) h = ap (λ (b : Bool). constant (cond b z (pos 0))) (not-false (is_within32 z) h)
whole-given mark h = refl

pub whole-givens : (vs : List Given) → any outside32 vs ≡ false → map short_given vs ≡ vs
whole-givens [] h = refl
whole-givens (v ∷ vs) h = ap₂ ◌∷◌ (whole-given v (or_left (outside32 v) (any outside32 vs) h)) (whole-givens vs (or_right (outside32 v) (any outside32 vs) h))

-- the first of some terms, and the others
pub columns-cons : {C : Type 0} (p : C → Bool) (t : Term C) (ts : List (Term C)) → any p (term_columns (t ∷ ts)) ≡ (any p (term_columns (t ∷ [])) || any p (term_columns ts))
columns-cons p (column n) ts = or_assoc (p n) false (any p (term_columns ts))
columns-cons p (given v) ts = refl

givens-cons : {C : Type 0} (p : Given → Bool) (t : Term C) (ts : List (Term C)) → any p (term_givens (t ∷ ts)) ≡ (any p (term_givens (t ∷ [])) || any p (term_givens ts))
givens-cons p (column n) ts = refl
givens-cons p (given v) ts = or_assoc (p v) false (any p (term_givens ts))

-- a column that is not `long` is kept whole
module _ {C : Type 0} (short : C → C) (long : C → Bool) (whole : (c : C) → long c ≡ false → short c ≡ c) where
  pub whole-columns : (cs : List C) → any long cs ≡ false → map short cs ≡ cs
  whole-columns [] h = refl
  whole-columns (c ∷ cs) h = ap₂ ◌∷◌ (whole c (or_left (long c) (any long cs) h)) (whole-columns cs (or_right (long c) (any long cs) h))

  whole-term : (t : Term C) → any long (term_columns (t ∷ [])) ≡ false → any outside32 (term_givens (t ∷ [])) ≡ false → short_term short t ≡ t
  whole-term (column c) h k = ap column (whole c (or_left (long c) false h))
  whole-term (given v) h k = ap given (whole-given v (or_left (outside32 v) false k))

  pub whole-nodes : (ns : List (Node (Term C))) → any long (term_columns (sides (leaves ns))) ≡ false → any outside32 (term_givens (sides (leaves ns))) ≡ false → short_nodes short ns ≡ ns
  whole-nodes [] h k = refl
  whole-nodes (all_of ∷ ns) h k = ap (λ (xs : List (Node (Term C))). all_of ∷ xs) (whole-nodes ns h k)
  whole-nodes (any_of ∷ ns) h k = ap (λ (xs : List (Node (Term C))). any_of ∷ xs) (whole-nodes ns h k)
  whole-nodes (leaf c ∷ ns) h k =
      let os : List (Term C) = sides (leaves ns) in
      let h₁ = sym (columns-cons long c.left (c.right ∷ os)) ∙ h in
      let k₁ = sym (givens-cons outside32 c.left (c.right ∷ os)) ∙ k in
      let h₂ = sym (columns-cons long c.right os) ∙ or_right (any long (term_columns (c.left ∷ []))) _ h₁ in
      let k₂ = sym (givens-cons outside32 c.right os) ∙ or_right (any outside32 (term_givens (c.left ∷ []))) _ k₁ in
      let a : short_term short c.left ≡ c.left = whole-term c.left (or_left (any long (term_columns (c.left ∷ []))) _ h₁) (or_left (any outside32 (term_givens (c.left ∷ []))) _ k₁) in
      let b : short_term short c.right ≡ c.right = whole-term c.right (or_left (any long (term_columns (c.right ∷ []))) _ h₂) (or_left (any outside32 (term_givens (c.right ∷ []))) _ k₂) in
      ap₂ (λ (d : Q.Comparison (Term C)) (xs : List (Node (Term C))). leaf d ∷ xs) (λ i. record { left = a i; op = c.op; right = b i })
      (whole-nodes ns (or_right (any long (term_columns (c.right ∷ []))) _ h₂) (or_right (any outside32 (term_givens (c.right ∷ []))) _ k₂))

-- ROWS
pub whole-rows : (z : ℤ) → (not (le_z (pos 1) z && le_z z (pos 512)) || false) ≡ false → rows_as (cond (is_within32 z) (Constant z) Big) ≡ nat_abs z
whole-rows (pos n) h =
    let k : (leb 1 n && leb n 512) ≡ true = not-false (leb 1 n && leb n 512) (or_left (not (leb 1 n && leb n 512)) false h) in
    let a : 1 ≤ n = leb-true 1 n (and_left (leb 1 n) (leb n 512) k) in
    let b : n ≤ 512 = leb-true n 512 (and_right (leb 1 n) (leb n 512) k) in
    rw (le-leb n 2147483647 (omega arith)) (rw (le-ltb n 1 a, le-ltb 512 n b))
whole-rows (negsuc n) h = clash refl h
