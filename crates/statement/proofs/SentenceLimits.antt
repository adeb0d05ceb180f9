-- A sentence is past a limit exactly if one of its parts is by itself, or there are too many items, question marks or comparisons. Assumes nothing.
use mathlib.Core.Path.{◌≡◌, refl, sym, ap, ap₂, ◌∙◌}
use mathlib.Core.Bool.{Bool, true, false, ◌||◌, or_comm, or_assoc, or-false, or_self}
use mathlib.Core.List.{List, [], ◌∷◌, ◌++◌, map, map-append}
use Prim.Native.Nat.{ℕ, ◌+◌, ◌/◌, ◌<◌, max}
use native.Mathlib.Nat.{add-zero, zero-add}
use native.Mathlib.Omega.{arith}
use borrow.Author.Tests.{ltb-true, ltb-false, lt-ltb}
use lib.Dec.{ltb}
use lib.ListN.{length, length-map}
use Rattle.lists.specs.Lists.{any}
use Rattle.lists.proofs.Lists.{any_append}
use Rattle.meaning.specs.Condition.{Comparison, Level, Condition, compare, negate, group, alone, both, single, either, Optional, Where, always, under, mapped_in, comparisons, sides, comparisons_in, operands_in, depth, depth_in, atom, renamed, replaced_in}
use Rattle.meaning.specs.Postfix.{nodes_in}
use Rattle.meaning.specs.Tokens.{Name}
use Rattle.meaning.specs.Grammar.{Term, column, given, Test, comparison, Listed, Dotted, items, Sentence, table, select, pair, insert, update, delete}
use Rattle.meaning.specs.Limits.{most_items, most_marks, most_comparisons, most_depth, table_named, list_columns, list_givens, bare_term, where_of, columns_named, further_tables, deep, long_name, big_constant, term_givens, term_columns, givens, mark_count, outside32, rows_outside, many_items, many_marks, many_comparisons, past_limit}
use Rattle.meaning.proofs.Clauses.{replaced, comparisons-replaced, depth-replaced}
use Rattle.meaning.proofs.Postfix.{nodes-count}
use Rattle.meaning.proofs.Dotted.{bare-givens, bare-columns}
use Rattle.statement.specs.Private.Reading.{Operand, long_column, term_past, condition_past}
use Rattle.statement.specs.Private.Sentences.{is_long_name, parts_of, list_past, where_past, list_length}

-- ---- Booleans and tests of numbers

pub or-left-comm : (a b c : Bool) → (a || (b || c)) ≡ (b || (a || c))
or-left-comm true true c = refl
or-left-comm true false c = refl
or-left-comm false b c = refl

-- in any order
pub ruleset sorted = (or_assoc, or_comm, or-left-comm)

pub same_test : (a b c d : ℕ) → (a < b → c < d) → (c < d → a < b) → ltb a b ≡ ltb c d
same_test a b c d f g = go (ltb a b) refl
  where
    go : (t : Bool) → ltb a b ≡ t → ltb a b ≡ ltb c d
    go true e = e ∙ sym (lt-ltb c d (f (ltb-true a b e)))
    go false e = e ∙ sym (by (ltb c d) refl)
      where
        by : (t : Bool) → ltb c d ≡ t → ltb c d ≡ false
        by true q = absurd (let h = g (ltb-true c d q) in let k = ltb-false a b e in omega arith)
        by false q = q

more-than-max : (n d a b : ℕ) → ltb n (d + max a b) ≡ (ltb n (d + a) || ltb n (d + b))
more-than-max n d a b = go (ltb n (d + a)) refl
  where
    go : (t : Bool) → ltb n (d + a) ≡ t → ltb n (d + max a b) ≡ (ltb n (d + a) || ltb n (d + b))
    go true e = let h = ltb-true n (d + a) e in lt-ltb n (d + max a b) (omega arith) ∙ rw e
    go false e = let h = ltb-false n (d + a) e in same_test n (d + max a b) n (d + b) (λ k. omega arith) (λ k. omega arith) ∙ rw e

-- ---- conditions

-- the comparisons of a condition, from its nodes
pub nodes-compared : {C : Type 0} (w : Where (Term C)) → (length (nodes_in w) + 1) / 2 ≡ length (comparisons_in w)
nodes-compared always = refl
nodes-compared (under t) = omega (arith, nodes-count true t)

pub sides-append : {O : Type 0} (cs ds : List (Comparison O)) → sides (cs ++ ds) ≡ sides cs ++ sides ds
sides-append [] ds = refl
sides-append (c ∷ cs) ds = ap (λ ts. c.left ∷ c.right ∷ ts) (sides-append cs ds)

pub columns-append : {C : Type 0} (ts us : List (Term C)) → term_columns (ts ++ us) ≡ term_columns ts ++ term_columns us
columns-append [] us = refl
columns-append (column n ∷ ts) us = ap (λ ns. n ∷ ns) (columns-append ts us)
columns-append (given v ∷ ts) us = columns-append ts us

pub givens-append : {C : Type 0} (ts us : List (Term C)) → term_givens (ts ++ us) ≡ term_givens ts ++ term_givens us
givens-append [] us = refl
givens-append (column n ∷ ts) us = givens-append ts us
givens-append (given v ∷ ts) us = ap (λ vs. v ∷ vs) (givens-append ts us)

-- a name or a constant of some operands is past a limit
abbrev terms_past : (b : Bool) → List (Operand b) → Bool
terms_past b ts = any (long_column b) (term_columns ts) || any outside32 (term_givens ts)

terms-append : (b : Bool) (ts us : List (Operand b)) → terms_past b (ts ++ us) ≡ (terms_past b ts || terms_past b us)
terms-append b ts us = simp (columns-append, givens-append, any_append, sorted)

two-terms : (b : Bool) (t u : Operand b) → terms_past b (t ∷ u ∷ []) ≡ (term_past b t || term_past b u)
two-terms b (column m) (column n) = simp (sorted, or-false)
two-terms b (column m) (given v) = simp sorted
two-terms b (given v) (column n) = simp sorted
two-terms b (given v) (given w) = simp sorted

-- a condition under d more parentheses and NOTs, by its depth and its operands
abbrev many_or_past : (b : Bool) → ℕ → List (Comparison (Operand b)) → Bool
many_or_past b n cs = ltb most_depth n || terms_past b (sides cs)

joins : (q : Bool) (d a b : ℕ) (cs ds : List (Comparison (Operand q))) → (many_or_past q (d + a) cs || many_or_past q (d + b) ds) ≡ many_or_past q (d + max a b) (cs ++ ds)
joins q d a b cs ds = simp (more-than-max, sides-append, terms-append, sorted)

pub condition-past : (b : Bool) {l : Level} (d : ℕ) (t : Condition (Operand b) l) → condition_past b d t ≡ many_or_past b (d + depth t) (comparisons t)
condition-past b d (compare c) = rw (add-zero d, two-terms b c.left c.right)
condition-past b d (negate t) = condition-past b (d + 1) t ∙ deeper d t
  where
    deeper : (d : ℕ) (t : Condition (Operand b) atom) → many_or_past b (d + 1 + depth t) (comparisons t) ≡ many_or_past b (d + (depth t + 1)) (comparisons t)
    deeper d t = let e : d + 1 + depth t ≡ d + (depth t + 1) = omega arith in rw e
condition-past b d (group t) = condition-past b (d + 1) t ∙ (let e : d + 1 + depth t ≡ d + (depth t + 1) = omega arith in rw e)
condition-past b d (alone t) = condition-past b d t
condition-past b d (both t u) = rw (condition-past b d t, condition-past b d u) (joins b d (depth t) (depth u) (comparisons t) (comparisons u))
condition-past b d (single t) = condition-past b d t
condition-past b d (either t u) = rw (condition-past b d t, condition-past b d u) (joins b d (depth t) (depth u) (comparisons t) (comparisons u))

where-past : (b : Bool) (w : Where (Operand b)) → where_past b w ≡ (ltb most_depth (depth_in w) || terms_past b (operands_in w))
where-past b always = refl
where-past b (under t) = condition-past b 0 t ∙ rw (zero-add (depth t))

-- ---- a WHERE of a question over two tables (A.1), beside that of its columns alone

module _ {O P : Type 0} (f : O → P) where
  pub nodes-replaced : (w : Where O) → length (nodes_in (replaced_in f w)) ≡ length (nodes_in w)
  nodes-replaced always = refl
  nodes-replaced (under c) = omega (arith, nodes-count true (replaced f c), nodes-count true c, ap length (comparisons-replaced f c), length-map (comparisons c) (renamed f))

  depth-where : (w : Where O) → depth_in (replaced_in f w) ≡ depth_in w
  depth-where always = refl
  depth-where (under c) = depth-replaced f c

-- both names of some dotted columns
abbrev either_long : List Dotted → Bool
either_long xs = any is_long_name (map (λ (c : Dotted). c.0) xs) || any is_long_name (map (λ (c : Dotted). c.1) xs)

shuffle : (a b p q : Bool) → (a || (b || (p || q))) ≡ ((a || p) || (b || q))
shuffle a b p q = simp sorted

long-parts : (xs : List Dotted) → any is_long_name (parts_of xs) ≡ either_long xs
long-parts [] = refl
long-parts (x ∷ xs) = ap (λ z. is_long_name x.0 || (is_long_name x.1 || z)) (long-parts xs) ∙ shuffle (is_long_name x.0) (is_long_name x.1) _ _

shuffle-two : (a b p q : Bool) → ((a || b) || (p || q)) ≡ ((a || p) || (b || q))
shuffle-two a b p q = simp sorted

long-columns : (xs : List Dotted) → any (long_column true) xs ≡ either_long xs
long-columns [] = refl
long-columns (x ∷ xs) = ap (λ z. (is_long_name x.0 || is_long_name x.1) || z) (long-columns xs) ∙ shuffle-two (is_long_name x.0) (is_long_name x.1) _ _

-- ---- sentences

-- past a limit by a name, a constant or the depth
abbrev plain_past : Sentence → Bool
plain_past x = is_long_name (table_named x) || (list_past (list_columns x) (list_givens x) || (rows_outside x || where_past false (where_of x)))

abbrev pub own_past : Sentence → Bool
own_past (table t cs ring z) = plain_past (table t cs ring z)
own_past (select cs t w) = plain_past (select cs t w)
own_past (pair cs t u w) = is_long_name t || (is_long_name u || (list_past (parts_of (items cs)) [] || where_past true (mapped_in comparison w)))
own_past (insert t vs) = plain_past (insert t vs)
own_past (update t ss w) = plain_past (update t ss w)
own_past (delete t w) = plain_past (delete t w)

many-items : (x : Sentence) → many_items x ≡ ltb most_items (list_length x)
many-items (table t cs ring z) = or-false _
many-items (select cs t w) = or-false _
many-items (pair cs t u w) = simp (length-map, or-false)
many-items (insert t vs) = refl
many-items (update t ss w) = simp (length-map, or_self)
many-items (delete t w) = refl

module _ (items rows marks compared deep named columns values tested asked : Bool) where
  in_order : (items || (rows || (marks || (compared || (deep || ((named || (columns || tested)) || (values || asked)))))))
      ≡ ((named || ((columns || values) || (rows || (deep || (tested || asked))))) || (items || (marks || compared)))
  in_order = simp sorted

module _ (items marks compared deep first second tables columns further tested asked : Bool) where
  in-order-pair : (items || (marks || (compared || (deep || ((first || (second || ((tables || further) || (columns || tested)))) || asked)))))
      ≡ ((first || (second || (((tables || columns) || false) || (deep || ((further || tested) || asked))))) || (items || (marks || compared)))
  in-order-pair = simp sorted

-- too many of something
abbrev too_many : Sentence → Bool
too_many x = ltb most_items (list_length x) || (ltb most_marks (mark_count (givens x)) || ltb most_comparisons ((length (nodes_in (where_of x)) + 1) / 2))

compared_is : (x : Sentence) → many_comparisons x ≡ ltb most_comparisons ((length (nodes_in (where_of x)) + 1) / 2)
compared_is x = ap (ltb most_comparisons) (sym (nodes-compared (where_of x)))

-- with one table
past-plain : (x : Sentence) → further_tables x ≡ [] → past_limit x ≡ (plain_past x || too_many x)
unfolding past_limit
past-plain x e =
    let w = where_of x in
    let long : long_name x ≡ (is_long_name (table_named x) || (any is_long_name (list_columns x) || any is_long_name (term_columns (operands_in w)))) =
    ap (λ fs. is_long_name (table_named x) || any is_long_name (fs ++ columns_named x)) e
    ∙ ap (λ b. is_long_name (table_named x) || b) (any_append is_long_name (list_columns x) (term_columns (operands_in w))) in
    let big : big_constant x ≡ (any outside32 (list_givens x) || any outside32 (term_givens (operands_in w))) = any_append outside32 (list_givens x) (term_givens (operands_in w)) in
    (λ i. many-items x i || (rows_outside x || (many_marks x || (compared_is x i || (deep x || (long i || big i))))))
    ∙ in_order (ltb most_items (list_length x)) (rows_outside x) (many_marks x) (ltb most_comparisons ((length (nodes_in w) + 1) / 2)) (deep x) (is_long_name (table_named x))
    (any is_long_name (list_columns x)) (any outside32 (list_givens x)) (any is_long_name (term_columns (operands_in w))) (any outside32 (term_givens (operands_in w)))
    ∙ ap (λ b. (is_long_name (table_named x) || (list_past (list_columns x) (list_givens x) || (rows_outside x || b))) || too_many x) (sym (where-past false w))

-- with two (A.1)
module _ (cs : Listed Dotted) (t u : Name) (v : Optional (Test Dotted)) where
  abbrev x : Sentence
  x = pair cs t u v

  abbrev w : Where (Term Dotted)
  w = mapped_in comparison v

  abbrev tables : List Dotted → List Name
  tables ds = map (λ (c : Dotted). c.0) ds

  abbrev columns : List Dotted → List Name
  columns ds = map (λ (c : Dotted). c.1) ds

  all-long : long_name x
      ≡ (is_long_name t || (is_long_name u || ((any is_long_name (tables (items cs)) || any is_long_name (tables (term_columns (operands_in w)))) || (any is_long_name (columns (items cs)) || any is_long_name (columns (term_columns (operands_in w)))))))
  all-long =
      ap (λ b. is_long_name t || (is_long_name u || b))
      (any_append is_long_name (tables (items cs ++ term_columns (operands_in w))) (columns_named x)
      ∙ ap₂ (λ a b. a || b)
      (ap (any is_long_name) (map-append (λ (c : Dotted). c.0) (items cs) (term_columns (operands_in w))) ∙ any_append is_long_name (tables (items cs)) (tables (term_columns (operands_in w))))
      (any_append is_long_name (columns (items cs)) (term_columns (operands_in (where_of x))) ∙ ap (λ ns. any is_long_name (columns (items cs)) || any is_long_name ns) (bare-columns w)))

  own_is : own_past x
      ≡ (is_long_name t || (is_long_name u || (((any is_long_name (tables (items cs)) || any is_long_name (columns (items cs))) || false)
      || (ltb most_depth (depth_in w) || ((any is_long_name (tables (term_columns (operands_in w))) || any is_long_name (columns (term_columns (operands_in w)))) || any outside32 (term_givens (operands_in w)))))))
  own_is =
      ap₂ (λ a b. is_long_name t || (is_long_name u || ((a || false) || b))) (long-parts (items cs))
      (where-past true w ∙ ap (λ b. ltb most_depth (depth_in w) || (b || any outside32 (term_givens (operands_in w)))) (long-columns (term_columns (operands_in w))))

  past-pair : past_limit x ≡ (own_past x || too_many x)
  unfolding past_limit
  past-pair =
      let deep_is : deep x ≡ ltb most_depth (depth_in w) = ap (ltb most_depth) (depth-where bare_term w) in
      let big : big_constant x ≡ any outside32 (term_givens (operands_in w)) = ap (any outside32) (bare-givens w) in
      (λ i. many-items x i || (many_marks x || (compared_is x i || (deep_is i || (all-long i || big i)))))
      ∙ in-order-pair (ltb most_items (list_length x)) (many_marks x) (ltb most_comparisons ((length (nodes_in (where_of x)) + 1) / 2)) (ltb most_depth (depth_in w)) (is_long_name t) (is_long_name u)
      (any is_long_name (tables (items cs))) (any is_long_name (columns (items cs))) (any is_long_name (tables (term_columns (operands_in w)))) (any is_long_name (columns (term_columns (operands_in w))))
      (any outside32 (term_givens (operands_in w)))
      ∙ ap (λ b. b || too_many x) (sym own_is)

-- past a limit by itself, or too many of something
pub past-limit : (x : Sentence)
    → past_limit x ≡ (own_past x || (ltb most_items (list_length x) || (ltb most_marks (mark_count (givens x)) || ltb most_comparisons ((length (nodes_in (where_of x)) + 1) / 2))))
past-limit (table t cs ring z) = past-plain (table t cs ring z) refl
past-limit (select cs t w) = past-plain (select cs t w) refl
past-limit (pair cs t u w) = past-pair cs t u w
past-limit (insert t vs) = past-plain (insert t vs) refl
past-limit (update t ss w) = past-plain (update t ss w) refl
past-limit (delete t w) = past-plain (delete t w) refl
