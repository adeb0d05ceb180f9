-- The demand of specs/Demand about the limits: no test of refusal 5 holds exactly if every row of the table of limits does. Assumes nothing.
use mathlib.Core.Path.{◌≡◌, refl, sym, ap, subst, ◌∙◌}
use mathlib.Core.Logic.{◌↔◌}
use mathlib.Core.Bool.{Bool, true, false, not, ◌&&◌, ◌||◌, true≢false}
use mathlib.Core.List.{List, map}
use Prim.Native.Nat.{ℕ, ◌≤◌}
use native.Mathlib.Omega.{arith}
use borrow.Author.Tests.{ltb-false, le-ltb, leb-true, le-leb}
use lib.Dec.{ltb, leb}
use lib.IntN.{ℤ, pos, negsuc}
use lib.ListN.{length, length-map}
use lib.Signed.{le_z}
use Rattle.lists.specs.Lists.{any, All, nil, cons}
use Rattle.lists.proofs.Bools.{and_left, and_right, and_both, or_left, or_right, not-false}
use Rattle.lists.proofs.Lists.{All-head, All-map, any_none, any_false}
use Rattle.meaning.specs.Condition.{comparisons_in, depth_in}
use Rattle.meaning.specs.Tokens.{Name}
use Rattle.meaning.specs.Grammar as G
use Rattle.meaning.specs.Grammar.{Given, items, Dotted, Sentence}
use Rattle.meaning.specs.Limits.{most_rows, most_name, rows_of, where_of, all_names, givens, mark_count, many_items, rows_outside, many_marks, many_comparisons, deep, long_name, is_within32, outside32, past_limit, Between, list_lengths, RowsWithin, ConstantWithin, GivenWithin, WithinLimits}
use Rattle.meaning.specs.Demand.{WithinExactlyIf}
use Rattle.meaning.proofs.Resolved.{items-some}

or-none : (a b : Bool) → a ≡ false → b ≡ false → (a || b) ≡ false
or-none a b h k = ap (λ (x : Bool). x || b) h ∙ k

-- none passes the test exactly if all have the property
none-all : {A : Type 0} {P : A → Type 0} (p : A → Bool) → ((x : A) → (p x ≡ false) ↔ P x) → (xs : List A) → (any p xs ≡ false) ↔ All P xs
none-all p f xs = ((λ h. All-map (λ x e. (f x).0 e) (any_false p xs h)), (λ h. any_none p (All-map (λ x e. (f x).1 e) h)))

most : (k n : ℕ) → (ltb k n ≡ false) ↔ (n ≤ k)
most k n = (ltb-false k n, le-ltb k n)

-- ---- numbers

rows-within : (z : ℤ) → (not (le_z (pos 1) z && le_z z (pos most_rows)) ≡ false) ↔ RowsWithin z
rows-within (pos n) = (
  (λ h.
      let k = not-false (leb 1 n && leb n 512) h in
      (leb-true 1 n (and_left (leb 1 n) (leb n 512) k), leb-true n 512 (and_right (leb 1 n) (leb n 512) k))),
  (λ h. ap not (and_both (leb 1 n) (leb n 512) (le-leb 1 n h.0) (le-leb n 512 h.1))),
)
rows-within (negsuc n) = ((λ h. true≢false h), (λ h. absurd h))

constant-within : (z : ℤ) → (not (is_within32 z) ≡ false) ↔ ConstantWithin z
constant-within (pos n) = (
  (λ h. leb-true n 2147483647 (not-false (leb n 2147483647) h)),
  (λ h. ap not (le-leb n 2147483647 h)),
)
constant-within (negsuc n) = (
  (λ h. let k = leb-true n 2147483647 (and_left (leb n 2147483647) true (not-false (leb n 2147483647 && true) h)) in omega arith),
  (λ h. ap not (and_both (leb n 2147483647) true (le-leb n 2147483647 (omega arith)) refl)),
)

given-within : (v : Given) → (outside32 v ≡ false) ↔ GivenWithin v
given-within (G.constant z) = constant-within z
given-within G.mark = ((λ h. tt), (λ h. refl))

-- ---- lists

lists-within : (s : Sentence) → (many_items s ≡ false) ↔ All (Between 1 8) (list_lengths s)
lists-within (G.table t cs ring z) =
    let n : ℕ = length (items cs) in (
      (λ h. cons (items-some cs, ltb-false 8 n (or_left (ltb 8 n) false h)) nil),
      (λ h. or-none (ltb 8 n) false (le-ltb 8 n (All-head h).1) refl),
    )
lists-within (G.select cs t w) =
    let n : ℕ = length (items cs) in (
      (λ h. cons (items-some cs, ltb-false 8 n (or_left (ltb 8 n) false h)) nil),
      (λ h. or-none (ltb 8 n) false (le-ltb 8 n (All-head h).1) refl),
    )
lists-within (G.pair cs t u w) =
    let n : ℕ = length (map (λ (c : Dotted). c.1) (items cs)) in
    let e : n ≡ length (items cs) = length-map (items cs) (λ (c : Dotted). c.1) in (
      (λ h. cons (items-some cs, subst (λ (n : ℕ). n ≤ 8) e (ltb-false 8 n (or_left (ltb 8 n) false h))) nil),
      (λ h. or-none (ltb 8 n) false (le-ltb 8 n (subst (λ (n : ℕ). n ≤ 8) (sym e) (All-head h).1)) refl),
    )
lists-within (G.insert t vs) =
    let n : ℕ = length (items vs) in (
      (λ h. cons (items-some vs, ltb-false 8 n h) nil),
      (λ h. le-ltb 8 n (All-head h).1),
    )
lists-within (G.update t ss w) =
    let a : ℕ = length (map (λ (s : Name × Given). s.0) (items ss)) in
    let b : ℕ = length (map (λ (s : Name × Given). s.1) (items ss)) in
    let e : a ≡ length (items ss) = length-map (items ss) (λ (s : Name × Given). s.0) in
    let f : b ≡ length (items ss) = length-map (items ss) (λ (s : Name × Given). s.1) in (
      (λ h. cons (items-some ss, subst (λ (n : ℕ). n ≤ 8) e (ltb-false 8 a (or_left (ltb 8 a) (ltb 8 b) h))) nil),
      (λ h.
          let k : length (items ss) ≤ 8 = (All-head h).1 in
          or-none (ltb 8 a) (ltb 8 b) (le-ltb 8 a (subst (λ (n : ℕ). n ≤ 8) (sym e) k)) (le-ltb 8 b (subst (λ (n : ℕ). n ≤ 8) (sym f) k))),
    )
lists-within (G.delete t w) = ((λ h. nil), (λ h. refl))

-- ---- all of them

within-if : (s : Sentence) → past_limit s ≡ false → WithinLimits s
unfolding past_limit
within-if s h =
    let h₂ = or_right (many_items s) _ h in
    let h₃ = or_right (rows_outside s) _ h₂ in
    let h₄ = or_right (many_marks s) _ h₃ in
    let h₅ = or_right (many_comparisons s) _ h₄ in
    let h₆ = or_right (deep s) _ h₅ in
    record {
      lists = (lists-within s).0 (or_left (many_items s) _ h);
      rows = (none-all (λ (z : ℤ). not (le_z (pos 1) z && le_z z (pos most_rows))) rows-within (rows_of s)).0 (or_left (rows_outside s) _ h₂);
      marks = (most 8 (mark_count (givens s))).0 (or_left (many_marks s) _ h₃);
      comparisons = (most 8 (length (comparisons_in (where_of s)))).0 (or_left (many_comparisons s) _ h₄);
      depth = (most 8 (depth_in (where_of s))).0 (or_left (deep s) _ h₅);
      names = (none-all (λ (n : Name). ltb most_name (length n)) (λ n. most 12 (length n)) (all_names s)).0 (or_left (long_name s) _ h₆);
      constants = (none-all outside32 given-within (givens s)).0 (or_right (long_name s) _ h₆);
    }

if-within : (s : Sentence) → WithinLimits s → past_limit s ≡ false
unfolding past_limit
if-within s w =
    or-none (many_items s) _ ((lists-within s).1 w.lists)
    (or-none (rows_outside s) _ ((none-all (λ (z : ℤ). not (le_z (pos 1) z && le_z z (pos most_rows))) rows-within (rows_of s)).1 w.rows)
    (or-none (many_marks s) _ ((most 8 (mark_count (givens s))).1 w.marks)
    (or-none (many_comparisons s) _ ((most 8 (length (comparisons_in (where_of s)))).1 w.comparisons)
    (or-none (deep s) _ ((most 8 (depth_in (where_of s))).1 w.depth)
    (or-none (long_name s) _ ((none-all (λ (n : Name). ltb most_name (length n)) (λ n. most 12 (length n)) (all_names s)).1 w.names)
    ((none-all outside32 given-within (givens s)).1 w.constants))))))

pub within_exactly_if : WithinExactlyIf
within_exactly_if s = (within-if s, if-within s)
