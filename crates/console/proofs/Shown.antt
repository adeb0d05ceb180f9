-- Numbers and rows as they are shown: a number by its 32 bits, a row by four bytes a value, and the rows of a record one after another. Assumes nothing.
use mathlib.Core.Path.{◌≡◌, refl, sym, ap, ◌∙◌}
use mathlib.Core.Bool.{Bool, true, false, ◌&&◌, cond, true≢false}
use mathlib.Core.List.{List, [], ◌∷◌, ◌++◌, map}
use Prim.Native.Nat.{ℕ, suc, ◌+◌, ◌*◌, ◌-◌, ◌/◌, ◌≤◌, ◌<◌}
use native.Mathlib.Omega.{arith}
use borrow.Author.Tests.{eqb-true, ltb-true, ltb-false, leb-true}
use lib.Dec.{leb, ltb, eqb}
use lib.IntN.{ℤ, pos, negsuc, nat_abs}
use lib.Signed.{lt_z}
use Rattle.std.specs.Prelude.{Result, Ok, Err, is_err}
use Rattle.std.specs.Simd.{first_chunks}
use Rattle.std.specs.Int.{from_be_bytes}
use mir.Syntax.{w32}
use mir.Val.{to_z}
use lib.ListN.{length, get_or}
use Rattle.lists.specs.Lists.{bytes, from}
use Rattle.lists.proofs.Bools.{and_left, and_right}
use Rattle.lists.proofs.Walks.{from_cons, from-none}
use Rattle.meaning.specs.Limits.{most_items}
use Rattle.meaning.specs.Record.{signed_of, numbers_of, four_at, columns_in, row_count, row_bytes, is_record, has_row, row_part, row_refusal}
use Rattle.statement.specs.Compiled.{of_table, of_query}
use Rattle.console.specs.Printed.{line, item, added_text, decimal_text, number_text, row_text, further_text, rows_text, rows_there, rows_shown}
use Rattle.console.specs.Private.Pieces.{rows_from, kind_word}

-- ---- numbers

-- a number is a minus, if it is negative, and its magnitude
pub number-negative : (z : ℤ) → lt_z z (pos 0) ≡ true → 45 ∷ decimal_text (nat_abs z) ≡ number_text z
unfolding number_text
number-negative (pos n) h = absurd (omega (arith, ltb-true n 0 h))
number-negative (negsuc n) h = refl

pub number-positive : (z : ℤ) → lt_z z (pos 0) ≡ false → decimal_text (nat_abs z) ≡ number_text z
unfolding number_text
number-positive (pos n) h = refl
number-positive (negsuc n) h = absurd (true≢false h)

-- ---- a line by a kind

pub added-is : (kind n : ℕ) → line (kind_word kind ++ (32 ∷ decimal_text n)) ≡ added_text kind n
unfolding added_text
added-is kind n = go (eqb kind of_table) (eqb kind of_query)
  where
    go : (a b : Bool) → line (cond a (bytes "table") (cond b (bytes "query") (bytes "update")) ++ (32 ∷ decimal_text n)) ≡ line (cond a (item "table" n) (cond b (item "query" n) (item "update" n)))
    go true b = refl
    go false true = refl
    go false false = refl

-- ---- a row

-- the numbers of arrays of four bytes
abbrev pub values_in : List (List ℕ) → List ℤ
values_in cs = map (λ (c : List ℕ). signed_of (four_at c 0)) cs

-- as `i32::from_be_bytes` reads them
pub value-is : (c : List ℕ) → to_z w32 (from_be_bytes w32 c) ≡ signed_of (four_at c 0)
value-is c = let e : from_be_bytes w32 c ≡ four_at c 0 = omega arith in ap (to_z w32) e

-- a row, four bytes a value
pub values-of : (l : List ℕ) → values_in (first_chunks 4 (length l / 4) l) ≡ numbers_of l
values-of [] = refl
values-of (a ∷ []) = refl
values-of (a ∷ b ∷ []) = refl
values-of (a ∷ b ∷ c ∷ []) = refl
values-of (a ∷ b ∷ c ∷ d ∷ l) =
    let e : length (a ∷ b ∷ c ∷ d ∷ l) / 4 ≡ suc (length l / 4) = omega arith in
    ap (λ (k : ℕ). values_in (first_chunks 4 k (a ∷ b ∷ c ∷ d ∷ l))) e ∙ ap (λ (zs : List ℤ). signed_of (four_at (a ∷ b ∷ c ∷ d ∷ []) 0) ∷ zs) (values-of l)

-- ---- a result, by whether it is an error

module _ {A E : Type 0} where
  pub was_ok : (x : Result A E) → is_err x ≡ false → (a : A) × (x ≡ Ok a)
  was_ok (Ok a) h = (a, refl)
  was_ok (Err e) h = absurd (cc)

  pub was_err : (x : Result A E) → is_err x ≡ true → (e : E) × (x ≡ Err e)
  was_err (Ok a) h = absurd (cc)
  was_err (Err e) h = (e, refl)

-- ---- the rows of a record

module _ (bs : List ℕ) where
  -- the rows and columns of a record, and its length: 8 bytes stand before the rows
  pub record Limits : Type 0 where
    pub some : 1 ≤ columns_in bs
    pub rows : row_count bs ≤ 65535
    pub whole : row_count bs * row_bytes bs + 8 ≤ length bs

  pub limits : is_record bs ≡ true → Limits
  unfolding is_record
  limits h =
      let c = and_right (eqb (get_or bs 4 0) 1) _ (and_right (leb 8 (length bs)) _ h) in
      let r = and_right (leb (columns_in bs) most_items) _ (and_right (leb 1 (columns_in bs)) _ c) in
      let l = and_right (leb (row_count bs) _) _ r in
      let e : four_at bs 0 ≡ row_count bs * row_bytes bs + 4 = eqb-true (four_at bs 0) (row_count bs * row_bytes bs + 4) (and_left (eqb (four_at bs 0) (row_count bs * row_bytes bs + 4)) _ l) in
      let n : four_at bs 0 + 4 ≤ length bs = leb-true (four_at bs 0 + 4) (length bs) (and_right (eqb (four_at bs 0) (row_count bs * row_bytes bs + 4)) _ l) in
      record {
        some = leb-true 1 (columns_in bs) (and_left (leb 1 (columns_in bs)) _ c);
        rows = omega (arith, leb-true (row_count bs) _ (and_left (leb (row_count bs) _) _ r));
        whole = omega (arith, e, n);
      }

  pub few_rows : rows_there bs ≤ 65535
  few_rows = go (is_record bs) refl
    where
      go : (b : Bool) → is_record bs ≡ b → cond b (row_count bs) 0 ≤ 65535
      go false e = omega arith
      go true e = (limits e).rows

  module _ (i : ℕ) where
    -- what the refusal of row i says
    pub there : row_refusal bs i ≡ 0 → i < rows_there bs
    unfolding has_row
    there e = go (is_record bs) (ltb i (row_count bs)) refl e
      where
        go : (r b : Bool) → ltb i (row_count bs) ≡ b → ◌≡◌ {A = ℕ} (cond (r && b) 0 14) 0 → i < cond r (row_count bs) 0
        go true true k e = ltb-true i (row_count bs) k
        go true false k e = absurd (omega arith)
        go false b k e = absurd (omega arith)

    pub gone : (row_refusal bs i ≡ 0 → ⊥) → rows_there bs ≤ i
    unfolding has_row
    gone e = go (is_record bs) (ltb i (row_count bs)) refl e
      where
        go : (r b : Bool) → ltb i (row_count bs) ≡ b → (◌≡◌ {A = ℕ} (cond (r && b) 0 14) 0 → ⊥) → cond r (row_count bs) 0 ≤ i
        go true true k e = absurd (e refl)
        go true false k e = ltb-false i (row_count bs) k
        go false b k e = omega arith

    rows_more : i < rows_there bs → rows_from bs i ≡ numbers_of (row_part bs i) ∷ rows_from bs (i + 1)
    rows_more h = ap (map (λ (k : ℕ). numbers_of (row_part bs k))) (from_cons (rows_there bs) i h)

    pub rows_end : rows_there bs ≤ i → rows_from bs i ≡ []
    rows_end h = ap (map (λ (k : ℕ). numbers_of (row_part bs k))) (from-none (rows_there bs) i h)

    pub further-more : row_refusal bs i ≡ 0 → further_text (rows_from bs i) ≡ ((32 ∷ 47 ∷ []) ++ row_text (numbers_of (row_part bs i))) ++ further_text (rows_from bs (i + 1))
    further-more e = ap further_text (rows_more (there e))

    pub further-end : (row_refusal bs i ≡ 0 → ⊥) → further_text (rows_from bs i) ≡ []
    further-end e = ap further_text (rows_end (gone e))

  from_first : rows_from bs 0 ≡ rows_shown bs
  from_first =
      let e : rows_there bs - 0 ≡ rows_there bs = omega arith in
      ap (λ (n : ℕ). map (λ (k : ℕ). numbers_of (row_part bs k)) (from 0 n)) e

  pub first_more : row_refusal bs 0 ≡ 0 → rows_text (rows_shown bs) ≡ row_text (numbers_of (row_part bs 0)) ++ further_text (rows_from bs 1)
  first_more e = ap rows_text (sym from_first ∙ rows_more 0 (there 0 e))

  pub first-end : (row_refusal bs 0 ≡ 0 → ⊥) → rows_text (rows_shown bs) ≡ []
  first-end e = ap rows_text (sym from_first ∙ rows_end 0 (gone 0 e))
