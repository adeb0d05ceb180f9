-- The loop of an UPDATE, over the rows of an area.
--     Left            what holds with `left` rows left from cell `at` on
--     update-turn     after a row: r is 1 where p holds of it, and row' is what it is then
--     update-set      after a row of which p holds, and update-stay after any other
--     update-done     after the last
-- Assumes nothing.
use Prim.Native.Nat.{ℕ, zero, suc, ◌+◌, ◌-◌, ◌*◌, ◌≤◌}
use mathlib.Core.Path.{◌≡◌, refl, sym, ap, ap₂, ◌∙◌, subst}
use mathlib.Core.Bool.{Bool, true, false, cond}
use mathlib.Core.List.{List, ◌++◌, map, append_assoc}
use native.Mathlib.Omega.{arith}
use borrow.Rule.Slice.PartMut.{put_mid, same_len_mid, put_same}
use lib.IntN.{ℤ}
use lib.ListN.{length, take, drop, length-drop, take-append-drop}
use lib.Seq.{length-take-le}
use Rattle.lists.specs.Lists.{cons_if, keep, count}
use Rattle.meaning.specs.Cells.{rows_in, stored}
use Rattle.table.specs.Changed.{updated_if}
use Rattle.table.proofs.Work.{work, work-zero, work-suc, work-stored, row_room, put-take, put-drop}

-- a choice by a test whose outcome is known
module _ {X : Type 0} (b : Bool) (x y : X) where
  pub cond-true : b ≡ true → x ≡ cond b x y
  cond-true e = sym (ap (λ (t : Bool). cond t x y) e)

  pub cond-false : b ≡ false → y ≡ cond b x y
  cond-false e = sym (ap (λ (t : Bool). cond t x y) e)

one-or-none : (b : Bool) → cond b 1 0 ≤ 1
one-or-none true = omega arith
one-or-none false = omega arith

count-cons : (b : Bool) (x : List ℤ) (l : List (List ℤ)) → length (cons_if b x l) ≡ cond b 1 0 + length l
count-cons true x l = omega arith
count-cons false x l = omega arith

module _ (p : List ℤ → Bool) (f : List ℤ → List ℤ) (keeps : (r : List ℤ) → length (f r) ≡ length r) where
  pub settled-length : (r : List ℤ) → length (updated_if p f r) ≡ length r
  settled-length r = go (p r)
    where
      go : (b : Bool) → length (cond b (f r) r) ≡ length r
      go true = keeps r
      go false = refl

-- `used` is the number of rows at the start, and a₀ the area there
pub record Left (p : List ℤ → Bool) (f : List ℤ → List ℤ) (c used : ℕ) (a₀ a : List ℤ) (at left found : ℕ) : Type 0 where
  pub room : at + left * c ≤ length a
  pub same : length a ≡ length a₀
  pub few : found + left ≤ used
  pub counted : found + count p (rows_in c left (drop at a)) ≡ count p (rows_in c used a₀)
  pub cells : take at a ++ work (updated_if p f) c left (drop at a) ≡ work (updated_if p f) c used a₀

module _ (p : List ℤ → Bool) (f : List ℤ → List ℤ) (c used : ℕ) (a₀ : List ℤ) where
  -- before the first row
  pub left-start : used * c ≤ length a₀ → Left p f c used a₀ a₀ 0 used 0
  left-start h =
      let none : 0 + count p (rows_in c used a₀) ≡ count p (rows_in c used a₀) = omega arith in
      record { room = omega arith; same = refl; few = omega arith; counted = none; cells = refl }

  module _ (keeps : (r : List ℤ) → length (f r) ≡ length r) where
    turn : (a : List ℤ) (at m found r : ℕ) (row' : List ℤ) → Left p f c used a₀ a at (suc m) found → r ≡ cond (p (take c (drop at a))) 1 0 → row' ≡ updated_if p f (take c (drop at a)) → Left p f c used a₀ (put_mid at c a row') (at + c) m (found + r)
    turn a at m found r row' L er ew =
        let row : List ℤ = take c (drop at a) in
        let q : suc m * c ≡ c + (suc m - 1) * c = row_room (suc m) c (omega arith) in
        let one : suc m - 1 ≡ m = omega arith in
        let q' : suc m * c ≡ c + m * c = q ∙ ap (λ (k : ℕ). c + k * c) one in
        let room : at + suc m * c ≤ length a = L.room in
        let fits : c ≤ length (drop at a) = simp length-drop (omega arith) in
        let len : length row' ≡ length row = ap length ew ∙ settled-length p f keeps row in
        let len' : length row' ≡ c = len ∙ length-take-le c (drop at a) fits in
        let same : length (put_mid at c a row') ≡ length a = same_len_mid at c a row' len in
        let past : drop (at + c) (put_mid at c a row') ≡ drop c (drop at a) = put-drop at c a row' (omega arith) len' in
        let r1 : r ≤ 1 = subst (λ (k : ℕ). k ≤ 1) (sym er) (one-or-none (p row)) in
        let few : found + suc m ≤ used = L.few in
        let rest : ℕ = count p (rows_in c m (drop c (drop at a))) in
        let cnt : found + length (cons_if (p row) row (keep p (rows_in c m (drop c (drop at a))))) ≡ count p (rows_in c used a₀) = L.counted in
        let cc1 : length (cons_if (p row) row (keep p (rows_in c m (drop c (drop at a))))) ≡ cond (p row) 1 0 + rest = count-cons (p row) row (keep p (rows_in c m (drop c (drop at a)))) in
        let cnt' : found + r + rest ≡ count p (rows_in c used a₀) = omega arith in
        record {
          room = omega arith;
          same = same ∙ L.same;
          few = omega arith;
          counted = ap (λ (l : List ℤ). found + r + count p (rows_in c m l)) past ∙ cnt';
          cells = ap₂ (λ (x y : List ℤ). x ++ work (updated_if p f) c m y) (put-take at c a row' (omega arith) len') past
              ∙ append_assoc (take at a) row' (work (updated_if p f) c m (drop c (drop at a)))
              ∙ ap (λ (x : List ℤ). take at a ++ (x ++ work (updated_if p f) c m (drop c (drop at a)))) ew
              ∙ ap (λ (x : List ℤ). take at a ++ x) (sym (work-suc (updated_if p f) c m (drop at a)))
              ∙ L.cells;
        }

    -- as the loop has it: the part's length is written as a difference
    pub update-turn : (a : List ℤ) (at left found r : ℕ) (row' : List ℤ) → 1 ≤ left → Left p f c used a₀ a at left found → r ≡ cond (p (take (at + c - at) (drop at a))) 1 0 → row' ≡ updated_if p f (take (at + c - at) (drop at a)) → Left p f c used a₀ (put_mid at (at + c - at) a row') (at + c) (left - 1) (found + r)
    update-turn a at zero found r row' h L = absurd (omega arith)
    update-turn a at (suc m) found r row' h L =
        let e : c ≡ at + c - at = omega arith in
        let o : m ≡ suc m - 1 = omega arith in
        subst (λ (k : ℕ). r ≡ cond (p (take k (drop at a))) 1 0 → row' ≡ updated_if p f (take k (drop at a)) → Left p f c used a₀ (put_mid at k a row') (at + c) (suc m - 1) (found + r)) e
        (subst (λ (k : ℕ). r ≡ cond (p (take c (drop at a))) 1 0 → row' ≡ updated_if p f (take c (drop at a)) → Left p f c used a₀ (put_mid at c a row') (at + c) k (found + r)) o
        (turn a at m found r row' L))

    -- a row that meets the condition is set, and any other stays as it was; a' and found' are the area and the count then
    left_at : (a a' : List ℤ) (at left found found' : ℕ) → a' ≡ a → found' ≡ found → Left p f c used a₀ a at left found → Left p f c used a₀ a' at left found'
    left_at a a' at left found found' ea ef L =
        subst (λ (l : List ℤ). Left p f c used a₀ l at left found') (sym ea) (subst (λ (k : ℕ). Left p f c used a₀ a at left k) (sym ef) L)

    pub update-set : (a a' : List ℤ) (at left found found' : ℕ) (row' : List ℤ) → 1 ≤ left → Left p f c used a₀ a at left found
        → p (take (at + c - at) (drop at a)) ≡ true → row' ≡ f (take (at + c - at) (drop at a)) → a' ≡ put_mid at (at + c - at) a row' → found' ≡ found + 1
        → Left p f c used a₀ a' (at + c) (left - 1) found'
    update-set a a' at left found found' row' h L t e ea ef =
        let row : List ℤ = take (at + c - at) (drop at a) in
        left_at (put_mid at (at + c - at) a row') a' (at + c) (left - 1) (found + 1) found' ea ef
        (update-turn a at left found 1 row' h L (cond-true (p row) 1 0 t) (e ∙ cond-true (p row) (f row) row t))

    pub update-stay : (a a' : List ℤ) (at left found found' : ℕ) → 1 ≤ left → Left p f c used a₀ a at left found → p (take (at + c - at) (drop at a)) ≡ false → a' ≡ a → found' ≡ found
        → Left p f c used a₀ a' (at + c) (left - 1) found'
    update-stay a a' at left found found' h L t ea ef =
        let row : List ℤ = take (at + c - at) (drop at a) in
        let none : found ≡ found + 0 = omega arith in
        left_at (put_mid at (at + c - at) a row) a' (at + c) (left - 1) (found + 0) found' (ea ∙ sym (put_same at (at + c - at) a)) (ef ∙ none)
        (update-turn a at left found 0 row h L (cond-false (p row) 1 0 t) (cond-false (p row) (f row) row t))

    -- one row fewer is left
    pub row-next : (a : List ℤ) (i at found : ℕ) → Left p f c used a₀ a at (used - i - 1) found → Left p f c used a₀ a at (used - (i + 1)) found
    row-next a i at found L = let n : used - i - 1 ≡ used - (i + 1) = omega arith in subst (λ (k : ℕ). Left p f c used a₀ a at k found) n L

    pub update-done : (a : List ℤ) (at left found : ℕ) → left ≤ 0 → used * c ≤ length a₀ → Left p f c used a₀ a at left found → (found ≡ count p (rows_in c used a₀)) × (a ≡ stored a₀ (used * c) (map (updated_if p f) (rows_in c used a₀)))
    update-done a at zero found z h L =
        let n : found + 0 ≡ count p (rows_in c used a₀) = L.counted in (
          omega arith,
          sym (ap (λ (x : List ℤ). take at a ++ x) (work-zero (updated_if p f) c (drop at a)) ∙ take-append-drop at a)
              ∙ L.cells ∙ work-stored (updated_if p f) (settled-length p f keeps) c used a₀ h,
        )
    update-done a at (suc m) found z h L = absurd (omega arith)
