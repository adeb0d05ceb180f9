-- The sums of two lists of masks, written in place of them: one row of sums, and one row after another. Assumes nothing.
use mathlib.Core.Path.{◌≡◌, refl, sym, ap, ap₂, subst, ◌∙◌}
use mathlib.Core.List.{List, [], ◌∷◌, ◌++◌, map, append_assoc, append-nil}
use Prim.Native.Nat.{ℕ, suc, ◌+◌, ◌*◌, ◌≤◌, ◌<◌}
use native.Mathlib.Nat.{zero-mul, suc-mul, mul-le-mul_right}
use native.Mathlib.Numerals.{add-one}
use native.Mathlib.Omega.{arith}
use lib.ListN.{length, take, get_or, set, length-append, length-map, get_or-map}
use lib.Seq.{take-suc, length-take-le, paste}
use Rattle.lists.specs.Lists.{All, written}
use Rattle.lists.proofs.Places.{All-at}
use Rattle.lists.proofs.Written.{written-append, length-written}
use Rattle.table.proofs.Copied.{pasted}
use Rattle.pattern.specs.Private.Masks.{sums}

-- ---- a row: a mask and each of a list

module _ (out : List ℕ) (at a : ℕ) (bs : List ℕ) (room : at + length bs ≤ length out) where
  abbrev pub row : List ℕ
  row = map (λ (b : ℕ). a + b) bs

  row-length : length row ≡ length bs
  row-length = length-map bs (λ (b : ℕ). a + b)

  pub row_more : (j : ℕ) (next : List ℕ) → j < length bs → next ≡ paste out at row j → set next (at + j) (a + get_or bs j 0) ≡ paste out at row (j + 1)
  row_more j next h e =
      let l : j < length row = omega (arith, row-length) in
      pasted out at row j (a + 0) next (at + j) (a + get_or bs j 0) (omega (arith, row-length)) l e refl (sym (get_or-map (λ (b : ℕ). a + b) bs j 0))

-- ---- all rows

pub sums-append : (xs ys bs : List ℕ) → sums (xs ++ ys) bs ≡ sums xs bs ++ sums ys bs
sums-append [] ys bs = refl
sums-append (x ∷ xs) ys bs =
    ap (λ (r : List ℕ). map (λ (b : ℕ). x + b) bs ++ r) (sums-append xs ys bs) ∙ sym (append_assoc (map (λ (b : ℕ). x + b) bs) (sums xs bs) (sums ys bs))

pub sums-length : (xs bs : List ℕ) → length (sums xs bs) ≡ length xs * length bs
sums-length [] bs = sym (zero-mul (length bs))
sums-length (x ∷ xs) bs =
    length-append (map (λ (b : ℕ). x + b) bs) (sums xs bs)
    ∙ ap₂ ◌+◌ (length-map bs (λ (b : ℕ). x + b)) (sums-length xs bs)
    ∙ omega (arith, suc-mul (length xs) (length bs))

module _ (masks : List ℕ) (start : ℕ) (ls rs : List ℕ) where
  -- the sums of the first i masks are written, and the next row starts at `at`
  pub record Rows (next : List ℕ) (at i : ℕ) : Type 0 where
    pub some : i ≤ length ls
    pub place : at ≡ start + i * length rs
    pub long : length next ≡ length masks
    pub rows_are : next ≡ written masks start (sums (take i ls) rs)

  module _ (room : start + length ls * length rs ≤ length masks) where
    done : (i : ℕ) → i ≤ length ls → length (sums (take i ls) rs) ≡ i * length rs
    done i h = sums-length (take i ls) rs ∙ ap (λ (k : ℕ). k * length rs) (length-take-le i ls h)

    -- where the next row goes
    pub rows-room : (next : List ℕ) (at i : ℕ) → i < length ls → Rows next at i → at + length rs ≤ length masks
    rows-room next at i h R =
        let k : suc i ≤ length ls = h in
        omega (arith, R.place, suc-mul i (length rs), mul-le-mul_right (length rs) k)

    pub rows_more : (next more : List ℕ) (at i m : ℕ) → i < length ls → m ≡ get_or ls i 0 → more ≡ written next at (map (λ (b : ℕ). m + b) rs)
        → Rows next at i → Rows more (at + length rs) (i + 1)
    rows_more next more at i m h em e R =
        let row : List ℕ = map (λ (b : ℕ). m + b) rs in
        let n : length row ≡ length rs = length-map rs (λ (b : ℕ). m + b) in
        let d : length (sums (take i ls) rs) ≡ i * length rs = done i R.some in
        let k : at ≡ start + length (sums (take i ls) rs) = omega (arith, R.place) in
        let f : start + length (sums (take i ls) rs) ≤ length masks = omega (arith, rows-room next at i h R) in
        let s : sums (take i ls) rs ++ row ≡ sums (take (i + 1) ls) rs =
        sym (ap (λ (j : ℕ). sums (take j ls) rs) (add-one i)
        ∙ ap (λ (xs : List ℕ). sums xs rs) (take-suc ls i 0 h)
        ∙ sums-append (take i ls) (get_or ls i 0 ∷ []) rs
        ∙ ap (λ (r : List ℕ). sums (take i ls) rs ++ r) (append-nil (map (λ (b : ℕ). get_or ls i 0 + b) rs) ∙ ap (λ (a : ℕ). map (λ (b : ℕ). a + b) rs) (sym em))) in
        record {
          some = omega arith;
          place = omega (arith, R.place, suc-mul i (length rs), ap (λ (j : ℕ). j * length rs) (add-one i));
          long = ap length e ∙ length-written next at row (omega (arith, R.long, rows-room next at i h R)) ∙ R.long;
          rows_are = e
              ∙ ap₂ (λ (x : List ℕ) (j : ℕ). written x j row) R.rows_are k
              ∙ written-append masks start (sums (take i ls) rs) f row
              ∙ ap (written masks start) s;
        }

    -- each sum of the next row fits
    pub rows_fit : (i m : ℕ) → i < length ls → m ≡ get_or ls i 0 → All (λ (a : ℕ). All (λ (b : ℕ). a + b < 256) rs) ls → All (λ (b : ℕ). m + b < 256) rs
    rows_fit i m h em a = subst (λ (x : ℕ). All (λ (b : ℕ). x + b < 256) rs) (sym em) (All-at i 0 h a)
