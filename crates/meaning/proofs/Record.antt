-- Answer records: their length and bytes, and that a record shows the rows that it was made of. Assumes nothing.
use mathlib.Core.Path.{◌≡◌, refl, sym, ap, ap₂, ◌∙◌, subst}
use mathlib.Core.Bool.{Bool, true, false, ◌&&◌, cond}
use mathlib.Core.List.{List, [], ◌∷◌, ◌++◌, append_assoc}
use Prim.Native.Nat.{ℕ, zero, suc, ◌+◌, ◌*◌, ◌-◌, ◌/◌, ◌%◌, ◌^◌, ◌≤◌, ◌<◌}
use native.Mathlib.Nat.{zero-mul, suc-mul, mul-le-mul, mul_left_comm}
use native.Mathlib.Omega.{arith}
use borrow.Author.Tests.{le-leb, lt-ltb, le-ltb, leb-true, eq-eqb}
use lib.Dec.{leb, ltb, eqb}
use lib.IntN.{ℤ, pos, negsuc, neg_ℤ}
use lib.ListN.{length, take, drop, get_or, length-append}
use lib.Seq.{drop-drop, drop-append-add, take_at, drop_at}
use lib.Signed.{le_z}
use Rattle.lists.specs.Lists.{All, nil, cons, flat}
use Rattle.lists.proofs.Bools.{and_left, and_right, and_both}
use Rattle.lists.proofs.Lists.{All-append, All-head, All-tail, All-map}
use Rattle.lists.proofs.Places.{All-at, flat-length}
use Rattle.meaning.specs.Limits.{most_items, most_listed, is_within32}
use Rattle.meaning.specs.Meaning.{Row}
use Rattle.meaning.specs.Record.{bits_of, bytes4, bytes2, number_bytes, body, encode, four_at, row_count, row_bytes, is_record, has_row, row_part, signed_of, numbers_of, ReadsBack}
use Rattle.meaning.specs.Exact.{IsRow}
use Rattle.meaning.specs.Demand.{RecordReadsBack}

-- ---- numbers

pub within-high : (n : ℕ) → is_within32 (pos n) ≡ true → n < 2 ^ 31
within-high n h =
    let k : n ≤ 2147483647 = leb-true n 2147483647 (and_right (le_z (neg_ℤ (pos 2147483648)) (pos n)) (le_z (pos n) (pos 2147483647)) h) in
    omega arith

pub within_low : (n : ℕ) → is_within32 (negsuc n) ≡ true → n < 2 ^ 31
within_low n h =
    let k : n ≤ 2147483647 = leb-true n 2147483647 (and_left (le_z (neg_ℤ (pos 2147483648)) (negsuc n)) (le_z (negsuc n) (pos 2147483647)) h) in
    omega arith

bits_back : (z : ℤ) → is_within32 z ≡ true → signed_of (bits_of z) ≡ z
bits_back (pos n) h = ap (λ (b : Bool). cond b (pos n) (negsuc (2 ^ 32 - suc n))) (lt-ltb n (2 ^ 31) (within-high n h))
bits_back (negsuc n) h =
    let k : n < 2 ^ 31 = within_low n h in
    let m : ℕ = 2 ^ 32 - suc n in
    let e : 2 ^ 32 - suc m ≡ n = omega arith in
    ap (λ (b : Bool). cond b (pos m) (negsuc (2 ^ 32 - suc m))) (le-ltb m (2 ^ 31) (omega arith)) ∙ ap negsuc e

bits_small : (z : ℤ) → is_within32 z ≡ true → bits_of z < 2 ^ 32
bits_small (pos n) h = omega (arith, within-high n h)
bits_small (negsuc n) h = omega arith

four-back : (n : ℕ) → n < 2 ^ 32 → n / 16777216 % 256 * 16777216 + n / 65536 % 256 * 65536 + n / 256 % 256 * 256 + n % 256 ≡ n
four-back n h =
    let b : n / 65536 ≡ n / 256 / 256 = omega arith in
    let c : n / 16777216 ≡ n / 256 / 256 / 256 = omega arith in
    let low : n ≡ n / 256 * 256 + n % 256 = omega arith in
    let mid : n / 256 ≡ n / 256 / 256 * 256 + n / 256 % 256 = omega arith in
    let high : n / 256 / 256 ≡ n / 256 / 256 / 256 * 256 + n / 256 / 256 % 256 = omega arith in
    let top : n / 256 / 256 / 256 % 256 ≡ n / 256 / 256 / 256 = omega arith in
    rw (b, c) (omega arith)

two_back : (n : ℕ) → n ≤ most_listed → n / 256 % 256 * 256 + n % 256 ≡ n
two_back n h = omega arith

-- the numbers of a row's bytes are those of the row
pub numbers-back : (zs : List ℤ) → All (λ z. is_within32 z ≡ true) zs → numbers_of (number_bytes zs) ≡ zs
numbers-back [] h = refl
numbers-back (z ∷ zs) h =
    ap₂ (λ (x : ℤ) (xs : List ℤ). x ∷ xs)
    (ap signed_of (four-back (bits_of z) (bits_small z (All-head h))) ∙ bits_back z (All-head h))
    (numbers-back zs (All-tail h))

-- ---- lengths

pub numbers-length : (zs : List ℤ) → length (number_bytes zs) ≡ 4 * length zs
numbers-length [] = refl
numbers-length (z ∷ zs) =
    let h : length (number_bytes zs) ≡ 4 * length zs = numbers-length zs in
    omega arith

pub numbers-append : (xs ys : List ℤ) → number_bytes (xs ++ ys) ≡ number_bytes xs ++ number_bytes ys
numbers-append [] ys = refl
numbers-append (x ∷ xs) ys = ap (λ (t : List ℕ). bytes4 (bits_of x) ++ t) (numbers-append xs ys)

body-length : (columns : ℕ) (rows : List Row) → length (body columns rows) ≡ 4 + 4 * length (flat rows)
unfolding body
body-length columns rows =
    let h : length (number_bytes (flat rows)) ≡ 4 * length (flat rows) = numbers-length (flat rows) in
    omega arith

-- the record's length
pub encode-length : (columns : ℕ) (rows : List Row) → length (encode columns rows) ≡ 8 + 4 * length (flat rows)
unfolding encode
encode-length columns rows =
    let h : length (body columns rows) ≡ 4 + 4 * length (flat rows) = body-length columns rows in
    omega arith

-- ---- bytes

abbrev pub IsByte : ℕ → Type 0
IsByte b = b < 256

four_bytes : (n : ℕ) → All IsByte (bytes4 n)
four_bytes n =
    let a : n / 16777216 % 256 < 256 = omega arith in
    let b : n / 65536 % 256 < 256 = omega arith in
    let c : n / 256 % 256 < 256 = omega arith in
    let d : n % 256 < 256 = omega arith in
    cons a (cons b (cons c (cons d nil)))

numbers-bytes : (zs : List ℤ) → All IsByte (number_bytes zs)
numbers-bytes [] = nil
numbers-bytes (z ∷ zs) = All-append (four_bytes (bits_of z)) (numbers-bytes zs)

-- every byte of a record is one
pub encode-bytes : (columns : ℕ) (rows : List Row) → columns < 256 → All IsByte (encode columns rows)
unfolding encode body
encode-bytes columns rows h =
    let n : ℕ = length rows in
    let one : 1 < 256 = omega arith in
    let c : n / 256 % 256 < 256 = omega arith in
    let d : n % 256 < 256 = omega arith in
    All-append (four_bytes (length (body columns rows))) (cons one (cons h (cons c (cons d (numbers-bytes (flat rows))))))

-- ---- reading back

-- the bytes of row i, past the first eight
row-there : (c : ℕ) (rows : List Row) (later : List ℕ) → All (λ r. length r ≡ c) rows → (i : ℕ) → i < length rows
    → take (4 * c) (drop (i * (4 * c)) (number_bytes (flat rows) ++ later)) ≡ number_bytes (get_or rows i [])
row-there c [] later h i k = absurd (omega arith)
row-there c (r ∷ rs) later h zero k =
    let start : 0 * (4 * c) ≡ 0 = zero-mul (4 * c) in
    let e : length r ≡ c = All-head h in
    let l : length (number_bytes r) ≡ 4 * c = numbers-length r ∙ ap (λ (k : ℕ). 4 * k) e in
    ap (λ (k : ℕ). take (4 * c) (drop k (number_bytes (r ++ flat rs) ++ later))) start
    ∙ ap (λ (x : List ℕ). take (4 * c) (x ++ later)) (numbers-append r (flat rs))
    ∙ ap (take (4 * c)) (append_assoc (number_bytes r) (number_bytes (flat rs)) later)
    ∙ take_at (number_bytes r) (number_bytes (flat rs) ++ later) (4 * c) l
row-there c (r ∷ rs) later h (suc i) k =
    let e : length r ≡ c = All-head h in
    let l : length (number_bytes r) ≡ 4 * c = numbers-length r ∙ ap (λ (k : ℕ). 4 * k) e in
    let start : suc i * (4 * c) ≡ 4 * c + i * (4 * c) = omega (arith, suc-mul i (4 * c)) in
    ap (λ (k : ℕ). take (4 * c) (drop k (number_bytes (r ++ flat rs) ++ later))) start
    ∙ ap (λ (x : List ℕ). take (4 * c) (drop (4 * c + i * (4 * c)) (x ++ later))) (numbers-append r (flat rs))
    ∙ ap (λ (x : List ℕ). take (4 * c) (drop (4 * c + i * (4 * c)) x)) (append_assoc (number_bytes r) (number_bytes (flat rs)) later)
    ∙ ap (take (4 * c))
    (sym (drop-drop (i * (4 * c)) (4 * c) (number_bytes r ++ (number_bytes (flat rs) ++ later)))
    ∙ ap (drop (i * (4 * c))) (drop_at (number_bytes r) (number_bytes (flat rs) ++ later) (4 * c) l))
    ∙ row-there c rs later (All-tail h) i (omega arith)

module _ (columns : ℕ) (rows : List Row) (later : List ℕ) (some : 1 ≤ columns) (few : columns ≤ most_items) (short : length rows ≤ most_listed) (are : All (IsRow columns) rows) where
  abbrev size : ℕ
  size = length (body columns rows)

  abbrev behind : List ℕ
  behind = number_bytes (flat rows) ++ later

  -- the record, its first eight bytes written out
  abbrev shape : List ℕ
  shape = bytes4 size ++ ((1 ∷ columns ∷ bytes2 (length rows)) ++ behind)

  shape_is : encode columns rows ++ later ≡ shape
  unfolding encode body
  shape_is = refl

  wide : All (λ (r : Row). length r ≡ columns) rows
  wide = All-map (λ r h. h.0) are

  values-are : length (flat rows) ≡ length rows * columns
  values-are = flat-length columns rows wide

  few-values : length rows * columns ≤ most_listed * most_items
  few-values = mul-le-mul short few

  size_small : size < 2 ^ 32
  size_small = omega (arith, body-length columns rows, values-are, few-values)

  rows_are : row_count shape ≡ length rows
  rows_are = two_back (length rows) short

  size-are : four_at shape 0 ≡ size
  size-are = four-back size size_small

  size_is : four_at shape 0 ≡ row_count shape * row_bytes shape + 4
  size_is =
      let e : length rows * (4 * columns) ≡ 4 * (length rows * columns) = mul_left_comm (length rows) 4 columns in
      size-are ∙ (omega (arith, body-length columns rows, values-are)) ∙ sym (ap (λ (k : ℕ). k * (4 * columns) + 4) rows_are)

  there : four_at shape 0 + 4 ≤ length shape
  there =
      let l : length behind ≡ length (number_bytes (flat rows)) + length later = length-append (number_bytes (flat rows)) later in
      subst (λ (k : ℕ). k + 4 ≤ length shape) (sym size-are) (omega (arith, body-length columns rows, numbers-length (flat rows)))

  record_is : is_record shape ≡ true
  unfolding is_record
  record_is =
      let t₇ : leb (four_at shape 0 + 4) (length shape) ≡ true = le-leb (four_at shape 0 + 4) (length shape) there in
      let t₆ : eqb (four_at shape 0) (row_count shape * row_bytes shape + 4) ≡ true = eq-eqb (four_at shape 0) (row_count shape * row_bytes shape + 4) size_is in
      let t₅ : leb (row_count shape) most_listed ≡ true = le-leb (row_count shape) most_listed (subst (λ (k : ℕ). k ≤ most_listed) (sym rows_are) short) in
      let t₄ : leb columns most_items ≡ true = le-leb columns most_items few in
      let t₃ : leb 1 columns ≡ true = le-leb 1 columns some in
      let t₁ : leb 8 (length shape) ≡ true = le-leb 8 (length shape) (omega arith) in
      and_both _ _ t₁ (and_both _ _ refl (and_both _ _ t₃ (and_both _ _ t₄ (and_both _ _ t₅ (and_both _ _ t₆ t₇)))))

  -- row i is there, or not
  row-yes : (i : ℕ) → i < length rows → has_row shape i ≡ true
  unfolding has_row
  row-yes i h = and_both _ _ record_is (ap (ltb i) rows_are ∙ lt-ltb i (length rows) h)

  row-no : (i : ℕ) → length rows ≤ i → has_row shape i ≡ false
  unfolding has_row
  row-no i h = ap (λ (b : Bool). b && ltb i (row_count shape)) record_is ∙ ap (ltb i) rows_are ∙ le-ltb i (length rows) h

  -- the part that shows row i
  part-is : (i : ℕ) → i < length rows → row_part shape i ≡ number_bytes (get_or rows i [])
  unfolding row_part
  part-is i h =
      ap (λ (b : Bool). take (cond b (4 * columns) 0) (drop (cond b (8 + i * (4 * columns)) 0) shape)) (row-yes i h)
      ∙ ap (take (4 * columns)) (drop-append-add (bytes4 size ++ (1 ∷ columns ∷ bytes2 (length rows))) behind (i * (4 * columns)))
      ∙ row-there columns rows later wide i h

  no_part : (i : ℕ) → length rows ≤ i → row_part shape i ≡ []
  unfolding row_part
  no_part i h = ap (λ (b : Bool). take (cond b (4 * columns) 0) (drop (cond b (8 + i * (4 * columns)) 0) shape)) (row-no i h)

  shape-reads : ReadsBack shape columns rows
  shape-reads = record {
    is-record = record_is;
    columns_are = refl;
    rows_are = rows_are;
    shown = λ i h. (
      ap (λ (b : Bool). cond b 0 14) (row-yes i h),
      ap numbers_of (part-is i h) ∙ numbers-back (get_or rows i []) (All-at i [] h are).1,
    );
    not_shown = λ i h. (ap (λ (b : Bool). cond b 0 14) (row-no i h), no_part i h);
  }

-- a record, with any bytes behind it, shows the rows that it was made of
pub record_reads_back : RecordReadsBack
record_reads_back columns rows later some few short are =
    subst (λ (bs : List ℕ). ReadsBack bs columns rows) (sym (shape_is columns rows later some few short are))
    (shape-reads columns rows later some few short are)
