-- The claims of specs/Demand about what is printed: it reads back, is short, and is printed whole. Assumes nothing.
use mathlib.Core.Path.{◌≡◌, refl, sym, ap, ap₂, ◌∙◌, subst}
use mathlib.Core.Bool.{Bool, true, false, cond}
use mathlib.Core.Option.{none, some}
use mathlib.Core.List.{List, [], ◌∷◌, ◌++◌, map, append-nil}
use Prim.Native.Nat.{ℕ, zero, suc, ◌+◌, ◌*◌, ◌-◌, ◌/◌, ◌%◌, ◌^◌, ◌≤◌, ◌<◌}
use native.Mathlib.Nat.{suc-mul}
use native.Mathlib.Decide.{dec_lt}
use native.Mathlib.Omega.{arith}
use borrow.Author.Tests.{le-leb, leb-true, ltb-true, ltb-false}
use lib.Dec.{eqb, leb, ltb}
use lib.IntN.{ℤ, pos, negsuc, neg_ℤ}
use lib.ListN.{length, take, drop, length-append, length-take}
use lib.Seq.{take_all, take_at}
use Rattle.lists.specs.Lists.{bytes, all, take_while, drop_while, from, written}
use Rattle.lists.proofs.Bools.{and_left, and_right, and_both}
use Rattle.lists.proofs.Lists.{All-map, all_append, all_true, all-of}
use Rattle.lists.proofs.Runs.{run-split, drop_all}
use Rattle.meaning.specs.Limits.{is_within32}
use Rattle.meaning.specs.Record.{signed_of, numbers_of, four_at, columns_in, row_count, row_bytes, is_record, has_row, row_part}
use Rattle.meaning.specs.Tokens.{constant, is_digit, is_name_byte, is_word_byte, decimal_on, decimal, word, negative, token_from}
use Rattle.meaning.proofs.Stream.{from-word, from-minus}
use Rattle.token.proofs.Words.{digit-word}
use Rattle.statement.specs.Compiled.{of_table, of_query}
use Rattle.console.specs.Room.{fitting, filled, filled_to}
use Rattle.meaning.specs.Refusals.{settled}
use Rattle.meaning.specs.Call.{Call, add, ask, change, flush}
use Rattle.cache.specs.Run.{Store, Seen, step}
use Rattle.console.specs.Lines.{whole_token, word_value, Command, command_of}
use Rattle.console.specs.Printed.{digits_in, decimal_text, number_text, line, item, refused_text, added_text, updated_text, row_text, further_text, rows_text, rows_shown, source_word, answer_text}
use Rattle.console.specs.Demand.{NumberReadsBack, ValueReadsBack, AnswerTextShort, TextShort, AllPrinted}
use Rattle.console.specs.Desk.{done_text, called, lending, commanded, answered_of}
use Rattle.console.proofs.Digits.{digits-one, digits_more}
use Rattle.console.proofs.Shown.{limits}
use Rattle.console.proofs.Calling.{step-long}

-- ---- digits

on-append : (n : ℕ) (a b : List ℕ) → decimal_on n (a ++ b) ≡ decimal_on (decimal_on n a) b
on-append n [] b = refl
on-append n (d ∷ a) b = on-append (n * 10 + (d - 48)) a b

one-back : (k n : ℕ) → n < 10 → decimal_on 0 (digits_in (suc k) n) ≡ n
one-back k n h = let e : 0 * 10 + (48 + n - 48) ≡ n = omega arith in ap (decimal_on 0) (digits-one k n h) ∙ e

digits-back : (k n : ℕ) → n < 10 ^ suc k → decimal_on 0 (digits_in (suc k) n) ≡ n
digits-back zero n h = one-back 0 n (omega arith)
digits-back (suc k) n h = go (dec_lt n 10) (digits-back k (n / 10) (omega arith))
  where
    go : Dec (n < 10) → decimal_on 0 (digits_in (suc k) (n / 10)) ≡ n / 10 → decimal_on 0 (digits_in (suc (suc k)) n) ≡ n
    go (yes s) e = one-back (suc k) n s
    go (no s) e =
        let v : n / 10 * 10 + (48 + n % 10 - 48) ≡ n = omega arith in
        ap (decimal_on 0) (digits_more (suc k) n (omega arith))
        ∙ on-append 0 (digits_in (suc k) (n / 10)) ((48 + n % 10) ∷ [])
        ∙ ap (λ (m : ℕ). m * 10 + (48 + n % 10 - 48)) e
        ∙ v

digit-is : (n : ℕ) → n < 10 → all is_digit ((48 + n) ∷ []) ≡ true
digit-is n h = and_both _ true (and_both _ _ (le-leb 48 (48 + n) (omega arith)) (le-leb (48 + n) 57 (omega arith))) refl

digits-only : (k n : ℕ) → all is_digit (digits_in k n) ≡ true
digits-only zero n = refl
digits-only (suc k) n = go (dec_lt n 10) (digits-only k (n / 10))
  where
    go : Dec (n < 10) → all is_digit (digits_in k (n / 10)) ≡ true → all is_digit (digits_in (suc k) n) ≡ true
    go (yes s) e = ap (all is_digit) (digits-one k n s) ∙ digit-is n s
    go (no s) e =
        ap (all is_digit) (digits_more k n (omega arith))
        ∙ all_append is_digit (digits_in k (n / 10)) ((48 + n % 10) ∷ [])
        ∙ and_both _ _ e (digit-is (n % 10) (omega arith))

pub decimal-back : NumberReadsBack
unfolding decimal decimal_text
decimal-back n h = (digits-back 19 n h, digits-only 20 n)

-- there is a digit
digits-some : (k n : ℕ) → 1 ≤ length (digits_in (suc k) n)
digits-some k n = go (dec_lt n 10)
  where
    go : Dec (n < 10) → 1 ≤ length (digits_in (suc k) n)
    go (yes s) = rw (digits-one k n s) (omega arith)
    go (no s) = let m : 10 ≤ n = omega arith in rw (digits_more k n m) (simp length-append (omega arith))

decimal-some : (n : ℕ) → 1 ≤ length (decimal_text n)
unfolding decimal_text
decimal-some n = digits-some 19 n

-- a number below a power of ten has no more digits
digits-length : (k j n : ℕ) → n < 10 ^ suc j → length (digits_in k n) ≤ suc j
digits-length zero j n h = omega arith
digits-length (suc k) zero n h = let s : n < 10 = omega arith in rw (digits-one k n s) (omega arith)
digits-length (suc k) (suc j) n h = go (dec_lt n 10) (digits-length k j (n / 10) (omega arith))
  where
    go : Dec (n < 10) → length (digits_in k (n / 10)) ≤ suc j → length (digits_in (suc k) n) ≤ suc (suc j)
    go (yes s) e = rw (digits-one k n s) (omega arith)
    go (no s) e = let m : 10 ≤ n = omega arith in rw (digits_more k n m) (simp length-append (omega arith))

decimal-length : (j n : ℕ) → n < 10 ^ suc j → length (decimal_text n) ≤ suc j
unfolding decimal_text
decimal-length j n h = digits-length 20 j n h

-- ---- values

-- digits are one word
module _ (w : List ℕ) (h : all is_digit w ≡ true) where
  word_bytes : all is_word_byte w ≡ true
  word_bytes = all-of is_word_byte (All-map digit-word (all_true is_digit w h))

  none_left : drop_while is_word_byte w ≡ []
  none_left = (drop_all is_word_byte w).1 word_bytes

  whole_word : take_while is_word_byte w ≡ w
  whole_word =
      sym (append-nil (take_while is_word_byte w))
      ∙ sym (ap (λ (r : List ℕ). take_while is_word_byte w ++ r) none_left)
      ∙ run-split is_word_byte w

module _ (b : ℕ) (w : List ℕ) (h : all is_digit (b ∷ w) ≡ true) where
  digits-token : token_from b w ≡ (constant (pos (decimal (b ∷ w))), [])
  unfolding word
  digits-token =
      let t : all is_digit w ≡ true = and_right (is_digit b) _ h in
      from-word b w (digit-word b (and_left (is_digit b) _ h))
      ∙ ap₂ (λ (x y : List ℕ). (word (b ∷ x), y)) (whole_word w t) (none_left w t)
      ∙ rw h

  minus-token : token_from 45 (b ∷ w) ≡ (constant (neg_ℤ (pos (decimal (b ∷ w)))), [])
  unfolding negative is_word_byte is_name_byte
  minus-token =
      from-minus 45 (b ∷ w) refl refl
      ∙ ap₂ (λ (x y : List ℕ). (negative x, y)) (whole_word (b ∷ w) h) (none_left (b ∷ w) h)
      ∙ rw h

within : (z : ℤ) → is_within32 z ≡ true → whole_token (constant z, []) ≡ some z
within z k = ap (λ (c : Bool). cond c (some z) none) k

-- a word of digits, and one behind a minus
digits_value : (w : List ℕ) → 1 ≤ length w → all is_digit w ≡ true → is_within32 (pos (decimal w)) ≡ true → word_value w ≡ some (pos (decimal w))
unfolding word_value
digits_value [] l h k = absurd (omega arith)
digits_value (b ∷ w) l h k = ap whole_token (digits-token b w h) ∙ within _ k

minus-value : (w : List ℕ) → 1 ≤ length w → all is_digit w ≡ true → is_within32 (neg_ℤ (pos (decimal w))) ≡ true → word_value (45 ∷ w) ≡ some (neg_ℤ (pos (decimal w)))
unfolding word_value
minus-value [] l h k = absurd (omega arith)
minus-value (b ∷ w) l h k = ap whole_token (minus-token b w h) ∙ within _ k

pub value-back : ValueReadsBack
unfolding number_text
value-back (pos n) h =
    let s : n ≤ 2147483647 = leb-true n 2147483647 (and_right true (leb n 2147483647) h) in
    let d = decimal-back n (omega arith) in
    digits_value (decimal_text n) (decimal-some n) d.1 (subst (λ (m : ℕ). is_within32 (pos m) ≡ true) (sym d.0) h) ∙ ap (λ (m : ℕ). some (pos m)) d.0
value-back (negsuc n) h =
    let s : n ≤ 2147483647 = leb-true n 2147483647 (and_left (leb n 2147483647) true h) in
    let d = decimal-back (suc n) (omega arith) in
    minus-value (decimal_text (suc n)) (decimal-some (suc n)) d.1 (subst (λ (m : ℕ). is_within32 (neg_ℤ (pos m)) ≡ true) (sym d.0) h) ∙ ap (λ (m : ℕ). some (neg_ℤ (pos m))) d.0

-- ---- lengths

-- a value of 32 bits has at most 11 bytes
number-length : (n : ℕ) → length (number_text (signed_of n)) ≤ 11
unfolding number_text
number-length n = go (ltb n (2 ^ 31)) refl
  where
    go : (b : Bool) → ltb n (2 ^ 31) ≡ b → length (number_text (cond b (pos n) (negsuc (2 ^ 32 - suc n)))) ≤ 11
    go true e = let k : n < 2 ^ 31 = ltb-true n (2 ^ 31) e in omega (arith, decimal-length 9 n (omega arith))
    go false e =
        let k : 2 ^ 31 ≤ n = ltb-false n (2 ^ 31) e in
        omega (arith, decimal-length 9 (suc (2 ^ 32 - suc n)) (omega arith))

-- four bytes of a row are at most 12 of its text
row-length : (l : List ℕ) → length (row_text (numbers_of l)) ≤ 3 * length l
row-length [] = omega arith
row-length (a ∷ []) = omega arith
row-length (a ∷ b ∷ []) = omega arith
row-length (a ∷ b ∷ c ∷ []) = omega arith
row-length (a ∷ b ∷ c ∷ d ∷ l) =
    let n = four_at (a ∷ b ∷ c ∷ d ∷ []) 0 in
    let k : length (row_text (numbers_of l)) ≤ 3 * length l = row-length l in
    simp length-append (omega (arith, number-length n))

module _ (bs : List ℕ) where
  part_length : (i : ℕ) → length (row_part bs i) ≤ row_bytes bs
  unfolding row_part
  part_length i = go (has_row bs i)
    where
      go : (b : Bool) → length (take (cond b (row_bytes bs) 0) (drop (cond b (8 + i * row_bytes bs) 0) bs)) ≤ row_bytes bs
      go false = omega arith
      go true = omega (arith, length-take (row_bytes bs) (drop (8 + i * row_bytes bs) bs))

  abbrev row : ℕ → List ℤ
  row i = numbers_of (row_part bs i)

  one-length : (i : ℕ) → length (row_text (row i)) ≤ 3 * row_bytes bs
  one-length i = omega (arith, row-length (row_part bs i), part_length i)

  -- of each row 3 bytes for one of its own, and 2 for the stroke, which is half of what the row has at least
  further-length : 1 ≤ columns_in bs → (i n : ℕ) → 2 * length (further_text (map row (from i n))) ≤ 7 * (n * row_bytes bs)
  further-length h i zero = omega arith
  further-length h i (suc n) =
      let k : 2 * length (further_text (map row (from (suc i) n))) ≤ 7 * (n * row_bytes bs) = further-length h (suc i) n in
      simp length-append (omega (arith, one-length i, k, suc-mul n (row_bytes bs), h))

  rows-length : 1 ≤ columns_in bs → (n : ℕ) → 2 * length (rows_text (map row (from 0 n))) ≤ 7 * (n * row_bytes bs)
  rows-length h zero = omega arith
  rows-length h (suc n) =
      let k : 2 * length (further_text (map row (from 1 n))) ≤ 7 * (n * row_bytes bs) = further-length h 1 n in
      simp length-append (omega (arith, one-length 0, k, suc-mul n (row_bytes bs), h))

  shown-length : 2 * length (rows_text (rows_shown bs)) ≤ 7 * length bs
  shown-length = go (is_record bs) refl
    where
      go : (b : Bool) → is_record bs ≡ b → 2 * length (rows_text (map row (from 0 (cond b (row_count bs) 0)))) ≤ 7 * length bs
      go false e = omega arith
      go true e = let l = limits bs e in omega (arith, l.whole, rows-length l.some (row_count bs))

-- ---- what is printed for a line, whatever the numbers in it

digits-most : (k n : ℕ) → length (digits_in k n) ≤ k
digits-most zero n = omega arith
digits-most (suc k) n = go (ltb n 10) (digits-most k (n / 10))
  where
    go : (b : Bool) → length (digits_in k (n / 10)) ≤ k → length {A = ℕ} (elim b [ true ↦ (48 + n) ∷ [] | false ↦ digits_in k (n / 10) ++ ((48 + n % 10) ∷ []) ]) ≤ suc k
    go true h = omega arith
    go false h = simp length-append (omega (arith, h))

decimal-most : (n : ℕ) → length (decimal_text n) ≤ 20
unfolding decimal_text
decimal-most n = digits-most 20 n

refused-short : (n : ℕ) → length (refused_text n) ≤ 64
unfolding refused_text
refused-short n = simp length-append (omega (arith, decimal-most n))

added-short : (kind n : ℕ) → length (added_text kind n) ≤ 64
unfolding added_text
added-short kind n = go (eqb kind of_table) (eqb kind of_query)
  where
    go : (a b : Bool) → length (line (cond a (item "table" n) (cond b (item "query" n) (item "update" n)))) ≤ 64
    go true b = simp length-append (omega (arith, decimal-most n))
    go false true = simp length-append (omega (arith, decimal-most n))
    go false false = simp length-append (omega (arith, decimal-most n))

updated-short : (rows drops : ℕ) → length (updated_text rows drops) ≤ 64
unfolding updated_text
updated-short rows drops = simp length-append (omega (arith, decimal-most rows, decimal-most drops))

source-length : (kept : ℕ) → length (source_word kept) ≤ 5
source-length kept = go (eqb kept 0)
  where
    go : (b : Bool) → length (cond b (bytes "new ") (bytes "kept ")) ≤ 5
    go true = omega arith
    go false = omega arith

pub answer-short : AnswerTextShort
unfolding answer_text
answer-short kept scanned bs = simp length-append (omega (arith, source-length kept, decimal-most scanned, shown-length bs))

-- a text for n bytes that are lent for answers
abbrev Short : ℕ → List ℕ → Type 0
Short n text = 2 * length text ≤ 7 * n + 128

settled-short : (n k : ℕ) (done refused : List ℕ) → Short n done → Short n refused → Short n (settled k done refused)
unfolding settled
settled-short n zero done refused h i = h
settled-short n (suc k) done refused h i = i

-- a question's answer has no more bytes than the buffer, which keeps its length
asked-short : (s : Seen) (n : ℕ) → length s.got.answer ≡ n → Short n (answer_text s.kept s.scanned (take s.got.size s.got.answer))
asked-short s n e =
    let bs = take s.got.size s.got.answer in
    omega (arith, e, length-take s.got.size s.got.answer, answer-short s.kept s.scanned bs)

call-short : (s : Store) (buffer : List ℕ) (c : Call (List ℕ)) (n : ℕ) → Short n (done_text c (step s c).1) → Short n (called s buffer c).text
call-short s buffer c n h =
    let x = (step s c).1 in
    settled-short n x.got.refusal (done_text c x) (refused_text x.got.refusal) h (omega (arith, refused-short x.got.refusal))

taken-short : (s : Store) (buffer : List ℕ) (c : Call (Unit {0})) → let d = lending buffer c in Short (length buffer) (done_text d (step s d).1)
taken-short s buffer (add text) = let g = (step s (add text)).1.got in omega (arith, added-short g.kind g.number)
taken-short s buffer (ask k b) = asked-short (step s (ask k buffer)).1 (length buffer) (step-long s k buffer)
taken-short s buffer (change n zs) = let x = (step s (change n zs)).1 in omega (arith, updated-short x.got.rows x.drops)
taken-short s buffer flush = omega arith
taken-short s buffer _ = omega arith

command-short : (s : Store) (buffer : List ℕ) (c : Command) → Short (length buffer) (commanded s buffer c).text
command-short s buffer (some c) = call-short s buffer (lending buffer c) (length buffer) (taken-short s buffer c)
command-short s buffer none = omega arith

text-length : (s : Store) (buffer line : List ℕ) → Short (length buffer) (answered_of s buffer line).text
unfolding answered_of
text-length s buffer line = command-short s buffer (command_of line)

pub text-short : TextShort
text-short s buffer line h = omega (arith, h, text-length s buffer line)

-- ---- a buffer that is long enough

pub all-printed : AllPrinted
all-printed out text h =
    let e : fitting out 0 text ≡ text = take_all (length out - 0) text (omega arith) in (
      (let z : 0 + length (fitting out 0 text) ≡ length text = omega (arith, ap length e) in z),
      ap (λ (t : List ℕ). take (length text) (written out 0 t)) e ∙ take_at text (drop (0 + length text) out) (length text) refl,
    )
