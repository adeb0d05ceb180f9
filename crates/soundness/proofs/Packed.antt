-- Names as numbers of base 38: a byte's digit, a list of bytes as a number, and that sound names are the same exactly if their numbers are. Assumes nothing.
use mathlib.Core.Path.{◌≡◌, refl, sym, ap, ap₂, ◌∙◌}
use mathlib.Core.Bool.{Bool, true, false, cond, ◌&&◌, ◌||◌, and-false}
use mathlib.Core.List.{List, [], ◌∷◌, map, reverse}
use Prim.Native.Nat.{ℕ, zero, suc, ◌+◌, ◌-◌, ◌*◌, ◌^◌, ◌≤◌, ◌<◌}
use native.Mathlib.Nat.{pow-suc, pow-le-pow_right}
use native.Mathlib.Omega.{arith}
use borrow.Author.Tests.{leb-true, le-leb, eqb-true, eq-eqb, ne_eqb}
use lib.Dec.{eqb, leb, lit<}
use lib.ListN.{length, get_or, take, drop, take-append-drop, set, replicate}
use borrow.Rule.Slice.PartMut.{put_mid}
use Rattle.std.specs.List.{range_with_len}
use native.Mathlib.Numerals.{add-one}
use Rattle.std.specs.Prelude.{None}
use Rattle.std.proofs.lemmas.List.{at_drop_more, get_or-reverse}
use Rattle.lists.specs.Lists.{all, from}
use Rattle.lists.proofs.Bools.{and_left, and_right, and_both, contra, clash}
use Rattle.lists.proofs.Lists.{all_append}
use Rattle.meaning.specs.Tokens.{is_digit, is_small, is_name_byte, is_name}
use Rattle.meaning.specs.Limits.{most_name}
use Rattle.meaning.specs.Names.{same_name}
use Rattle.meaning.proofs.Names.{same-is}
use Rattle.meaning.proofs.Resolve.{same-name}
use Rattle.meaning.proofs.Folding.{small-name}
use Rattle.statement.specs.Catalog.{name_of_struct}
use Rattle.statement.specs.SoundTest.{sound_name}
use Rattle.statement.specs.declared.Name.{Name}
use Rattle.soundness.specs.Private.Parts.{some_if, digit_of, digit_table, packed, packed_name, name_number, code_of}

-- ---- digits

-- a byte, its digit, and whether it is a byte of a name
data Byte (b : ℕ) : ℕ → Bool → Type 0 where
  small : 97 ≤ b → b ≤ 122 → Byte b (b - 97 + 1) true
  digit : 48 ≤ b → b ≤ 57 → Byte b (b - 48 + 27) true
  line : b ≡ 95 → Byte b 37 true
  other : Byte b 0 false

byte : (b : ℕ) → Byte b (digit_of b) (is_name_byte b)
unfolding is_name_byte
byte b = go (is_small b) (is_digit b) (eqb b 95) refl refl refl
  where
    go : (s d l : Bool) → is_small b ≡ s → is_digit b ≡ d → eqb b 95 ≡ l → Byte b (cond s (b - 97 + 1) (cond d (b - 48 + 27) (cond l 37 0))) (s || (d || l))
    go true d l e f g = small (leb-true 97 b (and_left (leb 97 b) _ e)) (leb-true b 122 (and_right (leb 97 b) _ e))
    go false true l e f g = digit (leb-true 48 b (and_left (leb 48 b) _ f)) (leb-true b 57 (and_right (leb 48 b) _ f))
    go false false true e f g = line (eqb-true b 95 g)
    go false false false e f g = other

-- the digits of all bytes
from_at : (f : ℕ → ℕ) (i n k : ℕ) → k < n → get_or (map f (from i n)) k 0 ≡ f (i + k)
from_at f i zero k h = absurd (omega arith)
from_at f i (suc n) zero h = let e : i ≡ i + 0 = omega arith in ap f e
from_at f i (suc n) (suc k) h = let e : suc i + k ≡ i + suc k = omega arith in from_at f (suc i) n k (omega arith) ∙ ap f e

pub table-at : (b : ℕ) → b < 256 → get_or digit_table b 0 ≡ digit_of b
unfolding digit_table
table-at b h = let e : 0 + b ≡ b = omega arith in from_at digit_of 0 256 b h ∙ ap digit_of e

-- letters, numerals and the underscore at their places among zeros
pub table-made : (a z a' z' u : ℕ) (letters numerals : List ℕ) → a ≡ 97 → z ≡ 122 → a' ≡ 48 → z' ≡ 57 → u ≡ 95
    → letters ≡ map (λ (k : ℕ). k + 1) (range_with_len 0 26) → numerals ≡ map (λ (k : ℕ). k + 27) (range_with_len 0 10)
    → set (put_mid a' (z' + 1 - a') (put_mid a (z + 1 - a) (replicate 256 0) letters) numerals) u 37 ≡ digit_table
unfolding digit_table
table-made a z a' z' u letters numerals e f g h k l n =
    (λ i. set (put_mid (g i) (h i + 1 - g i) (put_mid (e i) (f i + 1 - e i) (replicate 256 0) (l i)) (n i)) (k i) 37) ∙ refl

pub digit-below : (b : ℕ) → digit_of b < 38
digit-below b = go (byte b)
  where
    go : {d : ℕ} {t : Bool} → Byte b d t → d < 38
    go (small h k) = omega arith
    go (digit h k) = omega arith
    go (line e) = omega arith
    go other = omega arith

-- a digit of 0 is no byte of a name, and any other is one
pub digit-no : (b : ℕ) → digit_of b ≡ 0 → is_name_byte b ≡ false
digit-no b = go (byte b)
  where
    go : {d : ℕ} {t : Bool} → Byte b d t → d ≡ 0 → t ≡ false
    go (small h k) e = absurd (omega arith)
    go (digit h k) e = absurd (omega arith)
    go (line f) e = absurd (omega arith)
    go other e = refl

pub digit-yes : (b : ℕ) → (digit_of b ≡ 0 → ⊥) → is_name_byte b ≡ true
digit-yes b = go (byte b)
  where
    go : {d : ℕ} {t : Bool} → Byte b d t → (d ≡ 0 → ⊥) → t ≡ true
    go (small h k) n = refl
    go (digit h k) n = refl
    go (line f) n = refl
    go other n = absurd (n refl)

digit-some : (b : ℕ) → is_name_byte b ≡ true → 1 ≤ digit_of b
digit-some b h = go (byte b) h
  where
    go : {d : ℕ} {t : Bool} → Byte b d t → t ≡ true → 1 ≤ d
    go (small h k) e = omega arith
    go (digit h k) e = omega arith
    go (line f) e = omega arith
    go other e = clash e refl

digit-once : (b c : ℕ) → is_name_byte b ≡ true → is_name_byte c ≡ true → digit_of b ≡ digit_of c → b ≡ c
digit-once b c h k e = go (byte b) (byte c) h k e
  where
    go : {d e : ℕ} {t u : Bool} → Byte b d t → Byte c e u → t ≡ true → u ≡ true → d ≡ e → b ≡ c
    go (small a a') (small x x') h k e = omega arith
    go (small a a') (digit x x') h k e = absurd (omega arith)
    go (small a a') (line x) h k e = absurd (omega arith)
    go (digit a a') (small x x') h k e = absurd (omega arith)
    go (digit a a') (digit x x') h k e = omega arith
    go (digit a a') (line x) h k e = absurd (omega arith)
    go (line a) (small x x') h k e = absurd (omega arith)
    go (line a) (digit x x') h k e = absurd (omega arith)
    go (line a) (line x) h k e = omega arith
    go other y h k e = clash h refl
    go (small a a') other h k e = clash k refl
    go (digit a a') other h k e = clash k refl
    go (line a) other h k e = clash k refl

-- ---- bytes of names as numbers

packed-some : (b : ℕ) (bs : List ℕ) → all is_name_byte (b ∷ bs) ≡ true → 1 ≤ packed (b ∷ bs)
packed-some b bs h = omega (arith, digit-some b (and_left (is_name_byte b) _ h))

packed-once : (x y : List ℕ) → all is_name_byte x ≡ true → all is_name_byte y ≡ true → packed x ≡ packed y → x ≡ y
packed-once [] [] h k e = refl
packed-once [] (c ∷ y) h k e = absurd (omega (arith, packed-some c y k))
packed-once (b ∷ x) [] h k e = absurd (omega (arith, packed-some b x h))
packed-once (b ∷ x) (c ∷ y) h k e =
    let p : digit_of b ≡ digit_of c = omega (arith, digit-below b, digit-below c) in
    let q : packed x ≡ packed y = omega arith in
    ap₂ ◌∷◌ (digit-once b c (and_left (is_name_byte b) _ h) (and_left (is_name_byte c) _ k) p)
    (packed-once x y (and_right (is_name_byte b) _ h) (and_right (is_name_byte c) _ k) q)

-- ---- the loop from the last byte to the first: the bytes passed are bytes of a name, and their number is below the power that they can reach

pub power_small : (k : ℕ) → k ≤ 11 → 38 ^ k ≤ 238572050223552512
power_small k h = pow-le-pow_right (lit< tt) h

-- the last k bytes are passed
module _ (bytes : List ℕ) where
  pub record Packing (code k : ℕ) : Type 0 where
    pub within : k ≤ length bytes
    pub named : all is_name_byte (drop (length bytes - k) bytes) ≡ true
    pub number : code ≡ packed (drop (length bytes - k) bytes)
    pub small : code < 38 ^ k

  -- b is the byte before them
  module _ (code k b : ℕ) (P : Packing code k) (h : k < length bytes) (at : b ≡ get_or (reverse bytes) k b) where
    step : drop (length bytes - (k + 1)) bytes ≡ b ∷ drop (length bytes - k) bytes
    step =
        let i : ℕ = length bytes - 1 - k in
        let e : length bytes - (k + 1) ≡ i = omega arith in
        let f : i + 1 ≡ length bytes - k = omega arith in
        ap (λ (j : ℕ). drop j bytes) e
        ∙ at_drop_more (λ (l : List ℕ). l) bytes i b (omega arith)
        ∙ ap₂ (λ (x j : ℕ). x ∷ drop j bytes) (sym (at ∙ get_or-reverse bytes k b h)) f

    pub packing-more : (d : ℕ) → d ≡ digit_of b → (d ≡ 0 → ⊥) → Packing (code * 38 + d) (k + 1)
    packing-more d e s =
        let p : 38 ^ suc k ≡ 38 ^ k * 38 = pow-suc 38 k in
        let q : k + 1 ≡ suc k = add-one k in
        record {
          within = omega arith;
          named = ap (all is_name_byte) step ∙ ap₂ ◌&&◌ (digit-yes b (λ z. s (e ∙ z))) P.named;
          number = omega (arith, ap packed step, P.number);
          small = rw (q, p) (omega (arith, P.small, digit-below b));
        }

    pub packing-stop : digit_of b ≡ 0 → None ≡ packed_name bytes
    packing-stop e =
        let j : ℕ = length bytes - (k + 1) in
        let t : all is_name_byte (drop j bytes) ≡ false =
        ap (all is_name_byte) step ∙ ap (λ (t : Bool). t && all is_name_byte (drop (length bytes - k) bytes)) (digit-no b e) in
        let a : all is_name_byte bytes ≡ false =
        ap (all is_name_byte) (sym (take-append-drop j bytes))
        ∙ all_append is_name_byte (take j bytes) (drop j bytes) ∙ ap (λ (x : Bool). all is_name_byte (take j bytes) && x) t ∙ and-false (all is_name_byte (take j bytes)) in
        sym (ap (λ (x : Bool). some_if x (packed bytes)) a)

-- ---- names

module _ (k : ℕ) (l : List ℕ) where
  -- the first k bytes of a list that begins with a small letter, as the loop takes them
  started : 1 ≤ k → is_small (get_or l 0 0) ≡ true → packed_name (take k l) ≡ some_if (is_name (take k l)) (packed (take k l))
  unfolding is_name
  started h e = go k l h e
    where
      go : (k : ℕ) (l : List ℕ) → 1 ≤ k → is_small (get_or l 0 0) ≡ true → packed_name (take k l) ≡ some_if (is_name (take k l)) (packed (take k l))
      go zero l h e = absurd (omega arith)
      go (suc k) [] h e = clash e refl
      go (suc k) (b ∷ l) h e = ap (λ (t : Bool). some_if (t && all is_name_byte (take k l)) (packed (b ∷ take k l))) (small-name b e ∙ sym e)

  not-started : is_small (get_or l 0 0) ≡ false → is_name (take k l) ≡ false
  unfolding is_name
  not-started e = go k l e
    where
      go : (k : ℕ) (l : List ℕ) → is_small (get_or l 0 0) ≡ false → is_name (take k l) ≡ false
      go zero l e = refl
      go (suc k) [] e = refl
      go (suc k) (b ∷ l) e = ap (λ (t : Bool). t && all is_name_byte (take k l)) e

name-bytes : (w : List ℕ) → is_name w ≡ true → all is_name_byte w ≡ true
unfolding is_name
name-bytes [] h = clash h refl
name-bytes (b ∷ w) h = ap₂ ◌&&◌ (small-name b (and_left (is_small b) _ h)) (and_right (is_small b) _ h)

-- a name has a byte
name-long : (k : ℕ) (l : List ℕ) → is_name (take k l) ≡ true → 1 ≤ k
unfolding is_name
name-long zero l e = clash e refl
name-long (suc k) l e = omega arith

-- ---- the number of a name
module _ (n : Name) where
  abbrev begins : Bool
  begins = (leb 1 n.len && leb n.len 12) && is_small (get_or n.bytes 0 0)

  started-small : (b : Bool) → (b ≡ false → ⊥) → b ≡ true
  started-small true f = refl
  started-small false f = absurd (f refl)

  begins-sound : begins ≡ false → sound_name n ≡ false
  begins-sound e = contra (sound_name n) false (λ h. clash (both h) e) refl
    where
      both : sound_name n ≡ true → begins ≡ true
      both h =
          let few : leb n.len 12 ≡ true = and_left (leb n.len most_name) _ h in
          let named : is_name (name_of_struct n) ≡ true = and_right (leb n.len most_name) _ h in
          and_both (leb 1 n.len && leb n.len 12) _
          (and_both (leb 1 n.len) _ (le-leb 1 n.len (name-long n.len n.bytes named)) few)
          (started-small (is_small (get_or n.bytes 0 0)) (λ f. clash named (not-started n.len n.bytes f)))

  pub code-packed : begins ≡ true → packed_name (take n.len n.bytes) ≡ code_of n
  code-packed e =
      let fits : (leb 1 n.len && leb n.len 12) ≡ true = and_left (leb 1 n.len && leb n.len 12) _ e in
      started n.len n.bytes (leb-true 1 n.len (and_left (leb 1 n.len) _ fits)) (and_right (leb 1 n.len && leb n.len 12) _ e)
      ∙ ap (λ (t : Bool). some_if (t && is_name (name_of_struct n)) (name_number n)) (sym (and_right (leb 1 n.len) _ fits))

  pub code-none : begins ≡ false → None ≡ code_of n
  code-none e = ap (λ (t : Bool). some_if t (name_number n)) (sym (begins-sound e))

-- sound names are the same exactly if their numbers are
pub number_same : (m n : Name) → sound_name m ≡ true → sound_name n ≡ true → eqb (name_number m) (name_number n) ≡ same_name (name_of_struct m) (name_of_struct n)
number_same m n h k = go (same_name (name_of_struct m) (name_of_struct n)) refl
  where
    named : (p : Name) → sound_name p ≡ true → all is_name_byte (name_of_struct p) ≡ true
    named p e = name-bytes (name_of_struct p) (and_right (leb p.len most_name) _ e)

    go : (t : Bool) → same_name (name_of_struct m) (name_of_struct n) ≡ t → eqb (name_number m) (name_number n) ≡ t
    go true e = eq-eqb (name_number m) (name_number n) (ap packed (same-is (name_of_struct m) (name_of_struct n) e))
    go false e =
        ne_eqb (name_number m) (name_number n) (λ q.
        let same : name_of_struct m ≡ name_of_struct n = packed-once (name_of_struct m) (name_of_struct n) (named m h) (named n k) q in
        clash (ap (same_name (name_of_struct m)) (sym same) ∙ same-name (name_of_struct m)) e)
