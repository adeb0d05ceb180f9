-- The demands of specs/Demand about texts that differ in case, request A.2: of a text that is added its tokens and its length count; and the tokens of a text
-- are its keywords and, for the rest, the tokens of the text in small letters. Assumes nothing.
use mathlib.Core.Path.{◌≡◌, refl, sym, ap, ap₂, ◌∙◌}
use mathlib.Core.Bool.{Bool, true, false, cond, ◌||◌, or-false}
use mathlib.Core.Option.{Option, none, some}
use mathlib.Core.List.{List, [], ◌∷◌, map}
use Prim.Native.Nat.{ℕ, zero, suc, ◌+◌, ◌<◌}
use Prim.Native.String.{String}
use native.Mathlib.Omega.{arith}
use borrow.Author.Tests.{ltb-true, ne_eqb}
use lib.Dec.{eqb, ltb}
use lib.ListN.{length, length-map, drop}
use Rattle.lists.specs.Lists.{bytes, all, take_while, drop_while}
use Rattle.lists.proofs.Bools.{and_left, and_right}
use Rattle.meaning.specs.Tokens.{Keyword, Token, other, is_digit, is_capital, is_word_byte, is_space, is_minus, folded_byte, folded, negative, signs, behind_prefix, sign_in, token_from, token_here, first_token, scan, tokens}
use Rattle.meaning.specs.Grammar.{Sentence}
use Rattle.meaning.specs.Reader.{read, sentence}
use Rattle.meaning.specs.Limits.{most_text}
use Rattle.meaning.specs.Plain.{other_lengths, catalog_of, refusal, refused, text_added, guard}
use Rattle.meaning.specs.Refusals.{add_conditions, text_conditions, lowest_of}
use Rattle.meaning.specs.Demand.{keyword_of, SameTokens, SameText}
use Rattle.meaning.proofs.Folding.{Capital, capital, no-capital, digit-folded, word-folded, all-folded, digits_same, chosen, chosen-same, word-chosen}
use Rattle.meaning.proofs.Stream.{from-word, from-minus, from-sign, sign-here, sign-later, scan-none, scan-some}

-- ---- a text counts by its length and its tokens

pub same_tokens : SameTokens
unfolding refusal
same_tokens lent p text text' l e =
    ap (λ (s : Option Sentence). guard (lowest_of (add_conditions (other_lengths lent p) (catalog_of p) text s)) p refused (text_added p s)) (ap read e)
    ∙ ap (λ (n : ℕ). guard (lowest_of ((2, other_lengths lent p) ∷ (3, ltb most_text n) ∷ drop 1 (text_conditions (catalog_of p) text (sentence text')))) p refused (text_added p (sentence text'))) l

-- ---- bytes and runs of bytes in small letters

word_byte : (b : ℕ) → is_word_byte (folded_byte b) ≡ is_word_byte b
unfolding is_word_byte
word_byte b = ap₂ ◌||◌ (word-folded b) (no-capital b) ∙ or-false (is_word_byte b)

-- bytes below the letters are no folded ones
low_byte : (c b : ℕ) → c < 65 → eqb c (folded_byte b) ≡ eqb c b
low_byte c b h = go (is_capital b) refl
  where
    go : (x : Bool) → is_capital b ≡ x → eqb c (cond x (b + 32) b) ≡ eqb c b
    go false e = refl
    go true e =
        let C : Capital b = capital b e in
        ne_eqb c (b + 32) (λ (q : c ≡ b + 32). absurd (omega (arith, h, C.low))) ∙ sym (ne_eqb c b (λ (q : c ≡ b). absurd (omega (arith, h, C.low))))

byte_low : (c b : ℕ) → c < 65 → eqb (folded_byte b) c ≡ eqb b c
byte_low c b h = go (is_capital b) refl
  where
    go : (x : Bool) → is_capital b ≡ x → eqb (cond x (b + 32) b) c ≡ eqb b c
    go false e = refl
    go true e =
        let C : Capital b = capital b e in
        ne_eqb (b + 32) c (λ (q : b + 32 ≡ c). absurd (omega (arith, h, C.low))) ∙ sym (ne_eqb b c (λ (q : b ≡ c). absurd (omega (arith, h, C.low))))

module _ (p : ℕ → Bool) (h : (b : ℕ) → p (folded_byte b) ≡ p b) where
  take-folded : (s : List ℕ) → take_while p (folded s) ≡ folded (take_while p s)
  take-folded [] = refl
  take-folded (b ∷ s) = ap (λ (x : Bool). cond x (folded_byte b ∷ take_while p (folded s)) []) (h b) ∙ go (p b) (take-folded s)
    where
      go : (x : Bool) → take_while p (folded s) ≡ folded (take_while p s) → cond x (folded_byte b ∷ take_while p (folded s)) [] ≡ folded (cond x (b ∷ take_while p s) [])
      go true e = ap (λ r. folded_byte b ∷ r) e
      go false e = refl

  drop-folded : (s : List ℕ) → drop_while p (folded s) ≡ folded (drop_while p s)
  drop-folded [] = refl
  drop-folded (b ∷ s) = ap (λ (x : Bool). cond x (drop_while p (folded s)) (folded (b ∷ s))) (h b) ∙ go (p b) (drop-folded s)
    where
      go : (x : Bool) → drop_while p (folded s) ≡ folded (drop_while p s) → cond x (drop_while p (folded s)) (folded (b ∷ s)) ≡ folded (cond x (drop_while p s) (b ∷ s))
      go true e = e
      go false e = refl

-- ---- the token at a byte

negative-none : (w : List ℕ) → all is_digit w ≡ false → negative w ≡ other
unfolding negative
negative-none [] d = refl
negative-none (b ∷ w) d = rw d

negative-folded : (w : List ℕ) → negative (folded w) ≡ negative w
negative-folded w = go (all is_digit w) refl
  where
    go : (x : Bool) → all is_digit w ≡ x → negative (folded w) ≡ negative w
    go true d = ap negative (digits_same w d)
    go false d = negative-none (folded w) (all-folded is_digit is_digit digit-folded w ∙ d) ∙ sym (negative-none w d)

abbrev folded_after : Option (List ℕ) → Option (List ℕ)
folded_after none = none
folded_after (some s) = some (folded s)

abbrev is_low : ℕ → Bool
is_low b = ltb b 65

prefix-folded : (p s : List ℕ) → all is_low p ≡ true → behind_prefix p (folded s) ≡ folded_after (behind_prefix p s)
prefix-folded [] s h = refl
prefix-folded (c ∷ p) [] h = refl
prefix-folded (c ∷ p) (b ∷ s) h =
    ap (λ (x : Bool). cond x (behind_prefix p (folded s)) none) (low_byte c b (ltb-true c 65 (and_left (is_low c) (all is_low p) h)))
    ∙ go (eqb c b) (prefix-folded p s (and_right (is_low c) (all is_low p) h))
  where
    go : (x : Bool) → behind_prefix p (folded s) ≡ folded_after (behind_prefix p s) → cond x (behind_prefix p (folded s)) none ≡ folded_after (cond x (behind_prefix p s) none)
    go true e = e
    go false e = refl

-- the token and the text after it, where the text is in small letters
pub record Folds (x y : Token × List ℕ) : Type 0 where
  pub token : x.0 ≡ chosen (keyword_of x.0) y.0
  pub rest : y.1 ≡ folded x.1

abbrev is_sign : String × Token → Bool
is_sign x = all is_low (bytes x.0)

sign-folds : (xs : List (String × Token)) (b : ℕ) (s : List ℕ) → all is_sign xs ≡ true → Folds (sign_in xs b s) (sign_in xs (folded_byte b) (folded s))
sign-folds [] b s h = record { token = refl; rest = refl }
sign-folds (x ∷ xs) b s h =
    go (behind_prefix (bytes x.0) (b ∷ s)) refl (prefix-folded (bytes x.0) (b ∷ s) (and_left (is_sign x) (all is_sign xs) h)) (sign-folds xs b s (and_right (is_sign x) (all is_sign xs) h))
  where
    go : (o : Option (List ℕ)) → behind_prefix (bytes x.0) (b ∷ s) ≡ o
        → behind_prefix (bytes x.0) (folded (b ∷ s)) ≡ folded_after (behind_prefix (bytes x.0) (b ∷ s))
        → Folds (sign_in xs b s) (sign_in xs (folded_byte b) (folded s))
        → Folds (sign_in (x ∷ xs) b s) (sign_in (x ∷ xs) (folded_byte b) (folded s))
    go none e f ih = rw (sign-later x xs b s e, sign-later x xs (folded_byte b) (folded s) (f ∙ ap folded_after e)) ih
    go (some left) e f ih =
        rw (sign-here x xs b s left e, sign-here x xs (folded_byte b) (folded s) (folded left) (f ∙ ap folded_after e))
        record { token = chosen-same x.1 x.1 refl; rest = refl }

from-folds : (b : ℕ) (s : List ℕ) → Folds (token_from b s) (token_from (folded_byte b) (folded s))
from-folds b s = go (is_word_byte b) (is_minus b) refl refl
  where
    left : drop_while is_word_byte (folded s) ≡ folded (drop_while is_word_byte s)
    left = drop-folded is_word_byte word_byte s

    run : take_while is_word_byte (folded s) ≡ folded (take_while is_word_byte s)
    run = take-folded is_word_byte word_byte s

    go : (w m : Bool) → is_word_byte b ≡ w → is_minus b ≡ m → Folds (token_from b s) (token_from (folded_byte b) (folded s))
    go true m e f =
        rw (from-word b s e, from-word (folded_byte b) (folded s) (word_byte b ∙ e), run, left)
        record { token = word-chosen (b ∷ take_while is_word_byte s); rest = refl }
    go false true e f =
        rw (from-minus b s e f, from-minus (folded_byte b) (folded s) (word_byte b ∙ e) (byte_low 45 b (omega arith) ∙ f), run, left)
        record { token = chosen-same _ _ (sym (negative-folded (take_while is_word_byte s))); rest = refl }
    go false false e f =
        rw (from-sign b s e f, from-sign (folded_byte b) (folded s) (word_byte b ∙ e) (byte_low 45 b (omega arith) ∙ f))
        (sign-folds signs b s refl)

-- ---- the tokens of a text

abbrev merged : List (Option Keyword) → List Token → List Token
merged [] ts = []
merged (k ∷ ks) [] = []
merged (k ∷ ks) (t ∷ ts) = chosen k t ∷ merged ks ts

scan-merged : (n : ℕ) (s : List ℕ) → scan n s ≡ merged (map keyword_of (scan n s)) (scan n (folded s))
unfolding scan first_token
scan-merged zero s = refl
scan-merged (suc n) s = go (drop_while is_space s) refl (drop-folded is_space (λ (b : ℕ). byte_low 32 b (omega arith)) s) (scan-merged n)
  where
    go : (us : List ℕ) → drop_while is_space s ≡ us → drop_while is_space (folded s) ≡ folded (drop_while is_space s)
        → ((r : List ℕ) → scan n r ≡ merged (map keyword_of (scan n r)) (scan n (folded r)))
        → scan (suc n) s ≡ merged (map keyword_of (scan (suc n) s)) (scan (suc n) (folded s))
    go [] e f ih =
        let a : scan (suc n) s ≡ [] = scan-none n s (ap token_here e) in
        a ∙ sym (ap (λ (ts : List Token). merged (map keyword_of ts) (scan (suc n) (folded s))) a)
    go (b ∷ us) e f ih =
        let x : Token × List ℕ = token_from b us in
        let y : Token × List ℕ = token_from (folded_byte b) (folded us) in
        let F : Folds x y = from-folds b us in
        let a : scan (suc n) s ≡ x.0 ∷ scan n x.1 = scan-some n s x.0 x.1 (ap token_here e) in
        let c : scan (suc n) (folded s) ≡ y.0 ∷ scan n (folded x.1) =
        scan-some n (folded s) y.0 y.1 (ap token_here (f ∙ ap folded e)) ∙ ap (λ (r : List ℕ). y.0 ∷ scan n r) F.rest in
        a
        ∙ ap₂ (λ (t : Token) (ts : List Token). t ∷ ts) F.token (ih x.1)
        ∙ sym (ap₂ (λ (ts us : List Token). merged (map keyword_of ts) us) a c)

pub tokens-merged : (s : List ℕ) → tokens s ≡ merged (map keyword_of (tokens s)) (tokens (folded s))
unfolding tokens
tokens-merged s =
    scan-merged (length s) s ∙ ap (λ (n : ℕ). merged (map keyword_of (scan (length s) s)) (scan n (folded s))) (sym (length-map s folded_byte))

-- ---- the claim

pub same_text : SameText
same_text lent p text text' e k =
    same_tokens lent p text text'
    (sym (length-map text folded_byte) ∙ ap length e ∙ length-map text' folded_byte)
    (tokens-merged text ∙ ap₂ (λ (ks : List (Option Keyword)) (s : List ℕ). merged ks (tokens s)) k e ∙ sym (tokens-merged text'))
