-- Laws of the tokens of a text: `tokens` is the first token and then the tokens of the text after it, whatever number of tokens `scan` is allowed, if
-- that is enough; spaces in front change nothing. Assumes nothing.
use mathlib.Core.Path.{◌≡◌, refl, sym, ap, ap₂, ◌∙◌}
use mathlib.Core.Logic.{◌↔◌}
use mathlib.Core.Bool.{Bool, true, false, cond}
use mathlib.Core.Option.{Option, none, some}
use mathlib.Core.List.{List, [], ◌∷◌}
use Prim.Native.Nat.{ℕ, zero, suc, ◌+◌, ◌≤◌, ◌<◌}
use Prim.Native.String.{String}
use native.Mathlib.Nat.{le_refl}
use native.Mathlib.Omega.{arith}
use borrow.Author.Tests.{ltb-true}
use lib.Dec.{ltb, eqb}
use lib.ListN.{length}
use Rattle.lists.specs.Lists.{bytes, all, take_while, drop_while}
use Rattle.lists.proofs.Bools.{and_left, and_right}
use Rattle.lists.proofs.Runs.{take-yes, drop-yes, drop-short, drop-twice, drop_all}
use Rattle.meaning.specs.Tokens.{Token, is_word_byte, is_space, is_minus, word, negative, signs, behind_prefix, sign_in, token_from, token_here, first_token, scan, tokens}
use Rattle.meaning.specs.Demand.{tokens_from, FirstThenRest}
use Rattle.meaning.proofs.Readers.{some-none, some_same}

-- ---- the token at a byte that is no space: a word, a minus and a word, or a sign

module _ (b : ℕ) (s : List ℕ) where
  pub from-word : is_word_byte b ≡ true → token_from b s ≡ (word (b ∷ take_while is_word_byte s), drop_while is_word_byte s)
  unfolding token_from
  from-word e = rw (e, token_from) (ap₂ (λ w left. (word w, left)) (take-yes is_word_byte b s e) (drop-yes is_word_byte b s e))

  pub from-minus : is_word_byte b ≡ false → is_minus b ≡ true → token_from b s ≡ (negative (take_while is_word_byte s), drop_while is_word_byte s)
  unfolding token_from
  from-minus e m = rw (e, token_from) (rw m)

  pub from-sign : is_word_byte b ≡ false → is_minus b ≡ false → token_from b s ≡ sign_in signs b s
  unfolding token_from
  from-sign e m = rw (e, token_from) (rw m)

-- ---- each token takes a byte or more

pub prefix-length : (p s left : List ℕ) → behind_prefix p s ≡ some left → length p + length left ≡ length s
prefix-length [] s left e = let q = ap length (some_same e) in omega arith
prefix-length (b ∷ p) [] left e = some-none (sym e)
prefix-length (b ∷ p) (c ∷ s) left e = go (eqb b c) e (prefix-length p s left)
  where
    go : (t : Bool) → cond t (behind_prefix p s) none ≡ some left → (behind_prefix p s ≡ some left → length p + length left ≡ length s)
        → length (b ∷ p) + length left ≡ length (c ∷ s)
    go true q ih = let h = ih q in omega arith
    go false q ih = some-none (sym q)

abbrev is_long : String × Token → Bool
is_long x = ltb 0 (length (bytes x.0))

module _ (x : String × Token) (xs : List (String × Token)) (b : ℕ) (s : List ℕ) where
  pub sign-here : (left : List ℕ) → behind_prefix (bytes x.0) (b ∷ s) ≡ some left → sign_in (x ∷ xs) b s ≡ (x.1, left)
  sign-here left e = rw (e, sign_in)

  pub sign-later : behind_prefix (bytes x.0) (b ∷ s) ≡ none → sign_in (x ∷ xs) b s ≡ sign_in xs b s
  sign-later e = rw (e, sign_in)

sign-short : (xs : List (String × Token)) (b : ℕ) (s : List ℕ) → all is_long xs ≡ true → length (sign_in xs b s).1 ≤ length s
sign-short [] b s h = le_refl (length s)
sign-short (x ∷ xs) b s h = go (behind_prefix (bytes x.0) (b ∷ s)) refl (sign-short xs b s (and_right (is_long x) (all is_long xs) h))
  where
    go : (o : Option (List ℕ)) → behind_prefix (bytes x.0) (b ∷ s) ≡ o → length (sign_in xs b s).1 ≤ length s → length (sign_in (x ∷ xs) b s).1 ≤ length s
    go none e ih = rw (sign-later x xs b s e) ih
    go (some left) e ih =
        let k = ltb-true 0 (length (bytes x.0)) (and_left (is_long x) (all is_long xs) h) in
        rw (sign-here x xs b s left e) (omega (arith, prefix-length (bytes x.0) (b ∷ s) left e))

pub from-short : (b : ℕ) (s : List ℕ) → length (token_from b s).1 ≤ length s
from-short b s = go (is_word_byte b) (is_minus b) refl refl
  where
    go : (w m : Bool) → is_word_byte b ≡ w → is_minus b ≡ m → length (token_from b s).1 ≤ length s
    go true m e f = rw (from-word b s e) (drop-short is_word_byte s)
    go false true e f = rw (from-minus b s e f) (drop-short is_word_byte s)
    go false false e f = rw (from-sign b s e f) (sign-short signs b s refl)

-- the text after the first token is shorter
pub first-shorter : (s : List ℕ) (t : Token) (left : List ℕ) → first_token s ≡ some (t, left) → length left < length s
unfolding first_token
first-shorter s t left e = go (drop_while is_space s) e (drop-short is_space s)
  where
    go : (us : List ℕ) → token_here us ≡ some (t, left) → length us ≤ length s → length left < length s
    go [] q h = some-none (sym q)
    go (b ∷ us) q h = omega (arith, from-short b us, ap (λ r. length r.1) (some_same q))

-- ---- unrolling

module _ (n : ℕ) (s : List ℕ) where
  pub scan-none : first_token s ≡ none → scan (suc n) s ≡ []
  unfolding scan
  scan-none e = rw (e, scan)

  pub scan-some : (t : Token) (left : List ℕ) → first_token s ≡ some (t, left) → scan (suc n) s ≡ t ∷ scan n left
  unfolding scan
  scan-some t left e = rw (e, scan)

scan-nothing : (n : ℕ) (s : List ℕ) → length s ≤ 0 → scan n s ≡ []
unfolding scan first_token
scan-nothing zero s h = refl
scan-nothing (suc n) [] h = refl
scan-nothing (suc n) (b ∷ s) h = absurd (omega arith)

-- the same tokens, however many are allowed, from one a byte on
pub scan-same : (n m : ℕ) (s : List ℕ) → length s ≤ n → length s ≤ m → scan n s ≡ scan m s
scan-same zero m s h k = scan-nothing zero s h ∙ sym (scan-nothing m s h)
scan-same (suc n) zero s h k = scan-nothing (suc n) s k ∙ sym (scan-nothing zero s k)
scan-same (suc n) (suc m) s h k = go (first_token s) refl (λ us. scan-same n m us)
  where
    go : (o : Option (Token × List ℕ)) → first_token s ≡ o → ((us : List ℕ) → length us ≤ n → length us ≤ m → scan n us ≡ scan m us) → scan (suc n) s ≡ scan (suc m) s
    go none e ih = scan-none n s e ∙ sym (scan-none m s e)
    go (some x) e ih =
        let short = first-shorter s x.0 x.1 e in
        scan-some n s x.0 x.1 e ∙ ap (λ ts. x.0 ∷ ts) (ih x.1 (omega arith) (omega arith)) ∙ sym (scan-some m s x.0 x.1 e)

-- so many tokens as bytes are enough
pub scan-enough : (n : ℕ) (s : List ℕ) → length s ≤ n → scan n s ≡ tokens s
unfolding tokens
scan-enough n s h = scan-same n (length s) s h (le_refl (length s))

-- a text without a first token has none
pub tokens_none : (s : List ℕ) → first_token s ≡ none → tokens s ≡ []
tokens_none s e = sym (scan-enough (suc (length s)) s (omega arith)) ∙ scan-none (length s) s e

-- the first token, and then those of the text after it
pub tokens-some : (s : List ℕ) (t : Token) (left : List ℕ) → first_token s ≡ some (t, left) → tokens s ≡ t ∷ tokens left
tokens-some s t left e =
    let h = first-shorter s t left e in
    sym (scan-enough (suc (length s)) s (omega arith)) ∙ scan-some (length s) s t left e ∙ ap (λ ts. t ∷ ts) (scan-enough (length s) left (omega arith))

pub first_then_rest : FirstThenRest
first_then_rest s = go (first_token s) refl
  where
    go : (o : Option (Token × List ℕ)) → first_token s ≡ o → tokens s ≡ tokens_from o
    go none e = tokens_none s e
    go (some x) e = tokens-some s x.0 x.1 e

-- ---- spaces

-- spaces in front change nothing
pub first-spaces : (s : List ℕ) → first_token (drop_while is_space s) ≡ first_token s
unfolding first_token
first-spaces s = ap token_here (drop-twice is_space s)

-- there is no first token exactly if all bytes are spaces
pub first-none : (s : List ℕ) → (first_token s ≡ none) ↔ (all is_space s ≡ true)
unfolding first_token
first-none s = (
  (λ e. (drop_all is_space s).0 (go (drop_while is_space s) e)),
  (λ h. ap token_here ((drop_all is_space s).1 h)),
)
  where
    go : (us : List ℕ) → token_here us ≡ none → us ≡ []
    go [] q = refl
    go (b ∷ us) q = some-none q
