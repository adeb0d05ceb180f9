-- Laws of words: which are keywords, and which are names. Assumes nothing.
use mathlib.Core.Path.{◌≡◌, refl, sym, ap, ◌∙◌}
use mathlib.Core.Bool.{Bool, true, false, cond, ◌||◌, or-true}
use mathlib.Core.List.{List, [], ◌∷◌}
use Prim.Native.Nat.{ℕ, ◌<◌}
use Prim.Native.String.{String}
use native.Mathlib.Omega.{arith}
use lib.Dec.{eqb}
use lib.ListN.{length, get_or}
use Rattle.std.specs.List.{list_all}
use Rattle.std.proofs.lemmas.Slice.Eq.{HasBytesAt, text_from_reads}
use Rattle.lists.specs.Lists.{bytes, all, any}
use Rattle.lists.specs.Tests.{eq_list}
use Rattle.lists.proofs.Bools.{and_right}
use Rattle.lists.proofs.Chains.{all-is}
use Rattle.meaning.specs.Tokens as M
use Rattle.meaning.specs.Tokens.{Keyword, keyword, name, constant, other, keyword_or, word, negative, decimal, is_digit, is_small, is_capital, is_name_byte, is_word_byte, folded}
use Rattle.meaning.proofs.Folding.{name-begins}
use Rattle.token.specs.declared.Kind.TheVariants.{Name, Other}
use Rattle.token.specs.Tokens.{kind_of}
use Rattle.token.specs.Private.Parts.{signed, is_number, name_of, keyword_or_name_of}

-- whether a word is one of the keywords
abbrev pub is_among : List (String × Keyword) → List ℕ → Bool
is_among xs w = any (λ (x : String × Keyword). eq_list eqb w (bytes x.0)) xs

-- another token is looked at only where it is none of them
pub keyword-or : (xs : List (String × Keyword)) (t : M.Token) (w : List ℕ) → keyword_or xs t w ≡ cond (is_among xs w) (keyword_or xs other w) t
keyword-or [] t w = refl
keyword-or (x ∷ xs) t w = go (eq_list eqb w (bytes x.0)) (keyword-or xs t w)
  where
    go : (b : Bool) → keyword_or xs t w ≡ cond (is_among xs w) (keyword_or xs other w) t
        → cond b (keyword x.1) (keyword_or xs t w) ≡ cond (b || is_among xs w) (cond b (keyword x.1) (keyword_or xs other w)) t
    go true h = refl
    go false h = h

-- a word that has the bytes of another is the same keyword
pub spelled : (w v : List ℕ) → length w ≡ length v → HasBytesAt w 0 v → kind_of (keyword_or_name_of v) ≡ kind_of (keyword_or_name_of w)
spelled w v l h = sym (ap (λ u. kind_of (keyword_or_name_of u)) (text_from_reads w v l h))

-- a name begins with a letter
pub name-is : (w : List ℕ) → 0 < length w → all is_word_byte w ≡ true → cond (is_small (get_or w 0 0) || is_capital (get_or w 0 0)) Name Other ≡ kind_of (name_of w)
name-is [] l h = absurd (omega arith)
name-is (b ∷ w) l h =
    go (is_small b || is_capital b) ∙ ap (λ x. kind_of (cond x (name (folded (b ∷ w))) other)) (sym (name-begins b w (and_right (is_word_byte b) (all is_word_byte w) h)))
  where
    go : (x : Bool) → cond x Name Other ≡ kind_of (cond x (name (folded (b ∷ w))) other)
    go true = refl
    go false = refl

-- digits are a constant
pub word-is : (w : List ℕ) → 0 < length w → kind_of (word w) ≡ kind_of (cond (is_number w) (constant (signed false (decimal w))) (keyword_or_name_of w))
unfolding word
word-is [] l = absurd (omega arith)
word-is (b ∷ w) l = refl

pub number-is : (w : List ℕ) → 0 < length w → is_number w ≡ list_all is_digit w
number-is [] l = absurd (omega arith)
number-is (b ∷ w) l = sym (all-is is_digit (b ∷ w))

pub negative-is : (w : List ℕ) → kind_of (negative w) ≡ kind_of (cond (is_number w) (constant (signed true (decimal w))) other)
unfolding negative
negative-is [] = refl
negative-is (b ∷ w) = refl

pub name-word : (b : ℕ) → is_name_byte b ≡ true → is_word_byte b ≡ true
unfolding is_word_byte
name-word b e = ap (λ (x : Bool). x || is_capital b) e

pub digit-word : (b : ℕ) → is_digit b ≡ true → is_word_byte b ≡ true
unfolding is_name_byte
digit-word b e = name-word b (ap (λ (x : Bool). is_small b || (x || eqb b 95)) e ∙ or-true (is_small b))
