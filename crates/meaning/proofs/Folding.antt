-- Words and names, request A.2: a name is kept in small letters. Assumes nothing.
use mathlib.Core.Path.{◌≡◌, refl, sym, ap, ap₂, subst, ◌∙◌}
use mathlib.Core.Bool.{Bool, true, false, cond, ◌&&◌, ◌||◌, and-true, or-true, or-false}
use mathlib.Core.Option.{Option, none, some}
use mathlib.Core.List.{List, [], ◌∷◌}
use Prim.Native.Nat.{ℕ, ◌+◌, ◌≤◌, ◌<◌}
use Prim.Native.String.{String}
use native.Mathlib.Omega.{arith}
use borrow.Author.Tests.{leb-true, le-leb, lt-leb, ne_eqb, eqb-true}
use lib.Dec.{eqb, leb}
use lib.IntN.{ℤ, pos}
use Rattle.lists.specs.Lists.{bytes, all, any}
use Rattle.lists.specs.Tests.{eq_list}
use Rattle.lists.proofs.Bools.{and_left, and_right, and_both, or_left, or_right, clash}
use Rattle.lists.proofs.Lists.{All-map, all_true, any_none}
use Rattle.meaning.specs.Tokens.{Keyword, Name, Token, keyword, name, constant, operator, mark, comma, lparen, rparen, dot, other, is_digit, is_small, is_capital, is_name_byte, is_word_byte, is_name, folded_byte, folded, decimal, keywords, keyword_or, is_keyword, word}
use Rattle.meaning.specs.Demand.{keyword_of, CapitalsInNames, OneName, CaseAside, NamesFolded}

-- ---- bytes

-- a byte below or above a range is not in it
below : (lo hi b : ℕ) → b < lo → (leb lo b && leb b hi) ≡ false
below lo hi b h = ap (λ (x : Bool). x && leb b hi) (lt-leb lo b h)

above : (lo hi b : ℕ) → lo ≤ b → hi < b → (leb lo b && leb b hi) ≡ false
above lo hi b k h = ap₂ ◌&&◌ (le-leb lo b k) (lt-leb b hi h)

inside : (lo hi b : ℕ) → lo ≤ b → b ≤ hi → (leb lo b && leb b hi) ≡ true
inside lo hi b h k = and_both (leb lo b) (leb b hi) (le-leb lo b h) (le-leb b hi k)

pub record Capital (b : ℕ) : Type 0 where
  pub low : 65 ≤ b
  pub high : b ≤ 90

pub capital : (b : ℕ) → is_capital b ≡ true → Capital b
capital b e = record { low = leb-true 65 b (and_left (leb 65 b) (leb b 90) e); high = leb-true b 90 (and_right (leb 65 b) (leb b 90) e) }

pub digit-folded : (b : ℕ) → is_digit (folded_byte b) ≡ is_digit b
digit-folded b = go (is_capital b) refl
  where
    go : (x : Bool) → is_capital b ≡ x → is_digit (cond x (b + 32) b) ≡ is_digit b
    go false e = refl
    go true e =
        let C : Capital b = capital b e in
        above 48 57 (b + 32) (omega (arith, C.low)) (omega (arith, C.low)) ∙ sym (above 48 57 b (omega (arith, C.low)) (omega (arith, C.low)))

-- the bytes of words are those that fold to the bytes of names; letters are those that fold to small letters
pub word-folded : (b : ℕ) → is_name_byte (folded_byte b) ≡ is_word_byte b
unfolding is_word_byte is_name_byte
word-folded b = go (is_capital b) refl
  where
    go : (x : Bool) → is_capital b ≡ x → is_name_byte (cond x (b + 32) b) ≡ (is_name_byte b || x)
    go false e = sym (or-false (is_name_byte b))
    go true e =
        let C : Capital b = capital b e in
        ap (λ (x : Bool). x || (is_digit (b + 32) || eqb (b + 32) 95)) (inside 97 122 (b + 32) (omega (arith, C.low)) (omega (arith, C.high)))
        ∙ sym (or-true (is_name_byte b))

pub letter-folded : (b : ℕ) → is_small (folded_byte b) ≡ (is_small b || is_capital b)
letter-folded b = go (is_capital b) refl
  where
    go : (x : Bool) → is_capital b ≡ x → is_small (cond x (b + 32) b) ≡ (is_small b || x)
    go false e = sym (or-false (is_small b))
    go true e =
        let C : Capital b = capital b e in
        inside 97 122 (b + 32) (omega (arith, C.low)) (omega (arith, C.high)) ∙ sym (or-true (is_small b))

pub all-folded : (p q : ℕ → Bool) → ((b : ℕ) → p (folded_byte b) ≡ q b) → (w : List ℕ) → all p (folded w) ≡ all q w
all-folded p q h [] = refl
all-folded p q h (b ∷ w) = ap₂ ◌&&◌ (h b) (all-folded p q h w)

-- what the code looks at: a word is a name if it begins with a letter
pub name-begins : (b : ℕ) (w : List ℕ) → all is_word_byte w ≡ true → is_name (folded (b ∷ w)) ≡ (is_small b || is_capital b)
unfolding is_name
name-begins b w h = ap₂ ◌&&◌ (letter-folded b) (all-folded is_name_byte is_word_byte word-folded w ∙ h) ∙ and-true (is_small b || is_capital b)

-- a folded byte is no capital, so that to fold twice is to fold once
pub no-capital : (b : ℕ) → is_capital (folded_byte b) ≡ false
no-capital b = go (is_capital b) refl
  where
    go : (x : Bool) → is_capital b ≡ x → is_capital (cond x (b + 32) b) ≡ false
    go false e = e
    go true e =
        let C : Capital b = capital b e in
        above 65 90 (b + 32) (omega (arith, C.low)) (omega (arith, C.low))

folded-twice : (w : List ℕ) → folded (folded w) ≡ folded w
folded-twice [] = refl
folded-twice (b ∷ w) =
    ap₂ (λ (x : ℕ) (y : List ℕ). x ∷ y) (ap (λ (x : Bool). cond x (folded_byte b + 32) (folded_byte b)) (no-capital b)) (folded-twice w)

-- a name's bytes are as they are, digits and small letters among them
name-byte-same : (b : ℕ) → is_name_byte b ≡ true → folded_byte b ≡ b
unfolding is_name_byte
name-byte-same b e = go (is_capital b) refl
  where
    go : (x : Bool) → is_capital b ≡ x → cond x (b + 32) b ≡ b
    go false k = refl
    go true k =
        let C : Capital b = capital b k in
        let s : is_small b ≡ false = below 97 122 b (omega (arith, C.high)) in
        let d : is_digit b ≡ false = above 48 57 b (omega (arith, C.low)) (omega (arith, C.low)) in
        let u : eqb b 95 ≡ false = ne_eqb b 95 (λ (q : b ≡ 95). absurd (omega (arith, C.high))) in
        clash e (ap₂ ◌||◌ s (ap₂ ◌||◌ d u))

pub digit-name : (b : ℕ) → is_digit b ≡ true → is_name_byte b ≡ true
unfolding is_name_byte
digit-name b h = rw (h, or-true (is_small b))

pub small-name : (b : ℕ) → is_small b ≡ true → is_name_byte b ≡ true
unfolding is_name_byte
small-name b h = rw h

bytes_same : (p : ℕ → Bool) → ((b : ℕ) → p b ≡ true → is_name_byte b ≡ true) → (w : List ℕ) → all p w ≡ true → folded w ≡ w
bytes_same p f [] h = refl
bytes_same p f (b ∷ w) h =
    ap₂ (λ (x : ℕ) (y : List ℕ). x ∷ y) (name-byte-same b (f b (and_left (p b) (all p w) h))) (bytes_same p f w (and_right (p b) (all p w) h))

pub digits_same : (w : List ℕ) → all is_digit w ≡ true → folded w ≡ w
digits_same w h = bytes_same is_digit digit-name w h

name-same : (n : Name) → is_name n ≡ true → folded n ≡ n
unfolding is_name
name-same [] h = refl
name-same (b ∷ w) h =
    bytes_same is_name_byte (λ (c : ℕ) (e : is_name_byte c ≡ true). e) (b ∷ w)
    (and_both (is_name_byte b) (all is_name_byte w) (small-name b (and_left (is_small b) (all is_name_byte w) h)) (and_right (is_small b) (all is_name_byte w) h))

-- ---- keywords

-- all keywords begin with a capital, so a word that does not is none
abbrev begins_capital : List ℕ → Bool
begins_capital [] = false
begins_capital (b ∷ w) = is_capital b

not_same : (w k : List ℕ) → begins_capital w ≡ false → begins_capital k ≡ true → eq_list eqb w k ≡ false
not_same w [] h e = clash e refl
not_same [] (c ∷ k) h e = refl
not_same (b ∷ w) (c ∷ k) h e = go (eqb b c) refl
  where
    go : (x : Bool) → eqb b c ≡ x → (x && eq_list eqb w k) ≡ false
    go true q = clash e (ap is_capital (sym (eqb-true b c q)) ∙ h)
    go false q = refl

not-capital : (w : List ℕ) → begins_capital w ≡ false → is_keyword w ≡ false
not-capital w h =
    any_none (λ (k : String × Keyword). eq_list eqb w (bytes k.0))
    (All-map (λ (k : String × Keyword) (e : begins_capital (bytes k.0) ≡ true). not_same w (bytes k.0) h e) (all_true (λ (k : String × Keyword). begins_capital (bytes k.0)) keywords refl))

-- the code's short cut: a word that begins with a small letter is looked up among no keywords
pub small-keyword : (b : ℕ) (w : List ℕ) → is_small b ≡ true → is_keyword (b ∷ w) ≡ false
small-keyword b w e =
    let h : 97 ≤ b = leb-true 97 b (and_left (leb 97 b) (leb b 122) e) in
    not-capital (b ∷ w) (above 65 90 b (omega (arith, h)) (omega (arith, h)))

folded-keyword : (w : List ℕ) → is_keyword (folded w) ≡ false
folded-keyword [] = not-capital [] refl
folded-keyword (b ∷ w) = not-capital (folded (b ∷ w)) (no-capital b)

no-keyword : (ks : List (String × Keyword)) (t : Token) (w : List ℕ) → any (λ (k : String × Keyword). eq_list eqb w (bytes k.0)) ks ≡ false → keyword_or ks t w ≡ t
no-keyword [] t w h = refl
no-keyword (k ∷ ks) t w h =
    ap (λ (x : Bool). cond x (keyword k.1) (keyword_or ks t w)) (or_left (eq_list eqb w (bytes k.0)) _ h) ∙ no-keyword ks t w (or_right (eq_list eqb w (bytes k.0)) _ h)

-- what holds of every keyword and of t holds of a keyword or else t
or-either : (P : Token → Type 0) → ((k : Keyword) → P (keyword k)) → (ks : List (String × Keyword)) (t : Token) (w : List ℕ) → P t → P (keyword_or ks t w)
or-either P f [] t w h = h
or-either P f (k ∷ ks) t w h = go (eq_list eqb w (bytes k.0)) (or-either P f ks t w h)
  where
    go : (x : Bool) → P (keyword_or ks t w) → P (cond x (keyword k.1) (keyword_or ks t w))
    go true r = f k.1
    go false r = r

-- ---- words, by what they are

-- what is no digits and no keyword: a name or nothing
abbrev named : Name → Token
named n = cond (is_name n) (name n) other

word-letters : (w : List ℕ) → all is_digit w ≡ false → word w ≡ keyword_or keywords (named (folded w)) w
unfolding word
word-letters w d = ap (λ (x : Bool). cond x (constant (pos (decimal w))) (keyword_or keywords (named (folded w)) w)) d

word-plain : (w : List ℕ) → all is_digit w ≡ false → is_keyword w ≡ false → word w ≡ named (folded w)
word-plain w d h = word-letters w d ∙ no-keyword keywords (named (folded w)) w h

-- the word in small letters
word_small : (w : List ℕ) → all is_digit w ≡ false → word (folded w) ≡ named (folded w)
word_small w d = word-plain (folded w) (all-folded is_digit is_digit digit-folded w ∙ d) (folded-keyword w) ∙ ap named (folded-twice w)

-- what holds of constants, keywords, the folded name and nothing holds of a word
word-either : (P : Token → Type 0) (w : List ℕ) → ((z : ℤ) → P (constant z)) → ((k : Keyword) → P (keyword k)) → (is_name (folded w) ≡ true → P (name (folded w))) → P other → P (word w)
unfolding word
word-either P w f g h o = go (all is_digit w)
  where
    either : (x : Bool) → is_name (folded w) ≡ x → P (cond x (name (folded w)) other)
    either true e = h e
    either false e = o

    go : (d : Bool) → P (cond d (constant (pos (decimal w))) (keyword_or keywords (named (folded w)) w))
    go true = f (pos (decimal w))
    go false = or-either P g keywords (named (folded w)) w (either (is_name (folded w)) refl)

-- a token is its keyword, where it is one, else itself
abbrev pub chosen : Option Keyword → Token → Token
chosen none t = t
chosen (some k) t = keyword k

pub chosen_self : (t : Token) → t ≡ chosen (keyword_of t) t
chosen_self (keyword k) = refl
chosen_self (name n) = refl
chosen_self (constant z) = refl
chosen_self (operator o) = refl
chosen_self mark = refl
chosen_self comma = refl
chosen_self lparen = refl
chosen_self rparen = refl
chosen_self dot = refl
chosen_self other = refl

pub chosen-same : (t u : Token) → t ≡ u → t ≡ chosen (keyword_of t) u
chosen-same t u e = chosen_self t ∙ ap (chosen (keyword_of t)) e

-- a word is its keyword, where it is one, else what it is in small letters
pub word-chosen : (w : List ℕ) → word w ≡ chosen (keyword_of (word w)) (word (folded w))
word-chosen w = go (all is_digit w) refl
  where
    go : (x : Bool) → all is_digit w ≡ x → word w ≡ chosen (keyword_of (word w)) (word (folded w))
    go true d = chosen-same (word w) (word (folded w)) (ap word (sym (digits_same w d)))
    go false d =
        subst (λ (t : Token). t ≡ chosen (keyword_of t) (named (folded w))) (sym (word-letters w d))
        (or-either (λ (t : Token). t ≡ chosen (keyword_of t) (named (folded w))) (λ (k : Keyword). refl) keywords (named (folded w)) w (chosen_self (named (folded w))))
        ∙ sym (ap (chosen (keyword_of (word w))) (word_small w d))

-- ---- names

-- one that is no keyword is what it is in small letters
case-folded : (w : List ℕ) → is_keyword w ≡ false → word w ≡ word (folded w)
case-folded w h = go (all is_digit w) refl
  where
    go : (x : Bool) → all is_digit w ≡ x → word w ≡ word (folded w)
    go true d = ap word (sym (digits_same w d))
    go false d = word-plain w d h ∙ sym (word_small w d)

pub case_aside : CaseAside
case_aside v w e hv hw = case-folded v hv ∙ ap word e ∙ sym (case-folded w hw)

small-no-digit : (b : ℕ) → is_small b ≡ true → is_digit b ≡ false
small-no-digit b e =
    let h : 97 ≤ b = leb-true 97 b (and_left (leb 97 b) (leb b 122) e) in
    above 48 57 b (omega (arith, h)) (omega (arith, h))

word-is-name : (b : ℕ) (w : List ℕ) → is_digit b ≡ false → is_keyword (b ∷ w) ≡ false → is_name (folded (b ∷ w)) ≡ true → word (b ∷ w) ≡ name (folded (b ∷ w))
word-is-name b w d k h =
    word-plain (b ∷ w) (ap (λ (x : Bool). x && all is_digit w) d) k ∙ ap (λ (x : Bool). cond x (name (folded (b ∷ w))) other) h

pub capitals_in_names : CapitalsInNames
capitals_in_names b w h l k =
    let d : is_digit b ≡ false = sym (digit-folded b) ∙ small-no-digit (folded_byte b) (letter-folded b ∙ l) in
    word-is-name b w d k (name-begins b w (and_right (is_word_byte b) (all is_word_byte w) h) ∙ l)

-- the name of a token, else d
abbrev name_or : Name → Token → Name
name_or d (keyword k) = d
name_or d (name n) = n
name_or d (constant z) = d
name_or d (operator o) = d
name_or d mark = d
name_or d comma = d
name_or d lparen = d
name_or d rparen = d
name_or d dot = d
name_or d other = d

-- a word's name is the word in small letters
pub name-of : (w : List ℕ) (n : Name) → word w ≡ name n → n ≡ folded w
name-of w n e =
    ap (name_or (folded w)) (sym e) ∙ word-either (λ (t : Token). name_or (folded w) t ≡ folded w) w (λ (z : ℤ). refl) (λ (k : Keyword). refl) (λ (h : is_name (folded w) ≡ true). refl) refl

pub one_name : OneName
one_name v w m n e f = (λ h. sym (name-of v m e) ∙ h ∙ name-of w n f, λ h. name-of v m e ∙ h ∙ sym (name-of w n f))

-- a name is read as itself
pub name-read : (n : Name) → is_name n ≡ true → word n ≡ name n
unfolding is_name
name-read [] h = clash h refl
name-read (b ∷ w) h =
    let s : is_small b ≡ true = and_left (is_small b) (all is_name_byte w) h in
    let e : folded (b ∷ w) ≡ b ∷ w = name-same (b ∷ w) h in
    word-is-name b w (small-no-digit b s) (small-keyword b w s) (ap is_name e ∙ h) ∙ ap name e

-- a name among tokens is a name
abbrev pub is_named : Token → Bool
is_named (keyword k) = true
is_named (name n) = is_name n
is_named (constant z) = true
is_named (operator o) = true
is_named mark = true
is_named comma = true
is_named lparen = true
is_named rparen = true
is_named dot = true
is_named other = true

pub word-named : (w : List ℕ) → is_named (word w) ≡ true
word-named w = word-either (λ (t : Token). is_named t ≡ true) w (λ (z : ℤ). refl) (λ (k : Keyword). refl) (λ (h : is_name (folded w) ≡ true). h) refl

pub names_folded : NamesFolded
names_folded n = (λ h. (n, name-read n h), λ x. sym (ap is_named x.1) ∙ word-named x.0)
