-- The demand of specs/Demand about the sentences that have a text: tokens written one after another, each after a space, are the tokens of that text, if
-- their names are names; and the names among the tokens of a text are names. With it the one about words that are keywords. Assumes nothing.
use mathlib.Core.Path.{◌≡◌, refl, sym, ap, ap₂, subst, ◌∙◌}
use mathlib.Core.Logic.{◌↔◌}
use mathlib.Core.Bool.{Bool, true, false, ◌&&◌, cond, and-true, false≢true}
use mathlib.Core.Option.{Option, none, some}
use mathlib.Core.List.{List, [], ◌∷◌, ◌++◌, map}
use Prim.Native.Nat.{ℕ, zero, suc, ◌+◌, ◌*◌, ◌-◌, ◌/◌, ◌%◌, ◌≤◌}
use Prim.Native.String.{String}
use native.Mathlib.Nat.{le_refl}
use native.Mathlib.Omega.{arith}
use borrow.Author.Tests.{le-leb, eqb-true}
use lib.Dec.{leb, eqb}
use lib.IntN.{pos, negsuc, neg_ℤ}
use lib.ListN.{length}
use Rattle.lists.specs.Lists.{bytes, all, take_while, drop_while}
use Rattle.lists.specs.Tests.{eq_list}
use Rattle.lists.proofs.Bools.{and_assoc, and_left, and_right, and_both, clash}
use Rattle.lists.proofs.Lists.{All-map, all_append, all_true, map-append}
use Rattle.lists.proofs.Runs.{Ends, run-unique, drop-no}
use Rattle.meaning.specs.Operator.{eq, ne, lt, le, gt, ge}
use Rattle.meaning.specs.Condition.{Comparison, Level, Tree, compare, negate, group, alone, both, single, either, comparisons, sides, Optional, always, under, operands_in, mapped, mapped_in}
use Rattle.meaning.specs.Tokens.{Keyword, TABLE, ROWS, SELECT, FROM, WHERE, INSERT, INTO, VALUES, UPDATE, SET, DELETE, AND, OR, NOT, RING, IS, NULL, Name, Token, keyword, name, constant, operator, mark, comma, lparen, rparen, dot, other, is_digit, is_small, is_name_byte, is_word_byte, is_space, is_minus, decimal_on, decimal, is_name, folded, keywords, keyword_or, word, negative, signs, behind_prefix, sign_in, token_from, token_here, first_token, scan, tokens}
use Rattle.meaning.specs.Grammar as G
use Rattle.meaning.specs.Grammar.{Given, Term, given, Test, compares, tests_null, tests-not-null, comparison, Listed, last, next, items, Dotted, Sentence, given_token, spell_name, spell_dotted, spell_given, spell_setting, spell_list, spell_term, spell_test, spell_condition, spell_where, size_word, spell}
use Rattle.meaning.specs.Limits.{term_columns, columns_named, all_names}
use Rattle.meaning.specs.Demand.{HasText, KeywordsRemain}
use Rattle.meaning.proofs.Readers.{some-none, some_same}
use Rattle.meaning.proofs.Postfix.{sides-append}
use Rattle.meaning.proofs.Dotted.{bare-columns}
use Rattle.meaning.proofs.Names.{same-is}
use Rattle.meaning.proofs.Folding.{digit-name, small-name, is_named, word-named, name-read}
use Rattle.meaning.proofs.Stream.{from-word, from-minus, from-sign, sign-here, sign-later, scan-none, scan-some, tokens-some}

-- ---- digits of a number, with leading zeros

digits : ℕ → ℕ → List ℕ
digits zero n = 48 ∷ []
digits (suc k) n = digits k (n / 10) ++ ((48 + n % 10) ∷ [])

decimal-last : (m : ℕ) (ds : List ℕ) (d : ℕ) → decimal_on m (ds ++ (d ∷ [])) ≡ decimal_on m ds * 10 + (d - 48)
decimal-last m [] d = refl
decimal-last m (e ∷ ds) d = decimal-last (m * 10 + (e - 48)) ds d

digits_decimal : (k n : ℕ) → n ≤ k → decimal (digits k n) ≡ n
unfolding digits decimal
digits_decimal zero n h = omega arith
digits_decimal (suc k) n h =
    decimal-last 0 (digits k (n / 10)) (48 + n % 10)
    ∙ ap (λ (m : ℕ). m * 10 + ((48 + n % 10) - 48)) (digits_decimal k (n / 10) (omega arith))
    ∙ omega arith

digit-is : (d : ℕ) → d ≤ 9 → is_digit (48 + d) ≡ true
digit-is d h = and_both (leb 48 (48 + d)) (leb (48 + d) 57) (le-leb 48 (48 + d) (omega arith)) (le-leb (48 + d) 57 (omega arith))

digits-all : (k n : ℕ) → all is_digit (digits k n) ≡ true
unfolding digits
digits-all zero n = refl
digits-all (suc k) n =
    all_append is_digit (digits k (n / 10)) ((48 + n % 10) ∷ [])
    ∙ and_both (all is_digit (digits k (n / 10))) (is_digit (48 + n % 10) && true) (digits-all k (n / 10)) (and-true (is_digit (48 + n % 10)) ∙ digit-is (n % 10) (omega arith))

-- ---- words

-- there is a byte
abbrev is_there : List ℕ → Bool
is_there [] = false
is_there (b ∷ w) = true

-- the bytes are one word, of that token
pub record Word (w : List ℕ) (t : Token) : Type 0 where
  pub letters : all is_word_byte w ≡ true
  pub there : is_there w ≡ true
  pub means : word w ≡ t

keyword_text : Keyword → String
keyword_text TABLE = "TABLE"
keyword_text ROWS = "ROWS"
keyword_text SELECT = "SELECT"
keyword_text FROM = "FROM"
keyword_text WHERE = "WHERE"
keyword_text INSERT = "INSERT"
keyword_text INTO = "INTO"
keyword_text VALUES = "VALUES"
keyword_text UPDATE = "UPDATE"
keyword_text SET = "SET"
keyword_text DELETE = "DELETE"
keyword_text AND = "AND"
keyword_text OR = "OR"
keyword_text NOT = "NOT"
keyword_text RING = "RING"
keyword_text IS = "IS"
keyword_text NULL = "NULL"

keyword-word : (k : Keyword) → Word (bytes (keyword_text k)) (keyword k)
unfolding keyword_text word is_name is_name_byte is_word_byte
keyword-word TABLE = record { letters = refl; there = refl; means = refl }
keyword-word ROWS = record { letters = refl; there = refl; means = refl }
keyword-word SELECT = record { letters = refl; there = refl; means = refl }
keyword-word FROM = record { letters = refl; there = refl; means = refl }
keyword-word WHERE = record { letters = refl; there = refl; means = refl }
keyword-word INSERT = record { letters = refl; there = refl; means = refl }
keyword-word INTO = record { letters = refl; there = refl; means = refl }
keyword-word VALUES = record { letters = refl; there = refl; means = refl }
keyword-word UPDATE = record { letters = refl; there = refl; means = refl }
keyword-word SET = record { letters = refl; there = refl; means = refl }
keyword-word DELETE = record { letters = refl; there = refl; means = refl }
keyword-word AND = record { letters = refl; there = refl; means = refl }
keyword-word OR = record { letters = refl; there = refl; means = refl }
keyword-word NOT = record { letters = refl; there = refl; means = refl }
keyword-word RING = record { letters = refl; there = refl; means = refl }
keyword-word IS = record { letters = refl; there = refl; means = refl }
keyword-word NULL = record { letters = refl; there = refl; means = refl }

-- the text of a token that is a keyword, else d
abbrev text_or : List ℕ → Token → List ℕ
text_or d (keyword k) = bytes (keyword_text k)
text_or d (name n) = d
text_or d (constant z) = d
text_or d (operator o) = d
text_or d mark = d
text_or d comma = d
text_or d lparen = d
text_or d rparen = d
text_or d dot = d
text_or d other = d

abbrev is_spelled : String × Keyword → Bool
is_spelled k = eq_list eqb (bytes k.0) (bytes (keyword_text k.1))

-- a word that is a keyword is that keyword's text
text-or : (ks : List (String × Keyword)) → all is_spelled ks ≡ true → (t : Token) (w : List ℕ) → text_or w t ≡ w → text_or w (keyword_or ks t w) ≡ w
text-or [] e t w h = h
text-or (k ∷ ks) e t w h = go (eq_list eqb w (bytes k.0)) refl (text-or ks (and_right (is_spelled k) (all is_spelled ks) e) t w h)
  where
    go : (x : Bool) → eq_list eqb w (bytes k.0) ≡ x → text_or w (keyword_or ks t w) ≡ w → text_or w (cond x (keyword k.1) (keyword_or ks t w)) ≡ w
    go true q ih = sym (same-is w (bytes k.0) q ∙ same-is (bytes k.0) (bytes (keyword_text k.1)) (and_left (is_spelled k) (all is_spelled ks) e))
    go false q ih = ih

spelled : all is_spelled keywords ≡ true
unfolding keyword_text
spelled = refl

word-text : (w : List ℕ) → text_or w (word w) ≡ w
unfolding word
word-text w = go (all is_digit w)
  where
    named : (x : Bool) → text_or w (cond x (name (folded w)) other) ≡ w
    named true = refl
    named false = refl

    go : (d : Bool) → text_or w (cond d (constant (pos (decimal w))) (keyword_or keywords (cond (is_name (folded w)) (name (folded w)) other) w)) ≡ w
    go true = refl
    go false = text-or keywords spelled _ w (named (is_name (folded w)))

pub keywords_remain : KeywordsRemain
keywords_remain = All-map one (all_true is_spelled keywords spelled)
  where
    one : (k : String × Keyword) → is_spelled k ≡ true → (w : List ℕ) → (word w ≡ keyword k.1) ↔ (w ≡ bytes k.0)
    one k e w =
        let s : bytes k.0 ≡ bytes (keyword_text k.1) = same-is (bytes k.0) (bytes (keyword_text k.1)) e in
        (λ h. sym (word-text w) ∙ ap (text_or w) h ∙ sym s, λ h. ap word (h ∙ s) ∙ (keyword-word k.1).means)

-- a name's byte, and so a digit, is a word's
name-byte : (b : ℕ) → is_name_byte b ≡ true → is_word_byte b ≡ true
unfolding is_word_byte
name-byte b h = rw h

digit-byte : (b : ℕ) → is_digit b ≡ true → is_word_byte b ≡ true
digit-byte b h = name-byte b (digit-name b h)

all-implies : {A : Type 0} (p q : A → Bool) → ((x : A) → p x ≡ true → q x ≡ true) → (xs : List A) → all p xs ≡ true → all q xs ≡ true
all-implies p q f [] h = refl
all-implies p q f (x ∷ xs) h =
    and_both (q x) (all q xs) (f x (and_left (p x) (all p xs) h)) (all-implies p q f xs (and_right (p x) (all p xs) h))

name-word : (n : Name) → is_name n ≡ true → Word n (name n)
unfolding is_name word
name-word [] h = absurd (false≢true h)
name-word (b ∷ w) h =
    let s : is_small b ≡ true = and_left (is_small b) (all is_name_byte w) h in
    record {
      letters = and_both (is_word_byte b) (all is_word_byte w) (name-byte b (small-name b s)) (all-implies is_name_byte is_word_byte name-byte w (and_right (is_small b) (all is_name_byte w) h));
      there = refl;
      means = name-read (b ∷ w) h;
    }

last-there : (w : List ℕ) (b : ℕ) → is_there (w ++ (b ∷ [])) ≡ true
last-there [] b = refl
last-there (c ∷ w) b = refl

digits-there : (k n : ℕ) → is_there (digits k n) ≡ true
unfolding digits
digits-there zero n = refl
digits-there (suc k) n = last-there (digits k (n / 10)) (48 + n % 10)

digits-word : (n : ℕ) → Word (digits n n) (constant (pos n))
unfolding word
digits-word n = record {
  letters = all-implies is_digit is_word_byte digit-byte (digits n n) (digits-all n n);
  there = digits-there n n;
  means = rw (digits-all n n) (ap (λ (m : ℕ). constant (pos m)) (digits_decimal n n (le_refl n)));
}

digits-negative : (n : ℕ) (ds : List ℕ) → all is_digit ds ≡ true → is_there ds ≡ true → decimal ds ≡ suc n → negative ds ≡ constant (negsuc n)
unfolding negative
digits-negative n [] h k e = absurd (false≢true k)
digits-negative n (d ∷ ds) h k e = rw h (ap (λ (m : ℕ). constant (neg_ℤ (pos m))) e)

-- ---- the first token of a text that begins with a space

no-space : (b : ℕ) → is_word_byte b ≡ true → is_space b ≡ false
unfolding is_word_byte is_name_byte
no-space b h = go (is_space b) refl
  where
    go : (c : Bool) → is_space b ≡ c → c ≡ false
    go true e = clash h (ap is_word_byte (eqb-true b 32 e))
    go false e = refl

first_word : (w : List ℕ) (t : Token) (more : List ℕ) → Word w t → Ends is_word_byte more → first_token (32 ∷ (w ++ more)) ≡ some (t, more)
unfolding first_token
first_word [] t more W e = absurd (false≢true W.there)
first_word (b ∷ w) t more W e =
    let h : is_word_byte b ≡ true = and_left (is_word_byte b) (all is_word_byte w) W.letters in
    let u = run-unique is_word_byte w more (and_right (is_word_byte b) (all is_word_byte w) W.letters) e in
    ap token_here (drop-no is_space b (w ++ more) (no-space b h))
    ∙ ap some (from-word b (w ++ more) h ∙ ap₂ (λ v r. (word (b ∷ v), r)) u.0 u.1 ∙ ap (λ (x : Token). (x, more)) W.means)

first-minus : (w more : List ℕ) (t : Token) → all is_word_byte w ≡ true → negative w ≡ t → Ends is_word_byte more → first_token (32 ∷ 45 ∷ (w ++ more)) ≡ some (t, more)
unfolding first_token is_word_byte is_name_byte
first-minus w more t h n e =
    let u = run-unique is_word_byte w more h e in
    ap some (from-minus 45 (w ++ more) refl refl ∙ ap₂ (λ v r. (negative v, r)) u.0 u.1 ∙ ap (λ (x : Token). (x, more)) n)

-- ---- tokens written one after another, each after a space; a byte that is no sentence stands for `other`

written : Token → List ℕ
written (keyword k) = bytes (keyword_text k)
written (name n) = n
written (constant (pos n)) = digits n n
written (constant (negsuc n)) = 45 ∷ digits (suc n) (suc n)
written (operator eq) = bytes "="
written (operator ne) = bytes "<>"
written (operator lt) = bytes "<"
written (operator le) = bytes "<="
written (operator gt) = bytes ">"
written (operator ge) = bytes ">="
written mark = bytes "?"
written comma = bytes ","
written lparen = bytes "("
written rparen = bytes ")"
written dot = bytes "."
written other = bytes "!"

text_of : List Token → List ℕ
text_of [] = []
text_of (t ∷ ts) = 32 ∷ (written t ++ text_of ts)

text-ends : (ts : List Token) → Ends is_word_byte (text_of ts)
unfolding text_of is_word_byte is_name_byte
text-ends [] = tt
text-ends (t ∷ ts) = refl

first-written : (t : Token) (ts : List Token) → is_named t ≡ true → first_token (text_of (t ∷ ts)) ≡ some (t, text_of ts)
unfolding written text_of first_token token_from is_word_byte is_name_byte
first-written (keyword k) ts h = first_word (bytes (keyword_text k)) (keyword k) (text_of ts) (keyword-word k) (text-ends ts)
first-written (name n) ts h = first_word n (name n) (text_of ts) (name-word n h) (text-ends ts)
first-written (constant (pos n)) ts h = first_word (digits n n) (constant (pos n)) (text_of ts) (digits-word n) (text-ends ts)
first-written (constant (negsuc n)) ts h =
    let ds : List ℕ = digits (suc n) (suc n) in
    first-minus ds (text_of ts) (constant (negsuc n)) (all-implies is_digit is_word_byte digit-byte ds (digits-all (suc n) (suc n)))
    (digits-negative n ds (digits-all (suc n) (suc n)) (digits-there (suc n) (suc n)) (digits_decimal (suc n) (suc n) (le_refl (suc n)))) (text-ends ts)
first-written (operator eq) ts h = refl
first-written (operator ne) ts h = refl
first-written (operator lt) [] h = refl
first-written (operator lt) (t ∷ ts) h = refl
first-written (operator le) ts h = refl
first-written (operator gt) [] h = refl
first-written (operator gt) (t ∷ ts) h = refl
first-written (operator ge) ts h = refl
first-written mark ts h = refl
first-written comma ts h = refl
first-written lparen ts h = refl
first-written rparen ts h = refl
first-written dot ts h = refl
first-written other ts h = refl

-- they are the tokens of that text
tokens-written : (ts : List Token) → all is_named ts ≡ true → tokens (text_of ts) ≡ ts
unfolding text_of tokens scan
tokens-written [] h = refl
tokens-written (t ∷ ts) h =
    tokens-some (text_of (t ∷ ts)) t (text_of ts) (first-written t ts (and_left (is_named t) (all is_named ts) h))
    ∙ ap (λ (us : List Token). t ∷ us) (tokens-written ts (and_right (is_named t) (all is_named ts) h))

-- ---- the names among the tokens of a text are names

named-negative : (w : List ℕ) → is_named (negative w) ≡ true
unfolding negative
named-negative [] = refl
named-negative (b ∷ w) = go (all is_digit (b ∷ w))
  where
    go : (d : Bool) → is_named (cond d (constant (neg_ℤ (pos (decimal (b ∷ w))))) other) ≡ true
    go true = refl
    go false = refl

named-sign : (xs : List (String × Token)) (b : ℕ) (s : List ℕ) → all (λ (x : String × Token). is_named x.1) xs ≡ true → is_named (sign_in xs b s).0 ≡ true
named-sign [] b s h = refl
named-sign (x ∷ xs) b s h =
    go (behind_prefix (bytes x.0) (b ∷ s)) refl (named-sign xs b s (and_right (is_named x.1) (all (λ (x : String × Token). is_named x.1) xs) h))
  where
    go : (o : Option (List ℕ)) → behind_prefix (bytes x.0) (b ∷ s) ≡ o → is_named (sign_in xs b s).0 ≡ true → is_named (sign_in (x ∷ xs) b s).0 ≡ true
    go none e ih = rw (sign-later x xs b s e) ih
    go (some left) e ih = rw (sign-here x xs b s left e) (and_left (is_named x.1) (all (λ (x : String × Token). is_named x.1) xs) h)

named-from : (b : ℕ) (s : List ℕ) → is_named (token_from b s).0 ≡ true
named-from b s = go (is_word_byte b) (is_minus b) refl refl
  where
    go : (w m : Bool) → is_word_byte b ≡ w → is_minus b ≡ m → is_named (token_from b s).0 ≡ true
    go true m e f = rw (from-word b s e) (word-named (b ∷ take_while is_word_byte s))
    go false true e f = rw (from-minus b s e f) (named-negative (take_while is_word_byte s))
    go false false e f = rw (from-sign b s e f) (named-sign signs b s refl)

named-first : (s : List ℕ) (x : Token × List ℕ) → first_token s ≡ some x → is_named x.0 ≡ true
unfolding first_token
named-first s x e = go (drop_while is_space s) e
  where
    go : (us : List ℕ) → token_here us ≡ some x → is_named x.0 ≡ true
    go [] q = some-none (sym q)
    go (b ∷ us) q = subst (λ (y : Token × List ℕ). is_named y.0 ≡ true) (some_same q) (named-from b us)

named-scan : (n : ℕ) (s : List ℕ) → all is_named (scan n s) ≡ true
unfolding scan
named-scan zero s = refl
named-scan (suc n) s = go (first_token s) refl (λ (us : List ℕ). named-scan n us)
  where
    go : (o : Option (Token × List ℕ)) → first_token s ≡ o → ((us : List ℕ) → all is_named (scan n us) ≡ true) → all is_named (scan (suc n) s) ≡ true
    go none e ih = ap (all is_named) (scan-none n s e)
    go (some x) e ih =
        ap (all is_named) (scan-some n s x.0 x.1 e)
        ∙ and_both (is_named x.0) (all is_named (scan n x.1)) (named-first s x e) (ih x.1)

named-tokens : (s : List ℕ) → all is_named (tokens s) ≡ true
unfolding tokens
named-tokens s = named-scan (length s) s

-- ---- the names among the tokens of a sentence are its table's and columns'

swap : (a b c : Bool) → (a && (b && c)) ≡ (b && (a && c))
swap true b c = refl
swap false true c = refl
swap false false c = refl

all_map : {A B : Type 0} (f : A → B) (p : B → Bool) (xs : List A) → all (λ (x : A). p (f x)) xs ≡ all p (map f xs)
all_map f p [] = refl
all_map f p (x ∷ xs) = ap (λ (b : Bool). p (f x) && b) (all_map f p xs)

named-given : (v : Given) → is_named (given_token v) ≡ true
named-given (G.constant z) = refl
named-given G.mark = refl

module _ {A : Type 0} (item : A → List Token → List Token) (good : A → Bool)
    (one : (x : A) (more : List Token) → all is_named (item x more) ≡ (good x && all is_named more)) where
  named-list : (xs : Listed A) (more : List Token) → all is_named (spell_list item xs more) ≡ (all good (items xs) && all is_named more)
  named-list (last x) more = one x more ∙ and_assoc (good x) true (all is_named more)
  named-list (next x xs) more =
      one x (comma ∷ spell_list item xs more)
      ∙ ap (λ (b : Bool). good x && b) (named-list xs more)
      ∙ and_assoc (good x) (all good (items xs)) (all is_named more)

named-setting : (s : Name × Given) (more : List Token) → all is_named (spell_setting s more) ≡ (is_name s.0 && all is_named more)
named-setting s more = ap (λ (b : Bool). is_name s.0 && (b && all is_named more)) (named-given s.1)

named-givens : (vs : Listed Given) (more : List Token) → all is_named (spell_list spell_given vs more) ≡ all is_named more
named-givens (last v) more = ap (λ (b : Bool). b && all is_named more) (named-given v)
named-givens (next v vs) more = ap (λ (b : Bool). b && all is_named (spell_list spell_given vs more)) (named-given v) ∙ named-givens vs more

columns-append : {C : Type 0} (xs ys : List (Term C)) → term_columns (xs ++ ys) ≡ term_columns xs ++ term_columns ys
columns-append [] ys = refl
columns-append {C} (G.column n ∷ xs) ys = ap (λ (r : List C). n ∷ r) (columns-append xs ys)
columns-append (given v ∷ xs) ys = columns-append xs ys

-- conditions, where a column is spelled with good names
module _ {C : Type 0} (col : C → List Token → List Token) (good : C → Bool)
    (one : (x : C) (more : List Token) → all is_named (col x more) ≡ (good x && all is_named more)) where
  named-term : (t : Term C) (ts : List (Term C)) (more : List Token) (b : Bool) → all is_named more ≡ (all good (term_columns ts) && b)
      → all is_named (spell_term col t more) ≡ (all good (term_columns (t ∷ ts)) && b)
  named-term (G.column n) ts more b h = one n more ∙ ap (λ (x : Bool). good n && x) h ∙ and_assoc (good n) (all good (term_columns ts)) b
  named-term (given v) ts more b h = ap (λ (x : Bool). x && all is_named more) (named-given v) ∙ h

  -- the columns of comparisons are good
  abbrev names_in : List (Comparison (Term C)) → Bool
  names_in cs = all good (term_columns (sides cs))

  names-append : (cs ds : List (Comparison (Term C))) → names_in (cs ++ ds) ≡ (names_in cs && names_in ds)
  names-append cs ds =
      ap (λ (ts : List (Term C)). all good (term_columns ts)) (sides-append cs ds)
      ∙ ap (all good) (columns-append (sides cs) (sides ds))
      ∙ all_append good (term_columns (sides cs)) (term_columns (sides ds))

  named-two : (cs ds : List (Comparison (Term C))) (a b c : Bool) → a ≡ (names_in cs && b) → b ≡ (names_in ds && c) → a ≡ (names_in (cs ++ ds) && c)
  named-two cs ds a b c h k =
      h ∙ ap (λ (x : Bool). names_in cs && x) k ∙ and_assoc (names_in cs) (names_in ds) c ∙ ap (λ (x : Bool). x && c) (sym (names-append cs ds))

  -- a null test names its column once, and as a comparison twice
  named-null : (a b : Bool) → (a && b) ≡ ((a && (a && true)) && b)
  named-null true b = refl
  named-null false b = refl

  named-test : (c : Test C) (more : List Token) → all is_named (spell_test col c more) ≡ (names_in (comparison c ∷ []) && all is_named more)
  named-test (compares x o y) more =
      named-term x (y ∷ []) (operator o ∷ spell_term col y more) (all is_named more) (named-term y [] more (all is_named more) refl)
  named-test (tests_null c) more = one c (keyword IS ∷ keyword NULL ∷ more) ∙ named-null (good c) (all is_named more)
  named-test (tests-not-null c) more = one c (keyword IS ∷ keyword NOT ∷ keyword NULL ∷ more) ∙ named-null (good c) (all is_named more)

  -- the comparisons of what is written
  abbrev tests_in : {l : Level} → Tree (Test C) l → List (Comparison (Term C))
  tests_in c = comparisons (mapped comparison c)

  named-condition : {l : Level} (c : Tree (Test C) l) (more : List Token) → all is_named (spell_condition col c more) ≡ (names_in (tests_in c) && all is_named more)
  named-condition (compare c) more = named-test c more
  named-condition (negate c) more = named-condition c more
  named-condition (group c) more = named-condition c (rparen ∷ more)
  named-condition (alone c) more = named-condition c more
  named-condition (both c d) more =
      named-two (tests_in c) (tests_in d) (all is_named (spell_condition col (both c d) more)) (all is_named (spell_condition col d more)) (all is_named more)
      (named-condition c (keyword AND ∷ spell_condition col d more)) (named-condition d more)
  named-condition (single c) more = named-condition c more
  named-condition (either c d) more =
      named-two (tests_in c) (tests_in d) (all is_named (spell_condition col (either c d) more)) (all is_named (spell_condition col d more)) (all is_named more)
      (named-condition c (keyword OR ∷ spell_condition col d more)) (named-condition d more)

  named-where : (w : Optional (Test C)) → all is_named (spell_where col w) ≡ all good (term_columns (operands_in (mapped_in comparison w)))
  named-where always = refl
  named-where (under c) = named-condition c [] ∙ and-true (names_in (tests_in c))

-- the two names of a dotted column
abbrev both_names : Dotted → Bool
both_names c = is_name c.0 && is_name c.1

named-dotted : (c : Dotted) (more : List Token) → all is_named (spell_dotted c more) ≡ (both_names c && all is_named more)
named-dotted c more = and_assoc (is_name c.0) (is_name c.1) (all is_named more)

shuffle : (a b c d : Bool) → ((a && b) && (c && d)) ≡ ((a && c) && (b && d))
shuffle true true c d = refl
shuffle true false true d = refl
shuffle true false false d = refl
shuffle false b c d = refl

names-parted : (cs : List Dotted) → all both_names cs ≡ (all is_name (map (λ (c : Dotted). c.0) cs) && all is_name (map (λ (c : Dotted). c.1) cs))
names-parted [] = refl
names-parted (c ∷ cs) =
    ap (λ (b : Bool). both_names c && b) (names-parted cs)
    ∙ shuffle (is_name c.0) (is_name c.1) (all is_name (map (λ (c : Dotted). c.0) cs)) (all is_name (map (λ (c : Dotted). c.1) cs))

named-sentence : (s : Sentence) → all is_named (spell s) ≡ all is_name (all_names s)
unfolding spell
named-sentence (G.table t cs ring z) =
    ap (λ (b : Bool). is_name t && b)
    (named-list spell_name is_name (λ n more. refl) cs (rparen ∷ keyword (size_word ring) ∷ constant z ∷ []) ∙ sym (all_append is_name (items cs) []))
named-sentence (G.select cs t w) =
    named-list spell_name is_name (λ n more. refl) cs (keyword FROM ∷ name t ∷ spell_where spell_name w)
    ∙ ap (λ (b : Bool). all is_name (items cs) && (is_name t && b)) (named-where spell_name is_name (λ n more. refl) w)
    ∙ swap (all is_name (items cs)) (is_name t) (all is_name (term_columns (operands_in (mapped_in comparison w))))
    ∙ ap (λ (b : Bool). is_name t && b) (sym (all_append is_name (items cs) (term_columns (operands_in (mapped_in comparison w)))))
named-sentence (G.pair cs t u w) =
    let ds : List Dotted = term_columns (operands_in (mapped_in comparison w)) in
    let firsts : List Name = map (λ (c : Dotted). c.0) (items cs ++ ds) in
    let columns : map (λ (c : Dotted). c.1) (items cs ++ ds) ≡ columns_named (G.pair cs t u w) =
    map-append (λ (c : Dotted). c.1) (items cs) ds ∙ ap (λ (ns : List Name). map (λ (c : Dotted). c.1) (items cs) ++ ns) (sym (bare-columns (mapped_in comparison w))) in
    named-list spell_dotted both_names named-dotted cs (keyword FROM ∷ name t ∷ comma ∷ name u ∷ spell_where spell_dotted w)
    ∙ ap (λ (b : Bool). all both_names (items cs) && (is_name t && (is_name u && b))) (named-where spell_dotted both_names named-dotted w)
    ∙ swap (all both_names (items cs)) (is_name t) (is_name u && all both_names ds)
    ∙ ap (λ (b : Bool). is_name t && b) (swap (all both_names (items cs)) (is_name u) (all both_names ds))
    ∙ ap (λ (b : Bool). is_name t && (is_name u && b))
    (sym (all_append both_names (items cs) ds)
    ∙ names-parted (items cs ++ ds)
    ∙ ap (λ (ns : List Name). all is_name firsts && all is_name ns) columns
    ∙ sym (all_append is_name firsts (columns_named (G.pair cs t u w))))
named-sentence (G.insert t vs) = ap (λ (b : Bool). is_name t && b) (named-givens vs (rparen ∷ []))
named-sentence (G.update t ss w) =
    let columns : List Name = map (λ (s : Name × Given). s.0) (items ss) in
    ap (λ (b : Bool). is_name t && b)
    (named-list spell_setting (λ (s : Name × Given). is_name s.0) named-setting ss (spell_where spell_name w)
    ∙ ap₂ ◌&&◌ (all_map (λ (s : Name × Given). s.0) is_name (items ss)) (named-where spell_name is_name (λ n more. refl) w)
    ∙ sym (all_append is_name columns (term_columns (operands_in (mapped_in comparison w)))))
named-sentence (G.delete t w) = ap (λ (b : Bool). is_name t && b) (named-where spell_name is_name (λ n more. refl) w)

-- ---- the claim

pub has_text : HasText
has_text s = (
  (λ h. (text_of (spell s), tokens-written (spell s) (named-sentence s ∙ h))),
  (λ x. sym (named-sentence s) ∙ ap (all is_named) (sym x.1) ∙ named-tokens x.0),
)
