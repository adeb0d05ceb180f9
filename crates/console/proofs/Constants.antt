-- Words that are values and numbers, by the first token of the word. Assumes nothing.
use mathlib.Core.Path.{◌≡◌, refl, sym, ap, ap₂, subst, ◌∙◌}
use mathlib.Core.Bool.{Bool, true, false, ◌&&◌, cond, and-false}
use mathlib.Core.Option.{Option, none, some}
use mathlib.Core.List.{List, [], ◌∷◌, ◌++◌, append-nil}
use Prim.Native.Nat.{ℕ, suc, ◌-◌, ◌^◌, ◌≤◌, ◌<◌}
use Prim.Native.String.{String}
use native.Mathlib.Omega.{arith}
use borrow.Author.Tests.{eq-eqb, ne_eqb, eqb-true}
use lib.Dec.{eqb, leb}
use lib.IntN.{ℤ, pos}
use mir.Syntax.{w32}
use mir.Val.{SFits}
use lib.Pointwise.{pointwise}
use lib.ListN.{length, take}
use Rattle.lists.specs.Lists.{bytes, all, All, nil, cons, take_while, drop_while}
use Rattle.lists.specs.Tests.{eq_list}
use Rattle.lists.proofs.Bools.{and_left, and_right, clash}
use Rattle.lists.proofs.Lists.{All-map, all_true, all-of}
use Rattle.lists.proofs.Runs.{drop-yes, drop-no, drop-short, drop_all, run-split}
use Rattle.meaning.specs.Operator.{Operator, eq}
use Rattle.meaning.specs.Limits.{is_within32}
use Rattle.meaning.specs.Tokens as M
use Rattle.meaning.specs.Tokens.{Keyword, TABLE, keyword, name, constant, operator, mark, comma, lparen, rparen, dot, other, is_digit, is_name_byte, is_word_byte, is_space, is_name, folded, decimal, word, keywords, keyword_or, signs, behind_prefix, sign_in, token_from, token_here, first_token}
use Rattle.meaning.proofs.Stream.{from-word, from-sign, from-short, sign-here, sign-later}
use Rattle.token.specs.declared.Token.{Token}
use Rattle.token.specs.declared.Kind.{Kind}
use Rattle.token.specs.declared.Kind.TheVariants.{End, Constant, Big}
use Rattle.token.specs.Tokens.{operator_kind, keyword_kind, kind_of, token_of, token_at}
use Rattle.token.proofs.Cases.{none_is, some_is}
use Rattle.token.proofs.Words.{digit-word}
use Rattle.std.specs.Prelude as P
use Rattle.std.specs.Int.{FitsUnsignedBits}
use Rattle.std.specs.Result.{result_ok}
use Rattle.console.specs.Private.Parts.{as_option}
use Rattle.console.specs.Lines.{most_number, word_number, token_value, whole_token, word_value}

-- ---- a value, as the first token tells it

abbrev as_constant : Kind → Option ℤ
as_constant (Constant z) = some z
as_constant _ = none

constant-kind : (t : M.Token) → token_value t ≡ as_constant (kind_of t)
constant-kind (constant z) = go (is_within32 z)
  where
    go : (b : Bool) → cond b (some z) none ≡ as_constant (cond b (Constant z) Big)
    go true = refl
    go false = refl
constant-kind (keyword k) = go k
  where
    go : (k : Keyword) → none ≡ as_constant (keyword_kind k)
    go TABLE = refl
    go _ = refl
constant-kind (operator o) = go o
  where
    go : (o : Operator) → none ≡ as_constant (operator_kind o)
    go eq = refl
    go _ = refl
constant-kind (name n) = refl
constant-kind mark = refl
constant-kind comma = refl
constant-kind lparen = refl
constant-kind rparen = refl
constant-kind dot = refl
constant-kind other = refl

-- the value that the token read from the start of a word on tells, if it is the whole word
abbrev pub value_by : ℕ → Token → Option ℤ
value_by n t = cond (eqb t.start 0 && eqb t.next n) (as_constant t.kind) none

value-later : (n : ℕ) (t : Token) → (t.start ≡ 0 → ⊥) → value_by n t ≡ none
value-later n t h = ap (λ (b : Bool). cond (b && eqb t.next n) (as_constant t.kind) none) (ne_eqb t.start 0 h)

value-short : (n : ℕ) (t : Token) → (t.next ≡ n → ⊥) → value_by n t ≡ none
value-short n t h =
    ap (λ (b : Bool). cond (eqb t.start 0 && b) (as_constant t.kind) none) (ne_eqb t.next n h) ∙ ap (λ (b : Bool). cond b (as_constant t.kind) none) (and-false (eqb t.start 0))

value-none : (n : ℕ) (t : Token) → ((z : ℤ) → t.kind ≡ Constant z → ⊥) → value_by n t ≡ none
value-none n t h = ap (λ (o : Option ℤ). cond (eqb t.start 0 && eqb t.next n) o none) (go t.kind h) ∙ same (eqb t.start 0 && eqb t.next n)
  where
    go : (k : Kind) → ((z : ℤ) → k ≡ Constant z → ⊥) → as_constant k ≡ none
    go (Constant z) h = absurd (h z refl)
    go _ h = refl

    same : (b : Bool) → cond {A = Option ℤ} b none none ≡ none
    same true = refl
    same false = refl

whole_is : (x : M.Token × List ℕ) (n : ℕ) → 1 ≤ n → length x.1 ≤ n → whole_token x ≡ value_by n (token_of x.0 (n - n) (n - length x.1))
unfolding token_of
whole_is (t, []) n h k =
    let a : n - n ≡ 0 = omega arith in
    let b : n - 0 ≡ n = omega arith in
    constant-kind t ∙ sym (ap₂ (λ (y z : Bool). cond (y && z) (as_constant (kind_of t)) none) (eq-eqb (n - n) 0 a) (eq-eqb (n - 0) n b))
whole_is (t, c ∷ u) n h k = sym (value-short n (token_of t (n - n) (n - suc (length u))) (λ e. omega arith))

-- no value begins with a space
space-here : (s : List ℕ) → word_value (32 ∷ s) ≡ none
unfolding word_value token_from is_word_byte is_name_byte
space-here [] = refl
space-here (c ∷ s) = refl

space-none : (b : ℕ) (s : List ℕ) → is_space b ≡ true → word_value (b ∷ s) ≡ none
space-none b s e = ap (λ (c : ℕ). word_value (c ∷ s)) (eqb-true b 32 e) ∙ space-here s

pub value-is : (w : List ℕ) → word_value w ≡ value_by (length w) (token_at w 0)
unfolding word_value token_at token_of first_token
value-is [] = refl
value-is (b ∷ s) = go (is_space b) refl
  where
    no-constant : (z : ℤ) → End ≡ Constant z → ⊥
    no-constant z q = cc

    behind : (o : Option (M.Token × List ℕ)) → is_space b ≡ true → first_token (b ∷ s) ≡ o → value_by (suc (length s)) (token_at (b ∷ s) 0) ≡ none
    behind none e f = value-none (suc (length s)) (token_at (b ∷ s) 0) (λ z q. no-constant z (sym (ap (λ (t : Token). t.kind) (none_is (b ∷ s) 0 f)) ∙ q))
    behind (some x) e f =
        rw (some_is (b ∷ s) 0 x f)
        (value-later (suc (length s)) (token_of x.0 (suc (length s) - length (drop_while is_space (b ∷ s))) (suc (length s) - length x.1))
        (λ q. omega (arith, ap length (drop-yes is_space b s e), drop-short is_space s)))

    go : (x : Bool) → is_space b ≡ x → word_value (b ∷ s) ≡ value_by (suc (length s)) (token_at (b ∷ s) 0)
    go true e = space-none b s e ∙ sym (behind (first_token (b ∷ s)) e refl)
    go false e =
        let d = drop-no is_space b s e in
        let f : first_token (b ∷ s) ≡ some (token_from b s) = ap token_here d in
        whole_is (token_from b s) (suc (length s)) (omega arith) (omega (arith, from-short b s))
        ∙ ap (λ (u : List ℕ). value_by (suc (length s)) (token_of (token_from b s).0 (suc (length s) - length u) (suc (length s) - length (token_from b s).1))) (sym d)
        ∙ ap (value_by (suc (length s))) (sym (some_is (b ∷ s) 0 (token_from b s) f))

-- ---- a number is a value of digits only

abbrev pub positive : Option ℕ → Option ℤ
positive none = none
positive (some n) = some (pos n)

-- tokens that are no constant
whole-none : (x : M.Token × List ℕ) → token_value x.0 ≡ none → whole_token x ≡ none
whole-none (t, []) h = h
whole-none (t, c ∷ u) h = refl

sign-none : (xs : List (String × M.Token)) → All (λ x. token_value x.1 ≡ none) xs → (b : ℕ) (u : List ℕ) → token_value (sign_in xs b u).0 ≡ none
sign-none [] h b u = refl
sign-none (x ∷ xs) (cons p h) b u = go (behind_prefix (bytes x.0) (b ∷ u)) refl (sign-none xs h b u)
  where
    go : (o : Option (List ℕ)) → behind_prefix (bytes x.0) (b ∷ u) ≡ o → token_value (sign_in xs b u).0 ≡ none → token_value (sign_in (x ∷ xs) b u).0 ≡ none
    go none e k = ap (λ (y : M.Token × List ℕ). token_value y.0) (sign-later x xs b u e) ∙ k
    go (some left) e k = ap (λ (y : M.Token × List ℕ). token_value y.0) (sign-here x xs b u left e) ∙ p

signs-none : (b : ℕ) (u : List ℕ) → token_value (sign_in signs b u).0 ≡ none
signs-none b u =
    sign-none signs (cons refl (cons refl (cons refl (cons refl (cons refl (cons refl (cons refl (cons refl (cons refl (cons refl (cons refl nil))))))))))) b u

keyword-none : (xs : List (String × Keyword)) (t : M.Token) (w : List ℕ) → token_value t ≡ none → token_value (keyword_or xs t w) ≡ none
keyword-none [] t w h = h
keyword-none (x ∷ xs) t w h = go (eq_list eqb w (bytes x.0)) (keyword-none xs t w h)
  where
    go : (b : Bool) → token_value (keyword_or xs t w) ≡ none → token_value (cond b (keyword x.1) (keyword_or xs t w)) ≡ none
    go true h = refl
    go false h = h

-- a word that is not of digits is a keyword, a name, or nothing
abbrev unnumbered : List ℕ → M.Token
unnumbered w = keyword_or keywords (cond (is_name (folded w)) (name (folded w)) other) w

word_none : (w : List ℕ) → all is_digit w ≡ false → token_value (word w) ≡ none
unfolding word
word_none w h =
    ap (λ (d : Bool). token_value (cond d (constant (pos (decimal w))) (unnumbered w))) h ∙ keyword-none keywords _ w (go (is_name (folded w)))
  where
    go : (b : Bool) → token_value (cond b (name (folded w)) other) ≡ none
    go true = refl
    go false = refl

word-digits : (w : List ℕ) → all is_digit w ≡ true → token_value (word w) ≡ cond (leb (decimal w) most_number) (some (pos (decimal w))) none
unfolding word
word-digits w h = ap (λ (d : Bool). token_value (cond d (constant (pos (decimal w))) (unnumbered w))) h

module _ (b : ℕ) (s : List ℕ) where
  abbrev w : List ℕ
  w = b ∷ s

  -- digits are one run of word bytes
  digits-run : all is_digit w ≡ true → drop_while is_word_byte s ≡ []
  digits-run h =
      (drop_all is_word_byte s).1
      (all-of is_word_byte (All-map (λ c e. digit-word c e) (all_true is_digit s (and_right (is_digit b) (all is_digit s) h))))

  whole_run : drop_while is_word_byte s ≡ [] → take_while is_word_byte s ≡ s
  whole_run e = sym (append-nil (take_while is_word_byte s)) ∙ ap (λ (r : List ℕ). take_while is_word_byte s ++ r) (sym e) ∙ run-split is_word_byte s

  run_none : all is_digit w ≡ false → (d : List ℕ) → drop_while is_word_byte s ≡ d → whole_token (word (b ∷ take_while is_word_byte s), d) ≡ none
  run_none h [] e = ap (λ (u : List ℕ). token_value (word (b ∷ u))) (whole_run e) ∙ word_none w h
  run_none h (c ∷ u) e = refl

  choose : Bool → Option ℕ
  choose d = cond (d && leb (decimal w) most_number) (some (decimal w)) none

  number-value : (b ≡ 45 → ⊥) → word_value w ≡ positive (word_number w)
  unfolding word_value word_number choose
  number-value h = go (is_word_byte b) refl (all is_digit w) refl
    where
      go : (x : Bool) → is_word_byte b ≡ x → (d : Bool) → all is_digit w ≡ d → whole_token (token_from b s) ≡ positive (choose (all is_digit w))
      go false e true f = clash (digit-word b (and_left (is_digit b) (all is_digit s) f)) e
      go false e false f =
          whole-none (token_from b s) (ap (λ (x : M.Token × List ℕ). token_value x.0) (from-sign b s e (ne_eqb b 45 h)) ∙ signs-none b s)
          ∙ sym (ap (λ (d : Bool). positive (choose d)) f)
      go true e false f = ap whole_token (from-word b s e) ∙ run_none f (drop_while is_word_byte s) refl ∙ sym (ap (λ (d : Bool). positive (choose d)) f)
      go true e true f =
          let d = digits-run f in
          ap whole_token (from-word b s e ∙ ap₂ (λ (u v : List ℕ). (word (b ∷ u), v)) (whole_run d) d)
          ∙ word-digits w f ∙ turn (leb (decimal w) most_number) ∙ sym (ap (λ (d : Bool). positive (choose d)) f)
        where
          turn : (c : Bool) → cond c (some (pos (decimal w))) none ≡ positive (cond c (some (decimal w)) none)
          turn true = refl
          turn false = refl

-- by whether the word begins with a minus
pub number-found : (w : List ℕ) {m : Bool} → m ≡ pointwise eqb (45 ∷ []) (take 1 w) → m ≡ false → word_value w ≡ positive (word_number w)
unfolding word_value word_number
number-found [] k h = refl
number-found (b ∷ s) k h = number-value b s (λ e. clash (ap (λ (x : Bool). x && true) (eq-eqb 45 b (sym e))) (sym k ∙ h))

pub number-minus : (w : List ℕ) {m : Bool} → m ≡ pointwise eqb (45 ∷ []) (take 1 w) → m ≡ true → word_number w ≡ none
unfolding word_number
number-minus [] k h = refl
number-minus (b ∷ s) k h = ap (λ (c : ℕ). word_number (c ∷ s)) (sym (eqb-true 45 b (and_left (eqb 45 b) true (sym k ∙ h))))

-- ---- as the program has them

module _ (w : List ℕ) (t : Token) (e : t ≡ token_at w 0) where
  found_by : as_option (value_by (length w) t) ≡ as_option (word_value w)
  found_by = ap (λ (x : Token). as_option (value_by (length w) x)) e ∙ sym (ap as_option (value-is w))

  pub found-value : (z : ℤ) → t.kind ≡ Constant z → t.start ≡ 0 → t.next ≡ length w → P.Some z ≡ as_option (word_value w)
  found-value z k a b =
      ap (λ (o : Option ℤ). as_option o) (sym (ap₂ (λ (x y : Bool). cond (x && y) (as_constant t.kind) none) (eq-eqb t.start 0 a) (eq-eqb t.next (length w) b) ∙ ap as_constant k)) ∙ found_by

  found_none : value_by (length w) t ≡ none → P.None ≡ as_option (word_value w)
  found_none h = ap as_option (sym h) ∙ found_by

  pub found-later : (t.start ≡ 0 → ⊥) → P.None ≡ as_option (word_value w)
  found-later h = found_none (value-later (length w) t h)

  pub found-short : (t.next ≡ length w → ⊥) → P.None ≡ as_option (word_value w)
  found-short h = found_none (value-short (length w) t h)

  pub found-other : ((z : ℤ) → t.kind ≡ Constant z → ⊥) → P.None ≡ as_option (word_value w)
  found-other h = found_none (value-none (length w) t h)

-- a value of digits is no negative number
pub found_number : (o : Option ℕ) (z : ℤ) → P.Some z ≡ as_option (positive o) → (n : ℕ) × (z ≡ pos n) × (as_option o ≡ P.Some n)
found_number none z e = absurd (let q : ⊥ = cc in q)
found_number (some n) z e = let q : z ≡ pos n = cc in (n, q, refl)

pub found-no : (o : Option ℕ) → P.None ≡ as_option (positive o) → P.None ≡ as_option o
found-no none e = refl
found-no (some n) e = absurd (let q : ⊥ = cc in q)

pub ok-is : {E : Type 0} (r : P.Result ℕ E) {F : Type 0} (n : ℕ) → P.OkIff r F n → F → result_ok r ≡ P.Some n
ok-is (P.Ok x) n h f = ap P.Some h.1
ok-is (P.Err e) n h f = absurd (h f)

pub fits-usize : (z : ℤ) (n : ℕ) → z ≡ pos n → SFits w32 z → FitsUnsignedBits 64 z
fits-usize z n e h =
    let k : SFits w32 (pos n) = subst (SFits w32) e h in
    let l : n < 2 ^ 31 = k.sfits in
    subst (FitsUnsignedBits 64) (sym e) (omega arith)
