-- Operands and operators, by the kind of their tokens. Assumes nothing.
use mathlib.Core.Path.{◌≡◌, refl, sym, ap, ◌∙◌}
use mathlib.Core.Bool.{Bool, true, false, not, cond}
use mathlib.Core.Option.{Option, none, some}
use Rattle.std.specs.Prelude.{Some, None}
use mathlib.Core.List.{List, [], ◌∷◌, ◌++◌}
use Prim.Native.Nat.{ℕ, ◌+◌, ◌-◌}
use native.Mathlib.Omega.{arith}
use lib.IntN.{ℤ}
use lib.ListN.{length, drop}
use lib.Dec.{ltb}
use Rattle.lists.proofs.Bools.{clash}
use Rattle.meaning.specs.Operator.{Operator, eq, ne, lt, le, gt, ge}
use Rattle.meaning.specs.Condition.{Comparison, sides}
use Rattle.meaning.specs.Tokens as T
use Rattle.meaning.specs.Tokens.{Token, tokens, Keyword, TABLE, keyword, name, operator, comma, lparen, rparen, dot, other}
use Rattle.meaning.specs.Grammar.{constant, mark, Term, column, given, spell_name, spell_dotted, spell_term}
use Rattle.meaning.specs.Reader.{a_token, a_term, name_of, operator_of}
use Rattle.meaning.specs.Limits.{is_within32, mark_count, term_givens}
use Rattle.meaning.proofs.Readers.{some-none, sound-read}
use Rattle.meaning.proofs.Decides.{Exact, name_sound, dotted-sound, term-sound}
use Rattle.token.specs.declared.Token.{Token as Read}
use Rattle.token.specs.declared.Kind.{Kind}
use Rattle.token.specs.declared.Kind.TheVariants.{Constant, Big, Eq, Ne, Lt, Le, Gt, Ge}
use Rattle.token.specs.Tokens.{operator_kind, keyword_kind, kind_of, token_at}
use Rattle.statement.proofs.Tells.{Told, told}
use Rattle.statement.specs.Private.Places.{token_on, Column, term_on}
use Rattle.statement.specs.Private.Reading.{token_past, is_operand, operator_in, is_name, marks_at, Operand, a_column, term_past}
use Rattle.statement.specs.Operators.{operator_number}
use Rattle.statement.proofs.Steps.{Look, ended, seen, look}

-- ---- question marks

append-sides : {O : Type 0} (cs ds : List (Comparison O)) → sides (cs ++ ds) ≡ sides cs ++ sides ds
append-sides [] ds = refl
append-sides (c ∷ cs) ds = ap (λ xs. c.left ∷ c.right ∷ xs) (append-sides cs ds)

pub append-marks : {C : Type 0} (xs ys : List (Term C)) → mark_count (term_givens (xs ++ ys)) ≡ mark_count (term_givens xs) + mark_count (term_givens ys)
append-marks [] ys = omega arith
append-marks (column n ∷ xs) ys = append-marks xs ys
append-marks (given v ∷ xs) ys = omega (arith, append-marks xs ys)

pub marks-of-both : {C : Type 0} (cs ds : List (Comparison (Term C))) → mark_count (term_givens (sides (cs ++ ds))) ≡ mark_count (term_givens (sides cs)) + mark_count (term_givens (sides ds))
marks-of-both cs ds = ap (λ xs. mark_count (term_givens xs)) (append-sides cs ds) ∙ append-marks (sides cs) (sides ds)

-- ---- operands

-- the operand that a token is by itself: a name is one where columns are bare
abbrev pub term_of : (b : Bool) → Token → Option (Operand b)
term_of b (keyword k) = none
term_of false (name n) = some (column n)
term_of true (name n) = none
term_of b (T.constant z) = some (given (constant z))
term_of b (operator o) = none
term_of b T.mark = some (given mark)
term_of b comma = none
term_of b lparen = none
term_of b rparen = none
term_of b dot = none
term_of b other = none

-- where columns are dotted, it is no name
abbrev pub Single : Bool → Token → Type 0
Single false t = Unit {0}
Single true t = name_of t ≡ none

pub term-reader : (b : Bool) (t : Token) (ts : List Token) → Single b t → a_term (a_column b) (t ∷ ts) ≡ a_token (term_of b) (t ∷ ts)
term-reader false (keyword k) ts h = refl
term-reader false (name n) ts h = refl
term-reader false (T.constant z) ts h = refl
term-reader false (operator o) ts h = refl
term-reader false T.mark ts h = refl
term-reader false comma ts h = refl
term-reader false lparen ts h = refl
term-reader false rparen ts h = refl
term-reader false dot ts h = refl
term-reader false other ts h = refl
term-reader true (keyword k) ts h = refl
term-reader true (name n) ts h = some-none h
term-reader true (T.constant z) ts h = refl
term-reader true (operator o) ts h = refl
term-reader true T.mark ts h = refl
term-reader true comma ts h = refl
term-reader true lparen ts h = refl
term-reader true rparen ts h = refl
term-reader true dot ts h = refl
term-reader true other ts h = refl

pub no-term : (b : Bool) → a_term (a_column b) [] ≡ none
no-term false = refl
no-term true = refl

-- no keyword's and no operator's kind is an operand's
keyword-none : (k : Keyword) → is_operand (keyword_kind k) ≡ false
keyword-none TABLE = refl
keyword-none _ = refl

operator-none : (o : Operator) → is_operand (operator_kind o) ≡ false
operator-none eq = refl
operator-none _ = refl

pub term-none : (b : Bool) (t : Token) → is_operand (kind_of t) ≡ false → term_of b t ≡ none
term-none b (keyword k) e = refl
term-none b (name n) e = clash refl e
term-none b (T.constant z) e = go (is_within32 z) e
  where
    go : (w : Bool) → is_operand (cond w (Constant z) Big) ≡ false → term_of b (T.constant z) ≡ none
    go true q = clash refl q
    go false q = clash refl q
term-none b (operator o) e = refl
term-none b T.mark e = clash refl e
term-none b comma e = refl
term-none b lparen e = refl
term-none b rparen e = refl
term-none b dot e = refl
term-none b other e = refl

-- the term x of a token t, which stands from `start` up to `next`
pub record IsTerm (b : Bool) (t : Token) (start next : ℕ) (x : Operand b) : Type 0 where
  pub term : term_of b t ≡ some x
  pub over : token_past (kind_of t) start next ≡ term_past b x
  pub marks : marks_at (kind_of t) ≡ mark_count (term_givens (x ∷ []))
  pub here : (s : List ℕ) (p : ℕ) → token_on s p ≡ t → term_on b s p ≡ x

pub is-term : (b : Bool) (t : Token) (start next : ℕ) → ((n : T.Name) → t ≡ name n → next - start ≡ length n) → Single b t → is_operand (kind_of t) ≡ true
    → (x : Operand b) × IsTerm b t start next x
unfolding token_past
is-term b (keyword k) start next l h e = clash e (keyword-none k)
is-term false (name n) start next l h e = (column n, record { term = refl; over = ap (ltb 12) (l n refl); marks = refl; here = λ s p q. rw q })
is-term true (name n) start next l h e = some-none h
is-term b (T.constant z) start next l h e = (given (constant z), record { term = refl; over = go (is_within32 z); marks = no-mark (is_within32 z); here = λ s p q. rw q })
  where
    go : (b : Bool) → token_past (cond b (Constant z) Big) start next ≡ not b
    go true = refl
    go false = refl

    no-mark : (b : Bool) → marks_at (cond b (Constant z) Big) ≡ 0
    no-mark true = refl
    no-mark false = refl
is-term b (operator o) start next l h e = clash e (operator-none o)
is-term b T.mark start next l h e = (given mark, record { term = refl; over = refl; marks = refl; here = λ s p q. rw q })
is-term b comma start next l h e = clash e refl
is-term b lparen start next l h e = clash e refl
is-term b rparen start next l h e = clash e refl
is-term b dot start next l h e = clash e refl
is-term b other start next l h e = clash e refl

-- ---- columns among them

abbrev pub is_column : {C : Type 0} → Term C → Bool
is_column (column n) = true
is_column (given v) = false

pub column-is : {C : Type 0} (x : Term C) → is_column x ≡ true → (n : C) × (x ≡ column n)
column-is (column n) e = (n, refl)
column-is (given v) e = clash e refl

-- a name is the first token of a column, and of no other operand
abbrev spelling : (b : Bool) → Column b → List Token → List Token
spelling false = spell_name
spelling true = spell_dotted

spelled-so : (b : Bool) → Exact (spelling b) (a_column b)
spelled-so false = name_sound
spelled-so true = dotted-sound

begins-column : (b : Bool) (x : Operand b) (more : List Token) (t : Token) (ts : List Token) → t ∷ ts ≡ spell_term (spelling b) x more → is_column x ≡ is_name (kind_of t)
begins-column b x more t ts e = go b x e
  where
    first : List Token → Token
    first [] = other
    first (u ∷ us) = u

    within : (z : ℤ) (w : Bool) → false ≡ is_name (cond w (Constant z) Big)
    within z true = refl
    within z false = refl

    go : (b : Bool) (x : Operand b) → t ∷ ts ≡ spell_term (spelling b) x more → is_column x ≡ is_name (kind_of t)
    go false (column n) q = sym (ap (λ us. is_name (kind_of (first us))) q)
    go true (column n) q = sym (ap (λ us. is_name (kind_of (first us))) q)
    go b (given (constant z)) q = within z (is_within32 z) ∙ sym (ap (λ us. is_name (kind_of (first us))) q)
    go b (given mark) q = sym (ap (λ us. is_name (kind_of (first us))) q)

pub first-column : (b : Bool) (s : List ℕ) (at : ℕ) (u : Read) → u ≡ token_at s at → (x : Operand b) (more : List Token) → a_term (a_column b) (tokens (drop at s)) ≡ some (x, more)
    → is_column x ≡ is_name u.kind
first-column b s at u e x more f = go (look s at u e)
  where
    go : Look s at u → is_column x ≡ is_name u.kind
    go (ended z q) = some-none (sym f ∙ ap (a_term (a_column b)) q ∙ no-term b)
    go (seen v) =
        begins-column b x more v.token (tokens (drop u.next s)) (sym v.left ∙ sound-read (term-sound (spelled-so b)) (tokens (drop at s)) x more f)
        ∙ ap is_name v.kind

-- ---- operators

pub no-operator : (t : Token) → operator_in (kind_of t) ≡ None → operator_of t ≡ none
no-operator (operator o) e = go o e
  where
    go : (o : Operator) → operator_in (operator_kind o) ≡ None → operator_of (operator o) ≡ none
    go eq q = cc
    go _ q = cc
no-operator _ e = refl

pub is-operator : (t : Token) (n : ℕ) → operator_in (kind_of t) ≡ Some n → (o : Operator) × (t ≡ operator o) × (n ≡ operator_number o)
is-operator t n e = go (kind_of t) e (told t)
  where
    go : (k : Kind) → operator_in k ≡ Some n → Told t k → (o : Operator) × (t ≡ operator o) × (n ≡ operator_number o)
    go Eq q r = (eq, r, cc)
    go Ne q r = (ne, r, cc)
    go Lt q r = (lt, r, cc)
    go Le q r = (le, r, cc)
    go Gt q r = (gt, r, cc)
    go Ge q r = (ge, r, cc)
    go _ q r = absurd (cc)
