-- What stands at a place of a text, by the token that is read there: a name's bytes in small letters, a constant's value, or a question mark. Assumes nothing.
use mathlib.Core.Path.{◌≡◌, refl, sym, ap, ◌∙◌}
use mathlib.Core.Logic.{◌≢◌}
use mathlib.Core.Bool.{Bool, true, false, cond}
use mathlib.Core.Option.{Option, none, some}
use Rattle.std.specs.Prelude.{Some, None}
use mathlib.Core.List.{List, ◌∷◌}
use Prim.Native.Nat.{ℕ, ◌-◌}
use lib.IntN.{ℤ, pos}
use lib.ListN.{take, drop}
use Rattle.meaning.specs.Tokens as M
use Rattle.meaning.specs.Tokens.{keyword, name, operator, mark, comma, lparen, rparen, dot, other, folded, first_token, tokens}
use Rattle.meaning.specs.Grammar as G
use Rattle.meaning.specs.Reader.{name_of, constant_of}
use Rattle.meaning.specs.Limits.{is_within32}
use Rattle.meaning.proofs.Stream.{tokens-some}
use Rattle.token.specs.declared.Token.{Token}
use Rattle.token.specs.declared.Kind.{Kind}
use Rattle.token.specs.declared.Kind.TheVariants.{End, Name as Named, Constant, Big}
use Rattle.token.specs.Tokens.{kind_of, token_of, token_at}
use Rattle.token.proofs.Cases.{none_is, some_is}
use Rattle.statement.proofs.Tells.{Told, told}
use Rattle.token.proofs.Laws.{token-some}
use Rattle.statement.specs.Private.Places.{first, token_on, given_on, or_mark}
use Rattle.statement.specs.Private.Built.{short_given, constant_in, rows_as}

-- ---- kinds

pub kind-no-name : (t : M.Token) → kind_of t ≢ Named → name_of t ≡ none
kind-no-name (name n) h = absurd (h refl)
kind-no-name _ h = refl

-- a constant's kind, and any other
pub kind-given : (t : M.Token) (z : ℤ) → constant_in (kind_of t) ≡ Some z → short_given (or_mark (constant_of t)) ≡ G.constant z
kind-given t z h = go (kind_of t) h (told t)
  where
    kept : (y : ℤ) (b : Bool) → is_within32 y ≡ b → short_given (G.constant y) ≡ G.constant (cond b y (pos 0))
    kept y b e = ap (λ (c : Bool). G.constant (cond c y (pos 0))) e

    go : (k : Kind) → constant_in k ≡ Some z → Told t k → short_given (or_mark (constant_of t)) ≡ G.constant z
    go (Constant y) q r = let e : y ≡ z = cc in ap (λ (u : M.Token). short_given (or_mark (constant_of u))) r.0 ∙ kept y true r.1 ∙ ap G.constant e
    go Big q r = let e : pos 0 ≡ z = cc in ap (λ (u : M.Token). short_given (or_mark (constant_of u))) r.1 ∙ kept r.0 false r.2 ∙ ap G.constant e
    go _ q r = absurd (cc)

pub kind-mark : (t : M.Token) → constant_in (kind_of t) ≡ None → or_mark (constant_of t) ≡ G.mark
kind-mark (M.constant z) h = go (is_within32 z) h
  where
    go : (b : Bool) → constant_in (cond b (Constant z) Big) ≡ None → or_mark (constant_of (M.constant z)) ≡ G.mark
    go true q = cc
    go false q = cc
kind-mark _ h = refl

-- ---- the token that is read at a place

module _ (s : List ℕ) (p : ℕ) where
  -- at the end of the text nothing stands
  pub data Stood (r : Token) : Type 0 where
    ended : r.kind ≡ End → token_on s p ≡ other → Stood r
    stands : kind_of (token_on s p) ≡ r.kind → Stood r

  on_none : first_token (drop p s) ≡ none → token_on s p ≡ other
  unfolding token_on
  on_none e = ap first e

  on_some : (x : M.Token × List ℕ) → first_token (drop p s) ≡ some x → token_on s p ≡ x.0
  unfolding token_on
  on_some x e = ap first e

  stood : Stood (token_at s p)
  unfolding token_of
  stood = go (first_token (drop p s)) refl
    where
      go : (o : Option (M.Token × List ℕ)) → first_token (drop p s) ≡ o → Stood (token_at s p)
      go none e = ended (ap (λ (r : Token). r.kind) (none_is s p e)) (on_none e)
      go (some x) e = stands (ap kind_of (on_some x e) ∙ sym (ap (λ (r : Token). r.kind) (some_is s p x e)))

  -- it is the first of the tokens left
  on_read : (k : (token_at s p).kind ≢ End) → token_on s p ≡ (token-some s p k).token
  on_read k = go (first_token (drop p s)) refl
    where
      go : (o : Option (M.Token × List ℕ)) → first_token (drop p s) ≡ o → token_on s p ≡ (token-some s p k).token
      go none e = absurd (k (ap (λ (r : Token). r.kind) (none_is s p e)))
      go (some x) e =
          let a : tokens (drop p s) ≡ x.0 ∷ tokens x.1 = tokens-some (drop p s) x.0 x.1 e in
          let b : tokens (drop p s) ≡ (token-some s p k).token ∷ tokens (drop (token_at s p).next s) = (token-some s p k).left in
          on_some x e ∙ cc

  -- a name
  pub named-there : (token_at s p).kind ≡ Named → name_of (token_on s p) ≡ some (folded (take ((token_at s p).next - (token_at s p).start) (drop (token_at s p).start s)))
  named-there e =
      let k : (token_at s p).kind ≢ End = λ z. cc in
      ap name_of (on_read k ∙ (token-some s p k).named e)

  -- no name
  pub unnamed-there : (token_at s p).kind ≢ Named → name_of (token_on s p) ≡ none
  unnamed-there h = go stood
    where
      go : Stood (token_at s p) → name_of (token_on s p) ≡ none
      go (ended z q) = ap name_of q
      go (stands k) = kind-no-name (token_on s p) (λ e. h (sym k ∙ e))

  -- a constant
  pub given-there : (z : ℤ) → constant_in (token_at s p).kind ≡ Some z → short_given (given_on s p) ≡ G.constant z
  given-there z h = go stood
    where
      go : Stood (token_at s p) → short_given (given_on s p) ≡ G.constant z
      go (ended e q) = let x = ap constant_in e in absurd (cc)
      go (stands k) = kind-given (token_on s p) z (ap constant_in k ∙ h)

  -- no constant
  pub mark-there : constant_in (token_at s p).kind ≡ None → given_on s p ≡ G.mark
  mark-there h = go stood
    where
      go : Stood (token_at s p) → given_on s p ≡ G.mark
      go (ended e q) = ap (λ (t : M.Token). or_mark (constant_of t)) q
      go (stands k) = kind-mark (token_on s p) (ap constant_in k ∙ h)

  pub rows_there : rows_as (token_at s p).kind ≡ rows_as (kind_of (token_on s p))
  rows_there = go stood
    where
      go : Stood (token_at s p) → rows_as (token_at s p).kind ≡ rows_as (kind_of (token_on s p))
      go (ended e q) = ap rows_as e ∙ sym (ap (λ (t : M.Token). rows_as (kind_of t)) q)
      go (stands k) = ap rows_as (sym k)
