-- The constants of a text, one token at a time. Assumes nothing.
use Rattle.std.proofs.Common.{◌≡◌, refl, sym, subst, ap, ◌∙◌, Bool, true, false, cond, List, [], ◌∷◌, ℕ, ℤ, drop}
use Rattle.meaning.specs.Tokens as M
use Rattle.meaning.specs.Tokens.{keyword, name, constant, operator, mark, comma, lparen, rparen, dot, other, tokens}
use Rattle.meaning.specs.Limits.{is_within32}
use Rattle.token.specs.declared.Kind.{Kind}
use Rattle.token.specs.declared.Kind.TheVariants.{End, Constant, Big}
use Rattle.token.specs.declared.Token.{Token}
use Rattle.token.specs.Tokens.{kind_of, token_at}
use Rattle.token.proofs.TokenKinds.{kind-within}
use Rattle.token.proofs.Laws.{Reads, token_end, token-some}
use Rattle.script.specs.Script.{constants, constants_of}

some : (t : M.Token) (ts : List M.Token) (z : ℤ) → kind_of t ≡ Constant z → constants (t ∷ ts) ≡ z ∷ constants ts
some t ts z e =
    let k = kind-within t z e in
    ap (λ u. constants (u ∷ ts)) k.0 ∙ ap (λ b. cond b (z ∷ constants ts) []) k.1

none : (t : M.Token) (ts : List M.Token) → ((z : ℤ) → kind_of t ≡ Constant z → ⊥) → constants (t ∷ ts) ≡ []
none (constant z) ts e = go (is_within32 z) e
  where
    go : (b : Bool) → ((y : ℤ) → cond b (Constant z) Big ≡ Constant y → ⊥) → cond b (z ∷ constants ts) [] ≡ []
    go true e = absurd (e z refl)
    go false e = refl
none (keyword k) ts e = refl
none (name n) ts e = refl
none (operator o) ts e = refl
none mark ts e = refl
none comma ts e = refl
none lparen ts e = refl
none rparen ts e = refl
none dot ts e = refl
none other ts e = refl

-- what the token that is read at a place says of the constants from there on
module _ (s : List ℕ) (at : ℕ) where
  pub some-left : (t : Token) (z : ℤ) → t ≡ token_at s at → t.kind ≡ Constant z → constants_of (drop at s) ≡ z ∷ constants_of (drop t.next s)
  some-left t z e k =
      let P : Token → Type 0 = λ u. constants_of (drop at s) ≡ z ∷ constants_of (drop u.next s) in
      let q : (token_at s at).kind ≡ Constant z = ap (λ (x : Token). x.kind) (sym e) ∙ k in
      let r : Reads s at (token_at s at) = token-some s at (λ i. no-end (sym q ∙ i)) in
      subst P (sym e) (ap constants r.left ∙ some r.token (tokens (drop (token_at s at).next s)) z (r.kind ∙ q))
    where
      no-end : Constant z ≡ End → ⊥
      no-end i = cc

  pub none-left : (t : Token) → t ≡ token_at s at → ((z : ℤ) → t.kind ≡ Constant z → ⊥) → constants_of (drop at s) ≡ []
  none-left t e k = go (token_at s at).kind refl
    where
      tail : ((token_at s at).kind ≡ End → ⊥) → constants_of (drop at s) ≡ []
      tail h =
          let r : Reads s at (token_at s at) = token-some s at h in
          ap constants r.left ∙ none r.token (tokens (drop (token_at s at).next s)) (λ z q. k z (ap (λ (x : Token). x.kind) e ∙ sym r.kind ∙ q))

      go : (j : Kind) → (token_at s at).kind ≡ j → constants_of (drop at s) ≡ []
      go End q = ap constants (token_end s at q)
      go _ q = tail (λ i. cc (q, i))
