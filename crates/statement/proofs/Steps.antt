-- A token u that was read at a place of the text s: what it says of the tokens from there on. Assumes nothing.
use mathlib.Core.Path.{◌≡◌, refl, sym, ap, subst, ◌∙◌}
use mathlib.Core.Bool.{true, false}
use mathlib.Core.Option.{Option, none, some}
use mathlib.Core.List.{List, [], ◌∷◌}
use Prim.Native.Nat.{ℕ, ◌-◌, ◌≤◌, ◌<◌}
use native.Mathlib.Omega.{arith}
use lib.ListN.{length, take, drop, length-map, length-take, length-drop}
use Rattle.meaning.specs.Tokens as T
use Rattle.meaning.specs.Tokens.{name, folded_byte, folded, first_token, tokens}
use Rattle.meaning.proofs.Readers.{begins, same_not}
use Rattle.token.specs.declared.Token.{Token}
use Rattle.token.specs.declared.Kind.TheVariants.{End}
use Rattle.token.specs.Tokens.{kind_of, token_of, token_at}
use Rattle.token.proofs.Cases.{none_is, some_is}
use Rattle.token.proofs.Laws.{Reads, token_end, token-some}
use Rattle.token.proofs.TokenKinds.{is_fixed, kind-some, kind-fixed}
use Rattle.statement.specs.declared.conditions.Cursor.{Cursor}
use Rattle.statement.specs.Private.Places.{first, token_on}
use Rattle.statement.specs.Private.Reading.{Stands, moved_to}

-- no token is left, or one stands first
pub data Look (s : List ℕ) (at : ℕ) (u : Token) : Type 0 where
  ended : u.kind ≡ End → tokens (drop at s) ≡ [] → Look s at u
  seen : Reads s at u → Look s at u

pub look : (s : List ℕ) (at : ℕ) (u : Token) → u ≡ token_at s at → Look s at u
unfolding token_of
look s at u e = go (first_token (drop at s)) refl
  where
    kind_is : u.kind ≡ (token_at s at).kind
    kind_is = ap (λ (v : Token). v.kind) e

    go : (o : Option (T.Token × List ℕ)) → first_token (drop at s) ≡ o → Look s at u
    go none q = let k : (token_at s at).kind ≡ End = ap (λ (v : Token). v.kind) (none_is s at q) in ended (kind_is ∙ k) (token_end s at k)
    go (some x) q = seen (subst (Reads s at) (sym e) (token-some s at (λ z. kind-some x.0 (sym (ap (λ (v : Token). v.kind) (some_is s at x q)) ∙ z))))

module _ {s : List ℕ} {at : ℕ} {u : Token} (v : Reads s at u) where
  pub stands-there : token_on s u.start ≡ v.token
  unfolding token_on
  stands-there = ap first v.here

  -- a name has as many bytes as lie between its ends
  pub name_length : (n : T.Name) → v.token ≡ name n → u.next - u.start ≡ length n
  name_length n q =
      let m : List ℕ = take (u.next - u.start) (drop u.start s) in
      let e : name n ≡ name (folded m) = sym q ∙ v.named (sym v.kind ∙ ap kind_of q) in
      let f : n ≡ folded m = cc in
      omega (arith, v.moves, v.inside, ap length f, length-map m folded_byte, length-take (u.next - u.start) (drop u.start s), length-drop u.start s)

-- the token t was passed
pub record Goes (s : List ℕ) (at next : ℕ) (t : T.Token) : Type 0 where
  pub on : at < next
  pub within : next ≤ length s
  pub after : tokens (drop at s) ≡ t ∷ tokens (drop next s)

-- behind it a cursor stands that stood before it
pub stands-past : {s : List ℕ} {next : ℕ} {t : T.Token} (c : Cursor) → Stands s c → Goes s c.at next t → Stands s (moved_to next c)
stands-past c st g =
    record { short = st.short; inside = g.within; few_nodes = omega (arith, st.few_nodes, g.on); few_marks = omega (arith, st.few_marks, g.on) }

module _ (s : List ℕ) (at : ℕ) (u : Token) (e : u ≡ token_at s at) (t : T.Token) where
  pub goes : is_fixed (kind_of t) ≡ true → u.kind ≡ kind_of t → Goes s at u.next t
  goes f h = go (look s at u e)
    where
      go : Look s at u → Goes s at u.next t
      go (ended z q) = absurd (kind-some t (sym h ∙ z))
      go (seen v) =
          record {
            on = omega (arith, v.from, v.moves);
            within = v.inside;
            after = v.left ∙ ap (λ x. x ∷ tokens (drop u.next s)) (kind-fixed v.token t f (v.kind ∙ h));
          }

  pub stops : (u.kind ≡ kind_of t → ⊥) → begins t (tokens (drop at s)) ≡ false
  stops h = go (look s at u e)
    where
      go : Look s at u → begins t (tokens (drop at s)) ≡ false
      go (ended z q) = ap (begins t) q
      go (seen v) = ap (begins t) v.left ∙ same_not v.token t (λ q. h (sym v.kind ∙ ap kind_of q))
