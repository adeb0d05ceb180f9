-- What `next` finds, for its callers: the tokens of a text from a position on are its token and those from the token's end on. Assumes nothing.
use mathlib.Core.Path.{◌≡◌, refl, sym, ap, ap₂, subst, ◌∙◌}
use mathlib.Core.Logic.{◌≢◌}
use mathlib.Core.Bool.{Bool, true, false, cond}
use mathlib.Core.Option.{Option, none, some}
use mathlib.Core.List.{List, [], ◌∷◌}
use Prim.Native.Nat.{ℕ, ◌+◌, ◌-◌, ◌≤◌, ◌<◌}
use Prim.Native.String.{String}
use native.Mathlib.Nat.{le_refl, le_trans}
use native.Mathlib.Omega.{arith}
use native.Mathlib.Decide.{dec_le}
use lib.Dec.{eqb}
use lib.IntN.{ℤ, pos, neg_ℤ}
use lib.ListN.{length, take, drop, drop_of_length-le, length-drop}
use lib.Seq.{drop-drop}
use Rattle.lists.specs.Lists.{bytes, all, take_while, drop_while}
use Rattle.lists.specs.Tests.{eq_list}
use Rattle.lists.proofs.Bools.{and_left, and_right, clash}
use Rattle.lists.proofs.Runs.{take-yes, drop-yes, drop-short, drop-twice, take-run, drop-run, run_length}
use Rattle.meaning.specs.Tokens as M
use Rattle.meaning.specs.Tokens.{keyword, name, constant, other, is_digit, is_word_byte, is_space, is_minus, is_name, folded, decimal, Keyword, keywords, keyword_or, is_keyword, word, negative, signs, behind_prefix, sign_in, token_from, token_here, first_token, tokens}
use Rattle.meaning.proofs.Readers.{some-none, some_same}
use Rattle.meaning.proofs.Stream.{from-word, from-minus, from-sign, sign-here, sign-later, first-shorter, first-spaces, tokens_none, tokens-some}
use Rattle.token.specs.declared.Token.{Token}
use Rattle.token.specs.declared.Kind.TheVariants.{End, Name}
use Rattle.token.specs.Tokens.{kind_of, token_of, token_at}
use Rattle.token.proofs.Words.{keyword-or}
use Rattle.token.proofs.Cases.{none_is, some_is, past_end}
use Rattle.token.proofs.TokenKinds.{is_fixed, kind-some, kind-name}

-- ---- what a token leaves is an end of the text

record Ending (u left : List ℕ) : Type 0 where
  from : ℕ
  same : left ≡ drop from u

-- an end of a text starts where its length says
ending_at : (u left : List ℕ) → Ending u left → left ≡ drop (length u - length left) u
ending_at u left e = go (dec_le e.from (length u))
  where
    go : Dec (e.from ≤ length u) → left ≡ drop (length u - length left) u
    go (yes h) =
        let q : length u - length left ≡ e.from = omega (arith, ap length e.same, length-drop e.from u) in
        e.same ∙ ap (λ k. drop k u) (sym q)
    go (no h) =
        let l : length u ≤ e.from = omega arith in
        let z : left ≡ [] = e.same ∙ drop_of_length-le u l in
        let m : length u ≤ length u - length left = omega (arith, ap length z) in
        z ∙ sym (drop_of_length-le u m)

ending-on : (s : List ℕ) (at : ℕ) (left : List ℕ) → Ending (drop at s) left → Ending s left
ending-on s at left e = record { from = at + e.from; same = e.same ∙ drop-drop e.from at s }

run-ending : (p : ℕ → Bool) (u : List ℕ) → Ending u (drop_while p u)
run-ending p u = record { from = length (take_while p u); same = sym (drop-run p u) }

later : (b : ℕ) (u left : List ℕ) → Ending u left → Ending (b ∷ u) left
later b u left e = ending-on (b ∷ u) 1 left e

prefix-ending : (p u left : List ℕ) → behind_prefix p u ≡ some left → Ending u left
prefix-ending [] u left e = record { from = 0; same = sym (some_same e) }
prefix-ending (c ∷ p) [] left e = some-none (sym e)
prefix-ending (c ∷ p) (b ∷ u) left e = go (eqb c b) e (prefix-ending p u left)
  where
    go : (y : Bool) → cond y (behind_prefix p u) none ≡ some left → (behind_prefix p u ≡ some left → Ending u left) → Ending (b ∷ u) left
    go true q ih = later b u left (ih q)
    go false q ih = some-none (sym q)

sign-ending : (xs : List (String × M.Token)) (b : ℕ) (u : List ℕ) → Ending (b ∷ u) (sign_in xs b u).1
sign-ending [] b u = record { from = 1; same = refl }
sign-ending (x ∷ xs) b u = go (behind_prefix (bytes x.0) (b ∷ u)) refl (sign-ending xs b u)
  where
    go : (o : Option (List ℕ)) → behind_prefix (bytes x.0) (b ∷ u) ≡ o → Ending (b ∷ u) (sign_in xs b u).1 → Ending (b ∷ u) (sign_in (x ∷ xs) b u).1
    go none e ih = rw (sign-later x xs b u e) ih
    go (some left) e ih = rw (sign-here x xs b u left e) (prefix-ending (bytes x.0) (b ∷ u) left e)

from-ending : (b : ℕ) (u : List ℕ) → Ending (b ∷ u) (token_from b u).1
from-ending b u = go (is_word_byte b) (is_minus b) refl refl
  where
    go : (w m : Bool) → is_word_byte b ≡ w → is_minus b ≡ m → Ending (b ∷ u) (token_from b u).1
    go true m e f = rw (from-word b u e) (later b u _ (run-ending is_word_byte u))
    go false true e f = rw (from-minus b u e f) (later b u _ (run-ending is_word_byte u))
    go false false e f = rw (from-sign b u e f) (sign-ending signs b u)

here-ending : (u : List ℕ) (x : M.Token × List ℕ) → token_here u ≡ some x → Ending u x.1
here-ending [] x e = some-none (sym e)
here-ending (b ∷ u) x e = subst (λ (y : M.Token × List ℕ). Ending (b ∷ u) y.1) (some_same e) (from-ending b u)

-- ---- a name's bytes

-- only a word that is a name has a name's kind
constant-no-name : (z : ℤ) → kind_of (constant z) ≢ Name
constant-no-name z e = never (kind-name (constant z) e)
  where
    never : (n : M.Name) × (constant z ≡ name n) → ⊥
    never (n, q) = cc

keyword-no-name : (xs : List (String × Keyword)) (w : List ℕ) → kind_of (keyword_or xs other w) ≢ Name
keyword-no-name [] w e = cc
keyword-no-name (x ∷ xs) w e = go (eq_list eqb w (bytes x.0)) e (keyword-no-name xs w)
  where
    never : (k : Keyword) → (n : M.Name) × (keyword k ≡ name n) → ⊥
    never k (n, q) = cc

    go : (b : Bool) → kind_of (cond b (keyword x.1) (keyword_or xs other w)) ≡ Name → kind_of (keyword_or xs other w) ≢ Name → ⊥
    go true q ih = never x.1 (kind-name (keyword x.1) q)
    go false q ih = ih q

word-name : (w : List ℕ) → kind_of (word w) ≡ Name → word w ≡ name (folded w)
unfolding word
word-name w e = by ∙ go (all is_digit w) (is_keyword w) (is_name (folded w)) (sym (ap kind_of by) ∙ e)
  where
    -- of digits, a keyword, a name
    token : Bool → Bool → Bool → M.Token
    token d k n = cond d (constant (pos (decimal w))) (cond k (keyword_or keywords other w) (cond n (name (folded w)) other))

    by : word w ≡ token (all is_digit w) (is_keyword w) (is_name (folded w))
    by = ap (cond (all is_digit w) (constant (pos (decimal w)))) (keyword-or keywords _ w)

    go : (d k n : Bool) → kind_of (token d k n) ≡ Name → token d k n ≡ name (folded w)
    go true k n q = absurd (constant-no-name (pos (decimal w)) q)
    go false true n q = absurd (keyword-no-name keywords w q)
    go false false true q = refl
    go false false false q = cc

negative-no-name : (w : List ℕ) → kind_of (negative w) ≢ Name
unfolding negative
negative-no-name [] e = cc
negative-no-name (b ∷ w) e = go (all is_digit (b ∷ w)) e
  where
    go : (d : Bool) → kind_of (cond d (constant (neg_ℤ (pos (decimal (b ∷ w))))) other) ≡ Name → ⊥
    go true q = constant-no-name (neg_ℤ (pos (decimal (b ∷ w)))) q
    go false q = cc

-- no sign of a table has a name's kind
abbrev is_plain : String × M.Token → Bool
is_plain x = is_fixed (kind_of x.1)

sign-no-name : (xs : List (String × M.Token)) (b : ℕ) (u : List ℕ) → all is_plain xs ≡ true → kind_of (sign_in xs b u).0 ≢ Name
sign-no-name [] b u h e = cc
sign-no-name (x ∷ xs) b u h e = go (behind_prefix (bytes x.0) (b ∷ u)) refl (sign-no-name xs b u (and_right (is_plain x) (all is_plain xs) h))
  where
    go : (o : Option (List ℕ)) → behind_prefix (bytes x.0) (b ∷ u) ≡ o → kind_of (sign_in xs b u).0 ≢ Name → ⊥
    go none q ih = ih (sym (ap (λ (y : M.Token × List ℕ). kind_of y.0) (sign-later x xs b u q)) ∙ e)
    go (some left) q ih =
        clash (and_left (is_plain x) (all is_plain xs) h) (ap is_fixed (sym (ap (λ (y : M.Token × List ℕ). kind_of y.0) (sign-here x xs b u left q)) ∙ e))

-- a name is the run of word bytes from its first byte on, in small letters
name-run : (b : ℕ) (u : List ℕ) → kind_of (token_from b u).0 ≡ Name → token_from b u ≡ (name (folded (take_while is_word_byte (b ∷ u))), drop_while is_word_byte (b ∷ u))
name-run b u k = go (is_word_byte b) (is_minus b) refl refl
  where
    kinds : (x : M.Token × List ℕ) → token_from b u ≡ x → kind_of x.0 ≡ Name
    kinds x e = sym (ap (λ (y : M.Token × List ℕ). kind_of y.0) e) ∙ k

    go : (w m : Bool) → is_word_byte b ≡ w → is_minus b ≡ m → token_from b u ≡ (name (folded (take_while is_word_byte (b ∷ u))), drop_while is_word_byte (b ∷ u))
    go true m e f =
        let w = b ∷ take_while is_word_byte u in
        from-word b u e
        ∙ ap₂ (λ t left. (t, left)) (word-name w (kinds (word w, drop_while is_word_byte u) (from-word b u e)) ∙ ap (λ (v : List ℕ). name (folded v)) (sym (take-yes is_word_byte b u e))) (sym (drop-yes is_word_byte b u e))
    go false true e f = absurd (negative-no-name (take_while is_word_byte u) (kinds (negative (take_while is_word_byte u), drop_while is_word_byte u) (from-minus b u e f)))
    go false false e f = absurd (sign-no-name signs b u refl (kinds (sign_in signs b u) (from-sign b u e f)))

-- its bytes are those from its start up to its end
name-bytes : (u : List ℕ) (x : M.Token × List ℕ) → token_here u ≡ some x → kind_of x.0 ≡ Name → x.0 ≡ name (folded (take (length u - length x.1) u))
name-bytes [] x e k = some-none (sym e)
name-bytes (b ∷ u) x e k =
    let v = b ∷ u in
    let y : token_from b u ≡ x = some_same e in
    let r : x ≡ (name (folded (take_while is_word_byte v)), drop_while is_word_byte v) = sym y ∙ name-run b u (ap (λ (z : M.Token × List ℕ). kind_of z.0) y ∙ k) in
    let l : length v - length x.1 ≡ length (take_while is_word_byte v) = omega (arith, ap (λ (z : M.Token × List ℕ). length z.1) r, run_length is_word_byte v) in
    ap (λ (z : M.Token × List ℕ). z.0) r ∙ ap (λ (w : List ℕ). name (folded w)) (sym (take-run is_word_byte v) ∙ ap (λ n. take n v) (sym l))

-- ---- the token's place

-- the first token starts behind the spaces
module _ (s : List ℕ) (at : ℕ) (x : M.Token × List ℕ) (e : first_token (drop at s) ≡ some x) where
  abbrev body : List ℕ
  body = drop_while is_space (drop at s)

  abbrev start : ℕ
  start = length s - length body

  abbrev next : ℕ
  next = length s - length x.1

  body_is : body ≡ drop start s
  body_is = ending_at s body (ending-on s at body (run-ending is_space (drop at s)))

  left_is : x.1 ≡ drop next s
  unfolding first_token
  left_is = ending_at s x.1 (ending-on s start x.1 (subst (λ u. Ending u x.1) body_is (here-ending body x e)))

  body-first : first_token body ≡ some x
  body-first = first-spaces (drop at s) ∙ e

  first-here : first_token (drop start s) ≡ some x
  first-here = ap first_token (sym body_is) ∙ body-first

  at-is : token_at s at ≡ token_of x.0 start next
  at-is = some_is s at x e

  -- reading again where the token starts
  start_is : token_at s start ≡ token_of x.0 start next
  start_is =
      let q : length (drop_while is_space (drop start s)) ≡ length body = ap (λ u. length (drop_while is_space u)) (sym body_is) ∙ ap length (drop-twice is_space (drop at s)) in
      some_is s start x first-here ∙ ap (λ n. token_of x.0 (length s - n) next) q

  order : (at ≤ start) × (start < next) × (next ≤ length s)
  order =
      let a = first-shorter (drop at s) x.0 x.1 e in
      let b = first-shorter body x.0 x.1 body-first in
      let d = drop-short is_space (drop at s) in
      omega (arith, length-drop at s)

  name-here : kind_of x.0 ≡ Name → x.0 ≡ name (folded (take (next - start) (drop start s)))
  unfolding first_token
  name-here k =
      let d = drop-short is_space (drop at s) in
      let l = first-shorter body x.0 x.1 body-first in
      let q : length body - length x.1 ≡ next - start = omega (arith, length-drop at s) in
      name-bytes body x e k ∙ ap (λ (w : List ℕ). name (folded w)) (ap₂ take q body_is)

-- what the token that is read from `at` on says of the text
pub record Reads (s : List ℕ) (at : ℕ) (r : Token) : Type 0 where
  pub token : M.Token
  pub kind : kind_of token ≡ r.kind
  -- it is the first of the tokens that are left, and the others are those from its end on
  pub left : tokens (drop at s) ≡ token ∷ tokens (drop r.next s)
  pub from : at ≤ r.start
  pub moves : r.start < r.next
  pub inside : r.next ≤ length s
  -- it starts at `start`, and ends before `next`
  pub here : first_token (drop r.start s) ≡ some (token, drop r.next s)
  pub named : r.kind ≡ Name → token ≡ name (folded (take (r.next - r.start) (drop r.start s)))

module _ (s : List ℕ) (at : ℕ) where
  reads_at : (x : M.Token × List ℕ) → first_token (drop at s) ≡ some x → Reads s at (token_at s at)
  unfolding token_of
  reads_at x e =
      let o = order s at x e in
      let l = left_is s at x e in
      rw (at-is s at x e)
      (record {
        token = x.0;
        kind = refl;
        left = tokens-some (drop at s) x.0 x.1 e ∙ ap (λ u. x.0 ∷ tokens u) l;
        from = o.0;
        moves = o.1;
        inside = o.2;
        here = first-here s at x e ∙ ap (λ u. some (x.0, u)) l;
        named = name-here s at x e;
      })

  -- ---- for callers: the end of the text, and a token

  -- the kind `End` says that no token is left
  pub token_end : (token_at s at).kind ≡ End → tokens (drop at s) ≡ []
  token_end k = go (first_token (drop at s)) refl
    where
      go : (o : Option (M.Token × List ℕ)) → first_token (drop at s) ≡ o → tokens (drop at s) ≡ []
      go none e = tokens_none (drop at s) e
      go (some x) e = absurd (kind-some (reads_at x e).token ((reads_at x e).kind ∙ k))

  pub token-ended : tokens (drop at s) ≡ [] → (token_at s at).kind ≡ End
  token-ended k = go (first_token (drop at s)) refl
    where
      go : (o : Option (M.Token × List ℕ)) → first_token (drop at s) ≡ o → (token_at s at).kind ≡ End
      go none e = ap (λ (r : Token). r.kind) (none_is s at e)
      go (some x) e = absurd (never (sym k ∙ (reads_at x e).left))
        where
          never : {t : M.Token} {ts : List M.Token} → [] ≡ t ∷ ts → ⊥
          never q = cc

  -- any other kind is that of the first token
  pub token-some : (token_at s at).kind ≢ End → Reads s at (token_at s at)
  token-some k = go (first_token (drop at s)) refl
    where
      go : (o : Option (M.Token × List ℕ)) → first_token (drop at s) ≡ o → Reads s at (token_at s at)
      go none e = absurd (k (ap (λ (r : Token). r.kind) (none_is s at e)))
      go (some x) e = reads_at x e

  -- reading again where the token starts gives it again
  pub token-again : token_at s (token_at s at).start ≡ token_at s at
  unfolding token_of
  token-again = go (first_token (drop at s)) refl
    where
      go : (o : Option (M.Token × List ℕ)) → first_token (drop at s) ≡ o → token_at s (token_at s at).start ≡ token_at s at
      go none e = ap (λ (r : Token). token_at s r.start) (none_is s at e) ∙ sym (past_end s (length s) (le_refl (length s))) ∙ sym (none_is s at e)
      go (some x) e = ap (λ (r : Token). token_at s r.start) (at-is s at x e) ∙ start_is s at x e ∙ sym (at-is s at x e)

  -- ---- positions, of the end of the text too

  record Placed (r : Token) : Type 0 where
    start : at ≤ length s → at ≤ r.start
    next : r.start ≤ r.next
    inside : r.next ≤ length s

  placed : Placed (token_at s at)
  placed = go (first_token (drop at s)) refl
    where
      go : (o : Option (M.Token × List ℕ)) → first_token (drop at s) ≡ o → Placed (token_at s at)
      go none e = rw (none_is s at e) (record { start = λ h. h; next = le_refl (length s); inside = le_refl (length s) })
      go (some x) e =
          let r = reads_at x e in
          record { start = λ _. r.from; next = omega (arith, r.moves); inside = r.inside }

  pub start-from : at ≤ length s → at ≤ (token_at s at).start
  start-from h = placed.start h

  pub start-next : (token_at s at).start ≤ (token_at s at).next
  start-next = placed.next

  pub next-inside : (token_at s at).next ≤ length s
  next-inside = placed.inside

  pub next-from : at ≤ length s → at ≤ (token_at s at).next
  next-from h = le_trans (start-from h) start-next
