-- The token at a position, by the facts that each way through the code knows. Assumes nothing.
use mathlib.Core.Path.{◌≡◌, sym, ap, ap₂, subst, ◌∙◌}
use mathlib.Core.Bool.{Bool, true, false}
use mathlib.Core.Option.{none, some}
use mathlib.Core.List.{List, ◌∷◌}
use Prim.Native.Nat.{ℕ, ◌+◌, ◌-◌, ◌≤◌, ◌<◌, min}
use native.Mathlib.Omega.{arith}
use native.Mathlib.Decide.{dec_le}
use lib.ListN.{length, get_or, drop, drop_of_length-le, length-drop}
use lib.Seq.{drop-drop}
use Rattle.lists.specs.Lists.{all, take_while, drop_while}
use Rattle.lists.proofs.Runs.{take-yes, drop-yes, run_length, run-all, take-run, drop-run}
use Rattle.meaning.specs.Tokens as M
use Rattle.meaning.specs.Tokens.{is_name_byte, is_word_byte, is_space, is_minus, word, negative, signs, sign_in, token_from, token_here, first_token}
use Rattle.meaning.proofs.Stream.{from-word, from-minus, from-sign}
use Rattle.token.specs.declared.Kind.{Kind}
use Rattle.token.specs.declared.Kind.TheVariants.{End}
use Rattle.token.specs.Tokens.{kind_of, made, token_of, token_at}
use Rattle.token.specs.Private.Parts.{part, sign_of, read_at}
use Rattle.token.proofs.Runs.{drop_here}
use Rattle.token.proofs.Signs.{sign-at}

-- ---- runs

module _ (p : ℕ → Bool) (s : List ℕ) (at end : ℕ) (e : end ≡ at + length (take_while p (drop at s))) where
  -- a run's bytes, and what follows it
  part-run : part s at end ≡ take_while p (drop at s)
  part-run =
      let h : end - at ≡ length (take_while p (drop at s)) = omega arith in
      rw h (take-run p (drop at s))

  pub drop-end : drop_while p (drop at s) ≡ drop end s
  drop-end = sym (drop-run p (drop at s)) ∙ drop-drop (length (take_while p (drop at s))) at s ∙ rw e

  run-next : at ≤ length s → length s - length (drop_while p (drop at s)) ≡ end
  run-next h = omega (arith, run_length p (drop at s), length-drop at s)

-- what is read at a position is what starts with its byte
reads : (s : List ℕ) (at : ℕ) (x : M.Token × List ℕ) → token_from (get_or s at 0) (drop (at + 1) s) ≡ x → token_of x.0 at (length s - length x.1) ≡ read_at s at
unfolding read_at
reads s at x e = ap (λ (y : M.Token × List ℕ). token_of y.0 at (length s - length y.1)) (sym e)

module _ (s : List ℕ) (at : ℕ) (h : at < length s) where
  abbrev byte : ℕ
  byte = get_or s at 0

  abbrev behind : List ℕ
  behind = drop (at + 1) s

  -- ---- words

  module _ (end : ℕ) (wb : is_word_byte byte ≡ true) (e : end ≡ at + length (take_while is_word_byte (drop at s))) where
    abbrev here : List ℕ
    here = part s at end

    here-is : here ≡ byte ∷ take_while is_word_byte behind
    here-is = part-run is_word_byte s at end e ∙ ap (take_while is_word_byte) (drop_here s at h) ∙ take-yes is_word_byte byte behind wb

    pub word-bytes : (0 < length here) × (all is_word_byte here ≡ true)
    word-bytes =
        let A : List ℕ → Type 0 = λ w. 0 < length w in
        let B : List ℕ → Type 0 = λ w. all is_word_byte w ≡ true in
        (subst A (sym here-is) (omega arith), subst B (sym (part-run is_word_byte s at end e)) (run-all is_word_byte (drop at s)))

    pub word-reads : made (kind_of (word here)) at end ≡ read_at s at
    unfolding token_of
    word-reads =
        let l : at ≤ length s = omega arith in
        ap (token_of (word here) at) (sym (run-next is_word_byte s at end e l))
        ∙ reads s at (word here, drop_while is_word_byte (drop at s))
        (from-word byte behind wb
        ∙ ap₂ (λ w left. (word w, left)) (sym here-is) (sym (ap (drop_while is_word_byte) (drop_here s at h) ∙ drop-yes is_word_byte byte behind wb)))

  -- ---- a minus, and the word right after it

  pub minus-reads : (end : ℕ) → byte ≡ 45 → end ≡ at + 1 + length (take_while is_word_byte behind) → made (kind_of (negative (part s (at + 1) end))) at end ≡ read_at s at
  unfolding token_of is_word_byte is_name_byte
  minus-reads end m e =
      let l : at + 1 ≤ length s = omega arith in
      ap₂ (λ w next. token_of (negative w) at next) (part-run is_word_byte s (at + 1) end e) (sym (run-next is_word_byte s (at + 1) end e l))
      ∙ reads s at (negative (take_while is_word_byte behind), drop_while is_word_byte behind) (from-minus byte behind (rw m) (rw m))

  -- ---- signs

  pub sign-reads : (k : Kind × ℕ) → k ≡ sign_of byte (get_or behind 0 0) → is_word_byte byte ≡ false → is_minus byte ≡ false → made k.0 at (at + k.1) ≡ read_at s at
  unfolding token_of
  sign-reads k e w m =
      let x = sign_in signs byte behind in
      let r = sign-at byte behind in
      let one : k.0 ≡ kind_of x.0 = ap (λ (y : Kind × ℕ). y.0) e ∙ sym r.kind in
      let size : k.1 ≡ (sign_of byte (get_or behind 0 0)).1 = ap (λ (y : Kind × ℕ). y.1) e in
      let two : at + k.1 ≡ length s - length x.1 = omega (arith, r.left, length-drop (at + 1) s) in
      ap₂ (λ j n. made j at n) one two ∙ reads s at x (from-sign byte behind w m)

-- ---- the first token

module _ (s : List ℕ) (at : ℕ) where
  pub none_is : first_token (drop at s) ≡ none → token_at s at ≡ made End (length s) (length s)
  unfolding token_at
  none_is e = rw (e, token_at)

  pub some_is : (x : M.Token × List ℕ) → first_token (drop at s) ≡ some x
      → token_at s at ≡ token_of x.0 (length s - length (drop_while is_space (drop at s))) (length s - length x.1)
  unfolding token_at
  some_is x e = rw (e, token_at)

  pub past_end : length s ≤ at → made End (length s) (length s) ≡ token_at s at
  unfolding first_token
  past_end h = sym (none_is (rw (drop_of_length-le s h)))

  -- a position past the end is the end
  drop-min : drop (min at (length s)) s ≡ drop at s
  drop-min = go (dec_le at (length s))
    where
      go : Dec (at ≤ length s) → drop (min at (length s)) s ≡ drop at s
      go (yes l) =
          let e : min at (length s) ≡ at = omega arith in
          rw e
      go (no l) = drop_of_length-le s (omega arith) ∙ sym (drop_of_length-le s (omega arith))

  module _ (from : ℕ) (e : from ≡ min at (length s) + length (take_while is_space (drop (min at (length s)) s))) where
    spaces-end : drop_while is_space (drop at s) ≡ drop from s
    spaces-end = ap (drop_while is_space) (sym drop-min) ∙ drop-end is_space s (min at (length s)) from e

    pub spaces-only : length s ≤ from → made End (length s) (length s) ≡ token_at s at
    unfolding first_token
    spaces-only h = sym (none_is (ap token_here (spaces-end ∙ drop_of_length-le s h)))

    pub behind-spaces : from < length s → read_at s from ≡ token_at s at
    unfolding first_token read_at
    behind-spaces h =
        let x = token_from (get_or s from 0) (drop (from + 1) s) in
        let q : length s - length (drop_while is_space (drop at s)) ≡ from = omega (arith, ap length spaces-end, length-drop from s) in
        sym (some_is x (ap token_here (spaces-end ∙ drop_here s from h)) ∙ rw q)
