-- Words of a line, as `split` gives them, and texts compared. Assumes nothing.
use mathlib.Core.Path.{◌≡◌, refl, sym, ap, ap₂, subst, ◌∙◌}
use mathlib.Core.Bool.{Bool, true, false, ◌&&◌, cond}
use mathlib.Core.Option.{none, some}
use mathlib.Core.List.{List, [], ◌∷◌}
use Prim.Native.Nat.{ℕ, ◌<◌}
use native.Mathlib.Decide.{ℕ_discrete}
use borrow.Author.Tests.{eq-eqb, ne_eqb}
use lib.Dec.{eqb}
use lib.ListN.{length, take, drop, get_or}
use denote.Param.Members.{Mut}
use denote.Ref.{Bor}
use Rattle.std.specs.Prelude.{Option, Some, None}
use Rattle.std.specs.Fn.{CalledAt}
use Rattle.std.specs.Slice.Iter.{split_rest, split_done, split_callee, split_steps}
use Rattle.std.specs.List.{slice_split, onto_first, join_with_byte}
use Rattle.std.proofs.lemmas.Iterator.{YieldsList}
use Rattle.std.proofs.lemmas.Iterator.Adapters.{YieldsList-from_skip}
use Rattle.std.proofs.lemmas.Iterator.Consumers.{YieldsList-at, YieldsList-turn, YieldsList-end}
use Rattle.std.proofs.lemmas.Iterator.Splits.{YieldsList-from_slice_split}
use Rattle.std.specs.Iterator.{Yields}
use Rattle.std.specs.Iterator.Adapters.{skip_source, skip_count, skip_steps}
use Rattle.std.proofs.lemmas.List.Splits.{join_with_byte-slice_split}
use Rattle.lists.specs.Tests.{eq_list}
use Rattle.lists.proofs.Chains.{eqb-turned}
use lib.Pointwise.{pointwise}
use Rattle.meaning.specs.Tokens.{is_space, behind_prefix}
use Rattle.console.specs.Lines.{words, on_first}

-- the words of a line are what `split` gives at spaces
pub words-split : (s : List ℕ) → slice_split is_space s ≡ words s
words-split [] = refl
words-split (b ∷ s) = go (is_space b) (words-split s)
  where
    same : (ws : List (List ℕ)) → onto_first b ws ≡ on_first b ws
    same [] = refl
    same (w ∷ ws) = refl

    go : (x : Bool) → slice_split is_space s ≡ words s
        → cond x ([] ∷ slice_split is_space s) (onto_first b (slice_split is_space s)) ≡ elim x [ true ↦ [] ∷ words s | false ↦ on_first b (words s) ]
    go true e = ap (λ (ws : List (List ℕ)). [] ∷ ws) e
    go false e = ap (onto_first b) e ∙ same (words s)

-- a line of one word is that word
pub one_word : (s w : List ℕ) → words s ≡ w ∷ [] → w ≡ s
one_word s w e = sym (ap (join_with_byte 32) (words-split s ∙ e)) ∙ join_with_byte-slice_split 32 s

-- what the first two calls of a chain give
module _ {S A B : Type 0} {steps : S → Option A → S → Type 0} {v : A → B} {s : S} where
  two_calls : (ys : List B) → YieldsList steps v s ys → (x y : A) (t u : S) → steps s (Some x) t → steps t (Some y) u → (zs : List B) × (ys ≡ v x ∷ v y ∷ zs)
  two_calls [] e x y t u h k = absurd (e.runs x t h)
  two_calls (a ∷ []) e x y t u h k = absurd ((e.runs.1 x t h).1 y u k)
  two_calls (a ∷ b ∷ ys) e x y t u h k =
      let p = e.runs.1 x t h in
      let q = p.1.1 y u k in
      (ys, ap₂ (λ c d. c ∷ d ∷ ys) (sym p.0) (sym q.0))

  lone_call : (ys : List B) → YieldsList steps v s ys → (x : A) (t u : S) → steps s (Some x) t → steps t None u → ys ≡ v x ∷ []
  lone_call [] e x t u h k = absurd (e.runs x t h)
  lone_call (a ∷ []) e x t u h k = ap (λ c. c ∷ []) (sym (e.runs.1 x t h).0)
  lone_call (a ∷ b ∷ ys) e x t u h k = absurd ((e.runs.1 x t h).1.0 u k)

-- a closure that tests for a space
abbrev pub Spaces : {F : Type 0} → Mut F (Bor ℕ × Unit {0}) Bool → F → Type 0
Spaces {F} g f = (x : ℕ) (b : Bool) (q : F) → CalledAt g f x b q → (q ≡ f) × (b ≡ is_space x)

-- `split` at spaces gives the words
module _ {F : Type 0} {g : Mut F (Bor ℕ × Unit {0}) Bool} {f : F} (s : _) (line : List ℕ) (a : split_rest s ≡ line) (b : split_done s ≡ false) (c : split_callee s ≡ f) where
  split_words : Spaces g f → YieldsList (split_steps g) (λ x. x.now) s (words line)
  split_words h = subst (λ ws. YieldsList (split_steps g) (λ x. x.now) s ws) (words-split line) (YieldsList-from_slice_split g is_space line a b c h)

  pub two_words : (x y : Bor (List ℕ)) (t u : _) → split_steps g s (Some x) t → split_steps g t (Some y) u → Spaces g f → (vs : List (List ℕ)) × (words line ≡ x.now ∷ y.now ∷ vs)
  two_words x y t u i j h = two_calls (words line) (split_words h) x y t u i j

  pub lone_word : (x : Bor (List ℕ)) (t u : _) → split_steps g s (Some x) t → split_steps g t None u → Spaces g f → words line ≡ x.now ∷ []
  lone_word x t u i j h = lone_call (words line) (split_words h) x t u i j

  -- and `skip` those behind the first two
  module _ {r o : _} (d : r ≡ o) (e : skip_source o ≡ s) (n : skip_count o ≡ 2) where
    others : Spaces g f → YieldsList (skip_steps (split_steps g)) (λ x. x.now) r (drop 2 (words line))
    others h = YieldsList-at d (YieldsList-from_skip 2 (YieldsList-at e (split_words h)) n)

    pub other_turn : (xs : List (Bor (List ℕ))) (t : _) → Yields (skip_steps (split_steps g)) r xs t → (q : Option (Bor (List ℕ))) (u : _) (x : Bor (List ℕ)) → q ≡ Some x → skip_steps (split_steps g) t q u
        → Spaces g f → (length xs < length (drop 2 (words line))) × (x.now ≡ get_or (drop 2 (words line)) (length xs) x.now)
    other_turn xs t y q u x i j h = YieldsList-turn (others h) xs t y q u x i j

    pub other_end : (xs : List (Bor (List ℕ))) (t : _) → Yields (skip_steps (split_steps g)) r xs t → (q : Option (Bor (List ℕ))) (u : _) → q ≡ None → skip_steps (split_steps g) t q u
        → Spaces g f → length xs ≡ length (drop 2 (words line))
    other_end xs t y q u i j h = (YieldsList-end (others h) xs t y q u i j).1

-- ---- texts compared

-- as the library compares texts
pub same_words : (w t : List ℕ) → pointwise eqb w t ≡ eq_list eqb w t
same_words [] [] = refl
same_words [] (y ∷ t) = refl
same_words (x ∷ w) [] = refl
same_words (x ∷ w) (y ∷ t) = ap (λ (b : Bool). eqb x y && b) (same_words w t)

flipped : (w t : List ℕ) → pointwise eqb w t ≡ eq_list eqb t w
flipped [] [] = refl
flipped [] (y ∷ t) = refl
flipped (x ∷ w) [] = refl
flipped (x ∷ w) (y ∷ t) = ap₂ ◌&&◌ (eqb-turned x y) (flipped w t)

pub begins : (p s : List ℕ) → pointwise eqb p (take (length p) s) ≡ eq_list eqb (take (length p) s) p
begins p s = flipped p (take (length p) s)

-- a line that begins with p, and what follows
pub behind-prefix : (p s : List ℕ) → behind_prefix p s ≡ cond (eq_list eqb (take (length p) s) p) (some (drop (length p) s)) none
behind-prefix [] s = refl
behind-prefix (c ∷ p) [] = refl
behind-prefix (c ∷ p) (b ∷ s) = go (ℕ_discrete c b) (behind-prefix p s)
  where
    go : Dec (c ≡ b) → behind_prefix p s ≡ cond (eq_list eqb (take (length p) s) p) (some (drop (length p) s)) none
        → cond (eqb c b) (behind_prefix p s) none ≡ cond (eqb b c && eq_list eqb (take (length p) s) p) (some (drop (length p) s)) none
    go (yes e) h = rw (eq-eqb c b e, eq-eqb b c (sym e)) h
    go (no n) h = rw (ne_eqb c b n, ne_eqb b c (λ e. n (sym e)))
