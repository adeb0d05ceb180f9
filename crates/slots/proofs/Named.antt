-- The loop that tests whether each of n slots is named once: those left are below n, none of them is marked as seen, and none stands there twice. Assumes nothing.
use mathlib.Core.Path.{◌≡◌, refl, sym, ap, ap₂, ◌∙◌}
use mathlib.Core.Bool.{Bool, true, false, not, ◌&&◌, ◌||◌, and-true, and-false}
use mathlib.Core.List.{List, [], ◌∷◌}
use Prim.Native.Nat.{ℕ, zero, suc, ◌+◌, ◌≤◌, ◌<◌}
use native.Mathlib.Numerals.{add-one}
use native.Mathlib.Omega.{arith}
use borrow.Author.Tests.{lt-ltb, eqb-true, eqb-false}
use lib.Dec.{ltb, eqb}
use lib.ListN.{length, drop, get_or, set, replicate}
use lib.Seq.{drop-cons, get_or-set_same, get_or-set_other}
use Rattle.lists.specs.Lists.{any, all, repeats}

abbrev unseen : List Bool → List ℕ → Bool
unseen seen xs = all (λ (x : ℕ). not (get_or seen x false)) xs

abbrev fresh : ℕ → List Bool → List ℕ → Bool
fresh n seen xs = all (λ (x : ℕ). ltb x n) xs && (unseen seen xs && not (repeats eqb xs))

-- nothing is seen at first
no-mark : (k x : ℕ) → get_or (replicate k false) x false ≡ false
no-mark zero x = refl
no-mark (suc k) zero = refl
no-mark (suc k) (suc x) = no-mark k x

none_seen : (k : ℕ) (xs : List ℕ) → unseen (replicate k false) xs ≡ true
none_seen k [] = refl
none_seen k (x ∷ xs) = ap₂ (λ (a b : Bool). not a && b) (no-mark k x) (none_seen k xs)

-- one more is seen
seen_more : (seen : List Bool) (x y : ℕ) → x < length seen → not (get_or (set seen x true) y false) ≡ (not (get_or seen y false) && not (eqb x y))
seen_more seen x y h = go (eqb x y) refl
  where
    go : (b : Bool) → eqb x y ≡ b → not (get_or (set seen x true) y false) ≡ (not (get_or seen y false) && not b)
    go true e =
        let q : x ≡ y = eqb-true x y e in
        ap (λ (z : ℕ). not (get_or (set seen x true) z false)) (sym q) ∙ ap not (get_or-set_same seen x true false h) ∙ sym (and-false (not (get_or seen y false)))
    go false e = ap not (get_or-set_other seen x y true false (λ q. eqb-false x y e (sym q))) ∙ sym (and-true (not (get_or seen y false)))

regroup : (u e us es : Bool) → ((u && not e) && (us && not es)) ≡ ((u && us) && not (e || es))
regroup true true us es = sym (and-false us)
regroup true false us es = refl
regroup false e us es = refl

unseen-more : (seen : List Bool) (x : ℕ) (ys : List ℕ) → x < length seen → unseen (set seen x true) ys ≡ (unseen seen ys && not (any (eqb x) ys))
unseen-more seen x [] h = refl
unseen-more seen x (y ∷ ys) h =
    ap₂ ◌&&◌ (seen_more seen x y h) (unseen-more seen x ys h) ∙ regroup (not (get_or seen y false)) (eqb x y) (unseen seen ys) (any (eqb x) ys)

moved-not : (u e r : Bool) → (u && not (e || r)) ≡ ((u && not e) && not r)
moved-not true true r = refl
moved-not true false r = refl
moved-not false e r = refl

module _ (l : List ℕ) where
  abbrev n : ℕ
  n = length l

  abbrev named : Bool
  named = all (λ (x : ℕ). ltb x n) l && not (repeats eqb l)

  pub record Naming (seen : List Bool) (i : ℕ) : Type 0 where
    pub within : i ≤ n
    pub left : fresh n seen (drop i l) ≡ named

  pub naming-start : (k : ℕ) → Naming (replicate k false) 0
  naming-start k = record {
    within = omega arith;
    left = ap (λ (b : Bool). all (λ (x : ℕ). ltb x n) l && (b && not (repeats eqb l))) (none_seen k l);
  }

  module _ (seen : List Bool) (i : ℕ) (k : i < n) (N : Naming seen i) where
    abbrev here : ℕ
    here = get_or l i 0

    step : fresh n seen (here ∷ drop (i + 1) l) ≡ named
    step = ap (λ (m : ℕ). fresh n seen (here ∷ drop m l)) (add-one i) ∙ ap (fresh n seen) (sym (drop-cons l i 0 k)) ∙ N.left

    pub naming-more : here < n → n ≤ length seen → get_or seen here false ≡ false → Naming (set seen here true) (i + 1)
    naming-more b s e =
        let xs : List ℕ = drop (i + 1) l in
        let t : (all (λ (x : ℕ). ltb x n) xs && (unseen seen xs && not (any (eqb here) xs || repeats eqb xs))) ≡ named = rw (lt-ltb here n b, e) at step in
        record {
          within = omega arith;
          left =
              ap (λ (u : Bool). all (λ (x : ℕ). ltb x n) xs && (u && not (repeats eqb xs))) (unseen-more seen here xs (omega arith))
              ∙ ap (λ (u : Bool). all (λ (x : ℕ). ltb x n) xs && u) (sym (moved-not (unseen seen xs) (any (eqb here) xs) (repeats eqb xs)))
              ∙ t;
        }
