-- The places of a list: what every member has, the member at a place has; members set; how many are kept; lists one after another. Assumes nothing.
use mathlib.Core.Path.{◌≡◌, refl, sym, ap, ◌∙◌}
use mathlib.Core.Logic.{◌≢◌}
use mathlib.Core.Bool.{Bool, true, false}
use mathlib.Core.List.{List, [], ◌∷◌, ◌++◌, map, append_assoc}
use Prim.Native.Nat.{ℕ, zero, suc, ◌*◌, ◌≤◌, ◌<◌}
use native.Mathlib.Nat.{le_of_suc-le-suc, not-suc-le-zero, zero-mul, suc-mul}
use native.Mathlib.Omega.{arith}
use lib.ListN.{length, get_or, set, length-append}
use lib.Seq.{get_or-set_other}
use Rattle.lists.specs.Lists.{All, nil, cons, cons_if, keep, flat}
use Rattle.lists.proofs.Lists.{All-head, All-tail, All-map, map_same}

module _ {A : Type 0} where
  -- the member at a place inside the list has what every member has
  pub All-at : {P : A → Type 0} {l : List A} (i : ℕ) (d : A) → i < length l → All P l → P (get_or l i d)
  All-at i d h nil = absurd (not-suc-le-zero h)
  All-at zero d h (cons p a) = p
  All-at (suc i) d h (cons p a) = All-at i d (le_of_suc-le-suc h) a

  -- inside the list it does not matter what stands in past the end
  pub get_or-inside : (l : List A) (i : ℕ) (d e : A) → i < length l → get_or l i d ≡ get_or l i e
  get_or-inside [] i d e h = absurd (not-suc-le-zero h)
  get_or-inside (x ∷ l) zero d e h = refl
  get_or-inside (x ∷ l) (suc i) d e h = get_or-inside l i d e (le_of_suc-le-suc h)

  pub All-set : {P : A → Type 0} {l : List A} (i : ℕ) (x : A) → P x → All P l → All P (set l i x)
  All-set i x p nil = nil
  All-set zero x p (cons q a) = cons p a
  All-set (suc i) x p (cons q a) = cons q (All-set i x p a)

  -- places apart from the one that is set are as they were
  pub set_apart : (l : List A) (i : ℕ) (x d : A) {ks : List ℕ} → All (λ k. k ≢ i) ks → map (λ (k : ℕ). get_or (set l i x) k d) ks ≡ map (λ (k : ℕ). get_or l k d) ks
  set_apart l i x d h = map_same (λ (k : ℕ). get_or l k d) (All-map (λ k e. get_or-set_other l i k x d e) h)

  -- no more are kept than there are
  pub length-keep : (p : A → Bool) (l : List A) → length (keep p l) ≤ length l
  length-keep p [] = omega arith
  length-keep p (x ∷ l) = go (p x) (length-keep p l)
    where
      go : (b : Bool) → length (keep p l) ≤ length l → length (cons_if b x (keep p l)) ≤ suc (length l)
      go true h = omega arith
      go false h = omega arith

-- ---- lists, one after another

module _ {A : Type 0} where
  pub flat_append : (xs ys : List (List A)) → flat (xs ++ ys) ≡ flat xs ++ flat ys
  flat_append [] ys = refl
  flat_append (x ∷ xs) ys = ap (λ (t : List A). x ++ t) (flat_append xs ys) ∙ sym (append_assoc x (flat xs) (flat ys))

  -- of c members each
  pub flat-length : (c : ℕ) (xs : List (List A)) → All (λ x. length x ≡ c) xs → length (flat xs) ≡ length xs * c
  flat-length c [] h = sym (zero-mul c)
  flat-length c (x ∷ xs) h =
      let e : length x ≡ c = All-head h in
      let k : length (flat xs) ≡ length xs * c = flat-length c xs (All-tail h) in
      omega (arith, length-append x (flat xs), suc-mul (length xs) c)
