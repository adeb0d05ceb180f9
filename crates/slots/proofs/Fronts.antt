-- A member of a list moved to the front: laws of `front`. Assumes nothing.
use mathlib.Core.Path.{◌≡◌, refl, sym, ap, ap₂, subst, ◌∙◌}
use mathlib.Core.List.{List, [], ◌∷◌, ◌++◌, append-nil, append_assoc}
use Prim.Native.Nat.{ℕ, zero, suc, ◌+◌, ◌-◌, ◌≤◌, ◌<◌}
use native.Mathlib.Nat.{le_of_suc-le-suc, not-suc-le-zero}
use native.Mathlib.Decide.{dec_lt}
use native.Mathlib.Omega.{arith}
use lib.ListN.{length, take, drop, length-take, drop_of_length-le}
use lib.Seq.{take_all, take_at, take-take, drop_at, take-append-add, drop-append-add}
use Rattle.std.proofs.lemmas.List.{drop-take}
use Rattle.lists.proofs.Moved.{Moved, moved-refl, moved-mid, moved_length}
use Rattle.slots.specs.Order.{front}

module _ {A : Type 0} where
  -- ---- a list cut at a place inside it

  pub record Cut (p : ℕ) (l : List A) : Type 0 where
    pub before : List A
    pub here : A
    pub after : List A
    pub is : l ≡ before ++ here ∷ after
    pub long : length before ≡ p

  pub cut : (p : ℕ) (l : List A) → p < length l → Cut p l
  cut p [] h = absurd (not-suc-le-zero h)
  cut zero (x ∷ l) h = record { before = []; here = x; after = l; is = refl; long = refl }
  cut (suc p) (x ∷ l) h =
      let c : Cut p l = cut p l (le_of_suc-le-suc h) in
      record { before = x ∷ c.before; here = c.here; after = c.after; is = ap (λ (r : List A). x ∷ r) c.is; long = ap suc c.long }

  module _ (a : List A) (x : A) (b : List A) where
    take-cut : (m : ℕ) → take (suc (length a + m)) (a ++ x ∷ b) ≡ a ++ x ∷ take m b
    take-cut m =
        let e : suc (length a + m) ≡ length a + suc m = omega arith in
        ap (λ (k : ℕ). take k (a ++ x ∷ b)) e ∙ take-append-add a (x ∷ b) (suc m)

    drop-cut : (m : ℕ) → drop (suc (length a + m)) (a ++ x ∷ b) ≡ drop m b
    drop-cut m =
        let e : suc (length a + m) ≡ length a + suc m = omega arith in
        ap (λ (k : ℕ). drop k (a ++ x ∷ b)) e ∙ drop-append-add a (x ∷ b) (suc m)

    -- the member behind a
    pub front_at : (p : ℕ) → length a ≡ p → front p (a ++ x ∷ b) ≡ x ∷ (a ++ b)
    front_at p e =
        let n : p + 1 ≡ length a + 1 = omega arith in
        ap₂ (λ (y z : List A). take 1 y ++ (z ++ drop (p + 1) (a ++ x ∷ b))) (drop_at a (x ∷ b) p e) (take_at a (x ∷ b) p e)
        ∙ ap (λ (z : List A). x ∷ (a ++ z)) (ap (λ (k : ℕ). drop k (a ++ x ∷ b)) n ∙ drop-append-add a (x ∷ b) 1)

  -- no such place
  pub front-past : (p : ℕ) (l : List A) → length l ≤ p → front p l ≡ l
  front-past p l h =
      let k : length l ≤ p + 1 = omega arith in
      ap₂ (λ (y z : List A). take 1 y ++ (take p l ++ z)) (drop_of_length-le l h) (drop_of_length-le l k)
      ∙ append-nil (take p l)
      ∙ take_all p l h

  -- ---- what stands before n, and from n on

  pub take-front : (p n : ℕ) (l : List A) → p < n → take n (front p l) ≡ front p (take n l)
  take-front p n l h = go (dec_lt p (length l))
    where
      go : Dec (p < length l) → take n (front p l) ≡ front p (take n l)
      go (no k) =
          let z : length (take n l) ≤ p = omega (arith, length-take n l) in
          ap (take n) (front-past p l (omega arith)) ∙ sym (front-past p (take n l) z)
      go (yes k) =
          let c : Cut p l = cut p l k in
          let m : ℕ = n - suc p in
          let e : n ≡ suc (length c.before + m) = omega (arith, c.long) in
          let f : take n l ≡ c.before ++ c.here ∷ take m c.after = ap₂ take e c.is ∙ take-cut c.before c.here c.after m in
          ap₂ take e (ap (front p) c.is ∙ front_at c.before c.here c.after p c.long)
          ∙ ap (λ (r : List A). c.here ∷ r) (take-append-add c.before c.after m)
          ∙ sym (ap (front p) f ∙ front_at c.before c.here (take m c.after) p c.long)

  pub drop-front : (p n : ℕ) (l : List A) → p < n → drop n (front p l) ≡ drop n l
  drop-front p n l h = go (dec_lt p (length l))
    where
      go : Dec (p < length l) → drop n (front p l) ≡ drop n l
      go (no k) = ap (drop n) (front-past p l (omega arith))
      go (yes k) =
          let c : Cut p l = cut p l k in
          let m : ℕ = n - suc p in
          let e : n ≡ suc (length c.before + m) = omega (arith, c.long) in
          ap₂ drop e (ap (front p) c.is ∙ front_at c.before c.here c.after p c.long)
          ∙ drop-append-add c.before c.after m
          ∙ sym (ap₂ drop e c.is ∙ drop-cut c.before c.here c.after m)

  -- the same members
  pub front-moved : (p : ℕ) (l : List A) → Moved l (front p l)
  front-moved p l = go (dec_lt p (length l))
    where
      go : Dec (p < length l) → Moved l (front p l)
      go (no k) = subst (λ (r : List A). Moved l r) (sym (front-past p l (omega arith))) (moved-refl l)
      go (yes k) =
          let c : Cut p l = cut p l k in
          subst (λ (r : List A). Moved r (front p r)) (sym c.is)
          (subst (λ (r : List A). Moved (c.before ++ c.here ∷ c.after) r) (sym (front_at c.before c.here c.after p c.long)) (moved-mid c.before c.here c.after))

  pub front_length : (p : ℕ) (l : List A) → length (front p l) ≡ length l
  front_length p l = sym (moved_length (front-moved p l))

  -- the first p + 1 turned to the right by one
  pub front_turned : (p : ℕ) (l r : List A) → p < length l → (let t = take (p + 1) l in r ≡ drop (length t - 1) t ++ take (length t - 1) t) → r ++ drop (p + 1) l ≡ front p l
  front_turned p l r h e =
      let n : length (take (p + 1) l) - 1 ≡ p = omega (arith, length-take (p + 1) l) in
      let d : drop p (take (p + 1) l) ≡ take 1 (drop p l) = drop-take p 1 l in
      let t : take p (take (p + 1) l) ≡ take p l = take-take p (p + 1) l (omega arith) in
      ap (λ (x : List A). x ++ drop (p + 1) l) (e ∙ ap₂ (λ (i j : ℕ). drop i (take (p + 1) l) ++ take j (take (p + 1) l)) n n ∙ ap₂ (λ (y z : List A). y ++ z) d t)
      ∙ append_assoc (take 1 (drop p l)) (take p l) (drop (p + 1) l)
