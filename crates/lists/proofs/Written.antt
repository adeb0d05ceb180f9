-- A list with others written into it: what was written is there, and the other places are as they were. Assumes nothing.
use mathlib.Core.Path.{◌≡◌, refl, sym, ap, ap₂, ◌∙◌}
use mathlib.Core.Logic.{◌≢◌}
use mathlib.Core.List.{List, [], ◌++◌, append_assoc, append-nil}
use Prim.Native.Nat.{ℕ, suc, ◌+◌, ◌-◌, ◌*◌, ◌≤◌, ◌<◌}
use native.Mathlib.Nat.{mul-le-mul_right}
use native.Mathlib.Decide.{dec_lt}
use native.Mathlib.Omega.{arith}
use lib.ListN.{length, take, drop, length-append, length-drop, take-append-drop}
use lib.Seq.{drop-drop, take_at, drop_at, take-append-le, drop-append-le, length-take-le}
use Rattle.lists.specs.Lists.{written}

module _ {A : Type 0} where
  pub written-nil : (xs : List A) (at : ℕ) → written xs at [] ≡ xs
  written-nil xs at =
      let e : at + 0 ≡ at = omega arith in
      ap₂ (λ (x : List A) (k : ℕ). x ++ drop k xs) (append-nil (take at xs)) e ∙ take-append-drop at xs

  module _ (xs : List A) (at : ℕ) (ys : List A) (room : at + length ys ≤ length xs) where
    front : length (take at xs ++ ys) ≡ at + length ys
    front = length-append (take at xs) ys ∙ ap (λ (k : ℕ). k + length ys) (length-take-le at xs (omega arith))

    pub length-written : length (written xs at ys) ≡ length xs
    length-written =
        let d : length (drop (at + length ys) xs) ≡ length xs - (at + length ys) = length-drop (at + length ys) xs in
        let a : length (written xs at ys) ≡ length (take at xs ++ ys) + length (drop (at + length ys) xs) = length-append (take at xs ++ ys) (drop (at + length ys) xs) in
        omega (arith, front)

    pub written-append : (zs : List A) → written (written xs at ys) (at + length ys) zs ≡ written xs at (ys ++ zs)
    written-append zs =
        let n : at + length ys + length zs ≡ at + length (ys ++ zs) = simp length-append (omega arith) in
        let rest : drop (at + length ys + length zs) (written xs at ys) ≡ drop (at + length (ys ++ zs)) xs =
        sym (drop-drop (length zs) (at + length ys) (written xs at ys))
        ∙ ap (drop (length zs)) (drop_at (take at xs ++ ys) (drop (at + length ys) xs) (at + length ys) front)
        ∙ drop-drop (length zs) (at + length ys) xs
        ∙ ap (λ (k : ℕ). drop k xs) n in
        ap₂ (λ (x y : List A). x ++ zs ++ y) (take_at (take at xs ++ ys) (drop (at + length ys) xs) (at + length ys) front) rest
        ∙ ap (λ (x : List A). x ++ drop (at + length (ys ++ zs)) xs) (append_assoc (take at xs) ys zs)

    -- what was written is there
    pub written-there : take (length ys) (drop at (written xs at ys)) ≡ ys
    written-there =
        ap (λ (x : List A). take (length ys) (drop at x)) (append_assoc (take at xs) ys (drop (at + length ys) xs))
        ∙ ap (take (length ys)) (drop_at (take at xs) (ys ++ drop (at + length ys) xs) at (length-take-le at xs (omega arith)))
        ∙ take_at ys (drop (at + length ys) xs) (length ys) refl

    -- what stands before it, and after it
    pub written-before : (a l : ℕ) → a + l ≤ at → take l (drop a (written xs at ys)) ≡ take l (drop a xs)
    written-before a l h =
        let n : length (take at xs) ≡ at = length-take-le at xs (omega arith) in
        let split : written xs at ys ≡ take at xs ++ (ys ++ drop (at + length ys) xs) = append_assoc (take at xs) ys (drop (at + length ys) xs) in
        let back : xs ≡ take at xs ++ drop at xs = sym (take-append-drop at xs) in
        let part : (zs : List A) → take l (drop a (take at xs ++ zs)) ≡ take l (drop a (take at xs)) = λ zs.
        ap (take l) (drop-append-le a (take at xs) zs (omega arith))
        ∙ take-append-le l (drop a (take at xs)) zs (simp length-drop (omega arith)) in
        ap (λ (x : List A). take l (drop a x)) split ∙ part (ys ++ drop (at + length ys) xs)
        ∙ sym (part (drop at xs)) ∙ sym (ap (λ (x : List A). take l (drop a x)) back)

    pub written_after : (a : ℕ) → at + length ys ≤ a → drop a (written xs at ys) ≡ drop a xs
    written_after a h =
        let e : at + length ys + (a - (at + length ys)) ≡ a = omega arith in
        sym (ap (λ (k : ℕ). drop k (written xs at ys)) e)
        ∙ sym (drop-drop (a - (at + length ys)) (at + length ys) (written xs at ys))
        ∙ ap (drop (a - (at + length ys))) (drop_at (take at xs ++ ys) (drop (at + length ys) xs) (at + length ys) front)
        ∙ drop-drop (a - (at + length ys)) (at + length ys) xs
        ∙ ap (λ (k : ℕ). drop k xs) e

  -- what stands behind is written first, and then what stands before it
  pub written-ahead : (xs ys zs : List A) → length ys + length zs ≤ length xs → written (written xs (length ys) zs) 0 ys ≡ written xs 0 (ys ++ zs)
  written-ahead xs ys zs room =
      let k : ℕ = length ys in
      let rest : List A = drop (k + length zs) xs in
      let z : 0 + k ≡ k = omega arith in
      let n : k + length zs ≡ 0 + length (ys ++ zs) = simp length-append (omega arith) in
      let d : drop (0 + k) (written xs k zs) ≡ zs ++ rest =
      ap (λ (j : ℕ). drop j (written xs k zs)) z
      ∙ ap (drop k) (append_assoc (take k xs) zs rest)
      ∙ drop_at (take k xs) (zs ++ rest) k (length-take-le k xs (omega arith)) in
      ap (λ (x : List A). ys ++ x) d ∙ sym (append_assoc ys zs rest) ∙ ap (λ (j : ℕ). (ys ++ zs) ++ drop j xs) n

  -- ---- two slots of so many places

  module _ (n size i : ℕ) (vs m : List A) (hi : i < n) (hm : n * size ≤ length m) (hv : length vs ≤ size) where
    slot-room : i * size + length vs ≤ length m
    slot-room = omega (arith, mul-le-mul_right size hi)

    pub slot_same : take (length vs) (drop (i * size) (written m (i * size) vs)) ≡ vs
    slot_same = written-there m (i * size) vs slot-room

    pub slot-written : length (written m (i * size) vs) ≡ length m
    slot-written = length-written m (i * size) vs slot-room

    pub slot-other : (j l : ℕ) → j ≢ i → l ≤ size → take l (drop (j * size) (written m (i * size) vs)) ≡ take l (drop (j * size) m)
    slot-other j l ne hl = go (dec_lt j i)
      where
        go : Dec (j < i) → take l (drop (j * size) (written m (i * size) vs)) ≡ take l (drop (j * size) m)
        go (yes h) = written-before m (i * size) vs slot-room (j * size) l (omega (arith, mul-le-mul_right size h))
        go (no h) =
            let k : suc i ≤ j = omega arith in
            ap (take l) (written_after m (i * size) vs slot-room (j * size) (omega (arith, mul-le-mul_right size k)))

  -- the record of a slot is as long as its length says
  pub slot-length : (n size i l : ℕ) (m : List A) → i < n → n * size ≤ length m → l ≤ size → length (take l (drop (i * size) m)) ≡ l
  slot-length n size i l m hi hm hl = length-take-le l (drop (i * size) m) (simp length-drop (omega (arith, mul-le-mul_right size hi)))
