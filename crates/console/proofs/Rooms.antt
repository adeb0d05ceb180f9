-- Lists written as far as there is room: one after another, one member, and none. Assumes nothing.
use mathlib.Core.Path.{◌≡◌, sym, ap, ap₂, ◌∙◌}
use mathlib.Core.List.{List, [], ◌∷◌, ◌++◌}
use Prim.Native.Nat.{ℕ, zero, suc, ◌+◌, ◌-◌, ◌≤◌, ◌<◌}
use native.Mathlib.Decide.{dec_le}
use native.Mathlib.Omega.{arith}
use lib.ListN.{length, take, set, length-append, length-take}
use lib.Seq.{take-nil, sets-eq}
use Rattle.lists.specs.Lists.{written}
use Rattle.lists.proofs.Written.{written-nil, written-append, length-written}
use Rattle.console.specs.Room.{fitting, filled, filled_to}

module _ {A : Type 0} where
  -- the first n of two lists
  pub take-both : (n : ℕ) (ys zs : List A) → take n (ys ++ zs) ≡ take n ys ++ take (n - length ys) zs
  take-both n [] zs =
      let e : n - 0 ≡ n = omega arith in
      sym (ap₂ (λ (x : List A) (k : ℕ). x ++ take k zs) (take-nil n) e)
  take-both zero (y ∷ ys) zs =
      let e : 0 - suc (length ys) ≡ 0 = omega arith in
      ap (λ (k : ℕ). take k zs) (sym e)
  take-both (suc n) (y ∷ ys) zs =
      let e : n - length ys ≡ suc n - suc (length ys) = omega arith in
      ap (λ (r : List A). y ∷ r) (take-both n ys zs ∙ ap (λ (k : ℕ). take n ys ++ take k zs) e)

  module _ (xs : List A) (at : ℕ) where
    -- past the end there is no room
    fitting-past : (ys : List A) → length xs ≤ at → fitting xs at ys ≡ []
    fitting-past ys h =
        let e : length xs - at ≡ 0 = omega arith in
        ap (λ (k : ℕ). take k ys) e

    pub filled-past : (ys : List A) → length xs ≤ at → (filled xs at ys ≡ xs) × (filled_to xs at ys ≡ at)
    filled-past ys h =
        let e = fitting-past ys h in
        let z : at + 0 ≡ at = omega arith in
        (ap (written xs at) e ∙ written-nil xs at, ap (λ (r : List A). at + length r) e ∙ z)

    -- what is filled ends inside, if it starts there
    pub filled_within : (ys : List A) → at ≤ length xs → filled_to xs at ys ≤ length xs
    filled_within ys h = omega (arith, length-take (length xs - at) ys)

    pub length-filled : (ys : List A) → length (filled xs at ys) ≡ length xs
    length-filled ys = go (dec_le at (length xs))
      where
        go : Dec (at ≤ length xs) → length (filled xs at ys) ≡ length xs
        go (yes h) = length-written xs at (fitting xs at ys) (filled_within ys h)
        go (no h) = ap length (filled-past ys (omega arith)).0

    -- nothing
    pub filled-nil : (filled xs at [] ≡ xs) × (filled_to xs at [] ≡ at)
    filled-nil =
        let e : fitting xs at [] ≡ [] = take-nil (length xs - at) in
        let z : at + 0 ≡ at = omega arith in
        (ap (written xs at) e ∙ written-nil xs at, ap (λ (r : List A). at + length r) e ∙ z)

    -- one member
    pub filled-one : (y : A) → at < length xs → (set xs at y ≡ filled xs at (y ∷ [])) × (at + 1 ≡ filled_to xs at (y ∷ []))
    filled-one y h =
        let e : length xs - at ≡ suc (length xs - suc at) = omega arith in
        let f : fitting xs at (y ∷ []) ≡ y ∷ [] = ap (λ (k : ℕ). take k (y ∷ [])) e ∙ ap (λ (r : List A). y ∷ r) (take-nil (length xs - suc at)) in
        (sets-eq (y ∷ []) xs at (omega arith) ∙ sym (ap (written xs at) f), sym (ap (λ (r : List A). at + length r) f))

    -- some, and then more behind them
    module _ (ys zs : List A) where
      fitting-both : at ≤ length xs
          → fitting xs at (ys ++ zs) ≡ fitting xs at ys ++ fitting (filled xs at ys) (filled_to xs at ys) zs
      fitting-both h =
          let e : length xs - at - length ys ≡ length (filled xs at ys) - filled_to xs at ys =
          omega (arith, length-filled ys, length-take (length xs - at) ys) in
          take-both (length xs - at) ys zs ∙ ap (λ (k : ℕ). fitting xs at ys ++ take k zs) e

      pub filled-append : filled (filled xs at ys) (filled_to xs at ys) zs ≡ filled xs at (ys ++ zs)
      filled-append = go (dec_le at (length xs))
        where
          go : Dec (at ≤ length xs) → filled (filled xs at ys) (filled_to xs at ys) zs ≡ filled xs at (ys ++ zs)
          go (yes h) =
              written-append xs at (fitting xs at ys) (filled_within ys h) (fitting (filled xs at ys) (filled_to xs at ys) zs)
              ∙ ap (written xs at) (sym (fitting-both h))
          go (no h) =
              let k : length xs ≤ at = omega arith in
              let p = filled-past ys k in
              ap₂ (λ (x : List A) (i : ℕ). filled x i zs) p.0 p.1
              ∙ (filled-past zs k).0 ∙ sym (filled-past (ys ++ zs) k).0

      pub filled_to-append : filled_to (filled xs at ys) (filled_to xs at ys) zs ≡ filled_to xs at (ys ++ zs)
      filled_to-append = go (dec_le at (length xs))
        where
          go : Dec (at ≤ length xs) → filled_to (filled xs at ys) (filled_to xs at ys) zs ≡ filled_to xs at (ys ++ zs)
          go (yes h) =
              omega
              (arith, ap length (fitting-both h), length-append (fitting xs at ys) (fitting (filled xs at ys) (filled_to xs at ys) zs))
          go (no h) =
              let k : length xs ≤ at = omega arith in
              let p = filled-past ys k in
              ap₂ (λ (x : List A) (i : ℕ). filled_to x i zs) p.0 p.1
              ∙ (filled-past zs k).1 ∙ sym (filled-past (ys ++ zs) k).1
