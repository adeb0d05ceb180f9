-- Bytes copied over the front of a list, or from a place on. Assumes nothing.
use mathlib.Core.Path.{◌≡◌, sym, ap, ap₂, ◌∙◌}
use mathlib.Core.List.{List, ◌++◌, append_assoc}
use Prim.Native.Nat.{ℕ, ◌+◌, ◌-◌, ◌≤◌}
use native.Mathlib.Omega.{arith}
use lib.ListN.{length, take, drop, length-drop}
use lib.Seq.{length-take-le}
use borrow.Rule.Slice.PartMut.{put_mid}
use Rattle.std.proofs.lemmas.List.{drop-drop}
use Rattle.lists.specs.Lists.{written}

module _ {A : Type 0} (to : List A) where
  -- n elements of another list, from `start` on
  pub copied-first : («from» r : List A) (start n : ℕ) → start + n ≤ length «from» → r ≡ take ((start + n) - start) (drop start «from») → r ++ drop n to ≡ written to 0 (take n (drop start «from»))
  copied-first «from» r start n h e =
      let k : (start + n) - start ≡ n = omega arith in
      let l : length (take n (drop start «from»)) ≡ n = length-take-le n (drop start «from») (rw length-drop (omega arith)) in
      let z : n ≡ 0 + length (take n (drop start «from»)) = omega arith in
      ap₂ (λ (a : List A) (i : ℕ). a ++ drop i to) (e ∙ ap (λ (i : ℕ). take i (drop start «from»)) k) z

  -- ys, from `at` on
  pub copied-at : (r ys : List A) (at n : ℕ) → length ys ≡ n → r ≡ ys → put_mid at ((at + n) - at) to r ≡ written to at ys
  copied-at r ys at n l e =
      let k : (at + n) - at ≡ length ys = omega arith in
      ap₂ (λ (a : List A) (i : ℕ). take at to ++ (a ++ drop i (drop at to))) e k
      ∙ ap (λ (a : List A). take at to ++ (ys ++ a)) (drop-drop (length ys) at to)
      ∙ sym (append_assoc (take at to) ys (drop (at + length ys) to))
