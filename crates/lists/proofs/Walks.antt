-- Loops over the first n members of a list: what is left of them; members compared; a list that is filled from a place on. Assumes nothing.
use mathlib.Core.Path.{◌≡◌, sym, ap, ap₂, ◌∙◌}
use mathlib.Core.List.{List, [], ◌∷◌, ◌++◌}
use Prim.Native.Nat.{ℕ, suc, ◌+◌, ◌-◌, ◌≤◌, ◌<◌, min}
use native.Mathlib.Numerals.{add-one}
use native.Mathlib.Decide.{dec_le}
use native.Mathlib.Omega.{arith}
use lib.ListN.{length, take, drop, set, replicate, length-set, length-replicate}
use Rattle.std.proofs.lemmas.List.{drop-replicate}
use lib.Seq.{take_all, set_split, append_snoc}
use Rattle.lists.specs.Lists.{written, from}
use Rattle.lists.proofs.Written.{written-nil, written-append}

module _ {A : Type 0} where
  -- the first n, where there are but k
  pub take_min : (n k : ℕ) (l : List A) → length l ≡ k → take (min n k) l ≡ take n l
  take_min n k l e = go (dec_le n k)
    where
      go : Dec (n ≤ k) → take (min n k) l ≡ take n l
      go (yes h) = let z : min n k ≡ n = omega arith in rw z
      go (no h) =
          let z : min n k ≡ k = omega arith in
          rw z (take_all k l (omega arith) ∙ sym (take_all n l (omega arith)))

  -- ---- a list filled from a place on: `left` is still to be written at i

  pub record Filling (goal out : List A) (i : ℕ) (left : List A) : Type 0 where
    pub room : i + length left ≤ length out
    pub fills : written out i left ≡ goal

  -- xs before so many others
  pub filling-start : (n : ℕ) (d : A) (xs out : List A) → out ≡ replicate n d → length xs ≤ n → Filling (xs ++ replicate (n - length xs) d) out 0 xs
  filling-start n d xs out q h =
      let e : 0 + length xs ≡ length xs = omega arith in
      let l : length out ≡ n = ap length q ∙ length-replicate n d in
      record {
        room = omega arith;
        fills = ap₂ (λ (k : ℕ) (ys : List A). xs ++ drop k ys) e q ∙ ap (λ (ys : List A). xs ++ ys) (drop-replicate (length xs) n d);
      }

  set-written : (out : List A) (i : ℕ) (y : A) → i < length out → set out i y ≡ written out i (y ∷ [])
  set-written out i y h =
      set_split out i y h ∙ sym (append_snoc (take i out) y (drop (i + 1) out) ∙ ap (λ (k : ℕ). take i out ++ y ∷ drop k out) (add-one i))

  pub filling-more : (goal out : List A) (i : ℕ) (left : List A) (y : A) (less : List A) → left ≡ y ∷ less → Filling goal out i left → Filling goal (set out i y) (i + 1) less
  filling-more goal out i left y less e F =
      let l : length left ≡ suc (length less) = ap length e in
      record {
        room = omega (arith, length-set out i y, F.room);
        fills =
            ap (λ (o : List A). written o (i + 1) less) (set-written out i y (omega (arith, F.room)))
            ∙ written-append out i (y ∷ []) (omega (arith, F.room)) less
            ∙ ap (written out i) (sym e)
            ∙ F.fills;
      }

  pub filling-end : (goal out : List A) (i : ℕ) (left : List A) → left ≡ [] → Filling goal out i left → out ≡ goal
  filling-end goal out i left e F = sym (written-nil out i) ∙ ap (written out i) (sym e) ∙ F.fills

-- ---- the numbers from i on, below n

pub from_cons : (n i : ℕ) → i < n → from i (n - i) ≡ i ∷ from (i + 1) (n - (i + 1))
from_cons n i h =
    let e : n - i ≡ suc (n - (i + 1)) = omega arith in
    ap (from i) e ∙ ap (λ (k : ℕ). i ∷ from k (n - (i + 1))) (sym (add-one i))

pub from-none : (n i : ℕ) → n ≤ i → from i (n - i) ≡ []
from-none n i h = let e : n - i ≡ 0 = omega arith in ap (from i) e
