-- An array filled from the front: its first places hold what a function makes of the first members of a list, and the others the default. Assumes nothing.
use mathlib.Core.Path.{◌≡◌, refl, sym, ap, ◌∙◌}
use mathlib.Core.List.{List, [], ◌∷◌, ◌++◌, map}
use Prim.Native.Nat.{ℕ, ◌+◌, ◌≤◌, ◌<◌}
use native.Mathlib.Numerals.{add-one}
use native.Mathlib.Omega.{arith}
use lib.ListN.{length, get_or, take, drop, set, replicate, length-map, drop_of_length-le}
use lib.Seq.{drop-cons}
use Rattle.std.proofs.lemmas.Grind.{take-set_at}
use Rattle.lists.proofs.Walks.{Filling, filling-start, filling-more, filling-end}
use Rattle.statement.specs.Compiled.{padded}

-- a list without its first i members, one of which is at least there
pub left-cons : {A : Type 0} (xs : List A) (i : ℕ) (e : A) → i < length xs → drop i xs ≡ get_or xs i e ∷ drop (i + 1) xs
left-cons xs i e h = drop-cons xs i e h ∙ ap (λ (k : ℕ). get_or xs i e ∷ drop k xs) (sym (add-one i))

module _ {A B : Type 0} (f : A → B) (n : ℕ) (d : B) (xs : List A) where
  -- i members are written
  abbrev pub Filled : List B → ℕ → Type 0
  Filled out i = Filling (padded n d (map f xs)) out i (map f (drop i xs))

  pub filled-start : (out : List B) → out ≡ replicate n d → length xs ≤ n → Filled out 0
  filled-start out e h = filling-start n d (map f xs) out e (omega (arith, length-map xs f))

  pub filled-more : (out : List B) (i : ℕ) (e : A) (y : B) → i < length xs → y ≡ f (get_or xs i e) → Filled out i → Filled (set out i y) (i + 1)
  filled-more out i e y h q F = filling-more _ out i _ y _ (ap (map f) (left-cons xs i e h) ∙ ap (λ (z : B). z ∷ map f (drop (i + 1) xs)) (sym q)) F

  pub filled-end : (out : List B) (i : ℕ) → length xs ≤ i → Filled out i → out ≡ padded n d (map f xs)
  filled-end out i h F = filling-end _ out i _ (ap (map f) (drop_of_length-le xs h)) F

-- an item that was put behind n others, where there was room
pub put-noted : {A : Type 0} (xs ys : List A) (n k : ℕ) (x : A) → length xs ≡ k → ys ≡ set xs n x → n < k → take (n + 1) ys ≡ take n xs ++ (x ∷ [])
put-noted xs ys n k x l e h = ap (take (n + 1)) e ∙ take-set_at xs n (n + 1) x refl (omega arith)
