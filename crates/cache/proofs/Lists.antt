-- Laws of lists that several files here use: tests that agree keep the same members, and one more of those in use. Assumes nothing.
use mathlib.Core.Path.{◌≡◌, refl, ap, ap₂, ◌∙◌}
use mathlib.Core.Bool.{Bool}
use mathlib.Core.List.{List, [], ◌∷◌, ◌++◌}
use Prim.Native.Nat.{ℕ, ◌+◌, ◌<◌}
use native.Mathlib.Numerals.{add-one}
use lib.ListN.{length, take, set}
use lib.Seq.{take-suc-set}
use Rattle.lists.specs.Lists.{All, nil, cons, cons_if, keep}

module _ {A : Type 0} where
  -- tests that are the same of every member keep the same
  pub keep_same : (p q : A → Bool) {l : List A} → All (λ x. p x ≡ q x) l → keep p l ≡ keep q l
  keep_same p q nil = refl
  keep_same p q (cons {x = x} e h) = ap₂ (λ b r. cons_if b x r) e (keep_same p q h)

  -- the first n, and one put behind them
  pub take_more : (l : List A) (n : ℕ) (x : A) → n < length l → take (n + 1) (set l n x) ≡ take n l ++ (x ∷ [])
  take_more l n x h = ap (λ (k : ℕ). take k (set l n x)) (add-one n) ∙ take-suc-set l n x h
