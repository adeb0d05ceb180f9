-- What the library's iterators answer, in the words of the definitions. Assumes nothing.
use Rattle.std.proofs.Common.{◌≡◌, Bool, true, false, cond, List, [], ◌∷◌, map, ℕ, suc, ◌+◌, ◌≤◌, ltb, Option as Maybe, Some, None, length, refl, sym, ap, ◌∙◌, arith}
use Rattle.std.proofs.lemmas.List.{length-map}
use Rattle.std.proofs.lemmas.List.Sums.{sum-map}
use borrow.Author.Tests.{ltb-false}
use Rattle.std.specs.List.{sum, position_or_len}
use Rattle.std.specs.Option.{unwrap_or}
use Rattle.std.proofs.lemmas.List.Recursion.{is_position_or_len, is_sum_by}
use Rattle.meaning.specs.Names.{same_name, position}
use Rattle.statement.proofs.ByKind.{position-most}

module _ {A : Type 0} where
  -- the place of a name, by the names of the members
  pub position-is : (f : A → List ℕ) (n : List ℕ) (xs : List A) → position_or_len (λ x. same_name n (f x)) xs ≡ position (map f xs) n
  position-is f n xs = sym (is_position_or_len (λ ys. position (map f ys) n) (λ x. same_name n (f x)) refl (λ x ys. ap (cond (same_name n (f x)) 0) (let e : suc (position (map f ys) n) ≡ 1 + position (map f ys) n = omega arith in e)) xs)

  pub position-or : (f : A → List ℕ) (n : List ℕ) (xs : List A) (r : Maybe ℕ)
      → r ≡ cond (ltb (position_or_len (λ x. same_name n (f x)) xs) (length xs)) (Some (position_or_len (λ x. same_name n (f x)) xs)) None
      → unwrap_or r (length xs) ≡ position (map f xs) n
  position-or f n xs r e =
      let h : position (map f xs) n ≤ length xs = omega (arith, position-most (map f xs) n, length-map xs f) in
      ap (λ q. unwrap_or q (length xs)) e
      ∙ ap (λ k. unwrap_or (cond (ltb k (length xs)) (Some k) None) (length xs)) (position-is f n xs)
      ∙ go (position (map f xs) n) (length xs) h (ltb (position (map f xs) n) (length xs)) refl
    where
      go : (k m : ℕ) → k ≤ m → (b : Bool) → ltb k m ≡ b → unwrap_or (cond b (Some k) None) m ≡ k
      go k m h true e = refl
      go k m h false e = let l : m ≤ k = ltb-false k m e in omega arith

  -- the number of a table by its name
  pub number-is : (f : A → List ℕ) (n : List ℕ) (xs : List A) (r : Maybe ℕ)
      → r ≡ cond (ltb (position_or_len (λ x. same_name n (f x)) xs) (length xs)) (Some (position_or_len (λ x. same_name n (f x)) xs)) None
      → r ≡ cond (ltb (position (map f xs) n) (length xs)) (Some (position (map f xs) n)) None
  number-is f n xs r e = e ∙ ap (λ k. cond (ltb k (length xs)) (Some k) None) (position-is f n xs)

-- a sum over a list that is counted member by member
pub sum-is : {A : Type 0} (F : List A → ℕ) (f : A → ℕ) → F [] ≡ 0 → ((x : A) (xs : List A) → F (x ∷ xs) ≡ f x + F xs) → (xs : List A) → sum (map f xs) ≡ F xs
sum-is F f e h xs = sum-map f xs ∙ sym (is_sum_by F f e h xs)
