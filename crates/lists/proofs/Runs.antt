-- Laws of runs: the longest beginning whose members all pass a test (`take_while`), and what follows it (`drop_while`). Assumes nothing.
use mathlib.Core.Path.{◌≡◌, refl, sym, ap, ◌∙◌}
use mathlib.Core.Logic.{◌↔◌}
use mathlib.Core.Bool.{Bool, true, false, ◌&&◌, cond, true≢false}
use mathlib.Core.List.{List, [], ◌∷◌, ◌++◌, append-nil}
use Prim.Native.Nat.{◌+◌, ◌≤◌}
use native.Mathlib.Omega.{arith}
use lib.ListN.{length, take, drop, length-append}
use lib.Seq.{take_at, drop_at}
use Rattle.lists.specs.Lists.{all, take_while, drop_while}

module _ {A : Type 0} (p : A → Bool) where
  -- ---- one member more

  pub take-yes : (x : A) (xs : List A) → p x ≡ true → take_while p (x ∷ xs) ≡ x ∷ take_while p xs
  take-yes x xs e = ap (λ b. cond b (x ∷ take_while p xs) []) e

  pub take_no : (x : A) (xs : List A) → p x ≡ false → take_while p (x ∷ xs) ≡ []
  take_no x xs e = ap (λ b. cond b (x ∷ take_while p xs) []) e

  pub drop-yes : (x : A) (xs : List A) → p x ≡ true → drop_while p (x ∷ xs) ≡ drop_while p xs
  drop-yes x xs e = ap (λ b. cond b (drop_while p xs) (x ∷ xs)) e

  pub drop-no : (x : A) (xs : List A) → p x ≡ false → drop_while p (x ∷ xs) ≡ x ∷ xs
  drop-no x xs e = ap (λ b. cond b (drop_while p xs) (x ∷ xs)) e

  -- ---- the two parts

  -- together they are the list
  pub run-split : (xs : List A) → take_while p xs ++ drop_while p xs ≡ xs
  run-split [] = refl
  run-split (x ∷ xs) = go (p x) (run-split xs)
    where
      go : (b : Bool) → take_while p xs ++ drop_while p xs ≡ xs → cond b (x ∷ take_while p xs) [] ++ cond b (drop_while p xs) (x ∷ xs) ≡ x ∷ xs
      go true h = ap (λ r. x ∷ r) h
      go false h = refl

  pub run_length : (xs : List A) → length (take_while p xs) + length (drop_while p xs) ≡ length xs
  run_length xs = sym (length-append (take_while p xs) (drop_while p xs)) ∙ ap length (run-split xs)

  pub drop-short : (xs : List A) → length (drop_while p xs) ≤ length xs
  drop-short xs = omega (arith, run_length xs)

  pub take_short : (xs : List A) → length (take_while p xs) ≤ length xs
  take_short xs = omega (arith, run_length xs)

  -- cut off at the run's length
  pub take-run : (xs : List A) → take (length (take_while p xs)) xs ≡ take_while p xs
  take-run xs = ap (take (length (take_while p xs))) (sym (run-split xs)) ∙ take_at (take_while p xs) (drop_while p xs) (length (take_while p xs)) refl

  pub drop-run : (xs : List A) → drop (length (take_while p xs)) xs ≡ drop_while p xs
  drop-run xs = ap (drop (length (take_while p xs))) (sym (run-split xs)) ∙ drop_at (take_while p xs) (drop_while p xs) (length (take_while p xs)) refl

  -- the members of a run pass the test
  pub run-all : (xs : List A) → all p (take_while p xs) ≡ true
  run-all [] = refl
  run-all (x ∷ xs) = go (p x) refl (run-all xs)
    where
      go : (b : Bool) → p x ≡ b → all p (take_while p xs) ≡ true → all p (cond b (x ∷ take_while p xs) []) ≡ true
      go true e h = rw e h
      go false e h = refl

  -- what follows a run is nothing, or begins with a member that fails the test
  abbrev pub Ends : List A → Type 0
  Ends [] = Unit {0}
  Ends (x ∷ xs) = p x ≡ false

  pub run_ends : (xs : List A) → Ends (drop_while p xs)
  run_ends [] = tt
  run_ends (x ∷ xs) = go (p x) refl (run_ends xs)
    where
      go : (b : Bool) → p x ≡ b → Ends (drop_while p xs) → Ends (cond b (drop_while p xs) (x ∷ xs))
      go true e h = h
      go false e h = e

  -- and it is the only such cut
  pub run-unique : (a b : List A) → all p a ≡ true → Ends b → (take_while p (a ++ b) ≡ a) × (drop_while p (a ++ b) ≡ b)
  run-unique [] [] h e = (refl, refl)
  run-unique [] (y ∷ b) h e = (take_no y b e, drop-no y b e)
  run-unique (x ∷ a) b h e = go (p x) refl h (λ k. run-unique a b k e)
    where
      go : (c : Bool) → p x ≡ c → (c && all p a) ≡ true → (all p a ≡ true → (take_while p (a ++ b) ≡ a) × (drop_while p (a ++ b) ≡ b))
          → (take_while p (x ∷ a ++ b) ≡ x ∷ a) × (drop_while p (x ∷ a ++ b) ≡ b)
      go true q k ih = (take-yes x (a ++ b) q ∙ ap (λ r. x ∷ r) (ih k).0, drop-yes x (a ++ b) q ∙ (ih k).1)
      go false q k ih = absurd (true≢false (sym k))

  pub drop-ended : (xs : List A) → Ends xs → drop_while p xs ≡ xs
  drop-ended xs e = (run-unique [] xs refl e).1

  pub drop-twice : (xs : List A) → drop_while p (drop_while p xs) ≡ drop_while p xs
  drop-twice xs = drop-ended (drop_while p xs) (run_ends xs)

  -- nothing follows exactly if all members pass the test
  pub drop_all : (xs : List A) → (drop_while p xs ≡ []) ↔ (all p xs ≡ true)
  drop_all xs = (
    (λ e. sym (ap (all p) (sym (append-nil (take_while p xs)) ∙ ap (λ r. take_while p xs ++ r) (sym e) ∙ run-split xs)) ∙ run-all xs),
    (λ h. ap (drop_while p) (sym (append-nil xs)) ∙ (run-unique xs [] h tt).1),
  )
