-- Lists: tests of their members, the members that a test keeps, beginnings, pairs, and a list with others written into it.
-- Assumes nothing: these are definitions.
use Rattle.std.specs.Prelude.{◌≢◌, Bool, true, false, ◌&&◌, ◌||◌, not, cond, List, [], ◌∷◌, ◌++◌, map, ℕ, zero, suc, ◌+◌, length, take, drop}
use Rattle.std.proofs.Math.Option.{Option, none, some}
use Prim.Native.Char.{code}
use Prim.Native.String as S
use Prim.Native.String.{String}

-- a text as its bytes, for texts of ASCII characters
abbrev pub bytes : String → List ℕ
bytes S.[] = []
bytes (S.◌∷◌ c s) = code c ∷ bytes s

module _ {A : Type 0} where
  -- some member passes the test; every member does
  abbrev pub any : (A → Bool) → List A → Bool
  any p [] = false
  any p (x ∷ xs) = p x || any p xs

  abbrev pub all : (A → Bool) → List A → Bool
  all p [] = true
  all p (x ∷ xs) = p x && all p xs

  -- every member has the property
  pub data All (P : A → Type 0) : List A → Type 0 where
    nil : All P []
    cons : {x : A} {xs : List A} → P x → All P xs → All P (x ∷ xs)

  -- no two members have the same f
  abbrev pub DistinctBy : {B : Type 0} → (A → B) → List A → Type 0
  DistinctBy f [] = Unit {0}
  DistinctBy f (x ∷ xs) = All (λ y. f y ≢ f x) xs × DistinctBy f xs

  abbrev pub Distinct : List A → Type 0
  Distinct xs = DistinctBy (λ (x : A). x) xs

  abbrev pub cons_if : Bool → A → List A → List A
  cons_if true x xs = x ∷ xs
  cons_if false x xs = xs

  -- the members that pass the test, in their order
  abbrev pub keep : (A → Bool) → List A → List A
  keep p [] = []
  keep p (x ∷ xs) = cons_if (p x) x (keep p xs)

  -- how many members pass the test
  abbrev pub count : (A → Bool) → List A → ℕ
  count p xs = length (keep p xs)

  -- the longest beginning whose members all pass the test, and what follows it
  abbrev pub take_while : (A → Bool) → List A → List A
  take_while p [] = []
  take_while p (x ∷ xs) = cond (p x) (x ∷ take_while p xs) []

  abbrev pub drop_while : (A → Bool) → List A → List A
  drop_while p [] = []
  drop_while p (x ∷ xs) = cond (p x) (drop_while p xs) (x ∷ xs)

  -- some member is the same as a later one
  abbrev pub repeats : (A → A → Bool) → List A → Bool
  repeats same [] = false
  repeats same (x ∷ xs) = any (same x) xs || repeats same xs

  -- the first of those that are the same, in order
  abbrev pub distinct : (A → A → Bool) → List A → List A
  distinct same [] = []
  distinct same (x ∷ xs) = x ∷ keep (λ y. not (same x y)) (distinct same xs)

  -- each list of the first with each of the second, the first outer
  abbrev pub pairs : List (List A) → List (List A) → List (List A)
  pairs [] ds = []
  pairs (c ∷ cs) ds = map (λ (d : List A). c ++ d) ds ++ pairs cs ds

  -- all but the last, and the last
  abbrev pub behind : A → Option (List A × A) → Option (List A × A)
  behind x none = some ([], x)
  behind x (some c) = some (x ∷ c.0, c.1)

  abbrev pub unsnoc : List A → Option (List A × A)
  unsnoc [] = none
  unsnoc (x ∷ xs) = behind x (unsnoc xs)

  -- a list read from place k on, round: those before k come last
  abbrev pub turned : ℕ → List A → List A
  turned k xs = drop k xs ++ take k xs

  -- a list with ys in place of what stands from `at` on
  abbrev pub written : List A → ℕ → List A → List A
  written xs at ys = take at xs ++ ys ++ drop (at + length ys) xs

-- lists, one after another
abbrev pub flat : {A : Type 0} → List (List A) → List A
flat [] = []
flat (x ∷ xs) = x ++ flat xs

-- i, i + 1 and on, n numbers
abbrev pub from : ℕ → ℕ → List ℕ
from i zero = []
from i (suc n) = i ∷ from (suc i) n
