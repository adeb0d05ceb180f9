-- The length of a run, by the first byte that does not belong to it. Assumes nothing.
use mathlib.Core.Path.{◌≡◌, refl, sym, ap, ◌∙◌}
use mathlib.Core.Bool.{Bool, true, false}
use mathlib.Core.List.{List, ◌∷◌}
use Prim.Native.Nat.{ℕ, ◌+◌, ◌<◌}
use native.Mathlib.Numerals.{add-one}
use lib.ListN.{length, get_or, drop}
use lib.Seq.{drop-cons}
use Rattle.std.specs.List.{AllWithin, HoldsAt}
use Rattle.std.specs.Prelude.{Option}
use Rattle.std.specs.Option.{MatchOption, unwrap_or}
use Rattle.std.proofs.lemmas.Iterator.{index_from_first}
use Rattle.lists.specs.Lists.{take_while}
use Rattle.lists.proofs.Runs.{take-yes, take_no}

-- what stands from a position on: the byte there, and what follows it
pub drop_here : (s : List ℕ) (i : ℕ) → i < length s → drop i s ≡ get_or s i 0 ∷ drop (i + 1) s
drop_here s i h = rw (add-one i) (drop-cons s i 0 h)

pub run-first : (p : ℕ → Bool) (s : List ℕ) (r : Option ℕ)
    → MatchOption r (AllWithin (λ b. p b ≡ true) s 0 (length s)) (λ i. (i < length s) × HoldsAt (λ b. p b ≡ false) s i × AllWithin (λ b. p b ≡ true) s 0 i)
    → length (take_while p s) ≡ unwrap_or r (length s)
run-first p s r h =
    index_from_first
    (λ u. length (take_while p u))
    (λ b. p b ≡ false)
    (λ b. p b ≡ true)
    refl
    (λ b u e. ap length (take_no p b u e))
    (λ b u e. ap length (take-yes p b u e) ∙ sym (add-one (length (take_while p u))))
    s
    r
    h
