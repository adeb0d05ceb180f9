-- What n slots of `size` bytes keep after a history: a record that fits goes to the front, what is past n goes, and a drop takes out the keys that it
-- matches. No claim cites it. Assumes nothing: these are definitions.
use mathlib.Core.HLevel.{Discrete}
use mathlib.Core.Bool.{Bool, true, false, not}
use mathlib.Core.List.{List, [], ◌∷◌}
use Prim.Native.Nat.{ℕ}
use lib.ListN.{take}
use Rattle.lists.specs.Lists.{keep}
use Rattle.lists.specs.Tests.{is_yes}
use Rattle.trace.specs.History.{Event, answer_of, drop_of, fits_slot}

-- a key with its record
abbrev pub Entry : Type 0 → Type 0
Entry K = K × List ℕ

-- a key that d does not match
abbrev pub spared : {K : Type 0} → (K → Bool) → Entry K → Bool
spared d x = not (d x.0)

module _ {K : Type 0} (same : Discrete K) where
  abbrev pub other : K → Entry K → Bool
  other k x = not (is_yes (same x.0 k))

  abbrev pub front : Bool → ℕ → K → List ℕ → List (Entry K) → List (Entry K)
  front true n k r l = take n ((k, r) ∷ keep (other k) l)
  front false n k r l = l

  -- the entries kept, the latest used first
  abbrev pub recent : ℕ → ℕ → List (Event K) → List (Entry K)
  recent n size [] = []
  recent n size (answer_of k r ∷ h) = front (fits_slot size r) n k r (recent n size h)
  recent n size (drop_of d ∷ h) = keep (spared d) (recent n size h)
