-- The order of use names each of n slots once, and stays so when slots move in it. Assumes nothing.
use mathlib.Core.Path.{sym, ◌∙◌}
use mathlib.Core.List.{List}
use Prim.Native.Nat.{ℕ}
use native.Mathlib.Omega.{arith}
use Rattle.lists.specs.Lists.{from}
use Rattle.lists.proofs.Lists.{All-map}
use Rattle.lists.proofs.Moved.{Moved, moved-All, moved_length, moved-distinct, from-once, from-below, from-count}
use Rattle.trace.specs.Private.Slots.{Names}

pub names-moved : {n : ℕ} {l r : List ℕ} → Moved l r → Names n l → Names n r
names-moved m h = record { once = moved-distinct m h.once; below = moved-All m h.below; count = sym (moved_length m) ∙ h.count }

pub names-from : (n : ℕ) → Names n (from 0 n)
names-from n = record { once = from-once 0 n; below = All-map (λ j h. omega arith) (from-below 0 n); count = from-count 0 n }
