-- The row that an INSERT into a full ring removes first, and the rows that the change finds. Assumes nothing.
use mathlib.Core.Path.{◌≡◌, refl}
use mathlib.Core.Bool.{Bool, true, false, not, ◌&&◌, cond, true≢false}
use mathlib.Core.List.{List, [], ◌∷◌, ◌++◌}
use Prim.Native.Nat.{◌≤◌, ◌<◌}
use native.Mathlib.Omega.{arith}
use borrow.Author.Tests.{leb-false}
use lib.Dec.{leb}
use lib.ListN.{length, take, drop, length-drop}
use Rattle.lists.specs.Lists.{All}
use Rattle.lists.proofs.Lists.{All-drop}
use Rattle.meaning.specs.Statement.{Value, Change, insert}
use Rattle.meaning.specs.Meaning.{Row}
use Rattle.meaning.specs.Plain.{Table, is_pushing, pushed, remaining}

module _ (t : Table) (c : Change) where
  -- together they are the rows before
  pub pushed-remaining : pushed t c ++ remaining t c ≡ t.rows
  pushed-remaining = go (is_pushing t.schema (length t.rows) c) t.rows
    where
      go : (b : Bool) (rows : List Row) → cond b (take 1 rows) [] ++ drop (length (cond b (take 1 rows) [])) rows ≡ rows
      go true [] = refl
      go true (r ∷ rows) = refl
      go false rows = refl

  pub remaining-has : {P : Row → Type 0} → All P t.rows → All P (remaining t c)
  remaining-has h = All-drop (length (pushed t c)) h

  pub remaining-short : length (remaining t c) ≤ length t.rows
  remaining-short = omega (arith, length-drop (length (pushed t c)) t.rows)

-- an INSERT that 12 does not refuse finds a row free
pub remaining-room : (t : Table) (os : List Value) → 1 ≤ t.schema.capacity → length t.rows ≤ t.schema.capacity
    → (not t.schema.ring && leb t.schema.capacity (length t.rows)) ≡ false → length (remaining t (insert os)) < t.schema.capacity
remaining-room t os one h f = go t.schema.ring (leb t.schema.capacity (length t.rows)) t.rows refl h f
  where
    go : (ring full : Bool) (rows : List Row) → leb t.schema.capacity (length rows) ≡ full → length rows ≤ t.schema.capacity → (not ring && full) ≡ false
        → length (drop (length (cond (ring && full) (take 1 rows) [])) rows) < t.schema.capacity
    go true true [] e h f = one
    go true true (r ∷ rows) e h f = h
    go true false rows e h f = leb-false t.schema.capacity (length rows) e
    go false true rows e h f = absurd (true≢false f)
    go false false rows e h f = leb-false t.schema.capacity (length rows) e
