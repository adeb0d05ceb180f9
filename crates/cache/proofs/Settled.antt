-- A call settled by its number, and what is known where the first number does not apply. Assumes nothing.
use mathlib.Core.Path.{◌≡◌, refl}
use mathlib.Core.Bool.{Bool, true, false, not, ◌&&◌}
use Prim.Native.Nat.{ℕ, zero, suc, ◌<◌}
use native.Mathlib.Omega.{arith}
use borrow.Author.Tests.{eqb-true}
use lib.Dec.{eqb}
use Rattle.lists.proofs.Bools.{and_left, and_right, or_left, or_right, not-false}
use Rattle.meaning.specs.Plain.{Lengths}
use Rattle.meaning.specs.Refusals.{or_else, settled}
use Rattle.cache.specs.declared.State.{State}
use Rattle.cache.specs.SoundTest.{sound_state}
use Rattle.cache.specs.Sound.{note_if, pending_of}
use Rattle.cache.specs.Calls.{unfit}
use Rattle.cache.specs.declared.Note.{Note}
use Rattle.std.specs.Prelude.{Option as Maybe, Some, None}

-- the note that is put into a state is the one that is there
pub note-put : (x : Maybe Note) → note_if (pending_of x).there (pending_of x).note ≡ x
note-put None = refl
note-put (Some n) = refl

-- there is no note
pub nothing : (n : Note) → ◌≡◌ {A = Maybe Note} None (Some n) → ⊥
nothing n e = absurd (cc)

module _ {X : Type 0} where
  pub settled-refused : (n : ℕ) (done refused : X) → (n ≡ 0 → ⊥) → refused ≡ settled n done refused
  unfolding settled
  settled-refused zero done refused h = absurd (h refl)
  settled-refused (suc n) done refused h = refl

  pub settled-done : (n : ℕ) (done refused : X) → n ≡ 0 → done ≡ settled n done refused
  unfolding settled
  settled-done n done refused e = rw e

-- where the state and the lengths are the opening's
pub record Fit (s : State) (l : Lengths) : Type 0 where
  pub sound : sound_state s ≡ true
  pub cells_are : l.cells ≡ s.cells
  pub memory_is : l.memory ≡ s.memory

pub fit_is : (s : State) (l : Lengths) → unfit s l ≡ false → Fit s l
unfolding unfit
fit_is s l h =
    let a : (eqb l.cells s.cells && eqb l.memory s.memory) ≡ true = not-false _ (or_right (not (sound_state s)) _ h) in
    record {
      sound = not-false (sound_state s) (or_left (not (sound_state s)) _ h);
      cells_are = eqb-true l.cells s.cells (and_left (eqb l.cells s.cells) _ a);
      memory_is = eqb-true l.memory s.memory (and_right (eqb l.cells s.cells) _ a);
    }

-- the first condition fails, and so do the others
pub or-else-zero : (b : Bool) (k rest : ℕ) → 0 < k → or_else b k rest ≡ 0 → (b ≡ false) × (rest ≡ 0)
or-else-zero true k rest h e = absurd (omega arith)
or-else-zero false k rest h e = (refl, e)
