-- What a flush owes, refused or not. Assumes nothing.
use Rattle.std.proofs.Common.{Result, Ok, Err, None, is_ok}
use mathlib.Core.Path.{◌≡◌}
use mathlib.Core.Bool.{true, false}
use native.Mathlib.Omega.{arith}
use Rattle.statement.specs.declared.Refusal.{Refusal}
use Rattle.statement.specs.Refusals.{number_in}
use Rattle.slots.specs.declared.SlotList.{SlotList}
use Rattle.slots.specs.Order.{clear_of}
use Rattle.meaning.specs.Plain.{Lengths}
use Rattle.meaning.specs.Refusals.{or_else, settled}
use Rattle.cache.specs.Sound.{pending_of}
use Rattle.cache.specs.declared.Pending.{Pending}
use Rattle.cache.specs.declared.State.{State}
use Rattle.cache.specs.Calls.{unfit}
use Rattle.cache.specs.Gives.{flush_of}
use Rattle.cache.specs.Given.{flushed_as}
use Rattle.cache.proofs.Returns.Checks.{refused_if, passed_if}

module _ (s : State) (l : Lengths) where
  pub flush-refused : (r : Result Unit Refusal) → number_in r ≡ or_else (unfit s l) 2 0 → is_ok r ≡ false → flushed_as r s ≡ flush_of s l
  unfolding flush_of settled
  flush-refused (Ok u) e h = absurd (cc)
  flush-refused (Err x) e h = let t = refused_if (unfit s l) 2 x e in rw t.0 (λ j. record { refusal = t.1 j; state = s })

  pub flush-done : (r : Result Unit Refusal) → number_in r ≡ or_else (unfit s l) 2 0 → is_ok r ≡ true → (free : SlotList) → free ≡ clear_of s.slots → (p : Pending) → p ≡ pending_of None
      → flushed_as r (record s { slots = free; pending = p }) ≡ flush_of s l
  unfolding flush_of settled
  flush-done (Ok u) e h free f p g = rw (passed_if (unfit s l) 2 (λ z. omega (arith, z)) e, f, g)
  flush-done (Err x) e h free f p g = absurd (cc)
