-- What is known of a state that only calls change. Assumes nothing: these are definitions.
use Rattle.std.specs.Prelude.{◌≡◌, Bool, true, false, Option, Some, None}
use Rattle.cache.specs.declared.State.{State}
use Rattle.cache.specs.SoundTest.{sound_state}
use Rattle.cache.specs.Means.{Typed}

pub record Sealed (s : State) : Type 0 where
  pub typed : Typed s
  pub sound : sound_state s ≡ true

-- a state, if the test is true
abbrev pub sealed_if : Bool → State → Option State
sealed_if true s = Some s
sealed_if false s = None
