-- One call of the store, as the program makes it for a line. Assumes nothing: these are definitions.
use Rattle.std.specs.Prelude.{List, ℕ, ℤ}
use Rattle.cache.specs.declared.State.{State}
use Rattle.meaning.specs.Call.{Call}
use Rattle.console.specs.Desk.{called, Replies, replies_with}

-- what a call brings, its text at the start of a lent buffer
unfoldable pub reply_to : State → List ℤ → List ℕ → List ℕ → Call (List ℕ) → List ℕ → Replies
reply_to s cells memory answer c out = replies_with out (called (record { state = s; cells = cells; memory = memory }) answer c)
