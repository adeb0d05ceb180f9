-- The program's store, seen as a session. Assumes nothing: these are definitions.
use Rattle.std.specs.Prelude.{◌≤◌, take}
use Rattle.serve.specs.declared.Server.TheInside.{Inside}
use Rattle.serve.specs.Input.{Session, most_held}
use Rattle.serve.specs.Private.Turns.{session_of}

abbrev pub session : Inside → Session
session s = session_of s.state s.cells s.memory s.answer (take s.held s.line)

-- what is held has its place
abbrev pub Fits : Inside → Type 0
Fits s = s.held ≤ most_held
