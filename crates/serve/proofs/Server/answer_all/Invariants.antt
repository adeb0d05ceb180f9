-- `serve::Server::answer_all`: the session is that after the bytes read so far. Assumes nothing.
use Rattle.std.proofs.Common.{List, ℕ}
use Rattle.std.specs.Io.KnownBytes.{Consumes}
use Rattle.serve.specs.Private.Turns.{Feeds}
use Rattle.serve.proofs.Server.answer_all.Given as goal

abbrev pub invariant-loop : goal.invariant-loop
invariant-loop g l =
    (bytes : List ℕ) × Consumes (g.R.Read.remaining l.fn.input) (g.R.Read.remaining l.input) bytes
    × Feeds l.fn.self bytes l.self (g.W.Write.contents l.fn.output) (g.W.Write.contents l.output)
