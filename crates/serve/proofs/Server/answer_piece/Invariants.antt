-- `serve::Server::answer_piece`: the session is that after the bytes used up so far, and the measure is what is left of the piece. Assumes nothing.
use Rattle.std.proofs.Common.{◌≡◌, ◌++◌, List, ℕ, length}
use Rattle.serve.specs.Private.Turns.{Feeds}
use Rattle.serve.proofs.Server.answer_piece.Given as goal

abbrev pub invariant-loop-rest : goal.invariant-loop-rest
invariant-loop-rest g l =
    (used : List ℕ) × (l.piece ≡ used ++ l.rest) × Feeds l.fn.self used l.self (g.W.Write.contents l.fn.output) (g.W.Write.contents l.output)

abbrev pub decreases-loop-rest : goal.decreases-loop-rest
decreases-loop-rest g l = length l.rest
