-- What stands from the token on tells.
use Rattle.statement.proofs.Paired.{Looks, left_of}
use Rattle.statement.proofs.sentences.is_paired.Given as goal

abbrev pub invariant-loop-t : goal.invariant-loop-t
invariant-loop-t l = Looks l.text l.at l.t

abbrev pub decreases-loop-t : goal.decreases-loop-t
decreases-loop-t l = left_of l.text l.t
