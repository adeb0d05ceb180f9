-- When a withdrawal is taken, and what it leaves. Assumes nothing.
use mathlib.Core.Path.{◌≡◌, refl, ap}
use mathlib.Core.Bool.{false}
use mathlib.Core.Option.{Option, none, some}
use Rattle.lists.specs.Lists.{nil, cons}
use Rattle.lists.proofs.Bools.{clash}
use Rattle.lists.proofs.Lists.{All-head, All-tail}
use Rattle.meaning.specs.Call.{withdraw}
use Rattle.meaning.specs.Refusals.{is_none}
use Rattle.meaning.specs.Plain.{Note, refused, refusal, conditions, does}
use Rattle.meaning.specs.Demand.{WithdrawExactlyIf, WithdrawTakesNote}
use Rattle.meaning.proofs.Accepted.{clear, guard-done}

noted : (o : Option Note) → is_none o ≡ false → (x : Note) × (o ≡ some x)
noted none h = clash refl h
noted (some x) h = (x, refl)

pub withdraw_exactly_if : WithdrawExactlyIf
unfolding refusal
withdraw_exactly_if lent p = (
  λ h. let a = (clear 0 (conditions lent p withdraw) refl).0 h in (All-head a, noted p.pending (All-head (All-tail a))),
  λ (l, (x, e)). (clear 0 (conditions lent p withdraw) refl).1 (cons l (cons (ap is_none e) nil)),
)

pub withdraw_takes_note : WithdrawTakesNote
withdraw_takes_note lent p h = guard-done p refused (does p withdraw) (refusal lent p withdraw) h
