-- Assumes nothing.
use mathlib.Core.Path.{sym, ap, ◌∙◌}
use lib.ListN.{length}
use Rattle.meaning.specs.Plain.{Lengths}
use Rattle.cache.specs.Calls.{lengths_lent}
use Rattle.cache.specs.Gives.{update_refusal}
use Rattle.cache.proofs.Returns.Updating.{accepted, not-made, made}
use Rattle.cache.proofs.State.make_update.Goals as goal

pub returns-in_err-check_update : goal.returns-in_err-check_update
returns-in_err-check_update c =
    let a = c.args in
    not-made a.self.now a.cells.now a.memory.now a.update a.values.now c.from_residual.result c.in_err-check_update.field-0.0 c.from_residual.ensures.1
    (c.in_err-check_update.ensures ∙ ap (λ (l : Lengths). update_refusal a.self.now l a.update (length a.values.now)) c.«of».ensures)

pub make-requires : goal.make-requires
make-requires c =
    let a = c.args in
    let taken = c.in_ok-check_update.ensures ∙ ap (λ (l : Lengths). update_refusal a.self.now l a.update (length a.values.now)) c.«of».ensures in
    accepted a.self.now (lengths_lent a.cells.now a.memory.now) a.update (length a.values.now) (sym taken)

pub returns : goal.returns
returns c =
    let a = c.args in
    made a.self.now a.cells.now a.memory.now a.update a.values.now
    (c.in_ok-check_update.ensures ∙ ap (λ (l : Lengths). update_refusal a.self.now l a.update (length a.values.now)) c.«of».ensures) _ c.make.ensures
