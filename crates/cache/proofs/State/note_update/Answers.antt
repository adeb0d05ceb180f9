-- Assumes nothing.
use native.Mathlib.Omega.{arith}
use mathlib.Core.Path.{sym, ap, ◌∙◌}
use lib.ListN.{length}
use Rattle.meaning.specs.Plain.{Lengths}
use Rattle.statement.specs.Refusals.{number_in}
use Rattle.cache.specs.Calls.{lengths_lent}
use Rattle.cache.specs.Gives.{update_refusal}
use Rattle.cache.proofs.Invariant.Sound.{sound-is}
use Rattle.cache.proofs.Returns.Updating.{accepted}
use Rattle.cache.proofs.Returns.Noting.{propose-refused, propose-done}
use Rattle.cache.proofs.State.note_update.Goals as goal

pub count_rows-rows-requires : goal.count_rows-rows-requires
count_rows-rows-requires c =
    let a = c.args in
    let number = c.check_update-taken.ensures ∙ ap (λ (l : Lengths). update_refusal a.self.now l a.update (length a.values.now)) c.«of».ensures in
    let A = accepted a.self.now (lengths_lent a.cells.now a.memory.now) a.update (length a.values.now) (sym number ∙ ap number_in c.in-Ok.is) in
    (A.sound, A.there)

pub overflow_cast-update : goal.overflow_cast-update
overflow_cast-update c =
    let a = c.args in
    let number = c.check_update-taken.ensures ∙ ap (λ (l : Lengths). update_refusal a.self.now l a.update (length a.values.now)) c.«of».ensures in
    let A = accepted a.self.now (lengths_lent a.cells.now a.memory.now) a.update (length a.values.now) (sym number ∙ ap number_in c.in-Ok.is) in
    record { fits = omega (arith, A.there, (sound-is a.self.now A.sound).few_updates) }

pub returns-in-Err : goal.returns-in-Err
returns-in-Err c =
    let a = c.args in
    let number = c.check_update-taken.ensures ∙ ap (λ (l : Lengths). update_refusal a.self.now l a.update (length a.values.now)) c.«of».ensures in
    propose-refused a.self.now a.cells.now a.memory.now a.update a.values.now _ number c.in-Err.refusal (ap number_in c.in-Err.is)

pub returns-in-Ok : goal.returns-in-Ok
returns-in-Ok c =
    let a = c.args in
    let number = c.check_update-taken.ensures ∙ ap (λ (l : Lengths). update_refusal a.self.now l a.update (length a.values.now)) c.«of».ensures in
    propose-done a.self.now a.cells.now a.memory.now a.update a.values.now _ number (ap number_in c.in-Ok.is) _ c.count_rows-rows.ensures _ c.of-in-Ok.ensures _ c.of-self.ensures
