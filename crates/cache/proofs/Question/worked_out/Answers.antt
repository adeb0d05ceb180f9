-- Assumes nothing.
use Prim.Native.Nat.{ℕ}
use mathlib.Core.Path.{refl, sym, subst}
use Rattle.std.specs.Prelude.{Result, Ok, Err}
use Rattle.statement.specs.declared.Refusal.{Refusal}
use Rattle.table.specs.declared.listing.Selected.{Selected}
use Rattle.table.specs.Evaluated.{said}
use Rattle.cache.specs.Private.Outcomes.{Room, WorksOut}
use Rattle.cache.proofs.Invariant.Sound.{sound-is}
use Rattle.table.proofs.Recording.{numbered}
use Rattle.cache.proofs.Returns.Inside.{last-known}
use Rattle.cache.proofs.Returns.Asking.{refused-is, new-short, new-inside, new-done}
use Rattle.cache.proofs.Question.worked_out.Goals as goal

pub returns-in-Err : goal.returns-in-Err
returns-in-Err c =
    let a = c.args in
    let w = subst (λ (x : Result Selected Refusal). WorksOut a.self.now.state.now a.cells.now a.self.now.number a.self.now.values.now a.answer.now (said x) c.put_record.new.answer) c.in-Err.is c.put_record.ensures in
    new-short a.self.now.state.now a.cells.now a.memory.now a.self.now.number a.self.now.values.now a.answer.now (said (Err c.in-Err.refusal)) _ w _ (numbered c.in-Err.refusal)
    (refused-is a.self.now.state.now a.self.now.key.now _ _ c.not_answered.ensures)

pub keep-requires : goal.keep-requires
keep-requires c =
    let a = c.args in
    let w = subst (λ (x : Result Selected Refusal). WorksOut a.self.now.state.now a.cells.now a.self.now.number a.self.now.values.now a.answer.now (said x) c.put_record.new.answer) c.in-Ok.is c.put_record.ensures in (
      new-inside a.self.now.state.now a.cells.now a.memory.now a.self.now.number a.self.now.values.now a.answer.now (said (Ok c.in-Ok.done)) _ w refl,
      subst (λ (m : ℕ). Room a.self.now.state.now.slots a.self.now.state.now.slot_bytes m c.in-Ok.done.size) (sym c.requires) (last-known a.self.now.state.now (sound-is a.self.now.state.now a.self.now.sound) c.in-Ok.done.size),
    )

pub returns-in-Ok : goal.returns-in-Ok
returns-in-Ok c =
    let a = c.args in
    let w = subst (λ (x : Result Selected Refusal). WorksOut a.self.now.state.now a.cells.now a.self.now.number a.self.now.values.now a.answer.now (said x) c.put_record.new.answer) c.in-Ok.is c.put_record.ensures in
    let k = c.keep in
    new-done a.self.now.state.now a.cells.now a.memory.now a.self.now.number a.self.now.values.now a.answer.now (said (Ok c.in-Ok.done)) _ w refl a.self.now.key.now _ _ a.self.now.keyed
    (k.ensures.place a.self.now.state.now a.self.now.key.now refl refl) k.ensures.memory
