-- Assumes nothing.
use mathlib.Core.Path.{sym, ap, subst, ◌∙◌}
use Prim.Native.Nat.{ℕ}
use Rattle.cache.specs.Private.Outcomes.{Takes}
use Rattle.cache.specs.Calls.{lengths_lent}
use Rattle.cache.specs.Gives.{pending_refusal}
use Rattle.cache.proofs.Returns.Noting.{note-taken, commit-refused, commit-made}
use Rattle.cache.proofs.State.make_noted.Goals as goal

pub make-requires : goal.make-requires
make-requires c =
    let a = c.args in
    let lent = lengths_lent a.cells.now a.memory.now in
    let none = ap (pending_refusal a.self.now) (sym c.«of».ensures) ∙ c.in-Ok.ensures.0 in
    subst (λ (i : ℕ). Takes a.self.now lent.cells i) (sym c.from.ensures) (note-taken a.self.now lent none c.in-Ok.note c.in-Ok.ensures.1)

pub returns-in-Err : goal.returns-in-Err
returns-in-Err c =
    let a = c.args in
    commit-refused a.self.now a.cells.now a.memory.now c.in-Err.refusal (ap (pending_refusal a.self.now) (sym c.«of».ensures) ∙ c.in-Err.ensures)

pub returns-in-Ok : goal.returns-in-Ok
returns-in-Ok c =
    let a = c.args in
    let none = ap (pending_refusal a.self.now) (sym c.«of».ensures) ∙ c.in-Ok.ensures.0 in
    commit-made a.self.now a.cells.now a.memory.now none c.in-Ok.note c.in-Ok.ensures.1 _ c.from.ensures _ c.used.ensures _ c.make.ensures
