-- `State::open_in` meets its contract. Assumes nothing.
use native.Mathlib.Omega.{arith}
use borrow.Author.Tests.{not-true, not-false}
use Rattle.cache.proofs.Returns.Opening.{open-fits, open-refused, open_done}
use Rattle.cache.proofs.State.open_in.Goals as goal

pub returns-then-not-sizes_fit : goal.returns-then-not-sizes_fit
returns-then-not-sizes_fit c =
    let a = c.args in
    open-refused a.cells.now a.memory.now a.slots a.slot_bytes _ c.sizes_fit.ensures (not-true _ c.if-not-sizes_fit.true-raw) _ c.reset.ensures

pub overflow_cast-count : goal.overflow_cast-count
overflow_cast-count c = let W = open-fits c.args.cells.now c.args.memory.now c.args.slots c.args.slot_bytes _ c.sizes_fit.ensures (not-false _ c.if-not-sizes_fit.false-raw) in record { fits = omega (arith, W.few_cells) }

pub overflow_cast-size : goal.overflow_cast-size
overflow_cast-size c = let W = open-fits c.args.cells.now c.args.memory.now c.args.slots c.args.slot_bytes _ c.sizes_fit.ensures (not-false _ c.if-not-sizes_fit.false-raw) in record { fits = omega (arith, W.few_memory) }

pub overflow_cast-slots : goal.overflow_cast-slots
overflow_cast-slots c = let W = open-fits c.args.cells.now c.args.memory.now c.args.slots c.args.slot_bytes _ c.sizes_fit.ensures (not-false _ c.if-not-sizes_fit.false-raw) in record { fits = omega (arith, W.few_slots) }

pub overflow_cast-slot_bytes : goal.overflow_cast-slot_bytes
overflow_cast-slot_bytes c = let W = open-fits c.args.cells.now c.args.memory.now c.args.slots c.args.slot_bytes _ c.sizes_fit.ensures (not-false _ c.if-not-sizes_fit.false-raw) in record { fits = omega (arith, W.most_bytes) }

pub returns : goal.returns
returns c =
    let a = c.args in
    open_done a.cells.now a.memory.now a.slots a.slot_bytes _ c.sizes_fit.ensures (not-false _ c.if-not-sizes_fit.false-raw) _ _ _ c.reset-2.ensures
    (c.fill.ensures.after (λ y e. e)) (c.fill-2.ensures.after (λ y e. e))
