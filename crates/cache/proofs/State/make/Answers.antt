-- Assumes nothing.
use native.Mathlib.Omega.{arith}
use borrow.Author.Rules.{rules}
use Rattle.cache.proofs.Returns.Updating.{Long, update-below, few-marked, place, left-fewer, made-is}
use Rattle.cache.proofs.State.make.Goals as goal

pub bounds-self-update : goal.bounds-self-update
bounds-self-update c =
    let s = c.args.self.now in
    let L : Long s = record { tables = search rules depth 12; updates = search rules depth 12 } in
    update-below s c.requires.sound L c.args.update c.requires.there

pub bounds-self-i : goal.bounds-self-i
bounds-self-i c =
    let a = c.args in
    let s = a.self.now in
    let L : Long s = record { tables = search rules depth 12; updates = search rules depth 12 } in
    place s L a.cells.now a.update c.requires _ _ c.from-i.ensures

pub offset_bounds-self-i : goal.offset_bounds-self-i
offset_bounds-self-i c =
    let a = c.args in
    let s = a.self.now in
    let L : Long s = record { tables = search rules depth 12; updates = search rules depth 12 } in
    record { fits = omega (arith, place s L a.cells.now a.update c.requires _ _ c.from-i.ensures) }

pub shared_ref_as_front-areas : goal.shared_ref_as_front-areas
shared_ref_as_front-areas c =
    let a = c.args in
    let s = a.self.now in
    let L : Long s = record { tables = search rules depth 12; updates = search rules depth 12 } in
    omega (arith, place s L a.cells.now a.update c.requires _ _ c.from-i.ensures)

pub dropped_by-gone-requires : goal.dropped_by-gone-requires
dropped_by-gone-requires c =
    let a = c.args in
    let s = a.self.now in
    let L : Long s = record { tables = search rules depth 12; updates = search rules depth 12 } in
    few-marked s L a.cells.now a.update c.requires

pub overflow_sub-invalidated : goal.overflow_sub-invalidated
overflow_sub-invalidated c =
    let a = c.args in
    let s = a.self.now in
    let L : Long s = record { tables = search rules depth 12; updates = search rules depth 12 } in
    left-fewer s L a.cells.now a.update c.requires _ _ c.from-i.ensures (search rules depth 12) a.values.now _ _ c.areas-start.ensures _ c.dropped_by-gone.ensures _ c.drop-slots.ensures

pub bounds-self-i-2 : goal.bounds-self-i-2
bounds-self-i-2 c =
    let a = c.args in
    let s = a.self.now in
    let L : Long s = record { tables = search rules depth 12; updates = search rules depth 12 } in
    place s L a.cells.now a.update c.requires _ _ c.from-i.ensures

pub returns : goal.returns
returns c =
    let a = c.args in
    let s = a.self.now in
    let L : Long s = record { tables = search rules depth 12; updates = search rules depth 12 } in
    let done = c.change-done.ensures in
    made-is s L a.cells.now a.update c.requires _ _ c.from-i.ensures (search rules depth 12) a.values.now _ _ c.areas-start.ensures _ c.dropped_by-gone.ensures _ c.drop-slots.ensures _ done.counted _
    c.none-self.ensures _ done.cells
