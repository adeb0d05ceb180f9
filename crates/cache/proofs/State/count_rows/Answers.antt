-- Assumes nothing.
use mathlib.Core.Path.{◌∙◌}
use native.Mathlib.Omega.{arith}
use borrow.Author.Rules.{rules}
use Rattle.cache.proofs.Returns.Updating.{Long, update-below}
use Rattle.cache.proofs.Returns.Noting.{its-table, rows-counted}
use Rattle.cache.proofs.State.count_rows.Goals as goal

pub bounds-self-update : goal.bounds-self-update
bounds-self-update c =
    let s = c.args.self.now in
    let L : Long s = record { tables = search rules depth 12; updates = search rules depth 12 } in
    update-below s c.requires.0 L c.args.update c.requires.1

pub shared_ref_as_front-areas : goal.shared_ref_as_front-areas
shared_ref_as_front-areas c =
    let s = c.args.self.now in
    let L : Long s = record { tables = search rules depth 12; updates = search rules depth 12 } in
    let few = its-table s c.requires.0 L c.args.update c.requires.1 _ _ c.from-i.ensures in
    omega (arith, few)

pub bounds-self-i : goal.bounds-self-i
bounds-self-i c =
    let s = c.args.self.now in
    let L : Long s = record { tables = search rules depth 12; updates = search rules depth 12 } in
    its-table s c.requires.0 L c.args.update c.requires.1 _ _ c.from-i.ensures

pub returns : goal.returns
returns c =
    let a = c.args in
    let s = a.self.now in
    let L : Long s = record { tables = search rules depth 12; updates = search rules depth 12 } in
    c.count_change.ensures ∙ rows-counted s c.requires.0 L a.update c.requires.1 a.cells.now a.values.now _ _ _ _ c.from-i.ensures c.areas-start.ensures
