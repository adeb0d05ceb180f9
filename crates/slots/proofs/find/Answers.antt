-- Assumes nothing.
use Rattle.std.proofs.Common.{sym, ap, ◌∙◌, rules, tests}
use Rattle.std.specs.Prelude.{position}
use Rattle.std.proofs.lemmas.Iterator.{YieldsList-from_slice}
use Rattle.std.proofs.lemmas.Iterator.Search.{position_from_yields_List}
use Rattle.slots.specs.Keys.{slot_has, find_of}
use Rattle.slots.proofs.find.Goals as goal

pub returns-in_err-place : goal.returns-in_err-place
unfolding find_of
returns-in_err-place c =
    let has = slot_has c.args.keys.now c.args.key.now in
    let e = position_from_yields_List has _ _ c.position.result c.position.ensures.ran (YieldsList-from_slice c.held_slots.result.now (cc)) (λ x b q k. search (rules, tests)) in
    c.from_residual.ensures ∙ sym (c.in_err-place.was) ∙ e ∙ ap (position has) c.held_slots.ensures

pub returns : goal.returns
unfolding find_of
returns c =
    let has = slot_has c.args.keys.now c.args.key.now in
    let e = position_from_yields_List has _ _ c.position.result c.position.ensures.ran (YieldsList-from_slice c.held_slots.result.now (cc)) (λ x b q k. search (rules, tests)) in
    sym (c.in_ok-place.was) ∙ e ∙ ap (position has) c.held_slots.ensures
