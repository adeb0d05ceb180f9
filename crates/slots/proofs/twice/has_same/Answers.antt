-- Assumes nothing.
use Rattle.std.proofs.Common.{ℕ, ◌∙◌, rules, tests}
use Rattle.std.proofs.lemmas.Iterator.{YieldsList-from_slice}
use Rattle.std.proofs.lemmas.Iterator.Search.{any_from_yields_List}
use Rattle.slots.specs.Keys.{same_key, slot_key}
use Rattle.slots.proofs.SlotReads.{any_keys}
use Rattle.slots.proofs.twice.has_same.Goals as goal

pub returns : goal.returns
returns c =
    let keys = c.args.keys.now in
    let key = slot_key keys c.args.x in
    let has = λ (y : ℕ). same_key key (slot_key keys y) in
    any_from_yields_List has _ _ c.any.result c.any.ensures.ran (YieldsList-from_slice c.args.slots.now (cc)) (λ x b q k. search (rules, tests)) ∙ any_keys keys key c.args.slots.now
