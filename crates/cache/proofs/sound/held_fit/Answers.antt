-- Assumes nothing.
use Rattle.std.proofs.Common.{ℕ, ap, ◌∙◌, ◌&&◌, rules, tests}
use Rattle.std.proofs.lemmas.Iterator.{YieldsList-from_slice}
use Rattle.std.proofs.lemmas.Iterator.Search.{all_from_yields_List}
use Rattle.lists.specs.Lists.{all}
use Rattle.slots.specs.Keys.{slot_key}
use Rattle.cache.specs.Sound.{length_at}
use Rattle.cache.specs.SoundTest.{length_fits}
use Rattle.cache.specs.Private.Outcomes.{key_fits}
use Rattle.lists.proofs.Chains.{all-is}
use Rattle.cache.proofs.Returns.Tested.{all-fit}
use Rattle.cache.proofs.sound.held_fit.Goals as goal

pub returns : goal.returns
returns c =
    let s = c.args.state.now in
    let qs = c.used_queries-queries.result.now in
    let fit = λ (x : ℕ). length_fits (length_at s x) s.slot_bytes && key_fits qs (slot_key s.keys x) in
    let e = all_from_yields_List fit _ _ c.all.result c.all.ensures.ran (YieldsList-from_slice c.held_slots.result.now (cc)) (λ x b q k. search (rules, tests)) in
    e ∙ all-is fit c.held_slots.result.now ∙ ap (all fit) c.held_slots.ensures ∙ all-fit s _ c.used_queries-queries.ensures.size c.requires c.used_queries-queries.ensures.first _
