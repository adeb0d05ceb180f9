-- Assumes nothing.
use Rattle.std.proofs.Common.{◌∙◌, ◌*◌, refl, rules}
use Rattle.std.proofs.lemmas.Iterator.{YieldsList-from_slice, YieldsList-from_map}
use Rattle.std.proofs.lemmas.Iterator.Consumers.{YieldsList-at, sum_from_yields_List}
use Rattle.statement.specs.declared.Table.{Table}
use Rattle.statement.proofs.Chains.{sum-is}
use Rattle.cache.specs.Sound.{areas_of}
use Rattle.cache.proofs.sound.areas.Goals as goal

pub returns : goal.returns
returns c =
    let ts = c.args.tables.now in
    sum_from_yields_List _ c.sum.result c.sum.ensures.ran (YieldsList-from_map _ (λ (t : Table). t.count * t.capacity) (YieldsList-at c.map.ensures.source (YieldsList-from_slice ts cc)) c.map.ensures.closure (λ x r q k. search rules))
    ∙ sum-is areas_of (λ (t : Table). t.count * t.capacity) refl (λ _ _. refl) ts
