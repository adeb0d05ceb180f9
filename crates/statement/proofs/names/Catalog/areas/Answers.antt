use Rattle.std.proofs.Common.{◌∙◌, List, map, refl, rules}
use Rattle.std.proofs.lemmas.Iterator.{YieldsList-from_slice, YieldsList-from_map}
use Rattle.std.proofs.lemmas.Iterator.Consumers.{YieldsList-at, sum_from_yields_List}
use Rattle.statement.specs.declared.Table.{Table}
use Rattle.meaning.specs.Cells.{area_size, areas_size}
use Rattle.statement.specs.Catalog.{schema_of}
use Rattle.statement.proofs.Chains.{sum-is}
use Rattle.statement.proofs.names.Catalog.areas.Goals as goal

pub returns : goal.returns
returns c =
    let ts = c.args.self.now.tables.now in
    sum_from_yields_List _ c.sum.result c.sum.ensures.ran (YieldsList-from_map _ (λ (t : Table). area_size (schema_of t)) (YieldsList-at c.map.ensures.source (YieldsList-from_slice ts cc)) c.map.ensures.closure (λ x r q k. search rules))
    ∙ sum-is (λ (xs : List Table). areas_size (map schema_of xs)) (λ (t : Table). area_size (schema_of t)) refl (λ _ _. refl) ts
