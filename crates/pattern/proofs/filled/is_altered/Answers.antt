use Rattle.std.proofs.Common.{rules, sym, ap, Bool, ◌∙◌, tests}
use mathlib.Core.Bool.{◌&&◌}
use Rattle.std.proofs.lemmas.Iterator.{YieldsList-from_slice}
use Rattle.std.proofs.lemmas.Iterator.Search.{any_from_yields_List}
use Rattle.lists.specs.Lists.{any}
use Rattle.lists.proofs.Chains.{any-is}
use lib.Dec.{eqb}
use borrow.Author.Tests.{lt-ltb}
use Rattle.pattern.proofs.filled.is_altered.Goals as goal

pub returns-then-column-width : goal.returns-then-column-width
returns-then-column-width c =
    let selected = c.args.selected.now in
    any_from_yields_List (eqb c.args.column) _ _ c.any.result c.any.ensures.ran (YieldsList-from_slice selected cc) (λ x b q k. search (rules, tests))
    ∙ any-is (eqb c.args.column) selected
    ∙ sym (ap (λ (b : Bool). b && any (eqb c.args.column) selected) (lt-ltb c.args.column c.args.width c.if-column-width.true))
