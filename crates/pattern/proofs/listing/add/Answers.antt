use Rattle.std.proofs.Common.{◌≡◌, ◌+◌, false, take, set, ℕ, sym, ap, ◌∙◌, rules, tests, cond, List, Bool}
use Rattle.std.proofs.lemmas.Iterator.{YieldsList-from_slice}
use Rattle.std.proofs.lemmas.Iterator.Search.{any_from_yields_List}
use Rattle.lists.specs.Lists.{any}
use Rattle.pattern.specs.declared.Pattern.{Pattern}
use Rattle.pattern.specs.Private.Flat.{same_struct, with_pattern}
use Rattle.lists.proofs.Chains.{any-is}
use Rattle.pattern.proofs.listing.add.Goals as goal

pub returns : goal.returns
returns c =
    let l = c.args.list.now in
    let p = c.args.p in
    let same : Pattern → Bool = (λ (x : Pattern). same_struct x p) in
    let xs : List Pattern = take c.from-n.result l.items in
    let e = any_from_yields_List same _ _ c.any.result c.any.ensures.ran (YieldsList-from_slice xs cc) (λ x b q k. search (rules, tests)) in
    let f : any same (take l.count l.items) ≡ false = ap (λ (k : ℕ). any same (take k l.items)) (sym c.from-n.ensures) ∙ sym (any-is same xs) ∙ sym e ∙ c.if-any.false in
    ap (λ (k : ℕ). record { items = set l.items k p; count = l.count + 1 }) c.from-n.ensures
    ∙ sym (ap (λ (b : Bool). cond b l (with_pattern l p)) f)
