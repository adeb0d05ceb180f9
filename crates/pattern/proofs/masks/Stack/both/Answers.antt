use Rattle.std.proofs.Common.{◌≡◌, length, refl, rules}
use Rattle.pattern.proofs.Stacking.{products-fit}
use Rattle.pattern.proofs.masks.Stack.both.Goals as goal

pub put_products-requires : goal.put_products-requires
put_products-requires c =
    let s = c.args.self.now in
    let n : length s.masks ≡ 18 = search rules in
    products-fit s n c.requires c.from-left.result c.from-right.result _ c.from-left.ensures c.from-right.ensures refl
