use Rattle.std.proofs.Common.{◌≡◌, length, get_or, refl, ap, arith, rules, List, ℕ, pos}
use Rattle.pattern.specs.Stored.{filled_entry, filled_of}
use Rattle.pattern.specs.declared.Entry.{Entry}
use Rattle.pattern.specs.declared.Entry.TheVariants.{Constant, Any}
use Rattle.pattern.proofs.Mapped.{map-placed, made-is}
use Rattle.pattern.proofs.Pattern.filled.Goals as goal

pub returns : goal.returns
unfolding filled_of
returns c =
    let values = c.args.values in
    let entries = c.args.self.entries in
    let zero = Constant (pos 0) in
    let n : length entries ≡ 8 = search rules in
    let m = c.from_fn.ensures.items in
    let made = made-is _ (λ s. (s.0.now ≡ entries) × (s.1 ≡ values)) (λ (j : ℕ). filled_entry values.now (get_or entries j zero)) (λ s j y t h w. (search rules, search rules)) c.from_fn.result Any _ 8 (refl, refl) m in
    ap (λ (es : List Entry). record { entries = es; count = c.args.self.count })
    (map-placed (filled_entry values.now) entries c.from_fn.result zero Any (omega (arith, m.long, n)) (λ k h. made k (omega (arith, n))))
