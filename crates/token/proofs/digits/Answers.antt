-- One digit more, up to the greatest number.
use Rattle.std.proofs.Common.{◌≡◌, ap, ◌∙◌, min, rules}
use Rattle.std.proofs.lemmas.Fn.{fronts, fold_over, slice_gives}
use Rattle.meaning.specs.Tokens.{decimal}
use Rattle.token.proofs.Numbers.{value-none, value-snoc}
use Rattle.token.proofs.digits.Goals as goal

pub returns : goal.returns
returns c =
    let s = c.iter.result in
    fold_over fronts (λ y. y.now) _ (λ ys a. a ≡ min (decimal ys) 4294967295) _ (λ ys a x b q j k. let v = value-snoc ys x.now in search rules) s s.rest.now _ _ (slice_gives s) value-none c.fold.ensures.ran
    ∙ ap (λ ys. min (decimal ys) 4294967295) c.iter.ensures.rest
