use Rattle.std.proofs.Common.{rules, ◌≡◌, ℕ, Bool, eqb, ap, ◌∙◌}
use Rattle.std.specs.List.{count_by}
use Rattle.lists.specs.Lists.{count}
use Rattle.pattern.proofs.Searching.{count_is}
use Rattle.pattern.proofs.relevance.comparison_steps.Goals as goal

pub returns : goal.returns
returns c =
    let p : ℕ → Bool = (λ (s : ℕ). eqb s 0) in
    let e : c.count.result ≡ count_by p c.used_steps-steps.result.now = search rules in
    e ∙ count_is p c.used_steps-steps.result.now ∙ ap (count p) c.used_steps-steps.ensures.are
