use Rattle.std.proofs.Common.{◌∙◌, rules}
use Rattle.pattern.proofs.Listed.{same-read}
use Rattle.pattern.proofs.listing.same.Goals as goal

pub returns : goal.returns
returns c = c.eq.ensures ∙ same-read _ (λ a b. search rules) c.args.a.now.entries c.args.b.now.entries
