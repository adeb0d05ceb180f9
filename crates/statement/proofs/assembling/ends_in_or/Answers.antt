use Rattle.std.proofs.Common.{◌∙◌, sym, ap, ℕ, eqb}
use Rattle.std.specs.Option.{option_copied}
use Rattle.statement.proofs.Outer.{last-step, last-none}
use Rattle.statement.proofs.assembling.ends_in_or.Goals as goal

pub returns-in-Some : goal.returns-in-Some
returns-in-Some c =
    ap (λ (k : ℕ). eqb k 2) (c.step_in.ensures ∙ sym (last-step 0 c.args.nodes.now c.in-Some.node.now (sym c.last.ensures.value ∙ ap option_copied c.in-Some.is)))

pub returns-in-None : goal.returns-in-None
returns-in-None c = last-none c.args.nodes.now (sym c.last.ensures.value ∙ ap option_copied c.in-None.is)
