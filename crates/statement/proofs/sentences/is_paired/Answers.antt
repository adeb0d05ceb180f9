-- `is_paired`: what stands from the token on tells.
use mathlib.Core.Path.{sym, ◌∙◌}
use Rattle.statement.proofs.Paired.{looks-start, looks-more, looks-less, looks-end}
use Rattle.statement.proofs.sentences.is_paired.Goals as goal

pub loop-t-init : goal.loop-t-init
loop-t-init c = looks-start c.args.text.now c.args.at _ c.next-t.ensures

pub loop-t-smaller : goal.loop-t-smaller
loop-t-smaller c = looks-less c.args.text.now c.args.at _ c.loop-t.invariant (sym c.ends_list.ensures ∙ c.loop-t-test.true) _ c.next-t-in-loop-t.ensures

pub loop-t-preserved : goal.loop-t-preserved
loop-t-preserved c = looks-more c.args.text.now c.args.at _ c.loop-t.invariant (sym c.ends_list.ensures ∙ c.loop-t-test.true) _ c.next-t-in-loop-t.ensures

pub returns : goal.returns
returns c = c.is_comma_second.ensures ∙ looks-end c.args.text.now c.args.at _ c.loop-t.invariant (sym c.ends_list.ensures ∙ c.loop-t-test.false)
