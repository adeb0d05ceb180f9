-- `respond_ask` meets its contract: refused or answered; the record lies in the answer buffer. Assumes nothing.
use mathlib.Core.Path.{refl, sym, ap, ◌∙◌}
use native.Mathlib.Omega.{arith}
use lib.ListN.{length-take}
use Rattle.cache.specs.Gives.{ask_gives}
use Rattle.cache.specs.Given.{asked_as}
use Rattle.meaning.specs.Call.{ask}
use Rattle.table.proofs.Recording.{numbered}
use Rattle.console.proofs.Calling.{call-refused, call-done, ask-is, answer-inside}
use Rattle.console.proofs.respond_ask.Goals as goal

pub slice_bounds-record-end : goal.slice_bounds-record-end
slice_bounds-record-end c =
    let e = sym (ap (λ r. ask_gives (asked_as r c.ask.new.self) c.ask.new.memory c.ask.new.answer) c.in-Ok.is) ∙ c.ask.ensures in
    answer-inside _ _ _ _ _ _ _ e

pub slice_bounds-record-end-in-Ok : goal.slice_bounds-record-end-in-Ok
slice_bounds-record-end-in-Ok c =
    let e = sym (ap (λ r. ask_gives (asked_as r c.ask.new.self) c.ask.new.memory c.ask.new.answer) c.in-Ok.is) ∙ c.ask.ensures in
    let inside = answer-inside _ _ _ _ _ _ _ e in
    omega (arith, inside, length-take c.in-Ok.asked.size c.ask.new.answer)

pub returns-in-Ok : goal.returns-in-Ok
returns-in-Ok c =
    let e = sym (ap (λ r. ask_gives (asked_as r c.ask.new.self) c.ask.new.memory c.ask.new.answer) c.in-Ok.is) ∙ c.ask.ensures in
    call-done _ _ _ _ _ (ask _ _) _ (ask-is _ _ _ _ _ _ _ e) _ _ refl (c.write_answer.ensures.result, c.write_answer.ensures.text)

pub returns-in-Err : goal.returns-in-Err
returns-in-Err c =
    let e = sym (ap (λ r. ask_gives (asked_as r c.ask.new.self) c.ask.new.memory c.ask.new.answer) c.in-Err.is) ∙ c.ask.ensures in
    call-refused _ _ _ _ _ (ask _ _) _ (ask-is _ _ _ _ _ _ _ e) _ _ (numbered c.in-Err.refusal) (c.write_refused.ensures.result, c.write_refused.ensures.text)
