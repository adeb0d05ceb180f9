-- Refused, or answered, each a law of `Returns/Asking`. Assumes nothing.
use native.Mathlib.Omega.{arith}
use mathlib.Core.Path.{refl, ap, ◌∙◌}
use borrow.Author.Rules.{rules}
use lib.ListN.{length}
use Rattle.meaning.specs.Plain.{Lengths}
use Rattle.statement.specs.Refusals.{number_of}
use Rattle.table.proofs.Recording.{numbered}
use Rattle.cache.specs.declared.State.{State}
use Rattle.cache.specs.Given.{asked_as}
use Rattle.cache.specs.Gives.{ask_gives, ask_refusal}
use Rattle.cache.proofs.Invariant.Sound.{sound-is}
use Rattle.cache.proofs.Returns.Asking.{asked-exit, ask-refused, accepted, ask-done}
use Rattle.cache.proofs.State.answer_query.Goals as goal

pub returns-in_err-check_ask : goal.returns-in_err-check_ask
returns-in_err-check_ask c =
    let a = c.args in
    let r = c.in_err-check_ask.field-0.0 in
    let e = c.in_err-check_ask.ensures ∙ ap (λ (l : Lengths). ask_refusal a.self.now l a.query (length a.values.now)) c.«of».ensures in
    ask-refused a.self.now a.cells.now a.memory.now a.query a.values.now a.answer.now (number_of r) e _ (numbered r) (asked-exit c.from_residual.result r a.self.now c.from_residual.ensures.1)

pub overflow_cast-query : goal.overflow_cast-query
overflow_cast-query c =
    let a = c.args in
    let s = a.self.now in
    let e = c.in_ok-check_ask.ensures ∙ ap (λ (l : Lengths). ask_refusal s l a.query (length a.values.now)) c.«of».ensures in
    let K = accepted s a.cells.now a.memory.now a.query a.values.now a.answer.now 0 e refl in
    record { fits = omega (arith, (sound-is s K.0.sound).few_queries, K.1) }

pub invariant_of-question : goal.invariant_of-question
invariant_of-question c =
    let a = c.args in
    let s = a.self.now in
    let e = c.in_ok-check_ask.ensures ∙ ap (λ (l : Lengths). ask_refusal s l a.query (length a.values.now)) c.«of».ensures in
    let K = accepted s a.cells.now a.memory.now a.query a.values.now a.answer.now 0 e refl in
    record {
      sound = K.0.sound;
      there = K.1;
      keyed = c.of-key.ensures;
      all_tables = search rules;
      all_queries = search rules;
    }

pub answered-reply-requires : goal.answered-reply-requires
answered-reply-requires c =
    let a = c.args in
    let s = a.self.now in
    let e = c.in_ok-check_ask.ensures ∙ ap (λ (l : Lengths). ask_refusal s l a.query (length a.values.now)) c.«of».ensures in
    (accepted s a.cells.now a.memory.now a.query a.values.now a.answer.now 0 e refl).0.memory_is

pub returns : goal.returns
returns c =
    let a = c.args in
    let s = a.self.now in
    let e = c.in_ok-check_ask.ensures ∙ ap (λ (l : Lengths). ask_refusal s l a.query (length a.values.now)) c.«of».ensures in
    ap (λ (t : State). ask_gives (asked_as c.answered-reply.result.result t) c.answered-reply.new.memory c.answered-reply.new.answer) c.settle.ensures
    ∙ ask-done s a.cells.now a.memory.now a.query a.values.now a.answer.now 0 e refl c.of-key.result c.of-key.ensures _ refl _ c.answered-reply.ensures
