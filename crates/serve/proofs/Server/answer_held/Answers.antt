use Rattle.std.proofs.Common.{rules, arith, ◌≡◌, ◌≤◌, length, take, ap, ◌∙◌}
use Rattle.serve.specs.Input.{Session, answering, next_session}
use Rattle.serve.proofs.Turning.{reply-inside, reply-session, reply-text}
use Rattle.serve.proofs.Server.answer_held.Goals as goal

pub returns-clause-session : goal.returns-clause-session
returns-clause-session c =
    let i = c.self.inside in
    reply-session (record { size = c.respond-size.result; state = c.respond-size.new.state }) _ _ _ _ i.state i.cells i.memory i.answer (take i.held i.line) c.args.out.now c.respond-size.ensures
    ∙ ap (λ (s : Session). next_session (answering s)) c.self.view_is

pub returns-clause-text : goal.returns-clause-text
returns-clause-text c =
    let i = c.self.inside in
    let r = c.respond-size in
    let h : 262144 ≤ length c.args.out.now = search rules in
    let k : length i.answer ≤ 65536 = search rules in
    reply-text (record { size = r.result; state = r.new.state }) _ _ _ _ i.state i.cells i.memory i.answer (take i.held i.line) c.args.out.now r.ensures k h ∙ ap (λ (s : Session). (answering s).text) c.self.view_is

-- the text is a part of what is lent for it
pub returns-clause-within : goal.returns-clause-within
returns-clause-within c =
    let i = c.self.inside in
    let h : length c.args.out.now ≡ 262144 = search rules in
    let k : c.respond-size.result ≤ length c.args.out.now =
    reply-inside (record { size = c.respond-size.result; state = c.respond-size.new.state }) _ _ _ _ i.state i.cells i.memory i.answer (take i.held i.line) c.args.out.now c.respond-size.ensures in
    omega arith
