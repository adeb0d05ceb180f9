use Rattle.std.proofs.Common.{rules, List, ℕ, ap, subst, ◌∙◌}
use Rattle.std.specs.Io.KnownBytes.{Appends}
use Rattle.serve.specs.Input.{Session}
use Rattle.serve.specs.Private.Turns.{Begins}
use Rattle.serve.proofs.Turning.{held-finished}
use Rattle.serve.proofs.Server.answer_last.Goals as goal

pub returns-in_err-answer_line-clause-session : goal.returns-in_err-answer_line-clause-session
returns-in_err-answer_line-clause-session g c =
    let i = c.self.inside in
    c.answer_line.ensures.session ∙ (held-finished c.args.self.now i.held i.line (ap (λ (s : Session). s.held) c.self.view_is) c.if-self-gt0.true (search rules)).0

pub returns-in_ok-answer_line-clause-session : goal.returns-in_ok-answer_line-clause-session
returns-in_ok-answer_line-clause-session g c =
    let i = c.self.inside in
    c.answer_line.ensures.session ∙ (held-finished c.args.self.now i.held i.line (ap (λ (s : Session). s.held) c.self.view_is) c.if-self-gt0.true (search rules)).0

pub returns-in_ok-answer_line-clause-printed : goal.returns-in_ok-answer_line-clause-printed
returns-in_ok-answer_line-clause-printed g c =
    let i = c.self.inside in
    subst (λ (x : List ℕ). Appends (g.W.Write.contents c.args.output.now) (g.W.Write.contents c.answer_line.new.output) x)
    (held-finished c.args.self.now i.held i.line (ap (λ (s : Session). s.held) c.self.view_is) c.if-self-gt0.true (search rules)).1
    c.in_ok-answer_line.ensures.printed

pub returns-in_err-answer_line-clause-text : goal.returns-in_err-answer_line-clause-text
returns-in_err-answer_line-clause-text g c =
    let i = c.self.inside in
    subst (λ (x : List ℕ). Begins x c.answer_line.new.out)
    (held-finished c.args.self.now i.held i.line (ap (λ (s : Session). s.held) c.self.view_is) c.if-self-gt0.true (search rules)).1
    c.answer_line.ensures.text

pub returns-in_ok-answer_line-clause-text : goal.returns-in_ok-answer_line-clause-text
returns-in_ok-answer_line-clause-text g c =
    let i = c.self.inside in
    subst (λ (x : List ℕ). Begins x c.answer_line.new.out)
    (held-finished c.args.self.now i.held i.line (ap (λ (s : Session). s.held) c.self.view_is) c.if-self-gt0.true (search rules)).1
    c.answer_line.ensures.text
