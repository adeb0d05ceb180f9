use Rattle.std.proofs.Common.{rules, ◌≡◌, length}
use Rattle.serve.proofs.Turning.{gathers-moves, gathers-inside, gathers-within, line-goes_on, line-fed, line-ends, turn-goes_on, turn-ends, at-error}
use Rattle.serve.proofs.Server.answer_next.Goals as goal

pub invariant_of-self : goal.invariant_of-self
invariant_of-self g c =
    let i = c.self.inside in
    let q = c.gather-gathered in
    let long : length i.line ≡ 513 = search rules in
    gathers-within c.args.piece.now i.line i.held q.result q.new.line q.ensures.result q.ensures.bytes c.self.invariant long

pub invariant_of-self-else-gathered : goal.invariant_of-self-else-gathered
invariant_of-self-else-gathered g c =
    let i = c.self.inside in
    let q = c.gather-gathered in
    let long : length i.line ≡ 513 = search rules in
    gathers-within c.args.piece.now i.line i.held q.result q.new.line q.ensures.result q.ensures.bytes c.self.invariant long

pub returns-in_err-answer_line-clause-reads : goal.returns-in_err-answer_line-clause-reads
returns-in_err-answer_line-clause-reads g c =
    let i = c.self.inside in
    let q = c.gather-gathered in
    let long : length i.line ≡ 513 = search rules in
    at-error c.from_residual.result (record {
      used = q.result.next;
      inside = gathers-inside c.args.piece.now i.line i.held q.result q.new.line q.ensures.result q.ensures.bytes c.self.invariant long;
      session =
          line-fed i.state i.cells i.memory i.answer i.line i.held c.args.self.now c.self.view_is c.args.piece.now q.result q.new.line q.ensures.result q.ensures.bytes c.self.invariant long
          c.if-gathered.true _ c.answer_line.ensures.session;
    })

pub returns-in_ok-answer_line-clause-used : goal.returns-in_ok-answer_line-clause-used
returns-in_ok-answer_line-clause-used g c =
    let i = c.self.inside in
    let q = c.gather-gathered in
    let long : length i.line ≡ 513 = search rules in
    (gathers-moves c.args.piece.now i.line i.held q.result q.new.line q.ensures.result q.ensures.bytes c.self.invariant long c.requires, gathers-inside c.args.piece.now i.line i.held q.result q.new.line q.ensures.result q.ensures.bytes c.self.invariant long)

pub returns-else-gathered-clause-used : goal.returns-else-gathered-clause-used
returns-else-gathered-clause-used g c =
    let i = c.self.inside in
    let q = c.gather-gathered in
    let long : length i.line ≡ 513 = search rules in
    (gathers-moves c.args.piece.now i.line i.held q.result q.new.line q.ensures.result q.ensures.bytes c.self.invariant long c.requires, gathers-inside c.args.piece.now i.line i.held q.result q.new.line q.ensures.result q.ensures.bytes c.self.invariant long)

pub returns-in_ok-answer_line-clause-feeds : goal.returns-in_ok-answer_line-clause-feeds
returns-in_ok-answer_line-clause-feeds g c =
    let i = c.self.inside in
    let q = c.gather-gathered in
    let long : length i.line ≡ 513 = search rules in
    line-ends i.state i.cells i.memory i.answer i.line i.held c.args.self.now c.self.view_is c.args.piece.now q.result q.new.line q.ensures.result q.ensures.bytes c.self.invariant long
    c.if-gathered.true _ c.answer_line.ensures.session _ _ c.in_ok-answer_line.ensures.printed

pub returns-else-gathered-clause-feeds : goal.returns-else-gathered-clause-feeds
returns-else-gathered-clause-feeds g c =
    let i = c.self.inside in
    let q = c.gather-gathered in
    let long : length i.line ≡ 513 = search rules in
    line-goes_on i.state i.cells i.memory i.answer i.line i.held c.args.self.now c.self.view_is c.args.piece.now q.result q.new.line q.ensures.result q.ensures.bytes c.self.invariant long
    c.if-gathered.false _

pub returns-in_err-answer_line-clause-turn : goal.returns-in_err-answer_line-clause-turn
returns-in_err-answer_line-clause-turn g c =
    let i = c.self.inside in
    let q = c.gather-gathered in
    let long : length i.line ≡ 513 = search rules in
    turn-ends i.state i.cells i.memory i.answer i.line i.held c.args.self.now c.self.view_is c.args.piece.now q.result q.new.line q.ensures.result q.ensures.bytes c.self.invariant long c.requires c.answer_line.new.out c.if-gathered.true _
    c.answer_line.ensures.session c.answer_line.ensures.text

pub returns-in_ok-answer_line-clause-turn : goal.returns-in_ok-answer_line-clause-turn
returns-in_ok-answer_line-clause-turn g c =
    let i = c.self.inside in
    let q = c.gather-gathered in
    let long : length i.line ≡ 513 = search rules in
    turn-ends i.state i.cells i.memory i.answer i.line i.held c.args.self.now c.self.view_is c.args.piece.now q.result q.new.line q.ensures.result q.ensures.bytes c.self.invariant long c.requires c.answer_line.new.out c.if-gathered.true _
    c.answer_line.ensures.session c.answer_line.ensures.text

pub returns-else-gathered-clause-turn : goal.returns-else-gathered-clause-turn
returns-else-gathered-clause-turn g c =
    let i = c.self.inside in
    let q = c.gather-gathered in
    let long : length i.line ≡ 513 = search rules in
    turn-goes_on i.state i.cells i.memory i.answer i.line i.held c.args.self.now c.self.view_is c.args.piece.now q.result q.new.line q.ensures.result q.ensures.bytes c.self.invariant long c.requires _ c.if-gathered.false
