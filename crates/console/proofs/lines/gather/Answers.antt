use Rattle.std.proofs.Common.{take, sym, ap, ap₂, ◌∙◌, rules, length}
use mir.Val.{bool_byte}
use Rattle.std.specs.Prelude.{position, unwrap_or, is_some}
use Rattle.console.specs.Lines.{is_newline, line_from}
use Rattle.console.specs.Room.{filled_to}
use Rattle.console.specs.Private.Pieces.{Puts}
use Rattle.console.proofs.Puttings.{puts-as}
use Rattle.console.proofs.Gathering.{piece_is, gathered}
use Rattle.console.proofs.lines.gather.Goals as goal

pub returns-clause-result : goal.returns-clause-result
returns-clause-result c =
    let rest = c.rest_of-rest.ensures in
    let end = c.line_end-end.ensures ∙ ap (position is_newline) rest in
    let n = c.unwrap_or-size.ensures ∙ ap₂ unwrap_or end (ap length rest) in
    let p : Puts c.at-gathered.result (line_from c.args.input.now c.args.from) c.put_all.new.self = puts-as (ap (take c.unwrap_or-size.result) rest ∙ piece_is c.args.input.now c.args.from c.args.line.now c.args.held _ n) c.put_all.ensures in
    gathered c.args.input.now c.args.from c.args.line.now c.args.held c.unwrap_or-size.result n _ _ _
    (p.place ∙ ap₂ (λ l k. filled_to l k (line_from c.args.input.now c.args.from)) c.at-gathered.ensures.out c.at-gathered.ensures.place)
    (c.is_some-2.ensures ∙ ap is_some end) (c.from.ensures ∙ ap bool_byte (c.is_some.ensures ∙ sym c.is_some-2.ensures))

pub returns-clause-bytes : goal.returns-clause-bytes
returns-clause-bytes c =
    let rest = c.rest_of-rest.ensures in
    let end = c.line_end-end.ensures ∙ ap (position is_newline) rest in
    let n = c.unwrap_or-size.ensures ∙ ap₂ unwrap_or end (ap length rest) in
    let p : Puts c.at-gathered.result (line_from c.args.input.now c.args.from) c.put_all.new.self = puts-as (ap (take c.unwrap_or-size.result) rest ∙ piece_is c.args.input.now c.args.from c.args.line.now c.args.held _ n) c.put_all.ensures in
    search rules
