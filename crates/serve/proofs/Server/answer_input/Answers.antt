use Rattle.std.specs.Io.KnownBytes.{Appends}
use Rattle.std.proofs.lemmas.Result.{on_ok_weaker}
use Rattle.serve.specs.Input.{printed_last}
use Rattle.serve.proofs.Turning.{runs-on}
use Rattle.serve.proofs.Server.answer_input.Goals as goal

pub returns : goal.returns
returns g c =
    let a = c.in_ok-answer_all.ensures.feeds in
    let l = c.answer_last in
    on_ok_weaker l.result
    (λ (p : Appends (g.W.Write.contents c.answer_all.new.output) (g.W.Write.contents l.new.output) (printed_last c.answer_all.new.self)).
    (a.0, a.1, a.2, runs-on _ _ _ a.0 _ _ _ a.3 l.ensures.session p))
    l.ensures.printed
