use Rattle.std.proofs.Common.{List, ℕ}
use Rattle.std.specs.Io.KnownBytes.{Consumes, IsAtEnd}
use Rattle.std.proofs.lemmas.Result.{on_ok_weaker}
use Rattle.serve.specs.Private.Turns.{Runs}
use Rattle.serve.proofs.Turning.{serves-lines}
use Rattle.serve.proofs.serve.Goals as goal

pub returns : goal.returns
returns g c =
    let o = c.open-server.ensures in
    let a = c.answer_input in
    on_ok_weaker a.result
    (λ (h : (bytes : List ℕ) × Consumes (g.R.Read.remaining c.args.input.now) (g.R.Read.remaining a.new.input) bytes × IsAtEnd (g.R.Read.remaining a.new.input)
    × Runs c.open-server.result bytes a.new.self (g.W.Write.contents c.args.output.now) (g.W.Write.contents a.new.output)).
    (o.0, o.1, h.0, o.2, h.1, h.2, serves-lines o.0 o.1 _ _ h.0 _ _ o.3 h.3))
    a.ensures
