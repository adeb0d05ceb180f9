use Rattle.std.proofs.Common.{ℕ, ◌<◌, List, get_or, ap, ◌∙◌, arith}
use Rattle.soundness.proofs.Packed.{table-at}
use Rattle.soundness.proofs.names.Digits.digit.Goals as goal

pub returns : goal.returns
returns c =
    let s = c.args.self.now in
    let b : c.args.b < 256 = omega arith in
    rw c.from.ensures (ap (λ (l : List ℕ). get_or l c.args.b 0) s.numbered ∙ table-at c.args.b b)
