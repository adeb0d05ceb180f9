use Rattle.std.proofs.Common.{List, ℕ, [], ◌++◌, ◌-◌, length, take, drop, refl, sym, ap, ◌∙◌, append_assoc}
use Rattle.serve.proofs.Turning.{taken-on, feeds-none, feeds-both, part_more, at-error}
use Rattle.serve.proofs.Server.answer_piece.Goals as goal

-- before the first turn nothing is used up
pub loop-rest-init : goal.loop-rest-init
loop-rest-init g c = ([], refl, feeds-none c.args.self.now _)

-- a turn uses up some bytes more
pub loop-rest-preserved : goal.loop-rest-preserved
loop-rest-preserved g c =
    let v = c.loop-rest.invariant in
    let n = c.in_ok-next.next in
    let rest = c.loop-rest.rest.now in (
      v.0 ++ take n rest,
      v.1 ∙ ap (λ (x : List ℕ). v.0 ++ x) (sym (taken-on n rest)) ∙ sym (append_assoc v.0 (take n rest) (take (length rest - n) (drop n rest))),
      feeds-both _ _ _ v.0 (take n rest) _ _ _ v.2 c.in_ok-next.ensures.feeds,
    )

pub returns-in_err-next-clause-reads : goal.returns-in_err-next-clause-reads
returns-in_err-next-clause-reads g c = at-error c.from_residual.result (part_more _ c.loop-rest.invariant.1 c.loop-rest.invariant.2.session c.in_err-next.ensures.reads)
