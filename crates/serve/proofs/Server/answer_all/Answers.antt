use Rattle.std.proofs.Common.{◌≡◌, List, ℕ, [], ◌++◌, take, ap, ◌∙◌, subst, append-nil}
use Rattle.std.specs.Io.KnownBytes.{Consumes}
use Rattle.serve.proofs.Turning.{feeds-none, feeds-both, consumes-none, consumes-both, reads_more, part_reads, at-error}
use Rattle.serve.proofs.Server.answer_all.Goals as goal

-- before the first turn nothing is read
pub loop-init : goal.loop-init
loop-init g c = ([], consumes-none (g.R.Read.remaining c.args.input.now), feeds-none c.args.self.now _)

-- a turn reads some bytes more
pub loop-preserved : goal.loop-preserved
loop-preserved g c =
    let v = c.loop.invariant in
    let r = c.read_some in
    let bytes = take c.in_ok-got.got r.new.piece in (
      v.0 ++ bytes,
      consumes-both (g.R.Read.remaining c.args.input.now) (g.R.Read.remaining c.loop.input) (g.R.Read.remaining r.new.input) v.0 bytes v.1 c.in_ok-got.ensures.bytes,
      feeds-both _ _ _ v.0 bytes _ _ _ v.2 c.in_ok-answer_piece.ensures.feeds,
    )

-- the last turn reads none
pub returns-then-got-eq0-clause-feeds : goal.returns-then-got-eq0-clause-feeds
returns-then-got-eq0-clause-feeds g c =
    let v = c.loop.invariant in
    let r = c.read_some in
    let bytes : List ℕ = take c.in_ok-got.got r.new.piece in
    let none : v.0 ++ bytes ≡ v.0 = ap (λ (n : ℕ). v.0 ++ take n r.new.piece) c.if-got-eq0.true ∙ append-nil v.0 in (
      v.0,
      subst (Consumes (g.R.Read.remaining c.args.input.now) (g.R.Read.remaining r.new.input)) none
          (consumes-both (g.R.Read.remaining c.args.input.now) (g.R.Read.remaining c.loop.input) (g.R.Read.remaining r.new.input) v.0 bytes v.1 c.in_ok-got.ensures.bytes),
      c.in_ok-got.ensures.end c.if-got-eq0.true,
      v.2,
    )

pub returns-in_err-got-clause-reads : goal.returns-in_err-got-clause-reads
returns-in_err-got-clause-reads g c = at-error c.from_residual.result (c.loop.invariant.0, c.loop.invariant.2.session)

pub returns-in_err-answer_piece-clause-reads : goal.returns-in_err-answer_piece-clause-reads
returns-in_err-answer_piece-clause-reads g c =
    at-error c.from_residual-in_err-answer_piece.result (reads_more _ _ _ c.loop.invariant.0 (part_reads c.in_err-answer_piece.ensures.reads) c.loop.invariant.2.session)
