use Rattle.std.proofs.Common.{sym, subst}
use Rattle.pattern.specs.Private.Pairs.{Paired}
use Rattle.pattern.proofs.JointClauses.{query-unformed, update-unformed, too-many, now-paired}
use Rattle.pattern.proofs.relevance.Pair.pairing.Goals as goal

pub returns-in_err-query : goal.returns-in_err-query
returns-in_err-query c =
    let s = c.args.self in
    subst (Paired s.query.now s.update.now) (sym c.from_residual.ensures) (query-unformed s.query.now s.update.now c.in_err-query.ensures)

pub returns-in_err-update : goal.returns-in_err-update
returns-in_err-update c =
    let s = c.args.self in
    subst (Paired s.query.now s.update.now) (sym c.from_residual-in_err-update.ensures) (update-unformed s.query.now s.update.now c.in_ok-query.ensures.0 c.in_err-update.ensures)

pub returns-then-total : goal.returns-then-total
returns-then-total c =
    let s = c.args.self in
    let f = c.in_ok-query.ensures in
    let g = c.in_ok-update.ensures in
    too-many s.query.now s.update.now c.in_ok-query.query c.in_ok-update.update c.total_of-total.result f.0 g.0 f.1 g.1 c.total_of-total.ensures c.if-total.true

pub returns : goal.returns
returns c =
    let s = c.args.self in
    let f = c.in_ok-query.ensures in
    let g = c.in_ok-update.ensures in
    now-paired s.query.now s.update.now c.in_ok-query.query c.in_ok-update.update c.total_of-total.result f.0 g.0 f.1 g.1 c.total_of-total.ensures c.if-total.false
