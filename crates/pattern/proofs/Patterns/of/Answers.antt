use Rattle.std.proofs.Common.{◌+◌, sym, subst, ◌∙◌, arith}
use Rattle.pattern.specs.declared.Patterns.{Patterns}
use Rattle.pattern.proofs.Laws.{total-few}
use Rattle.pattern.proofs.Listed.{Listing, list-start, list-stays, list-more, list_done}
use Rattle.pattern.proofs.Patterns.of.Goals.{in-Some, in_default}
use Rattle.pattern.proofs.Patterns.of.Goals as goal

pub loop-i-init : goal.loop-i-init
loop-i-init c = subst (λ (l : Patterns). Listing c.args.query.now c.args.update.now l.items l.count 0) (sym c.no_patterns-list.ensures) (list-start c.args.query.now c.args.update.now)

pub add-requires : goal.add-requires
add-requires c = omega (arith, c.loop-i.invariant.few, c.clause_total-i-end.ensures, total-few c.args.query.now c.args.update.now)

pub loop-i-preserved : goal.loop-i-preserved
loop-i-preserved c =
    let q = c.args.query.now in
    let u = c.args.update.now in
    let l = c.loop-i.list in
    let i = c.loop-i.i in
    elim c.match-clause_pattern.branch [
      | in-Some w ↦ subst (λ (m : Patterns). Listing q u m.items m.count (i + 1)) (sym (w.list-is ∙ w.add.ensures))
          (list-more q u l.items l.count i c.loop-i.invariant w.in-Some.p (omega (arith, c.clause_total-i-end.ensures)) (omega (arith, c.clause_total-i-end.ensures, total-few q u)) (sym w.in-Some.ensures))
      | in_default w ↦ subst (λ (m : Patterns). Listing q u m.items m.count (i + 1)) (sym w.list-is) (list-stays q u l.items l.count i c.loop-i.invariant (omega (arith, c.clause_total-i-end.ensures)) (sym w.in_default.ensures))
    ]

pub returns : goal.returns
returns c =
    let q = c.args.query.now in
    let u = c.args.update.now in
    list_done q u c.loop-i.list.items c.loop-i.list.count c.loop-i.i (omega (arith, c.clause_total-i-end.ensures)) c.loop-i.invariant
