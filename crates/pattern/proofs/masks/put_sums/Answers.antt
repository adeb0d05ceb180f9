use Rattle.std.proofs.Common.{◌+◌, ◌<◌, get_or, arith}
use lib.ListN.{length-set}
use Rattle.lists.proofs.Places.{All-at}
use Rattle.pattern.proofs.Sums.{row_more}
use Rattle.pattern.proofs.masks.put_sums.Goals as goal

pub overflow_add-out : goal.overflow_add-out
overflow_add-out c =
    let h : c.args.mask + get_or c.args.masks.now c.loop-j.j 0 < 256 = All-at c.loop-j.j 0 (omega arith) c.requires.2 in
    omega arith

pub loop-j-preserved : goal.loop-j-preserved
loop-j-preserved c =
    let a = c.args in
    let l = c.loop-j in
    (simp length-set l.invariant.0, row_more a.out.now a.at a.mask a.masks.now (omega arith) l.j l.out (omega arith) l.invariant.1)
