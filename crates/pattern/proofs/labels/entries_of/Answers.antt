use Rattle.std.proofs.Common.{arith}
use lib.ListN.{length-set}
use Rattle.lists.proofs.Places.{All-at}
use Rattle.pattern.proofs.Labelling.{entries-more, entries-done}
use Rattle.pattern.proofs.labels.entries_of.Goals as goal

pub entry_of-requires : goal.entry_of-requires
entry_of-requires c = All-at c.loop-k.k 0 (omega arith) c.requires.1

pub loop-k-preserved : goal.loop-k-preserved
loop-k-preserved c =
    let l = c.loop-k in
    (simp length-set l.invariant.0, entries-more c.args.labels.now c.requires.0 l.k l.entries c.entry_of.result (omega arith) c.entry_of.ensures l.invariant.1)

pub returns : goal.returns
returns c =
    let l = c.loop-k in
    entries-done c.args.labels.now c.requires.0 l.k l.entries (omega arith) l.invariant.1
