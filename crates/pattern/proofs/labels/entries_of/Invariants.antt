use Rattle.std.proofs.Common.{◌≡◌, map, length, replicate}
use lib.Seq.{paste}
use Rattle.pattern.specs.declared.Entry.TheVariants.{Any}
use Rattle.pattern.proofs.Labelling.{entry_at}
use Rattle.pattern.proofs.labels.entries_of.Given as goal

abbrev pub invariant-loop-k : goal.invariant-loop-k
invariant-loop-k l = (length l.entries ≡ 8) × (l.entries ≡ paste (replicate 8 Any) 0 (map entry_at l.labels) l.k)
