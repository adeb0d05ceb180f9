-- The tables of specs/Computed, all of them. Assumes nothing.
use Rattle.meaning.specs.Examples.{one-class-hold, of-constants-hold}
use Rattle.meaning.specs.Exactly.{corrected-hold, narrow-hold, ends-hold, nulls-hold, altered-hold, known-hold, by-patterns-hold}
use Rattle.meaning.specs.Computed.{Computed}
use Rattle.meaning.proofs.ExamplesHold.{starred, caught}
use Rattle.meaning.proofs.EdgesHold as E
use Rattle.meaning.proofs.PairedHold as P
use Rattle.meaning.proofs.OuterHold as O
use Rattle.meaning.proofs.RingsHold as R
use Rattle.meaning.proofs.NullsHold as N

pub computed : Computed
computed = record {
  examples = starred;
  slips = caught;
  one_class = one-class-hold;
  of_constants = of-constants-hold;
  edges = E.all_hold;
  paired = P.all_hold;
  outer = O.all_hold;
  rings = R.all_hold;
  nulls = N.all_hold;
  corrected = corrected-hold;
  narrow = narrow-hold;
  ends = ends-hold;
  with_nulls = nulls-hold;
  altered = altered-hold;
  known = known-hold;
  by_patterns = by-patterns-hold;
}
