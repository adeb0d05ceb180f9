-- The computed tables of this folder, as claims: every row of each of them holds. Assumes nothing: these are definitions.
use Rattle.lists.specs.Lists.{All}
use Rattle.meaning.specs.Examples as S
use Rattle.meaning.specs.Edges as E
use Rattle.meaning.specs.Paired as P
use Rattle.meaning.specs.Rings as R
use Rattle.meaning.specs.Nulls as N
use Rattle.meaning.specs.Outer as O
use Rattle.meaning.specs.Exactly as X

pub record Computed : Type 0 where
  -- patterns, rows, records and refusals from the texts of statements, and slips that they catch
  pub examples : All S.Holds S.examples
  pub slips : All S.Holds S.slips
  -- which clauses go
  pub one_class : S.Beside S.every_row S.one_class
  pub of_constants : S.Beside S.seven S.of_constants
  -- texts at the edge of what is accepted, with their refusals
  pub edges : All E.Holds E.table
  -- questions over two tables, and the rows that they read; tables that run round; nulls
  pub paired : All P.Holds P.table
  pub outer : All O.Holds O.table
  pub rings : All R.Holds R.table
  pub nulls : All N.Holds N.table
  -- which matched answers an update drops
  pub corrected : X.Hold X.corrected
  pub narrow : X.Hold X.narrow
  pub ends : X.Hold X.ends
  pub with_nulls : X.Hold X.nulls
  pub altered : X.Hold X.altered
  pub known : X.Hold X.known
  pub by_patterns : X.Hold X.by_patterns
