-- Which plain store a state and its cells stand for: document 01, "The plain store". Its tables are read off the state and the cells; its statements agree with the stored
-- ones in every used entry, which fixes their table, columns, marks, truth and clauses. That there are sentences behind them, which refusals 4 to 8 let pass, is claimed of every
-- sound state (`Demand.StandsForPlain`). Assumes nothing: these are definitions.
use Rattle.std.specs.Prelude.{◌≡◌, List, [], ◌∷◌, ℕ, ◌+◌, ◌*◌, ℤ, length, Some}
use Rattle.lists.specs.Lists.{All}
use Rattle.meaning.specs.Plain as P
use Rattle.meaning.specs.Plain.{Plain}
use Rattle.statement.specs.declared.Table.{Table}
use Rattle.statement.specs.Catalog.{schema_of}
use Rattle.statement.specs.Sound.{AgreesQuery, AgreesUpdate, QueryFits, UpdateFits, TableStructFits}
use Rattle.table.specs.Rows.{rows_used}
use Rattle.slots.specs.declared.Key.{Key}
use Rattle.cache.specs.declared.Note.{Note}
use Rattle.cache.specs.declared.State.{State}
use Rattle.cache.specs.Sound.{used_tables, used_queries, used_updates, pending_in, note_in}

-- the tables, the area of the first of them starting there: what its TABLE text says, and its rows
abbrev pub tables_from : ℕ → List Table → List ℤ → List P.Table
tables_from start [] cells = []
tables_from start (t ∷ ts) cells = record { schema = schema_of t; rows = rows_used t start cells } ∷ tables_from (start + t.count * t.capacity) ts cells

abbrev pub tables_in : State → List ℤ → List P.Table
tables_in s cells = tables_from 0 (used_tables s) cells

-- as many, and each the compiled form of the other
pub data Pairwise {A B : Type 0} (R : A → B → Type 0) : List A → List B → Type 0 where
  nil : Pairwise R [] []
  cons : {x : A} {y : B} {xs : List A} {ys : List B} → R x y → Pairwise R xs ys → Pairwise R (x ∷ xs) (y ∷ ys)

pub record Means (s : State) (cells : List ℤ) (p : Plain) : Type 0 where
  pub cells_are : p.lengths.cells ≡ s.cells
  pub memory_is : p.lengths.memory ≡ s.memory
  pub tables_are : p.tables ≡ tables_in s cells
  pub queries_are : Pairwise AgreesQuery (used_queries s) p.queries
  pub updates_are : Pairwise AgreesUpdate (used_updates s) p.updates
  pub note_is : p.pending ≡ pending_in s

-- what the types of a state say: the lengths of its arrays, and 32 bits of constants
pub record Typed (s : State) : Type 0 where
  pub eight_tables : length s.tables ≡ 8
  pub sixteen_queries : length s.queries ≡ 16
  pub sixteen_updates : length s.updates ≡ 16
  pub keys-64 : length s.keys ≡ 64
  pub lengths-64 : length s.lengths ≡ 64
  pub order-64 : length s.slots.order ≡ 64
  pub tables_fit : All TableStructFits s.tables
  pub queries_fit : All QueryFits s.queries
  pub updates_fit : All UpdateFits s.updates
  pub keys_fit : All (λ (k : Key). length k.values ≡ 8) s.keys
  pub note_fits : (n : Note) → note_in s ≡ Some n → length n.values ≡ 8
