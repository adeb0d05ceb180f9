-- Pieces put at a writer's place, as far as there is room: what a method that does so leaves. Assumes nothing: these are definitions.
use Rattle.std.specs.Prelude.{◌≡◌, cond, List, map, ℕ, ◌-◌, eqb, ℤ}
use Rattle.lists.specs.Lists.{bytes, from}
use Rattle.meaning.specs.Record.{row_part, numbers_of}
use Rattle.statement.specs.Compiled.{of_table, of_query}
use Rattle.console.specs.declared.writer.Writer.{Writer}
use Rattle.console.specs.Room.{filled, filled_to}
use Rattle.console.specs.Printed.{rows_there}

-- the buffer is the same, the piece stands from the old place on, and the new place is behind it
pub record Puts {A : Type 0} (before : Writer A) (piece : List A) (after : Writer A) : Type 0 where
  pub same : after.out.ghost_name ≡ before.out.ghost_name
  pub place : after.place ≡ filled_to before.out.now before.place piece
  pub items : after.out.now ≡ filled before.out.now before.place piece

-- the rows that the bytes show, from row i on
abbrev pub rows_from : List ℕ → ℕ → List (List ℤ)
rows_from bs i = map (λ (k : ℕ). numbers_of (row_part bs k)) (from i (rows_there bs - i))

-- by the kind: a table, a question, else an update
abbrev pub kind_word : ℕ → List ℕ
kind_word kind = cond (eqb kind of_table) (bytes "table") (cond (eqb kind of_query) (bytes "query") (bytes "update"))
