-- A dotted column of a list (A.1), as it is read. Assumes nothing.
use mathlib.Core.Path.{◌≡◌, refl, sym, ap}
use mathlib.Core.Bool.{◌||◌}
use Rattle.std.specs.Prelude.{Option as Maybe, Some, None}
use mathlib.Core.List.{List}
use Prim.Native.Nat.{ℕ}
use native.Mathlib.Nat.{add-zero}
use native.Mathlib.Omega.{arith}
use lib.ListN.{drop}
use Rattle.meaning.specs.Tokens.{tokens}
use Rattle.meaning.specs.Reader.{a_dotted}
use Rattle.statement.specs.declared.conditions.Cursor.{Cursor}
use Rattle.statement.specs.declared.sides.Side.{Side}
use Rattle.statement.specs.Private.Reading.{Stands, IsDotted, Sides}
use Rattle.statement.specs.Private.Sentences.{Columns}
use Rattle.statement.proofs.Comparisons.{Reached, side-none, side}
use Rattle.statement.proofs.SentenceReaders.{finds-none, finds}

module _ (s : List ℕ) (c : Cursor) where
  pub column-none : Sides s c.at None (IsDotted s) (a_dotted (tokens (drop c.at s))) → (r : Maybe (Cursor × ℕ)) → r ≡ None → Columns s c r
  column-none k r e = finds-none e (side-none s c.at (IsDotted s) (a_dotted (tokens (drop c.at s))) k)

  module _ (d : Side) (k : Sides s c.at (Some d) (IsDotted s) (a_dotted (tokens (drop c.at s)))) where
    reached : Reached s c.at d (IsDotted s d) (a_dotted (tokens (drop c.at s)))
    reached = side s c.at (IsDotted s) d (a_dotted (tokens (drop c.at s))) k

    -- the cursor behind the column
    abbrev pub behind : Cursor
    behind = record { over = c.over || d.over; dotted = c.dotted; nodes = c.nodes; marks = c.marks; at = d.next }

    pub column-found : Stands s c → Columns s c (Some (behind, d.start))
    column-found st =
        let m = reached in
        let w = m.spans in
        finds m.value (tokens (drop d.next s)) m.found
        (record {
          stands = record { short = st.short; inside = w.within; few_nodes = omega (arith, st.few_nodes, w.on); few_marks = omega (arith, st.few_marks, w.on) };
          left = refl;
        }) (
          record {
            dotted = refl;
            moved = w.on;
            over = ap (λ b. c.over || b) m.is.over;
            marks_are = sym (add-zero c.marks);
            nodes_are = refl;
          },
          m.is.here,
        )
