-- What a reader of conditions has found, as against what the grammar's reader finds: the contracts of the cycle. Assumes nothing: these are definitions.
use Rattle.std.specs.Prelude.{◌≡◌, ◌≢◌, Bool, true, false, ◌||◌, cond, List, [], ◌∷◌, ◌++◌, ℕ, ◌+◌, ◌-◌, ◌*◌, ◌≤◌, ◌<◌, ltb, eqb, length, take, drop, Option as Maybe, Some, None}
use Rattle.std.proofs.Math.Option.{Option, none, some}
use Rattle.meaning.specs.Condition.{Level, atom, conjunction, disjunction, Tree, Condition, compare, negate, group, alone, both, single, either, mapped, comparisons, sides}
use Rattle.meaning.specs.Postfix.{nodes}
use Rattle.meaning.specs.Tokens as T
use Rattle.meaning.specs.Tokens.{tokens, rparen}
use Rattle.meaning.specs.Grammar.{Term, column, given, Test, comparison, Dotted}
use Rattle.meaning.specs.Reader.{Reader, then, done, a_name, a_dotted, a_term, a_null, a_comparison, a_condition, name_of}
use Rattle.meaning.specs.Limits.{most_text, most_name, most_depth, outside32, term_givens, mark_count}
use Rattle.token.specs.declared.Kind.{Kind}
use Rattle.token.specs.declared.Kind.TheVariants.{Name, Constant, Big, Mark, Eq, Ne, Lt, Le, Gt, Ge, Is, Null}
use Rattle.token.specs.declared.Token.{Token}
use Rattle.token.specs.Tokens.{token_at}
use Rattle.statement.specs.Operators.{opposite_of}
use Rattle.statement.specs.Compiled.{most_steps}
use Rattle.statement.specs.Private.Places.{token_on, Column, column_on, term_on, comparison_node, nodes_on, bare_marks_on}
use Rattle.statement.specs.declared.conditions.Cursor.{Cursor}
use Rattle.statement.specs.declared.conditions.Node.{Node as Noted}
use Rattle.statement.specs.declared.sides.Side.{Side}

-- ---- tokens by their kinds

-- a name of more than 12 bytes, or a constant outside 32 bits
unfoldable pub token_past : Kind → ℕ → ℕ → Bool
token_past Big start next = true
token_past Name start next = ltb most_name (next - start)
token_past _ start next = false

abbrev pub tokens_past : Token → Bool
tokens_past t = token_past t.kind t.start t.next

-- a name, a constant or a question mark
abbrev pub is_operand : Kind → Bool
is_operand Name = true
is_operand (Constant z) = true
is_operand Big = true
is_operand Mark = true
is_operand _ = false

-- the number of one of the six operators
abbrev pub operator_in : Kind → Maybe ℕ
operator_in Eq = Some 0
operator_in Ne = Some 1
operator_in Lt = Some 2
operator_in Le = Some 3
operator_in Gt = Some 4
operator_in Ge = Some 5
operator_in _ = None

-- the kinds of a column, where columns are bare, and of the word behind it in a null test (A.5)
abbrev pub is_name : Kind → Bool
is_name Name = true
is_name _ = false

abbrev pub is_is : Kind → Bool
is_is Is = true
is_is _ = false

-- how many question marks
abbrev pub marks_at : Kind → ℕ
marks_at Mark = 1
marks_at _ = 0

-- ---- cursors

-- the same, at another place
abbrev pub moved_to : ℕ → Cursor → Cursor
moved_to at c = record { over = c.over; dotted = c.dotted; nodes = c.nodes; marks = c.marks; at = at }

-- behind what ends at a place, and is past a limit or not
abbrev pub behind : ℕ → Bool → Cursor → Cursor
behind at past c = record { over = c.over || past; dotted = c.dotted; nodes = c.nodes; marks = c.marks; at = at }

-- one node more
abbrev pub with_node : Cursor → Cursor
with_node c = record { over = c.over; dotted = c.dotted; nodes = c.nodes + 1; marks = c.marks; at = c.at }

-- a comparison of the sides a and b read under `depth` parentheses and NOTs, before its node is noted
abbrev pub with_sides : ℕ → Side → Side → Cursor → Cursor
with_sides depth a b c =
    record {
      over = c.over || (ltb most_depth depth || (a.over || b.over));
      dotted = c.dotted;
      nodes = c.nodes;
      marks = c.marks + (a.marks + b.marks);
      at = b.next;
    }

-- the node is counted, and noted if there is room
pub record PutsNode (xs : List Noted) (c : Cursor) (node : Noted) (ys : List Noted) (r : Cursor) : Type 0 where
  pub counted : r ≡ with_node c
  pub noted : c.nodes < most_steps → take (c.nodes + 1) ys ≡ take c.nodes xs ++ (node ∷ [])

-- a side that ends at another place
abbrev pub ended_at : ℕ → Side → Side
ended_at next a = record { over = a.over; marks = a.marks; start = a.start; next = next; few = a.few }

-- A.5: the null test `op` of the column a was put if the token t is NULL
abbrev pub PutsNull : List Noted → Cursor → Bool → ℕ → Side → ℕ → Token → List Noted → Maybe Cursor → Type 0
PutsNull xs c positive depth a op t ys None = t.kind ≢ Null
PutsNull xs c positive depth a op t ys (Some r) =
    (t.kind ≡ Null) × PutsNode xs (with_sides depth a (ended_at t.next a) c) (comparison_node depth (cond positive op (opposite_of op)) a.start a.start) ys r

-- a place inside a text of at most 256 bytes, with no more counted than there are bytes before it
pub record Stands (s : List ℕ) (c : Cursor) : Type 0 where
  pub short : length s ≤ most_text
  pub inside : c.at ≤ length s
  pub few_nodes : c.nodes ≤ c.at
  pub few_marks : c.marks ≤ c.at

-- ---- what is read

-- an operand, a condition as it is written, and the reader of a column: dotted columns where b is true (A.1)
abbrev pub Operand : Bool → Type 0
Operand b = Term (Column b)

abbrev pub Written : Bool → Level → Type 0
Written b l = Tree (Test (Column b)) l

abbrev pub a_column : (b : Bool) → Reader (Column b)
a_column false = a_name
a_column true = a_dotted

-- past a limit by itself: a name of more than 12 bytes, of a dotted column either; a constant outside 32 bits; a comparison under more than 8 parentheses and NOTs
abbrev pub long_column : (b : Bool) → Column b → Bool
long_column false n = ltb most_name (length n)
long_column true c = ltb most_name (length c.0) || ltb most_name (length c.1)

abbrev pub term_past : (b : Bool) → Operand b → Bool
term_past b (column c) = long_column b c
term_past b (given v) = outside32 v

abbrev pub condition_past : (b : Bool) {l : Level} → ℕ → Condition (Operand b) l → Bool
condition_past b d (compare c) = ltb most_depth d || (term_past b c.left || term_past b c.right)
condition_past b d (negate c) = condition_past b (d + 1) c
condition_past b d (group c) = condition_past b (d + 1) c
condition_past b d (alone c) = condition_past b d c
condition_past b d (both c e) = condition_past b d c || condition_past b d e
condition_past b d (single c) = condition_past b d c
condition_past b d (either c e) = condition_past b d c || condition_past b d e

-- A.6: for each comparison whether it is bare, outside all parentheses and NOT, where the condition stands under d of them
abbrev pub bare_marks : {A : Type 0} {l : Level} → ℕ → Tree A l → List Bool
bare_marks d (compare c) = eqb d 0 ∷ []
bare_marks d (negate c) = bare_marks (d + 1) c
bare_marks d (group c) = bare_marks (d + 1) c
bare_marks d (alone c) = bare_marks d c
bare_marks d (both c e) = bare_marks d c ++ bare_marks d e
bare_marks d (single c) = bare_marks d c
bare_marks d (either c e) = bare_marks d c ++ bare_marks d e

abbrev pub marks_in : {C : Type 0} {l : Level} → Condition (Term C) l → ℕ
marks_in c = mark_count (term_givens (sides (comparisons c)))

-- ---- operands

-- r reads on from `at` up to the tokens `more`
pub record Spans (s : List ℕ) (at : ℕ) (r : Side) (more : List T.Token) : Type 0 where
  pub on : at < r.next
  pub within : r.next ≤ length s
  pub begun : r.start < r.next
  pub left : tokens (drop r.next s) ≡ more

-- the dotted column x stands there
pub record IsDotted (s : List ℕ) (r : Side) (x : Dotted) : Type 0 where
  pub here : column_on true s r.start ≡ x
  pub named : name_of (token_on s r.start) ≡ some x.0
  pub over : r.over ≡ long_column true x
  pub marks : r.marks ≡ 0

-- the operand x stands there
pub record IsOperand (b : Bool) (s : List ℕ) (r : Side) (x : Operand b) : Type 0 where
  pub here : term_on b s r.start ≡ x
  pub over : r.over ≡ term_past b x
  pub marks : r.marks ≡ mark_count (term_givens (x ∷ []))

-- r is what the grammar's reader finds from `at` on
abbrev pub Sides : {A : Type 0} → List ℕ → ℕ → Maybe Side → (Side → A → Type 0) → Option (A × List T.Token) → Type 0
Sides s at None Q none = Unit {0}
Sides s at None Q (some x) = ⊥
Sides s at (Some r) Q none = ⊥
Sides s at (Some r) Q (some x) = Spans s at r x.1 × Q r x.0

-- a dotted column, and an operand, whose first token is `first`
abbrev pub ReadsDotted : List ℕ → Token → Maybe Side → Type 0
ReadsDotted s first r = (at : ℕ) → first ≡ token_at s at → Sides s at r (IsDotted s) (a_dotted (tokens (drop at s)))

abbrev pub ReadsSide : Bool → List ℕ → Token → Maybe Side → Type 0
ReadsSide b s first r = (at : ℕ) → first ≡ token_at s at → Sides s at r (IsOperand b s) (a_term (a_column b) (tokens (drop at s)))

-- ---- conditions

-- a condition t was read from c on, up to r, before the tokens `more`: counted, and noted if there was room; each node takes a byte or more
pub record Found (b : Bool) {l : Level} (s : List ℕ) (positive : Bool) (depth : ℕ) (c : Cursor) (xs : List Noted) (r : Cursor) (ys : List Noted) (t : Written b l) (more : List T.Token) : Type 0 where
  pub dotted : r.dotted ≡ b
  pub moved : c.at < r.at
  pub stands : Stands s r
  pub left : tokens (drop r.at s) ≡ more
  pub over : r.over ≡ (c.over || condition_past b depth (mapped comparison t))
  pub nodes_are : r.nodes ≡ c.nodes + length (nodes positive (mapped comparison t))
  pub marks_are : r.marks ≡ c.marks + marks_in (mapped comparison t)
  pub noted : r.nodes ≤ most_steps → nodes_on b s (take r.nodes ys) ≡ nodes_on b s (take c.nodes xs) ++ nodes positive (mapped comparison t)
  pub bare : r.nodes ≤ most_steps → bare_marks_on (take r.nodes ys) ≡ bare_marks_on (take c.nodes xs) ++ bare_marks depth (mapped comparison t)
  pub spread : r.nodes + c.at ≤ c.nodes + r.at

-- r and ys are what the grammar's reader finds
abbrev pub Meets : (b : Bool) {l : Level} → List ℕ → Bool → ℕ → Cursor → List Noted → Maybe Cursor → List Noted → Option (Written b l × List T.Token) → Type 0
Meets b s positive depth c xs None ys none = Unit {0}
Meets b s positive depth c xs None ys (some x) = ⊥
Meets b s positive depth c xs (Some r) ys none = ⊥
Meets b s positive depth c xs (Some r) ys (some x) = Found b s positive depth c xs r ys x.0 x.1

-- A.5: the column a was read from c on, and IS behind it, up to `at`
pub record Reaches (s : List ℕ) (c : Cursor) (a : Side) (at : ℕ) : Type 0 where
  pub on : c.at < at
  pub within : at ≤ length s
  pub begun : a.start ≤ at
  pub unmarked : a.marks ≡ 0

-- what follows IS makes a null test of that column
abbrev pub TestsNull : List ℕ → Bool → ℕ → Cursor → List Noted → Side → ℕ → Maybe Cursor → List Noted → Type 0
TestsNull s positive depth c xs a at r ys =
    (b : Bool) → c.dotted ≡ b → (x : Column b) → IsOperand b s a (column x)
    → Meets b s positive depth c xs r ys (then (a_null (a_column b) x (tokens (drop at s))) (λ t. done (compare t)))

abbrev pub Compares : List ℕ → Bool → ℕ → Cursor → List Noted → Maybe Cursor → List Noted → Type 0
Compares s positive depth c xs r ys = (b : Bool) → c.dotted ≡ b → Meets b s positive depth c xs r ys (a_comparison (a_column b) (tokens (drop c.at s)))

abbrev pub rank : Level → ℕ
rank atom = 1
rank conjunction = 2
rank disjunction = 3

-- with calls enough for the text that is left
abbrev pub Reads : Level → List ℕ → Bool → ℕ → Cursor → List Noted → Maybe Cursor → List Noted → Type 0
Reads l s positive depth c xs r ys =
    (b : Bool) → c.dotted ≡ b → (n : ℕ) → 3 * (length s - c.at) + rank l ≤ n → Meets b s positive depth c xs r ys (a_condition (a_column b) n l (tokens (drop c.at s)))
