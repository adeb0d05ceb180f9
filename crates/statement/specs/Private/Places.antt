-- What stands at a place of a text: the code notes where the tokens of a sentence start, and these definitions say what it has noted.
-- Assumes nothing: these are definitions.
use Rattle.std.specs.Prelude.{Bool, true, false, List, [], ◌∷◌, ◌++◌, map, ℕ, eqb, ℤ, drop}
use Rattle.std.proofs.Math.Option.{Option, none, some}
use Rattle.meaning.specs.Postfix.{Node, leaf, all_of, any_of}
use Rattle.meaning.specs.Tokens.{Name, Token, other, first_token}
use Rattle.meaning.specs.Grammar.{Given, constant, mark, Term, column, given, Dotted}
use Rattle.meaning.specs.Reader.{name_of, constant_of}
use Rattle.token.specs.Tokens.{token_at}
use Rattle.statement.specs.Operators.{predicate_at}
use Rattle.statement.specs.declared.conditions.Node.{Node as Noted}
use Rattle.statement.specs.declared.conditions.Node.TheVariants.{Comparison, And, Or}

-- the token that starts at a place, or `other`
abbrev pub first : Option (Token × List ℕ) → Token
first none = other
first (some x) = x.0

unfoldable pub token_on : List ℕ → ℕ → Token
token_on s p = first (first_token (drop p s))

-- a name, or none; a constant, or a question mark
abbrev pub or_empty : Option Name → Name
or_empty none = []
or_empty (some n) = n

abbrev pub or_mark : Option ℤ → Given
or_mark none = mark
or_mark (some z) = constant z

abbrev pub name_on : List ℕ → ℕ → Name
name_on s p = or_empty (name_of (token_on s p))

abbrev pub given_on : List ℕ → ℕ → Given
given_on s p = or_mark (constant_of (token_on s p))

-- a column as it is written: in a question over two tables dotted (A.1), elsewhere bare
abbrev pub Column : Bool → Type 0
Column false = Name
Column true = Dotted

-- the place behind the two tokens from p on: of a dotted column, behind its dot
abbrev pub behind_dot : List ℕ → ℕ → ℕ
behind_dot s p = (token_at s (token_at s p).next).next

abbrev pub column_on : (b : Bool) → List ℕ → ℕ → Column b
column_on false s p = name_on s p
column_on true s p = (name_on s p, name_on s (behind_dot s p))

abbrev pub or_given : {C : Type 0} → Given → C → Option Name → Term C
or_given v c none = given v
or_given v c (some n) = column c

abbrev pub term_on : (b : Bool) → List ℕ → ℕ → Term (Column b)
term_on b s p = or_given (given_on s p) (column_on b s p) (name_of (token_on s p))

-- a comparison as it is noted, where it stands under so many parentheses and NOTs: bare under none (A.6)
abbrev pub comparison_node : ℕ → ℕ → ℕ → ℕ → Noted
comparison_node depth op a b = Comparison op (eqb depth 0) a b

-- nodes that are noted; a null test notes its column twice
abbrev pub node_on : (d : Bool) → List ℕ → Noted → Node (Term (Column d))
node_on d s (Comparison op bare a b) = leaf (record { left = term_on d s a; op = predicate_at op; right = term_on d s b })
node_on d s And = all_of
node_on d s Or = any_of

abbrev pub nodes_on : (d : Bool) → List ℕ → List Noted → List (Node (Term (Column d)))
nodes_on d s = map (node_on d s)

-- A.6: for each comparison among them, whether it is noted as a bare one
abbrev pub bare_mark : Noted → List Bool
bare_mark (Comparison op bare a b) = bare ∷ []
bare_mark And = []
bare_mark Or = []

abbrev pub bare_marks_on : List Noted → List Bool
bare_marks_on [] = []
bare_marks_on (x ∷ xs) = bare_mark x ++ bare_marks_on xs
