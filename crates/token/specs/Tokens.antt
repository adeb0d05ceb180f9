-- A token's kind, with a constant's value, and its place in the text. Assumes nothing: these are definitions.
use Rattle.std.specs.Prelude.{cond, List, ℕ, ◌-◌, length, drop}
use Rattle.std.proofs.Math.Option.{none, some}
use Rattle.lists.specs.Lists.{drop_while}
use Rattle.meaning.specs.Operator.{Operator, eq, ne, lt, le, gt, ge}
use Rattle.meaning.specs.Tokens as M
use Rattle.meaning.specs.Tokens.{Keyword, TABLE, ROWS, SELECT, FROM, WHERE, INSERT, INTO, VALUES, UPDATE, SET, DELETE, AND, OR, NOT, RING, IS, NULL, keyword, name, constant, operator, mark, comma, lparen, rparen, dot, other, is_space, first_token}
use Rattle.meaning.specs.Limits.{is_within32}
use Rattle.token.specs.declared.Kind.{Kind}
use Rattle.token.specs.declared.Kind.TheVariants.{End, Other, Name, Constant, Big, Mark, Comma, Open, Close, Eq, Ne, Lt, Le, Gt, Ge, Table, Rows, Select, From, Where, Insert, Into, Values, Update, Set, Delete, And, Or, Not, Dot, Ring, Is, Null}
use Rattle.token.specs.declared.Token.{Token}

-- the kinds of the comparisons and of the keywords
abbrev pub operator_kind : Operator → Kind
operator_kind eq = Eq
operator_kind ne = Ne
operator_kind lt = Lt
operator_kind le = Le
operator_kind gt = Gt
operator_kind ge = Ge

abbrev pub keyword_kind : Keyword → Kind
keyword_kind TABLE = Table
keyword_kind ROWS = Rows
keyword_kind SELECT = Select
keyword_kind FROM = From
keyword_kind WHERE = Where
keyword_kind INSERT = Insert
keyword_kind INTO = Into
keyword_kind VALUES = Values
keyword_kind UPDATE = Update
keyword_kind SET = Set
keyword_kind DELETE = Delete
keyword_kind AND = And
keyword_kind OR = Or
keyword_kind NOT = Not
keyword_kind RING = Ring
keyword_kind IS = Is
keyword_kind NULL = Null

-- the kind: `End` is the end of the text, which is no token
abbrev pub kind_of : M.Token → Kind
kind_of other = Other
kind_of (name n) = Name
kind_of (constant z) = cond (is_within32 z) (Constant z) Big
kind_of mark = Mark
kind_of comma = Comma
kind_of lparen = Open
kind_of rparen = Close
kind_of (operator o) = operator_kind o
kind_of (keyword k) = keyword_kind k
kind_of dot = Dot

abbrev pub made : Kind → ℕ → ℕ → Token
made kind start next = record { kind = kind; start = start; next = next }

-- the token t, which starts at `start` and ends before `next`
unfoldable pub token_of : M.Token → ℕ → ℕ → Token
token_of t start next = made (kind_of t) start next

-- the first token from `at` on: it starts behind the spaces, and the text goes on with what it leaves
unfoldable pub token_at : List ℕ → ℕ → Token
token_at s at =
    elim (first_token (drop at s)) [
      | none ↦ made End (length s) (length s)
      | some x ↦ token_of x.0 (length s - length (drop_while is_space (drop at s))) (length s - length x.1)
    ]
