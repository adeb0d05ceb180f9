-- What the readers of the forms have found, as against what the grammar's readers find: their contracts. Assumes nothing: these are definitions.
use Rattle.std.specs.Prelude.{◌≡◌, Bool, true, false, not, ◌&&◌, ◌||◌, List, [], ◌∷◌, ◌++◌, map, ℕ, ◌+◌, ◌-◌, ◌*◌, ◌/◌, ◌≤◌, ◌<◌, ltb, ℤ, pos, length, take, drop, Option as Maybe, Some, None}
use Rattle.std.proofs.Math.Option.{Option, none, some}
use Rattle.std.specs.Int.Signed.{le_z, lt_z}
use Rattle.lists.specs.Lists.{any}
use Rattle.meaning.specs.Condition.{Optional, Where, always, under, mapped_in, operands_in}
use Rattle.meaning.specs.Postfix.{nodes_in}
use Rattle.meaning.specs.Tokens as T
use Rattle.meaning.specs.Operator.{eq}
use Rattle.meaning.specs.Tokens.{Name, Token, Keyword, FROM, INTO, VALUES, SET, keyword, operator, comma, lparen, rparen, tokens}
use Rattle.meaning.specs.Grammar.{Given, comparison, Dotted, items, Sentence, table, select, pair, insert, update, delete}
use Rattle.meaning.specs.Reader.{Reader, expect, constant_of, a_token, a_name, a_dotted, a_given, a_setting, a_list, a_size_word, a_where, a_delete, a_sentence}
use Rattle.meaning.specs.Limits.{most_name, most_rows, most_items, most_marks, most_comparisons, table_named, where_of, term_givens, mark_count, givens, outside32, past_limit}
use Rattle.token.specs.declared.Kind.{Kind}
use Rattle.token.specs.declared.Kind.TheVariants.{End, Constant, Big, Mark, Comma, Open, Close, Eq, Rows, From, Into, Values, Set, Ring}
use Rattle.token.specs.declared.Token.{Token as Read}
use Rattle.token.specs.Tokens.{token_at}
use Rattle.statement.specs.Compiled.{most_steps}
use Rattle.statement.specs.Private.Places.{token_on, name_on, given_on, column_on, nodes_on, bare_marks_on}
use Rattle.statement.specs.Private.Reading.{Stands, Operand, a_column, long_column, condition_past, bare_marks}
use Rattle.statement.specs.declared.conditions.Cursor.{Cursor}
use Rattle.statement.specs.declared.conditions.Node.{Node}
use Rattle.statement.specs.declared.sentences.Item.{Item}
use Rattle.statement.specs.declared.sentences.Contents.{Contents}
use Rattle.statement.specs.declared.sentences.Contents.TheVariants.{Names as names, Values as values, Settings as settings, Columns as columns}
use Rattle.statement.specs.declared.sentences.Form.{Form}
use Rattle.statement.specs.declared.sentences.Form.TheVariants.{Table, Select, Insert, Update, Delete, Pair}
use Rattle.statement.specs.declared.sentences.Entry.{Entry}

-- ---- what is noted of a list

abbrev pub names_on : List ℕ → List Item → List Name
names_on s = map (λ i. name_on s i.name)

abbrev pub dotted_on : List ℕ → List Item → List Dotted
dotted_on s = map (λ i. column_on true s i.name)

abbrev pub givens_on : List ℕ → List Item → List Given
givens_on s = map (λ i. given_on s i.value)

-- ---- a reader in the code beside one of the grammar

-- r stands before the tokens `more`
pub record Before (s : List ℕ) (r : Cursor) (more : List Token) : Type 0 where
  pub stands : Stands s r
  pub left : tokens (drop r.at s) ≡ more

-- the code's reader finds nothing where the grammar's finds nothing; else it ends where that ends, and Q holds of what both find
abbrev pub Agree : {A B : Type 0} → List ℕ → (B → Cursor) → (B → A → Type 0) → Maybe B → Option (A × List Token) → Type 0
Agree s place Q None none = Unit {0}
Agree s place Q None (some x) = ⊥
Agree s place Q (Some r) none = ⊥
Agree s place Q (Some r) (some x) = Before s (place r) x.1 × Q r x.0

pub record Takes {A B : Type 0} (s : List ℕ) (place : B → Cursor) (Q : B → A → Type 0) (r : Maybe B) (o : Option (A × List Token)) : Type 0 where
  pub agrees : Agree s place Q r o

-- the same of readers that are given c; what the code's finds is a cursor, or a cursor and something with it
abbrev pub Passes : {A : Type 0} → List ℕ → Reader A → Cursor → (Cursor → A → Type 0) → Maybe Cursor → Type 0
Passes s reader c Q r = Takes s (λ d. d) Q r (reader (tokens (drop c.at s)))

abbrev pub After : {A B : Type 0} → List ℕ → Reader A → Cursor → (Cursor → B → A → Type 0) → Maybe (Cursor × B) → Type 0
After {B = B} s reader c Q r = Takes s (λ (d : Cursor × B). d.0) (λ d. Q d.0 d.1) r (reader (tokens (drop c.at s)))

-- from c to r: whether a limit was passed, and how many question marks there were; no node is counted
pub record Counts (c r : Cursor) (past : Bool) (marks : ℕ) : Type 0 where
  pub dotted : r.dotted ≡ c.dotted
  pub moved : c.at < r.at
  pub over : r.over ≡ (c.over || past)
  pub marks_are : r.marks ≡ c.marks + marks
  pub nodes_are : r.nodes ≡ c.nodes

-- ---- tokens

-- the token of a kind that a form asks for at its place: a word or a sign
abbrev pub asked : Kind → Option Token
asked Comma = some comma
asked Open = some lparen
asked Close = some rparen
asked Eq = some (operator eq)
asked From = some (keyword FROM)
asked Into = some (keyword INTO)
asked Values = some (keyword VALUES)
asked Set = some (keyword SET)
asked _ = none

-- the token t
abbrev pub ExpectsToken : List ℕ → Option Token → Cursor → Maybe Cursor → Type 0
ExpectsToken s none c r = Unit {0}
ExpectsToken s (some t) c r = Passes s (expect t) c (λ d u. Counts c d false 0) r

-- the token that the kind k tells; of the kinds that no form asks for nothing is said, since what `==` says of two kinds is by cases on both
abbrev pub Expects : List ℕ → Kind → Cursor → Maybe Cursor → Type 0
Expects s k c r = ExpectsToken s (asked k) c r

abbrev pub is_long_name : Name → Bool
is_long_name n = ltb most_name (length n)

abbrev pub Names : List ℕ → Cursor → Maybe (Cursor × ℕ) → Type 0
Names s c r = After s a_name c (λ d p n. Counts c d (is_long_name n) 0 × (name_on s p ≡ n)) r

-- A.1: a dotted column
abbrev pub Columns : List ℕ → Cursor → Maybe (Cursor × ℕ) → Type 0
Columns s c r = After s a_dotted c (λ d p x. Counts c d (long_column true x) 0 × (column_on true s p ≡ x)) r

abbrev pub Gives : List ℕ → Cursor → Maybe (Cursor × ℕ) → Type 0
Gives s c r = After s a_given c (λ d p v. Counts c d (outside32 v) (mark_count (v ∷ [])) × (given_on s p ≡ v)) r

-- A.4: ROWS, or RING, and which
abbrev pub Sizes : List ℕ → Cursor → Maybe (Cursor × Bool) → Type 0
Sizes s c r = After s a_size_word c (λ d ring b. Counts c d false 0 × (ring ≡ b)) r

-- the kinds of the two words
abbrev pub ring_in : Kind → Maybe Bool
ring_in Rows = Some false
ring_in Ring = Some true
ring_in _ = None

-- ROWS or RING is 1 to 512
abbrev pub outside_rows : ℤ → Bool
outside_rows z = not (le_z (pos 1) z && le_z z (pos most_rows))

abbrev pub CountsRows : List ℕ → Cursor → Maybe (Cursor × ℕ) → Type 0
CountsRows s c r = After s (a_token constant_of) c (λ d p z. Counts c d (outside_rows z) 0 × (token_on s p ≡ T.constant z)) r

-- by the kind of its token, a constant
abbrev pub rows_past : Kind → Maybe Bool
rows_past (Constant z) = Some (lt_z z (pos 1) || lt_z (pos most_rows) z)
rows_past Big = Some true
rows_past _ = None

-- a constant or a question mark
abbrev pub is_value : Kind → Bool
is_value (Constant z) = true
is_value Big = true
is_value Mark = true
is_value _ = false

-- ---- lists: of names, of values, of settings, of dotted columns (A.1)

abbrev pub Content : Contents → Type 0
Content names = Name
Content values = Given
Content settings = Name × Given
Content columns = Dotted

abbrev pub item_reader : (k : Contents) → Reader (Content k)
item_reader names = a_name
item_reader values = a_given
item_reader settings = a_setting
item_reader columns = a_dotted

abbrev pub item_on : (k : Contents) → List ℕ → Item → Content k
item_on names s i = name_on s i.name
item_on values s i = given_on s i.value
item_on settings s i = (name_on s i.name, given_on s i.value)
item_on columns s i = column_on true s i.name

-- both names of each dotted column
abbrev pub parts_of : List Dotted → List Name
parts_of [] = []
parts_of (c ∷ cs) = c.0 ∷ c.1 ∷ parts_of cs

-- the names and the values of some items
abbrev pub columns_in : (k : Contents) → List (Content k) → List Name
columns_in names xs = xs
columns_in values xs = []
columns_in settings xs = map (λ (x : Name × Given). x.0) xs
columns_in columns xs = parts_of xs

abbrev pub values_in : (k : Contents) → List (Content k) → List Given
values_in names xs = []
values_in values xs = xs
values_in settings xs = map (λ (x : Name × Given). x.1) xs
values_in columns xs = []

abbrev pub list_past : List Name → List Given → Bool
list_past cs vs = any is_long_name cs || any outside32 vs

-- an item at the end: noted if it is one of the first eight, for which there is room
abbrev pub PutsItem : List Item → ℕ → Item → List Item → Type 0
PutsItem xs n i ys = n < most_items → take (n + 1) ys ≡ take n xs ++ (i ∷ [])

-- from c to d items were read that are `found`
abbrev pub CountsItems : (k : Contents) → Cursor → Cursor → List (Content k) → Type 0
CountsItems k c d found = Counts c d (list_past (columns_in k found) (values_in k found)) (mark_count (values_in k found))

abbrev pub ReadsItem : Contents → List ℕ → Cursor → Maybe (Cursor × Item) → Type 0
ReadsItem k s c r = After s (item_reader k) c (λ d i x. CountsItems k c d (x ∷ []) × (item_on k s i ≡ x)) r

-- the items `found` were read from c on, up to d, after l others: counted, and noted if there was room
pub record Holds (k : Contents) (s : List ℕ) (xs : List Item) (c : Cursor) (l : ℕ) (ys : List Item) (d : Cursor) (listed : ℕ) (found : List (Content k)) : Type 0 where
  pub counts : CountsItems k c d found
  pub listed_are : listed ≡ l + length found
  pub noted : listed ≤ most_items → map (item_on k s) (take listed ys) ≡ map (item_on k s) (take l xs) ++ found

abbrev pub ReadsList : Contents → List ℕ → List Item → Cursor → ℕ → List Item → Maybe (Cursor × ℕ) → Type 0
ReadsList k s xs c l ys r = (n : ℕ) → length s - c.at < n → After s (a_list (item_reader k) n) c (λ d listed x. Holds k s xs c l ys d listed (items x)) r

-- ---- WHERE

abbrev pub where_past : (b : Bool) → Where (Operand b) → Bool
where_past b always = false
where_past b (under t) = condition_past b 0 t

abbrev pub bare_marks_in : {A : Type 0} → Optional A → List Bool
bare_marks_in always = []
bare_marks_in (under t) = bare_marks 0 t

pub record Filters (b : Bool) (s : List ℕ) (c : Cursor) (xs : List Node) (r : Cursor) (ys : List Node) (w : Where (Operand b)) : Type 0 where
  pub over : r.over ≡ (c.over || where_past b w)
  pub marks_are : r.marks ≡ c.marks + mark_count (term_givens (operands_in w))
  pub nodes_are : r.nodes ≡ c.nodes + length (nodes_in w)
  pub noted : r.nodes ≤ most_steps → nodes_on b s (take r.nodes ys) ≡ nodes_on b s (take c.nodes xs) ++ nodes_in w
  pub bare : r.nodes ≤ most_steps → bare_marks_on (take r.nodes ys) ≡ bare_marks_on (take c.nodes xs) ++ bare_marks_in w

-- calls enough for the text s
abbrev pub calls : List ℕ → ℕ
calls s = 3 * length s + 3

abbrev pub ReadsWhere : List ℕ → Cursor → List Node → Maybe Cursor → List Node → Type 0
ReadsWhere s c xs r ys = (b : Bool) → c.dotted ≡ b → (n : ℕ) → calls s ≤ n → Passes s (a_where (a_column b) n) c (λ d w. Filters b s c xs d ys (mapped_in comparison w)) r

-- ---- FROM

abbrev pub is_from : Kind → Bool
is_from From = true
is_from _ = false

abbrev pub is_comma : Kind → Bool
is_comma Comma = true
is_comma _ = false

-- up to here the list of a SELECT may reach
abbrev pub ends_list : Kind → Bool
ends_list End = true
ends_list From = true
ends_list _ = false

-- A.1: the token t is FROM, and a token and a comma follow
abbrev pub is_comma_second : List ℕ → Read → Bool
is_comma_second s t = is_from t.kind && is_comma (token_at s (token_at s t.next).next).kind

-- ---- sentences

-- how many items the list has
abbrev pub list_length : Sentence → ℕ
list_length (table t cs ring z) = length (items cs)
list_length (select cs t w) = length (items cs)
list_length (pair cs t u w) = length (items cs)
list_length (insert t vs) = length (items vs)
list_length (update t ss w) = length (items ss)
list_length (delete t w) = 0

-- past a limit by a part of its own, or by too many items, question marks or comparisons; a condition of n nodes has (n + 1) / 2 comparisons
abbrev pub over_on : Entry → Bool
over_on r = r.c.over || (ltb most_items r.listed || (ltb most_marks r.c.marks || ltb most_comparisons ((r.c.nodes + 1) / 2)))

-- the form of x, with what only it has: the constant of ROWS or RING, and whether it is RING (A.4); the second table's name (A.1)
abbrev pub FormIs : List ℕ → Form → Sentence → Type 0
FormIs s (Table p ring) (table t cs b z) = (token_on s p ≡ T.constant z) × (ring ≡ b)
FormIs s Select (select cs t w) = Unit {0}
FormIs s Insert (insert t vs) = Unit {0}
FormIs s Update (update t ss w) = Unit {0}
FormIs s Delete (delete t w) = Unit {0}
FormIs s (Pair p) (pair cs t u w) = name_on s p ≡ u
FormIs s _ _ = ⊥

-- the items that are noted name the columns of the list, in the forms that name columns
abbrev pub NamesAt : List ℕ → List Item → Sentence → Type 0
NamesAt s ls (table t cs ring z) = names_on s ls ≡ items cs
NamesAt s ls (select cs t w) = names_on s ls ≡ items cs
NamesAt s ls (pair cs t u w) = dotted_on s ls ≡ items cs
NamesAt s ls (insert t vs) = Unit {0}
NamesAt s ls (update t ss w) = names_on s ls ≡ map (λ (x : Name × Given). x.0) (items ss)
NamesAt s ls (delete t w) = Unit {0}

-- they give the values of the list, in the forms that give values
abbrev pub GivensAt : List ℕ → List Item → Sentence → Type 0
GivensAt s ls (table t cs ring z) = Unit {0}
GivensAt s ls (select cs t w) = Unit {0}
GivensAt s ls (pair cs t u w) = Unit {0}
GivensAt s ls (insert t vs) = givens_on s ls ≡ items vs
GivensAt s ls (update t ss w) = givens_on s ls ≡ map (λ (x : Name × Given). x.1) (items ss)
GivensAt s ls (delete t w) = Unit {0}

-- the nodes that are noted are those of its WHERE
abbrev pub NodesAt : List ℕ → List Node → Sentence → Type 0
NodesAt s ps (table t cs ring z) = Unit {0}
NodesAt s ps (select cs t w) = nodes_on false s ps ≡ nodes_in (mapped_in comparison w)
NodesAt s ps (pair cs t u w) = nodes_on true s ps ≡ nodes_in (mapped_in comparison w)
NodesAt s ps (insert t vs) = Unit {0}
NodesAt s ps (update t ss w) = nodes_on false s ps ≡ nodes_in (mapped_in comparison w)
NodesAt s ps (delete t w) = nodes_on false s ps ≡ nodes_in (mapped_in comparison w)

-- A.6: of a question over two tables they say which comparisons are bare
abbrev pub BareAt : List Node → Sentence → Type 0
BareAt ps (table t cs ring z) = Unit {0}
BareAt ps (select cs t w) = Unit {0}
BareAt ps (pair cs t u w) = bare_marks_on ps ≡ bare_marks_in (mapped_in comparison w)
BareAt ps (insert t vs) = Unit {0}
BareAt ps (update t ss w) = Unit {0}
BareAt ps (delete t w) = Unit {0}

-- the sentence x was read: counted, and noted in the arrays ls and ps where there was room
pub record Entered (s : List ℕ) (ls : List Item) (ps : List Node) (r : Entry) (x : Sentence) : Type 0 where
  pub form : FormIs s r.form x
  pub past : past_limit x ≡ over_on r
  pub table : name_on s r.table ≡ table_named x
  pub listed_are : r.listed ≡ list_length x
  pub marks_are : r.c.marks ≡ mark_count (givens x)
  pub nodes_are : r.c.nodes ≡ length (nodes_in (where_of x))
  pub noted : r.c.nodes ≤ most_steps → NodesAt s (take r.c.nodes ps) x
  pub bare : r.c.nodes ≤ most_steps → BareAt (take r.c.nodes ps) x
  pub names : r.listed ≤ most_items → NamesAt s (take r.listed ls) x
  pub givens : r.listed ≤ most_items → GivensAt s (take r.listed ls) x

-- r is what the text says, if it is a sentence
abbrev pub Noted : List ℕ → List Item → List Node → Maybe Entry → Option Sentence → Type 0
Noted s ls ps None none = Unit {0}
Noted s ls ps None (some x) = ⊥
Noted s ls ps (Some r) none = ⊥
Noted s ls ps (Some r) (some x) = Entered s ls ps r x

-- what a form asks, after its first word: nothing was counted yet, and b says whether its columns are dotted
pub record Starts (b : Bool) (c : Cursor) : Type 0 where
  pub dotted : c.dotted ≡ b
  pub over : c.over ≡ false
  pub nodes : c.nodes ≡ 0
  pub marks : c.marks ≡ 0

abbrev pub ReadsForm : (ℕ → Reader Sentence) → List ℕ → Cursor → List Item → List Node → Maybe Entry → Type 0
ReadsForm reader s c ls ps r = (n : ℕ) → calls s ≤ n → Takes s (λ (e : Entry). e.c) (Entered s ls ps) r (reader n (tokens (drop c.at s)))

-- TABLE and INSERT note no condition, and DELETE no list: what stands in the other array does not matter
abbrev pub Lists : (ℕ → Reader Sentence) → List ℕ → Cursor → List Item → Maybe Entry → Type 0
Lists reader s c ls r = (ps : List Node) → ReadsForm reader s c ls ps r

abbrev pub Deletes : List ℕ → Cursor → List Node → Maybe Entry → Type 0
Deletes s c ps r = (ls : List Item) → ReadsForm a_delete s c ls ps r

abbrev pub ReadsAny : List ℕ → List Item → List Node → Maybe Entry → Type 0
ReadsAny s ls ps r = (n : ℕ) → calls s ≤ n → Takes s (λ (e : Entry). e.c) (Entered s ls ps) r (a_sentence n (tokens s))
