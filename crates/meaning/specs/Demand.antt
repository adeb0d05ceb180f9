-- The demands as claims, as far as the definitions of document 01 and of the requests alone can say them. Each is proved in proofs/Demand.antt.
-- Assumes nothing: these are definitions.
use Rattle.std.specs.Prelude.{◌≡◌, ◌↔◌, ◌≢◌, ◌⊎◌, true, false, not, ◌||◌, List, [], ◌∷◌, ◌++◌, map, ℕ, ◌≤◌, ◌<◌, ℤ, length}
use Rattle.std.proofs.Math.Option.{Option, none, some}
use Prim.Native.String.{String}
use Rattle.lists.specs.Lists.{All, bytes, any, all, from, pairs}
use Rattle.meaning.specs.Operator as O
use Rattle.meaning.specs.Operator.{Operator, related, null, is_null, Truth, known, not₃, and₃, or₃, Predicate, by, is-null, is-not-null, compared, truth, opposite}
use Rattle.meaning.specs.Condition.{Comparison, Condition, disjunction, under, eval, operands_in}
use mathlib.Core.List.{Memᴰ as Member}
use Rattle.meaning.specs.Condition.{Where, holds, eval_where, clauses_of, count_of}
use Rattle.meaning.specs.Pattern.{label, joint_clauses, joint_count}
use Rattle.meaning.specs.Tokens as T
use Rattle.meaning.specs.Tokens.{Token, Keyword, Name, is_small, is_capital, is_word_byte, is_name, folded, keywords, is_keyword, word, first_token, tokens}
use Rattle.meaning.specs.Grammar.{Sentence, spell}
use Rattle.meaning.specs.Reader.{sentence}
use Rattle.meaning.specs.Key.{Key}
use Rattle.meaning.specs.Limits.{most_text, most_items, most_listed, all_names, past_limit, WithinLimits}
use Rattle.meaning.specs.Names.{Schema, unknown_name, taken, miscounted, twice}
use Rattle.meaning.specs.Statement.{Value, constant, parameter, Operand, column, value, Second, Query, Change, insert, delete, update, Update, Statement, creates, asks, changes, statement_of}
use Rattle.meaning.specs.Meaning.{Row, operand_value, meets_where, takes, selected, answer, new_row, assigned, changed}
use Rattle.meaning.specs.Record.{encode, ReadsBack}
use Rattle.meaning.specs.Pattern.{Side, neither, first, second, side_of, same_table, start_of, beside, matters, Joint, Clause, class, constants, broken, contradictory, matches, removal, matches_two}
use Rattle.meaning.specs.Exact.{is_separate, IsRow, Affected, affects, drops}
use Rattle.meaning.specs.Plain as P
use Rattle.meaning.specs.Plain.{Lengths, Note, Plain, schemas, passes_first, query_at, Opening, opened, other_lengths, catalog_of, conditions, refusal, Out, refused, answered, adding, kind_and_number, step, after, outs, rows_listed}
use Rattle.meaning.specs.Refusals.{settled, no_place, Lowest}
use Rattle.meaning.specs.Call.{Call, add, ask, change, flush, propose, commit, withdraw, Call32}

-- ---- Demand 1: "If a call brings a text, number, state or lent memory that the store can't take, it gives the refusal number of document 01 and changes
-- nothing."

-- "The lowest number that applies is given, and only then." (`Refusals.Lowest`)
abbrev pub LowestNumber : Type 0
LowestNumber = (lent : Lengths) (p : Plain) (c : Call ℕ) → Lowest (conditions lent p c) (refusal lent p c)

abbrev pub RefusedChangesNothing : Type 0
RefusedChangesNothing = (lent : Lengths) (p : Plain) (c : Call ℕ) → refusal lent p c ≢ 0 → step lent p c ≡ (p, refused (refusal lent p c))

-- ---- Demand 2: "A text is accepted exactly if no refusal condition of document 01 holds."

-- a text has at most one sentence, and it is the one that is read
abbrev pub ReadsExactly : Type 0
ReadsExactly = (text : List ℕ) (s : Sentence) → (sentence text ≡ some s) ↔ (tokens text ≡ spell s)

abbrev pub OneSentence : Type 0
OneSentence = (s t : Sentence) → spell s ≡ spell t → s ≡ t

-- "A run of letters, digits and underscores is one word, and a sign is the longest that fits; spaces (byte 32) may stand between any two and at both ends":
-- the tokens of a text are its first token and then the tokens of the text after it
abbrev pub tokens_from : Option (Token × List ℕ) → List Token
tokens_from none = []
tokens_from (some x) = x.0 ∷ tokens x.1

abbrev pub FirstThenRest : Type 0
FirstThenRest = (text : List ℕ) → tokens text ≡ tokens_from (first_token text)

-- A.2, "Names may hold capital letters, the first included": a word that begins with a letter and is no keyword is a name
abbrev pub CapitalsInNames : Type 0
CapitalsInNames = (b : ℕ) (w : List ℕ) → all is_word_byte (b ∷ w) ≡ true → (is_small b || is_capital b) ≡ true → is_keyword (b ∷ w) ≡ false → word (b ∷ w) ≡ T.name (folded (b ∷ w))

-- "and case makes no difference between names": two words are one name exactly if they differ in case alone
abbrev pub OneName : Type 0
OneName = (v w : List ℕ) (m n : Name) → word v ≡ T.name m → word w ≡ T.name n → (m ≡ n) ↔ (folded v ≡ folded w)

abbrev pub CaseAside : Type 0
CaseAside = (v w : List ℕ) → folded v ≡ folded w → is_keyword v ≡ false → is_keyword w ≡ false → word v ≡ word w

-- "Words spelled exactly as a keyword, all capitals, remain keywords."
abbrev pub KeywordsRemain : Type 0
KeywordsRemain = All (λ (k : String × Keyword). (w : List ℕ) → (word w ≡ T.keyword k.1) ↔ (w ≡ bytes k.0)) keywords

-- the names that words can be are document 01's: what a stored name may be
abbrev pub NamesFolded : Type 0
NamesFolded = (n : Name) → (is_name n ≡ true) ↔ ((w : List ℕ) × (word w ≡ T.name n))

-- "Everything that looks a name up, or finds one taken or repeated, follows.": of a text that is added only the tokens count, and its length, so that
-- texts that differ in the case of names alone, and have the same keywords, are one text
abbrev pub SameTokens : Type 0
SameTokens = (lent : Lengths) (p : Plain) (text text' : List ℕ) → length text ≡ length text' → tokens text ≡ tokens text' → step lent p (add text) ≡ step lent p (add text')

abbrev pub keyword_of : Token → Option Keyword
keyword_of (T.keyword k) = some k
keyword_of (T.name n) = none
keyword_of (T.constant z) = none
keyword_of (T.operator o) = none
keyword_of T.mark = none
keyword_of T.comma = none
keyword_of T.lparen = none
keyword_of T.rparen = none
keyword_of T.dot = none
keyword_of T.other = none

abbrev pub SameText : Type 0
SameText =
    (lent : Lengths) (p : Plain) (text text' : List ℕ)
    → folded text ≡ folded text'
    → map keyword_of (tokens text) ≡ map keyword_of (tokens text')
    → step lent p (add text) ≡ step lent p (add text')

-- "A name is a small letter, then small letters, digits or underscores. A constant is an optional minus and digits": a sentence has a text exactly if its
-- names are such, whatever its constants are
abbrev pub HasText : Type 0
HasText = (s : Sentence) → (all is_name (all_names s) ≡ true) ↔ ((text : List ℕ) × (tokens text ≡ spell s))

-- "Question marks are numbered from 1, left to right.": those of VALUES or SET, then those of WHERE, are 1, 2 and on, up to the number of them
abbrev pub value_marks : List Value → List ℕ
value_marks [] = []
value_marks (constant z ∷ vs) = value_marks vs
value_marks (parameter k ∷ vs) = k ∷ value_marks vs

abbrev pub operand_marks : List Operand → List ℕ
operand_marks [] = []
operand_marks (column i ∷ os) = operand_marks os
operand_marks (value (constant z) ∷ os) = operand_marks os
operand_marks (value (parameter k) ∷ os) = k ∷ operand_marks os

abbrev pub change_marks : Change → List ℕ
change_marks (insert vs) = value_marks vs
change_marks (delete g) = operand_marks (operands_in g)
change_marks (update ss g) = value_marks (map (λ (s : ℕ × Value). s.1) ss) ++ operand_marks (operands_in g)

abbrev pub Numbered : Statement → Type 0
Numbered (creates t) = Unit {0}
Numbered (asks q) = operand_marks (operands_in q.condition) ≡ from 1 q.parameters
Numbered (changes u) = change_marks u.change ≡ from 1 u.parameters

abbrev pub MarksNumbered : Type 0
MarksNumbered = (ts : List Schema) (s : Sentence) → Numbered (statement_of ts s)

abbrev pub WithinExactlyIf : Type 0
WithinExactlyIf = (s : Sentence) → (past_limit s ≡ false) ↔ WithinLimits s

-- no condition of refusals 2 to 9 and 15 holds
pub record Acceptable (lent : Lengths) (p : Plain) (text : List ℕ) (s : Sentence) : Type 0 where
  pub lengths : other_lengths lent p ≡ false
  pub short : length text ≤ most_text
  pub spelled : tokens text ≡ spell s
  pub within : past_limit s ≡ false
  pub known : unknown_name (schemas p) s ≡ false
  pub fresh : taken (schemas p) s ≡ false
  pub counted : miscounted (schemas p) s ≡ false
  pub different : twice s ≡ false
  pub place : no_place (catalog_of p) s ≡ false

abbrev pub AcceptedExactlyIf : Type 0
AcceptedExactlyIf = (lent : Lengths) (p : Plain) (text : List ℕ) → (refusal lent p (add text) ≡ 0) ↔ ((s : Sentence) × Acceptable lent p text s)

-- and then its statement is added
abbrev pub AcceptedIsAdded : Type 0
AcceptedIsAdded = (lent : Lengths) (p : Plain) (text : List ℕ) (s : Sentence) → Acceptable lent p text s
    → step lent p (add text) ≡ (adding p (statement_of (schemas p) s), kind_and_number p (statement_of (schemas p) s))

-- ---- Demand 2: "A new answer .. holds exactly the rows, in order, that the SQL meaning set down there gives, and its record reads back as those rows"

-- the record of rows, also with later bytes behind it
abbrev pub RecordReadsBack : Type 0
RecordReadsBack = (columns : ℕ) (rows : List Row) (later : List ℕ) → 1 ≤ columns → columns ≤ most_items → length rows ≤ most_listed → All (IsRow columns) rows
    → ReadsBack (encode columns rows ++ later) columns rows

-- after every opening and list of calls, an answer's record reads back as the rows that Meaning lists on the plain store
abbrev pub AnswerReadsBack : Type 0
AnswerReadsBack = (o : Opening) (cs : List (Call ℕ)) → All Call32 cs → (k : Key) (buffer : ℕ) (r : List ℕ)
    → let p : Plain = after o.lent (opened o) cs in
    (step o.lent p (ask k buffer)).1 ≡ answered r
    → (later : List ℕ) → ReadsBack (r ++ later) (length (query_at p k.query).selected) (rows_listed p k)

-- ---- Demand 2: "The kept answers an update drops are exactly those matched by the patterns drawn from Scully and Chlipala's formula": the patterns weaken
-- it. If the update matters for the query's values through some row, a pattern agrees; so where none agrees the answer stays, whatever the tables hold.

-- the columns that a change sets or tests are columns of the row
abbrev pub IsColumn : Row → Operand → Type 0
IsColumn r (column i) = i < length r
IsColumn r (value v) = Unit {0}

abbrev pub ChangesWithin : Change → Row → Type 0
ChangesWithin (insert os) r = Unit {0}
ChangesWithin (delete g) r = All (IsColumn r) (operands_in g)
ChangesWithin (update ss g) r = All (λ (s : ℕ × Value). s.0 < length r) ss × All (IsColumn r) (operands_in g)

-- a row of the other table has its columns: in a pair those of an updated second table stand behind them
abbrev pub StandsBeside : Query → Side → Row → Type 0
StandsBeside q neither o = Unit {0}
StandsBeside q first o = Unit {0}
StandsBeside q second o = length o ≡ start_of q second

abbrev pub PatternsWeaken : Type 0
PatternsWeaken = (q : Query) (qs : List ℤ) (u : Update) (us : List ℤ) (r o : Row) → length qs ≡ q.parameters → ChangesWithin u.change r
    → StandsBeside q (side_of q u) o → matters q qs u us r o ≡ true → matches q u us qs ≡ true

-- A.4, "When a row is pushed out, kept answers are judged for it as well": if the question takes it, a pattern that is worked out for it agrees
abbrev pub PushedWeakens : Type 0
PushedWeakens = (q : Query) (qs : List ℤ) (t : ℕ) (us : List ℤ) (r o : Row) → length qs ≡ q.parameters → same_table q (removal t r) ≡ true
    → StandsBeside q (side_of q (removal t r)) o → takes q qs (beside (side_of q (removal t r)) r o) ≡ true → matches q (removal t r) us qs ≡ true

-- the rows that the question tests, where the updated table holds `rows` and the other one, if there is one, `others`
abbrev pub rows_beside : Option Second → Side → List Row → List Row → List Row
rows_beside none side rows others = rows
rows_beside (some s) neither rows others = pairs rows others
rows_beside (some s) first rows others = pairs rows others
rows_beside (some s) second rows others = pairs others rows

-- the update finds `rows`, and where it pushed rows out of a ring these stood before them
abbrev pub AnswerStays : Type 0
AnswerStays = (q : Query) (qs : List ℤ) (u : Update) (us : List ℤ) (out rows others : List Row) → length qs ≡ q.parameters → All (ChangesWithin u.change) rows
    → All (StandsBeside q (side_of q u)) others → same_table q u ≡ true → matches_two q u out us qs ≡ false
    → answer q qs (rows_beside q.second (side_of q u) (changed u.change us rows) others) ≡ answer q qs (rows_beside q.second (side_of q u) (out ++ rows) others)

-- ---- What the patterns are worked out of (REFERENCE 6.5): the clauses of a condition, how many they are, and the classes of a clause's operands

-- a condition is true exactly if all comparisons of one of its clauses are, whatever its operands are worth: of a statement, and of the joint formula
abbrev pub ClausesMeanOf : Type 0 → Type 0
ClausesMeanOf O = (v : O → ℤ) (w : Where O) → any (all (holds v)) (clauses_of w) ≡ eval_where v w

abbrev pub ClausesMean : Type 0
ClausesMean = ClausesMeanOf Operand × ClausesMeanOf Joint

-- the clauses of a condition, and those of the joint formula of a question and an update, are as many as are counted without listing them
pub record ClausesCount : Type 0 where
  pub of_condition : (w : Where Operand) → length (clauses_of w) ≡ count_of w
  pub of_joint : (k : ℕ) (q : Query) (c : Change) → length (joint_clauses k q c) ≡ joint_count q c

-- x = y
abbrev pub equals : Joint → Joint → Comparison Joint
equals x y = record { left = x; op = by O.eq; right = y }

-- the equivalence that the `=` comparisons of a clause generate
pub data Linked (cs : Clause) : Joint → Joint → Type 0 where
  itself : {x : Joint} → Linked cs x x
  joined : {x y : Joint} → Member (equals x y) cs → Linked cs x y
  reversed : {x y : Joint} → Member (equals x y) cs → Linked cs y x
  through : {x y z : Joint} → Linked cs x y → Linked cs y z → Linked cs x z

-- operands are in one class, as their labels say, exactly if `=` links them
abbrev pub ClassesLinked : Type 0
ClassesLinked = (cs : Clause) (x y : Joint) → (label cs x ≡ label cs y) ↔ Linked cs x y

-- ---- A.5: "From now on -2147483648 is the null of ISO/IEC 9075."

-- "A comparison with it is unknown": by each of the six operators, with the null on either side or on both
abbrev pub NullUnknown : Type 0
NullUnknown = (o : Operator) (z : ℤ) → (compared (by o) null z ≡ O.unknown) × (compared (by o) z null ≡ O.unknown)

-- and one of two other numbers is true or false, as document 01 has it
abbrev pub OthersKnown : Type 0
OthersKnown = (o : Operator) (y z : ℤ) → y ≢ null → z ≢ null → compared (by o) y z ≡ known (related o y z)

-- "AND, OR and NOT follow that standard's three values": when each is true and when false; else it is unknown
pub record ThreeValues : Type 0 where
  pub not-true : (t : Truth) → (not₃ t ≡ known true) ↔ (t ≡ known false)
  pub not-false : (t : Truth) → (not₃ t ≡ known false) ↔ (t ≡ known true)
  pub and-true : (s t : Truth) → (and₃ s t ≡ known true) ↔ ((s ≡ known true) × (t ≡ known true))
  pub and-false : (s t : Truth) → (and₃ s t ≡ known false) ↔ ((s ≡ known false) ⊎ (t ≡ known false))
  pub or-true : (s t : Truth) → (or₃ s t ≡ known true) ↔ ((s ≡ known true) ⊎ (t ≡ known true))
  pub or-false : (s t : Truth) → (or₃ s t ≡ known false) ↔ ((s ≡ known false) × (t ≡ known false))

-- "and WHERE takes only rows whose condition is true": those of a question, an UPDATE and a DELETE
abbrev pub TakesTrue : Type 0
TakesTrue = (c : Condition Operand disjunction) (vs : List ℤ) (r : Row) → (meets_where (under c) vs r ≡ true) ↔ (eval (operand_value r vs) c ≡ known true)

-- "`level IS NULL` and `level IS NOT NULL`, on columns, count as comparisons": on a column both sides are its number
abbrev pub NullTests : Type 0
NullTests = (z : ℤ) → ((truth is-null z z ≡ true) ↔ (z ≡ null)) × ((truth is-not-null z z ≡ true) ↔ (z ≢ null))

-- "each the opposite of the other", in rule 4's "fixed table of the six comparisons and their opposites", now of eight: document 01 has that "opposite twice
-- is itself, and it negates the truth"
pub record Opposites : Type 0 where
  pub null_test : opposite is-null ≡ is-not-null
  pub twice_itself : (p : Predicate) → opposite (opposite p) ≡ p
  pub negates : (p : Predicate) (y z : ℤ) → compared (opposite p) y z ≡ not₃ (compared p y z)

-- "In the patterns IS NULL and IS NOT NULL are tested on the class's constant where there is one": where it is false of that the clause goes by this comparison;
-- where there is none it does not
pub record OnConstant (cs : Clause) (x : Joint) : Type 0 where
  pub null_constant : (z : ℤ) (zs : List ℤ) → constants (class cs x) ≡ z ∷ zs
      → (broken cs (record { left = x; op = is-null; right = x }) ≡ not (is_null z)) × (broken cs (record { left = x; op = is-not-null; right = x }) ≡ is_null z)
  pub no_constant : constants (class cs x) ≡ []
      → (broken cs (record { left = x; op = is-null; right = x }) ≡ false) × (broken cs (record { left = x; op = is-not-null; right = x }) ≡ false)

abbrev pub NullTestsInPatterns : Type 0
NullTestsInPatterns = (cs : Clause) (x : Joint) → OnConstant cs x

-- "any other comparison with an operand whose class holds the null constant is never true": a clause with such a comparison goes
abbrev pub NeverTrue : Type 0
NeverTrue = (before after : Clause) (c : Comparison Joint) (o : Operator) → c.op ≡ by o
    → let cs : Clause = before ++ c ∷ after in
    any is_null (constants (class cs c.left) ++ constants (class cs c.right)) ≡ true → contradictory cs ≡ true

-- ---- A.6: "m is the number of first-table rows for which every comparison that stands outside all OR, NOT and parentheses, alone or joined by AND, and that names no
-- column of the second table, is true"

-- the second table need not be read for another row of the first: no pair with it is listed, whatever the second table holds
abbrev pub NoPairListed : Type 0
NoPairListed = (q : Query) (s : Second) (vs : List ℤ) (r : Row) (others : List Row) → passes_first q s vs r ≡ false → length r ≡ s.start → answer q vs (pairs (r ∷ []) others) ≡ []

-- ---- A.7: "Where question and update are of one table and neither compares a column with a column, a matched answer is dropped exactly if some row of 32-bit numbers, null
-- allowed, meets the update's condition and, through the update, enters or leaves what the question takes, or is taken before and after and alters in a selected column."

-- what the row meets and how it is taken, by the update's form
abbrev pub Altered : Query → List ℤ → Row → Row → Type 0
Altered q qs r s =
    ((takes q qs r ≡ true) × (takes q qs s ≡ false))
    ⊎ (((takes q qs r ≡ false) × (takes q qs s ≡ true))
    ⊎ ((takes q qs r ≡ true) × (takes q qs s ≡ true) × (selected q r ≢ selected q s)))

abbrev pub AlteredBy : Query → List ℤ → Change → List ℤ → Row → Type 0
AlteredBy q qs (insert os) us r = takes q qs (new_row os us) ≡ true
AlteredBy q qs (delete g) us r = (meets_where g us r ≡ true) × (takes q qs r ≡ true)
AlteredBy q qs (update ss g) us r = (meets_where g us r ≡ true) × Altered q qs r (assigned ss us r)

abbrev pub AffectedMeans : Type 0
AffectedMeans = (columns : ℕ) (q : Query) (qs : List ℤ) (u : Update) (us : List ℤ) → is_separate q u ≡ true
    → Affected columns q qs u us ↔ ((r : Row) × IsRow columns r × AlteredBy q qs u.change us r)

-- and the rows `out` that it pushes out of a ring: "the row is known, and the test is whether the question takes it"
abbrev pub DropsExactlyIf : Type 0
DropsExactlyIf = (columns : ℕ) (q : Query) (u : Update) (out : List Row) (us qs : List ℤ) → is_separate q u ≡ true
    → (drops columns q u out us qs ≡ true) ↔ ((matches_two q u out us qs ≡ true) × (Affected columns q qs u us ⊎ (any (takes q qs) out ≡ true)))

-- "For an INSERT under these premises .. the row is known, and the test is whether the question takes it"
abbrev pub InsertKnown : Type 0
InsertKnown = (columns : ℕ) (q : Query) (qs : List ℤ) (u : Update) (us : List ℤ) (os : List Value) → is_separate q u ≡ true → u.change ≡ insert os
    → affects columns q qs u us ≡ takes q qs (new_row os us)

-- where these premises do not hold the patterns alone decide
abbrev pub PatternsAlone : Type 0
PatternsAlone = (columns : ℕ) (q : Query) (u : Update) (out : List Row) (us qs : List ℤ) → is_separate q u ≡ false → drops columns q u out us qs ≡ matches_two q u out us qs

-- where they hold the patterns are a filter alone: what is affected is matched
abbrev pub AffectedMatched : Type 0
AffectedMatched = (columns : ℕ) (q : Query) (u : Update) (us qs : List ℤ) → length qs ≡ q.parameters → is_separate q u ≡ true
    → ((r : Row) → IsRow columns r → ChangesWithin u.change r) → Affected columns q qs u us → matches q u us qs ≡ true

-- an answer that is not dropped stays, in a table of rows of 32-bit numbers
abbrev pub StaysUndropped : Type 0
StaysUndropped = (columns : ℕ) (q : Query) (qs : List ℤ) (u : Update) (us : List ℤ) (out rows others : List Row) → length qs ≡ q.parameters → All (IsRow columns) rows
    → All (ChangesWithin u.change) rows → All (StandsBeside q (side_of q u)) others → same_table q u ≡ true → drops columns q u out us qs ≡ false
    → answer q qs (rows_beside q.second (side_of q u) (changed u.change us rows) others) ≡ answer q qs (rows_beside q.second (side_of q u) (out ++ rows) others)

-- ---- A.8: "An update may be proposed: it gives the rows it would insert, match or delete, and changes nothing but the pending note in the state."

-- what the update would get; also where it is refused: "Proposals are refused by 2 and 10 to 12"
abbrev pub ProposalGivesRows : Type 0
ProposalGivesRows = (lent : Lengths) (p : Plain) (n : ℕ) (us : List ℤ) → (step lent p (propose n us)).1 ≡ (step lent p (change n us)).1

abbrev pub ProposalNotesOnly : Type 0
ProposalNotesOnly = (lent : Lengths) (p : Plain) (n : ℕ) (us : List ℤ) → refusal lent p (propose n us) ≡ 0
    → (step lent p (propose n us)).0 ≡ record p { pending = some (record { update = n; values = us }) }

-- an accepted proposal, and the rows that it gave
pub record Proposal : Type 0 where
  pub note : Note
  pub rows : ℕ

-- "A new proposal replaces the note; an accepted commit, a withdrawal, a flush, an accepted text of any kind and an accepted update remove it." "Questions may come between": what an
-- accepted call that gives n rows leaves of the proposal before it
abbrev pub left_by : {B : Type 0} → Call B → ℕ → Option Proposal → Option Proposal
left_by (propose m us) n o = some (record { note = record { update = m; values = us }; rows = n })
left_by (ask k b) n o = o
left_by commit n o = none
left_by withdraw n o = none
left_by flush n o = none
left_by (add text) n o = none
left_by (change m us) n o = none

-- the proposal that stands after calls, by the refusal and the rows that each of them got; a refused call leaves it
module _ {B X : Type 0} (refusal_of rows_of : X → ℕ) where
  abbrev pub standing : Option Proposal → List (Call B) → List X → Option Proposal
  standing o [] xs = o
  standing o (c ∷ cs) [] = o
  standing o (c ∷ cs) (x ∷ xs) = standing (settled (refusal_of x) (left_by c (rows_of x) o) o) cs xs

-- both of what the plain store gives, 0 where there is no such thing
abbrev pub refusal_in : Out → ℕ
refusal_in (P.refused n) = n
refusal_in (P.added k n) = 0
refusal_in (P.answered r) = 0
refusal_in (P.rows n) = 0
refusal_in P.flushed = 0
refusal_in P.withdrawn = 0

abbrev pub rows_in : Out → ℕ
rows_in (P.refused n) = 0
rows_in (P.added k n) = 0
rows_in (P.answered r) = 0
rows_in (P.rows n) = n
rows_in P.flushed = 0
rows_in P.withdrawn = 0

abbrev pub proposal_after : Opening → List (Call ℕ) → Option Proposal
proposal_after o cs = standing refusal_in rows_in none cs (outs o.lent (opened o) cs)

-- "the plain store holds the note by the same rules"
abbrev pub note_of : Option Proposal → Option Note
note_of none = none
note_of (some x) = some x.note

abbrev pub NoteHeld : Type 0
NoteHeld = (o : Opening) (cs : List (Call ℕ)) → (after o.lent (opened o) cs).pending ≡ note_of (proposal_after o cs)

-- a withdrawal is taken exactly if an update is proposed, with the lengths of the opening; ..
abbrev pub WithdrawExactlyIf : Type 0
WithdrawExactlyIf = (lent : Lengths) (p : Plain) → (refusal lent p withdraw ≡ 0) ↔ ((other_lengths lent p ≡ false) × ((x : Note) × (p.pending ≡ some x)))

-- .. it takes the proposal away, and leaves all else
abbrev pub WithdrawTakesNote : Type 0
WithdrawTakesNote = (lent : Lengths) (p : Plain) → refusal lent p withdraw ≡ 0 → step lent p withdraw ≡ (record p { pending = none }, P.withdrawn)

-- "A commit then does it": what the update that is proposed would do then, and give
abbrev pub CommitDoesIt : Type 0
CommitDoesIt = (o : Opening) (cs : List (Call ℕ)) (x : Proposal) → proposal_after o cs ≡ some x
    → let p : Plain = after o.lent (opened o) cs in
    step o.lent p commit ≡ step o.lent p (change x.note.update x.note.values)

-- "in a list as in demand 3 an accepted commit's row count equals the one proposed"; and it is accepted exactly if a proposal stands
abbrev pub CommitAsProposed : Type 0
CommitAsProposed = (o : Opening) (cs : List (Call ℕ)) (n : ℕ)
    → let p : Plain = after o.lent (opened o) cs in
    ((step o.lent p commit).1 ≡ P.rows n) ↔ ((x : Proposal) × (proposal_after o cs ≡ some x) × (x.rows ≡ n))

-- ---- all of these

pub record Demands : Type 0 where
  pub lowest_number : LowestNumber
  pub refused_changes_nothing : RefusedChangesNothing
  pub reads_exactly : ReadsExactly
  pub one_sentence : OneSentence
  pub first_then_rest : FirstThenRest
  pub capitals_in_names : CapitalsInNames
  pub one_name : OneName
  pub case_aside : CaseAside
  pub keywords_remain : KeywordsRemain
  pub names_folded : NamesFolded
  pub same_tokens : SameTokens
  pub same_text : SameText
  pub has_text : HasText
  pub marks_numbered : MarksNumbered
  pub within_exactly_if : WithinExactlyIf
  pub accepted_exactly_if : AcceptedExactlyIf
  pub accepted_is_added : AcceptedIsAdded
  pub record_reads_back : RecordReadsBack
  pub answer_reads_back : AnswerReadsBack
  pub patterns_weaken : PatternsWeaken
  pub pushed_weakens : PushedWeakens
  pub answer_stays : AnswerStays
  pub clauses_mean : ClausesMean
  pub clauses_count : ClausesCount
  pub classes_linked : ClassesLinked
  pub null_unknown : NullUnknown
  pub others_known : OthersKnown
  pub three_values : ThreeValues
  pub takes_true : TakesTrue
  pub null_tests : NullTests
  pub opposites : Opposites
  pub null_tests_in_patterns : NullTestsInPatterns
  pub never_true : NeverTrue
  pub no_pair_listed : NoPairListed
  pub affected_means : AffectedMeans
  pub drops_exactly_if : DropsExactlyIf
  pub insert_known : InsertKnown
  pub patterns_alone : PatternsAlone
  pub affected_matched : AffectedMatched
  pub stays_undropped : StaysUndropped
  pub proposal_gives_rows : ProposalGivesRows
  pub proposal_notes_only : ProposalNotesOnly
  pub withdraw_exactly_if : WithdrawExactlyIf
  pub withdraw_takes_note : WithdrawTakesNote
  pub note_held : NoteHeld
  pub commit_does_it : CommitDoesIt
  pub commit_as_proposed : CommitAsProposed
