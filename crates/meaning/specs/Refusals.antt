-- "Numbers for a call not taken": document 01, with 15 and 16 of request A.1 and 17 of A.8. For each call the numbers that it can get, each with its condition, in the order in which they are looked for. A
-- list is a function of plain facts: the plain store and the program's store read the same lists. (1 is `Plain.opening_refused`; 14, of a row that is not there, is `Record.row_refusal`.)
-- Assumes nothing: these are definitions.
use Rattle.std.specs.Prelude.{◌≡◌, ◌≢◌, Bool, true, false, not, ◌&&◌, ◌||◌, List, [], ◌∷◌, ◌++◌, ℕ, zero, suc, ◌*◌, leb, ltb, eqb, nat_abs, length}
use Rattle.std.proofs.Math.Option.{Option, none, some}
use Rattle.lists.specs.Lists.{All, any}
use Rattle.meaning.specs.Grammar as G
use Rattle.meaning.specs.Grammar.{items, Sentence}
use Rattle.meaning.specs.Limits.{most_tables, most_queries, most_updates, most_listed, too_long, past_limit}
use Rattle.meaning.specs.Names.{Schema, unknown_name, taken, miscounted, twice}

-- numbers, each with its condition
abbrev pub Conditions : Type 0
Conditions = List (ℕ × Bool)

-- the order in which all of them are looked for: the table's, but 15 "after 8", 16 "after 12" and 17 "after 2"
abbrev pub order : List ℕ
order = 1 ∷ 2 ∷ 17 ∷ 3 ∷ 4 ∷ 5 ∷ 6 ∷ 7 ∷ 8 ∷ 15 ∷ 9 ∷ 10 ∷ 11 ∷ 12 ∷ 16 ∷ 13 ∷ 14 ∷ []

-- "The lowest number that applies is given, and only then": the first whose condition holds, or 0
abbrev pub or_else : Bool → ℕ → ℕ → ℕ
or_else true n m = n
or_else false n m = m

abbrev pub lowest_of : Conditions → ℕ
lowest_of [] = 0
lowest_of (c ∷ cs) = or_else c.1 c.0 (lowest_of cs)

-- what a number is given for is done where it is 0; else `refused` is left
unfoldable pub settled : {X : Type 0} → ℕ → X → X → X
settled zero done refused = done
settled (suc n) done refused = refused

-- ---- a text

-- what it is read beside: the tables' TABLE texts, how many questions and updates there are, and the cells left
pub record Catalog : Type 0 where
  pub tables : List Schema
  pub queries : ℕ
  pub updates : ℕ
  pub cells_left : ℕ

-- 4: "no sentence": no sentence spells the text's tokens (`Demand.ReadsExactly`)
abbrev pub is_none : {A : Type 0} → Option A → Bool
is_none none = true
is_none (some x) = false

-- the sentence, if there is one, has the property
abbrev pub its_sentence : (Sentence → Bool) → Option Sentence → Bool
its_sentence f none = false
its_sentence f (some s) = f s

-- 9: "no table or statement place, or too few cells left"
unfoldable pub no_place : Catalog → Sentence → Bool
no_place c (G.table t cs ring z) = leb most_tables (length c.tables) || ltb c.cells_left (length (items cs) * nat_abs z)
no_place c (G.select cs t w) = leb most_queries c.queries
no_place c (G.pair cs t u w) = leb most_queries c.queries
no_place c (G.insert t vs) = leb most_updates c.updates
no_place c (G.update t ss w) = leb most_updates c.updates
no_place c (G.delete t w) = leb most_updates c.updates

-- 6 to 9, of a sentence beside the tables; 15, A.1: "looked for after 8"
abbrev pub sentence_conditions : Bool → Bool → Bool → Bool → Bool → Conditions
sentence_conditions unknown taken miscounted twice full = (6, unknown) ∷ (7, taken) ∷ (8, miscounted) ∷ (15, twice) ∷ (9, full) ∷ []

-- of a text and the sentence that it is, if it is one
abbrev pub text_conditions : Catalog → List ℕ → Option Sentence → Conditions
text_conditions c text s =
    (3, too_long text)
    ∷ (4, is_none s)
    ∷ (5, its_sentence past_limit s)
    ∷ sentence_conditions
    (its_sentence (unknown_name c.tables) s)
    (its_sentence (taken c.tables) s)
    (its_sentence (miscounted c.tables) s)
    (its_sentence twice s)
    (its_sentence (no_place c) s)

-- ---- the calls; 2: "state not sound, or lent lengths not the opening's" is the fact `unfit`

abbrev pub add_conditions : Bool → Catalog → List ℕ → Option Sentence → Conditions
add_conditions unfit c text s = (2, unfit) ∷ text_conditions c text s

-- 10 and 11: "no such question or update", "wrong number of values": of a statement by its number, where there are so many, with its parameters and as many values as are given
abbrev pub number_conditions : ℕ → ℕ → ℕ → ℕ → Conditions
number_conditions there number parameters values = (10, leb there number) ∷ (11, not (eqb values parameters)) ∷ []

abbrev pub statement_conditions : Bool → ℕ → ℕ → ℕ → ℕ → Conditions
statement_conditions unfit there number parameters values = (2, unfit) ∷ number_conditions there number parameters values

-- 12: "INSERT, table full" is the fact `full`
abbrev pub ten_to_twelve : ℕ → ℕ → ℕ → ℕ → Bool → Conditions
ten_to_twelve there number parameters values full = number_conditions there number parameters values ++ ((12, full) ∷ [])

abbrev pub update_conditions : Bool → ℕ → ℕ → ℕ → ℕ → Bool → Conditions
update_conditions unfit there number parameters values full = (2, unfit) ∷ ten_to_twelve there number parameters values full

-- of a question that is not refused so far: its answer is kept, and judged by its own length alone; or it is worked out. 13: "answer buffer shorter than the record"; 16, A.1: "an answer of more
-- than 65,535 rows gives 16, after 12"
abbrev pub is_short : ℕ → ℕ → Bool
is_short buffer size = ltb buffer size

abbrev pub is_many : ℕ → Bool
is_many rows = ltb most_listed rows

abbrev pub kept_conditions : Bool → Conditions
kept_conditions short = (13, short) ∷ []

abbrev pub new_conditions : Bool → Bool → Conditions
new_conditions many short = (16, many) ∷ kept_conditions short

abbrev pub flush_conditions : Bool → Conditions
flush_conditions unfit = (2, unfit) ∷ []

-- a proposal has the list of an update: A.8, "Proposals are refused by 2 and 10 to 12". "commit or withdrawal without a note gives 17, looked for after 2"
abbrev pub note_conditions : Bool → Bool → Conditions
note_conditions unfit no_note = (2, unfit) ∷ (17, no_note) ∷ []

-- ---- as a claim

-- the condition of the number n holds
abbrev pub applies : Conditions → ℕ → Bool
applies cs n = any (λ (c : ℕ × Bool). eqb c.0 n && c.1) cs

-- n is "the lowest number that applies", or 0: of the numbers before it in the order none applies
pub record Lowest (cs : Conditions) (n : ℕ) : Type 0 where
  pub listed : (m : ℕ) → applies cs m ≡ true → any (eqb m) order ≡ true
  pub given : n ≢ 0 → applies cs n ≡ true
  pub lower : (before behind : List ℕ) → order ≡ before ++ n ∷ behind → All (λ (m : ℕ). applies cs m ≡ false) before
  pub only : n ≡ 0 → (m : ℕ) → applies cs m ≡ false
