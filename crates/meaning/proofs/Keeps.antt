-- What adding and updates leave of a question: it can still be asked, and its record stays unless the update drops its key. Assumes nothing.
use mathlib.Core.Path.{◌≡◌, refl, sym, ap, ap₂, ◌∙◌, subst}
use mathlib.Core.Bool.{Bool, true, false, not, ◌&&◌, cond}
use mathlib.Core.Option.{Option, none, some}
use mathlib.Core.List.{List, [], ◌∷◌, ◌++◌}
use Prim.Native.Nat.{ℕ, zero, suc, ◌<◌}
use native.Mathlib.Decide.{ℕ_discrete}
use native.Mathlib.Omega.{arith}
use borrow.Author.Tests.{lt-leb, eq-eqb, ne_eqb}
use lib.Dec.{eqb, ltb}
use lib.IntN.{ℤ}
use lib.ListN.{length, get_or, set, length-append, get_or-append}
use lib.Seq.{get_or-set_same, get_or-set_other}
use Rattle.lists.specs.Lists.{All, nil, cons, pairs}
use Rattle.lists.proofs.Lists.{All-head, All-tail, All-map, All-both, All-every}
use Rattle.lists.proofs.Places.{All-at}
use Rattle.meaning.specs.Grammar.{Sentence}
use Rattle.meaning.specs.Reader.{sentence}
use Rattle.meaning.specs.Names.{Schema}
use Rattle.meaning.specs.Condition.{operands_in}
use Rattle.meaning.specs.Statement as S
use Rattle.meaning.specs.Statement.{Value, Operand, value, Second, Query, Change, insert, delete, update, Update, Statement, creates, asks, changes, statement_of}
use Rattle.meaning.specs.Meaning.{Row, answer, changed}
use Rattle.meaning.specs.Limits.{most_listed}
use Rattle.meaning.specs.Record.{encode}
use Rattle.meaning.specs.Key.{Key}
use Rattle.meaning.specs.Plain.{Lengths, Table, Plain, schemas, no_table, no_query, no_update, table_at, rows_over, rows_for, query_at, update_at, record_of, too_many, pushed, remaining, drops_key, other_lengths, ask_conditions, refusal, adding, text_added, changed_by, does, Note, with_note}
use Rattle.meaning.specs.Refusals.{lowest_of}
use Rattle.meaning.specs.Call.{add, change}
use Rattle.meaning.specs.Pattern.{Side, neither, first, second, second_side, side_of, is_side, start_of, second_start}
use Rattle.meaning.specs.Exact.{IsRow}
use Rattle.meaning.specs.Demand.{Acceptable, IsColumn, ChangesWithin, StandsBeside, rows_beside, StaysUndropped}
use Rattle.meaning.proofs.Pushed.{pushed-remaining, remaining-has}
use Rattle.meaning.proofs.Accepted.{clear, text-taken, Asked, key-asked, update-taken, Ready}
use Rattle.meaning.proofs.WellFormed.{FitsTable, tests, SecondFits, WellFormed}
use Rattle.meaning.proofs.Within32.{Store32}
use Rattle.meaning.proofs.Resolved.{Within}

-- a question with the number and the values of one that could be asked
asked-still : (lent : Lengths) (p p' : Plain) (k : Key) → Asked lent p k → p'.lengths ≡ p.lengths → k.query < length p'.queries
    → query_at p' k.query ≡ query_at p k.query → lowest_of (ask_conditions lent p' k) ≡ 0
unfolding other_lengths
asked-still lent p p' k A l h q =
    let first : other_lengths lent p' ≡ false = ap (λ (n : Lengths). not (eqb lent.cells n.cells && eqb lent.memory n.memory)) l ∙ A.lengths in
    let values : eqb (length k.values) (query_at p' k.query).parameters ≡ true =
    eq-eqb (length k.values) (query_at p' k.query).parameters (A.values ∙ ap (λ (q : Query). q.parameters) (sym q)) in
    (clear 0 (ask_conditions lent p' k) refl).1 (cons first (cons (lt-leb (length p'.queries) k.query h) (cons (ap not values) nil)))

-- the record of a key is the same, and so is whether it has too many rows
abbrev pub SameAnswer : Plain → Plain → Key → Type 0
SameAnswer p' p k = (record_of p' k ≡ record_of p k) × (too_many p' k ≡ too_many p k)

-- the record of the same query, where it has the same answer
record-stays : (p p' : Plain) (k : Key) → query_at p' k.query ≡ query_at p k.query
    → answer (query_at p k.query) k.values (rows_for p' (query_at p k.query)) ≡ answer (query_at p k.query) k.values (rows_for p (query_at p k.query))
    → SameAnswer p' p k
unfolding record_of too_many
record-stays p p' k q a = (
  ap (λ (q : Query). encode (length q.selected) (answer q k.values (rows_for p' q))) q ∙ ap (encode (length (query_at p k.query).selected)) a,
  ap (λ (q : Query). ltb most_listed (length (answer q k.values (rows_for p' q)))) q ∙ ap (λ (l : List Row). ltb most_listed (length l)) a,
)

-- ---- adding

-- a table that is not there has no rows, and a new one has none
rows-appended : (ts : List Table) (t : Schema) (i : ℕ) → (get_or (ts ++ (record { schema = t; rows = [] } ∷ [])) i no_table).rows ≡ (get_or ts i no_table).rows
rows-appended [] t zero = refl
rows-appended [] t (suc i) = refl
rows-appended (x ∷ ts) t zero = refl
rows-appended (x ∷ ts) t (suc i) = rows-appended ts t i

rows-over : (p : Plain) (t : Schema) (q : Query) (s : Option Second) → rows_over (adding p (creates t)).tables q s ≡ rows_over p.tables q s
rows-over p t q none = rows-appended p.tables t q.table
rows-over p t q (some s) = ap₂ pairs (rows-appended p.tables t q.table) (rows-appended p.tables t s.table)

abbrev Keeps : Lengths → Plain → Key → Plain → Type 0
Keeps lent p k p' = (lowest_of (ask_conditions lent p' k) ≡ 0) × SameAnswer p' p k

adding-keeps : (lent : Lengths) (p : Plain) (k : Key) → Asked lent p k → (s : Statement) → Keeps lent p k (adding p s)
adding-keeps lent p k A (creates t) = (
  asked-still lent p (adding p (creates t)) k A refl A.there refl,
  record-stays p (adding p (creates t)) k refl (ap (answer (query_at p k.query) k.values) (rows-over p t (query_at p k.query) (query_at p k.query).second)),
)
adding-keeps lent p k A (asks q) =
    let e : query_at (adding p (asks q)) k.query ≡ query_at p k.query = get_or-append p.queries (q ∷ []) no_query k.query A.there in (
      asked-still lent p (adding p (asks q)) k A refl (omega (arith, length-append p.queries (q ∷ []), A.there)) e,
      record-stays p (adding p (asks q)) k e refl,
    )
adding-keeps lent p k A (changes u) =
    (asked-still lent p (adding p (changes u)) k A refl A.there refl, record-stays p (adding p (changes u)) k refl refl)

-- a text that is added leaves every question that could be asked, and its record
pub add_keeps : (lent : Lengths) (p : Plain) (text : List ℕ) (k : Key) → lowest_of (ask_conditions lent p k) ≡ 0 → refusal lent p (add text) ≡ 0
    → (lowest_of (ask_conditions lent (does p (add text)).0 k) ≡ 0) × SameAnswer (does p (add text)).0 p k
unfolding text_added
add_keeps lent p text k a h =
    let T : (s : Sentence) × (sentence text ≡ some s) × Acceptable lent p text s = text-taken lent p text h in
    subst (λ (o : Option Sentence). Keeps lent p k (text_added p o).0) (sym T.1) (adding-keeps lent p k (key-asked lent p k a) (statement_of (schemas p) T.0))

-- a note that comes or goes leaves them too
pub note_keeps : (lent : Lengths) (p : Plain) (o : Option Note) (k : Key) → lowest_of (ask_conditions lent p k) ≡ 0
    → (lowest_of (ask_conditions lent (with_note p o) k) ≡ 0) × SameAnswer (with_note p o) p k
note_keeps lent p o k a = (asked-still lent p (with_note p o) k A refl A.there refl, record-stays p (with_note p o) k refl refl)
  where
    A : Asked lent p k
    A = key-asked lent p k a

-- ---- an update

columns-within : (r : Row) (n : ℕ) → length r ≡ n → (os : List Operand) → All (Within n) os → All (IsColumn r) os
columns-within r n e [] h = nil
columns-within r n e (S.column i ∷ os) h = let k : i < n = All-head h in
    cons {x = S.column i} (let z : i < length r = omega (arith, e) in z) (columns-within r n e os (All-tail h))
columns-within r n e (value v ∷ os) h = cons tt (columns-within r n e os (All-tail h))

change-within : (n : ℕ) (t : Schema) (c : Change) (rows : List Row) → n ≡ length t.columns → FitsTable t c → All (Within n) (operands_in (tests c))
    → All (λ r. length r ≡ n) rows → All (ChangesWithin c) rows
change-within n t (insert os) rows d f w h = All-every (λ r. tt) rows
change-within n t (delete g) rows d f w h = All-map (λ r e. columns-within r n e (operands_in g) w) h
change-within n t (update ss g) rows d f w h =
    All-map (λ r e. (subst (λ (n : ℕ). All (λ (s : ℕ × Value). s.0 < n) ss) (sym d ∙ sym e) f, columns-within r n e (operands_in g) w)) h

module _ (stays : StaysUndropped) (lent : Lengths) (p : Plain) (n : ℕ) (us : List ℤ) (k : Key) (W : WellFormed p) (small : Store32 p) (A : Asked lent p k) (C : Ready p n us) where
  abbrev q : Query
  q = query_at p k.query

  abbrev u : Update
  u = update_at p n

  abbrev t : Table
  t = table_at p u.table

  fits : (u.table < length p.tables) × FitsTable t.schema u.change
  fits = All-at n no_update C.there W.updates_fit

  abbrev after_it : Table
  after_it = record { schema = t.schema; rows = changed u.change us (remaining t u.change) }

  -- the rows of a table after the update
  abbrev rows_after : ℕ → List Row
  rows_after i = (table_at (changed_by p n us) i).rows

  other-table : (i : ℕ) → (i ≡ u.table → ⊥) → rows_after i ≡ (table_at p i).rows
  unfolding changed_by
  other-table i ne = ap (λ (t : Table). t.rows) (get_or-set_other p.tables u.table i after_it no_table ne)

  same_table : (i : ℕ) → i ≡ u.table → rows_after i ≡ changed u.change us (remaining t u.change)
  unfolding changed_by
  same_table i e =
      ap (λ (i : ℕ). (get_or (set p.tables u.table after_it) i no_table).rows) e
      ∙ ap (λ (t : Table). t.rows) (get_or-set_same p.tables u.table after_it no_table fits.0)

  before : (i : ℕ) → i ≡ u.table → t.rows ≡ (table_at p i).rows
  before i e = ap (λ (i : ℕ). (table_at p i).rows) (sym e)

  -- the rows that the change finds are of the table's width, in numbers of 32 bits
  found_rows : All (IsRow (length t.schema.columns)) (remaining t u.change)
  found_rows = remaining-has t u.change (All-both (All-at u.table no_table fits.0 W.rows_wide) (All-at u.table no_table fits.0 small.rows))

  within : All (ChangesWithin u.change) (remaining t u.change)
  within =
      change-within (length t.schema.columns) t.schema u.change (remaining t u.change) refl fits.1 (All-at n no_update C.there W.updates_in).tested_in
      (remaining-has t u.change (All-at u.table no_table fits.0 W.rows_wide))

  first-is : q.table ≡ u.table → side_of q u ≡ first
  unfolding side_of
  first-is e = ap (λ (b : Bool). cond b first (second_side q.second u.table)) (eq-eqb q.table u.table e)

  -- with these rows of the other table
  stays-beside : (m : Option Second) (s : Side) → q.second ≡ m → side_of q u ≡ s → is_side s ≡ true → drops_key p n us k ≡ false
      → (others : List Row) → All (StandsBeside q s) others
      → answer q k.values (rows_beside m s (changed u.change us (remaining t u.change)) others) ≡ answer q k.values (rows_beside m s t.rows others)
  unfolding drops_key
  stays-beside m s d e is free others b =
      let c : Change = u.change in
      let found : List Row = remaining t c in
      subst (λ (m : Option Second). answer q k.values (rows_beside m s (changed c us found) others)
      ≡ answer q k.values (rows_beside m s (pushed t c ++ found) others)) d
      (subst (λ (s : Side). answer q k.values (rows_beside q.second s (changed c us found) others)
      ≡ answer q k.values (rows_beside q.second s (pushed t c ++ found) others)) e
      (stays (length t.schema.columns) q k.values u us (pushed t c) found others A.values found_rows within
      (subst (λ (s : Side). All (StandsBeside q s) others) (sym e) b) (ap is_side e ∙ is) free))
      ∙ ap (λ (l : List Row). answer q k.values (rows_beside m s l others)) (pushed-remaining t c)

  answer-over : (s : Option Second) → q.second ≡ s → SecondFits p.tables q s → drops_key p n us k ≡ false
      → answer q k.values (rows_over (changed_by p n us).tables q s) ≡ answer q k.values (rows_over p.tables q s)
  unfolding drops_key side_of
  answer-over none d f m = go (ℕ_discrete q.table u.table)
    where
      go : Dec (q.table ≡ u.table) → answer q k.values (rows_after q.table) ≡ answer q k.values (table_at p q.table).rows
      go (yes e) =
          ap (answer q k.values) (same_table q.table e)
          ∙ stays-beside none first d (first-is e) refl m [] nil
          ∙ ap (answer q k.values) (before q.table e)
      go (no ne) = ap (answer q k.values) (other-table q.table ne)
  answer-over (some s) d f m = go (ℕ_discrete q.table u.table) (ℕ_discrete s.table u.table)
    where
      rows₁ : List Row
      rows₁ = (table_at p q.table).rows

      rows₂ : List Row
      rows₂ = (table_at p s.table).rows

      second_is : (q.table ≡ u.table → ⊥) → s.table ≡ u.table → side_of q u ≡ second
      second_is ne e =
          ap (λ (b : Bool). cond b first (second_side q.second u.table)) (ne_eqb q.table u.table ne)
          ∙ ap (λ (o : Option Second). second_side o u.table) d ∙ ap (λ (b : Bool). cond b second neither) (eq-eqb s.table u.table e)

      start_is : start_of q second ≡ s.start
      start_is = ap second_start d

      wide : All (λ r. length r ≡ start_of q second) rows₁
      wide = All-map (λ r h. h ∙ sym f.1 ∙ sym start_is) (All-at q.table no_table (All-at k.query no_query A.there W.queries_fit).there W.rows_wide)

      go : Dec (q.table ≡ u.table) → Dec (s.table ≡ u.table)
          → answer q k.values (pairs (rows_after q.table) (rows_after s.table)) ≡ answer q k.values (pairs rows₁ rows₂)
      go (yes e) (yes h) = absurd (f.2 (h ∙ sym e))
      go (yes e) (no ne) =
          ap (answer q k.values) (ap₂ pairs (same_table q.table e) (other-table s.table ne))
          ∙ stays-beside (some s) first d (first-is e) refl m rows₂ (All-every (λ o. tt) rows₂)
          ∙ ap (λ (l : List Row). answer q k.values (pairs l rows₂)) (before q.table e)
      go (no ne) (yes h) =
          ap (answer q k.values) (ap₂ pairs (other-table q.table ne) (same_table s.table h))
          ∙ stays-beside (some s) second d (second_is ne h) refl m rows₁ wide
          ∙ ap (λ (l : List Row). answer q k.values (pairs rows₁ l)) (before s.table h)
      go (no ne) (no nh) = ap (answer q k.values) (ap₂ pairs (other-table q.table ne) (other-table s.table nh))

  answer_stays : drops_key p n us k ≡ false → answer q k.values (rows_for (changed_by p n us) q) ≡ answer q k.values (rows_for p q)
  answer_stays m = answer-over q.second refl (All-at k.query no_query A.there W.pairs_fit) m

  changed-keeps : (lowest_of (ask_conditions lent (changed_by p n us) k) ≡ 0) × (drops_key p n us k ≡ false → SameAnswer (changed_by p n us) p k)
  unfolding changed_by
  changed-keeps = (asked-still lent p (changed_by p n us) k A refl A.there refl, λ m. record-stays p (changed_by p n us) k refl (answer_stays m))

-- an update leaves every question that could be asked, and the record of each whose key it does not drop
pub change_keeps : StaysUndropped → (lent : Lengths) (p : Plain) (n : ℕ) (us : List ℤ) (k : Key) → WellFormed p → Store32 p
    → lowest_of (ask_conditions lent p k) ≡ 0 → refusal lent p (change n us) ≡ 0
    → (lowest_of (ask_conditions lent (changed_by p n us) k) ≡ 0) × (drops_key p n us k ≡ false → SameAnswer (changed_by p n us) p k)
change_keeps stays lent p n us k W small a h = changed-keeps stays lent p n us k W small (key-asked lent p k a) (update-taken lent p n us h).1
