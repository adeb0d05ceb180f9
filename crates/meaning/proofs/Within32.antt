-- Where every value handed in has 32 bits, so has every value of a row that calls reach, and the record of every question reads back as its answer.
-- Assumes nothing.
use mathlib.Core.Path.{◌≡◌, refl, sym, subst}
use mathlib.Core.Bool.{Bool, true, false, not, cond}
use mathlib.Core.Option.{Option, none, some}
use mathlib.Core.List.{List, [], ◌∷◌, ◌++◌, map}
use Prim.Native.Nat.{ℕ, zero, suc, ◌+◌, ◌<◌}
use native.Mathlib.Omega.{arith}
use lib.IntN.{ℤ, pos}
use lib.ListN.{length, set, length-map}
use borrow.Author.Tests.{ltb-false}
use Rattle.lists.specs.Lists.{All, nil, cons, pairs}
use Rattle.lists.proofs.Bools.{or_right, not-false}
use Rattle.lists.proofs.Lists.{All-head, All-tail, All-map, All-append, All-left, All-right, All-keep, All-image, All-every, All-get_or, any_false}
use Rattle.lists.proofs.Places.{All-at, All-set}
use Rattle.meaning.specs.Condition.{Where}
use Rattle.meaning.specs.Tokens.{Name}
use Rattle.meaning.specs.Grammar as G
use Rattle.meaning.specs.Grammar.{Given, mark, items, Sentence}
use Rattle.meaning.specs.Reader.{sentence}
use Rattle.meaning.specs.Limits.{most_listed, list_givens, givens, mark_in, is_within32, outside32, many_items, rows_outside, many_marks, many_comparisons, deep, long_name, big_constant, past_limit}
use Rattle.meaning.specs.Names.{columns_of}
use Rattle.meaning.specs.Statement.{Value, constant, parameter, Operand, Second, Query, Change, insert, delete, update, Update, numbered, numbered_all, settings, statement_of}
use Rattle.meaning.specs.Meaning.{Row, cell, value_of, meets_where, takes, selected, answer, assigned, updated_row, changed}
use Rattle.meaning.specs.Key.{Key}
use Rattle.meaning.specs.Plain.{Lengths, Table, Plain, schemas, no_table, no_query, no_update, table_at, query_at, update_at, rows_over, rows_for, record_of, remaining, too_many, Opening, opened, ask_conditions, conditions, refusal, refused, answered, adding, text_added, changed_by, does, guard, step, after, rows_listed, Note, with_note, committed}
use Rattle.meaning.specs.Call.{Call, add, ask, change, flush, Is32, Call32, propose, commit, withdraw}
use Rattle.meaning.specs.Exact.{IsRow}
use Rattle.meaning.specs.Demand.{Acceptable, AnswerReadsBack}
use Rattle.meaning.specs.Record.{ReadsBack}
use Rattle.meaning.proofs.Accepted.{clear, text-taken, key-asked, commit-noted}
use Rattle.meaning.proofs.Pushed.{remaining-has}
use Rattle.meaning.proofs.WellFormed.{SecondFits, WellFormed, Reads, opened-well, after-well}
use Rattle.meaning.proofs.Record.{record_reads_back}

-- a value of a statement
abbrev pub Value32 : Value → Type 0
Value32 (constant z) = Is32 z
Value32 (parameter k) = Unit {0}

-- the constants that a change writes
abbrev pub Writes32 : Change → Type 0
Writes32 (insert os) = All Value32 os
Writes32 (delete g) = Unit {0}
Writes32 (update ss g) = All (λ (s : ℕ × Value). Value32 s.1) ss

abbrev pub Row32 : Row → Type 0
Row32 r = All Is32 r

-- the values of the note: a commit brings none of its own
abbrev pub Note32 : Option Note → Type 0
Note32 none = Unit {0}
Note32 (some x) = All Is32 x.values

pub record Store32 (p : Plain) : Type 0 where
  pub rows : All (λ (t : Table). All Row32 t.rows) p.tables
  pub writes : All (λ (u : Update). Writes32 u.change) p.updates
  pub note : Note32 p.pending

pub opened-32 : (o : Opening) → Store32 (opened o)
opened-32 o = record { rows = nil; writes = nil; note = tt }

-- ---- constants of a text that is not refused

module _ (s : Sentence) (h : past_limit s ≡ false) where
  constants-in : All (λ (v : Given). outside32 v ≡ false) (list_givens s)
  unfolding past_limit
  constants-in =
      All-left (list_givens s) _
      (any_false outside32 (givens s)
      (or_right (long_name s) (big_constant s)
      (or_right (deep s) _ (or_right (many_comparisons s) _ (or_right (many_marks s) _ (or_right (rows_outside s) _ (or_right (many_items s) _ h)))))))

numbered-32 : (m : ℕ) (v : Given) → outside32 v ≡ false → Value32 (numbered m v)
numbered-32 m (G.constant z) h = not-false (is_within32 z) h
numbered-32 m mark h = tt

all-numbered-32 : (m : ℕ) (vs : List Given) → All (λ v. outside32 v ≡ false) vs → All Value32 (numbered_all m vs)
all-numbered-32 m [] h = nil
all-numbered-32 m (v ∷ vs) h = cons (numbered-32 m v (All-head h)) (all-numbered-32 (m + mark_in v) vs (All-tail h))

settings-32 : (columns : List Name) (m : ℕ) (ss : List (Name × Given)) → All (λ v. outside32 v ≡ false) (map (λ (s : Name × Given). s.1) ss)
    → All (λ (s : ℕ × Value). Value32 s.1) (settings columns m ss)
settings-32 columns m [] h = nil
settings-32 columns m (s ∷ ss) h = cons (numbered-32 m s.1 (All-head h)) (settings-32 columns (m + mark_in s.1) ss (All-tail h))

statement-32 : (p : Plain) → Store32 p → (s : Sentence) → past_limit s ≡ false → Store32 (adding p (statement_of (schemas p) s))
unfolding statement_of
statement-32 p S (G.table t cs ring z) h = record { rows = All-append S.rows (cons nil nil); writes = S.writes; note = tt }
statement-32 p S (G.select cs t w) h = record { rows = S.rows; writes = S.writes; note = tt }
statement-32 p S (G.pair cs t u w) h = record { rows = S.rows; writes = S.writes; note = tt }
statement-32 p S (G.insert t vs) h =
    record { rows = S.rows; writes = All-append S.writes (cons (all-numbered-32 0 (items vs) (constants-in (G.insert t vs) h)) nil); note = tt }
statement-32 p S (G.update t ss w) h =
    record { rows = S.rows; writes = All-append S.writes (cons (settings-32 (columns_of (schemas p) t) 0 (items ss) (constants-in (G.update t ss w) h)) nil); note = tt }
statement-32 p S (G.delete t w) h = record { rows = S.rows; writes = All-append S.writes (cons tt nil); note = tt }

-- ---- an update

module _ (us : List ℤ) (small : All Is32 us) where
  value-32 : (v : Value) → Value32 v → Is32 (value_of us v)
  value-32 (constant z) h = h
  value-32 (parameter zero) h = refl
  value-32 (parameter (suc k)) h = All-get_or k (pos 0) refl small

  assigned-32 : (ss : List (ℕ × Value)) (r : Row) → All (λ (s : ℕ × Value). Value32 s.1) ss → Row32 r → Row32 (assigned ss us r)
  assigned-32 [] r h k = k
  assigned-32 (s ∷ ss) r h k =
      assigned-32 ss (set r s.0 (value_of us s.1)) (All-tail h) (All-set s.0 (value_of us s.1) (value-32 s.1 (All-head h)) k)

  updated-32 : (ss : List (ℕ × Value)) (g : Where Operand) (r : Row) → All (λ (s : ℕ × Value). Value32 s.1) ss → Row32 r → Row32 (updated_row ss g us r)
  updated-32 ss g r h k = go (meets_where g us r)
    where
      go : (b : Bool) → Row32 (cond b (assigned ss us r) r)
      go true = assigned-32 ss r h k
      go false = k

  changed-32 : (c : Change) (rows : List Row) → Writes32 c → All Row32 rows → All Row32 (changed c us rows)
  unfolding changed
  changed-32 (insert os) rows h k = All-append k (cons (All-image (value_of us) (All-map value-32 h)) nil)
  changed-32 (delete g) rows h k = All-keep (λ (r : Row). not (meets_where g us r)) (λ r e f. e) k
  changed-32 (update ss g) rows h k = All-image (updated_row ss g us) (All-map (λ r e. updated-32 ss g r h e) k)

  by-32 : (p : Plain) (n : ℕ) → Store32 p → Store32 (changed_by p n us)
  unfolding changed_by
  by-32 p n S =
      let u : Update = update_at p n in
      let t : Table = table_at p u.table in
      record {
        rows = All-set u.table (record { schema = t.schema; rows = changed u.change us (remaining t u.change) })
            (changed-32 u.change (remaining t u.change) (All-get_or n no_update tt S.writes) (remaining-has t u.change (All-get_or u.table no_table nil S.rows))) S.rows;
        writes = S.writes;
        note = tt;
      }

-- ---- calls

-- another note, or none
pub noted-32 : (p : Plain) → Store32 p → (o : Option Note) → Note32 o → Store32 (with_note p o)
noted-32 p S o n = record { rows = S.rows; writes = S.writes; note = n }

does-32 : (lent : Lengths) (p : Plain) → Store32 p → (c : Call ℕ) → Call32 c → refusal lent p c ≡ 0 → Store32 (does p c).0
unfolding text_added
does-32 lent p S (add text) v h =
    let T : (s : Sentence) × (sentence text ≡ some s) × Acceptable lent p text s = text-taken lent p text h in
    subst (λ (o : Option Sentence). Store32 (text_added p o).0) (sym T.1) (statement-32 p S T.0 T.2.within)
does-32 lent p S (ask k buffer) v h = S
does-32 lent p S (change n us) v h = by-32 us v p n S
does-32 lent p S flush v h = noted-32 p S none tt
does-32 lent p S (propose n us) v h = noted-32 p S (some (record { update = n; values = us })) v
does-32 lent p S commit v h =
    let (x, e, l) = commit-noted lent p h in
    subst (λ (o : Option Note). Store32 (committed p o).0) (sym e) (by-32 x.values (subst Note32 e S.note) p x.update S)
does-32 lent p S withdraw v h = noted-32 p S none tt

-- every call with values of 32 bits keeps it
pub step-32 : (lent : Lengths) (p : Plain) → Store32 p → (c : Call ℕ) → Call32 c → Store32 (step lent p c).0
step-32 lent p S c v = go (refusal lent p c) refl
  where
    go : (k : ℕ) → refusal lent p c ≡ k → Store32 (guard k p refused (does p c)).0
    go zero e = does-32 lent p S c v e
    go (suc k) e = S

pub after-32 : (lent : Lengths) (p : Plain) → Store32 p → (cs : List (Call ℕ)) → All Call32 cs → Store32 (after lent p cs)
after-32 lent p S [] v = S
after-32 lent p S (c ∷ cs) v = after-32 lent (step lent p c).0 (step-32 lent p S c (All-head v)) cs (All-tail v)

-- ---- records

-- the rows of an answer
pub answer-rows : (q : Query) (vs : List ℤ) (rows : List Row) → All Row32 rows → All (IsRow (length q.selected)) (answer q vs rows)
unfolding answer
answer-rows q vs rows h =
    All-image (selected q)
    (All-keep (takes q vs) (λ r e t. (length-map q.selected (cell r), All-image (cell r) (All-every (λ i. All-get_or i (pos 0) refl e) q.selected))) h)

-- the cells of pairs are those of their rows
pub pairs-32 : (rs os : List Row) → All (All Is32) rs → All (All Is32) os → All (All Is32) (pairs rs os)
pairs-32 [] os h k = nil
pairs-32 (r ∷ rs) os h k = All-append (All-image (λ (o : Row). r ++ o) (All-map (λ o e. All-append (All-head h) e) k)) (pairs-32 rs os (All-tail h) k)

pub over-32 : (ts : List Table) (q : Query) (s : Option Second) → q.table < length ts → SecondFits ts q s → All (λ (t : Table). All (All Is32) t.rows) ts
    → All (All Is32) (rows_over ts q s)
over-32 ts q none h f S = All-at q.table no_table h S
over-32 ts q (some s) h f S = pairs-32 _ _ (All-at q.table no_table h S) (All-at s.table no_table f.0 S)

-- the record of a question that is there reads back as its answer, also with later bytes behind it
pub record-listed : (p : Plain) → WellFormed p → Store32 p → (k : Key) → k.query < length p.queries → too_many p k ≡ false → (later : List ℕ)
    → ReadsBack (record_of p k ++ later) (length (query_at p k.query).selected) (rows_listed p k)
unfolding record_of too_many
record-listed p W S k h m later =
    let q : Query = query_at p k.query in
    let f : Reads p q = All-at k.query no_query h W.queries_fit in
    record_reads_back (length q.selected) (answer q k.values (rows_for p q)) later f.some_selected f.few_selected
    (ltb-false most_listed (length (answer q k.values (rows_for p q))) m)
    (answer-rows q k.values (rows_for p q) (over-32 p.tables q q.second f.there (All-at k.query no_query h W.pairs_fit) S.rows))

-- an answer is none of a refused question, which is there then
asked-answered : (n : ℕ) (p : Plain) (x r : List ℕ) → (guard n p refused (p, answered x)).1 ≡ answered r → (n ≡ 0) × (x ≡ r)
asked-answered zero p x r e = (refl, cc)
asked-answered (suc n) p x r e = absurd (let z : ◌≡◌ {A = ℕ} 0 1 = cc in omega arith)

pub answer_reads_back : AnswerReadsBack
unfolding refusal
answer_reads_back o cs v k buffer r e later =
    let p : Plain = after o.lent (opened o) cs in
    let a = asked-answered (refusal o.lent p (ask k buffer)) p (record_of p k) r e in
    let none = (clear 0 (conditions o.lent p (ask k buffer)) refl).0 a.0 in
    let there = (key-asked o.lent p k ((clear 0 (ask_conditions o.lent p k) refl).1 (All-left (ask_conditions o.lent p k) _ none))).there in
    let few = All-head (All-right (ask_conditions o.lent p k) none) in
    subst (λ (x : List ℕ). ReadsBack (x ++ later) (length (query_at p k.query).selected) (rows_listed p k)) a.1
    (record-listed p (after-well o.lent (opened o) (opened-well o) cs) (after-32 o.lent (opened o) (opened-32 o) cs v) k there few later)
