-- An update gets from a sound state what it gets from the plain store, and leaves the plain store's rows in the cells. Assumes nothing.
use mathlib.Core.Path.{◌≡◌, refl, sym, ap, ap₂, ◌∙◌, subst, subst₂}
use mathlib.Core.Bool.{Bool, true, false, not, ◌&&◌, cond}
use mathlib.Core.List.{List, []}
use Prim.Native.Nat.{ℕ, ◌+◌, ◌*◌, ◌≤◌, ◌<◌}
use native.Mathlib.Omega.{arith}
use borrow.Author.Tests.{leb-false, le-leb, eq-eqb}
use lib.Dec.{eqb, leb}
use lib.IntN.{ℤ}
use lib.ListN.{length, get_or, take, set}
use lib.Seq.{get_or-take, length-take-le, take-set-lt, take-take}
use Rattle.lists.proofs.Bools.{and_both}
use Rattle.lists.proofs.Places.{All-at}
use Rattle.meaning.specs.Meaning.{Row, changed, rows_changed}
use Rattle.meaning.specs.Names.{Schema}
use Rattle.meaning.specs.Statement.{Change, insert, delete, update}
use Rattle.meaning.specs.Plain as P
use Rattle.meaning.specs.Plain.{Plain, is_insert, full, rows, other_lengths, refusal, changed_by, rows_by}
use Rattle.meaning.specs.Refusals.{or_else}
use Rattle.meaning.specs.Call.{change}
use Rattle.meaning.proofs.Accepted.{Ready, update-taken}
use Rattle.statement.specs.declared.Table.{Table}
use Rattle.statement.specs.declared.Update.{Update}
use Rattle.statement.specs.Compiled.{no_table, insert_form, no_update, form_of_change}
use Rattle.statement.specs.Sound.{AgreesUpdate}
use Rattle.statement.specs.SoundTest.{sound_form}
use Rattle.statement.proofs.SoundUpdate.{update-parts}
use Rattle.table.specs.Rows.{rows_used}
use Rattle.table.specs.Changed.{area_fits, change_fits, change_of, cells_after}
use Rattle.table.proofs.ChangedMeans.{starts_first, fits-sound, change-count, change-used, cells-length, rows_before_lem, rows_behind}
use Rattle.slots.specs.declared.SlotList.{SlotList}
use Rattle.slots.specs.Order.{drop_by}
use Rattle.cache.specs.declared.State.{State}
use Rattle.cache.specs.Sound.{used_tables, areas_of, schemas_in, table_at, update_at, is_full}
use Rattle.cache.specs.SoundTest.{sound_state}
use Rattle.cache.specs.Means.{tables_from, Means, Typed}
use Rattle.cache.specs.Calls.{area_start}
use Rattle.cache.specs.Gives.{update_of, update_gives, update_refusal, pushed_by, is_dropped, with_rows, with_change, update_refused, update_done}
use Rattle.cache.specs.Run.{Store, got_of, lent_by, step_update, step}
use Rattle.cache.proofs.Refinement.Areas.{table_in, tables-set}
use Rattle.cache.proofs.Invariant.Sound.{Sound, sound-is, rows_at, start-at, update-at}
use Rattle.cache.proofs.Refinement.Pushed.{some_rows, rows-many}
use Rattle.cache.proofs.Refinement.Standing.{few_tables, few_updates, update-table, few_columns, columns-at, area-inside}
use Rattle.cache.proofs.Refinement.StoodFor.{table-at, update-count, update_agrees}
use Rattle.cache.proofs.Refinement.Refused.{Same, settled_same, same-else, unfit-is, lengths-same}

insert-form : (c : Change) → eqb (form_of_change c) insert_form ≡ is_insert c
insert-form (insert os) = refl
insert-form (delete g) = refl
insert-form (update ss g) = refl

-- ---- an update of a table, on a state that stands for the plain store, with cells of the opening's length

module _ (s : State) (T : Typed s) (S : Sound s) (cells : List ℤ) (p : Plain) (m : Means s cells p) (n : ℕ) (there : n < s.update_count)
    (long : length cells ≡ s.cells) where
  abbrev u : Update
  u = update_at s n

  abbrev i : ℕ
  i = u.table

  abbrev t : Table
  t = table_at s i

  abbrev start : ℕ
  start = area_start s i

  agrees : AgreesUpdate u (P.update_at p n)
  agrees = update_agrees s T S cells p m n there

  table-there : i < s.table_count
  table-there = update-table s T S n there

  table_is : P.table_at p (P.update_at p n).table ≡ table_in t start cells
  table_is = ap (P.table_at p) (sym agrees.table_is) ∙ table-at s T S cells p m i table-there

  inside : start + t.count * t.capacity ≤ length cells
  inside = subst (λ k. start + t.count * t.capacity ≤ k) (sym long) (area-inside s T S i table-there)

  rows-counted : length (rows_used t start cells) ≡ t.rows
  rows-counted = rows-many s S (few_tables s T S) i table-there cells long

  form_is : eqb u.form insert_form ≡ is_insert (P.update_at p n).change
  form_is = ap (λ k. eqb k insert_form) agrees.form_is ∙ insert-form (P.update_at p n).change

  -- 12
  pub full_is : is_full s u ≡ full p n
  unfolding full
  full_is =
      ap₂ (λ (a : Bool) (k : ℕ). a && (not t.ring && leb t.capacity k)) form_is (sym rows-counted)
      ∙ ap (λ (x : P.Table). is_insert (P.update_at p n).change && (not x.schema.ring && leb x.schema.capacity (length x.rows))) (sym table_is)

  -- the rows that it changes
  rows-were : rows_used t start cells ≡ (P.table_at p (P.update_at p n).table).rows
  rows-were = ap (λ (x : P.Table). x.rows) (sym table_is)

  -- the row that it pushes out, or none
  pub pushed-is : pushed_by s cells u ≡ P.pushed_by p n
  pushed-is =
      ap₂ (λ (a : Bool) (k : ℕ). cond (t.ring && (a && leb t.capacity k)) (take 1 (rows_used t start cells)) []) form_is (sym rows-counted)
      ∙ ap (λ (x : P.Table). P.pushed x (P.update_at p n).change) (sym table_is)

  module _ (us : List ℤ) (room : full p n ≡ false) where
    eight : length u.settings ≡ 8
    eight = (All-at n no_update (omega (arith, few_updates s T S)) T.updates_fit).eight

    -- an INSERT into a table that is no ring has a row free
    free : u.form ≡ 0 → t.ring ≡ false → t.rows < t.capacity
    free z r =
        leb-false t.capacity t.rows
        (ap₂ (λ (a b : Bool). a && (not b && leb t.capacity t.rows)) (sym (eq-eqb u.form 0 z)) (sym r) ∙ full_is ∙ room)

    area-fits : area_fits t start (length cells) ≡ true
    unfolding area_fits
    area-fits =
        and_both (leb (start + t.count * t.capacity) (length cells)) _ (le-leb (start + t.count * t.capacity) (length cells) inside)
        (le-leb t.rows t.capacity (rows_at s T S i table-there))

    -- it fits
    pub update_fits : change_fits u t start cells ≡ true
    update_fits =
        fits-sound u t start cells area-fits (few_columns s T S i table-there)
        (ap (λ c. sound_form u.form c u) (sym (columns-at s T S i table-there))
        ∙ (update-parts (schemas_in s) u (update-at s T S n there)).form_sound)
        (start-at s T S i table-there) (some_rows s S (few_tables s T S) i table-there) free

    abbrev after : List ℤ
    after = cells_after u t start cells us

    abbrev used : ℕ
    used = (change_of u t start cells us).rows

    abbrev place : ℕ
    place = (change_of u t start cells us).oldest

    -- the rows inserted, matched or deleted
    pub count_is : (change_of u t start cells us).count ≡ rows_by p n us
    unfolding rows_by
    count_is =
        change-count u (P.update_at p n) agrees t start cells us eight update_fits
        ∙ ap (rows_changed (P.update_at p n).change us) rows-were

    -- the table's rows after it
    rows_then : rows_used (with_rows t used place) start after
        ≡ changed (P.update_at p n).change us (P.remaining (P.table_at p (P.update_at p n).table) (P.update_at p n).change)
    rows_then =
        change-used u (P.update_at p n) agrees t start cells us eight update_fits (starts_first t (start-at s T S i table-there)) (with_rows t used place) refl refl refl
        ∙ ap (λ (x : P.Table). changed (P.update_at p n).change us (P.remaining x (P.update_at p n).change)) (sym table_is)

    -- and all tables
    tables_then : (changed_by p n us).tables ≡ tables_from 0 (take s.table_count (set s.tables i (with_rows t used place))) after
    unfolding changed_by
    tables_then =
        let e : get_or (used_tables s) i no_table ≡ t = get_or-take s.table_count s.tables i no_table table-there in
        let k : areas_of (take i (used_tables s)) ≡ start = ap areas_of (take-take i s.table_count s.tables (omega (arith, table-there))) in
        let l : length (used_tables s) ≡ s.table_count = length-take-le s.table_count s.tables (few_tables s T S) in
        sym
        (ap (λ ts. tables_from 0 ts after) (take-set-lt s.table_count s.tables i (with_rows t used place) table-there)
        ∙ ap (λ x. tables_from 0 (set (used_tables s) i (with_rows x used place)) after) (sym e)
        ∙ tables-set (used_tables s) S.rows i (subst (λ n. i < n) (sym l) table-there) used place cells after (cells-length u t start cells us eight)
        (λ a c n h. rows_before_lem u t start cells us eight a c n (subst (λ k. a + n * c ≤ k) k h))
        (λ a c n h. rows_behind u t start cells us eight a c n (subst₂ (λ (k : ℕ) (x : Table). k + x.count * x.capacity ≤ a) k e h))
        ∙ ap₂ (λ (ts : List P.Table) (x : P.Table). set ts i x) (sym m.tables_are)
        (ap₂ (λ (x : Table) (k : ℕ). table_in (with_rows x used place) k after) e k
        ∙ ap₂ (λ (x : Schema) (r : List Row). record { schema = x; rows = r }) (ap (λ (x : P.Table). x.schema) (sym table_is)) rows_then)
        ∙ ap (λ j. set p.tables j (record { schema = (P.table_at p (P.update_at p n).table).schema; rows = changed (P.update_at p n).change us (P.remaining (P.table_at p (P.update_at p n).table) (P.update_at p n).change) })) agrees.table_is)

    -- what it leaves stands for what the plain store is then
    pub change-stands : (slots : SlotList) → Means (with_change s i (with_rows t used place) slots) after (changed_by p n us)
    unfolding with_change changed_by
    change-stands slots = record {
      cells_are = m.cells_are;
      memory_is = m.memory_is;
      tables_are = tables_then;
      queries_are = m.queries_are;
      updates_are = m.updates_are;
      note_is = refl;
    }

-- ---- the whole call

module _ (s : Store) (p : Plain) (T : Typed s.state) (h : sound_state s.state ≡ true) (m : Means s.state s.cells p) (n : ℕ) (us : List ℤ) where
  S : Sound s.state
  S = sound-is s.state h

  count : length p.updates ≡ s.state.update_count
  count = update-count s.state T S s.cells p m

  -- the number that it gets
  pub update-number : update_refusal s.state (lent_by s) n (length us) ≡ refusal (lent_by s) p (change n us)
  unfolding update_refusal refusal
  update-number =
      same-else 2 _ _ _ _ (unfit-is s.state s.cells p h m (lent_by s))
      (λ a. same-else 10 (leb s.state.update_count n) _ _ _ (ap (λ k. leb k n) (sym count))
      (λ b.
      let there : n < s.state.update_count = subst (λ k. n < k) count (leb-false (length p.updates) n b) in
      ap₂ (λ (k : ℕ) (f : Bool). or_else (not (eqb (length us) k)) 11 (or_else f 12 0))
      (update_agrees s.state T S s.cells p m n there).parameters_are
      (full_is s.state T S s.cells p m n there (lengths-same s.state s.cells p m (lent_by s) a))))

  -- an update that is not refused, on the plain store
  module _ (e : refusal (lent_by s) p (change n us) ≡ 0) where
    taken : (other_lengths (lent_by s) p ≡ false) × Ready p n us
    taken = update-taken (lent_by s) p n us e

    pub update-there : n < s.state.update_count
    update-there = subst (λ k. n < k) count taken.1.there

    pub update-long : length s.cells ≡ s.state.cells
    update-long = lengths-same s.state s.cells p m (lent_by s) taken.0

    pub done-same : Same [] (step_update s (update_done s.state s.cells (update_at s.state n) us)) (changed_by p n us, rows (rows_by p n us))
    unfolding update_done
    done-same = (
      ap (λ k. got_of [] (rows k)) (count_is s.state T S s.cells p m n update-there update-long us taken.1.room),
      change-stands s.state T S s.cells p m n update-there update-long us taken.1.room (drop_by (is_dropped s.state s.cells (update_at s.state n) us) s.state.slots),
    )

  pub update_same : Same [] (step s (change n us)) (P.step (lent_by s) p (change n us))
  unfolding step update_of
  update_same =
      settled_same (step_update s) (update_done s.state s.cells (update_at s.state n) us) (λ k. update_gives (update_refused s.state k) s.cells) [] s p
      (changed_by p n us, rows (rows_by p n us)) m (λ k. refl) _ _ update-number done-same
