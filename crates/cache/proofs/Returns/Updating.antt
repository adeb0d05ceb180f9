-- What each return of an update owes, over plain variables. Assumes nothing.
use mathlib.Core.Path.{◌≡◌, refl, sym, ap, subst, ◌∙◌}
use mathlib.Core.Bool.{Bool, true}
use mathlib.Core.List.{List}
use Prim.Native.Nat.{ℕ, ◌-◌, ◌≤◌, ◌<◌}
use native.Mathlib.Omega.{arith}
use borrow.Author.Tests.{leb-false}
use lib.IntN.{ℤ}
use lib.ListN.{length, take, get_or, set, length-map}
use lib.Seq.{length-take-le}
use Rattle.lists.specs.Lists.{All}
use Rattle.lists.proofs.Lists.{All-head, All-tail}
use Rattle.lists.proofs.Places.{get_or-inside}
use Rattle.meaning.specs.Limits.{most_tables, most_queries, most_updates, most_slots}
use Rattle.meaning.specs.Plain.{Lengths}
use Rattle.meaning.proofs.Accepted.{clear}
use Rattle.statement.specs.declared.Table.{Table}
use Rattle.statement.specs.declared.Update.{Update}
use Rattle.statement.specs.Compiled.{no_table, no_update}
use Rattle.statement.specs.Catalog.{schema_of}
use Rattle.statement.specs.SoundTest.{sound_update}
use Rattle.statement.proofs.SoundUpdate.{update-parts}
use Rattle.table.specs.Changed.{change_of, cells_after}
use Rattle.table.specs.declared.changes.Changed.{Changed}
use Rattle.slots.specs.declared.SlotList.{SlotList}
use Rattle.slots.specs.Order.{sound_slots, is_marked, drop_of}
use Rattle.slots.specs.Keys.{held_slots}
use Rattle.slots.proofs.Laws.{is-sound}
use Rattle.std.specs.Prelude.{None, Result, Ok, Err}
use Rattle.std.specs.Result.{IsErrAnd}
use Rattle.statement.specs.declared.Refusal.{Refusal}
use Rattle.statement.specs.Refusals.{number_of}
use Rattle.table.proofs.Recording.{numbered}
use Rattle.cache.specs.declared.State.{State}
use Rattle.cache.specs.declared.Pending.{Pending}
use Rattle.cache.specs.Sound.{areas_of, used_tables, schemas_in, table_at, update_at, pending_of}
use Rattle.cache.specs.SoundTest.{sound_state}
use Rattle.cache.specs.Private.Marks.{marks_both}
use Rattle.cache.specs.Private.Outcomes.{Takes}
use Rattle.cache.specs.Calls.{lengths_lent, area_start, Updates, change_conditions}
use Rattle.cache.specs.Gives.{update_gives, update_refusal, update_refused, update_of, is_dropped, with_rows, with_change, update_done}
use Rattle.cache.specs.Given.{updated_as}
use Rattle.cache.specs.declared.Changed as D
use Rattle.cache.proofs.Invariant.Sound.{Sound, sound-is, All-first}
use Rattle.cache.proofs.Settled.{settled-refused, settled-done, fit_is}
use Rattle.cache.proofs.Refinement.Pushed.{first-row}
use Rattle.cache.proofs.Returns.SlotsDropped.{drop-marked, drop-fewer, drop-count, marks-matched}

-- ---- an update and its table, whatever stands in past the end

-- the lengths of the arrays
pub record Long (s : State) : Type 0 where
  pub tables : length s.tables ≡ most_tables
  pub updates : length s.updates ≡ most_updates

pub table_below : (s : State) → sound_state s ≡ true → (i : ℕ) → i < s.table_count → i < most_tables
table_below s h i k = omega (arith, (sound-is s h).few_tables)

pub table-read : (s : State) → sound_state s ≡ true → length s.tables ≡ most_tables → (i : ℕ) (d : Table) → i < s.table_count → get_or s.tables i d ≡ table_at s i
table-read s h l i d k = get_or-inside s.tables i d no_table (omega (arith, table_below s h i k))

module _ (s : State) (h : sound_state s ≡ true) (L : Long s) (i : ℕ) (k : i < s.update_count) where
  pub update-below : i < most_updates
  update-below = omega (arith, (sound-is s h).few_updates)

  pub update-read : (d : Update) → get_or s.updates i d ≡ update_at s i
  update-read d = get_or-inside s.updates i d no_update (omega (arith, update-below, L.updates))

  -- its table exists
  pub table-there : (d : Update) → (get_or s.updates i d).table < s.table_count
  table-there d =
      let u : Update = get_or s.updates i d in
      let S : Sound s = sound-is s h in
      let sound : sound_update (schemas_in s) u ≡ true =
      All-first {P = λ (x : Update). sound_update (schemas_in s) x ≡ true} s.update_count s.updates i d (omega (arith, S.few_updates, L.updates)) k S.updates in
      let long : length (schemas_in s) ≡ s.table_count = length-map (used_tables s) schema_of ∙ length-take-le s.table_count s.tables (omega (arith, S.few_tables, L.tables)) in
      omega (arith, (update-parts (schemas_in s) u sound).there)

-- ---- the refusals

module _ (s : State) (l : Lengths) (update values : ℕ) where
  -- an update that is not refused
  pub accepted : update_refusal s l update values ≡ 0 → Takes s l.cells update
  unfolding update_refusal
  accepted e =
      let a = (clear 0 (change_conditions s l update values) refl).0 e in
      let F = fit_is s l (All-head a) in
      record { sound = F.sound; cells_are = F.cells_are; there = leb-false s.update_count update (All-head (All-tail a)) }

module _ (s : State) (cells : List ℤ) (memory : List ℕ) (update : ℕ) (values : List ℤ) where
  abbrev refusal : ℕ
  refusal = update_refusal s (lengths_lent cells memory) update (length values)

  -- refused, nothing is made
  pub not-made : (x : Result D.Changed Refusal) (r : Refusal) → IsErrAnd x (λ (y : Refusal). y ≡ r) → number_of r ≡ refusal → update_gives (updated_as x s) cells ≡ update_of s cells memory update values
  unfolding update_of
  not-made (Ok a) r h e = absurd h
  not-made (Err y) r h e =
      let q : number_of y ≡ refusal = ap number_of h ∙ e in
      ap (λ (k : ℕ). update_gives (update_refused s k) cells) q ∙ settled-refused refusal _ _ (λ z. numbered y (q ∙ z))

  pub made : 0 ≡ refusal → (r : Updates) → r ≡ update_done s cells (update_at s update) values → r ≡ update_of s cells memory update values
  unfolding update_of
  made e r h = h ∙ settled-done refusal _ _ (sym e)

-- ---- what is done

module _ (s : State) (L : Long s) (h : sound_state s ≡ true) (long : length s.slots.order ≡ most_slots) (u : Update) (k : u.table < s.table_count) (cells values : List ℤ) (lent : length cells ≡ s.cells)
    (t : Table) (et : t ≡ table_at s u.table) where
  abbrev test : ℕ → Bool
  test = is_dropped s cells u values

  abbrev start : ℕ
  start = area_start s u.table

  S : Sound s
  S = sound-is s h

  held-few : s.slots.held ≤ length s.slots.order
  held-few = omega (arith, S.slots.few, S.slots.within)

  abbrev marks_for : Table → List Bool
  marks_for t = marks_both s.keys s.slots s.queries s.query_count u t start cells values

  matched : All (λ x. is_marked (marks_for t) x ≡ test x) (held_slots s.slots)
  matched = rw et (marks-matched s S u cells values (first-row s S (omega (arith, S.few_tables, L.tables)) u.table k cells lent u))

  -- the slots that are left
  module _ (gone : List Bool) (g : gone ≡ marks_for t) (left : SlotList) (l : left ≡ drop_of s.slots gone) where
    fewer : left.held ≤ s.slots.held
    fewer = rw (l, g) (drop-fewer test s.slots (marks_for t) matched held-few)

    updated-is : (done : Changed) → done ≡ change_of u t start cells values → (i : ℕ) → i ≡ u.table → (p : Pending) → p ≡ pending_of None → (after : List ℤ) → after ≡ cells_after u t start cells values
        → update_gives
        (record {
          refusal = 0;
          rows = done.count;
          invalidated = s.slots.held - left.held;
          state = record s { tables = set s.tables i (with_rows t done.rows done.oldest); slots = left; pending = p };
        })
        after ≡ update_done s cells u values
    unfolding update_done with_change
    updated-is done d i ei p ep after ea = rw (l, g, drop-count test s.slots (marks_for t) matched held-few, drop-marked test s.slots (marks_for t) matched, d, ei, ep, ea, et)

-- an update that is taken
module _ (s : State) (L : Long s) (cells : List ℤ) (update : ℕ) (A : Takes s (length cells) update) where
  pub few-marked : (sound_slots s.slots ≡ true) × (s.query_count ≤ most_queries)
  few-marked = let S = sound-is s A.sound in (is-sound _ S.slots, S.few_queries)

  -- its table, whose number is read as i
  module _ (d : Update) (i : ℕ) (ei : i ≡ (get_or s.updates update d).table) where
    abbrev v : Update
    v = get_or s.updates update d

    there : v.table < s.table_count
    there = table-there s A.sound L update A.there d

    pub place : i < most_tables
    place = subst (λ (j : ℕ). j < most_tables) (sym ei) (table_below s A.sound v.table there)

    -- the marks of the slots that it drops, and the slots that are left
    module _ (long : length s.slots.order ≡ most_slots) (values : List ℤ) (e : Table) (begin : ℕ) (es : begin ≡ areas_of (take i s.tables)) where
      abbrev w : Table
      w = get_or s.tables i e

      read : w ≡ table_at s v.table
      read = ap (λ (j : ℕ). get_or s.tables j e) ei ∙ table-read s A.sound L.tables v.table e there

      begins : begin ≡ area_start s v.table
      begins = es ∙ ap (λ (j : ℕ). areas_of (take j s.tables)) ei

      module _ (gone : List Bool) (g : gone ≡ marks_both s.keys s.slots s.queries s.query_count v w begin cells values) (left : SlotList) (l : left ≡ drop_of s.slots gone) where
        marked : gone ≡ marks_for s L A.sound long v there cells values A.cells_are w read w
        marked = g ∙ ap (λ (k : ℕ). marks_both s.keys s.slots s.queries s.query_count v w k cells values) begins

        pub left-fewer : left.held ≤ s.slots.held
        left-fewer = fewer s L A.sound long v there cells values A.cells_are w read gone marked left l

        pub made-is : (done : Changed) → done ≡ change_of v w begin cells values → (p : Pending) → p ≡ pending_of None → (after : List ℤ) → after ≡ cells_after v w begin cells values
            → update_gives
            (record {
              refusal = 0;
              rows = done.count;
              invalidated = s.slots.held - left.held;
              state = record s { tables = set s.tables i (with_rows w done.rows done.oldest); slots = left; pending = p };
            })
            after ≡ update_done s cells (update_at s update) values
        made-is done ed p ep after ea =
            updated-is s L A.sound long v there cells values A.cells_are w read gone marked left l done (ed ∙ ap (λ (k : ℕ). change_of v w k cells values) begins) i ei p ep after
            (ea ∙ ap (λ (k : ℕ). cells_after v w k cells values) begins)
            ∙ ap (λ (u : Update). update_done s cells u values) (update-read s A.sound L update A.there d)
