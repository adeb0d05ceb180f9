-- Soundness part by part: what the test of a state says, as a record, both ways; and what it says of the table, the statement or the held slot at a place.
-- Assumes nothing.
use mathlib.Core.Path.{◌≡◌, refl, ap, ◌∙◌, subst}
use mathlib.Core.Bool.{Bool, true, false, not}
use mathlib.Core.List.{List, []}
use Prim.Native.Nat.{ℕ, suc, ◌+◌, ◌*◌, ◌≤◌, ◌<◌}
use native.Mathlib.Nat.{mul-le-mul_right, suc-mul}
use native.Mathlib.Omega.{arith}
use borrow.Author.Tests.{ltb-true, ltb-false, leb-true, leb-false, eqb-true, lt-ltb, le-ltb, le-leb, lt-leb, eq-eqb}
use lib.Dec.{eqb, leb, ltb}
use lib.ListN.{length, take, get_or, length-map}
use lib.Seq.{get_or-take, length-take-le}
use Rattle.lists.specs.Lists.{All, nil, cons, all, repeats}
use Rattle.lists.proofs.Bools.{and_left, and_right, and_both, or_left, or_right, not-true, not-false}
use Rattle.lists.proofs.Lists.{All-head, All-tail, All-map, All-both, All-take, all_true, all-of, All-source, All-image}
use Rattle.lists.proofs.Places.{All-at}
use Rattle.meaning.specs.Limits.{most_cells, most_memory, most_slots, least_slot_bytes, most_slot_bytes, most_tables, most_queries, most_updates}
use Rattle.meaning.specs.Plain.{Opening, opening_refused}
use Rattle.meaning.specs.Refusals.{Conditions, ten_to_twelve}
use Rattle.meaning.proofs.Accepted.{clear}
use Rattle.statement.specs.declared.Table.{Table}
use Rattle.statement.specs.declared.Query.{Query}
use Rattle.statement.specs.declared.Update.{Update}
use Rattle.statement.specs.Compiled.{no_table, no_query, no_update}
use Rattle.statement.specs.Catalog.{schema_of}
use Rattle.statement.specs.SoundTest as S
use Rattle.statement.specs.SoundTest.{sound_query, sound_update, TablesFit}
use Rattle.statement.proofs.SoundNames.{or-none}
use Rattle.statement.proofs.SoundTables.{tables_fit as all_fit}
use Rattle.soundness.specs.Soundness.{tables_sound, queries_sound, updates_sound}
use Rattle.slots.specs.declared.Key.{Key}
use Rattle.slots.specs.Keys.{slot_key, held_keys, same_key, held_twice, held_slots}
use Rattle.slots.proofs.Laws as L
use Rattle.std.specs.Prelude.{Option as Maybe, Some, None}
use Rattle.cache.specs.declared.Note.{Note}
use Rattle.cache.specs.declared.State.{State}
use Rattle.cache.specs.Sound.{used_tables, areas_of, length_at, query_at, used_queries, used_updates, OpeningWithin, KeyFits, schemas_in, sizes_of, table_at, update_at, is_full, NoteStands, note_in}
use Rattle.cache.specs.SoundTest.{sound_state, sound_sizes, sound_counts, sound_areas, start_fits, rows_fit, sound_rows, length_fits, sound_lengths, sound_key, sound_keys, sound_tables, sound_answers, would_refuse, note_passes, sound_note}
use Rattle.cache.specs.Means.{Typed}

-- ---- "its sizes pass refusal 1"

module _ (o : Opening) where
  abbrev many_cells : Bool
  many_cells = ltb most_cells o.lent.cells

  abbrev much_memory : Bool
  much_memory = ltb most_memory o.lent.memory

  abbrev many_slots : Bool
  many_slots = ltb most_slots o.slots

  abbrev short_slots : Bool
  short_slots = ltb o.slot_bytes least_slot_bytes

  abbrev long_slots : Bool
  long_slots = ltb most_slot_bytes o.slot_bytes

  pub sizes-fit : opening_refused o ≡ false → OpeningWithin o
  unfolding opening_refused
  sizes-fit h₁ =
      let h₂ = or_right many_cells _ h₁ in
      let h₃ = or_right much_memory _ h₂ in
      let h₄ = or_right many_slots _ h₃ in
      let h₅ = or_right short_slots _ h₄ in
      record {
        few_cells = ltb-false most_cells o.lent.cells (or_left many_cells _ h₁);
        few_memory = ltb-false most_memory o.lent.memory (or_left much_memory _ h₂);
        few_slots = ltb-false most_slots o.slots (or_left many_slots _ h₃);
        least_bytes = ltb-false o.slot_bytes least_slot_bytes (or_left short_slots _ h₄);
        most_bytes = ltb-false most_slot_bytes o.slot_bytes (or_left long_slots _ h₅);
        room = ltb-false o.lent.memory (o.slots * o.slot_bytes) (or_right long_slots _ h₅);
      }

  pub fit-sizes : OpeningWithin o → opening_refused o ≡ false
  unfolding opening_refused
  fit-sizes F =
      or-none many_cells _ (le-ltb most_cells o.lent.cells F.few_cells)
      (or-none much_memory _ (le-ltb most_memory o.lent.memory F.few_memory)
      (or-none many_slots _ (le-ltb most_slots o.slots F.few_slots)
      (or-none short_slots _ (le-ltb o.slot_bytes least_slot_bytes F.least_bytes)
      (or-none long_slots _ (le-ltb most_slot_bytes o.slot_bytes F.most_bytes)
      (le-ltb o.lent.memory (o.slots * o.slot_bytes) F.room)))))

-- ---- the state

-- the length of the answer in the slot x
pub record LengthSound (s : State) (x : ℕ) : Type 0 where
  pub least : least_slot_bytes ≤ length_at s x
  pub most : length_at s x ≤ s.slot_bytes

pub record Sound (s : State) : Type 0 where
  pub sizes : OpeningWithin (sizes_of s)
  pub few_tables : s.table_count ≤ most_tables
  pub few_queries : s.query_count ≤ most_queries
  pub few_updates : s.update_count ≤ most_updates
  pub areas : areas_of (used_tables s) ≤ s.cells
  pub rows : All (λ (t : Table). t.rows ≤ t.capacity) (used_tables s)
  pub starts : All (λ (t : Table). start_fits t ≡ true) (used_tables s)
  pub tables : S.sound_schemas [] (used_tables s) ≡ true
  pub queries : All (λ (q : Query). sound_query (schemas_in s) q ≡ true) (used_queries s)
  pub updates : All (λ (u : Update). sound_update (schemas_in s) u ≡ true) (used_updates s)
  pub lengths : All (LengthSound s) (held_slots s.slots)
  pub keys : All (λ (x : ℕ). KeyFits s (slot_key s.keys x)) (held_slots s.slots)
  pub once : repeats same_key (held_keys s.keys s.slots) ≡ false
  pub slots : L.Sound s.slots
  pub note : (n : Note) → note_in s ≡ Some n → NoteStands s n

module _ (s : State) where
  abbrev length_test : ℕ → Bool
  length_test x = length_fits (length_at s x) s.slot_bytes

  length_is : (x : ℕ) → length_test x ≡ true → LengthSound s x
  length_is x e = record {
    least = leb-true least_slot_bytes (length_at s x) (and_left (leb least_slot_bytes (length_at s x)) _ e);
    most = leb-true (length_at s x) s.slot_bytes (and_right (leb least_slot_bytes (length_at s x)) _ e);
  }

  is-length : (x : ℕ) → LengthSound s x → length_test x ≡ true
  is-length x L =
      and_both (leb least_slot_bytes (length_at s x)) _ (le-leb least_slot_bytes (length_at s x) L.least) (le-leb (length_at s x) s.slot_bytes L.most)

  key_is : (k : Key) → sound_key s k ≡ true → KeyFits s k
  key_is k e = record {
    there = ltb-true k.query s.query_count (and_left (ltb k.query s.query_count) _ e);
    values = eqb-true k.count (query_at s k.query).parameters (and_right (ltb k.query s.query_count) _ e);
  }

  is_key : (k : Key) → KeyFits s k → sound_key s k ≡ true
  is_key k K =
      and_both (ltb k.query s.query_count) _ (lt-ltb k.query s.query_count K.there)
      (eq-eqb k.count (query_at s k.query).parameters K.values)

  -- what 10 to 12 look at
  abbrev noted : Note → Conditions
  noted n = ten_to_twelve s.update_count n.update (update_at s n.update).parameters n.count (is_full s (update_at s n.update))

  note-is : (n : Note) → note_passes s (Some n) ≡ true → NoteStands s n
  unfolding would_refuse
  note-is n e =
      let a = (clear 0 (noted n) refl).0 (eqb-true (would_refuse s n.update n.count) 0 e) in
      record {
        there = leb-false s.update_count n.update (All-head a);
        values = eqb-true n.count (update_at s n.update).parameters (not-false (eqb n.count (update_at s n.update).parameters) (All-head (All-tail a)));
        room = All-head (All-tail (All-tail a));
      }

  is-note : (n : Note) → NoteStands s n → note_passes s (Some n) ≡ true
  unfolding would_refuse
  is-note n N =
      eq-eqb (would_refuse s n.update n.count) 0
      ((clear 0 (noted n) refl).1
      (cons (lt-leb s.update_count n.update N.there) (cons (ap not (eq-eqb n.count (update_at s n.update).parameters N.values)) (cons N.room nil))))

  -- ---- from the test

  abbrev slot_keys : Bool
  slot_keys = all (sound_key s) (held_keys s.keys s.slots)

  abbrev tables_test : Bool
  tables_test = tables_sound s.tables s.table_count

  abbrev queries_test : Bool
  queries_test = queries_sound s.tables s.table_count s.queries s.query_count

  pub sound-is : sound_state s ≡ true → Sound s
  unfolding sound_state sound_tables sound_answers sound_note held_twice tables_sound queries_sound updates_sound
  sound-is h =
      let h₁ = and_right (sound_sizes s) _ h in
      let counts = and_left (sound_counts s) _ h₁ in
      let few = and_right (leb s.table_count most_tables) _ counts in
      let h₂ = and_right (sound_counts s) _ h₁ in
      let ts = and_left (sound_tables s) _ h₂ in
      let ts₁ = and_right (sound_areas s) _ ts in
      let texts = and_right (sound_rows s) _ ts₁ in
      let statements = and_right tables_test _ texts in
      let h₃ = and_right (sound_tables s) _ h₂ in
      let answers = and_left (sound_answers s) (sound_note s) h₃ in
      let answers₁ = and_right (sound_lengths s) _ answers in
      let keys = and_left (sound_keys s) _ answers₁ in
      record {
        sizes = sizes-fit (sizes_of s) (not-true _ (and_left (sound_sizes s) _ h));
        few_tables = leb-true s.table_count most_tables (and_left (leb s.table_count most_tables) _ counts);
        few_queries = leb-true s.query_count most_queries (and_left (leb s.query_count most_queries) _ few);
        few_updates = leb-true s.update_count most_updates (and_right (leb s.query_count most_queries) _ few);
        areas = leb-true (areas_of (used_tables s)) s.cells (and_left (sound_areas s) _ ts);
        rows = All-map (λ t e. leb-true t.rows t.capacity (and_left (leb t.rows t.capacity) _ e)) (all_true rows_fit (used_tables s) (and_left (sound_rows s) _ ts₁));
        starts = All-map (λ t e. and_right (leb t.rows t.capacity) (start_fits t) e) (all_true rows_fit (used_tables s) (and_left (sound_rows s) _ ts₁));
        tables = and_left tables_test _ texts;
        queries = all_true (sound_query (schemas_in s)) (used_queries s) (and_left queries_test _ statements);
        updates = all_true (sound_update (schemas_in s)) (used_updates s) (and_right queries_test _ statements);
        lengths = All-map length_is (all_true length_test (held_slots s.slots) (and_left (sound_lengths s) _ answers));
        keys =
            All-map (λ x e. key_is (slot_key s.keys x) e)
            (All-source (slot_key s.keys) (held_slots s.slots) (all_true (sound_key s) (held_keys s.keys s.slots) (and_left slot_keys _ keys)));
        once = not-true (held_twice s.keys s.slots) (and_right slot_keys _ keys);
        slots = L.sound-is s.slots (and_right (sound_keys s) _ answers₁);
        note = λ n e. note-is n (subst (λ (p : Maybe Note). note_passes s p ≡ true) e (and_right (sound_answers s) (sound_note s) h₃));
      }

  -- ---- and back

  module _ (S : Sound s) where
    tables-hold : sound_tables s ≡ true
    unfolding sound_tables tables_sound queries_sound updates_sound
    tables-hold =
        and_both (sound_areas s) _ (le-leb (areas_of (used_tables s)) s.cells S.areas)
        (and_both (sound_rows s) _ (all-of rows_fit (All-map (λ t e. and_both (leb t.rows t.capacity) (start_fits t) (le-leb t.rows t.capacity e.0) e.1) (All-both S.rows S.starts)))
        (and_both tables_test _ S.tables
        (and_both queries_test _ (all-of (sound_query (schemas_in s)) S.queries) (all-of (sound_update (schemas_in s)) S.updates))))

    answers-hold : sound_answers s ≡ true
    unfolding sound_answers held_twice
    answers-hold =
        and_both (sound_lengths s) _ (all-of length_test (All-map is-length S.lengths))
        (and_both (sound_keys s) _
        (and_both slot_keys _ (all-of (sound_key s) (All-image (slot_key s.keys) (All-map (λ x K. is_key (slot_key s.keys x) K) S.keys))) (ap not S.once))
        (L.is-sound s.slots S.slots))

    note-holds : sound_note s ≡ true
    unfolding sound_note
    note-holds = go (note_in s) refl
      where
        go : (p : Maybe Note) → note_in s ≡ p → note_passes s p ≡ true
        go None e = refl
        go (Some n) e = is-note n (S.note n e)

    pub is-sound : sound_state s ≡ true
    unfolding sound_state
    is-sound =
        and_both (sound_sizes s) _ (ap not (fit-sizes (sizes_of s) S.sizes))
        (and_both (sound_counts s) _
        (and_both (leb s.table_count most_tables) _ (le-leb s.table_count most_tables S.few_tables)
        (and_both (leb s.query_count most_queries) _ (le-leb s.query_count most_queries S.few_queries)
        (le-leb s.update_count most_updates S.few_updates)))
        (and_both (sound_tables s) _ tables-hold (and_both (sound_answers s) _ answers-hold note-holds)))

-- ---- what it says at a place

-- a member of the first n that are there
pub All-first : {A : Type 0} {P : A → Type 0} (n : ℕ) (l : List A) (i : ℕ) (d : A) → n ≤ length l → i < n → All P (take n l) → P (get_or l i d)
All-first {P = P} n l i d h k a =
    let e : i < length (take n l) = rw (length-take-le n l h) k in
    subst P (get_or-take n l i d k) (All-at i d e a)

-- a slot, and its bytes in the kept memory
pub record HeldSound (s : State) (x : ℕ) : Type 0 where
  pub slot : x < s.slots.count
  pub long : LengthSound s x
  pub key : KeyFits s (slot_key s.keys x)
  pub ends : x * s.slot_bytes + length_at s x ≤ s.memory

module _ (s : State) (S : Sound s) where
  -- so many bytes of a slot lie inside the kept memory
  pub slot-room : (x n : ℕ) → x < s.slots.count → n ≤ s.slot_bytes → x * s.slot_bytes + n ≤ s.memory
  slot-room x n h k =
      let m : suc x * s.slot_bytes ≤ s.slots.count * s.slot_bytes = mul-le-mul_right s.slot_bytes h in
      omega (arith, suc-mul x s.slot_bytes, S.sizes.room)

  pub held_below : All (λ x. x < s.slots.count) (held_slots s.slots)
  held_below = L.held_below s.slots S.slots

  pub held-sound : All (HeldSound s) (held_slots s.slots)
  held-sound =
      All-map (λ x h. record { slot = h.0; long = h.1.0; key = h.1.1; ends = slot-room x (length_at s x) h.0 h.1.0.most })
      (All-both held_below (All-both S.lengths S.keys))

module _ (s : State) (T : Typed s) (S : Sound s) where
  pub rows_at : (i : ℕ) → i < s.table_count → (table_at s i).rows ≤ (table_at s i).capacity
  rows_at i h = All-first {P = λ (t : Table). t.rows ≤ t.capacity} s.table_count s.tables i no_table (omega (arith, T.eight_tables, S.few_tables)) h S.rows

  pub start-at : (i : ℕ) → i < s.table_count → start_fits (table_at s i) ≡ true
  start-at i h = All-first {P = λ (t : Table). start_fits t ≡ true} s.table_count s.tables i no_table (omega (arith, T.eight_tables, S.few_tables)) h S.starts

  pub query-at : (i : ℕ) → i < s.query_count → sound_query (schemas_in s) (query_at s i) ≡ true
  query-at i h =
      All-first {P = λ (q : Query). sound_query (schemas_in s) q ≡ true} s.query_count s.queries i no_query (omega (arith, T.sixteen_queries, S.few_queries)) h S.queries

  pub update-at : (i : ℕ) → i < s.update_count → sound_update (schemas_in s) (update_at s i) ≡ true
  update-at i h =
      All-first {P = λ (u : Update). sound_update (schemas_in s) u ≡ true} s.update_count s.updates i no_update (omega (arith, T.sixteen_updates, S.few_updates)) h S.updates

  -- the tables that there are
  pub schemas-long : length (schemas_in s) ≡ s.table_count
  schemas-long = length-map (used_tables s) schema_of ∙ length-take-le s.table_count s.tables (omega (arith, T.eight_tables, S.few_tables))

  pub tables_fit : TablesFit (schemas_in s)
  tables_fit = all_fit (used_tables s) (All-take s.table_count T.tables_fit) S.tables
