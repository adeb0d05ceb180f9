-- The test of a state is true exactly if document 01's sentence holds of it. Assumes nothing.
use mathlib.Core.Path.{◌≡◌, subst}
use mathlib.Core.Bool.{true}
use mathlib.Core.List.{List, [], ◌∷◌, ◌++◌, map}
use Prim.Native.Nat.{ℕ}
use Rattle.lists.specs.Lists.{All, DistinctBy}
use Rattle.lists.proofs.Lists.{All-head, All-map, All-both, All-right, All-take, All-image, All-source, distinct-source}
use Rattle.lists.proofs.Repeats.{distinct-map}
use Rattle.meaning.specs.Key as M
use Rattle.statement.specs.declared.Table.{Table}
use Rattle.statement.specs.Catalog.{schema_of}
use Rattle.statement.specs.Sound.{TableStructFits}
use Rattle.statement.specs.SoundTest.{sound_schemas, TablesFit}
use Rattle.statement.proofs.SoundTable.{table_sound}
use Rattle.statement.proofs.SoundTables.{tables_fit, tables-sound}
use Rattle.statement.proofs.SoundQuery.{query_sound}
use Rattle.statement.proofs.SoundUpdate.{update_sound}
use Rattle.slots.specs.Keys.{key_read, slot_key, held_keys, held_twice, held_slots}
use Rattle.slots.proofs.KeyLaws.{not-twice, twice-not}
use Rattle.cache.specs.declared.State.{State}
use Rattle.cache.specs.Sound.{used_tables, schemas_in, IsSound}
use Rattle.cache.specs.SoundTest.{sound_state}
use Rattle.cache.specs.Means.{Typed}
use Rattle.cache.specs.Demand.{SoundExactlyIf}
use Rattle.cache.proofs.Invariant.Sound as Tests
use Rattle.cache.proofs.Invariant.Starts.{rows-some, start-means, means-start}
use Rattle.cache.proofs.Invariant.Sound.{Sound, sound-is, is-sound}

module _ (s : State) (T : Typed s) where
  -- a table in use has arrays of their lengths
  fits : (before : List Table) (t : Table) (behind : List Table) → used_tables s ≡ before ++ t ∷ behind → TableStructFits t
  fits before t behind e = All-head (All-right before (subst (All TableStructFits) e (All-take s.table_count T.tables_fit)))

  abbrev key_at : ℕ → M.Key
  key_at x = key_read (slot_key s.keys x)

  pub sentence-holds : sound_state s ≡ true → IsSound s
  unfolding held_twice
  sentence-holds h =
      let S : Sound s = sound-is s h in
      let fit : TablesFit (schemas_in s) = Tests.tables_fit s T S in
      let once : DistinctBy key_at (held_slots s.slots) = not-twice s.keys s.slots S.once in
      record {
        sizes = S.sizes;
        table-count = S.few_tables;
        query-count = S.few_queries;
        update-count = S.few_updates;
        areas = S.areas;
        rows = S.rows;
        starts = All-map (λ t e. start-means t e.0 e.1) (All-both S.starts (rows-some [] (used_tables s) S.tables));
        tables = λ before t behind e.
            (table_sound (map schema_of (before ++ behind)) t (fits before t behind e)).0 ((tables-sound (used_tables s)).0 S.tables before t behind e);
        queries = All-map (λ q e. (query_sound (schemas_in s) fit q e.0).0 e.1) (All-both (All-take s.query_count T.queries_fit) S.queries);
        updates = All-map (λ u e. (update_sound (schemas_in s) fit u e.0).0 e.1) (All-both (All-take s.update_count T.updates_fit) S.updates);
        lengths = All-map (λ x l. (l.least, l.most)) S.lengths;
        keys = All-image (slot_key s.keys) S.keys;
        once = distinct-map key_read (λ (k : M.Key). k) (held_keys s.keys s.slots) (distinct-map (slot_key s.keys) key_read (held_slots s.slots) once);
        slots = record { held = S.slots.within; slots = S.slots.below; once = S.slots.once };
        note = S.note;
      }

  holds-sentence : IsSound s → sound_state s ≡ true
  unfolding held_twice
  holds-sentence I =
      let tables : sound_schemas [] (used_tables s) ≡ true =
      (tables-sound (used_tables s)).1 (λ before t behind e. (table_sound (map schema_of (before ++ behind)) t (fits before t behind e)).1 (I.tables before t behind e)) in
      let fit : TablesFit (schemas_in s) = tables_fit (used_tables s) (All-take s.table_count T.tables_fit) tables in
      is-sound s (record {
        sizes = I.sizes;
        few_tables = I.table-count;
        few_queries = I.query-count;
        few_updates = I.update-count;
        areas = I.areas;
        rows = I.rows;
        starts = All-map means-start I.starts;
        tables = tables;
        queries = All-map (λ q e. (query_sound (schemas_in s) fit q e.0).1 e.1) (All-both (All-take s.query_count T.queries_fit) I.queries);
        updates = All-map (λ u e. (update_sound (schemas_in s) fit u e.0).1 e.1) (All-both (All-take s.update_count T.updates_fit) I.updates);
        lengths = All-map (λ x l. record { least = l.0; most = l.1 }) I.lengths;
        keys = All-source (slot_key s.keys) (held_slots s.slots) I.keys;
        once =
            twice-not s.keys s.slots
            (distinct-source (slot_key s.keys) key_read (held_slots s.slots) (distinct-source key_read (λ (k : M.Key). k) (held_keys s.keys s.slots) I.once));
        slots = record { few = I.sizes.few_slots; within = I.slots.held; below = I.slots.slots; once = I.slots.once };
        note = I.note;
      })

pub sound_exactly_if : SoundExactlyIf
sound_exactly_if s T = (sentence-holds s T, holds-sentence s T)
