-- An update, or a commit, leaves a sound state sound: of its table only the number of rows and the place of the oldest change, and they stay within ROWS. Assumes nothing.
use mathlib.Core.Path.{◌≡◌, refl, sym, ap, ◌∙◌, subst}
use mathlib.Core.Bool.{Bool, true, ◌&&◌}
use mathlib.Core.List.{List, [], ◌∷◌, ◌++◌, map}
use Prim.Native.Nat.{ℕ, zero, suc, ◌+◌, ◌*◌, ◌≤◌, ◌<◌}
use borrow.Author.Tests.{leb-false}
use lib.IntN.{ℤ}
use lib.ListN.{length, get_or, set}
use lib.Seq.{get_or-take, take-set-lt, map-set_same}
use Rattle.lists.specs.Lists.{All}
use Rattle.lists.proofs.Lists.{All-head, All-tail, All-map, All-get_or}
use Rattle.lists.proofs.Places.{All-set}
use Rattle.meaning.specs.Names.{Schema}
use Rattle.meaning.proofs.Accepted.{clear}
use Rattle.statement.specs.declared.Table.{Table}
use Rattle.statement.specs.declared.Query.{Query}
use Rattle.statement.specs.declared.Update.{Update}
use Rattle.statement.specs.Compiled.{no_table, no_update}
use Rattle.statement.specs.Catalog.{schema_of}
use Rattle.statement.specs.SoundTest.{sound_table, sound_schemas, sound_query, sound_update}
use Rattle.statement.proofs.SoundUpdate.{update-parts}
use Rattle.table.specs.Changed.{is_full_ring, change_fits, changed_of, change_of, rows_before}
use Rattle.table.specs.declared.changes.Changed.{Changed}
use Rattle.table.proofs.ChangedMeans.{after-few, change-starts}
use Rattle.slots.specs.Order.{drop_by}
use Rattle.cache.specs.declared.State.{State}
use Rattle.cache.specs.Sound.{used_tables, areas_of, used_queries, used_updates, schemas_in, table_at, update_at, note_read}
use Rattle.cache.specs.SoundTest.{start_fits}
use Rattle.cache.specs.Calls.{area_start, change_conditions}
use Rattle.cache.specs.Gives.{with_cache, update_refusal, is_dropped, with_rows, with_change, update_done}
use Rattle.cache.specs.Means.{Typed}
use Rattle.meaning.specs.Call.{change, commit}
use Rattle.cache.specs.Run.{Store, lent_by, step}
use Rattle.cache.proofs.Invariant.Sound.{Sound, rows_at, start-at, update-at, schemas-long}
use Rattle.cache.proofs.Settled.{nothing}
use Rattle.cache.proofs.Invariant.Cases.{by_cond, by-update, by-commit}
use Rattle.cache.proofs.Invariant.Compiled.{no-update}
use Rattle.cache.proofs.Invariant.Cached.{drop-stays}

-- ---- tables of which one has another number of rows, and another oldest

module _ (n k : ℕ) where
  -- the tables, with n rows in table i, the oldest at place k
  abbrev changed_at : List Table → ℕ → List Table
  changed_at ts i = set ts i (with_rows (get_or ts i no_table) n k)

  areas-same : (ts : List Table) (i : ℕ) → areas_of (changed_at ts i) ≡ areas_of ts
  areas-same [] i = refl
  areas-same (t ∷ ts) zero = refl
  areas-same (t ∷ ts) (suc i) = ap (λ (m : ℕ). t.count * t.capacity + m) (areas-same ts i)

  sound-same : (before : List Schema) (ts : List Table) (i : ℕ) → sound_schemas before (changed_at ts i) ≡ sound_schemas before ts
  unfolding sound_table
  sound-same before [] i = refl
  sound-same before (t ∷ ts) zero = refl
  sound-same before (t ∷ ts) (suc i) = ap (λ b. sound_table before t && b) (sound-same (before ++ (schema_of t ∷ [])) ts i)

module _ (s : State) (S : Sound s) (i : ℕ) (there : i < s.table_count) (n k : ℕ) (few : n ≤ (table_at s i).capacity)
    (fit : start_fits (with_rows (table_at s i) n k) ≡ true) where
  abbrev changed : State
  changed = with_change s i (with_rows (table_at s i) n k) s.slots

  used-changed : used_tables changed ≡ changed_at n k (used_tables s) i
  unfolding with_change
  used-changed =
      take-set-lt s.table_count s.tables i (with_rows (table_at s i) n k) there
      ∙ ap (λ (t : Table). set (used_tables s) i (with_rows t n k)) (sym (get_or-take s.table_count s.tables i no_table there))

  schemas-same : schemas_in changed ≡ schemas_in s
  unfolding with_change
  schemas-same =
      ap (map schema_of) used-changed ∙ map-set_same schema_of (used_tables s) i (with_rows (get_or (used_tables s) i no_table) n k) no_table refl

  pub rows-changed : Sound changed
  unfolding with_change
  rows-changed = record {
    sizes = S.sizes;
    few_tables = S.few_tables;
    few_queries = S.few_queries;
    few_updates = S.few_updates;
    areas = subst (λ (m : ℕ). m ≤ s.cells) (sym (ap areas_of used-changed ∙ areas-same n k (used_tables s) i)) S.areas;
    rows = subst (All (λ (t : Table). t.rows ≤ t.capacity)) (sym (take-set-lt s.table_count s.tables i (with_rows (table_at s i) n k) there))
        (All-set i (with_rows (table_at s i) n k) few S.rows);
    starts = subst (All (λ (t : Table). start_fits t ≡ true)) (sym (take-set-lt s.table_count s.tables i (with_rows (table_at s i) n k) there))
        (All-set i (with_rows (table_at s i) n k) fit S.starts);
    tables = ap (sound_schemas []) used-changed ∙ sound-same n k [] (used_tables s) i ∙ S.tables;
    queries = subst (λ (ts : List Schema). All (λ (q : Query). sound_query ts q ≡ true) (used_queries s)) (sym schemas-same) S.queries;
    updates = subst (λ (ts : List Schema). All (λ (u : Update). sound_update ts u ≡ true) (used_updates s)) (sym schemas-same) S.updates;
    lengths = All-map (λ x L. record { least = L.least; most = L.most }) S.lengths;
    keys = All-map (λ x K. record { there = K.there; values = K.values }) S.keys;
    once = S.once;
    slots = S.slots;
    note = λ n e. absurd (nothing n e);
  }

-- ---- no more rows than ROWS

rows_few : (u : Update) (t : Table) (start : ℕ) (cells vs : List ℤ) → length u.settings ≡ 8 → t.rows ≤ t.capacity → (change_of u t start cells vs).rows ≤ t.capacity
unfolding change_of changed_of
rows_few u t start cells vs eight h =
    by_cond (λ (c : Changed). c.rows ≤ t.capacity) (change_fits u t start cells) (changed_of (is_full_ring t) t.oldest u.form u vs (rows_before t start cells)) (record { count = 0; rows = t.rows; oldest = t.oldest })
    (λ e. after-few u t start cells vs eight e) (λ e. h)

-- ---- an update, or a commit

module _ (s : Store) (number : ℕ) (values : List ℤ) (T : Typed s.state) (S : Sound s.state) where
  abbrev st : State
  st = s.state

  abbrev u : Update
  u = update_at st number

  abbrev test : ℕ → Bool
  test = is_dropped st s.cells u values

  -- the state with the answers dropped
  abbrev dropped : State
  dropped = with_cache st (drop_by test st.slots) st.keys st.lengths

  pub number-there : update_refusal st (lent_by s) number (length values) ≡ 0 → number < st.update_count
  unfolding update_refusal
  number-there taken =
      leb-false st.update_count number (All-head (All-tail ((clear 0 (change_conditions st (lent_by s) number (length values)) refl).0 taken)))

  module _ (there : number < st.update_count) where
    table-there : u.table < st.table_count
    table-there = subst (λ (n : ℕ). u.table < n) (schemas-long st T S) (update-parts (schemas_in st) u (update-at st T S number there)).there

    eight : length u.settings ≡ 8
    eight = (All-get_or number no_update no-update T.updates_fit).eight

    pub update_sound : Sound (update_done st s.cells u values).result.state
    unfolding update_done with_change with_cache
    update_sound =
        let t : Table = table_at st u.table in
        let c : Changed = change_of u t (area_start st u.table) s.cells values in
        rows-changed dropped (drop-stays st S T test) u.table table-there c.rows c.oldest
        (rows_few u t (area_start st u.table) s.cells values eight (rows_at st T S u.table table-there))
        (change-starts u t (area_start st u.table) s.cells values eight (start-at st T S u.table table-there))

  pub update-stays : Sound (step s (change number values)).0.state
  update-stays = by-update Sound s S number values (λ taken. update_sound (number-there taken))

pub commit-stays : (s : Store) → Typed s.state → Sound s.state → Sound (step s commit).0.state
commit-stays s T S = by-commit Sound s S (λ n e q. update_sound s n.update (note_read n).values T S (S.note n q).there)
