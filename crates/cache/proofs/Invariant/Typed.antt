-- What the types of a state say stays so: it holds of an opening's, and after each call. Assumes nothing.
use mathlib.Core.Path.{◌≡◌, refl, sym, ap, ◌∙◌}
use mathlib.Core.Bool.{true}
use mathlib.Core.List.{List}
use Prim.Native.Nat.{ℕ, ◌-◌}
use native.Mathlib.Omega.{arith}
use lib.IntN.{ℤ, pos}
use lib.ListN.{length, take, replicate, length-take, length-set}
use Rattle.lists.specs.Lists.{All}
use Rattle.lists.proofs.Lists.{All-get_or}
use Rattle.lists.proofs.Places.{All-set}
use Rattle.lists.proofs.Written.{length-written}
use Rattle.meaning.specs.Plain.{Opening}
use Rattle.statement.specs.declared.Table.{Table}
use Rattle.statement.specs.declared.Query.{Query}
use Rattle.statement.specs.declared.Update.{Update}
use Rattle.statement.specs.Compiled.{no_table, no_query, no_update}
use Rattle.statement.specs.Sound.{TableStructFits, QueryFits, UpdateFits}
use Rattle.slots.specs.declared.Key.{Key}
use Rattle.slots.specs.declared.SlotList.{SlotList}
use Rattle.slots.specs.Keys.{no_key, key_of}
use Rattle.slots.specs.Order.{front_of, last_taken, open_of as slots_open}
use Rattle.slots.proofs.Fronts.{front_length}
use Rattle.slots.proofs.Laws.{drop-length}
use Rattle.std.specs.Prelude.{Option as Maybe, Some, None}
use Rattle.cache.specs.declared.Note.{Note}
use Rattle.cache.specs.declared.State.{State}
use Rattle.meaning.specs.Call.{Call, add, ask, change, flush, propose, commit, withdraw}
use Rattle.cache.specs.Sound.{lengths, opening, table_at, update_at, note_read}
use Rattle.cache.specs.Calls.{record_at}
use Rattle.cache.specs.Gives.{empty_state, added_table, added_query, added_update, compiled_beside, is_dropped, with_cache, put_in, with_rows, with_change, update_done, with_note, note_of}
use Rattle.cache.specs.Means.{Typed}
use Rattle.cache.specs.Run.{Store, Start, opening_of, opened, step}
use Rattle.cache.proofs.Settled.{nothing, note-put}
use Rattle.cache.proofs.Invariant.Cases.{by-opened, by-add, by-ask, by-update, by-flush, by-propose, by-commit, by-withdraw}
use Rattle.cache.proofs.Invariant.Compiled.{All-replicate, Fitting, no_table_lem, no-query, no-update, compiled-fits}

-- ---- an opening

empty-typed : (o : Opening) → Typed (empty_state o)
unfolding empty_state slots_open
empty-typed o = record {
  eight_tables = refl;
  sixteen_queries = refl;
  sixteen_updates = refl;
  keys-64 = refl;
  lengths-64 = refl;
  order-64 = refl;
  tables_fit = All-replicate 8 no_table no_table_lem;
  queries_fit = All-replicate 16 no_query no-query;
  updates_fit = All-replicate 16 no_update no-update;
  keys_fit = All-replicate 64 no_key refl;
  note_fits = λ n e. absurd (nothing n e);
}

pub opened-typed : (o : Start) → Typed (opened o).state
opened-typed o = by-opened Typed o (empty-typed (opening (lengths 0 0) 0 8)) (λ e. empty-typed (opening_of o))

-- ---- the order of use has as many places as before

taken-length : (l : SlotList) → length (last_taken l).slots.order ≡ length l.order
unfolding front_of
taken-length l = front_length (l.count - 1) l.order

key-long : (q : ℕ) (vs : List ℤ) → length (key_of q vs).values ≡ 8
unfolding key_of
key-long q vs = length-written (replicate 8 (pos 0)) 0 (take 8 vs) (omega (arith, length-take 8 vs))

note-long : (q : ℕ) (vs : List ℤ) → length (note_of q vs).values ≡ 8
unfolding note_of
note-long q vs = length-written (replicate 8 (pos 0)) 0 (take 8 vs) (omega (arith, length-take 8 vs))

-- ---- parts of a state changed

module _ (s : State) (T : Typed s) where
  cache-typed : (slots : SlotList) (keys : List Key) (sizes : List ℕ) → length slots.order ≡ length s.slots.order → length keys ≡ length s.keys
      → length sizes ≡ length s.lengths → All (λ (k : Key). length k.values ≡ 8) keys → Typed (with_cache s slots keys sizes)
  unfolding with_cache
  cache-typed slots keys sizes o k l f = record {
    eight_tables = T.eight_tables;
    sixteen_queries = T.sixteen_queries;
    sixteen_updates = T.sixteen_updates;
    keys-64 = k ∙ T.keys-64;
    lengths-64 = l ∙ T.lengths-64;
    order-64 = o ∙ T.order-64;
    tables_fit = T.tables_fit;
    queries_fit = T.queries_fit;
    updates_fit = T.updates_fit;
    keys_fit = f;
    note_fits = T.note_fits;
  }

  put_typed : (q : ℕ) (vs : List ℤ) (r : List ℕ) → Typed (put_in s (key_of q vs) r (last_taken s.slots))
  put_typed q vs r =
      let x : ℕ = (last_taken s.slots).slot in
      cache-typed (last_taken s.slots).slots _ _ (taken-length s.slots) (length-set s.keys x (key_of q vs)) (length-set s.lengths x (length r))
      (All-set x (key_of q vs) (key-long q vs) T.keys_fit)

  change-typed : (i : ℕ) (t : Table) (slots : SlotList) → TableStructFits t → length slots.order ≡ length s.slots.order → Typed (with_change s i t slots)
  unfolding with_change
  change-typed i t slots f o = record {
    eight_tables = length-set s.tables i t ∙ T.eight_tables;
    sixteen_queries = T.sixteen_queries;
    sixteen_updates = T.sixteen_updates;
    keys-64 = T.keys-64;
    lengths-64 = T.lengths-64;
    order-64 = o ∙ T.order-64;
    tables_fit = All-set i t f T.tables_fit;
    queries_fit = T.queries_fit;
    updates_fit = T.updates_fit;
    keys_fit = T.keys_fit;
    note_fits = λ n e. absurd (nothing n e);
  }

  rows-typed : (i n k : ℕ) → TableStructFits (with_rows (table_at s i) n k)
  rows-typed i n k =
      let F : TableStructFits (table_at s i) = All-get_or i no_table no_table_lem T.tables_fit in
      record { eight = F.eight; name_fits = F.name_fits; columns_fit = F.columns_fit }

  note-typed : (p : Maybe Note) → ((n : Note) → p ≡ Some n → length n.values ≡ 8) → Typed (with_note s p)
  unfolding with_note
  note-typed p f = record {
    eight_tables = T.eight_tables;
    sixteen_queries = T.sixteen_queries;
    sixteen_updates = T.sixteen_updates;
    keys-64 = T.keys-64;
    lengths-64 = T.lengths-64;
    order-64 = T.order-64;
    tables_fit = T.tables_fit;
    queries_fit = T.queries_fit;
    updates_fit = T.updates_fit;
    keys_fit = T.keys_fit;
    note_fits = λ n e. f n (sym (note-put p) ∙ e);
  }

  table-added : (t : Table) → TableStructFits t → Typed (added_table s t).state
  table-added t f = record {
    eight_tables = length-set s.tables s.table_count t ∙ T.eight_tables;
    sixteen_queries = T.sixteen_queries;
    sixteen_updates = T.sixteen_updates;
    keys-64 = T.keys-64;
    lengths-64 = T.lengths-64;
    order-64 = T.order-64;
    tables_fit = All-set s.table_count t f T.tables_fit;
    queries_fit = T.queries_fit;
    updates_fit = T.updates_fit;
    keys_fit = T.keys_fit;
    note_fits = λ n e. absurd (nothing n e);
  }

  query-added : (q : Query) → QueryFits q → Typed (added_query s q).state
  query-added q f = record {
    eight_tables = T.eight_tables;
    sixteen_queries = length-set s.queries s.query_count q ∙ T.sixteen_queries;
    sixteen_updates = T.sixteen_updates;
    keys-64 = T.keys-64;
    lengths-64 = T.lengths-64;
    order-64 = T.order-64;
    tables_fit = T.tables_fit;
    queries_fit = All-set s.query_count q f T.queries_fit;
    updates_fit = T.updates_fit;
    keys_fit = T.keys_fit;
    note_fits = λ n e. absurd (nothing n e);
  }

  update-added : (u : Update) → UpdateFits u → Typed (added_update s u).state
  update-added u f = record {
    eight_tables = T.eight_tables;
    sixteen_queries = T.sixteen_queries;
    sixteen_updates = length-set s.updates s.update_count u ∙ T.sixteen_updates;
    keys-64 = T.keys-64;
    lengths-64 = T.lengths-64;
    order-64 = T.order-64;
    tables_fit = T.tables_fit;
    queries_fit = T.queries_fit;
    updates_fit = All-set s.update_count u f T.updates_fit;
    keys_fit = T.keys_fit;
    note_fits = λ n e. absurd (nothing n e);
  }

-- ---- each call

-- an update done
done-typed : (s : State) → Typed s → (cells : List ℤ) (u : Update) (vs : List ℤ) → Typed (update_done s cells u vs).result.state
unfolding update_done
done-typed s T cells u vs = change-typed s T u.table _ _ (rows-typed s T u.table _ _) (drop-length s.slots (is_dropped s cells u vs))

pub step_typed : (s : Store) (c : Call (List ℕ)) → Typed s.state → Typed (step s c).0.state
unfolding front_of with_note with_cache
step_typed s (add text) T =
    let st : State = s.state in
    let F : Fitting (compiled_beside st text) = compiled-fits text st.tables st.table_count st.query_count st.update_count st.cells in
    by-add Typed s T text (λ h. table-added st T _ F.table_fits) (λ h. query-added st T _ F.query_fits) (λ h. update-added st T _ F.update_fits)
step_typed s (ask k buffer) T =
    let st : State = s.state in
    by-ask Typed s T k buffer
    (λ p a e. cache-typed st T (front_of st.slots p) st.keys st.lengths (front_length p st.slots.order) refl refl T.keys_fit)
    (λ a e h. put_typed st T k.query k.values (record_at st s.cells k.query k.values))
step_typed s (change n vs) T = by-update Typed s T n vs (λ a. done-typed s.state T s.cells (update_at s.state n) vs)
step_typed s flush T =
    let st : State = s.state in
    by-flush Typed s T
    (note-typed _ (cache-typed st T _ st.keys st.lengths (drop-length st.slots (λ x. true)) refl refl T.keys_fit) None (λ n e. absurd (nothing n e)))
step_typed s (propose n vs) T =
    by-propose Typed s T n vs (λ a. note-typed s.state T (Some (note_of n vs)) (λ m e. let q : note_of n vs ≡ m = cc in ap (λ (x : Note). length x.values) (sym q) ∙ note-long n vs))
step_typed s commit T = by-commit Typed s T (λ n e q. done-typed s.state T s.cells (update_at s.state n.update) (note_read n).values)
step_typed s withdraw T = by-withdraw Typed s T (note-typed s.state T None (λ n e. absurd (nothing n e)))
