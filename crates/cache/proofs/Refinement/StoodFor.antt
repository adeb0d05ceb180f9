-- What a sound state and its cells say of the plain store that they stand for: its tables with their rows, its questions and its updates, place by place.
-- Assumes nothing.
use mathlib.Core.Path.{◌≡◌, sym, ap, ap₂, ◌∙◌, subst}
use mathlib.Core.List.{List, map}
use Prim.Native.Nat.{ℕ, ◌+◌, ◌<◌}
use native.Mathlib.Omega.{arith}
use lib.IntN.{ℤ}
use lib.ListN.{length, get_or, take, length-map}
use lib.Seq.{get_or-take, length-take-le, take-take}
use Rattle.meaning.specs.Plain as P
use Rattle.meaning.specs.Plain.{Plain, schemas}
use Rattle.statement.specs.declared.Table.{Table}
use Rattle.statement.specs.declared.Query.{Query}
use Rattle.statement.specs.declared.Update.{Update}
use Rattle.statement.specs.Compiled.{no_table, no_query, no_update}
use Rattle.statement.specs.Sound.{AgreesQuery, AgreesUpdate}
use Rattle.cache.specs.declared.State.{State}
use Rattle.cache.specs.Sound.{used_tables, areas_of, query_at, schemas_in, table_at, update_at}
use Rattle.cache.specs.Means.{Means, Typed}
use Rattle.cache.specs.Calls.{area_start}
use Rattle.cache.proofs.Invariant.Sound.{Sound, schemas-long}
use Rattle.cache.proofs.Refinement.Areas.{schemas-from, table_in, table-from}
use Rattle.cache.proofs.Refinement.Standing.{compiled-length, compiled-at, few_tables, few_queries, few_updates}

module _ (s : State) (T : Typed s) (S : Sound s) (cells : List ℤ) (p : Plain) (m : Means s cells p) where
  pub schemas-mean : schemas p ≡ schemas_in s
  schemas-mean = ap (map (λ (t : P.Table). t.schema)) m.tables_are ∙ schemas-from 0 (used_tables s) cells

  pub table-count : length p.tables ≡ s.table_count
  table-count = sym (length-map p.tables (λ (t : P.Table). t.schema)) ∙ ap length schemas-mean ∙ schemas-long s T S

  -- a table in use, with its rows
  pub table-at : (i : ℕ) → i < s.table_count → P.table_at p i ≡ table_in (table_at s i) (area_start s i) cells
  table-at i h =
      let n : length (used_tables s) ≡ s.table_count = length-take-le s.table_count s.tables (few_tables s T S) in
      let e : 0 + areas_of (take i (used_tables s)) ≡ areas_of (take i (used_tables s)) = omega arith in
      ap (λ (ts : List P.Table). get_or ts i P.no_table) m.tables_are
      ∙ table-from 0 (used_tables s) cells i (subst (λ (n : ℕ). i < n) (sym n) h)
      ∙ ap₂ (λ (t : Table) (k : ℕ). table_in t k cells) (get_or-take s.table_count s.tables i no_table h)
      (e ∙ ap areas_of (take-take i s.table_count s.tables (omega arith)))

  used-queries : length (take s.query_count s.queries) ≡ s.query_count
  used-queries = length-take-le s.query_count s.queries (few_queries s T S)

  pub query-count : length p.queries ≡ s.query_count
  query-count = compiled-length m.queries_are ∙ used-queries

  -- a question in use is the compiled form of the plain store's
  pub query-agrees : (i : ℕ) → i < s.query_count → AgreesQuery (query_at s i) (P.query_at p i)
  query-agrees i h =
      subst (λ (q : Query). AgreesQuery q (P.query_at p i)) (get_or-take s.query_count s.queries i no_query h)
      (compiled-at no_query P.no_query m.queries_are i (subst (λ (n : ℕ). i < n) (sym used-queries) h))

  used-updates : length (take s.update_count s.updates) ≡ s.update_count
  used-updates = length-take-le s.update_count s.updates (few_updates s T S)

  pub update-count : length p.updates ≡ s.update_count
  update-count = compiled-length m.updates_are ∙ used-updates

  -- and so is an update
  pub update_agrees : (i : ℕ) → i < s.update_count → AgreesUpdate (update_at s i) (P.update_at p i)
  update_agrees i h =
      subst (λ (u : Update). AgreesUpdate u (P.update_at p i)) (get_or-take s.update_count s.updates i no_update h)
      (compiled-at no_update P.no_update m.updates_are i (subst (λ (n : ℕ). i < n) (sym used-updates) h))
