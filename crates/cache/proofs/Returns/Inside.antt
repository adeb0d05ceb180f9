-- What a sound state says of the places that a question reads and writes: its query and table, the slot at a held place, and the last slot. Assumes nothing.
use mathlib.Core.Path.{◌≡◌, refl, sym, ap, ◌∙◌, subst}
use Rattle.std.specs.Prelude.{Some, None}
use mathlib.Core.Bool.{true}
use mathlib.Core.Option.{some}
use Prim.Native.Nat.{ℕ, zero, suc, ◌+◌, ◌*◌, ◌≤◌, ◌<◌}
use native.Mathlib.Omega.{arith}
use borrow.Author.Tests.{ltb-true}
use lib.Dec.{ltb}
use lib.ListN.{length, get_or, length-map}
use lib.Seq.{length-take-le}
use Rattle.lists.proofs.Bools.{and_left}
use Rattle.meaning.specs.Limits.{most_memory, most_slots, most_tables, most_queries}
use Rattle.statement.specs.declared.Query.{Query}
use Rattle.statement.specs.Catalog.{schema_of}
use Rattle.statement.specs.Terms.{second_said}
use Rattle.statement.specs.Sound.{second_by}
use Rattle.statement.specs.SoundTest.{columns_at, sound_second, sound_query}
use Rattle.statement.proofs.SoundQuery.{query-parts}
use Rattle.slots.specs.declared.Taken.{Taken}
use Rattle.slots.specs.Order.{last_taken}
use Rattle.slots.proofs.Moves.{open_is}
use Rattle.slots.proofs.Laws.{taken-below}
use Rattle.cache.specs.declared.State.{State}
use Rattle.cache.specs.Sound.{used_tables, schemas_in}
use Rattle.cache.specs.Calls.{cached_length}
use Rattle.cache.specs.Private.Outcomes.{Room}
use Rattle.cache.proofs.Invariant.Sound.{Sound, All-first, HeldSound, slot-room, held-sound}

-- ---- the table of a query

-- the number of its second table, as it is read
pub second-none : (n : ℕ) → second_said n ≡ None → n ≡ 0
second-none zero e = refl
second-none (suc k) e = absurd (cc)

pub second-some : (n k : ℕ) → second_said n ≡ Some k → n ≡ suc k
second-some zero k e = absurd (cc)
second-some (suc j) k e = cc

module _ (s : State) (S : Sound s) (tables : length s.tables ≡ most_tables) (queries : length s.queries ≡ most_queries) (i : ℕ) (d : Query) (h : i < s.query_count) where
  abbrev query : Query
  query = get_or s.queries i d

  sound : sound_query (schemas_in s) query ≡ true
  sound = All-first {P = λ (x : Query). sound_query (schemas_in s) x ≡ true} s.query_count s.queries i d (omega (arith, S.few_queries)) h S.queries

  long : length (schemas_in s) ≡ s.table_count
  long = length-map (used_tables s) schema_of ∙ length-take-le s.table_count s.tables (omega (arith, S.few_tables))

  pub query-there : query.table < s.table_count
  query-there = subst (λ (n : ℕ). query.table < n) long (query-parts (schemas_in s) query sound).there

  pub query-table : query.table < most_tables
  query-table = omega (arith, query-there, S.few_tables)

  -- and its second one (A.1)
  pub second-there : (k : ℕ) → query.second ≡ suc k → k < s.table_count
  second-there k e =
      let t : sound_second (schemas_in s) query.table (columns_at (schemas_in s) query.table) (some (record { table = k; start = query.start })) ≡ true =
      ap (λ (n : ℕ). sound_second (schemas_in s) query.table (columns_at (schemas_in s) query.table) (second_by n query.start)) (sym e)
      ∙ (query-parts (schemas_in s) query sound).second_sound in
      subst (λ (n : ℕ). k < n) long (ltb-true k (length (schemas_in s)) (and_left (ltb k (length (schemas_in s))) _ t))

-- ---- slots

-- the slot at the place p of the order: its answer lies inside the cache memory
pub record Held (s : State) (p : ℕ) : Type 0 where
  pub place : p < most_slots
  pub slot : get_or s.slots.order p 0 < most_slots
  pub start : get_or s.slots.order p 0 * s.slot_bytes ≤ most_memory
  pub ends : get_or s.slots.order p 0 * s.slot_bytes + cached_length s p ≤ s.memory

module _ (s : State) (S : Sound s) where
  pub held-known : length s.slots.order ≡ most_slots → (p : ℕ) → p < s.slots.held → Held s p
  held-known long p h =
      let H : HeldSound s (get_or s.slots.order p 0) =
      All-first {P = HeldSound s} s.slots.held s.slots.order p 0 (omega (arith, S.slots.within, S.slots.few)) h (held-sound s S) in
      record {
        place = omega (arith, S.slots.within, S.slots.few);
        slot = omega (arith, H.slot, S.slots.few);
        start = omega (arith, H.ends, S.sizes.few_memory);
        ends = H.ends;
      }

  pub last-known : (n : ℕ) → Room s.slots s.slot_bytes s.memory n
  last-known n there fits =
      let t : Taken = last_taken s.slots in
      let below : t.slot < s.slots.count = taken-below s.slots S.slots (open_is s.slots there).0 in
      let ends : t.slot * s.slot_bytes + n ≤ s.memory = slot-room s S t.slot n below fits in
      record {
        slot = omega (arith, S.slots.few);
        start = omega (arith, S.sizes.few_memory);
        ends = ends;
        small = omega (arith, S.sizes.most_bytes);
      }
