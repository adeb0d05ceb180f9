-- Assumes nothing.
use Prim.Native.Nat.{◌*◌, ◌≤◌, ◌<◌, ℕ}
use mir.Syntax.{w64}
use mir.Val.{Fits}
use mathlib.Core.Path.{◌≡◌, sym, ◌∙◌}
use native.Mathlib.Omega.{arith}
use lib.ListN.{length, get_or}
use Rattle.statement.specs.declared.Query.{Query}
use Rattle.std.specs.Prelude.{Some}
use Rattle.statement.specs.Compiled.{no_query}
use Rattle.statement.specs.Terms.{second_said}
use Rattle.table.specs.Evaluated.{said}
use Rattle.cache.specs.Sound.{query_at}
use Rattle.cache.specs.SoundTest.{sound_state}
use Rattle.cache.proofs.Invariant.Sound.{Sound, sound-is}
use Rattle.cache.proofs.Returns.Inside.{query-there, query-table, second-there, second-none, second-some}
use Rattle.cache.proofs.Returns.WorkedOut.{rows-512, paired_same, one-works, two-works}
use Rattle.cache.specs.declared.State.{State}
use mathlib.Core.Bool.{true}
use Rattle.cache.proofs.Question.put_record.Goals as goal

-- what is known of a question that is there
record Known (s : State) (i : ℕ) : Type 0 where
  sound : Sound s
  tables : length s.tables ≡ 8
  queries : length s.queries ≡ 16
  there : i < s.query_count

known : (s : State) (i : ℕ) → length s.tables ≡ 8 → length s.queries ≡ 16 → (sound_state s ≡ true) × (i < s.query_count) → Known s i
known s i t q h = record { sound = sound-is s h.0; tables = t; queries = q; there = h.1 }

module _ (s : State) (i : ℕ) (K : Known s i) where
  few : i < 16
  few = omega (arith, K.sound.few_queries, K.there)

  inside : i < length s.queries
  inside = omega (arith, few, K.queries)

  -- its table, and its second one, are among those in use
  used : (d : Query) → (get_or s.queries i d).table < s.table_count
  used d = query-there s K.sound K.tables K.queries i d K.there

  used-second : (d : Query) (k : ℕ) → second_said (get_or s.queries i d).second ≡ Some k → k < s.table_count
  used-second d k h = second-there s K.sound K.tables K.queries i d K.there k (second-some _ k h)

  few-before : (d : Query) → (get_or s.queries i d).table ≤ 8
  few-before d = omega (arith, used d, K.sound.few_tables)

  few-between : (d : Query) (k : ℕ) → second_said (get_or s.queries i d).second ≡ Some k → k < 8
  few-between d k h = omega (arith, used-second d k h, K.sound.few_tables)

  -- the number of its table as a place, and that of its first byte
  number-fits : (d : Query) → Fits w64 (get_or s.queries i d).table
  number-fits d = let h = few-before d in record { fits = omega (arith, h) }

  place-fits : (d : Query) → Fits w64 ((get_or s.queries i d).table * 126)
  place-fits d = let h = few-before d in record { fits = omega (arith, h) }

  there : (query_at s i).table < length s.tables
  there = omega (arith, used no_query, K.sound.few_tables, K.tables)

  long : s.table_count ≤ length s.tables
  long = omega (arith, K.sound.few_tables, K.tables)

pub offset_bounds-s-number : goal.offset_bounds-s-number
offset_bounds-s-number c =
    let h : c.args.self.now.number < 16 = few _ _ (known c.args.self.now.state.now c.args.self.now.number c.args.self.now.all_tables c.args.self.now.all_queries (c.args.self.now.sound, c.args.self.now.there)) in
    record { fits = omega arith }

pub bounds-s-number : goal.bounds-s-number
bounds-s-number c = few _ _ (known c.args.self.now.state.now c.args.self.now.number c.args.self.now.all_tables c.args.self.now.all_queries (c.args.self.now.sound, c.args.self.now.there))

pub bounds-s-i : goal.bounds-s-i
bounds-s-i c =
    let s = c.args.self.now.state.now in
    let K = known s c.args.self.now.number c.args.self.now.all_tables c.args.self.now.all_queries (c.args.self.now.sound, c.args.self.now.there) in
    query-table s K.sound K.tables K.queries c.args.self.now.number _ K.there

pub shared_ref_as_front-areas : goal.shared_ref_as_front-areas
shared_ref_as_front-areas c =
    let s = c.args.self.now.state.now in
    let K = known s c.args.self.now.number c.args.self.now.all_tables c.args.self.now.all_queries (c.args.self.now.sound, c.args.self.now.there) in
    few-before s c.args.self.now.number K _

pub returns-in_default : goal.returns-in_default
returns-in_default c =
    let a = c.args in
    let s = a.self.now.state.now in
    let K = known s a.self.now.number c.args.self.now.all_tables c.args.self.now.all_queries (c.args.self.now.sound, c.args.self.now.there) in
    let r = c.select in
    one-works s a.cells.now a.self.now.number a.self.now.values.now a.answer.now _ _ (inside s a.self.now.number K) (second-none _ (sym c.second_table.ensures ∙ c.in_default.is)) (there s a.self.now.number K)
    (rows-512 s K.sound (long s a.self.now.number K) (query_at s a.self.now.number).table (used s a.self.now.number K no_query) a.cells.now) _ c.areas-start.ensures (said r.result) _
    r.ensures.result r.ensures.bytes

pub overflow_cast-i : goal.overflow_cast-i
overflow_cast-i c =
    let s = c.args.self.now.state.now in
    let K = known s c.args.self.now.number c.args.self.now.all_tables c.args.self.now.all_queries (c.args.self.now.sound, c.args.self.now.there) in
    number-fits s c.args.self.now.number K _

pub offset_bounds-s-i : goal.offset_bounds-s-i
offset_bounds-s-i c =
    let s = c.args.self.now.state.now in
    let K = known s c.args.self.now.number c.args.self.now.all_tables c.args.self.now.all_queries (c.args.self.now.sound, c.args.self.now.there) in
    place-fits s c.args.self.now.number K _

pub bounds-s-j : goal.bounds-s-j
bounds-s-j c =
    let s = c.args.self.now.state.now in
    let K = known s c.args.self.now.number c.args.self.now.all_tables c.args.self.now.all_queries (c.args.self.now.sound, c.args.self.now.there) in
    few-between s c.args.self.now.number K _ _ (sym c.second_table.ensures ∙ c.in-Some.is)

pub shared_ref_as_front-areas-2 : goal.shared_ref_as_front-areas-2
shared_ref_as_front-areas-2 c =
    let s = c.args.self.now.state.now in
    let K = known s c.args.self.now.number c.args.self.now.all_tables c.args.self.now.all_queries (c.args.self.now.sound, c.args.self.now.there) in
    let h = few-between s c.args.self.now.number K _ _ (sym c.second_table.ensures ∙ c.in-Some.is) in
    omega (arith, h)

pub returns : goal.returns
returns c =
    let a = c.args in
    let s = a.self.now.state.now in
    let K = known s a.self.now.number c.args.self.now.all_tables c.args.self.now.all_queries (c.args.self.now.sound, c.args.self.now.there) in
    let r = c.select_pair in
    let some = sym c.second_table.ensures ∙ c.in-Some.is in
    let k = used-second s a.self.now.number K _ _ some in
    two-works s a.cells.now a.self.now.number a.self.now.values.now a.answer.now _ _ (inside s a.self.now.number K) _ (second-some _ _ some) (there s a.self.now.number K) (omega (arith, k, long s a.self.now.number K))
    (paired_same s K.sound (long s a.self.now.number K) (query_at s a.self.now.number).table (used s a.self.now.number K no_query) a.cells.now)
    (paired_same s K.sound (long s a.self.now.number K) _ k a.cells.now) _ _ c.areas-start.ensures c.areas-beside.ensures (said r.result) _
    r.ensures.result r.ensures.bytes
