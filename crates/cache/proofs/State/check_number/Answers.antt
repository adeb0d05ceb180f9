-- Assumes nothing.
use mathlib.Core.Path.{◌≡◌, sym, ap, subst, ◌∙◌}
use mathlib.Core.Bool.{Bool, true, false, not, cond, ◌&&◌}
use mathlib.Core.List.{List}
use borrow.Author.Rules.{rules}
use borrow.Author.Tests.{lt-leb}
use native.Mathlib.Omega.{arith}
use Prim.Native.Nat.{ℕ, ◌≤◌, ◌<◌}
use denote.Bor.{Bor}
use lib.Dec.{eqb, leb}
use lib.ListN.{length, take, get_or, length-map}
use lib.Seq.{length-take-le}
use Rattle.std.proofs.Common.{Option, Some}
use Rattle.std.specs.Slice.{IsItemAt}
use Rattle.lists.proofs.Places.{get_or-inside}
use Rattle.meaning.specs.Limits.{most_tables, most_updates}
use Rattle.meaning.specs.Refusals.{or_else}
use Rattle.statement.specs.Refusals.{number_of}
use Rattle.statement.specs.declared.Refusal.TheVariants.{Number}
use Rattle.statement.specs.declared.Table.{Table}
use Rattle.statement.specs.declared.Update.{Update}
use Rattle.statement.specs.Compiled.{insert_form, no_table, no_update}
use Rattle.statement.specs.Catalog.{schema_of}
use Rattle.statement.specs.SoundTest.{sound_update}
use Rattle.statement.proofs.SoundUpdate.{update-parts}
use Rattle.cache.specs.declared.State.{State}
use Rattle.cache.specs.Sound.{used_tables, schemas_in, update_at, table_at}
use Rattle.cache.specs.SoundTest.{would_refuse}
use Rattle.cache.proofs.Invariant.Sound.{All-first}
use Rattle.cache.proofs.Returns.Checks.{exit-number, refused-count, passed-count, asked-none, first-none, first-there, Texts, texts-are, would-none, would-miscounted, would-tested, full-is}
use Rattle.cache.proofs.State.check_number.Goals as goal

-- behind the first test: an update u is found, and its table
record Found (s : State) (i : ℕ) (u : Update) : Type 0 where
  within : leb s.update_count i ≡ false
  here : u ≡ update_at s i
  place : u.table < most_tables
  its_table : (k : ℕ) (d : Table) → k ≡ u.table → get_or s.tables k d ≡ table_at s u.table

module _ (s : State) (T : Texts s) (updates : length s.updates ≡ most_updates) where
  -- no more updates are in use than there are
  few : s.update_count ≤ length s.updates
  few = omega (arith, T.few_updates, updates)

  module _ (tables : length s.tables ≡ most_tables) where
    -- its table exists
    table-there : (i : ℕ) → i < s.update_count → (update_at s i).table < s.table_count
    table-there i k =
        let sound : sound_update (schemas_in s) (update_at s i) ≡ true =
        All-first {P = λ (x : Update). sound_update (schemas_in s) x ≡ true} s.update_count s.updates i no_update few k T.updates in
        let long : length (schemas_in s) ≡ s.table_count = length-map (used_tables s) schema_of ∙ length-take-le s.table_count s.tables (omega (arith, T.few_tables, tables)) in
        omega (arith, (update-parts (schemas_in s) (update_at s i) sound).there)

    found : (used : List Update) → used ≡ take s.update_count s.updates → (i : ℕ) (r : Option (Bor Update)) → IsItemAt used i r → (u : Bor Update) → r ≡ Some u
        → Found s i u.now
    found used first i r looked u e =
        let t = first-there s.updates s.update_count i no_update few used first r looked u e in
        let there : u.now.table < s.table_count = subst (λ (v : Update). v.table < s.table_count) (sym t.1) (table-there i t.0) in
        record {
          within = lt-leb s.update_count i t.0;
          here = t.1;
          place = omega (arith, there, T.few_tables);
          its_table = λ k d q. ap (λ (j : ℕ). get_or s.tables j d) q ∙ get_or-inside s.tables u.now.table d no_table (omega (arith, there, T.few_tables, tables));
        }

-- behind the second test: refused by 12, or not at all
finished : (s : State) (i : ℕ) (u : Update) → Found s i u → (values : ℕ) → ◌≡◌ {A = ℕ} 0 (cond (eqb values u.parameters) 0 11) → (t : Table) → t ≡ table_at s u.table → (f b : Bool) → f ≡ leb t.capacity t.rows
    → (eqb u.form insert_form && (not t.ring && f)) ≡ b → or_else b 12 0 ≡ would_refuse s i values
finished s i u F values passed t et f b ef eb =
    let v = passed-count (eqb values (update_at s i).parameters) 11 (λ z. omega (arith, z)) (passed ∙ ap (λ (w : Update). cond (eqb values w.parameters) 0 11) F.here) in
    would-tested s i values _ F.within v (ap (λ (c : Bool). or_else c 12 0) (sym eb ∙ full-is s i u t f ef F.here et))

pub returns-in_err-u : goal.returns-in_err-u
returns-in_err-u c =
    let a = c.args in
    let s = a.self.now in
    let used = c.used_updates-updates.ensures in
    let T = texts-are s c.requires.0 c.requires.1 in
    let u = asked-none c.get.result c.in_err-u.field-0.0 Number c.in_err-u.ensures.value in
    let none = first-none s.updates s.update_count a.update no_update (few s T used.size) _ used.first c.get.result c.get.ensures.lookup u.0 in
    would-none s a.update a.values _ none (exit-number c.from_residual.result _ c.from_residual.ensures.1 ∙ ap number_of u.1)

pub returns-in_err-check_values : goal.returns-in_err-check_values
returns-in_err-check_values c =
    let a = c.args in
    let s = a.self.now in
    let used = c.used_updates-updates.ensures in
    let F = found s (texts-are s c.requires.0 c.requires.1) used.size (search rules depth 12) _ used.first a.update _ c.get.ensures.lookup _ c.in_ok-u.ensures.ok_part in
    let out = c.from_residual-in_err-check_values in
    let v = refused-count (eqb a.values (update_at s a.update).parameters) 11 c.in_err-check_values.field-0.0 (c.in_err-check_values.ensures ∙ ap (λ (u : Update). cond (eqb a.values u.parameters) 0 11) F.here) in
    would-miscounted s a.update a.values _ F.within v.0 (exit-number out.result _ out.ensures.1 ∙ v.1)

pub bounds-self-from : goal.bounds-self-from
bounds-self-from c =
    let a = c.args in
    let used = c.used_updates-updates.ensures in
    let F = found a.self.now (texts-are a.self.now c.requires.0 c.requires.1) used.size (search rules depth 12) _ used.first a.update _ c.get.ensures.lookup _ c.in_ok-u.ensures.ok_part in
    omega (arith, F.place, c.from.ensures)

pub returns-then-is_full : goal.returns-then-is_full
returns-then-is_full c =
    let a = c.args in
    let used = c.used_updates-updates.ensures in
    let F = found a.self.now (texts-are a.self.now c.requires.0 c.requires.1) used.size (search rules depth 12) _ used.first a.update _ c.get.ensures.lookup _ c.in_ok-u.ensures.ok_part in
    finished _ _ _ F a.values c.in_ok-check_values.ensures _ (F.its_table _ _ c.from.ensures) c.is_full.result _ c.is_full.ensures c.if-is_full.true

pub returns : goal.returns
returns c =
    let a = c.args in
    let used = c.used_updates-updates.ensures in
    let F = found a.self.now (texts-are a.self.now c.requires.0 c.requires.1) used.size (search rules depth 12) _ used.first a.update _ c.get.ensures.lookup _ c.in_ok-u.ensures.ok_part in
    finished _ _ _ F a.values c.in_ok-check_values.ensures _ (F.its_table _ _ c.from.ensures) c.is_full.result _ c.is_full.ensures c.if-is_full.false
