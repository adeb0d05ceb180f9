-- The number that the tests of a call give: 2, 10, 11 or 12, one test after the other. Assumes nothing.
use Rattle.std.proofs.Common.{Option, Some, None, Result, Ok, Err, ok_or, is_ok}
use Rattle.std.specs.Result.{IsErrAnd}
use Rattle.std.specs.Slice.{IsItemAt}
use denote.Bor.{Bor}
use mathlib.Core.Path.{◌≡◌, refl, sym, ap, ◌∙◌}
use mathlib.Core.Bool.{Bool, true, false, not, cond, ◌&&◌, ◌||◌}
use mathlib.Core.List.{List}
use Prim.Native.Nat.{ℕ, ◌≤◌, ◌<◌}
use native.Mathlib.Omega.{arith}
use borrow.Author.Tests.{le-leb, ne_eqb}
use Rattle.lists.proofs.Places.{get_or-inside}
use lib.Dec.{eqb, leb}
use lib.ListN.{length, take, get_or}
use lib.Seq.{length-take-le, get_or-take}
use Rattle.statement.specs.declared.Refusal.{Refusal}
use Rattle.statement.specs.declared.Table.{Table}
use Rattle.statement.specs.declared.Update.{Update}
use Rattle.statement.specs.Compiled.{insert_form}
use Rattle.statement.specs.SoundTest.{sound_update}
use Rattle.soundness.specs.Soundness.{tables_sound, queries_sound, updates_sound}
use Rattle.statement.specs.Refusals.{number_of, number_in}
use Rattle.cache.specs.declared.Note.{Note}
use Rattle.cache.specs.declared.State.{State}
use Rattle.cache.specs.Sound.{query_at, update_at, table_at, is_full, used_updates, schemas_in, note_in}
use Rattle.cache.specs.SoundTest.{sound_state, sound_counts, sound_tables, sound_areas, sound_rows, would_refuse, note_passes, sound_note}
use Rattle.cache.specs.Calls.{unfit}
use Rattle.cache.specs.Gives.{ask_refusal, update_refusal}
use Rattle.lists.specs.Lists.{All}
use Rattle.lists.proofs.Bools.{and_right}
use Rattle.lists.proofs.Lists.{all_true}
use Rattle.meaning.specs.Limits.{most_tables, most_updates}
use Rattle.meaning.specs.Plain.{Lengths}
use Rattle.meaning.specs.Refusals.{or_else}
use Rattle.table.proofs.Recording.{numbered}
use Rattle.cache.proofs.Returns.Tested.{counts-few}

-- 2, as the code decides it
pub unfit-of : (s : State) (l : Lengths) (sound b : Bool) → sound ≡ sound_state s → (sound && (eqb l.cells s.cells && eqb l.memory s.memory)) ≡ b → unfit s l ≡ not b
unfolding unfit
unfit-of s l sound b e h =
    either (sound_state s) (eqb l.cells s.cells && eqb l.memory s.memory) ∙ ap (λ (a : Bool). not (a && (eqb l.cells s.cells && eqb l.memory s.memory))) (sym e) ∙ ap not h
  where
    either : (x y : Bool) → (not x || not y) ≡ not (x && y)
    either true y = refl
    either false y = refl

-- what the exit of a `?` returns
pub exit-number : {A : Type 0} (x : Result A Refusal) (r : Refusal) → IsErrAnd x (λ (y : Refusal). y ≡ r) → number_in x ≡ number_of r
exit-number (Ok s) r h = absurd h
exit-number (Err y) r h = ap number_of h

-- a test that refused, and one that did not
pub refused_if : (b : Bool) (n : ℕ) (r : Refusal) → number_of r ≡ or_else b n 0 → (b ≡ true) × (number_of r ≡ n)
refused_if true n r e = (refl, e)
refused_if false n r e = absurd (numbered r e)

pub passed_if : (b : Bool) (n : ℕ) → (n ≡ 0 → ⊥) → 0 ≡ or_else b n 0 → b ≡ false
passed_if true n h e = absurd (h (sym e))
passed_if false n h e = refl

-- 2, where it is not given
pub fits : (s : State) (l : Lengths) → ◌≡◌ {A = ℕ} 0 (or_else (unfit s l) 2 0) → unfit s l ≡ false
fits s l e = passed_if (unfit s l) 2 (λ z. omega (arith, z)) e

-- the values are counted the other way round
pub refused-count : (b : Bool) (n : ℕ) (r : Refusal) → number_of r ≡ cond b 0 n → (b ≡ false) × (number_of r ≡ n)
refused-count true n r e = absurd (numbered r e)
refused-count false n r e = (refl, e)

pub passed-count : (b : Bool) (n : ℕ) → (n ≡ 0 → ⊥) → 0 ≡ cond b 0 n → b ≡ true
passed-count true n h e = refl
passed-count false n h e = absurd (h (sym e))

-- an option that is asked for
pub asked-none : {X : Type 0} (r : Option X) (e k : Refusal) → Err e ≡ ok_or r k → (r ≡ None) × (e ≡ k)
asked-none (Some x) e k h = absurd (cc)
asked-none None e k h = (refl, cc)

-- ---- a member that is looked for among the first n

module _ {A : Type 0} (l : List A) (n i : ℕ) (d : A) (few : n ≤ length l) (xs : List A) (used : xs ≡ take n l) where
  long : length xs ≡ n
  long = ap length used ∙ length-take-le n l few

  pub first-none : (r : Option (Bor A)) → IsItemAt xs i r → r ≡ None → leb n i ≡ true
  first-none None h e = le-leb n i (omega (arith, long, h.3))
  first-none (Some x) h e = absurd (cc)

  pub first-there : (r : Option (Bor A)) → IsItemAt xs i r → (x : Bor A) → r ≡ Some x → (i < n) × (x.now ≡ get_or l i d)
  first-there None h x e = absurd (cc)
  first-there (Some y) h x e =
      let k : i < n = omega (arith, long, h.3.0) in
      let q : y ≡ x = cc in
      (k, ap (λ (z : Bor A). z.now) (sym q) ∙ h.1 ∙ ap (λ (z : List A). get_or z i y.now) used ∙ get_or-take n l i y.now k ∙ get_or-inside l i y.now d (omega (arith, few)))

-- ---- the numbers of a question

module _ (s : State) (l : Lengths) (query values : ℕ) (r : ℕ) where
  pub ask-unfit : unfit s l ≡ true → r ≡ 2 → r ≡ ask_refusal s l query values
  unfolding ask_refusal
  ask-unfit f e = rw f e

  module _ (f : unfit s l ≡ false) where
    pub ask-none : leb s.query_count query ≡ true → r ≡ 10 → r ≡ ask_refusal s l query values
    unfolding ask_refusal
    ask-none k e = rw (f, k) e

    pub ask-counted : leb s.query_count query ≡ false → r ≡ cond (eqb values (query_at s query).parameters) 0 11 → r ≡ ask_refusal s l query values
    unfolding ask_refusal
    ask-counted k e = rw (f, k) (e ∙ turn (eqb values (query_at s query).parameters))
      where
        turn : (b : Bool) → cond b 0 11 ≡ or_else (not b) 11 0
        turn true = refl
        turn false = refl

-- ---- the numbers of an update

-- what 10 to 12 need of a state
pub record Texts (s : State) : Type 0 where
  pub few_tables : s.table_count ≤ most_tables
  pub few_updates : s.update_count ≤ most_updates
  pub updates : All (λ (u : Update). sound_update (schemas_in s) u ≡ true) (used_updates s)

pub texts-are : (s : State) → sound_counts s ≡ true → sound_tables s ≡ true → Texts s
unfolding sound_tables updates_sound
texts-are s h k =
    let few = counts-few s h in
    let texts = and_right (sound_rows s) _ (and_right (sound_areas s) _ k) in
    let statements = and_right (tables_sound s.tables s.table_count) _ texts in
    record {
      few_tables = few.0;
      few_updates = few.2;
      updates = all_true (sound_update (schemas_in s)) (used_updates s) (and_right (queries_sound s.tables s.table_count s.queries s.query_count) _ statements);
    }

module _ (s : State) (update values : ℕ) (r : ℕ) where
  abbrev u : Update
  u = update_at s update

  pub would-none : leb s.update_count update ≡ true → r ≡ 10 → r ≡ would_refuse s update values
  unfolding would_refuse
  would-none k e = rw k e

  module _ (k : leb s.update_count update ≡ false) where
    pub would-miscounted : eqb values u.parameters ≡ false → r ≡ 11 → r ≡ would_refuse s update values
    unfolding would_refuse
    would-miscounted c e = rw (k, c) e

    pub would-tested : eqb values u.parameters ≡ true → r ≡ or_else (is_full s u) 12 0 → r ≡ would_refuse s update values
    unfolding would_refuse
    would-tested c e = rw (k, c) e

  module _ (l : Lengths) where
    pub update-unfit : unfit s l ≡ true → r ≡ 2 → r ≡ update_refusal s l update values
    unfolding update_refusal
    update-unfit f e = rw f e

    -- behind 2 the numbers are those that 10 to 12 give
    pub update-fit : unfit s l ≡ false → r ≡ would_refuse s update values → r ≡ update_refusal s l update values
    unfolding update_refusal would_refuse
    update-fit f e = rw f e

-- ---- the note

-- what is not refused has the number 0
passes : (r : Result Unit Refusal) → is_ok r ≡ eqb (number_in r) 0
passes (Ok u) = refl
passes (Err y) = sym (ne_eqb (number_of y) 0 (λ e. absurd (numbered y e)))

module _ (s : State) where
  pub none-noted : note_in s ≡ None → true ≡ sound_note s
  unfolding sound_note
  none-noted e = sym (ap (note_passes s) e)

  pub some-noted : (n : Note) → note_in s ≡ Some n → (r : Result Unit Refusal) → number_in r ≡ would_refuse s n.update n.count → is_ok r ≡ sound_note s
  unfolding sound_note
  some-noted n e r h = passes r ∙ ap (λ (k : ℕ). eqb k 0) h ∙ sym (ap (note_passes s) e)

-- an INSERT into a full table that is no ring
pub full-is : (s : State) (i : ℕ) (u : Update) (t : Table) (f : Bool) → f ≡ leb t.capacity t.rows → u ≡ update_at s i → t ≡ table_at s u.table
    → (eqb u.form insert_form && (not t.ring && f)) ≡ is_full s (update_at s i)
full-is s i u t f h eu et =
    ap (λ (b : Bool). eqb u.form insert_form && (not t.ring && b)) h
    ∙ ap (λ (w : Table). eqb u.form insert_form && (not w.ring && leb w.capacity w.rows)) et
    ∙ ap (is_full s) eu
