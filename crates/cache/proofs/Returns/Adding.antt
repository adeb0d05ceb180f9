-- Placing a statement: a text that is not refused has a place, and what adding gives by its cases. Assumes nothing.
use mathlib.Core.Path.{◌≡◌, refl, sym, ap, ap₂, ◌∙◌}
use mathlib.Core.Bool.{Bool, true, false, not}
use mathlib.Core.Option.{Option, none, some}
use mathlib.Core.List.{List}
use Prim.Native.Nat.{ℕ, zero, suc, ◌≤◌, min}
use native.Mathlib.Omega.{arith}
use borrow.Author.Tests.{lt-ltb, leb-false}
use lib.Dec.{leb}
use lib.ListN.{length, take, length-map, length-take}
use lib.Seq.{length-take-le, take_all}
use Rattle.lists.specs.Lists.{All}
use Rattle.lists.proofs.Bools.{or_left, not-false, clash}
use Rattle.lists.proofs.Lists.{All-head, All-tail}
use Rattle.meaning.specs.Grammar as G
use Rattle.meaning.specs.Grammar.{Sentence}
use Rattle.meaning.specs.Reader.{sentence}
use Rattle.meaning.specs.Limits.{most_tables, most_queries, most_updates}
use Rattle.meaning.specs.Names.{Schema}
use Rattle.meaning.specs.Statement.{Statement, creates, asks, changes, statement_of}
use Rattle.meaning.specs.Plain.{Lengths}
use Rattle.meaning.specs.Refusals.{Catalog, no_place, text_conditions, or_else, lowest_of}
use Rattle.meaning.proofs.Accepted.{clear}
use Rattle.statement.specs.Compiled.{Compiled, of_update, struct_of, struct_of_text, compiled_by, compiled_of}
use Rattle.statement.specs.Catalog.{schema_of}
use Rattle.std.proofs.Common.{Result, Ok, Err}
use Rattle.std.specs.Result.{IsErrAnd}
use Rattle.statement.specs.declared.Refusal.{Refusal}
use Rattle.statement.specs.declared.Table.{Table}
use Rattle.statement.specs.Refusals.{number_of}
use Rattle.cache.specs.declared.Added as A
use Rattle.cache.specs.Given.{added_as}
use Rattle.cache.specs.declared.State.{State}
use Rattle.cache.specs.Calls.{Added, unfit, catalog_in}
use Rattle.cache.specs.Gives.{add_of, compiled_beside, add_refused, added_of, added_by, add_refusal}
use Rattle.cache.specs.SoundTest.{sound_state}
use Rattle.cache.specs.Private.Outcomes.{has_place}
use Rattle.cache.proofs.Returns.Tested.{counts-few, counts_of}
use Rattle.cache.proofs.Settled.{settled-refused, settled-done}

-- ---- refusal 9: a text that is not refused has a place

module _ (s : State) (c : Catalog) (t : length c.tables ≡ s.table_count) (q : c.queries ≡ s.query_count) (u : c.updates ≡ s.update_count) where
  change-place : leb most_updates c.updates ≡ false → has_place of_update s ≡ true
  change-place h = let l = leb-false most_updates c.updates h in lt-ltb s.update_count most_updates (omega arith)

  sentence-place : (x : Sentence) → no_place c x ≡ false → has_place (struct_of (statement_of c.tables x)).kind s ≡ true
  unfolding no_place struct_of statement_of
  sentence-place (G.table n cs ring z) h =
      let l = leb-false most_tables (length c.tables) (or_left (leb most_tables (length c.tables)) _ h) in
      lt-ltb s.table_count most_tables (omega arith)
  sentence-place (G.select cs n w) h =
      let l = leb-false most_queries c.queries h in
      lt-ltb s.query_count most_queries (omega arith)
  sentence-place (G.pair cs n m w) h =
      let l = leb-false most_queries c.queries h in
      lt-ltb s.query_count most_queries (omega arith)
  sentence-place (G.insert n vs) h = change-place h
  sentence-place (G.update n ss w) h = change-place h
  sentence-place (G.delete n w) h = change-place h

  text-place : (text : List ℕ) (o : Option Sentence) → All (λ x. x.1 ≡ false) (text_conditions c text o) → has_place (struct_of_text c.tables o).kind s ≡ true
  text-place text none a = clash refl (All-head (All-tail a))
  text-place text (some x) a = sentence-place x (All-head (All-tail (All-tail (All-tail (All-tail (All-tail (All-tail (All-tail a))))))))

  compiled-place : (text : List ℕ) (o : Option Sentence) (n : ℕ) → lowest_of (text_conditions c text o) ≡ n → (compiled_by n (struct_of_text c.tables o)).refusal ≡ 0
      → has_place (compiled_by n (struct_of_text c.tables o)).kind s ≡ true
  compiled-place text o zero e h = text-place text o ((clear 2 (text_conditions c text o) refl).0 e)
  compiled-place text o (suc n) e h = absurd (omega arith)

module _ (s : State) (text : List ℕ) where
  has-place : length s.tables ≡ 8 → sound_state s ≡ true → (compiled_beside s text).refusal ≡ 0 → has_place (compiled_beside s text).kind s ≡ true
  unfolding compiled_of
  has-place long ok h =
      let few : s.table_count ≤ 8 = (counts-few s (counts_of s ok)).0 in
      let t : length (catalog_in s).tables ≡ s.table_count = length-map (take s.table_count s.tables) schema_of ∙ length-take-le s.table_count s.tables (omega arith) in
      compiled-place s (catalog_in s) t refl refl text (sentence text) _ refl h

-- ---- the number of a text beside the tables is the lowest of its conditions

struct-taken : (ts : List Schema) (o : Option Sentence) → (struct_of_text ts o).refusal ≡ 0
unfolding struct_of
struct-taken ts none = refl
struct-taken ts (some x) = go (statement_of ts x)
  where
    go : (y : Statement) → (struct_of y).refusal ≡ 0
    go (creates t) = refl
    go (asks q) = refl
    go (changes u) = refl

number-by : (n : ℕ) (c : Compiled) → c.refusal ≡ 0 → (compiled_by n c).refusal ≡ n
number-by zero c e = e
number-by (suc n) c e = refl

pub beside-refusal : (s : State) (text : List ℕ) → (compiled_beside s text).refusal ≡ lowest_of (text_conditions (catalog_in s) text (sentence text))
unfolding compiled_of
beside-refusal s text = number-by _ _ (struct-taken (catalog_in s).tables (sentence text))

-- ---- a text beside the tables in use, lent as they stand

pub beside-same : (s : State) (text : List ℕ) (used : List Table) → length s.tables ≡ 8 → used ≡ take s.table_count s.tables
    → compiled_of text used (min (length used) 8) s.query_count s.update_count s.cells ≡ compiled_beside s text
unfolding compiled_of
beside-same s text used long f =
    let few : length used ≤ 8 = omega (arith, ap length f, length-take s.table_count s.tables) in
    let k : min (length used) 8 ≡ length used = omega arith in
    let t : take (min (length used) 8) used ≡ take s.table_count s.tables =
    ap (λ (m : ℕ). take m used) k ∙ take_all (length used) used (omega arith) ∙ f in
    rw t

-- what the exit of a `?` returns
pub added-exit : (x : Result A.Added Refusal) (r : Refusal) (s : State) → IsErrAnd x (λ (y : Refusal). y ≡ r) → added_as x s ≡ add_refused s (number_of r)
added-exit (Ok a) r s h = absurd h
added-exit (Err y) r s h = ap (λ (z : Refusal). add_refused s (number_of z)) h

-- ---- a statement by its kind

module _ (s : State) (c : Compiled) (r : Added) where
  pub added-by : (k : ℕ) → c.kind ≡ k → r ≡ added_of k s c → r ≡ added_by s c
  unfolding added_by
  added-by k e h = h ∙ ap (λ (i : ℕ). added_of i s c) (sym e)

-- ---- a text

module _ (s : State) (l : Lengths) (text : List ℕ) (bad : Bool) (tested : bad ≡ unfit s l) where
  refusal_is : (b : Bool) → bad ≡ b → add_refusal s l text ≡ or_else b 2 (compiled_beside s text).refusal
  unfolding add_refusal
  refusal_is b h = ap₂ (λ (x : Bool) (n : ℕ). or_else x 2 n) (sym tested ∙ h) (sym (beside-refusal s text))

  pub add-unfit : bad ≡ true → (r : Added) → r ≡ add_refused s 2 → r ≡ add_of s l text
  unfolding add_of
  add-unfit h r e = rw (refusal_is true h) (e ∙ settled-refused 2 _ _ (λ z. omega arith))

  module _ (h : bad ≡ false) (c : Compiled) (said : c ≡ compiled_beside s text) where
    pub add-refused : (c.refusal ≡ 0 → ⊥) → (r : Added) → r ≡ add_refused s c.refusal → r ≡ add_of s l text
    unfolding add_of
    add-refused n r e = rw (refusal_is false h, ← said) (e ∙ settled-refused c.refusal _ _ n)

    pub add_done : c.refusal ≡ 0 → (r : Added) → r ≡ added_by s c → r ≡ add_of s l text
    unfolding add_of
    add_done z r e = rw (refusal_is false h, ← said) (e ∙ settled-done c.refusal _ _ z)

    is-sound : sound_state s ≡ true
    unfolding unfit
    is-sound = not-false (sound_state s) (or_left (not (sound_state s)) _ (sym tested ∙ h))

    pub add-place : length s.tables ≡ 8 → c.refusal ≡ 0 → has_place c.kind s ≡ true
    add-place long z = rw said (has-place s text long is-sound (ap (λ (x : Compiled). x.refusal) (sym said) ∙ z))
