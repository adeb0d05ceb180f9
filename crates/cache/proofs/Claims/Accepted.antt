-- A text is accepted exactly if no refusal condition holds, of the program's call. Assumes nothing.
use mathlib.Core.Path.{◌≡◌, refl, sym, ap, ◌∙◌, subst}
use mathlib.Core.Bool.{Bool, true, false, not}
use mathlib.Core.Option.{Option, none, some}
use mathlib.Core.List.{List, []}
use Prim.Native.Nat.{ℕ, ◌-◌, ◌*◌, ◌≤◌, ◌<◌}
use native.Mathlib.Omega.{arith}
use borrow.Author.Tests.{eq-eqb, leb-false, lt-leb, ltb-false, le-ltb}
use lib.Dec.{eqb, leb}
use lib.IntN.{nat_abs}
use lib.ListN.{length}
use Rattle.lists.specs.Lists.{All, nil, cons}
use Rattle.lists.proofs.Bools.{and_both, or_left, or_right, clash}
use Rattle.lists.proofs.Lists.{All-head, All-tail, All-take}
use Rattle.meaning.specs.Grammar as G
use Rattle.meaning.specs.Grammar.{items, Sentence}
use Rattle.meaning.specs.Reader.{sentence}
use Rattle.meaning.specs.Limits.{most_tables, most_queries, most_updates, most_text}
use Rattle.meaning.specs.Plain.{Lengths}
use Rattle.meaning.specs.Refusals.{Conditions, Catalog, no_place, add_conditions}
use Rattle.meaning.specs.Call.{add}
use Rattle.meaning.proofs.Accepted.{clear, reads_exactly}
use Rattle.meaning.proofs.Limits.{within_exactly_if}
use Rattle.statement.proofs.SoundNames.{or-none}
use Rattle.cache.specs.declared.State.{State}
use Rattle.cache.specs.Sound.{used_tables, areas_of}
use Rattle.cache.specs.SoundTest.{sound_state}
use Rattle.cache.specs.Means.{Typed}
use Rattle.cache.specs.Calls.{unfit, catalog_in}
use Rattle.cache.specs.Run.{Store, lent_by, step}
use Rattle.cache.specs.Demand.{conditions, HasPlace, Accepted, AcceptedExactlyIf}
use Rattle.cache.proofs.Invariant.Sound.{Sound, sound-is, schemas-long}
use Rattle.cache.proofs.Invariant.Sentence.{sound_exactly_if}
use Rattle.cache.proofs.Settled.{fit_is}
use Rattle.cache.proofs.Claims.Refusals.{number_is}
use Rattle.cache.proofs.Invariant.Added.{columns-few, areas-are}

-- ---- what a text is read beside

module _ (s : State) (T : Typed s) (h : sound_state s ≡ true) where
  S : Sound s
  S = sound-is s h

  abbrev beside : Catalog
  beside = catalog_in s

  tables-there : length beside.tables ≡ s.table_count
  tables-there = schemas-long s T S

  left_is : beside.cells_left ≡ s.cells - areas_of (used_tables s)
  left_is = ap (λ (n : ℕ). s.cells - n) (areas-are (used_tables s) (All-take s.table_count T.tables_fit) (columns-few [] (used_tables s) S.tables))

  place_is : (x : Sentence) → no_place beside x ≡ false → HasPlace s x
  unfolding no_place
  place_is (G.table t cs ring z) e =
      let n : length (items cs) * nat_abs z ≤ beside.cells_left = ltb-false beside.cells_left (length (items cs) * nat_abs z) (or_right (leb most_tables (length beside.tables)) _ e) in
      let k : length beside.tables < most_tables = leb-false most_tables (length beside.tables) (or_left (leb most_tables (length beside.tables)) _ e) in
      (omega (arith, k, tables-there), omega (arith, n, left_is, S.areas))
  place_is (G.select cs t w) e = leb-false most_queries s.query_count e
  place_is (G.pair cs t u w) e = leb-false most_queries s.query_count e
  place_is (G.insert t vs) e = leb-false most_updates s.update_count e
  place_is (G.update t ss w) e = leb-false most_updates s.update_count e
  place_is (G.delete t w) e = leb-false most_updates s.update_count e

  is-place : (x : Sentence) → HasPlace s x → no_place beside x ≡ false
  unfolding no_place
  is-place (G.table t cs ring z) p =
      or-none (leb most_tables (length beside.tables)) _ (lt-leb most_tables (length beside.tables) (omega (arith, p.0, tables-there)))
      (le-ltb beside.cells_left (length (items cs) * nat_abs z) (omega (arith, p.1, left_is)))
  is-place (G.select cs t w) p = lt-leb most_queries s.query_count p
  is-place (G.pair cs t u w) p = lt-leb most_queries s.query_count p
  is-place (G.insert t vs) p = lt-leb most_updates s.update_count p
  is-place (G.update t ss w) p = lt-leb most_updates s.update_count p
  is-place (G.delete t w) p = lt-leb most_updates s.update_count p

-- ---- 2

is-fit : (s : State) (l : Lengths) → sound_state s ≡ true → l.cells ≡ s.cells → l.memory ≡ s.memory → unfit s l ≡ false
unfolding unfit
is-fit s l h c m = or-none (not (sound_state s)) _ (ap not h) (ap not (and_both (eqb l.cells s.cells) _ (eq-eqb l.cells s.cells c) (eq-eqb l.memory s.memory m)))

-- ---- both

abbrev Fails : ℕ × Bool → Type 0
Fails c = c.1 ≡ false

module _ (s : Store) (text : List ℕ) (T : Typed s.state) where
  abbrev listed : Option Sentence → Conditions
  listed o = add_conditions (unfit s.state (lent_by s)) (catalog_in s.state) text o

  taken-by : (o : Option Sentence) → sentence text ≡ o → All Fails (listed o) → (x : Sentence) × Accepted s text x
  taken-by none e a = clash refl (All-head (All-tail (All-tail a)))
  taken-by (some x) e a =
      let F = fit_is s.state (lent_by s) (All-head a) in
      let h : sound_state s.state ≡ true = F.sound in
      let short = All-tail a in
      let limits = All-tail (All-tail short) in
      let counted = All-tail (All-tail (All-tail limits)) in (
        x,
        record {
          sound = (sound_exactly_if s.state T).0 h;
          cells_lent = F.cells_are;
          memory_lent = F.memory_is;
          short = ltb-false most_text (length text) (All-head short);
          spelled = (reads_exactly text x).0 e;
          within = (within_exactly_if x).0 (All-head limits);
          known = All-head (All-tail limits);
          fresh = All-head (All-tail (All-tail limits));
          counted = All-head counted;
          different = All-head (All-tail counted);
          place = place_is s.state T h x (All-head (All-tail (All-tail counted)));
        },
      )

  none-holds : (x : Sentence) → Accepted s text x → All Fails (listed (some x))
  none-holds x A =
      let h : sound_state s.state ≡ true = (sound_exactly_if s.state T).1 A.sound in
      cons (is-fit s.state (lent_by s) h A.cells_lent A.memory_lent) (cons (le-ltb most_text (length text) A.short) (cons refl (cons ((within_exactly_if x).1 A.within)
      (cons A.known (cons A.fresh (cons A.counted (cons A.different (cons (is-place s.state T h x A.place) nil))))))))

pub accepted_exactly_if : AcceptedExactlyIf
accepted_exactly_if s text T = (there, back)
  where
    there : (step s (add text)).1.got.refusal ≡ 0 → (x : Sentence) × Accepted s text x
    there z = taken-by s text T (sentence text) refl ((clear 0 (conditions s (add text)) refl).0 (sym (number_is s (add text)) ∙ z))

    back : (x : Sentence) × Accepted s text x → (step s (add text)).1.got.refusal ≡ 0
    back (x, A) =
        number_is s (add text)
        ∙ (clear 0 (conditions s (add text)) refl).1
        (subst (λ (o : Option Sentence). All Fails (listed s text T o)) (sym ((reads_exactly text x).1 A.spelled)) (none-holds s text T x A))
