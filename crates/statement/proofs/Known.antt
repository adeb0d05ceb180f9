-- Names that are looked up are known exactly if their places are below the number of names; settings as they are read and as a statement has them. Assumes nothing.
use mathlib.Core.Path.{◌≡◌, refl, sym, ap, ap₂, ◌∙◌}
use mathlib.Core.Bool.{Bool, true, false, not, ◌&&◌, ◌||◌, or-false}
use mathlib.Core.List.{List, [], ◌∷◌, ◌++◌, map}
use Prim.Native.Nat.{ℕ, zero, suc, ◌+◌, ◌≤◌}
use native.Mathlib.Nat.{le_of_suc-le-suc, not-suc-le-zero}
use borrow.Author.Tests.{lt-ltb, le-ltb, leb-true}
use lib.Dec.{ltb}
use lib.ListN.{length, take, length-map}
use Rattle.lists.specs.Lists.{any, all, from}
use Rattle.lists.proofs.Bools.{not-not, not-or, or_assoc}
use Rattle.lists.proofs.Lists.{any_append}
use Rattle.meaning.specs.Condition as Q
use Rattle.meaning.specs.Condition.{sides}
use Rattle.meaning.specs.Postfix.{Node, leaf, all_of, any_of, leaves}
use Rattle.meaning.specs.Tokens.{Name}
use Rattle.meaning.specs.Grammar as G
use Rattle.meaning.specs.Grammar.{Given, Term, Dotted}
use Rattle.meaning.specs.Limits.{mark_in, term_columns}
use Rattle.meaning.specs.Names.{has, position, is_of, pair_place}
use Rattle.meaning.proofs.Dotted.{pair_inside, pair-past}
use Rattle.meaning.specs.Statement.{numbered, numbered_all, settings, operand_of, comparison_of, mark_in_term, is_below}
use Rattle.meaning.specs.Private.Walk.{marks_past, resolve_nodes}
use Rattle.meaning.specs.Plain.{of_first}
use Rattle.statement.specs.Sound.{operand_read, comparison_read}
use Rattle.meaning.specs.Pattern.{placed_from}
use Rattle.statement.proofs.ByKind.{column-read, parameter-read}
use Rattle.statement.specs.declared.Setting.{Setting}
use Rattle.statement.specs.Compiled.{operand_struct, comparison_struct, no_comparison, condition_struct, setting_struct}
use Rattle.statement.specs.Private.Built.{places_of, places_below, condition_below, unknown_on, settings_from}
use Rattle.statement.proofs.Found.{has-ltb}
use Rattle.statement.proofs.Assembled.{take-padded}
use Rattle.statement.proofs.Limited.{columns-cons}

-- a place is below the number of columns exactly if the column is there: in one table, and in two
pub name_below : (columns : List Name) (n : Name) → ltb (position columns n) (length columns) ≡ not (not (has columns n))
name_below columns n = has-ltb columns n ∙ sym (not-not (has columns n))

pub dotted-below : (t : Name) (cs : List Name) (u : Name) (ds : List Name) (c : Dotted)
    → ltb (pair_place t cs u ds c) (length cs + length ds) ≡ not (not (is_of t cs c || is_of u ds c))
dotted-below t cs u ds c = go (is_of t cs c || is_of u ds c) refl
  where
    go : (b : Bool) → (is_of t cs c || is_of u ds c) ≡ b → ltb (pair_place t cs u ds c) (length cs + length ds) ≡ not (not b)
    go true e = lt-ltb (pair_place t cs u ds c) (length cs + length ds) (pair_inside t cs u ds c e)
    go false e = le-ltb (pair_place t cs u ds c) (length cs + length ds) (leb-true (length cs + length ds) (pair_place t cs u ds c) (pair-past t cs u ds c ∙ ap not e))

-- columns that are looked up by `place` among so many, and which of them are missing
module _ {C : Type 0} (place : C → ℕ) (width : ℕ) (lacks : C → Bool) (inside : (c : C) → ltb (place c) width ≡ not (lacks c)) where
  places-known : (cs : List C) → places_below width (map place cs) ≡ not (any lacks cs)
  places-known [] = refl
  places-known (c ∷ cs) = ap₂ ◌&&◌ (inside c) (places-known cs) ∙ not-or (lacks c) (any lacks cs)

  side-known : (m : ℕ) (t : Term C) → is_below width (operand_read (operand_struct (operand_of place m t))) ≡ not (any lacks (term_columns (t ∷ [])))
  side-known m (G.column c) = ap (is_below width) (column-read (place c)) ∙ inside c ∙ ap not (sym (or-false (lacks c)))
  side-known m (G.given (G.constant z)) = refl
  side-known m (G.given G.mark) = ap (is_below width) (parameter-read m)

  sides-known : (m : ℕ) (c : Q.Comparison (Term C)) (ts : List (Term C))
      → (of_first width (comparison_read (comparison_struct (comparison_of place m c))) && not (any lacks (term_columns ts))) ≡ not (any lacks (term_columns (c.left ∷ c.right ∷ ts)))
  sides-known m c ts =
      let a = any lacks (term_columns (c.left ∷ [])) in
      let b = any lacks (term_columns (c.right ∷ [])) in
      let d = any lacks (term_columns ts) in
      ap (λ (x : Bool). x && not d) (ap₂ ◌&&◌ (side-known m c.left) (side-known (m + mark_in_term c.left) c.right) ∙ not-or a b)
      ∙ not-or (a || b) d
      ∙ ap not (sym (columns-cons lacks c.left (c.right ∷ ts) ∙ ap (λ (x : Bool). a || x) (columns-cons lacks c.right ts) ∙ or_assoc a b d))

  comparisons-known : (m : ℕ) (ns : List (Node (Term C)))
      → all (λ k. of_first width (comparison_read k)) (map comparison_struct (leaves (resolve_nodes place m ns))) ≡ not (any lacks (term_columns (sides (leaves ns))))
  comparisons-known m [] = refl
  comparisons-known m (leaf c ∷ ns) =
      ap (λ (x : Bool). of_first width (comparison_read (comparison_struct (comparison_of place m c))) && x) (comparisons-known (marks_past m c) ns)
      ∙ sides-known m c (sides (leaves ns))
  comparisons-known m (all_of ∷ ns) = comparisons-known m ns
  comparisons-known m (any_of ∷ ns) = comparisons-known m ns

  condition-known : (m : ℕ) (ns : List (Node (Term C)))
      → condition_below width (condition_struct (resolve_nodes place m ns)) ≡ not (any lacks (term_columns (sides (leaves ns))))
  condition-known m ns =
      let cs = leaves (resolve_nodes place m ns) in
      ap (all (λ k. of_first width (comparison_read k))) (take-padded 8 no_comparison (map comparison_struct cs) (length cs) (length-map cs comparison_struct))
      ∙ comparisons-known m ns

  -- both at once
  pub unknown-is : (cs : List C) (m : ℕ) (ns : List (Node (Term C)))
      → unknown_on width (map place cs) (condition_struct (resolve_nodes place m ns)) ≡ any lacks (cs ++ term_columns (sides (leaves ns)))
  unknown-is cs m ns =
      ap not (ap₂ ◌&&◌ (places-known cs) (condition-known m ns) ∙ not-or (any lacks cs) (any lacks (term_columns (sides (leaves ns)))))
      ∙ not-not (any lacks cs || any lacks (term_columns (sides (leaves ns))))
      ∙ sym (any_append lacks cs (term_columns (sides (leaves ns))))

-- ---- settings

module _ (columns : List Name) where
  pub settings_are : (m : ℕ) (ss : List (Name × Given))
      → settings_from m (places_of columns (map (λ (s : Name × Given). s.0) ss)) (map (λ (s : Name × Given). s.1) ss) ≡ map setting_struct (settings columns m ss)
  settings_are m [] = refl
  settings_are m (s ∷ ss) = ap (λ (xs : List Setting). setting_struct (position columns s.0, numbered m s.1) ∷ xs) (settings_are (m + mark_in s.1) ss)

  pub settings-count : (m : ℕ) (ss : List (Name × Given)) → length (settings columns m ss) ≡ length ss
  settings-count m [] = refl
  settings-count m (s ∷ ss) = ap suc (settings-count (m + mark_in s.1) ss)

pub placed-are : (i m k : ℕ) (vs : List Given) → length vs ≤ k → settings_from m (take (length vs) (from i k)) vs ≡ map setting_struct (placed_from i (numbered_all m vs))
placed-are i m k [] h = refl
placed-are i m zero (v ∷ vs) h = absurd (not-suc-le-zero h)
placed-are i m (suc k) (v ∷ vs) h = ap (λ (xs : List Setting). setting_struct (i, numbered m v) ∷ xs) (placed-are (suc i) (m + mark_in v) k vs (le_of_suc-le-suc h))

pub placed-count : (i m : ℕ) (vs : List Given) → length (placed_from i (numbered_all m vs)) ≡ length vs
placed-count i m [] = refl
placed-count i m (v ∷ vs) = ap suc (placed-count (suc i) (m + mark_in v) vs)
