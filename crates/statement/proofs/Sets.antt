-- Settings read one after the other, and the steps of a condition. Assumes nothing.
use mathlib.Core.Path.{◌≡◌, refl, sym, ap, ap₂, ◌∙◌}
use mathlib.Core.Bool.{Bool}
use mathlib.Core.List.{List, [], ◌∷◌, map}
use Prim.Native.Nat.{ℕ, suc, ◌+◌, ◌≤◌, zero-le, suc-le-suc}
use native.Mathlib.Omega.{arith}
use lib.ListN.{length, drop, set, replicate, drop_of_length-le}
use Rattle.lists.proofs.Walks.{Filling, filling-start, filling-more, filling-end}
use Rattle.meaning.specs.Postfix.{leaves}
use Rattle.meaning.specs.Grammar.{Given}
use Rattle.meaning.specs.Limits.{mark_in, mark_count}
use Rattle.meaning.specs.Statement.{numbered}
use Rattle.statement.specs.declared.Value.{Value}
use Rattle.statement.specs.declared.Setting.{Setting}
use Rattle.statement.specs.declared.conditions.Node.{Node as Noted}
use Rattle.statement.specs.declared.conditions.Node.TheVariants as N
use Rattle.statement.specs.declared.sentences.Item.{Item}
use Rattle.statement.specs.Private.Places.{given_on, nodes_on, bare_marks_on}
use Rattle.statement.specs.Private.Sentences.{givens_on}
use Rattle.statement.specs.Compiled.{padded, value_struct, setting_with, no_setting, step_of}
use Rattle.statement.specs.Private.Built.{short_given, mark_in_value, settings_from, settings_on, step_in}
use Rattle.statement.proofs.Parts.{mark-one, mark-given, short-mark}

-- no more settings than columns
pub settings-few : (m : ℕ) (cs : List ℕ) (vs : List Given) → length (settings_from m cs vs) ≤ length cs
settings-few m [] vs = zero-le
settings-few m (c ∷ cs) [] = zero-le
settings-few m (c ∷ cs) (v ∷ vs) = suc-le-suc (settings-few (m + mark_in v) cs vs)

module _ (s : List ℕ) (items : List Item) (columns : List ℕ) where
  abbrev settings_left : ℕ → ℕ → List Setting
  settings_left m i = settings_from m (drop i columns) (map short_given (givens_on s (drop i items)))

  -- i settings are made, with so many marks
  pub record SetUp (all : List Setting) (marks i : ℕ) : Type 0 where
    pub few : marks ≤ i
    pub counted : marks + mark_count (givens_on s (drop i items)) ≡ mark_count (givens_on s items)
    pub fills : Filling (padded 8 no_setting (settings_left 0 0)) all i (settings_left marks i)

  pub set-start : (all : List Setting) → all ≡ replicate 8 no_setting → length columns ≤ 8 → SetUp all 0 0
  set-start all e h = record {
    few = omega arith;
    counted = omega arith;
    fills = filling-start 8 no_setting (settings_left 0 0) all e (omega (arith, settings-few 0 columns (map short_given (givens_on s items))));
  }

  pub set_more : (all : List Setting) (marks i mark : ℕ) (column : ℕ) (item : Item) (value : Value) → drop i columns ≡ column ∷ drop (i + 1) columns → drop i items ≡ item ∷ drop (i + 1) items
      → value ≡ value_struct (numbered marks (short_given (given_on s item.value))) → mark ≡ mark_in_value value → SetUp all marks i
      → SetUp (set all i (setting_with column value)) (marks + mark) (i + 1)
  set_more all marks i mark column item value p q ev em S =
      let v : Given = given_on s item.value in
      let m : mark ≡ mark_in v = em ∙ ap mark_in_value ev ∙ mark-given marks (short_given v) ∙ short-mark v in
      let w : settings_left marks i ≡ setting_with column value ∷ settings_left (marks + mark) (i + 1) =
      ap₂ (λ (cs : List ℕ) (is : List Item). settings_from marks cs (map short_given (givens_on s is))) p q
      ∙ ap₂ (λ (x : Value) (j : ℕ). setting_with column x ∷ settings_left (marks + j) (i + 1)) (sym ev) (short-mark v ∙ sym m) in
      record {
        few = omega (arith, S.few, mark-one v);
        counted = omega (arith, S.counted, ap (λ (is : List Item). mark_count (givens_on s is)) q);
        fills = filling-more _ all i _ _ _ w S.fills;
      }

  pub set-end : (all : List Setting) (marks i : ℕ) → length columns ≤ i → length items ≤ i → SetUp all marks i → record { all = all; marks = marks } ≡ settings_on columns (givens_on s items)
  set-end all marks i h k S =
      let p : drop i columns ≡ [] = drop_of_length-le columns h in
      let q : drop i items ≡ [] = drop_of_length-le items k in
      let a : all ≡ padded 8 no_setting (settings_left 0 0) =
      filling-end _ all i _ (ap (λ (cs : List ℕ). settings_from marks cs (map short_given (givens_on s (drop i items)))) p) S.fills in
      let m : marks ≡ mark_count (givens_on s items) = omega (arith, S.counted, ap (λ (is : List Item). mark_count (givens_on s is)) q) in
      λ j. record { all = a j; marks = m j }

-- ---- steps

-- they hang on the nodes as they are noted alone, and not on the text, nor on how columns are written
pub steps-noted : (d : Bool) (s : List ℕ) (ns : List Noted) → map step_of (nodes_on d s ns) ≡ map step_in ns
steps-noted d s [] = refl
steps-noted d s (N.Comparison op bare a b ∷ ns) = ap (λ (ks : List ℕ). 0 ∷ ks) (steps-noted d s ns)
steps-noted d s (N.And ∷ ns) = ap (λ (ks : List ℕ). 1 ∷ ks) (steps-noted d s ns)
steps-noted d s (N.Or ∷ ns) = ap (λ (ks : List ℕ). 2 ∷ ks) (steps-noted d s ns)

-- A.6: a mark for each comparison, however columns are written
pub marks-count : (d : Bool) (s : List ℕ) (ns : List Noted) → length (bare_marks_on ns) ≡ length (leaves (nodes_on d s ns))
marks-count d s [] = refl
marks-count d s (N.Comparison op bare a b ∷ ns) = ap suc (marks-count d s ns)
marks-count d s (N.And ∷ ns) = marks-count d s ns
marks-count d s (N.Or ∷ ns) = marks-count d s ns

pub leaves-any : (d e : Bool) (s : List ℕ) (ns : List Noted) → length (leaves (nodes_on d s ns)) ≡ length (leaves (nodes_on e s ns))
leaves-any d e s ns = sym (marks-count d s ns) ∙ marks-count e s ns
