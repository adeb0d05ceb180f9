-- Rules 1 and 2: the columns that a query tests, by its comparisons; and the columns set, looked for in either order. Assumes nothing.
use mathlib.Core.Path.{◌≡◌, refl, sym, ap, ap₂, ◌∙◌}
use Rattle.std.specs.Prelude.{Some}
use Rattle.std.specs.Option.{option_eq}
use mathlib.Core.Bool.{Bool, true, false, ◌&&◌, ◌||◌, cond, or-false, false≢true}
use mathlib.Core.List.{List, [], ◌∷◌, map}
use Prim.Native.Nat.{ℕ, zero, suc, ◌+◌, ◌≤◌, min}
use native.Mathlib.Decide.{dec_le}
use native.Mathlib.Omega.{arith}
use lib.Dec.{eqb}
use borrow.Author.Tests.{eq-eqb, ne_eqb, eqb-true, eqb-false}
use lib.ListN.{length, take, length-take}
use lib.Seq.{take-nil, take-take, take_all}
use Rattle.lists.specs.Lists.{any, keep, cons_if}
use Rattle.lists.proofs.Bools.{or_assoc}
use Rattle.lists.proofs.Lists.{All-every, any_append, any-map, any_same, map-take}
use Rattle.meaning.specs.Condition as C
use Rattle.meaning.specs.Condition.{sides}
use Rattle.meaning.specs.Statement as M
use Rattle.meaning.specs.Pattern.{neither, first, second, second_side, is_side, operand_columns, moved}
use Rattle.meaning.specs.Postfix.{leaves}
use Rattle.statement.specs.declared.Comparison.{Comparison}
use Rattle.statement.specs.declared.Condition.{Condition}
use Rattle.statement.specs.declared.Query.{Query}
use Rattle.statement.specs.declared.Setting.{Setting}
use Rattle.statement.specs.declared.Update.{Update}
use Rattle.statement.specs.Compiled.{new_value}
use Rattle.statement.specs.Terms.{second_said}
use Rattle.statement.specs.Sound.{value_read, comparison_read, nodes_read, used_comparisons, used_steps, condition_nodes, second_by, second_read, setting_read, settings_read}
use Rattle.pattern.specs.Stored.{side_read, start_by, start_read, columns_used, touches, relevant, is_read}
use Rattle.pattern.specs.Private.Relevance.{is_among, names_any, tests_any, comparison_steps, sets_used}

-- ---- the columns of sides

module _ (p : ℕ → Bool) where
  abbrev named : M.Operand → Bool
  named o = any p (operand_columns (o ∷ []))

  side-first : (o : M.Operand) (os : List M.Operand) → any p (operand_columns (o ∷ os)) ≡ (named o || any p (operand_columns os))
  side-first (M.column i) os = ap (λ (b : Bool). b || any p (operand_columns os)) (sym (or-false (p i)))
  side-first (M.value v) os = refl

  -- of a comparison, and of the others
  sides_first : (c : C.Comparison M.Operand) (cs : List (C.Comparison M.Operand))
      → any p (operand_columns (sides (c ∷ cs))) ≡ ((named c.left || named c.right) || any p (operand_columns (sides cs)))
  sides_first c cs =
      side-first c.left (c.right ∷ sides cs)
      ∙ ap (λ (b : Bool). named c.left || b) (side-first c.right (sides cs))
      ∙ or_assoc (named c.left) (named c.right) (any p (operand_columns (sides cs)))

names-is : (columns : List ℕ) (o : M.Operand) → names_any columns o ≡ any (is_among columns) (operand_columns (o ∷ []))
names-is columns (M.column i) = sym (or-false (is_among columns i))
names-is columns (M.value v) = refl

pub tests-are : (columns : List ℕ) (cs : List (C.Comparison M.Operand)) → any (tests_any columns) cs ≡ any (is_among columns) (operand_columns (sides cs))
tests-are columns [] = refl
tests-are columns (c ∷ cs) =
    ap₂ ◌||◌ (ap₂ ◌||◌ (names-is columns c.left) (names-is columns c.right)) (tests-are columns cs) ∙ sym (sides_first (is_among columns) c cs)

-- ---- the comparisons that the steps take

pub take-both : {A : Type 0} (m n : ℕ) (l : List A) → take (min m n) l ≡ take m (take n l)
take-both m n l = go (dec_le m n)
  where
    go : Dec (m ≤ n) → take (min m n) l ≡ take m (take n l)
    go (yes h) =
        let z : min m n ≡ m = omega arith in
        rw z (sym (take-take m n l h))
    go (no h) =
        let z : min m n ≡ n = omega arith in
        rw z (sym (take_all m (take n l) (omega (arith, length-take n l))))

side-more : (o : M.Operand) (xs ys : List M.Operand) → operand_columns xs ≡ operand_columns ys → operand_columns (o ∷ xs) ≡ operand_columns (o ∷ ys)
side-more (M.column i) xs ys e = ap (λ (l : List ℕ). i ∷ l) e
side-more (M.value v) xs ys e = e

-- those that are missing name no column
columns-tested : (ss : List ℕ) (cs : List Comparison) → operand_columns (sides (leaves (nodes_read ss cs))) ≡ operand_columns (sides (map comparison_read (take (comparison_steps ss) cs)))
columns-tested [] cs = refl
columns-tested (zero ∷ ss) [] = columns-tested ss [] ∙ ap (λ (l : List Comparison). operand_columns (sides (map comparison_read l))) (take-nil (comparison_steps ss))
columns-tested (zero ∷ ss) (c ∷ cs) =
    let xs = sides (leaves (nodes_read ss cs)) in
    let ys = sides (map comparison_read (take (comparison_steps ss) cs)) in
    side-more (comparison_read c).left ((comparison_read c).right ∷ xs) ((comparison_read c).right ∷ ys) (side-more (comparison_read c).right xs ys (columns-tested ss cs))
columns-tested (suc zero ∷ ss) cs = columns-tested ss cs
columns-tested (suc (suc k) ∷ ss) cs =
    columns-tested ss cs
    ∙ sym (ap (λ (b : Bool). operand_columns (sides (map comparison_read (take (length (cons_if b (suc (suc k)) (keep (λ (s : ℕ). eqb s 0) ss))) cs)))) (ne_eqb (suc (suc k)) 0 (λ e. omega arith)))

-- the columns that a condition tests
pub condition-columns : (c : Condition)
    → operand_columns (sides (leaves (condition_nodes c))) ≡ operand_columns (sides (map comparison_read (take (comparison_steps (used_steps c)) (used_comparisons c))))
unfolding condition_nodes
condition-columns c = columns-tested (used_steps c) (used_comparisons c)

-- ---- the columns set, in either order

module _ {A : Type 0} where
  pub any-or : (p q : A → Bool) (xs : List A) → any (λ (x : A). p x || q x) xs ≡ (any p xs || any q xs)
  any-or p q [] = refl
  any-or p q (x ∷ xs) = ap (λ (b : Bool). (p x || q x) || b) (any-or p q xs) ∙ go (p x) (q x) (any p xs) (any q xs)
    where
      go : (a b c d : Bool) → ((a || b) || (c || d)) ≡ ((a || c) || (b || d))
      go true b c d = refl
      go false true true d = refl
      go false true false d = refl
      go false false c d = refl

  any_none : (xs : List A) → any (λ (x : A). false) xs ≡ false
  any_none [] = refl
  any_none (x ∷ xs) = any_none xs

module _ {A B : Type 0} where
  any_swap : (r : B → A → Bool) (ys : List B) (xs : List A) → any (λ (y : B). any (r y) xs) ys ≡ any (λ (x : A). any (λ (y : B). r y x) ys) xs
  any_swap r [] xs = sym (any_none xs)
  any_swap r (y ∷ ys) xs = ap (λ (b : Bool). any (r y) xs || b) (any_swap r ys xs) ∙ sym (any-or (r y) (λ (x : A). any (λ (z : B). r z x) ys) xs)

-- settings k columns on
moved-any : (p : ℕ × M.Value → Bool) (k : ℕ) (xs : List Setting) → any p (moved k (map setting_read xs)) ≡ any (λ (s : Setting). p (k + s.column, value_read (new_value s))) xs
moved-any p k [] = refl
moved-any p k (x ∷ xs) = ap (λ (b : Bool). p (k + x.column, value_read (new_value x)) || b) (moved-any p k xs)

module _ (q : Query) (u : Update) (start : ℕ) (columns : List ℕ) (e : columns ≡ take u.count (map (λ (s : Setting). start + s.column) u.settings)) where
  abbrev moves : Setting → ℕ
  moves s = start + s.column

  set_is : (i : ℕ) → any (λ (s : ℕ × M.Value). eqb s.0 i) (moved start (settings_read u)) ≡ is_among columns i
  set_is i =
      moved-any (λ (s : ℕ × M.Value). eqb s.0 i) start (take u.count u.settings)
      ∙ sym (any-map moves (λ (j : ℕ). eqb j i) (take u.count u.settings))
      ∙ ap (λ (l : List ℕ). is_among l i) (map-take moves u.count u.settings ∙ sym e)

  sets-used : sets_used start q u ≡ any (is_among columns) (columns_used q)
  unfolding sets_used
  sets-used =
      any_swap (λ (s : ℕ × M.Value) (i : ℕ). eqb s.0 i) (moved start (settings_read u)) (columns_used q)
      ∙ any_same (All-every set_is (columns_used q))

  abbrev tested : List M.Operand
  tested = sides (leaves (condition_nodes q.condition))

  -- by the columns selected, and by those tested
  parts : sets_used start q u ≡ (any (is_among columns) (take q.count q.selected) || any (is_among columns) (operand_columns tested))
  parts = sets-used ∙ any_append (is_among columns) (take q.count q.selected) (operand_columns tested)

  pub by-selected : any (is_among columns) (take q.count q.selected) ≡ true → sets_used start q u ≡ true
  by-selected h = parts ∙ ap (λ (b : Bool). b || any (is_among columns) (operand_columns tested)) h

  pub by-tested : any (is_among columns) (take q.count q.selected) ≡ false
      → sets_used start q u ≡ any (tests_any columns) (map comparison_read (take (comparison_steps (used_steps q.condition)) (used_comparisons q.condition)))
  by-tested h =
      parts
      ∙ ap (λ (b : Bool). b || any (is_among columns) (operand_columns tested)) h
      ∙ ap (any (is_among columns)) (condition-columns q.condition)
      ∙ sym (tests-are columns (map comparison_read (take (comparison_steps (used_steps q.condition)) (used_comparisons q.condition))))

-- ---- A.1: the updated table among the query's

eqb-suc : (m t : ℕ) → eqb m t ≡ eqb (suc m) (t + 1)
eqb-suc m t = go (eqb m t) refl
  where
    go : (b : Bool) → eqb m t ≡ b → b ≡ eqb (suc m) (t + 1)
    go true e = sym (eq-eqb (suc m) (t + 1) (omega (arith, eqb-true m t e)))
    go false e = sym (ne_eqb (suc m) (t + 1) (λ d. eqb-false m t e (omega arith)))

-- the second table is that one exactly if it is given by that number and 1
abbrev is_second : ℕ → ℕ → Bool
is_second m t = option_eq eqb (second_said m) (Some t)

pub second-yes : (m t : ℕ) → is_second m t ≡ true → m ≡ t + 1
second-yes zero t h = absurd (false≢true h)
second-yes (suc k) t h = omega (arith, eqb-true k t h)

pub second-no : (m t : ℕ) → is_second m t ≡ false → m ≡ t + 1 → ⊥
second-no zero t h e = absurd (omega arith)
second-no (suc k) t h e = eqb-false k t h (omega arith)

module _ (q : Query) (u : Update) where
  pub read_is : is_side (side_read q u) ≡ is_read q.table q.second u.table
  read_is = go (eqb q.table u.table) q.second
    where
      side : (b : Bool) → is_side (cond b second neither) ≡ b
      side true = refl
      side false = refl

      go : (b : Bool) (m : ℕ) → is_side (cond b first (second_side (second_by m q.start) u.table)) ≡ (b || eqb m (u.table + 1))
      go true m = refl
      go false zero = sym (ne_eqb 0 (u.table + 1) (λ e. omega arith))
      go false (suc m) = side (eqb m u.table) ∙ eqb-suc m u.table

  pub start_first : q.table ≡ u.table → start_read q u ≡ 0
  unfolding start_read
  start_first e = ap (λ (b : Bool). start_by (second_read q) (cond b first (second_side (second_read q) u.table))) (eq-eqb q.table u.table e)

  module _ (ne : q.table ≡ u.table → ⊥) where
    not_first : start_read q u ≡ start_by (second_read q) (second_side (second_read q) u.table)
    unfolding start_read
    not_first = ap (λ (b : Bool). start_by (second_read q) (cond b first (second_side (second_read q) u.table))) (ne_eqb q.table u.table ne)

    pub start-second : q.second ≡ u.table + 1 → start_read q u ≡ q.start
    start-second e = not_first ∙ go q.second e
      where
        go : (m : ℕ) → m ≡ u.table + 1 → start_by (second_by m q.start) (second_side (second_by m q.start) u.table) ≡ q.start
        go zero d = absurd (omega arith)
        go (suc m) d = ap (λ (b : Bool). start_by (second_by (suc m) q.start) (cond b second neither)) (eq-eqb m u.table (omega arith))

    pub start-neither : (q.second ≡ u.table + 1 → ⊥) → start_read q u ≡ 0
    start-neither n = not_first ∙ go q.second n
      where
        go : (m : ℕ) → (m ≡ u.table + 1 → ⊥) → start_by (second_by m q.start) (second_side (second_by m q.start) u.table) ≡ 0
        go zero d = refl
        go (suc m) d = ap (λ (b : Bool). start_by (second_by (suc m) q.start) (cond b second neither)) (ne_eqb m u.table (λ e. d (omega arith)))

-- ---- by the form of the update

module _ (q : Query) (u : Update) where
  pub other-table : is_read q.table q.second u.table ≡ false → relevant q u ≡ false
  unfolding relevant
  other-table e = ap (λ (b : Bool). b && touches (start_read q u) u.form q u) (read_is q u ∙ e)

  module _ (e : is_read q.table q.second u.table ≡ true) where
    same_table : relevant q u ≡ touches (start_read q u) u.form q u
    unfolding relevant
    same_table = ap (λ (b : Bool). b && touches (start_read q u) u.form q u) (read_is q u ∙ e)

    pub update-relevant : u.form ≡ 1 → relevant q u ≡ sets_used (start_read q u) q u
    unfolding sets_used
    update-relevant f = same_table ∙ ap (λ (k : ℕ). touches (start_read q u) k q u) f

    pub other-relevant : (u.form ≡ 1 → ⊥) → relevant q u ≡ true
    other-relevant ne = same_table ∙ go u.form ne
      where
        go : (k : ℕ) → (k ≡ 1 → ⊥) → touches (start_read q u) k q u ≡ true
        go zero n = refl
        go (suc zero) n = absurd (n refl)
        go (suc (suc k)) n = refl
