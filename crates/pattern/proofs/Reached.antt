-- A.7 on stored statements, for callers. Where they are separate, the test over critical numbers holds exactly if some row is affected. Of statements that sentences
-- compile to, and of the rows that a ring pushes out, `reaches_stored` is what the sentences say. Assumes nothing.
use mathlib.Core.Path.{◌≡◌, refl, sym, ap, ap₂, subst, ◌∙◌}
use mathlib.Core.Logic.{◌↔◌}
use mathlib.Core.Bool.{Bool, true, false, not, ◌&&◌, ◌||◌, false≢true}
use mathlib.Core.Option.{Option, none, some}
use mathlib.Core.List.{List, [], ◌∷◌, ◌++◌, map}
use Prim.Native.Nat.{ℕ, zero, suc, ◌≤◌, ◌<◌}
use native.Mathlib.Omega.{arith}
use lib.IntN.{ℤ, pos}
use lib.Dec.{eqb, leb, ltb}
use lib.ListN.{length, get_or, take, replicate, length-map}
use borrow.Author.Tests.{ltb-true, lt-ltb, le-leb, eqb-true, eq-eqb, ne_eqb}
use Rattle.lists.specs.Lists.{All, nil, cons, any, all}
use Rattle.lists.specs.Tests.{eq_z, eq_list}
use Rattle.lists.proofs.Bools.{and_left, and_right, and_both, not-true, not-or, iff}
use Rattle.lists.proofs.Lists.{All-head, All-tail, All-every, All-map, All-left, All-right, all_true, any_append, any-map, any_same}
use Rattle.meaning.specs.Operator.{Predicate, by, is-null, is-not-null, opposite}
use Rattle.meaning.specs.Condition as C
use Rattle.meaning.specs.Condition.{Comparison, Level, compare, negate, group, alone, both, single, either, Where, always, under, comparisons, sides, comparisons_in, operands_in, holds}
use Rattle.meaning.specs.Postfix.{Node, leaf, all_of, any_of, top, joined, signed, nodes_in, leaves, run_on}
use Rattle.meaning.specs.Resolve.{parameter_count}
use Rattle.meaning.specs.Statement.{is_below, Operand, constant, Change, insert, delete, update}
use Rattle.meaning.specs.Names.{Schema, no_schema}
use Rattle.meaning.specs.Statement as M
use Rattle.meaning.specs.Meaning.{Row, cell, value_of, operand_value, takes, new_row, assigned}
use Rattle.meaning.specs.Pattern.{matters, removal}
use Rattle.meaning.specs.Exact.{compares_columns, with_columns, comparisons_of, is_single, is_separate, Affected, numbers_in, change_numbers, critical, rows_from, affects, drops}
use Rattle.meaning.proofs.Postfix.{signed_in, leaves_signed, sides-in}
use Rattle.meaning.proofs.Exact.{Apart, Alike, Rows, Heard, heard, holds_same, set_numbers, rows-set, alters-same, matters_alone, some-row, zeros, separate-matters, affects-exactly-if}
use Rattle.statement.specs.declared.Condition.{Condition}
use Rattle.statement.specs.declared.Query.{Query}
use Rattle.statement.specs.declared.Update.{Update}
use Rattle.statement.specs.Compiled.{form_of_change, settings_of_change, where_of_change, update_struct}
use Rattle.statement.specs.Sound.{condition_nodes, second_by, settings_read, AgreesCondition, AgreesQuery, AgreesUpdate}
use Rattle.statement.specs.SoundTest.{setting_values, setting_operands, sound_condition, sound_form, columns_at, columns_with, sound_query, sound_update}
use Rattle.statement.proofs.Stored.{map-twice}
use Rattle.statement.proofs.SoundSettings.{placed-values, placed-length}
use Rattle.statement.proofs.SoundCondition.{condition-parts}
use Rattle.statement.proofs.SoundQuery.{columns_for, query-parts}
use Rattle.statement.proofs.SoundUpdate.{update-parts}
use Rattle.table.specs.Rows.{meets_stored}
use Rattle.table.proofs.Means.{meets-where}
use Rattle.pattern.specs.Stored.{is_formed, is_plain, plain_condition, separate_stored, matters_stored, numbers_stored, change_numbers_stored, affects_stored, matches_stored, reaches_stored}
use Rattle.pattern.proofs.Removal.{removal-agrees}
use Rattle.pattern.proofs.Conjunctions.{AffectedStored}
use Rattle.pattern.proofs.Laws.{sound-few, judged_stored, judged-mean}

-- ---- a stored condition that compares no column with a column says the same of rows that are alike

-- what a run gives depends on what its comparisons give
module _ {O : Type 0} (v w : O → ℤ) where
  run-same : (ns : List (Node O)) → All (λ (c : Comparison O). holds v c ≡ holds w c) (leaves ns) → (st : List Bool)
      → run_on (holds v) ◌&&◌ ◌||◌ ns st ≡ run_on (holds w) ◌&&◌ ◌||◌ ns st
  run-same [] h st = refl
  run-same (leaf c ∷ ns) h st = ap (λ (b : Bool). run_on (holds v) ◌&&◌ ◌||◌ ns (b ∷ st)) (All-head h) ∙ run-same ns (All-tail h) (holds w c ∷ st)
  run-same (all_of ∷ ns) h st = run-same ns h (joined ◌&&◌ st)
  run-same (any_of ∷ ns) h st = run-same ns h (joined ◌||◌ st)

abbrev Columnless : Comparison Operand → Type 0
Columnless c = with_columns c ≡ false

module _ (zs vs : List ℤ) (r s : Row) (R : Rows zs r s) where
  leaves-same : (cs : List (Comparison Operand)) → All (λ o. Heard vs o zs) (sides cs) → All Columnless cs
      → All (λ (c : Comparison Operand). holds (operand_value r vs) c ≡ holds (operand_value s vs) c) cs
  leaves-same [] h k = nil
  leaves-same (c ∷ cs) h k =
      cons (holds_same zs vs r s R c (All-head h) (All-head (All-tail h)) (All-head k)) (leaves-same cs (All-tail (All-tail h)) (All-tail k))

  meets-same : (c : Condition) → ((z w : ℤ) → Alike zs z w → All (Apart z w) (numbers_stored c vs)) → All Columnless (leaves (condition_nodes c))
      → meets_stored c vs r ≡ meets_stored c vs s
  unfolding meets_stored
  meets-same c f k =
      ap (top true)
      (run-same (operand_value r vs) (operand_value s vs) (condition_nodes c)
      (leaves-same (leaves (condition_nodes c)) (heard zs vs (sides (leaves (condition_nodes c))) f) k) [])

plain-columns : (n : ℕ) (c : Condition) → plain_condition n c ≡ true → All Columnless (leaves (condition_nodes c))
plain-columns n c h =
    All-map (λ d e. not-true (with_columns d) (and_left (not (with_columns d)) _ e))
    (all_true (is_plain n) (leaves (condition_nodes c)) (and_right (is_formed c) _ h))

-- ---- the test holds exactly if some row is affected

-- a row that is taken before, and after, and is the same in the selected columns
abbrev differing : Bool → Bool → Bool → Bool
differing a b same = (a && not b) || ((not a && b) || (a && (b && not same)))

module _ (q : Query) (qs : List ℤ) (u : Update) (us : List ℤ) where
  abbrev numbers : ℕ → List ℤ
  numbers f = numbers_stored q.condition qs ++ change_numbers_stored f u us

  asked-apart : (f : ℕ) (z w : ℤ) → Alike (numbers f) z w → All (Apart z w) (numbers_stored q.condition qs)
  asked-apart f z w A = All-left (numbers_stored q.condition qs) (change_numbers_stored f u us) A.each

  given-apart : (f : ℕ) (z w : ℤ) → Alike (numbers f) z w → All (Apart z w) (change_numbers_stored f u us)
  given-apart f z w A = All-right (numbers_stored q.condition qs) A.each

  -- the numbers of SET
  set_apart : (z w : ℤ) → Alike (numbers 1) z w → All (Apart z w) (set_numbers (settings_read u) us)
  set_apart z w A =
      subst (All (Apart z w)) (map-twice (λ (s : ℕ × M.Value). s.1) (value_of us) (settings_read u))
      (All-left (new_row (setting_values u) us) (numbers_stored u.condition us) (given-apart 1 z w A))

  module _ (qc : All Columnless (leaves (condition_nodes q.condition))) (uc : All Columnless (leaves (condition_nodes u.condition))) where
    asked-same : (f : ℕ) (a b : Row) → Rows (numbers f) a b → meets_stored q.condition qs a ≡ meets_stored q.condition qs b
    asked-same f a b R = meets-same (numbers f) qs a b R q.condition (asked-apart f) qc

    matters-same : (f : ℕ) (a b : Row) → Rows (numbers f) a b → matters_stored f q qs u us a ≡ matters_stored f q qs u us b
    matters-same zero a b R = refl
    matters-same (suc zero) a b R =
        ap₂ ◌&&◌
        (meets-same (numbers 1) us a b R u.condition (λ z w A. All-right (new_row (setting_values u) us) (given-apart 1 z w A)) uc)
        (λ i. differing (before i) (after i) (alters i))
      where
        ss : List (ℕ × M.Value)
        ss = settings_read u

        before : meets_stored q.condition qs a ≡ meets_stored q.condition qs b
        before = asked-same 1 a b R

        after : meets_stored q.condition qs (assigned ss us a) ≡ meets_stored q.condition qs (assigned ss us b)
        after = asked-same 1 (assigned ss us a) (assigned ss us b) (rows-set (numbers 1) us a b R ss set_apart)

        is : List ℕ
        is = take q.count q.selected

        alters : eq_list eq_z (map (cell a) is) (map (cell (assigned ss us a)) is) ≡ eq_list eq_z (map (cell b) is) (map (cell (assigned ss us b)) is)
        alters = alters-same (numbers 1) us a b R ss set_apart is
    matters-same (suc (suc f)) a b R =
        ap₂ ◌&&◌ (meets-same (numbers (suc (suc f))) us a b R u.condition (given-apart (suc (suc f))) uc) (asked-same (suc (suc f)) a b R)

both-plain : (n : ℕ) (q : Query) (u : Update) → separate_stored n q u ≡ true → (plain_condition n q.condition && plain_condition n u.condition) ≡ true
unfolding separate_stored
both-plain n q u h =
    and_right (ltb 0 n && (not (eqb u.form 0) || leb n (length (settings_read u)))) _ (and_right (eqb q.second 0 && eqb q.table u.table) _ h)

pub affects-stored : (n : ℕ) (q : Query) (qs : List ℤ) (u : Update) (us : List ℤ) → separate_stored n q u ≡ true
    → (affects_stored n q qs u us ≡ true) ↔ AffectedStored n q qs u us
unfolding affects_stored
affects-stored n q qs u us h =
    some-row (numbers q qs u us u.form) (matters_stored u.form q qs u us)
    (matters-same q qs u us
    (plain-columns n q.condition (and_left (plain_condition n q.condition) _ (both-plain n q u h)))
    (plain-columns n u.condition (and_right (plain_condition n q.condition) _ (both-plain n q u h)))
    u.form)
    n

-- ---- statements that sentences compile to: which conditions are plain

-- NOT does not change which operands are compared
signed-columns : (p : Bool) (c : Comparison Operand) → with_columns (signed p c) ≡ with_columns c
signed-columns true c = refl
signed-columns false c = go c.op
  where
    go : (o : Predicate) → compares_columns (opposite o) c.left c.right ≡ compares_columns o c.left c.right
    go (by o) = refl
    go is-null = refl
    go is-not-null = refl

two-columns : (xs ys cs ds : List (Comparison Operand)) → any with_columns xs ≡ any with_columns cs → any with_columns ys ≡ any with_columns ds
    → any with_columns (xs ++ ys) ≡ any with_columns (cs ++ ds)
two-columns xs ys cs ds h k = any_append with_columns xs ys ∙ ap₂ ◌||◌ h k ∙ sym (any_append with_columns cs ds)

tree-columns : {l : Level} (p : Bool) (c : C.Condition Operand l) → any with_columns (signed_in p c) ≡ any with_columns (comparisons c)
tree-columns p (compare c) = ap (λ (b : Bool). b || false) (signed-columns p c)
tree-columns p (negate c) = tree-columns (not p) c
tree-columns p (group c) = tree-columns p c
tree-columns p (alone c) = tree-columns p c
tree-columns p (both c d) = two-columns (signed_in p c) (signed_in p d) (comparisons c) (comparisons d) (tree-columns p c) (tree-columns p d)
tree-columns p (single c) = tree-columns p c
tree-columns p (either c d) = two-columns (signed_in p c) (signed_in p d) (comparisons c) (comparisons d) (tree-columns p c) (tree-columns p d)

where-columns : (w : Where Operand) → any with_columns (leaves (nodes_in w)) ≡ any with_columns (comparisons_in w)
where-columns always = refl
where-columns (under c) = ap (any with_columns) (leaves_signed true c) ∙ tree-columns true c

plain-leaves : (n : ℕ) (cs : List (Comparison Operand)) → all (is_below n) (sides cs) ≡ true → all (is_plain n) cs ≡ not (any with_columns cs)
plain-leaves n [] h = refl
plain-leaves n (c ∷ cs) h =
    let k = and_right (is_below n c.left) _ h in
    ap₂ (λ (x y : Bool). (not (with_columns c) && x) && y)
    (and_both (is_below n c.left) (is_below n c.right) (and_left (is_below n c.left) _ h) (and_left (is_below n c.right) _ k))
    (plain-leaves n cs (and_right (is_below n c.right) _ k))
    ∙ go (with_columns c)
  where
    go : (a : Bool) → ((not a && true) && not (any with_columns cs)) ≡ not (a || any with_columns cs)
    go true = refl
    go false = refl

module _ (n : ℕ) (c : Condition) (w : Where Operand) (A : AgreesCondition c w) where
  sound-plain : (m : ℕ) → sound_condition n m c ≡ true → plain_condition n c ≡ not (any with_columns (comparisons_in w))
  unfolding is_formed
  sound-plain m h =
      let P = condition-parts n m c h in
      ap (λ (b : Bool). b && all (is_plain n) (leaves (condition_nodes c))) (and_both (leb c.count 8) _ (le-leb c.count 8 P.few) P.postfix)
      ∙ plain-leaves n (leaves (condition_nodes c)) P.below
      ∙ ap (λ (ns : List (Node Operand)). not (any with_columns (leaves ns))) A.nodes_are
      ∙ ap not (where-columns w)

  -- the numbers in it
  numbers_are : (vs : List ℤ) → numbers_stored c vs ≡ numbers_in vs (operands_in w)
  numbers_are vs = ap (λ (ns : List (Node Operand)). numbers_in vs (sides (leaves ns))) A.nodes_are ∙ ap (numbers_in vs) (sides-in w)

-- ---- they are separate where their sentences are

-- an update of a table of n columns: a sound one, or the removal of a row
record Fitting (n : ℕ) (u : Update) (s : M.Update) : Type 0 where
  agrees : AgreesUpdate u s
  values : u.form ≡ 0 → n ≤ length (settings_read u)
  plain : plain_condition n u.condition ≡ not (any with_columns (comparisons_of s.change))

single-is : (k start : ℕ) → eqb k 0 ≡ is_single (second_by k start)
single-is zero start = eq-eqb 0 0 refl
single-is (suc k) start = ne_eqb (suc k) 0 (λ e. absurd (omega arith))

single-none : (o : Option M.Second) → is_single o ≡ true → o ≡ none
single-none none e = refl
single-none (some s) e = absurd (false≢true e)

module _ (ts : List Schema) (q : Query) (r : M.Query) (A : AgreesQuery q r) (h : sound_query ts q ≡ true) where
  -- a question over one table has its columns
  module _ (e : r.second ≡ none) where
    abbrev width : ℕ
    width = columns_at ts q.table

    width_is : columns_for ts q ≡ width
    width_is = ap (columns_with ts width) (A.second_is ∙ e)

    some_column : 0 < width
    some_column =
        go r.selected (subst (λ (m : ℕ). 1 ≤ m) A.count_is (query-parts ts q h).some_selected)
        (ap₂ (λ (m : ℕ) (l : List ℕ). all (λ (i : ℕ). ltb i m) l) (sym width_is) (sym A.selected_are) ∙ (query-parts ts q h).selected_below)
      where
        go : (is : List ℕ) → 1 ≤ length is → all (λ (i : ℕ). ltb i width) is ≡ true → 0 < width
        go [] l b = absurd (omega arith)
        go (i ∷ is) l b = let k : i < width = ltb-true i width (and_left (ltb i width) _ b) in omega arith

    asked-plain : plain_condition width q.condition ≡ not (any with_columns (comparisons_in r.condition))
    asked-plain =
        sound-plain width q.condition r.condition A.condition_is 0
        (ap (λ (m : ℕ). sound_condition m 0 q.condition) (sym width_is) ∙ (query-parts ts q h).condition_sound)

  separate-by : (n : ℕ) (u : Update) (s : M.Update) → n ≡ columns_at ts u.table → Fitting n u s → separate_stored n q u ≡ is_separate r s
  unfolding separate_stored is_separate
  separate-by n u s e F = ap (λ (b : Bool). b && rest) one_table ∙ go (is_single r.second && eqb r.table s.table) refl
    where
      valued : Bool
      valued = ltb 0 n && (not (eqb u.form 0) || leb n (length (settings_read u)))

      rest : Bool
      rest = valued && (plain_condition n q.condition && plain_condition n u.condition)

      one_table : (eqb q.second 0 && eqb q.table u.table) ≡ (is_single r.second && eqb r.table s.table)
      one_table = ap₂ ◌&&◌ (single-is q.second q.start ∙ ap is_single A.second_is) (ap₂ eqb A.table_is F.agrees.table_is)

      all-valued : (b : Bool) → eqb u.form 0 ≡ b → (not b || leb n (length (settings_read u))) ≡ true
      all-valued true f = le-leb n (length (settings_read u)) (F.values (eqb-true u.form 0 f))
      all-valued false f = refl

      go : (b : Bool) → (is_single r.second && eqb r.table s.table) ≡ b
          → (b && rest) ≡ (b && not (any with_columns (comparisons_in r.condition ++ comparisons_of s.change)))
      go false k = refl
      go true k =
          let one : r.second ≡ none = single-none r.second (and_left (is_single r.second) _ k) in
          let table : q.table ≡ u.table = A.table_is ∙ eqb-true r.table s.table (and_right (is_single r.second) _ k) ∙ sym F.agrees.table_is in
          let wide : n ≡ columns_at ts q.table = e ∙ ap (columns_at ts) (sym table) in
          ap₂ ◌&&◌
          (and_both (ltb 0 n) _ (lt-ltb 0 n (subst (λ (m : ℕ). 0 < m) (sym wide) (some_column one))) (all-valued (eqb u.form 0) refl))
          (ap₂ ◌&&◌ (ap (λ (m : ℕ). plain_condition m q.condition) wide ∙ asked-plain one) F.plain)
          ∙ not-or (any with_columns (comparisons_in r.condition)) (any with_columns (comparisons_of s.change))
          ∙ ap not (sym (any_append with_columns (comparisons_in r.condition) (comparisons_of s.change)))

-- ---- and then matter through the same rows

module _ (q : Query) (r : M.Query) (A : AgreesQuery q r) (u : Update) where
  asks : (qs : List ℤ) → meets_stored q.condition qs ≡ takes r qs
  asks qs = λ i x. meets-where q.condition r.condition A.condition_is qs x i

  matters-is : (qs us : List ℤ) (x : Row) (ch : Change) → u.form ≡ form_of_change ch → settings_read u ≡ settings_of_change ch
      → AgreesCondition u.condition (where_of_change ch) → matters_stored u.form q qs u us x ≡ matters_alone r qs ch us x
  matters-is qs us x (insert os) f s C =
      ap (λ (n : ℕ). matters_stored n q qs u us x) f
      ∙ ap₂ (λ (p : Row → Bool) (vs : List M.Value). p (new_row vs us)) (asks qs) (ap (map (λ (p : ℕ × M.Value). p.1)) s ∙ placed-values 0 os)
  matters-is qs us x (delete g) f s C =
      ap (λ (n : ℕ). matters_stored n q qs u us x) f ∙ ap₂ ◌&&◌ (meets-where u.condition g C us x) (λ i. asks qs i x)
  matters-is qs us x (update ss g) f s C =
      ap (λ (n : ℕ). matters_stored n q qs u us x) f
      ∙ ap₂ ◌&&◌ (meets-where u.condition g C us x)
      (λ i.
      differing (asks qs i x) (asks qs i (assigned (s i) us x)) (eq_list eq_z (map (cell x) (A.selected_are i)) (map (cell (assigned (s i) us x)) (A.selected_are i))))

  change-numbers : (us : List ℤ) (ch : Change) → u.form ≡ form_of_change ch → settings_read u ≡ settings_of_change ch
      → AgreesCondition u.condition (where_of_change ch) → change_numbers_stored u.form u us ≡ change_numbers ch us
  change-numbers us (insert os) f s C = ap (λ (n : ℕ). change_numbers_stored n u us) f
  change-numbers us (delete g) f s C = ap (λ (n : ℕ). change_numbers_stored n u us) f ∙ numbers_are 0 u.condition g C us
  change-numbers us (update ss g) f s C =
      ap (λ (n : ℕ). change_numbers_stored n u us) f
      ∙ ap₂ ◌++◌ (map-twice (λ (p : ℕ × M.Value). p.1) (value_of us) (settings_read u) ∙ ap (map (λ (p : ℕ × M.Value). value_of us p.1)) s)
      (numbers_are 0 u.condition g C us)

  module _ (s : M.Update) (B : AgreesUpdate u s) (n : ℕ) (qs us : List ℤ) where
    pub affects-mean : is_separate r s ≡ true → affects_stored n q qs u us ≡ affects n r qs s us
    unfolding affects_stored affects
    affects-mean h =
        any_same (All-every (λ x. matters-is qs us x s.change B.form_is B.settings_are B.condition_is ∙ sym (separate-matters r s h qs us x))
        (rows_from (critical (numbers q qs u us u.form)) n))
        ∙ ap (λ (zs : List ℤ). any (λ (x : Row). matters r qs s us x []) (rows_from (critical zs) n))
        (ap₂ ◌++◌ (numbers_are 0 q.condition r.condition A.condition_is qs) (change-numbers us s.change B.form_is B.settings_are B.condition_is))

    reaches-by : separate_stored n q u ≡ is_separate r s → reaches_stored n q u us qs ≡ (not (is_separate r s) || affects n r qs s us)
    unfolding reaches_stored
    reaches-by e = go (is_separate r s) refl
      where
        go : (b : Bool) → is_separate r s ≡ b → (not (separate_stored n q u) || affects_stored n q qs u us) ≡ (not (is_separate r s) || affects n r qs s us)
        go true k = ap₂ (λ (a b : Bool). not a || b) e (affects-mean k)
        go false k = ap (λ (b : Bool). not b || affects_stored n q qs u us) (e ∙ k) ∙ sym (ap (λ (b : Bool). not b || affects n r qs s us) k)

-- ---- a row that is pushed out is known

constants-back : (us : List ℤ) (x : Row) → new_row (map constant x) us ≡ x
constants-back us [] = refl
constants-back us (z ∷ x) = ap (λ (r : Row). z ∷ r) (constants-back us x)

removal-known : (n : ℕ) (r : M.Query) (qs us : List ℤ) (t : ℕ) (x : Row) → is_separate r (removal t x) ≡ true → affects n r qs (removal t x) us ≡ takes r qs x
removal-known n r qs us t x h =
    iff (affects n r qs (removal t x) us) (takes r qs x) (λ k. there ((affects-exactly-if r (removal t x) h n qs us).0 k))
    (λ k. (affects-exactly-if r (removal t x) h n qs us).1 (replicate n (pos 0), zeros n, known (replicate n (pos 0)) ∙ k))
  where
    known : (y : Row) → matters r qs (removal t x) us y [] ≡ takes r qs x
    known y = separate-matters r (removal t x) h qs us y ∙ ap (takes r qs) (constants-back us x)

    there : Affected n r qs (removal t x) us → takes r qs x ≡ true
    there (y, R, k) = sym (known y) ∙ k

removal-fits : (n t : ℕ) (x : Row) → length x ≡ n → Fitting n (update_struct (removal t x)) (removal t x)
unfolding is_formed condition_nodes
removal-fits n t x l = record {
  agrees = removal-agrees t x;
  values = λ f.
      let k : length (settings_read (update_struct (removal t x))) ≡ n =
      ap length (removal-agrees t x).settings_are ∙ placed-length 0 (map constant x) ∙ length-map x constant ∙ l in
      omega arith;
  plain = refl;
}

-- ---- the laws

module _ (ts : List Schema) (q : Query) (r : M.Query) (A : AgreesQuery q r) (u : Update) (s : M.Update) (B : AgreesUpdate u s) (h : sound_query ts q ≡ true)
    (k : sound_update ts u ≡ true) (n : ℕ) (e : n ≡ length (get_or ts u.table no_schema).columns) where
  update_fits : Fitting n u s
  update_fits = record { agrees = B; values = values; plain = plain }
    where
      values : u.form ≡ 0 → n ≤ length (settings_read u)
      values f =
          let c : u.count ≡ columns_at ts u.table =
          eqb-true u.count (columns_at ts u.table)
          (and_left (eqb u.count (columns_at ts u.table)) _ (ap (λ (i : ℕ). sound_form i (columns_at ts u.table) u) (sym f) ∙ (update-parts ts u k).form_sound)) in
          let l : length (settings_read u) ≡ n = ap length B.settings_are ∙ sym B.count_is ∙ c ∙ sym e in
          omega arith

      same : (ch : Change) → comparisons_in (where_of_change ch) ≡ comparisons_of ch
      same (insert os) = refl
      same (delete g) = refl
      same (update ss g) = refl

      plain : plain_condition n u.condition ≡ not (any with_columns (comparisons_of s.change))
      plain =
          sound-plain n u.condition (where_of_change s.change) B.condition_is (parameter_count (setting_operands u))
          (ap (λ (m : ℕ). sound_condition m (parameter_count (setting_operands u)) u.condition) e ∙ (update-parts ts u k).condition_sound)
          ∙ ap (λ (cs : List (Comparison Operand)). not (any with_columns cs)) (same s.change)

  pub separate-means : separate_stored n q u ≡ is_separate r s
  separate-means = separate-by ts q r A h n u s e update_fits

  pub reaches-mean : (us qs : List ℤ) → reaches_stored n q u us qs ≡ (not (is_separate r s) || affects n r qs s us)
  reaches-mean us qs = reaches-by q r A u s B n qs us separate-means

  -- of a row that is pushed out
  pub removal-reaches : (us qs : List ℤ) (x : Row) → length x ≡ n
      → reaches_stored n q (update_struct (removal u.table x)) us qs ≡ (not (is_separate r (removal s.table x)) || takes r qs x)
  removal-reaches us qs x l =
      reaches-by q r A v w (removal-agrees u.table x) n qs us (separate-by ts q r A h n v w e (removal-fits n u.table x l))
      ∙ go (is_separate r w) refl
      ∙ ap (λ (t : ℕ). not (is_separate r (removal t x)) || takes r qs x) B.table_is
    where
      v : Update
      v = update_struct (removal u.table x)

      w : M.Update
      w = removal u.table x

      go : (b : Bool) → is_separate r w ≡ b → (not (is_separate r w) || affects n r qs w us) ≡ (not (is_separate r w) || takes r qs x)
      go true f = ap (λ (b : Bool). not (is_separate r w) || b) (removal-known n r qs us u.table x f)
      go false f = ap (λ (b : Bool). not b || affects n r qs w us) f ∙ sym (ap (λ (b : Bool). not b || takes r qs x) f)

  -- only an INSERT pushes rows out, and it has no condition
  separate-removal : u.form ≡ 0 → (x : Row) → is_separate r (removal s.table x) ≡ is_separate r s
  unfolding is_separate
  separate-removal f x =
      ap (λ (cs : List (Comparison Operand)). (is_single r.second && eqb r.table s.table) && not (any with_columns (comparisons_in r.condition ++ cs)))
      (go s.change (sym B.form_is ∙ f))
    where
      go : (ch : Change) → form_of_change ch ≡ 0 → [] ≡ comparisons_of ch
      go (insert os) z = refl
      go (delete g) z = absurd (omega arith)
      go (update ss g) z = absurd (omega arith)

  -- with the rows pushed out
  judged-reach : (out : List Row) → All (λ (x : Row). (length x ≡ n) × (u.form ≡ 0)) out → (us qs : List ℤ)
      → any (λ (v : Update). reaches_stored n q v us qs) (judged_stored u out) ≡ (not (is_separate r s) || (affects n r qs s us || any (takes r qs) out))
  judged-reach out o us qs =
      ap₂ ◌||◌ (reaches-mean us qs)
      (any-map (λ (x : Row). update_struct (removal u.table x)) (λ (v : Update). reaches_stored n q v us qs) out
      ∙ any_same (All-map (λ x p. removal-reaches us qs x p.0 ∙ ap (λ (b : Bool). not b || takes r qs x) (separate-removal p.1 x)) o))
      ∙ go (is_separate r s) (affects n r qs s us)
    where
      go : (b a : Bool) → ((not b || a) || any (λ (x : Row). not b || takes r qs x) out) ≡ (not b || (a || any (takes r qs) out))
      go true a = refl
      go false a = refl

  -- some pattern matches and some row is reached where the sentences say that a kept answer is dropped
  pub drops-mean : (out : List Row) → All (λ (x : Row). (length x ≡ n) × (u.form ≡ 0)) out → (us qs : List ℤ)
      → (any (λ (v : Update). matches_stored q v us qs) (judged_stored u out) && any (λ (v : Update). reaches_stored n q v us qs) (judged_stored u out))
      ≡ drops n r s out us qs
  unfolding drops
  drops-mean out o us qs = ap₂ ◌&&◌ (judged-mean q r A u s B (sound-few ts q u h k) out us qs) (judged-reach out o us qs)
