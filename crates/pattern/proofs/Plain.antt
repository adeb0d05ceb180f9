-- Comparisons with their values filled in, and with columns as an update leaves them: they compare no two columns if they did not before, and say of a row what the comparisons say
-- of it, or of the row after the update. Assumes nothing.
use mathlib.Core.Path.{◌≡◌, refl, sym, ap, ap₂, subst, ◌∙◌}
use mathlib.Core.Bool.{Bool, true, false, not, ◌&&◌, ◌||◌, cond, true≢false, and-false}
use mathlib.Core.List.{List, [], ◌∷◌, ◌++◌, map}
use Prim.Native.Nat.{ℕ, zero, suc, ◌+◌, ◌≤◌, ◌<◌}
use native.Mathlib.Omega.{arith}
use lib.IntN.{ℤ, pos}
use lib.Dec.{eqb, leb, ltb}
use lib.ListN.{length, set, length-set, length-take}
use lib.Seq.{get_or-set_same, get_or-set_other}
use borrow.Author.Tests.{eqb-true, eqb-false, eq-eqb, ne_eqb, ltb-true, leb-true}
use Rattle.lists.specs.Lists.{All, nil, any, all, pairs}
use Rattle.lists.proofs.Bools.{and_left, and_right, and_both, not-true}
use Rattle.lists.proofs.Lists.{All-head, All-tail, All-map, All-image, all_true}
use Rattle.meaning.specs.Operator.{Predicate, by, is-null, is-not-null, truth}
use Rattle.meaning.specs.Condition.{Comparison, renamed, holds}
use Rattle.meaning.specs.Postfix.{Node, leaf, all_of, any_of, top, joined, run_on, leaves, is_postfix, clauses_of_nodes}
use Rattle.meaning.specs.Statement.{is_below, Operand, column, value, constant}
use Rattle.meaning.specs.Statement as M
use Rattle.meaning.specs.Meaning.{Row, cell, value_of, operand_value, new_row, assigned}
use Rattle.meaning.specs.Pattern.{placed_from}
use Rattle.meaning.specs.Exact.{is_column, compares_columns, with_columns}
use Rattle.meaning.proofs.Postfix.{clauses-have}
use Rattle.statement.specs.declared.Condition.{Condition}
use Rattle.statement.specs.declared.Query.{Query}
use Rattle.statement.specs.declared.Update.{Update}
use Rattle.statement.specs.Sound.{used_steps, used_comparisons, condition_nodes, settings_read}
use Rattle.statement.proofs.Stored.{read_length, read-leaves, postfix-leaves}
use Rattle.table.specs.Rows.{meets_stored}
use Rattle.pattern.specs.Stored.{clauses_read, is_formed, is_plain, plain_condition, separate_stored}
use Rattle.pattern.specs.Private.Masks.{comparisons_read}
use Rattle.pattern.specs.Private.Flat.{values_of}
use Rattle.pattern.specs.Private.Literals.{column_by, wanted, filled_operand, set_operand, after_operand, role_operand, exchanged, clauses_not, where_clauses, not_clauses}
use Rattle.pattern.specs.declared.joint.Role.{Role}
use Rattle.pattern.specs.declared.joint.Role.TheVariants.{Given, Asked, Inserted, Set}
use Rattle.pattern.proofs.Formed.{steps-length}
use Rattle.pattern.proofs.Choice.{Inside, Proper, true-clauses, not-true-clauses}

-- ---- what fills in operands makes no column of a value, and leaves columns below n

pub record Tame (f : Operand → Operand) : Type 0 where
  pub below : (n : ℕ) (o : Operand) → is_below n o ≡ true → is_below n (f o) ≡ true
  pub values : (o : Operand) → is_column o ≡ false → is_column (f o) ≡ false

pub filled-tame : (vs : List ℤ) → Tame (filled_operand vs)
filled-tame vs = record { below = below; values = values }
  where
    below : (n : ℕ) (o : Operand) → is_below n o ≡ true → is_below n (filled_operand vs o) ≡ true
    below n (column i) h = h
    below n (value v) h = refl

    values : (o : Operand) → is_column o ≡ false → is_column (filled_operand vs o) ≡ false
    values (column i) h = absurd (true≢false h)
    values (value v) h = refl

set_below : (ss : List (ℕ × M.Value)) (us : List ℤ) (i n : ℕ) (o : Operand) → is_below n o ≡ true → is_below n (set_operand ss us i o) ≡ true
set_below [] us i n o h = h
set_below (s ∷ ss) us i n o h = set_below ss us i n (cond (eqb i s.0) (value (constant (value_of us s.1))) o) (go (eqb i s.0))
  where
    go : (t : Bool) → is_below n (cond t (value (constant (value_of us s.1))) o) ≡ true
    go true = refl
    go false = h

pub after-tame : (ss : List (ℕ × M.Value)) (us qs : List ℤ) → Tame (after_operand ss us qs)
after-tame ss us qs = record { below = below; values = values }
  where
    below : (n : ℕ) (o : Operand) → is_below n o ≡ true → is_below n (after_operand ss us qs o) ≡ true
    below n (column i) h = set_below ss us i n (column i) h
    below n (value v) h = refl

    values : (o : Operand) → is_column o ≡ false → is_column (after_operand ss us qs o) ≡ false
    values (column i) h = absurd (true≢false h)
    values (value v) h = refl

-- by whose operand it is
pub role-tame : (role : Role) (ss : List (ℕ × M.Value)) (us qs : List ℤ) → Tame (role_operand role ss us qs)
role-tame Given ss us qs = filled-tame us
role-tame Asked ss us qs = filled-tame qs
role-tame Inserted ss us qs = after-tame (placed_from 0 (values_of ss)) us qs
role-tame Set ss us qs = after-tame ss us qs

-- ---- comparisons of no two columns

pub apart-renamed : {f : Operand → Operand} → Tame f → (c : Comparison Operand) → with_columns c ≡ false → with_columns (renamed f c) ≡ false
apart-renamed {f} T c h = go c.op c.left c.right h
  where
    go : (p : Predicate) (a b : Operand) → compares_columns p a b ≡ false → compares_columns p (f a) (f b) ≡ false
    go (by o) (column i) (column j) h = absurd (true≢false h)
    go (by o) (column i) (value v) h = ap (λ (t : Bool). is_column (f (column i)) && t) (T.values (value v) refl) ∙ and-false (is_column (f (column i)))
    go (by o) (value v) b h = ap (λ (t : Bool). t && is_column (f b)) (T.values (value v) refl)
    go is-null a b h = refl
    go is-not-null a b h = refl

abbrev pub Plain : ℕ → Comparison Operand → Type 0
Plain n c = is_plain n c ≡ true

module _ (n : ℕ) (c : Comparison Operand) (h : Plain n c) where
  pub plain-separate : with_columns c ≡ false
  plain-separate = not-true (with_columns c) (and_left (not (with_columns c)) (is_below n c.left && is_below n c.right) h)

  plain-sides : (is_below n c.left && is_below n c.right) ≡ true
  plain-sides = and_right (not (with_columns c)) (is_below n c.left && is_below n c.right) h

  pub plain-left : is_below n c.left ≡ true
  plain-left = and_left (is_below n c.left) (is_below n c.right) plain-sides

  pub plain-right : is_below n c.right ≡ true
  plain-right = and_right (is_below n c.left) (is_below n c.right) plain-sides

  pub plain-proper : (b : Bool) → Proper n (wanted b c)
  plain-proper b = record { separate = plain-separate; inside = go c.op c.left c.right plain-left plain-right }
    where
      go : (p : Predicate) (a b : Operand) → is_below n a ≡ true → is_below n b ≡ true → Inside n (column_by p a b)
      go (by o) (column i) b h k = ltb-true i n h
      go (by o) (value v) (column j) h k = ltb-true j n k
      go (by o) (value v) (value w) h k = tt
      go is-null (column i) b h k = ltb-true i n h
      go is-null (value v) b h k = tt
      go is-not-null (column i) b h k = ltb-true i n h
      go is-not-null (value v) b h k = tt

  pub plain-renamed : {f : Operand → Operand} → Tame f → Plain n (renamed f c)
  plain-renamed {f} T =
      and_both (not (with_columns (renamed f c))) (is_below n (f c.left) && is_below n (f c.right))
      (ap not (apart-renamed T c plain-separate))
      (and_both (is_below n (f c.left)) (is_below n (f c.right)) (T.below n c.left plain-left) (T.below n c.right plain-right))

-- ---- conditions

-- the clauses of "not true" have what the comparisons have
not-have : {O : Type 0} {P : Comparison O → Type 0} (ns : List (Node O)) → All P (leaves ns) → All (All P) (clauses_not ns)
not-have {O} {P} ns h =
    go (run_on (λ (c : Comparison O). (c ∷ []) ∷ []) pairs ◌++◌ (map exchanged ns) []) (clauses-have (map exchanged ns) (subst (All P) (sym (leaves-exchanged ns)) h))
  where
    leaves-exchanged : (ns : List (Node O)) → leaves (map exchanged ns) ≡ leaves ns
    leaves-exchanged [] = refl
    leaves-exchanged (leaf c ∷ ns) = ap (λ (l : List (Comparison O)). c ∷ l) (leaves-exchanged ns)
    leaves-exchanged (all_of ∷ ns) = leaves-exchanged ns
    leaves-exchanged (any_of ∷ ns) = leaves-exchanged ns

    go : (st : List (List (List (Comparison O)))) → All (All P) (top ([] ∷ []) st) → All (All P) (top [] st)
    go [] k = nil
    go (cs ∷ st) k = k

-- of a condition that may come from a text the comparisons in their order
pub formed-leaves : (c : Condition) → is_formed c ≡ true → length c.steps ≡ 15 → length c.comparisons ≡ 8 → leaves (condition_nodes c) ≡ comparisons_read c
unfolding condition_nodes is_formed
formed-leaves c h es ec =
    read-leaves (used_steps c) (used_comparisons c)
    (postfix-leaves c.count (condition_nodes c) (and_right (leb c.count 8) (is_postfix (condition_nodes c)) h)
    (read_length (used_steps c) (used_comparisons c) ∙ steps-length c es few)
    ∙ sym counted)
  where
    few : c.count ≤ 8
    few = leb-true c.count 8 (and_left (leb c.count 8) (is_postfix (condition_nodes c)) h)

    counted : length (used_comparisons c) ≡ c.count
    counted = length-take c.count c.comparisons ∙ omega (arith, few)

module _ (n : ℕ) (c : Condition) (h : plain_condition n c ≡ true) where
  pub plain-formed : is_formed c ≡ true
  plain-formed = and_left (is_formed c) (all (is_plain n) (leaves (condition_nodes c))) h

  pub plain-leaves : All (Plain n) (leaves (condition_nodes c))
  plain-leaves = all_true (is_plain n) (leaves (condition_nodes c)) (and_right (is_formed c) (all (is_plain n) (leaves (condition_nodes c))) h)

  filled-all : {f : Operand → Operand} → Tame f → {css : List (List (Comparison Operand))} → All (All (Plain n)) css → All (All (Plain n)) (map (map (renamed f)) css)
  filled-all {f} T k = All-image (map (renamed f)) (All-map (λ cs l. All-image (renamed f) (All-map (λ c p. plain-renamed n c p T) l)) k)

  pub filled-where : {f : Operand → Operand} → Tame f → All (All (Plain n)) (where_clauses f c)
  unfolding clauses_read
  filled-where T = filled-all T (clauses-have (condition_nodes c) plain-leaves)

  pub filled-not : {f : Operand → Operand} → Tame f → All (All (Plain n)) (not_clauses f c)
  filled-not T = filled-all T (not-have (condition_nodes c) plain-leaves)

-- ---- of a query and an update

pub record Separate (n : ℕ) (q : Query) (u : Update) : Type 0 where
  pub some_column : 1 ≤ n
  pub room : (not (eqb u.form 0) || leb n (length (settings_read u))) ≡ true
  pub asked : plain_condition n q.condition ≡ true
  pub given : plain_condition n u.condition ≡ true

pub separate-is : (n : ℕ) (q : Query) (u : Update) → separate_stored n q u ≡ true → Separate n q u
unfolding separate_stored
separate-is n q u h =
    let a = eqb q.second 0 && eqb q.table u.table in
    let room = not (eqb u.form 0) || leb n (length (settings_read u)) in
    let b = ltb 0 n && room in
    let f = plain_condition n q.condition in
    let g = plain_condition n u.condition in
    let k = and_right a (b && (f && g)) h in
    let l = and_left b (f && g) k in
    let m = and_right b (f && g) k in
    record {
      some_column = ltb-true 0 n (and_left (ltb 0 n) room l);
      room = and_right (ltb 0 n) room l;
      asked = and_left f g m;
      given = and_right f g m;
    }

-- ---- what they say of a row: an operand that is filled in has in r the value that the operand has in s

abbrev pub Says : ℕ → (Operand → Operand) → Row → Row → List ℤ → Type 0
Says n f r s qs = (o : Operand) → is_below n o ≡ true → operand_value r [] (f o) ≡ operand_value s qs o

pub says-filled : (n : ℕ) (qs : List ℤ) (r : Row) → Says n (filled_operand qs) r r qs
says-filled n qs r (column i) h = refl
says-filled n qs r (value v) h = refl

-- what a column is last set to
pub set-cell : (ss : List (ℕ × M.Value)) (us : List ℤ) (r a : Row) (i : ℕ) (o : Operand) → i < length a → operand_value r [] o ≡ cell a i
    → operand_value r [] (set_operand ss us i o) ≡ cell (assigned ss us a) i
set-cell [] us r a i o h e = e
set-cell (s ∷ ss) us r a i o h e =
    set-cell ss us r (set a s.0 v) i (cond (eqb i s.0) (value (constant v)) o) (subst (λ (m : ℕ). i < m) (sym (length-set a s.0 v)) h) (go (eqb i s.0) refl)
  where
    v : ℤ
    v = value_of us s.1

    go : (t : Bool) → eqb i s.0 ≡ t → operand_value r [] (cond t (value (constant v)) o) ≡ cell (set a s.0 v) i
    go true k =
        let p = eqb-true i s.0 k in
        sym (ap (cell (set a s.0 v)) p ∙ get_or-set_same a s.0 v (pos 0) (subst (λ (m : ℕ). m < length a) p h))
    go false k = e ∙ sym (get_or-set_other a s.0 i v (pos 0) (eqb-false i s.0 k))

pub says-set : (n : ℕ) (ss : List (ℕ × M.Value)) (us qs : List ℤ) (r : Row) → length r ≡ n → Says n (after_operand ss us qs) r (assigned ss us r) qs
says-set n ss us qs r l (column i) h = set-cell ss us r r i (column i) (subst (λ (m : ℕ). i < m) (sym l) (ltb-true i n h)) refl
says-set n ss us qs r l (value v) h = refl

-- the inserted row
placed-before : (vs : List M.Value) (us : List ℤ) (k i : ℕ) (o : Operand) → i < k → set_operand (placed_from k vs) us i o ≡ o
placed-before [] us k i o h = refl
placed-before (v ∷ vs) us k i o h =
    placed-before vs us (suc k) i (cond (eqb i k) (value (constant (value_of us v))) o) (omega arith)
    ∙ ap (λ (t : Bool). cond t (value (constant (value_of us v))) o) (ne_eqb i k (λ e. omega arith))

placed-cell : (r : Row) (vs : List M.Value) (us : List ℤ) (k i : ℕ) (o : Operand) → i < length vs
    → operand_value r [] (set_operand (placed_from k vs) us (k + i) o) ≡ cell (new_row vs us) i
placed-cell r [] us k i o h = absurd (omega arith)
placed-cell r (v ∷ vs) us k zero o h =
    let e : k + 0 ≡ k = omega arith in
    ap (λ (m : ℕ). operand_value r [] (set_operand (placed_from k (v ∷ vs)) us m o)) e
    ∙ ap (operand_value r [])
    (placed-before vs us (suc k) k (cond (eqb k k) (value (constant (value_of us v))) o) (omega arith)
    ∙ ap (λ (t : Bool). cond t (value (constant (value_of us v))) o) (eq-eqb k k refl))
placed-cell r (v ∷ vs) us k (suc i) o h =
    let e : k + suc i ≡ suc k + i = omega arith in
    ap (λ (m : ℕ). operand_value r [] (set_operand (placed_from k (v ∷ vs)) us m o)) e
    ∙ placed-cell r vs us (suc k) i (cond (eqb (suc k + i) k) (value (constant (value_of us v))) o) (omega arith)

pub says-placed : (n : ℕ) (vs : List M.Value) (us qs : List ℤ) (r : Row) → n ≤ length vs → Says n (after_operand (placed_from 0 vs) us qs) r (new_row vs us) qs
says-placed n vs us qs r l (column i) h =
    let k = ltb-true i n h in
    let e : i ≡ 0 + i = omega arith in
    ap (λ (m : ℕ). operand_value r [] (set_operand (placed_from 0 vs) us m (column i))) e ∙ placed-cell r vs us 0 i (column i) (omega arith)
says-placed n vs us qs r l (value v) h = refl

-- ---- what the clauses say of a row

-- tests that say the same of the comparisons
run-same : {O : Type 0} (h k : Comparison O → Bool) (ns : List (Node O)) → All (λ (c : Comparison O). h c ≡ k c) (leaves ns) → (st : List Bool)
    → run_on h ◌&&◌ ◌||◌ ns st ≡ run_on k ◌&&◌ ◌||◌ ns st
run-same h k [] e st = refl
run-same h k (leaf c ∷ ns) e st = run-same h k ns (All-tail e) (h c ∷ st) ∙ ap (λ (t : Bool). run_on k ◌&&◌ ◌||◌ ns (t ∷ st)) (All-head e)
run-same h k (all_of ∷ ns) e st = run-same h k ns e (joined ◌&&◌ st)
run-same h k (any_of ∷ ns) e st = run-same h k ns e (joined ◌||◌ st)

any-renamed : (p : Comparison Operand → Bool) (f : Operand → Operand) (css : List (List (Comparison Operand)))
    → any (all p) (map (map (renamed f)) css) ≡ any (all (λ (c : Comparison Operand). p (renamed f c))) css
any-renamed p f [] = refl
any-renamed p f (cs ∷ css) = ap₂ ◌||◌ (go cs) (any-renamed p f css)
  where
    go : (cs : List (Comparison Operand)) → all p (map (renamed f) cs) ≡ all (λ (c : Comparison Operand). p (renamed f c)) cs
    go [] = refl
    go (c ∷ cs) = ap (λ (t : Bool). p (renamed f c) && t) (go cs)

module _ (n : ℕ) (c : Condition) (h : plain_condition n c ≡ true) (f : Operand → Operand) (r s : Row) (qs : List ℤ) (S : Says n f r s qs) where
  same_tests : All (λ (c : Comparison Operand). holds (operand_value r []) (renamed f c) ≡ holds (operand_value s qs) c) (leaves (condition_nodes c))
  same_tests = All-map (λ c p. ap₂ (truth c.op) (S c.left (plain-left n c p)) (S c.right (plain-right n c p))) (plain-leaves n c h)

  same_truth : top true (run_on (λ (c : Comparison Operand). holds (operand_value r []) (renamed f c)) ◌&&◌ ◌||◌ (condition_nodes c) []) ≡ meets_stored c qs s
  unfolding meets_stored
  same_truth =
      ap (top true)
      (run-same (λ (c : Comparison Operand). holds (operand_value r []) (renamed f c)) (λ (c : Comparison Operand). holds (operand_value s qs) c) (condition_nodes c) same_tests [])

  -- some clause is true of r exactly if the condition is true of s
  pub where-says : any (all (λ (c : Comparison Operand). holds (operand_value r []) c)) (where_clauses f c) ≡ meets_stored c qs s
  unfolding clauses_read
  where-says =
      any-renamed (λ (c : Comparison Operand). holds (operand_value r []) c) f (clauses_of_nodes (condition_nodes c))
      ∙ true-clauses (λ (c : Comparison Operand). holds (operand_value r []) (renamed f c)) (condition_nodes c)
      ∙ same_truth

  -- and some clause of "not true" exactly if it is not
  pub not-says : any (all (λ (c : Comparison Operand). not (holds (operand_value r []) c))) (not_clauses f c) ≡ not (meets_stored c qs s)
  not-says =
      any-renamed (λ (c : Comparison Operand). not (holds (operand_value r []) c)) f (clauses_not (condition_nodes c))
      ∙ not-true-clauses (λ (c : Comparison Operand). holds (operand_value r []) (renamed f c)) (condition_nodes c)
      ∙ ap not same_truth
