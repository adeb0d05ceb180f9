-- Some row of 32-bit numbers meets a list of literals exactly if they are `possible`: the numbers that are tried for a column stand for all numbers, and each column has a number
-- of its own. And the clauses of a condition, and of "not true", by its nodes. Assumes nothing.
use mathlib.Core.Path.{◌≡◌, refl, sym, ap, ap₂, subst, ◌∙◌}
use mathlib.Core.Logic.{◌↔◌}
use mathlib.Core.Bool.{Bool, true, false, not, ◌&&◌, ◌||◌, cond, true≢false, or-true}
use mathlib.Core.Option.{Option, none, some}
use mathlib.Core.List.{List, [], ◌∷◌, ◌++◌, map}
use Prim.Native.Nat.{ℕ, zero, suc, ◌+◌, ◌≤◌, ◌<◌}
use native.Mathlib.Omega.{arith}
use lib.IntN.{ℤ, pos, suc_ℤ}
use lib.Dec.{eqb}
use borrow.Author.Tests.{eqb-true, eq-eqb}
use Rattle.lists.specs.Lists.{All, nil, cons, any, all, flat, from, pairs}
use Rattle.lists.specs.Tests.{eq_z}
use Rattle.lists.proofs.Bools.{and_left, and_right, not-and, not-or, eq_z-true}
use Rattle.lists.proofs.Lists.{All-head, All-tail, All-map, All-both, All-kept, All-get_or, All-left, All-right, all_true, all-of, any_append, any-pairs, any-keep, any-implies}
use Rattle.meaning.specs.Operator.{null, is_null, is_true, known, unknown, Predicate, by, is-null, is-not-null, truth}
use Rattle.meaning.specs.Condition.{Comparison, holds}
use Rattle.meaning.specs.Limits.{is_within32}
use Rattle.meaning.specs.Postfix.{Node, leaf, all_of, any_of, top, joined, run_on, clauses_of_nodes}
use Rattle.meaning.specs.Statement.{Operand, column, value}
use Rattle.meaning.specs.Meaning.{Row, cell, value_of, operand_value}
use Rattle.meaning.specs.Call.{Is32}
use Rattle.meaning.specs.Exact.{compares_columns, with_columns, IsRow, critical}
use Rattle.meaning.proofs.Exact.{Apart, Stands, stands, ordered-left, ordered-right, found}
use Rattle.pattern.specs.Private.Literals.{Literal, agree, column_by, column_in, is_other, at_value, fits_at, number_beside, with_next, tried, column_possible, possible, exchanged, clauses_not}

-- a row meets a literal
abbrev pub met : Row → Literal → Bool
met r l = agree l.want (holds (operand_value r []) l.test)

-- its columns are among the first n
abbrev pub Inside : ℕ → Option ℕ → Type 0
Inside n none = Unit {0}
Inside n (some j) = j < n

pub record Proper (n : ℕ) (l : Literal) : Type 0 where
  pub separate : with_columns l.test ≡ false
  pub inside : Inside n (column_in l.test)

-- ---- what a literal looks at

abbrev Looks : Row → Comparison Operand → Option ℕ → Type 0
Looks r c none = (w : ℤ) → holds (operand_value r []) c ≡ holds (at_value w) c
Looks r c (some j) = holds (operand_value r []) c ≡ holds (at_value (cell r j)) c

looks : (r : Row) (c : Comparison Operand) → with_columns c ≡ false → Looks r c (column_in c)
looks r c h = go c.op c.left c.right h
  where
    go : (p : Predicate) (a b : Operand) → compares_columns p a b ≡ false → Looks r (record { left = a; op = p; right = b }) (column_by p a b)
    go (by o) (column i) (column j) h = absurd (true≢false h)
    go (by o) (column i) (value v) h = refl
    go (by o) (value v) (column j) h = refl
    go (by o) (value v) (value u) h = λ w. refl
    go is-null (column i) b h = refl
    go is-null (value v) b h = λ w. refl
    go is-not-null (column i) b h = refl
    go is-not-null (value v) b h = λ w. refl

-- numbers that those beside the column do not tell apart meet the same literals of the column
value_same : (i : ℕ) (z w : ℤ) → is_null z ≡ is_null w → (c : Comparison Operand) → All (Apart z w) (number_beside i c.left c.right) → with_columns c ≡ false
    → is_other i (column_in c) ≡ false → holds (at_value z) c ≡ holds (at_value w) c
value_same i z w nulls c near h on = go c.op c.left c.right near h on
  where
    both : {m n s t : Bool} → m ≡ n → s ≡ t → is_true (cond m unknown (known s)) ≡ is_true (cond n unknown (known t))
    both p q = ap₂ (λ (x y : Bool). is_true (cond x unknown (known y))) p q

    beside : (v : ℤ) (t : Bool) → not t ≡ false → All (Apart z w) (cond t (v ∷ []) []) → Apart z w v
    beside v true e a = All-head a
    beside v false e a = absurd (true≢false e)

    go : (p : Predicate) (a b : Operand) → All (Apart z w) (number_beside i a b) → compares_columns p a b ≡ false → is_other i (column_by p a b) ≡ false
        → truth p (at_value z a) (at_value z b) ≡ truth p (at_value w a) (at_value w b)
    go (by o) (column j) (column k) near h on = absurd (true≢false h)
    go (by o) (column j) (value v) near h on = both (ap (λ (t : Bool). t || is_null (value_of [] v)) nulls) (ordered-left (beside (value_of [] v) (eqb i j) on near) o)
    go (by o) (value v) (column j) near h on = both (ap (λ (t : Bool). is_null (value_of [] v) || t) nulls) (ordered-right (beside (value_of [] v) (eqb i j) on near) o)
    go (by o) (value v) (value u) near h on = refl
    go is-null (column j) b near h on = nulls
    go is-null (value v) b near h on = refl
    go is-not-null (column j) b near h on = ap not nulls
    go is-not-null (value v) b near h on = refl

-- ---- the numbers that are tried stand for every number of 32 bits

abbrev numbers_beside : ℕ → List Literal → List ℤ
numbers_beside i ls = flat (map (λ (l : Literal). number_beside i l.test.left l.test.right) ls)

pub record Covers (ls : List Literal) (i : ℕ) (z w : ℤ) : Type 0 where
  pub among : any (eq_z w) (tried i ls) ≡ true
  pub same : All (λ (l : Literal). is_other i (column_in l.test) ≡ false → holds (at_value z) l.test ≡ holds (at_value w) l.test) ls

-- each number beside the number after it, or all and then those after them
any_next : (p : ℤ → Bool) (zs : List ℤ) → any p (zs ++ map suc_ℤ zs) ≡ any p (with_next zs)
any_next p zs = any_append p zs (map suc_ℤ zs) ∙ turn zs
  where
    swap : (a b s t : Bool) → ((a || s) || (b || t)) ≡ (a || (b || (s || t)))
    swap true b s t = refl
    swap false true true t = refl
    swap false true false t = refl
    swap false false s t = refl

    turn : (zs : List ℤ) → (any p zs || any p (map suc_ℤ zs)) ≡ any p (with_next zs)
    turn [] = refl
    turn (z ∷ zs) = swap (p z) (p (suc_ℤ z)) (any p zs) (any p (map suc_ℤ zs)) ∙ ap (λ (t : Bool). p z || (p (suc_ℤ z) || t)) (turn zs)

tried-critical : (i : ℕ) (ls : List Literal) (w : ℤ) → any (eq_z w) (critical (numbers_beside i ls)) ≡ any (eq_z w) (tried i ls)
tried-critical i ls w =
    let zs = numbers_beside i ls in
    let p : ℤ → Bool = λ x. is_within32 x && eq_z w x in
    any-keep is_within32 (eq_z w) (null ∷ suc_ℤ null ∷ (zs ++ map suc_ℤ zs))
    ∙ ap (λ (t : Bool). p null || (p (suc_ℤ null) || t)) (any_next p zs)
    ∙ sym (any-keep is_within32 (eq_z w) (null ∷ suc_ℤ null ∷ with_next zs))

covers : (ls : List Literal) → All (λ (l : Literal). with_columns l.test ≡ false) ls → (i : ℕ) (z : ℤ) → Is32 z → (w : ℤ) × Covers ls i z w
covers ls sep i z h = go (stands (numbers_beside i ls) z h)
  where
    near : {w : ℤ} (ls : List Literal) → All (Apart z w) (numbers_beside i ls) → All (λ (l : Literal). All (Apart z w) (number_beside i l.test.left l.test.right)) ls
    near [] a = nil
    near (l ∷ ls) a =
        let zs = number_beside i l.test.left l.test.right in
        cons {x = l} (All-left zs (numbers_beside i ls) a) (near ls (All-right zs a))

    go : (w : ℤ) × Stands (numbers_beside i ls) z w → (w : ℤ) × Covers ls i z w
    go (w, W) = (
      w,
      record {
        among = sym (tried-critical i ls w) ∙ W.among;
        same = All-map (λ l b on. value_same i z w W.alike.nulls l.test b.1 b.0 on) (All-both sep (near ls W.alike.each));
      },
    )

-- ---- a number for each column

choose : (P : ℕ → ℤ → Bool) (cs : ℕ → List ℤ) → ((i : ℕ) → All Is32 (cs i)) → (k n : ℕ) → all (λ (i : ℕ). any (P i) (cs i)) (from k n) ≡ true
    → (r : Row) × IsRow n r × ((i : ℕ) → i < n → P (k + i) (cell r i) ≡ true)
choose P cs h k zero e = ([], (refl, nil), λ i l. absurd (omega arith))
choose P cs h k (suc n) e =
    go (found (P k) (cs k) (h k) (and_left (any (P k) (cs k)) (all (λ (i : ℕ). any (P i) (cs i)) (from (suc k) n)) e))
    (choose P cs h (suc k) n (and_right (any (P k) (cs k)) (all (λ (i : ℕ). any (P i) (cs i)) (from (suc k) n)) e))
  where
    go : (w : ℤ) × Is32 w × (P k w ≡ true) → (r : Row) × IsRow n r × ((i : ℕ) → i < n → P (suc k + i) (cell r i) ≡ true)
        → (r : Row) × IsRow (suc n) r × ((i : ℕ) → i < suc n → P (k + i) (cell r i) ≡ true)
    go (w, b, p) (r, R, f) = (w ∷ r, (ap suc R.0, cons b R.1), at)
      where
        at : (i : ℕ) → i < suc n → P (k + i) (cell (w ∷ r) i) ≡ true
        at zero l = let e : k + 0 ≡ k = omega arith in subst (λ (m : ℕ). P m w ≡ true) (sym e) p
        at (suc i) l = let e : suc k + i ≡ k + suc i = omega arith in subst (λ (m : ℕ). P m (cell r i) ≡ true) e (f i (omega arith))

each_at : {P : ℕ → Type 0} (k n : ℕ) → ((i : ℕ) → i < k + n → P i) → All P (from k n)
each_at k zero f = nil
each_at k (suc n) f = cons (f k (omega arith)) (each_at (suc k) n (λ i l. f i (omega arith)))

-- a member of a list of which the test holds
listed : (q : ℤ → Bool) (w : ℤ) (cs : List ℤ) → any (eq_z w) cs ≡ true → q w ≡ true → any q cs ≡ true
listed q w cs h k = any-implies (eq_z w) q (λ z e. subst (λ (x : ℤ). q x ≡ true) (eq_z-true w z e) k) cs h

cell-32 : (n : ℕ) (r : Row) → IsRow n r → (i : ℕ) → Is32 (cell r i)
cell-32 n r R i = All-get_or i (pos 0) refl R.1

-- ---- the decision

abbrev pub Met : ℕ → List Literal → Type 0
Met n ls = (r : Row) × IsRow n r × (all (met r) ls ≡ true)

module _ (n : ℕ) (ls : List Literal) (some_column : 1 ≤ n) (proper : All (Proper n) ls) where
  -- the numbers that fit each column are a row that meets each literal
  fits-met : (r : Row) → ((i : ℕ) → i < n → all (fits_at (0 + i) (cell r i)) ls ≡ true) → all (met r) ls ≡ true
  fits-met r f = all-of (met r) (each ls proper (λ i k. all_true (fits_at i (cell r i)) ls (at i k)))
    where
      at : (i : ℕ) → i < n → all (fits_at i (cell r i)) ls ≡ true
      at i k = let e : 0 + i ≡ i = omega arith in subst (λ (m : ℕ). all (fits_at m (cell r i)) ls ≡ true) e (f i k)

      one : (l : Literal) → Proper n l → ((i : ℕ) → i < n → fits_at i (cell r i) l ≡ true) → met r l ≡ true
      one l P f = by-column (column_in l.test) refl (looks r l.test P.separate) P.inside
        where
          by-column : (o : Option ℕ) → column_in l.test ≡ o → Looks r l.test o → Inside n o → met r l ≡ true
          by-column none e L I =
              ap (agree l.want) (L (cell r 0))
              ∙ subst (λ (o : Option ℕ). (is_other 0 o || agree l.want (holds (at_value (cell r 0)) l.test)) ≡ true) e (f 0 some_column)
          by-column (some j) e L I =
              ap (agree l.want) L
              ∙ subst (λ (t : Bool). (not t || agree l.want (holds (at_value (cell r j)) l.test)) ≡ true) (eq-eqb j j refl)
              (subst (λ (o : Option ℕ). (is_other j o || agree l.want (holds (at_value (cell r j)) l.test)) ≡ true) e (f j I))

      each : (ls : List Literal) → All (Proper n) ls → ((i : ℕ) → i < n → All (λ l. fits_at i (cell r i) l ≡ true) ls) → All (λ l. met r l ≡ true) ls
      each [] h f = nil
      each (l ∷ ls) h f = cons (one l (All-head h) (λ i k. All-head (f i k))) (each ls (All-tail h) (λ i k. All-tail (f i k)))

  -- a number that stands for the cell of a row that meets each literal fits the column
  met-fits : (r : Row) → all (met r) ls ≡ true → (i : ℕ) (w : ℤ) → Covers ls i (cell r i) w → all (fits_at i w) ls ≡ true
  met-fits r e i w C = all-of (fits_at i w) (All-map (λ l h. one l h.0 h.1.0 h.1.1) (All-both proper (All-both C.same (all_true (met r) ls e))))
    where
      one : (l : Literal) → Proper n l → (is_other i (column_in l.test) ≡ false → holds (at_value (cell r i)) l.test ≡ holds (at_value w) l.test) → met r l ≡ true
          → fits_at i w l ≡ true
      one l P H m = by-column (column_in l.test) refl (looks r l.test P.separate)
        where
          late : agree l.want (holds (at_value w) l.test) ≡ true → fits_at i w l ≡ true
          late h = ap (λ (t : Bool). is_other i (column_in l.test) || t) h ∙ or-true (is_other i (column_in l.test))

          by-column : (o : Option ℕ) → column_in l.test ≡ o → Looks r l.test o → fits_at i w l ≡ true
          by-column none e L = late (sym (ap (agree l.want) (L w)) ∙ m)
          by-column (some j) e L = pick (eqb i j) refl
            where
              pick : (t : Bool) → eqb i j ≡ t → fits_at i w l ≡ true
              pick false k = ap (λ (t : Bool). t || agree l.want (holds (at_value w) l.test)) (ap (is_other i) e ∙ ap not k)
              pick true k =
                  late (sym (ap (agree l.want) (L ∙ ap (λ (x : ℕ). holds (at_value (cell r x)) l.test) (sym (eqb-true i j k)) ∙ H (ap (is_other i) e ∙ ap not k))) ∙ m)

-- some row of n columns meets all literals exactly if they are possible
pub decides : (n : ℕ) (ls : List Literal) → 1 ≤ n → All (Proper n) ls → (possible n ls ≡ true) ↔ Met n ls
unfolding possible
decides n ls some_column proper = (there, back)
  where
    there : all (column_possible ls) (from 0 n) ≡ true → Met n ls
    there e =
        go (choose (λ i w. all (fits_at i w) ls) (λ i. tried i ls) (λ i. All-kept is_within32 (null ∷ suc_ℤ null ∷ with_next (numbers_beside i ls))) 0 n e)
      where
        go : (r : Row) × IsRow n r × ((i : ℕ) → i < n → all (fits_at (0 + i) (cell r i)) ls ≡ true) → Met n ls
        go (r, R, f) = (r, R, fits-met n ls some_column proper r f)

    back : Met n ls → all (column_possible ls) (from 0 n) ≡ true
    back (r, R, e) = all-of (column_possible ls) (each_at 0 n (λ i l. at i (covers ls (All-map (λ l P. P.separate) proper) i (cell r i) (cell-32 n r R i))))
      where
        at : (i : ℕ) → (w : ℤ) × Covers ls i (cell r i) w → column_possible ls i ≡ true
        at i (w, C) = listed (λ (w : ℤ). all (fits_at i w) ls) w (tried i ls) C.among (met-fits n ls some_column proper r e i w C)

-- ---- clauses by nodes: some clause has all its comparisons true exactly where the nodes are true

module _ {O : Type 0} where
  abbrev alternatives : Comparison O → List (List (Comparison O))
  alternatives c = (c ∷ []) ∷ []

  module _ (h : Comparison O → Bool) where
    join-both : (su : List (List (List (Comparison O)))) → joined ◌&&◌ (map (any (all h)) su) ≡ map (any (all h)) (joined pairs su)
    join-both [] = refl
    join-both (b ∷ []) = refl
    join-both (b ∷ a ∷ su) = ap (λ (t : Bool). t ∷ map (any (all h)) su) (sym (any-pairs h a b))

    join-either : (su : List (List (List (Comparison O)))) → joined ◌||◌ (map (any (all h)) su) ≡ map (any (all h)) (joined ◌++◌ su)
    join-either [] = refl
    join-either (b ∷ []) = refl
    join-either (b ∷ a ∷ su) = ap (λ (t : Bool). t ∷ map (any (all h)) su) (sym (any_append (all h) a b))

    run-clauses : (ns : List (Node O)) (su : List (List (List (Comparison O))))
        → run_on h ◌&&◌ ◌||◌ ns (map (any (all h)) su) ≡ map (any (all h)) (run_on alternatives pairs ◌++◌ ns su)
    run-clauses [] su = refl
    run-clauses (leaf c ∷ ns) su = ap (λ (t : Bool). run_on h ◌&&◌ ◌||◌ ns (t ∷ map (any (all h)) su)) (alone (h c)) ∙ run-clauses ns (alternatives c ∷ su)
      where
        alone : (t : Bool) → t ≡ ((t && true) || false)
        alone true = refl
        alone false = refl
    run-clauses (all_of ∷ ns) su = ap (run_on h ◌&&◌ ◌||◌ ns) (join-both su) ∙ run-clauses ns (joined pairs su)
    run-clauses (any_of ∷ ns) su = ap (run_on h ◌&&◌ ◌||◌ ns) (join-either su) ∙ run-clauses ns (joined ◌++◌ su)

    -- with the clauses ds where there are no nodes
    top-clauses : (ds : List (List (Comparison O))) (ns : List (Node O))
        → any (all h) (top ds (run_on alternatives pairs ◌++◌ ns [])) ≡ top (any (all h) ds) (run_on h ◌&&◌ ◌||◌ ns [])
    top-clauses ds ns = go (run_on alternatives pairs ◌++◌ ns []) ∙ ap (top (any (all h) ds)) (sym (run-clauses ns []))
      where
        go : (su : List (List (List (Comparison O)))) → any (all h) (top ds su) ≡ top (any (all h) ds) (map (any (all h)) su)
        go [] = refl
        go (b ∷ su) = refl

    pub true-clauses : (ns : List (Node O)) → any (all h) (clauses_of_nodes ns) ≡ top true (run_on h ◌&&◌ ◌||◌ ns [])
    true-clauses ns = top-clauses ([] ∷ []) ns

    -- AND and OR exchanged, and each comparison not true: not true
    exchanged-run : (ns : List (Node O)) (st : List Bool) → run_on (λ c. not (h c)) ◌&&◌ ◌||◌ (map exchanged ns) (map not st) ≡ map not (run_on h ◌&&◌ ◌||◌ ns st)
    exchanged-run [] st = refl
    exchanged-run (leaf c ∷ ns) st = exchanged-run ns (h c ∷ st)
    exchanged-run (all_of ∷ ns) st = ap (run_on (λ c. not (h c)) ◌&&◌ ◌||◌ (map exchanged ns)) (go st) ∙ exchanged-run ns (joined ◌&&◌ st)
      where
        go : (st : List Bool) → joined ◌||◌ (map not st) ≡ map not (joined ◌&&◌ st)
        go [] = refl
        go (b ∷ []) = refl
        go (b ∷ a ∷ st) = ap (λ (t : Bool). t ∷ map not st) (not-and a b)
    exchanged-run (any_of ∷ ns) st = ap (run_on (λ c. not (h c)) ◌&&◌ ◌||◌ (map exchanged ns)) (go st) ∙ exchanged-run ns (joined ◌||◌ st)
      where
        go : (st : List Bool) → joined ◌&&◌ (map not st) ≡ map not (joined ◌||◌ st)
        go [] = refl
        go (b ∷ []) = refl
        go (b ∷ a ∷ st) = ap (λ (t : Bool). t ∷ map not st) (not-or a b)

  pub not-true-clauses : (h : Comparison O → Bool) (ns : List (Node O)) → any (all (λ (c : Comparison O). not (h c))) (clauses_not ns) ≡ not (top true (run_on h ◌&&◌ ◌||◌ ns []))
  not-true-clauses h ns = top-clauses (λ c. not (h c)) [] (map exchanged ns) ∙ ap (top false) (exchanged-run h ns []) ∙ go (run_on h ◌&&◌ ◌||◌ ns [])
    where
      go : (st : List Bool) → top false (map not st) ≡ not (top true st)
      go [] = refl
      go (b ∷ st) = refl
