-- A row of 32-bit numbers can be replaced by one of critical numbers: no comparison of a column with a number of the statements tells them apart, and neither does
-- "alters". So the test of A.7 holds exactly where some row is affected. Assumes nothing.
use mathlib.Core.Path.{◌≡◌, refl, sym, ap, ap₂, subst, ◌∙◌}
use mathlib.Core.Logic.{◌↔◌}
use mathlib.Core.Bool.{Bool, true, false, not, ◌&&◌, ◌||◌, cond, true≢false, false≢true}
use mathlib.Core.Option.{Option, none, some}
use mathlib.Core.List.{List, [], ◌∷◌, ◌++◌, map, append-nil}
use Prim.Native.Nat.{ℕ, zero, suc, ◌≤◌, ◌<◌}
use native.Mathlib.Decide.{ℕ_discrete, dec_le}
use native.Mathlib.Omega.{arith}
use lib.IntN.{ℤ, pos, negsuc, suc_ℤ}
use lib.Dec.{eqb, leb-zero, leb-suc-zero, leb-suc-suc}
use lib.Signed.{lt_z, le_z}
use lib.ListN.{length, set, replicate, length-set, length-replicate}
use lib.Seq.{get_or-set_same, get_or-set_other}
use borrow.Author.Tests.{leb-true, le-leb}
use Rattle.lists.specs.Lists.{All, nil, cons, any, keep, cons_if, flat}
use Rattle.lists.specs.Tests.{eq_z, eq_list}
use Rattle.lists.proofs.Bools.{and_left, and_right, and_both, or_left, or_right, not-false, not-true, clash, iff, le_z-not, not-not, eq_z-same, eq_z-true}
use Rattle.lists.proofs.Lists.{All-head, All-tail, All-every, All-map, All-left, All-right, All-append, All-kept, All-image, All-source, any_append, any-map, any_same, any-implies, any-flat-map}
use Rattle.meaning.specs.Operator.{Operator, eq, ne, lt, le, gt, ge, related, null, is_null, is_true, known, unknown, not₃, and₃, or₃, Predicate, by, is-null, is-not-null, compared}
use Rattle.meaning.specs.Condition.{Comparison, Level, Condition, compare, negate, group, alone, both, single, either, Where, always, under, comparisons, sides, comparisons_in, operands_in, holds, eval}
use Rattle.meaning.specs.Limits.{is_within32}
use Rattle.meaning.specs.Statement as S
use Rattle.meaning.specs.Statement.{Value, Operand, value, Second, Query, Change, insert, delete, update, Update}
use Rattle.meaning.specs.Meaning.{Row, cell, value_of, operand_value, meets_where, takes, new_row, assigned}
use Rattle.meaning.specs.Pattern.{Side, first, second_side, side_of, is_side, differs, matters_in, matters}
use Rattle.meaning.specs.Exact.{is_column, compares_columns, with_columns, comparisons_of, is_single, is_separate, IsRow, Affected, numbers_in, change_numbers, critical, rows_from, affects}
use Rattle.meaning.specs.Call.{Is32}

-- ---- order

le_trans : (a b c : ℤ) → le_z a b ≡ true → le_z b c ≡ true → le_z a c ≡ true
le_trans (pos a) (pos b) (pos c) h k = let x = leb-true a b h in let y = leb-true b c k in le-leb a c (omega arith)
le_trans (pos a) (pos b) (negsuc c) h k = k
le_trans (pos a) (negsuc b) c h k = absurd (false≢true h)
le_trans (negsuc a) (pos b) (pos c) h k = refl
le_trans (negsuc a) (pos b) (negsuc c) h k = absurd (false≢true k)
le_trans (negsuc a) (negsuc b) (pos c) h k = refl
le_trans (negsuc a) (negsuc b) (negsuc c) h k = let x = leb-true b a h in let y = leb-true c b k in le-leb c a (omega arith)

le-either : (a b : ℤ) → le_z a b ≡ false → le_z b a ≡ true
le-either a b h = go (lt_z b a) (le_z-not a b) refl
  where
    weak : (a b : ℤ) → lt_z b a ≡ true → le_z b a ≡ true
    weak (pos a) (pos b) k = let x = leb-true (suc b) a k in le-leb b a (omega arith)
    weak (pos a) (negsuc b) k = refl
    weak (negsuc a) (pos b) k = absurd (false≢true k)
    weak (negsuc a) (negsuc b) k = let x = leb-true (suc a) b k in le-leb a b (omega arith)

    go : (t : Bool) → le_z a b ≡ not t → lt_z b a ≡ t → le_z b a ≡ true
    go true e f = weak a b f
    go false e f = clash e h

le-self : (a : ℤ) → le_z a a ≡ true
le-self (pos a) = le-leb a a (omega arith)
le-self (negsuc a) = le-leb a a (omega arith)

-- below is at most, one further
lt-next : (a b : ℤ) → lt_z a b ≡ le_z (suc_ℤ a) b
lt-next (pos a) (pos b) = refl
lt-next (pos a) (negsuc b) = refl
lt-next (negsuc zero) (pos b) = sym (leb-zero b)
lt-next (negsuc zero) (negsuc b) = leb-suc-zero b
lt-next (negsuc (suc a)) (pos b) = refl
lt-next (negsuc (suc a)) (negsuc b) = leb-suc-suc b a

eq-both : (a b : ℤ) → eq_z a b ≡ (le_z a b && le_z b a)
eq-both a b =
    iff (eq_z a b) (le_z a b && le_z b a)
    (λ h. subst (λ (c : ℤ). (le_z a c && le_z c a) ≡ true) (eq_z-true a b h) (and_both (le_z a a) (le_z a a) (le-self a) (le-self a)))
    (λ h. same a b (and_left (le_z a b) (le_z b a) h) (and_right (le_z a b) (le_z b a) h))
  where
    same : (a b : ℤ) → le_z a b ≡ true → le_z b a ≡ true → eq_z a b ≡ true
    same (pos a) (pos b) h k =
        let x = leb-true a b h in let y = leb-true b a k in let e : a ≡ b = omega arith in subst (λ (n : ℕ). eq_z (pos a) (pos n) ≡ true) e (eq_z-same (pos a))
    same (pos a) (negsuc b) h k = absurd (false≢true h)
    same (negsuc a) (pos b) h k = absurd (false≢true k)
    same (negsuc a) (negsuc b) h k =
        let x = leb-true b a h in let y = leb-true a b k in let e : a ≡ b = omega arith in subst (λ (n : ℕ). eq_z (negsuc a) (negsuc n) ≡ true) e (eq_z-same (negsuc a))

-- ---- numbers that a number does not tell apart

pub record Apart (z w c : ℤ) : Type 0 where
  pub above : le_z c z ≡ le_z c w
  pub below : le_z z c ≡ le_z w c

pub record Alike (zs : List ℤ) (z w : ℤ) : Type 0 where
  pub nulls : is_null z ≡ is_null w
  pub each : All (Apart z w) zs

pub alike_self : (zs : List ℤ) (z : ℤ) → Alike zs z z
alike_self zs z = record { nulls = refl; each = every zs }
  where
    every : (zs : List ℤ) → All (Apart z z) zs
    every [] = nil
    every (c ∷ cs) = cons (record { above = refl; below = refl }) (every cs)

-- the greatest number of a list that is at most z, or b
pub record Greatest (z b : ℤ) (cs : List ℤ) (w : ℤ) : Type 0 where
  pub among : (eq_z w b || any (eq_z w) cs) ≡ true
  pub under : le_z w z ≡ true
  pub over : le_z b w ≡ true
  pub most : All (λ c. le_z c z ≡ true → le_z c w ≡ true) cs

greatest : (z b : ℤ) (cs : List ℤ) → le_z b z ≡ true → (w : ℤ) × Greatest z b cs w
greatest z b [] h = (b, record { among = ap (λ (t : Bool). t || false) (eq_z-same b); under = h; over = le-self b; most = nil })
greatest z b (c ∷ cs) h = go (greatest z b cs h) (le_z c z) refl
  where
    first : (w : ℤ) → (eq_z w b || any (eq_z w) cs) ≡ true → (eq_z w b || (eq_z w c || any (eq_z w) cs)) ≡ true
    first w h = split (eq_z w b) (eq_z w c) (any (eq_z w) cs) h
      where
        split : (x y t : Bool) → (x || t) ≡ true → (x || (y || t)) ≡ true
        split true y t h = refl
        split false true t h = refl
        split false false t h = h

    at_c : (eq_z c b || (eq_z c c || any (eq_z c) cs)) ≡ true
    at_c = go (eq_z c b) (eq_z c c) (eq_z-same c)
      where
        go : (x y : Bool) → y ≡ true → (x || (y || any (eq_z c) cs)) ≡ true
        go true y h = refl
        go false y h = ap (λ (y : Bool). y || any (eq_z c) cs) h

    go : (w : ℤ) × Greatest z b cs w → (t : Bool) → le_z c z ≡ t → (w : ℤ) × Greatest z b (c ∷ cs) w
    go (w, G) false k = (
      w,
      record {
        among = first w G.among;
        under = G.under;
        over = G.over;
        most = cons (λ m. clash m k) G.most;
      },
    )
    go (w, G) true k = turn (le_z c w) refl
      where
        turn : (t : Bool) → le_z c w ≡ t → (w : ℤ) × Greatest z b (c ∷ cs) w
        turn true e = (w, record { among = first w G.among; under = G.under; over = G.over; most = cons (λ m. e) G.most })
        turn false e =
            let up : le_z w c ≡ true = le-either c w e in (
              c,
              record {
                among = at_c;
                under = k;
                over = le_trans b w c G.over up;
                most = cons (λ m. le-self c) (All-map (λ d f m. le_trans d w c (f m) up) G.most);
              },
            )

-- what the members that pass a test have
kept-have : {P : ℤ → Type 0} (p : ℤ → Bool) (xs : List ℤ) → All P (keep p xs) → All (λ x. p x ≡ true → P x) xs
kept-have p [] h = nil
kept-have {P} p (x ∷ xs) h = go (p x) refl h (kept-have p xs)
  where
    go : (t : Bool) → p x ≡ t → All P (cons_if t x (keep p xs)) → (All P (keep p xs) → All (λ x. p x ≡ true → P x) xs) → All (λ x. p x ≡ true → P x) (x ∷ xs)
    go true e k f = cons {x = x} (λ m. All-head k) (f (All-tail k))
    go false e k f = cons {x = x} (λ m. clash m e) (f k)

-- a number of 32 bits and a critical one that no number of the list tells apart
pub record Stands (zs : List ℤ) (z w : ℤ) : Type 0 where
  pub among : any (eq_z w) (critical zs) ≡ true
  pub alike : Alike zs z w

module _ (zs : List ℤ) (z : ℤ) (h : Is32 z) where
  low : le_z null z ≡ true
  low = and_left (le_z null z) (le_z z (pos 2147483647)) h

  high : le_z z (pos 2147483647) ≡ true
  high = and_right (le_z null z) (le_z z (pos 2147483647)) h

  -- null stands for itself
  stands-null : is_null z ≡ true → Stands zs z null
  stands-null e = record { among = refl; alike = subst (Alike zs z) (eq_z-true z null e) (alike_self zs z) }

  -- any other number is represented by the greatest critical one that is not above it
  stands-other : is_null z ≡ false → (w : ℤ) × Stands zs z w
  stands-other e = finish (greatest z (suc_ℤ null) (critical zs) least)
    where
      least : le_z (suc_ℤ null) z ≡ true
      least = sym (lt-next null z) ∙ not-true' (le_z z null) (le_z-not z null) (above (le_z z null) refl)
        where
          above : (t : Bool) → le_z z null ≡ t → t ≡ false
          above true k = clash (eq-both z null ∙ and_both (le_z z null) (le_z null z) k low) e
          above false k = refl

          not-true' : (t : Bool) → t ≡ not (lt_z null z) → t ≡ false → lt_z null z ≡ true
          not-true' t f k = not-false (lt_z null z) (sym f ∙ k)

      finish : (w : ℤ) × Greatest z (suc_ℤ null) (critical zs) w → (w : ℤ) × Stands zs z w
      finish (w, G) = (
        w,
        record {
          among = there (eq_z w (suc_ℤ null)) (any (eq_z w) (critical zs)) G.among refl refl;
          alike = record { nulls = e ∙ sym not_null; each = each zs rest (All-source suc_ℤ zs nexts) };
        },
      )
        where
          -- the least number is critical itself
          there : (s t : Bool) → (s || t) ≡ true → eq_z w (suc_ℤ null) ≡ s → any (eq_z w) (critical zs) ≡ t → any (eq_z w) (critical zs) ≡ true
          there true t k f g = go (eq_z w null) (eq_z w (suc_ℤ null)) f
            where
              go : (x y : Bool) → y ≡ true → (x || (y || any (eq_z w) (keep is_within32 (zs ++ map suc_ℤ zs)))) ≡ true
              go true y k = refl
              go false y k = ap (λ (y : Bool). y || any (eq_z w) (keep is_within32 (zs ++ map suc_ℤ zs))) k
          there false t k f g = g ∙ k

          not_null : is_null w ≡ false
          not_null = go (is_null w) refl
            where
              go : (t : Bool) → is_null w ≡ t → t ≡ false
              go true k = clash (subst (λ (x : ℤ). le_z (suc_ℤ null) x ≡ true) (eq_z-true w null k) G.over) refl
              go false k = refl

          -- numbers outside 32 bits are on one side of both
          Under : ℤ → Type 0
          Under c = le_z c z ≡ true → le_z c w ≡ true

          whole : (c : ℤ) → (is_within32 c ≡ true → Under c) → Under c
          whole c f m = go (le_z null c) (le_z c (pos 2147483647)) refl refl
            where
              go : (s t : Bool) → le_z null c ≡ s → le_z c (pos 2147483647) ≡ t → le_z c w ≡ true
              go true true p q = f (and_both (le_z null c) (le_z c (pos 2147483647)) p q) m
              go true false p q = clash (le_trans c z (pos 2147483647) m high) q
              go false t p q = le_trans c null w (le-either null c p) (le_trans null (suc_ℤ null) w refl G.over)

          all_under : All Under (zs ++ map suc_ℤ zs)
          all_under = All-map whole (All-tail (All-tail (kept-have is_within32 (null ∷ suc_ℤ null ∷ (zs ++ map suc_ℤ zs)) G.most)))

          rest : All Under zs
          rest = All-left zs (map suc_ℤ zs) all_under

          nexts : All Under (map suc_ℤ zs)
          nexts = All-right zs all_under

          one : (c : ℤ) → Under c → le_z c z ≡ le_z c w
          one c f = iff (le_z c z) (le_z c w) f (λ k. le_trans c w z k G.under)

          each : (cs : List ℤ) → All Under cs → All (λ c. Under (suc_ℤ c)) cs → All (Apart z w) cs
          each [] h k = nil
          each (c ∷ cs) h k =
              cons (record { above = one c (All-head h); below = le_z-not z c ∙ ap not (lt-next c z ∙ one (suc_ℤ c) (All-head k) ∙ sym (lt-next c w)) ∙ sym (le_z-not w c) })
              (each cs (All-tail h) (All-tail k))

  -- the core lemma
  pub stands : (w : ℤ) × Stands zs z w
  stands = go (is_null z) refl
    where
      go : (t : Bool) → is_null z ≡ t → (w : ℤ) × Stands zs z w
      go true e = (null, stands-null e)
      go false e = stands-other e

-- ---- comparisons

module _ {z w c : ℤ} (A : Apart z w c) where
  apart-eq : eq_z z c ≡ eq_z w c
  apart-eq = eq-both z c ∙ ap₂ ◌&&◌ A.below A.above ∙ sym (eq-both w c)

  apart-lt : lt_z z c ≡ lt_z w c
  apart-lt = sym (not-not (lt_z z c)) ∙ ap not (sym (le_z-not c z) ∙ A.above ∙ le_z-not c w) ∙ not-not (lt_z w c)

  apart-gt : lt_z c z ≡ lt_z c w
  apart-gt = sym (not-not (lt_z c z)) ∙ ap not (sym (le_z-not z c) ∙ A.below ∙ le_z-not w c) ∙ not-not (lt_z c w)

  eq_swap : (a b : ℤ) → eq_z a b ≡ eq_z b a
  eq_swap a b = eq-both a b ∙ swap (le_z a b) (le_z b a) ∙ sym (eq-both b a)
    where
      swap : (x y : Bool) → (x && y) ≡ (y && x)
      swap true true = refl
      swap true false = refl
      swap false true = refl
      swap false false = refl

  pub ordered-left : (o : Operator) → related o z c ≡ related o w c
  ordered-left eq = apart-eq
  ordered-left ne = ap not apart-eq
  ordered-left lt = apart-lt
  ordered-left le = A.below
  ordered-left gt = apart-gt
  ordered-left ge = A.above

  pub ordered-right : (o : Operator) → related o c z ≡ related o c w
  ordered-right eq = eq_swap c z ∙ apart-eq ∙ eq_swap w c
  ordered-right ne = ap not (eq_swap c z ∙ apart-eq ∙ eq_swap w c)
  ordered-right lt = apart-gt
  ordered-right le = A.above
  ordered-right gt = apart-lt
  ordered-right ge = A.below

-- ---- rows

-- as many cells, and no number of the list tells them apart
pub record Rows (zs : List ℤ) (r s : Row) : Type 0 where
  pub long : length r ≡ length s
  pub cells : (i : ℕ) → Alike zs (cell r i) (cell s i)

-- no number that is alike tells the operand apart, where it is a number
abbrev pub Heard : List ℤ → Operand → List ℤ → Type 0
Heard vs (S.column i) zs = Unit {0}
Heard vs (value v) zs = (z w : ℤ) → Alike zs z w → Apart z w (value_of vs v)

-- numbers of the list that stand in the operands
pub heard : (zs vs : List ℤ) (os : List Operand) → ((z w : ℤ) → Alike zs z w → All (Apart z w) (numbers_in vs os)) → All (λ o. Heard vs o zs) os
heard zs vs [] f = nil
heard zs vs (S.column i ∷ os) f = cons {x = S.column i} tt (heard zs vs os f)
heard zs vs (value v ∷ os) f = cons {x = value v} (λ z w A. All-head (f z w A)) (heard zs vs os (λ z w A. All-tail (f z w A)))

module _ (zs vs : List ℤ) (r s : Row) (R : Rows zs r s) where
  operand-null : (o : Operand) → is_null (operand_value r vs o) ≡ is_null (operand_value s vs o)
  operand-null (S.column i) = (R.cells i).nulls
  operand-null (value v) = refl

  ordered_same : (o : Operator) (a b : Operand) → Heard vs a zs → Heard vs b zs → (is_column a && is_column b) ≡ false
      → related o (operand_value r vs a) (operand_value r vs b) ≡ related o (operand_value s vs a) (operand_value s vs b)
  ordered_same o (S.column i) (S.column j) ha hb h = absurd (true≢false h)
  ordered_same o (S.column i) (value v) ha hb h = ordered-left (hb (cell r i) (cell s i) (R.cells i)) o
  ordered_same o (value v) (S.column j) ha hb h = ordered-right (ha (cell r j) (cell s j) (R.cells j)) o
  ordered_same o (value v) (value u) ha hb h = refl

  pub compared_same : (p : Predicate) (a b : Operand) → Heard vs a zs → Heard vs b zs → compares_columns p a b ≡ false
      → compared p (operand_value r vs a) (operand_value r vs b) ≡ compared p (operand_value s vs a) (operand_value s vs b)
  compared_same (by o) a b ha hb h =
      ap₂ (λ (n t : Bool). cond n unknown (known t)) (ap₂ ◌||◌ (operand-null a) (operand-null b)) (ordered_same o a b ha hb h)
  compared_same is-null a b ha hb h = ap known (operand-null a)
  compared_same is-not-null a b ha hb h = ap (λ (t : Bool). known (not t)) (operand-null a)

  -- a comparison that is not of two columns is true of both rows or of neither
  pub holds_same : (c : Comparison Operand) → Heard vs c.left zs → Heard vs c.right zs → with_columns c ≡ false
      → holds (operand_value r vs) c ≡ holds (operand_value s vs) c
  holds_same c ha hb h = ap is_true (compared_same c.op c.left c.right ha hb h)

  abbrev Same : Comparison Operand → Type 0
  Same c = compared c.op (operand_value r vs c.left) (operand_value r vs c.right) ≡ compared c.op (operand_value s vs c.left) (operand_value s vs c.right)

  each_same : (cs : List (Comparison Operand)) → All (λ o. Heard vs o zs) (sides cs) → any with_columns cs ≡ false → All Same cs
  each_same [] h n = nil
  each_same (c ∷ cs) h n =
      cons (compared_same c.op c.left c.right (All-head h) (All-head (All-tail h)) (or_left (with_columns c) (any with_columns cs) n))
      (each_same cs (All-tail (All-tail h)) (or_right (with_columns c) (any with_columns cs) n))

  eval-same : {l : Level} (c : Condition Operand l) → All Same (comparisons c) → eval (operand_value r vs) c ≡ eval (operand_value s vs) c
  eval-same (compare c) h = All-head h
  eval-same (negate c) h = ap not₃ (eval-same c h)
  eval-same (group c) h = eval-same c h
  eval-same (alone c) h = eval-same c h
  eval-same (both c d) h = ap₂ and₃ (eval-same c (All-left (comparisons c) (comparisons d) h)) (eval-same d (All-right (comparisons c) h))
  eval-same (single c) h = eval-same c h
  eval-same (either c d) h = ap₂ or₃ (eval-same c (All-left (comparisons c) (comparisons d) h)) (eval-same d (All-right (comparisons c) h))

  -- a WHERE without a comparison of two columns says the same of both rows
  pub meets-same : (c : Where Operand) → All (λ o. Heard vs o zs) (operands_in c) → any with_columns (comparisons_in c) ≡ false → meets_where c vs r ≡ meets_where c vs s
  meets-same always h n = refl
  meets-same (under c) h n = ap is_true (eval-same c (each_same (comparisons c) h n))

-- ---- an UPDATE: a cell is set to the same number in both rows, or stays in both

abbrev pub set_numbers : List (ℕ × Value) → List ℤ → List ℤ
set_numbers ss us = map (λ (s : ℕ × Value). value_of us s.1) ss

pub data Set (zs : List ℤ) (x x' y y' : ℤ) : Type 0 where
  to : (v : ℤ) → Apart x y v → x' ≡ v → y' ≡ v → Set zs x x' y y'
  stays : x' ≡ x → y' ≡ y → Set zs x x' y y'

module _ (zs us : List ℤ) (r s : Row) (i : ℕ) where
  assigned-at : (ss : List (ℕ × Value)) (a b : Row) → length a ≡ length b → All (Apart (cell r i) (cell s i)) (set_numbers ss us)
      → Set zs (cell r i) (cell a i) (cell s i) (cell b i)
      → Set zs (cell r i) (cell (assigned ss us a) i) (cell s i) (cell (assigned ss us b) i)
  assigned-at [] a b e h S = S
  assigned-at (x ∷ ss) a b e h S =
      assigned-at ss (set a x.0 v) (set b x.0 v) (length-set a x.0 v ∙ e ∙ sym (length-set b x.0 v)) (All-tail h)
      (go (ℕ_discrete i x.0) (dec_le (suc x.0) (length a)))
    where
      v : ℤ
      v = value_of us x.1

      same : set a x.0 v ≡ a → set b x.0 v ≡ b → Set zs (cell r i) (cell (set a x.0 v) i) (cell s i) (cell (set b x.0 v) i)
      same p q =
          subst (λ (l : Row). Set zs (cell r i) (cell l i) (cell s i) (cell (set b x.0 v) i)) (sym p)
          (subst (λ (l : Row). Set zs (cell r i) (cell a i) (cell s i) (cell l i)) (sym q) S)

      past : (l : Row) (k : ℕ) → length l ≤ k → set l k v ≡ l
      past [] k h = refl
      past (y ∷ l) zero h = absurd (omega arith)
      past (y ∷ l) (suc k) h = ap (λ (m : Row). y ∷ m) (past l k (omega arith))

      go : Dec (i ≡ x.0) → Dec (x.0 < length a) → Set zs (cell r i) (cell (set a x.0 v) i) (cell s i) (cell (set b x.0 v) i)
      go (yes p) (yes q) =
          to v (All-head h)
          (ap (cell (set a x.0 v)) p ∙ get_or-set_same a x.0 v (pos 0) q)
          (ap (cell (set b x.0 v)) p ∙ get_or-set_same b x.0 v (pos 0) (subst (λ (n : ℕ). x.0 < n) e q))
      go (yes p) (no q) = same (past a x.0 (omega arith)) (past b x.0 (omega arith))
      go (no p) d =
          subst (λ (c : ℤ). Set zs (cell r i) c (cell s i) (cell (set b x.0 v) i)) (sym (get_or-set_other a x.0 i v (pos 0) p))
          (subst (λ (c : ℤ). Set zs (cell r i) (cell a i) (cell s i) c) (sym (get_or-set_other b x.0 i v (pos 0) p)) S)

assigned-length : (ss : List (ℕ × Value)) (us : List ℤ) (r : Row) → length (assigned ss us r) ≡ length r
assigned-length [] us r = refl
assigned-length (s ∷ ss) us r = assigned-length ss us (set r s.0 (value_of us s.1)) ∙ length-set r s.0 (value_of us s.1)

module _ (zs us : List ℤ) (r s : Row) (R : Rows zs r s) (ss : List (ℕ × Value)) (sets : (z w : ℤ) → Alike zs z w → All (Apart z w) (set_numbers ss us)) where
  cells-set : (i : ℕ) → Set zs (cell r i) (cell (assigned ss us r) i) (cell s i) (cell (assigned ss us s) i)
  cells-set i = assigned-at zs us r s i ss r s R.long (sets (cell r i) (cell s i) (R.cells i)) (stays refl refl)

  -- the rows after it are alike
  pub rows-set : Rows zs (assigned ss us r) (assigned ss us s)
  rows-set = record { long = assigned-length ss us r ∙ R.long ∙ sym (assigned-length ss us s); cells = λ i. go i (cells-set i) }
    where
      go : (i : ℕ) → Set zs (cell r i) (cell (assigned ss us r) i) (cell s i) (cell (assigned ss us s) i) → Alike zs (cell (assigned ss us r) i) (cell (assigned ss us s) i)
      go i (to v A p q) = subst (λ (c : ℤ). Alike zs c (cell (assigned ss us s) i)) (sym p) (subst (Alike zs v) (sym q) (alike_self zs v))
      go i (stays p q) = subst (λ (c : ℤ). Alike zs c (cell (assigned ss us s) i)) (sym p) (subst (Alike zs (cell r i)) (sym q) (R.cells i))

  -- and alter in the same columns
  pub alters-same : (is : List ℕ) → eq_list eq_z (map (cell r) is) (map (cell (assigned ss us r)) is) ≡ eq_list eq_z (map (cell s) is) (map (cell (assigned ss us s)) is)
  alters-same [] = refl
  alters-same (i ∷ is) = ap₂ ◌&&◌ (go (cells-set i)) (alters-same is)
    where
      go : Set zs (cell r i) (cell (assigned ss us r) i) (cell s i) (cell (assigned ss us s) i)
          → eq_z (cell r i) (cell (assigned ss us r) i) ≡ eq_z (cell s i) (cell (assigned ss us s) i)
      go (to v A p q) = ap (eq_z (cell r i)) p ∙ apart-eq A ∙ sym (ap (eq_z (cell s i)) q)
      go (stays p q) = ap (eq_z (cell r i)) p ∙ eq_z-same (cell r i) ∙ sym (ap (eq_z (cell s i)) q ∙ eq_z-same (cell s i))

-- ---- an update of the question's one table matters through both or neither

-- `matters_in` where the row stands beside no other
abbrev pub matters_alone : Query → List ℤ → Change → List ℤ → Row → Bool
matters_alone q qs (insert os) us r = takes q qs (new_row os us)
matters_alone q qs (delete g) us r = meets_where g us r && takes q qs r
matters_alone q qs (update ss g) us r = meets_where g us r && differs q qs r (assigned ss us r)

pub alone-is : (q : Query) (qs : List ℤ) (c : Change) (us : List ℤ) (r : Row) → matters_in q qs first c us r [] ≡ matters_alone q qs c us r
alone-is q qs (insert os) us r = ap (takes q qs) (append-nil (new_row os us))
alone-is q qs (delete g) us r = ap (λ (x : Row). meets_where g us r && takes q qs x) (append-nil r)
alone-is q qs (update ss g) us r = ap₂ (λ (x y : Row). meets_where g us r && differs q qs x y) (append-nil r) (append-nil (assigned ss us r))

module _ (q : Query) (qs : List ℤ) (us : List ℤ) (r s : Row) where
  abbrev Numbers : Change → List ℤ
  Numbers c = numbers_in qs (operands_in q.condition) ++ change_numbers c us

  asked-heard : (c : Change) → All (λ o. Heard qs o (Numbers c)) (operands_in q.condition)
  asked-heard c = heard (Numbers c) qs (operands_in q.condition) (λ z w A. All-left (numbers_in qs (operands_in q.condition)) (change_numbers c us) A.each)

  given-apart : (c : Change) (z w : ℤ) → Alike (Numbers c) z w → All (Apart z w) (change_numbers c us)
  given-apart c z w A = All-right (numbers_in qs (operands_in q.condition)) A.each

  module _ (n : any with_columns (comparisons_in q.condition) ≡ false) where
    takes_same : (c : Change) (a b : Row) → Rows (Numbers c) a b → takes q qs a ≡ takes q qs b
    takes_same c a b R = meets-same (Numbers c) qs a b R q.condition (asked-heard c) n

    matters-same : (c : Change) → any with_columns (comparisons_of c) ≡ false → Rows (Numbers c) r s → matters_alone q qs c us r ≡ matters_alone q qs c us s
    matters-same (insert os) m R = refl
    matters-same (delete g) m R =
        ap₂ ◌&&◌ (meets-same (Numbers (delete g)) us r s R g (heard (Numbers (delete g)) us (operands_in g) (given-apart (delete g))) m) (takes_same (delete g) r s R)
    matters-same (update ss g) m R =
        ap₂ ◌&&◌
        (meets-same zs us r s R g (heard zs us (operands_in g) (λ z w A. All-right (set_numbers ss us) (given-apart (update ss g) z w A))) m)
        (three (takes_same (update ss g) r s R) (takes_same (update ss g) (assigned ss us r) (assigned ss us s) (rows-set zs us r s R ss sets))
        (alters-same zs us r s R ss sets q.selected))
      where
        zs : List ℤ
        zs = Numbers (update ss g)

        sets : (z w : ℤ) → Alike zs z w → All (Apart z w) (set_numbers ss us)
        sets z w A = All-left (set_numbers ss us) (numbers_in us (operands_in g)) (given-apart (update ss g) z w A)

        three : {a a' b b' e e' : Bool} → a ≡ a' → b ≡ b' → e ≡ e'
            → ((a && not b) || ((not a && b) || (a && (b && not e)))) ≡ ((a' && not b') || ((not a' && b') || (a' && (b' && not e'))))
        three {a} {a'} {b} {b'} {e} {e'} p q t =
            ap₂ (λ (x y : Bool). (x && not y) || ((not x && y) || (x && (y && not e)))) p q
            ∙ ap (λ (x : Bool). (a' && not b') || ((not a' && b') || (a' && (b' && not x)))) t

-- ---- the rows over critical numbers

-- a row of 32-bit numbers, and one of critical numbers that is alike
pub record Covered (zs : List ℤ) (r s : Row) : Type 0 where
  pub rows : Rows zs r s
  pub among : All (λ w. any (eq_z w) (critical zs) ≡ true) s

pub cover : (zs : List ℤ) (r : Row) → All Is32 r → (s : Row) × Covered zs r s
cover zs [] h = ([], record { rows = record { long = refl; cells = λ i. alike_self zs (pos 0) }; among = nil })
cover zs (z ∷ r) h = go (stands zs z (All-head h)) (cover zs r (All-tail h))
  where
    go : (w : ℤ) × Stands zs z w → (s : Row) × Covered zs r s → (s : Row) × Covered zs (z ∷ r) s
    go (w, W) (s, C) = (w ∷ s, record { rows = record { long = ap suc C.rows.long; cells = at }; among = cons W.among C.among })
      where
        at : (i : ℕ) → Alike zs (cell (z ∷ r) i) (cell (w ∷ s) i)
        at zero = W.alike
        at (suc i) = C.rows.cells i

over-cons : (zs : List ℤ) (n : ℕ) (p : Row → Bool) → any p (rows_from zs (suc n)) ≡ any (λ (z : ℤ). any (λ (r : Row). p (z ∷ r)) (rows_from zs n)) zs
over-cons zs n p =
    any-flat-map p (λ (z : ℤ). map (λ (r : Row). z ∷ r) (rows_from zs n)) zs
    ∙ any_same (All-every (λ z. any-map (λ (r : Row). z ∷ r) p (rows_from zs n)) zs)

-- a row of numbers of the list is tried
pub over-has : (zs : List ℤ) (s : Row) (p : Row → Bool) → All (λ w. any (eq_z w) zs ≡ true) s → p s ≡ true → any p (rows_from zs (length s)) ≡ true
over-has zs [] p h k = ap (λ (t : Bool). t || false) k
over-has zs (w ∷ s) p h k =
    over-cons zs (length s) p
    ∙ any-implies (eq_z w) (λ (z : ℤ). any (λ (r : Row). p (z ∷ r)) (rows_from zs (length s)))
    (λ z e. subst (λ (x : ℤ). any (λ (r : Row). p (x ∷ r)) (rows_from zs (length s)) ≡ true) (eq_z-true w z e) (over-has zs s (λ (r : Row). p (w ∷ r)) (All-tail h) k))
    zs (All-head h)

-- some member passes
pub found : {A : Type 0} {P : A → Type 0} (p : A → Bool) (xs : List A) → All P xs → any p xs ≡ true → (x : A) × P x × (p x ≡ true)
found p [] h k = absurd (false≢true k)
found {A} {P} p (x ∷ xs) h k = go (p x) refl k (found p xs (All-tail h))
  where
    go : (t : Bool) → p x ≡ t → (t || any p xs) ≡ true → (any p xs ≡ true → (x : A) × P x × (p x ≡ true)) → (x : A) × P x × (p x ≡ true)
    go true e k f = (x, All-head h, e)
    go false e k f = f k

-- the rows that are tried are rows of 32-bit numbers
flat-all : {P : Row → Type 0} (xss : List (List Row)) → All (All P) xss → All P (flat xss)
flat-all [] h = nil
flat-all (xs ∷ xss) h = All-append (All-head h) (flat-all xss (All-tail h))

pub over-rows : (zs : List ℤ) → All Is32 zs → (n : ℕ) → All (IsRow n) (rows_from zs n)
over-rows zs h zero = cons (refl, nil) nil
over-rows zs h (suc n) =
    flat-all (map (λ (z : ℤ). map (λ (r : Row). z ∷ r) (rows_from zs n)) zs)
    (All-image (λ (z : ℤ). map (λ (r : Row). z ∷ r) (rows_from zs n))
    (All-map (λ z k. All-image (λ (r : Row). z ∷ r) (All-map (λ r R. (ap suc R.0, cons k R.1)) (over-rows zs h n))) h))

-- a test that does not tell rows apart that are alike passes some row of critical numbers exactly if it passes some row of 32-bit numbers
pub some-row : (zs : List ℤ) (p : Row → Bool) → ((r s : Row) → Rows zs r s → p r ≡ p s) → (n : ℕ)
    → (any p (rows_from (critical zs) n) ≡ true) ↔ ((r : Row) × IsRow n r × (p r ≡ true))
some-row zs p same n = (there, back)
  where
    there : any p (rows_from (critical zs) n) ≡ true → (r : Row) × IsRow n r × (p r ≡ true)
    there k = found p (rows_from (critical zs) n) (over-rows (critical zs) (All-kept is_within32 (null ∷ suc_ℤ null ∷ (zs ++ map suc_ℤ zs))) n) k

    back : (r : Row) × IsRow n r × (p r ≡ true) → any p (rows_from (critical zs) n) ≡ true
    back (r, R, k) = go (cover zs r R.1)
      where
        go : (s : Row) × Covered zs r s → any p (rows_from (critical zs) n) ≡ true
        go (s, C) =
            subst (λ (m : ℕ). any p (rows_from (critical zs) m) ≡ true) (sym C.rows.long ∙ R.0)
            (over-has (critical zs) s p C.among (sym (same r s C.rows) ∙ k))

-- there is a row
pub zeros : (n : ℕ) → IsRow n (replicate n (pos 0))
zeros n = (length-replicate n (pos 0), each n)
  where
    each : (n : ℕ) → All Is32 (replicate n (pos 0))
    each zero = nil
    each (suc n) = cons refl (each n)

-- ---- the test of A.7

module _ (q : Query) (u : Update) (h : is_separate q u ≡ true) where
  abbrev compares : Bool
  compares = any with_columns (comparisons_in q.condition ++ comparisons_of u.change)

  of-table : (is_single q.second && eqb q.table u.table) ≡ true
  unfolding is_separate
  of-table = and_left (is_single q.second && eqb q.table u.table) (not compares) h

  -- the update is of the question's one table
  pub separate-first : side_of q u ≡ first
  unfolding side_of
  separate-first = ap (λ (b : Bool). cond b first (second_side q.second u.table)) (and_right (is_single q.second) (eqb q.table u.table) of-table)

  pub separate-single : q.second ≡ none
  separate-single = go q.second (and_left (is_single q.second) (eqb q.table u.table) of-table)
    where
      go : (s : Option Second) → is_single s ≡ true → s ≡ none
      go none e = refl
      go (some s) e = absurd (false≢true e)

  -- no comparison of two columns
  no-columns : (any with_columns (comparisons_in q.condition) || any with_columns (comparisons_of u.change)) ≡ false
  unfolding is_separate
  no-columns =
      sym (any_append with_columns (comparisons_in q.condition) (comparisons_of u.change))
      ∙ not-true compares (and_right (is_single q.second && eqb q.table u.table) (not compares) h)

  -- so no other row is looked at
  pub separate-matters : (qs us : List ℤ) (r : Row) → matters q qs u us r [] ≡ matters_alone q qs u.change us r
  unfolding matters
  separate-matters qs us r = ap (λ (s : Side). is_side s && matters_in q qs s u.change us r []) separate-first ∙ alone-is q qs u.change us r

  -- the test holds exactly if some row is affected
  pub affects-exactly-if : (columns : ℕ) (qs us : List ℤ) → (affects columns q qs u us ≡ true) ↔ Affected columns q qs u us
  unfolding affects
  affects-exactly-if columns qs us =
      some-row (numbers_in qs (operands_in q.condition) ++ change_numbers u.change us) (λ (r : Row). matters q qs u us r []) same columns
    where
      same : (r s : Row) → Rows (numbers_in qs (operands_in q.condition) ++ change_numbers u.change us) r s → matters q qs u us r [] ≡ matters q qs u us s []
      same r s R =
          separate-matters qs us r
          ∙ matters-same q qs us r s (or_left (any with_columns (comparisons_in q.condition)) (any with_columns (comparisons_of u.change)) no-columns) u.change
          (or_right (any with_columns (comparisons_in q.condition)) (any with_columns (comparisons_of u.change)) no-columns) R
          ∙ sym (separate-matters qs us s)
