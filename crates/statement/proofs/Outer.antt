-- A.6: which comparisons are outer, from which are bare and whether OR stands last; their marks as a number, made node by node and read back. Assumes nothing.
use mathlib.Core.Path.{◌≡◌, refl, sym, ap, ap₂, ◌∙◌}
use mathlib.Core.Bool.{Bool, true, false, cond}
use mathlib.Core.List.{List, [], ◌∷◌, ◌++◌, map, append-nil, append_assoc, reverse, reverse-cons, reverse-reverse}
use Prim.Native.Nat.{ℕ, zero, suc, ◌+◌, ◌-◌, ◌*◌, ◌/◌, ◌%◌, ◌≤◌, ◌<◌}
use native.Mathlib.Nat.{zero-add, add-zero}
use native.Mathlib.Omega.{arith}
use borrow.Author.Tests.{eq-eqb, ne_eqb}
use lib.Dec.{eqb}
use lib.ListN.{length, drop, replicate, replicate-append-replicate, drop_of_length-le}
use Rattle.meaning.specs.Condition.{Level, atom, conjunction, disjunction, Tree, Condition, Where, always, under, compare, negate, group, alone, both, single, either}
use Rattle.meaning.specs.Postfix.{Node, join_all, join_any, nodes, nodes_in, size, outer_marks, outer_marks_in}
use Rattle.std.specs.Prelude.{Some, None}
use Rattle.std.specs.List.{slice_get}
use Rattle.statement.specs.declared.conditions.Node.{Node as Noted}
use Rattle.statement.specs.Private.Places.{bare_mark, bare_marks_on}
use Rattle.statement.specs.Private.Reading.{bare_marks}
use Rattle.statement.specs.Private.Sentences.{bare_marks_in}
use Rattle.statement.specs.Compiled.{step_of, digit, marks_number}
use Rattle.statement.specs.Sound.{digits_back}
use Rattle.statement.specs.Private.Built.{step_in, last_of, outer_by, outer_on}

-- ---- bare and outer

module _ {A : Type 0} where
  -- under parentheses or NOT none is bare
  bare-none : {l : Level} (d : ℕ) (c : Tree A l) → 0 < d → bare_marks d c ≡ replicate (size c) false
  bare-none d (compare c) h = ap (λ (b : Bool). b ∷ []) (ne_eqb d 0 (λ e. omega arith))
  bare-none d (negate c) h = bare-none (d + 1) c (omega arith)
  bare-none d (group c) h = bare-none (d + 1) c (omega arith)
  bare-none d (alone c) h = bare-none d c h
  bare-none d (both c e) h = ap₂ ◌++◌ (bare-none d c h) (bare-none d e h) ∙ replicate-append-replicate (size c) (size e) false
  bare-none d (single c) h = bare-none d c h
  bare-none d (either c e) h = ap₂ ◌++◌ (bare-none d c h) (bare-none d e h) ∙ replicate-append-replicate (size c) (size e) false

  -- without OR the bare ones are the outer ones
  atom-outer : (c : Tree A atom) → bare_marks 0 c ≡ outer_marks c
  atom-outer (compare c) = refl
  atom-outer (negate c) = bare-none 1 c (omega arith)
  atom-outer (group c) = bare-none 1 c (omega arith)

  row-outer : (c : Tree A conjunction) → bare_marks 0 c ≡ outer_marks c
  row-outer (alone c) = atom-outer c
  row-outer (both c d) = ap₂ ◌++◌ (atom-outer c) (row-outer d)

-- ---- marks as a number

none_number : (n : ℕ) → marks_number 0 (replicate n false) ≡ 0
none_number zero = refl
none_number (suc n) = none_number n

number_append : (n : ℕ) (bs cs : List Bool) → marks_number n (bs ++ cs) ≡ marks_number (marks_number n bs) cs
number_append n [] cs = refl
number_append n (b ∷ bs) cs = number_append (2 * n + digit b) bs cs

-- it grows with each mark
number_more : (n : ℕ) (bs : List Bool) → n ≤ marks_number n bs
number_more n [] = omega arith
number_more n (b ∷ bs) = omega (arith, number_more (2 * n + digit b) bs)

-- and at most doubles: n doubled k times
abbrev doubled : ℕ → ℕ → ℕ
doubled zero n = n
doubled (suc k) n = doubled k (2 * n)

doubled-more : (k n : ℕ) → n ≤ doubled k n
doubled-more zero n = omega arith
doubled-more (suc k) n = omega (arith, doubled-more k (2 * n))

digit-one : (b : Bool) → digit b ≤ 1
digit-one true = omega arith
digit-one false = omega arith

number-less : (k : ℕ) (bs : List Bool) (n m : ℕ) → length bs ≤ k → n < m → marks_number n bs < doubled k m
number-less k [] n m h l = omega (arith, doubled-more k m)
number-less zero (b ∷ bs) n m h l = absurd (omega arith)
number-less (suc k) (b ∷ bs) n m h l = number-less k bs (2 * n + digit b) (2 * m) (omega arith) (omega (arith, digit-one b))

-- eight have a byte
pub number_fits : (bs : List Bool) → length bs ≤ 8 → marks_number 0 bs ≤ 255
number_fits bs h = let k : marks_number 0 bs < 256 = number-less 8 bs 0 1 h (omega arith) in omega arith

-- ---- the number of the outer ones

outer-zero : (k : ℕ) → outer_by k 0 ≡ 0
outer-zero k = go (eqb k 2)
  where
    go : (b : Bool) → cond {A = ℕ} b 0 0 ≡ 0
    go true = refl
    go false = refl

module _ {O : Type 0} where
  last_end : (k : ℕ) (ns : List (Node O)) (n : Node O) → last_of k (map step_of (ns ++ (n ∷ []))) ≡ step_of n
  last_end k [] n = refl
  last_end k (m ∷ ns) n = last_end (step_of m) ns n

  last-joined : (ns ms : List (Node O)) (n : Node O) → last_of 0 (map step_of (ns ++ (ms ++ (n ∷ [])))) ≡ step_of n
  last-joined ns ms n = ap (λ (xs : List (Node O)). last_of 0 (map step_of xs)) (sym (append_assoc ns ms (n ∷ []))) ∙ last_end 0 (ns ++ ms) n

  -- a condition in parentheses or under NOT has none, whatever stands last
  covered : (k : ℕ) {l : Level} (c : Condition O l) → outer_by k (marks_number 0 (bare_marks 1 c)) ≡ marks_number 0 (replicate (size c) false)
  covered k c = ap (λ (bs : List Bool). outer_by k (marks_number 0 bs)) (bare-none 1 c (omega arith)) ∙ ap (outer_by k) (none_number (size c)) ∙ outer-zero k ∙ sym (none_number (size c))

  outer-number : (c : Condition O disjunction) → outer_by (last_of 0 (map step_of (nodes true c))) (marks_number 0 (bare_marks 0 c)) ≡ marks_number 0 (outer_marks c)
  outer-number (either c d) =
      ap (λ (k : ℕ). outer_by k (marks_number 0 (bare_marks 0 (either c d)))) (last-joined (nodes true c) (nodes true d) (join_any true)) ∙ sym (none_number (size c + size d))
  outer-number (single (both c d)) =
      ap (λ (k : ℕ). outer_by k (marks_number 0 (bare_marks 0 (both c d)))) (last-joined (nodes true c) (nodes true d) (join_all true)) ∙ ap (marks_number 0) (row-outer (both c d))
  outer-number (single (alone (compare c))) = refl
  outer-number (single (alone (negate c))) = covered (last_of 0 (map step_of (nodes false c))) c
  outer-number (single (alone (group c))) = covered (last_of 0 (map step_of (nodes true c))) c

  pub outer-in : (w : Where O) → outer_by (last_of 0 (map step_of (nodes_in w))) (marks_number 0 (bare_marks_in w)) ≡ marks_number 0 (outer_marks_in w)
  outer-in always = refl
  outer-in (under c) = outer-number c

-- ---- the loop of `outer_marks`: the nodes left are still to be marked

module _ (ns : List Noted) where
  abbrev pub Marking : ℕ → ℕ → Type 0
  Marking marks i = marks_number marks (bare_marks_on (drop i ns)) ≡ marks_number 0 (bare_marks_on ns)

  module _ (marks i : ℕ) (x : Noted) (M : Marking marks i) (q : drop i ns ≡ x ∷ drop (i + 1) ns) where
    pub marking-more : Marking (marks_number marks (bare_mark x)) (i + 1)
    marking-more = sym (number_append marks (bare_mark x) (bare_marks_on (drop (i + 1) ns))) ∙ ap (λ (ks : List Noted). marks_number marks (bare_marks_on ks)) (sym q) ∙ M

    -- there is room for it
    pub marking-room : length (bare_marks_on ns) ≤ 8 → marks_number marks (bare_mark x) ≤ 255
    marking-room few = omega (arith, number_more (marks_number marks (bare_mark x)) (bare_marks_on (drop (i + 1) ns)), marking-more, number_fits (bare_marks_on ns) few)

  pub marking-end : (marks i : ℕ) → length ns ≤ i → Marking marks i → marks ≡ marks_number 0 (bare_marks_on ns)
  marking-end marks i h M = ap (λ (ks : List Noted). marks_number marks (bare_marks_on ks)) (sym (drop_of_length-le ns h)) ∙ M

-- the last node
pub last-step : (k : ℕ) (ns : List Noted) (x : Noted) → slice_get ns (length ns - 1) ≡ Some x → last_of k (map step_in ns) ≡ step_in x
last-step k [] x e = cc
last-step k (y ∷ []) x e = ap step_in (first-is (length (y ∷ []) - 1) (omega arith) e)
  where
    first-is : (i : ℕ) → i ≡ 0 → slice_get (y ∷ []) i ≡ Some x → y ≡ x
    first-is zero q e = cc
    first-is (suc i) q e = absurd (omega arith)
last-step k (y ∷ z ∷ ns) x e = last-step (step_in y) (z ∷ ns) x (next (length (y ∷ z ∷ ns) - 1) (omega arith) e)
  where
    next : (i : ℕ) → i ≡ suc (length (z ∷ ns) - 1) → slice_get (y ∷ z ∷ ns) i ≡ Some x → slice_get (z ∷ ns) (length (z ∷ ns) - 1) ≡ Some x
    next i q e = let f : slice_get (y ∷ z ∷ ns) (suc (length (z ∷ ns) - 1)) ≡ Some x = ap (slice_get (y ∷ z ∷ ns)) (sym q) ∙ e in f

pub last-none : (ns : List Noted) → slice_get ns (length ns - 1) ≡ None → false ≡ eqb (last_of 0 (map step_in ns)) 2
last-none [] e = refl
last-none (y ∷ ns) e = absurd (there (y ∷ ns) (length (y ∷ ns) - 1) (omega arith) e)
  where
    there : (xs : List Noted) (i : ℕ) → i < length xs → slice_get xs i ≡ None → ⊥
    there [] i h e = omega arith
    there (x ∷ xs) zero h e = cc
    there (x ∷ xs) (suc i) h e = there xs i (omega arith) e

-- the bare ones, or none of them where OR is the last node
pub outer-as : (ns : List Noted) (b : Bool) (m : ℕ) → b ≡ eqb (last_of 0 (map step_in ns)) 2 → m ≡ marks_number 0 (bare_marks_on ns) → cond b 0 m ≡ outer_on ns
unfolding outer_on
outer-as ns b m e h = ap₂ (λ (x : Bool) (n : ℕ). cond x 0 n) e h

-- ---- the marks read back

digit-back : (n : ℕ) (b : Bool) → ((2 * n + digit b) / 2 ≡ n) × (eqb ((2 * n + digit b) % 2) 1 ≡ b)
digit-back n true = (omega arith, eq-eqb ((2 * n + 1) % 2) 1 (omega arith))
digit-back n false = (omega arith, ne_eqb ((2 * n + 0) % 2) 1 (λ e. omega arith))

digits-behind : (bs : List Bool) (k n : ℕ) → digits_back (length bs + k) (marks_number n bs) ≡ reverse bs ++ digits_back k n
digits-behind [] k n = ap (λ (j : ℕ). digits_back j n) (zero-add k)
digits-behind (b ∷ bs) k n =
    let e : suc (length bs) + k ≡ length bs + suc k = omega arith in
    let d = digit-back n b in
    ap (λ (j : ℕ). digits_back j (marks_number (2 * n + digit b) bs)) e
    ∙ digits-behind bs (suc k) (2 * n + digit b)
    ∙ ap₂ (λ (c : Bool) (m : ℕ). reverse bs ++ (c ∷ digits_back k m)) d.1 d.0
    ∙ sym (append_assoc (reverse bs) (b ∷ []) (digits_back k n))
    ∙ ap (λ (xs : List Bool). xs ++ digits_back k n) (sym (reverse-cons b bs))

pub digits-back : (bs : List Bool) (n : ℕ) → n ≡ length bs → digits_back n (marks_number 0 bs) ≡ reverse bs
digits-back bs n e = ap (λ (j : ℕ). digits_back j (marks_number 0 bs)) (e ∙ sym (add-zero (length bs))) ∙ digits-behind bs 0 0 ∙ append-nil (reverse bs)

pub marks-back : (bs : List Bool) (n : ℕ) → n ≡ length bs → reverse (digits_back n (marks_number 0 bs)) ≡ bs
marks-back bs n e = ap reverse (digits-back bs n e) ∙ reverse-reverse bs

pub length_digits : (n m : ℕ) → length (digits_back n m) ≡ n
length_digits zero m = refl
length_digits (suc n) m = ap suc (length_digits n (m / 2))
