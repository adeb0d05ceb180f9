-- The rows of a ring, read in two parts: those from the oldest on, and then those before it; and its cells turned so that the oldest lies first. Assumes nothing.
use Prim.Native.Nat.{ℕ, zero, suc, ◌+◌, ◌-◌, ◌*◌, ◌≤◌, ◌<◌}
use mathlib.Core.Path.{◌≡◌, refl, sym, ap, ap₂, ◌∙◌}
use mathlib.Core.Bool.{Bool, true, false, cond}
use mathlib.Core.List.{List, [], ◌∷◌, ◌++◌, map, append_assoc}
use native.Mathlib.Nat.{zero-mul, suc-mul, add-mul, mul-le-mul_right}
use native.Mathlib.Omega.{arith}
use borrow.Author.Tests.{ltb-true, ltb-false}
use lib.Dec.{ltb, leb}
use lib.IntN.{ℤ}
use lib.ListN.{length, take, drop, get_or, length-append, length-drop, get_or-append}
use lib.Seq.{take_at, drop_at, drop-drop, get_or-append-add, length-take-le}
use Rattle.lists.specs.Lists.{turned, pairs}
use Rattle.lists.proofs.Turned.{turned_zero, turned-past, length-turned}
use Rattle.meaning.specs.Meaning.{Row}
use Rattle.meaning.specs.Cells.{rows_in}
use Rattle.meaning.proofs.Cells.{rows-length, rows-front}
use Rattle.statement.specs.declared.Table.{Table}
use Rattle.table.specs.Evaluated.{if_so, place_round}
use Rattle.table.specs.Rows.{row_cells, rows_used}
use Rattle.table.specs.Private.Changing.{TurnsRows}

-- ---- the rows of an area in two parts

module _ (c : ℕ) where
  pub rows-parts : (a b : ℕ) (l : List ℤ) → rows_in c (a + b) l ≡ rows_in c a l ++ rows_in c b (drop (a * c) l)
  rows-parts zero b l =
      let e : 0 + b ≡ b = omega arith in
      let z : 0 * c ≡ 0 = zero-mul c in
      ap (λ (n : ℕ). rows_in c n l) e ∙ ap (λ (n : ℕ). rows_in c b (drop n l)) (sym z)
  rows-parts (suc a) b l =
      let e : suc a + b ≡ suc (a + b) = omega arith in
      let q : c + a * c ≡ suc a * c = omega (arith, suc-mul a c) in
      ap (λ (n : ℕ). rows_in c n l) e
      ∙ ap (λ (t : List Row). take c l ∷ t) (rows-parts a b (drop c l))
      ∙ ap (λ (d : List ℤ). take c l ∷ (rows_in c a (drop c l) ++ rows_in c b d)) (drop-drop (a * c) c l)
      ∙ ap (λ (n : ℕ). take c l ∷ (rows_in c a (drop c l) ++ rows_in c b (drop n l))) q

  -- the rows from place k on, and the first k
  pub rows-late : (k n : ℕ) (l : List ℤ) → k ≤ n → drop k (rows_in c n l) ≡ rows_in c (n - k) (drop (k * c) l)
  rows-late k n l h =
      let e : n ≡ k + (n - k) = omega arith in
      ap (drop k) (ap (λ (m : ℕ). rows_in c m l) e ∙ rows-parts k (n - k) l) ∙ drop_at (rows_in c k l) (rows_in c (n - k) (drop (k * c) l)) k (rows-length c k l)

  pub rows-early : (k n : ℕ) (l : List ℤ) → k ≤ n → take k (rows_in c n l) ≡ rows_in c k l
  rows-early k n l h =
      let e : n ≡ k + (n - k) = omega arith in
      ap (take k) (ap (λ (m : ℕ). rows_in c m l) e ∙ rows-parts k (n - k) l) ∙ take_at (rows_in c k l) (rows_in c (n - k) (drop (k * c) l)) k (rows-length c k l)

  pub rows-turned : (k n : ℕ) (l : List ℤ) → k ≤ n → turned k (rows_in c n l) ≡ rows_in c (n - k) (drop (k * c) l) ++ rows_in c k l
  rows-turned k n l h = ap₂ (λ (x y : List Row). x ++ y) (rows-late k n l h) (rows-early k n l h)

-- ---- a row, from the oldest on

pub rows_at : (c n i : ℕ) (l : List ℤ) → i < n → get_or (rows_in c n l) i [] ≡ take c (drop (i * c) l)
rows_at c zero i l h = absurd (omega arith)
rows_at c (suc n) zero l h = ap (λ (k : ℕ). take c (drop k l)) (sym (zero-mul c))
rows_at c (suc n) (suc i) l h =
    let q : c + i * c ≡ suc i * c = omega (arith, suc-mul i c) in
    rows_at c n i (drop c l) (omega arith) ∙ ap (take c) (drop-drop (i * c) c l) ∙ ap (λ (k : ℕ). take c (drop k l)) q

module _ (c k n i : ℕ) (l : List ℤ) (h : k ≤ n) (m : i < n) where
  abbrev one : List Row
  one = rows_in c (n - k) (drop (k * c) l)

  abbrev two : List Row
  two = rows_in c k l

  pub row-round : get_or (turned k (rows_in c n l)) i [] ≡ take c (drop (place_round n k i * c) l)
  row-round = ap (λ (rs : List Row). get_or rs i []) (rows-turned c k n l h) ∙ go (ltb (k + i) n) refl
    where
      go : (b : Bool) → ltb (k + i) n ≡ b → get_or (one ++ two) i [] ≡ take c (drop (cond b (k + i) (k + i - n) * c) l)
      go true e =
          let j : i < n - k = omega (arith, ltb-true (k + i) n e) in
          let t : i < length one = omega (arith, rows-length c (n - k) (drop (k * c) l)) in
          get_or-append one two [] i t
          ∙ rows_at c (n - k) i (drop (k * c) l) j
          ∙ ap (take c) (drop-drop (i * c) (k * c) l)
          ∙ ap (λ (x : ℕ). take c (drop x l)) (sym (add-mul k i c))
      go false e =
          let g : n ≤ k + i = ltb-false (k + i) n e in
          let r : i ≡ length one + (k + i - n) = omega (arith, rows-length c (n - k) (drop (k * c) l)) in
          ap (λ (x : ℕ). get_or (one ++ two) x []) r
          ∙ get_or-append-add one two (k + i - n) []
          ∙ rows_at c k (k + i - n) l (omega arith)

-- pairs with the rows of two parts
pub pairs-append : {A : Type 0} (xs ys ds : List (List A)) → pairs (xs ++ ys) ds ≡ pairs xs ds ++ pairs ys ds
pairs-append [] ys ds = refl
pairs-append {A} (x ∷ xs) ys ds =
    ap (λ (l : List (List A)). map (λ (d : List A). x ++ d) ds ++ l) (pairs-append xs ys ds) ∙ sym (append_assoc (map (λ (d : List A). x ++ d) ds) (pairs xs ds) (pairs ys ds))

-- ---- the place of the oldest row, past the rows the first one

module _ (k n : ℕ) where
  pub clamped-turned : {A : Type 0} (l : List A) → length l ≡ n → turned (if_so (ltb k n) k) l ≡ turned k l
  clamped-turned {A} l e = go (ltb k n) refl
    where
      go : (b : Bool) → ltb k n ≡ b → turned (if_so b k) l ≡ turned k l
      go true t = refl
      go false f = turned_zero l ∙ sym (turned-past k l (omega (arith, ltb-false k n f)))

-- ---- the rows of a table, in the cells from its area on

module _ (t : Table) (start : ℕ) (cells : List ℤ) where
  pub used-from : leb (start + row_cells t) (length cells) ≡ true → (l : List ℤ) (k : ℕ) → l ≡ drop start cells → k ≡ if_so (ltb t.oldest t.rows) t.oldest
      → turned k (rows_in t.count t.rows l) ≡ rows_used t start cells
  used-from h l k el ek =
      ap₂ (λ (i : ℕ) (m : List ℤ). turned i (rows_in t.count t.rows m)) ek el
      ∙ clamped-turned t.oldest t.rows (rows_in t.count t.rows (drop start cells)) (rows-length t.count t.rows (drop start cells))
      ∙ sym (ap (λ (b : Bool). cond b (turned t.oldest (rows_in t.count t.rows (drop start cells))) []) h)

-- ---- cells turned

-- an area of n whole rows turned by k rows of cells holds its rows from place k on, round
rows-turn : (c k n : ℕ) (l : List ℤ) → k ≤ n → length l ≡ n * c → rows_in c n (turned (k * c) l) ≡ turned k (rows_in c n l)
rows-turn c k n l h e =
    let m : n ≡ n - k + k = omega arith in
    let kc : k * c ≤ n * c = mul-le-mul_right c h in
    let x : List ℤ = drop (k * c) l in
    let y : List ℤ = take (k * c) l in
    let w : n * c ≡ (n - k) * c + k * c = ap (λ (i : ℕ). i * c) m ∙ add-mul (n - k) k c in
    let long : length x ≡ (n - k) * c = omega (arith, length-drop (k * c) l, e, w) in
    let first : rows_in c (n - k) (x ++ y) ≡ rows_in c (n - k) x =
    let le : (n - k) * c ≤ (n - k) * c = omega arith in
    sym (rows-front c (n - k) ((n - k) * c) (x ++ y) le) ∙ ap (rows_in c (n - k)) (take_at x y ((n - k) * c) long) in
    let second : rows_in c k (drop ((n - k) * c) (x ++ y)) ≡ rows_in c k l =
    let le : k * c ≤ k * c = omega arith in
    ap (rows_in c k) (drop_at x y ((n - k) * c) long) ∙ rows-front c k (k * c) l le in
    ap (λ (i : ℕ). rows_in c i (x ++ y)) m
    ∙ rows-parts c (n - k) k (x ++ y)
    ∙ ap₂ (λ (a b : List Row). a ++ b) first second
    ∙ sym (rows-turned c k n l h)

module _ (c used k : ℕ) (area : List ℤ) where
  pub turns-past : used ≤ k → TurnsRows c used k area area
  turns-past h = record { same = refl; rows_are = sym (turned-past k (rows_in c used area) (omega (arith, rows-length c used area))); rest_is = refl }

  -- the cells of the rows in use, turned in their place
  pub turns-rows : k ≤ used → used * c ≤ length area → (z : List ℤ) → z ≡ turned (k * c) (take (used * c) area) → TurnsRows c used k area (z ++ drop (used * c) area)
  turns-rows h room z is =
      let front : List ℤ = take (used * c) area in
      let rest : List ℤ = drop (used * c) area in
      let size : length front ≡ used * c = length-take-le (used * c) area room in
      let long : length z ≡ used * c = ap length is ∙ length-turned (k * c) front ∙ size in
      let le : used * c ≤ used * c = omega arith in
      record {
        same = length-append z rest ∙ omega (arith, long, length-drop (used * c) area);
        rows_are = sym (rows-front c used (used * c) (z ++ rest) le)
            ∙ ap (rows_in c used) (take_at z rest (used * c) long ∙ is)
            ∙ rows-turn c k used front h size
            ∙ ap (turned k) (rows-front c used (used * c) area le);
        rest_is = drop_at z rest (used * c) long;
      }
