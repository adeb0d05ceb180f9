-- Rows in cells: rows that are stored are read back, an area that is put in place is there, and the other areas are as they were. Assumes nothing.
use mathlib.Core.Path.{◌≡◌, refl, sym, ap, ap₂, ◌∙◌}
use mathlib.Core.List.{List, [], ◌∷◌, ◌++◌, append_assoc, append-nil}
use Prim.Native.Nat.{ℕ, zero, suc, ◌+◌, ◌-◌, ◌*◌, ◌≤◌, ◌<◌, max}
use native.Mathlib.Nat.{zero-mul, suc-mul}
use native.Mathlib.Omega.{arith}
use lib.IntN.{ℤ, pos}
use lib.ListN.{length, take, drop, get_or, replicate, length-append, length-drop, length-replicate}
use lib.Seq.{drop-drop, take-add, take_at, drop_at, take-take, take-nil, length-take-le}
use Rattle.lists.specs.Lists.{All, nil, cons, flat, written}
use Rattle.lists.proofs.Lists.{All-head, All-tail}
use Rattle.lists.proofs.Places.{flat_append}
use Rattle.lists.proofs.Written.{length-written, written-there, written-before, written_after}
use Rattle.meaning.specs.Names.{Schema, no_schema}
use Rattle.meaning.specs.Meaning.{Row}
use Rattle.meaning.specs.Cells.{area_size, areas_size, area_of, rows_in, stored, with_area}

-- ---- an area

drop-take : (m j : ℕ) (l : List ℤ) → drop m (take (m + j) l) ≡ take j (drop m l)
drop-take zero j l =
    let e : 0 + j ≡ j = omega arith in
    ap (λ (i : ℕ). take i l) e
drop-take (suc m) j [] =
    let e : suc m + j ≡ suc (m + j) = omega arith in
    ap (λ (i : ℕ). drop (suc m) (take {A = ℤ} i [])) e ∙ sym (take-nil j)
drop-take (suc m) j (x ∷ l) =
    let e : suc m + j ≡ suc (m + j) = omega arith in
    ap (λ (i : ℕ). drop (suc m) (take i (x ∷ l))) e ∙ drop-take m j l

pub rows-length : (c n : ℕ) (l : List ℤ) → length (rows_in c n l) ≡ n
rows-length c zero l = refl
rows-length c (suc n) l = ap suc (rows-length c n (drop c l))

module _ (c : ℕ) where
  mul-suc : (n : ℕ) → suc n * c ≡ c + n * c
  mul-suc n = omega (arith, suc-mul n c)

  -- the rows of an area, one after another, are its first cells
  pub flat_rows : (n : ℕ) (l : List ℤ) → flat (rows_in c n l) ≡ take (n * c) l
  flat_rows zero l = sym (ap (λ (k : ℕ). take k l) (zero-mul c))
  flat_rows (suc n) l =
      ap (λ (t : List ℤ). take c l ++ t) (flat_rows n (drop c l)) ∙ sym (take-add c (n * c) l) ∙ ap (λ (k : ℕ). take k l) (sym (mul-suc n))

  -- each has c cells
  pub rows_wide : (n : ℕ) (l : List ℤ) → n * c ≤ length l → All (λ (r : Row). length r ≡ c) (rows_in c n l)
  rows_wide zero l h = nil
  rows_wide (suc n) l h =
      let q : suc n * c ≡ c + n * c = mul-suc n in
      cons (length-take-le c l (omega arith)) (rows_wide n (drop c l) (simp length-drop (omega arith)))

  -- rows of c cells are read back
  pub rows-flat : (rows : List Row) (rest : List ℤ) → All (λ (r : Row). length r ≡ c) rows → rows_in c (length rows) (flat rows ++ rest) ≡ rows
  rows-flat [] rest h = refl
  rows-flat (r ∷ rs) rest h =
      ap (λ (l : List ℤ). take c l ∷ rows_in c (length rs) (drop c l)) (append_assoc r (flat rs) rest)
      ∙ ap₂ (λ (x : List ℤ) (y : List ℤ). x ∷ rows_in c (length rs) y) (take_at r (flat rs ++ rest) c (All-head h)) (drop_at r (flat rs ++ rest) c (All-head h))
      ∙ ap (λ (t : List Row). r ∷ t) (rows-flat rs rest (All-tail h))

  -- rows depend on their own cells only
  pub rows-front : (n k : ℕ) (l : List ℤ) → n * c ≤ k → rows_in c n (take k l) ≡ rows_in c n l
  rows-front zero k l h = refl
  rows-front (suc n) k l h =
      let q : suc n * c ≡ c + n * c = mul-suc n in
      let e : k ≡ c + (k - c) = omega arith in
      let d : drop c (take k l) ≡ take (k - c) (drop c l) = ap (λ (j : ℕ). drop c (take j l)) e ∙ drop-take c (k - c) l in
      ap₂ (λ (x y : List ℤ). x ∷ rows_in c n y) (take-take c k l (omega arith)) d
      ∙ ap (λ (t : List Row). take c l ∷ t) (rows-front n (k - c) (drop c l) (omega arith))

  -- rows that are stored in an area are read back
  pub rows-stored : (area : List ℤ) (used : ℕ) (rows : List Row) → All (λ (r : Row). length r ≡ c) rows → rows_in c (length rows) (stored area used rows) ≡ rows
  unfolding stored
  rows-stored area used rows h = rows-flat rows (replicate (used - length (flat rows)) (pos 0) ++ drop (max used (length (flat rows))) area) h

  -- a row written behind n rows: the area that holds them and it
  pub insert-stored : (n : ℕ) (area row : List ℤ) → length row ≡ c → n * c + c ≤ length area
      → written area (n * c) row ≡ stored area (n * c) (rows_in c n area ++ (row ∷ []))
  unfolding stored
  insert-stored n area row e h =
      let rows : List ℤ = flat (rows_in c n area ++ (row ∷ [])) in
      let f : rows ≡ take (n * c) area ++ row = flat_append (rows_in c n area) (row ∷ []) ∙ ap₂ (λ (x y : List ℤ). x ++ y) (flat_rows n area) (append-nil row) in
      let l : length rows ≡ n * c + length row =
      ap length f ∙ length-append (take (n * c) area) row ∙ ap (λ (x : ℕ). x + length row) (length-take-le (n * c) area (omega arith)) in
      let none : n * c - length rows ≡ 0 = omega arith in
      let end : max (n * c) (length rows) ≡ n * c + length row = omega arith in
      ap (λ (x : List ℤ). x ++ drop (n * c + length row) area) (sym f)
      ∙ sym (ap₂ (λ (x y : ℕ). rows ++ (replicate x (pos 0) ++ drop y area)) none end)

-- a store keeps an area's length
pub stored-length : (area : List ℤ) (used : ℕ) (rows : List Row) → used ≤ length area → length (flat rows) ≤ length area
    → length (stored area used rows) ≡ length area
unfolding stored
stored-length area used rows h k =
    let f : ℕ = length (flat rows) in
    let a : length (drop (max used f) area) ≡ length area - max used f = length-drop (max used f) area in
    let b : length (replicate (used - f) (pos 0)) ≡ used - f = length-replicate (used - f) (pos 0) in
    let c : length (replicate (used - f) (pos 0) ++ drop (max used f) area) ≡ used - f + (length area - max used f) =
    length-append (replicate (used - f) (pos 0)) (drop (max used f) area) ∙ ap₂ (λ (x y : ℕ). x + y) b a in
    length-append (flat rows) (replicate (used - f) (pos 0) ++ drop (max used f) area) ∙ ap (λ (x : ℕ). f + x) c ∙ (omega arith)

-- ---- an area among all cells

module _ (start size : ℕ) (cells : List ℤ) (room : start + size ≤ length cells) where
  pub area-length : length (area_of start size cells) ≡ size
  area-length = length-take-le size (drop start cells) (simp length-drop (omega arith))

  module _ (area : List ℤ) (e : length area ≡ size) where
    fits : start + length area ≤ length cells
    fits = omega arith

    put_is : with_area start size cells area ≡ written cells start area
    put_is =
        let d : drop size (drop start cells) ≡ drop (start + length area) cells = drop-drop size start cells ∙ ap (λ (k : ℕ). drop (start + k) cells) (sym e) in
        ap (λ (x : List ℤ). take start cells ++ (area ++ x)) d ∙ sym (append_assoc (take start cells) area (drop (start + length area) cells))

    pub put-length : length (with_area start size cells area) ≡ length cells
    put-length = ap length put_is ∙ length-written cells start area fits

    -- an area that was put in place is there
    pub put-there : area_of start size (with_area start size cells area) ≡ area
    put-there =
        ap (λ (x : List ℤ). take size (drop start x)) put_is
        ∙ ap (λ (k : ℕ). take k (drop start (written cells start area))) (sym e)
        ∙ written-there cells start area fits

    -- areas before it, and behind it, are as they were
    pub put-before : (a l : ℕ) → a + l ≤ start → area_of a l (with_area start size cells area) ≡ area_of a l cells
    put-before a l h = ap (λ (x : List ℤ). take l (drop a x)) put_is ∙ written-before cells start area fits a l h

    pub put-after : (a l : ℕ) → start + size ≤ a → area_of a l (with_area start size cells area) ≡ area_of a l cells
    put-after a l h =
        let k : start + length area ≤ a = omega arith in
        ap (λ (x : List ℤ). take l (drop a x)) put_is ∙ ap (take l) (written_after cells start area fits a k)

-- ---- the areas of tables follow one another

-- where the area of table i starts
abbrev pub area_start : List Schema → ℕ → ℕ
area_start ts i = areas_size (take i ts)

pub area-inside : (ts : List Schema) (i : ℕ) → i < length ts → area_start ts i + area_size (get_or ts i no_schema) ≤ areas_size ts
area-inside [] i h = absurd (omega arith)
area-inside (t ∷ ts) zero h = omega arith
area-inside (t ∷ ts) (suc i) h =
    let k : area_start ts i + area_size (get_or ts i no_schema) ≤ areas_size ts = area-inside ts i (omega arith) in
    omega arith

pub areas-apart : (ts : List Schema) (i j : ℕ) → i < j → i < length ts → area_start ts i + area_size (get_or ts i no_schema) ≤ area_start ts j
areas-apart [] i j h l = absurd (omega arith)
areas-apart (t ∷ ts) i zero h l = absurd (omega arith)
areas-apart (t ∷ ts) zero (suc j) h l = omega arith
areas-apart (t ∷ ts) (suc i) (suc j) h l =
    let k : area_start ts i + area_size (get_or ts i no_schema) ≤ area_start ts j = areas-apart ts i j (omega arith) (omega arith) in
    omega arith
