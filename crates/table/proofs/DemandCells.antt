-- The claims of specs/Demand about single cells: those that a DELETE vacates, and those that no row has.
-- Assumes nothing.
use mathlib.Core.Path.{◌≡◌, refl, sym, ap, ◌∙◌}
use mathlib.Core.Logic.{◌⊎◌, inl, inr}
use mathlib.Core.Bool.{Bool, true, false}
use mathlib.Core.List.{List, ◌++◌}
use Prim.Native.Nat.{ℕ, ◌+◌, ◌-◌, ◌*◌, ◌≤◌, ◌<◌, max}
use native.Mathlib.Decide.{dec_lt}
use native.Mathlib.Nat.{mul_comm}
use native.Mathlib.Omega.{arith}
use lib.IntN.{ℤ, pos}
use lib.ListN.{length, take, drop, get_or, replicate, length-replicate, get_or-append}
use lib.Seq.{get_or-take, get_or-append_right}
use Rattle.std.proofs.lemmas.List.{get_or-drop, get_or-replicate}
use Rattle.lists.specs.Lists.{flat}
use Rattle.lists.proofs.Places.{flat-length}
use Rattle.meaning.specs.Meaning.{Row}
use Rattle.meaning.specs.Cells.{area_of, stored}
use Rattle.meaning.proofs.Cells.{put-there}
use Rattle.statement.specs.declared.Table.{Table}
use Rattle.statement.specs.declared.Update.{Update}
use Rattle.table.specs.Rows.{row_cells}
use Rattle.table.specs.Demand.{DeleteClears, OtherCellsStay}
use Rattle.table.specs.Changed.{laid, is_full_ring, change_fits, rows_before, changed_of, change_of, cells_after}
use Rattle.table.specs.declared.changes.Changed.{Changed}
use Rattle.table.proofs.ChangedMeans.{cells_are, changed-are, inside, used-few, after-wide, area-long, cells_same, cells-length, cells-before, cells-behind}

-- ---- an area when it holds rows: 0 behind them as far as it was in use, and as it was behind that

module _ (area : List ℤ) (used : ℕ) (rows : List Row) where
  abbrev long : ℕ
  long = length (flat rows)

  abbrev zeros : List ℤ
  zeros = replicate (used - long) (pos 0)

  stored-zero : (j : ℕ) (x : ℤ) → long ≤ j → j < used → get_or (stored area used rows) j x ≡ pos 0
  unfolding stored
  stored-zero j x h k =
      get_or-append_right (flat rows) (zeros ++ drop (max used long) area) j x h
      ∙ get_or-append zeros (drop (max used long) area) x (j - long) (omega (arith, length-replicate {A = ℤ} (used - long) (pos 0)))
      ∙ get_or-replicate (used - long) (j - long) (pos 0) x (omega arith)

  stored-behind : (j : ℕ) (x : ℤ) → long ≤ j → used ≤ j → get_or (stored area used rows) j x ≡ get_or area j x
  unfolding stored
  stored-behind j x h k =
      let z : length zeros ≡ used - long = length-replicate {A = ℤ} (used - long) (pos 0) in
      let e : max used long + (j - long - length zeros) ≡ j = omega arith in
      get_or-append_right (flat rows) (zeros ++ drop (max used long) area) j x h
      ∙ get_or-append_right zeros (drop (max used long) area) (j - long) x (omega arith)
      ∙ get_or-drop (max used long) area (j - long - length zeros) x
      ∙ ap (λ (i : ℕ). get_or area i x) e

-- ---- a cell by its place

-- lists that have the same there
at-place : (i : ℕ) (x : ℤ) (xs : List ℤ) → get_or (area_of i 1 xs) 0 x ≡ get_or xs i x
at-place i x xs =
    let z : i + 0 ≡ i = omega arith in
    get_or-take 1 (drop i xs) 0 x (omega arith) ∙ get_or-drop i xs 0 x ∙ ap (λ (k : ℕ). get_or xs k x) z

same-place : (i : ℕ) (x : ℤ) (xs ys : List ℤ) → area_of i 1 xs ≡ area_of i 1 ys → get_or xs i x ≡ get_or ys i x
same-place i x xs ys e = sym (at-place i x xs) ∙ ap (λ (l : List ℤ). get_or l 0 x) e ∙ at-place i x ys

-- of an area
in-area : (start size j : ℕ) (x : ℤ) (xs : List ℤ) → j < size → get_or (area_of start size xs) j x ≡ get_or xs (start + j) x
in-area start size j x xs h = get_or-take size (drop start xs) j x h ∙ get_or-drop start xs j x

-- ---- after an update

module _ (u : Update) (t : Table) (start : ℕ) (cells vs : List ℤ) (eight : length u.settings ≡ 8) where
  abbrev after : List ℤ
  after = cells_after u t start cells vs

  abbrev rows : ℕ
  rows = (change_of u t start cells vs).rows

  abbrev size : ℕ
  size = t.count * t.capacity

  -- the rows as they lie then
  abbrev lying : List Row
  lying = laid (is_full_ring t) t.oldest u.form u vs (rows_before t start cells)

  module _ (yes : change_fits u t start cells ≡ true) where
    put-in : area_of start size after ≡ stored (area_of start size cells) (t.count * t.rows) lying
    put-in =
        ap (area_of start size) (cells_are u t start cells vs eight yes)
        ∙ put-there start size cells (inside u t start cells vs eight yes) (stored (area_of start size cells) (t.count * t.rows) lying) (area-long u t start cells vs eight yes)

    flat-long : length (flat lying) ≡ t.count * rows
    unfolding changed_of
    flat-long =
        flat-length t.count lying (after-wide u t start cells vs eight yes)
        ∙ mul_comm (length lying) t.count
        ∙ ap (λ (c : Changed). t.count * c.rows) (sym (changed-are u t start cells vs eight yes))

    used-inside : t.count * t.rows ≤ size
    used-inside = omega (arith, used-few u t start cells vs eight yes, mul_comm t.rows t.count)

    vacated : (i : ℕ) (x : ℤ) → start + t.count * rows ≤ i → i < start + row_cells t → get_or after i x ≡ pos 0
    vacated i x h k =
        let j : ℕ = i - start in
        let e : start + j ≡ i = omega arith in
        sym (ap (λ (n : ℕ). get_or after n x) e)
        ∙ sym (in-area start size j x after (omega (arith, used-inside)))
        ∙ ap (λ (l : List ℤ). get_or l j x) put-in
        ∙ stored-zero (area_of start size cells) (t.count * t.rows) lying j x (omega (arith, flat-long)) (omega arith)

    unused : (i : ℕ) (x : ℤ) → start + row_cells t ≤ i → start + t.count * rows ≤ i → i < start + size → get_or after i x ≡ get_or cells i x
    unused i x h k l =
        let j : ℕ = i - start in
        let e : start + j ≡ i = omega arith in
        sym (ap (λ (n : ℕ). get_or after n x) e)
        ∙ sym (in-area start size j x after (omega arith))
        ∙ ap (λ (m : List ℤ). get_or m j x) put-in
        ∙ stored-behind (area_of start size cells) (t.count * t.rows) lying j x (omega (arith, flat-long)) (omega arith)
        ∙ in-area start size j x cells (omega arith)
        ∙ ap (λ (n : ℕ). get_or cells n x) e

  stays : (i : ℕ) (x : ℤ) → (i < start) ⊎ ((start + row_cells t ≤ i) × (start + t.count * rows ≤ i)) → get_or after i x ≡ get_or cells i x
  stays i x (inl h) = same-place i x after cells (cells-before u t start cells vs eight i 1 (omega arith))
  stays i x (inr (h, k)) = go (dec_lt i (start + size)) (change_fits u t start cells) refl
    where
      go : Dec (i < start + size) → (b : Bool) → change_fits u t start cells ≡ b → get_or after i x ≡ get_or cells i x
      go (yes l) true e = unused e i x h k l
      go (yes l) false e = ap (λ (m : List ℤ). get_or m i x) (cells_same u t start cells vs eight e)
      go (no l) b e = same-place i x after cells (cells-behind u t start cells vs eight i 1 (omega arith))

-- ---- the claims

pub delete_clears : DeleteClears
delete_clears u s t start cells vs w m e i x = vacated u t start cells vs m.array m.fits_in i x

pub other_cells_stay : OtherCellsStay
other_cells_stay u t start cells vs eight = (cells-length u t start cells vs eight, stays u t start cells vs eight)
