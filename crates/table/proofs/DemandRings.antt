-- The claims of specs/Demand about rings (request A.4).
--     row-round       a row read, in its cells
--     area-written    cells written in an area, among all cells
-- Assumes nothing.
use mathlib.Core.Path.{◌≡◌, refl, sym, ap, ap₂, ◌∙◌, subst}
use mathlib.Core.Bool.{Bool, true, not, cond, ◌&&◌}
use mathlib.Core.List.{List, [], ◌∷◌, ◌++◌, map, append_assoc}
use Prim.Native.Nat.{ℕ, suc, ◌+◌, ◌-◌, ◌*◌, ◌≤◌, ◌<◌}
use native.Mathlib.Nat.{mul_comm, mul-le-mul_right, suc-mul}
use native.Mathlib.Omega.{arith}
use borrow.Author.Tests.{le-leb, lt-ltb}
use lib.Dec.{leb}
use lib.IntN.{ℤ}
use lib.ListN.{length, take, drop, get_or, set, take-append-drop}
use lib.Seq.{take-add, take-take, drop-drop, drop-append-le, length-take-le}
use Rattle.lists.specs.Lists.{keep, turned, written}
use Rattle.lists.proofs.Bools.{clash}
use Rattle.meaning.specs.Condition.{Where}
use Rattle.meaning.specs.Statement as M
use Rattle.meaning.specs.Statement.{insert, delete, update}
use Rattle.meaning.specs.Meaning.{Row, meets_where, new_row, updated_row, assigned, changed, rows_changed}
use Rattle.meaning.specs.Cells.{area_of, rows_in, stored, with_area}
use Rattle.meaning.proofs.Cells.{rows-front, insert-stored, area-length}
use Rattle.statement.specs.declared.Table.{Table}
use Rattle.statement.specs.declared.Update.{Update}
use Rattle.statement.specs.Sound.{AgreesCondition}
use Rattle.statement.specs.SoundTest.{setting_values}
use Rattle.statement.specs.Compiled.{settings_of_change, where_of_change, form_of_change}
use Rattle.table.specs.Evaluated.{place_round}
use Rattle.table.specs.Rows.{row_cells, rows_used}
use Rattle.table.specs.Demand.{ReadsOldestFirst, Makes, table_after, FullRingPushes, NewRowTakesCells, DeleteLaysOldestFirst, UpdateStaysInPlace}
use Rattle.table.specs.Changed.{updated_if, laid, oldest_after, is_full_ring, rows_before, changed_of, change_of, cells_after}
use Rattle.table.specs.declared.changes.Changed.{Changed}
use Rattle.table.proofs.Assigning.{row-long}
use Rattle.table.proofs.Fitting.{form_test, value-each, few-settings, oldest-there, set-stored}
use Rattle.table.proofs.Round.{row-round}
use Rattle.table.proofs.ChangedMeans.{meets-means, values-are, cells_are, changed-are, form-yes, inside, used-few, rows_back, remaining_rows, change-count, change-used}
use Rattle.table.proofs.Demand.{used_all}

-- ---- "Rows still read oldest first"

module _ (t : Table) (start : ℕ) (cells : List ℤ) (h : start + row_cells t ≤ length cells) where
  used-is : rows_used t start cells ≡ turned t.oldest (rows_in t.count t.rows (drop start cells))
  used-is = ap (λ (b : Bool). cond b (turned t.oldest (rows_in t.count t.rows (drop start cells))) []) (le-leb (start + row_cells t) (length cells) h)

  row_in : t.oldest < t.rows → (i : ℕ) → i < t.rows → get_or (rows_used t start cells) i [] ≡ area_of (start + place_round t.rows t.oldest i * t.count) t.count cells
  row_in k i m =
      ap (λ (rs : List Row). get_or rs i []) used-is
      ∙ row-round t.count t.oldest t.rows i (drop start cells) (omega arith) m
      ∙ ap (take t.count) (drop-drop (place_round t.rows t.oldest i * t.count) start cells)

pub reads_oldest_first : ReadsOldestFirst
reads_oldest_first t start cells h k = (used_all t start cells h, row_in t start cells h k)

-- ---- updates

-- cells written in an area are cells written among all
area-written : (start size at : ℕ) (cells row : List ℤ) → start + size ≤ length cells → at + length row ≤ size
    → with_area start size cells (written (area_of start size cells) at row) ≡ written cells (start + at) row
area-written start size at cells row room h =
    let d : List ℤ = drop start cells in
    let a : List ℤ = take size d in
    let long : length a ≡ size = area-length start size cells room in
    let front : take at a ≡ take at d = take-take at size d (omega arith) in
    let whole : drop (at + length row) a ++ drop size d ≡ drop (at + length row) d =
    sym (drop-append-le (at + length row) a (drop size d) (omega (arith, long))) ∙ ap (drop (at + length row)) (take-append-drop size d) in
    let e : start + (at + length row) ≡ start + at + length row = omega arith in
    ap (λ (x : List ℤ). take start cells ++ x) (append_assoc (take at a ++ row) (drop (at + length row) a) (drop size d))
    ∙ ap₂ (λ (x y : List ℤ). take start cells ++ (x ++ row ++ y)) front whole
    ∙ ap (λ (x : List ℤ). take start cells ++ (take at d ++ row ++ x)) (drop-drop (at + length row) start cells ∙ ap (λ (k : ℕ). drop k cells) e)
    ∙ sym (append_assoc (take start cells) (take at d ++ row) (drop (start + at + length row) cells))
    ∙ ap (λ (x : List ℤ). x ++ drop (start + at + length row) cells) (sym (append_assoc (take start cells) (take at d) row))
    ∙ ap (λ (x : List ℤ). x ++ row ++ drop (start + at + length row) cells) (sym (take-add start at cells))

module _ (u : Update) (s : M.Update) (t : Table) (start : ℕ) (cells vs : List ℤ) (m : Makes u s t start cells) where
  cells-hold : start + row_cells t ≤ length cells
  cells-hold = omega (arith, used-few u t start cells vs m.array m.fits_in, inside u t start cells vs m.array m.fits_in, mul_comm t.rows t.count)

  test : form_test u t ≡ true
  test = form-yes u t start cells vs m.array m.fits_in

  -- by the form: the rows as they lie, and the start
  lie : (f : ℕ) → u.form ≡ f → rows_in t.count (change_of u t start cells vs).rows (drop start (cells_after u t start cells vs)) ≡ laid (is_full_ring t) t.oldest f u vs (rows_before t start cells)
  unfolding changed_of
  lie f e =
      ap (λ (r : Changed). rows_in t.count r.rows (drop start (cells_after u t start cells vs))) (changed-are u t start cells vs m.array m.fits_in)
      ∙ rows_back u t start cells vs m.array m.fits_in
      ∙ ap (λ (k : ℕ). laid (is_full_ring t) t.oldest k u vs (rows_before t start cells)) e

  starts : (f : ℕ) → u.form ≡ f → (change_of u t start cells vs).oldest ≡ oldest_after (is_full_ring t) (length (rows_before t start cells)) t.oldest f
  unfolding changed_of
  starts f e =
      ap (λ (r : Changed). r.oldest) (changed-are u t start cells vs m.array m.fits_in)
      ∙ ap (oldest_after (is_full_ring t) (length (rows_before t start cells)) t.oldest) e

  form_of : (c : M.Change) → s.change ≡ c → u.form ≡ form_of_change c
  form_of c e = m.agrees.form_is ∙ ap form_of_change e

  condition-of : (c : M.Change) → s.change ≡ c → AgreesCondition u.condition (where_of_change c)
  condition-of c e = subst (λ (x : M.Change). AgreesCondition u.condition (where_of_change x)) e m.agrees.condition_is

  module _ (os : List M.Value) (e : s.change ≡ insert os) (f : is_full_ring t ≡ true) where
    there : t.oldest < t.rows
    there = oldest-there u t test (form_of (insert os) e) f

    new_is : new_row (setting_values u) vs ≡ new_row os vs
    new_is = ap (λ (l : List M.Value). new_row l vs) (values-are u s m.agrees os e)

    new-long : length (new_row os vs) ≡ t.count
    new-long =
        ap length (sym new_is)
        ∙ row-long vs u.settings u.count m.array (few-settings u t test)
        ∙ value-each u t test (form_of (insert os) e)

    pushes : ((change_of u t start cells vs).count ≡ 1)
        × (rows_used (table_after t (change_of u t start cells vs)) start (cells_after u t start cells vs) ≡ drop 1 (rows_used t start cells) ++ (new_row os vs ∷ []))
    unfolding changed rows_changed
    pushes =
        let rows : List Row = rows_used t start cells in
        let n : length rows ≡ t.rows = used_all t start cells cells-hold in
        let p : (t.ring && leb t.capacity (length rows)) ≡ true = ap (λ (k : ℕ). t.ring && leb t.capacity k) n ∙ f in
        let one : length (take 1 rows) ≡ 1 = length-take-le 1 rows (omega (arith, n, there)) in (
          change-count u s m.agrees t start cells vs m.array m.fits_in ∙ ap (λ (c : M.Change). rows_changed c vs rows) e,
          change-used u s m.agrees t start cells vs m.array m.fits_in (λ z. clash f z) (table_after t (change_of u t start cells vs)) refl refl refl
              ∙ ap (λ (c : M.Change). changed c vs (remaining_rows t c rows)) e
              ∙ ap (λ (b : Bool). drop (length (cond b (take 1 rows) [])) rows ++ (new_row os vs ∷ [])) p
              ∙ ap (λ (k : ℕ). drop k rows ++ (new_row os vs ∷ [])) one,
        )

    takes : cells_after u t start cells vs ≡ written cells (start + t.oldest * t.count) (new_row os vs)
    unfolding laid
    takes =
        let c : ℕ = t.count in
        let size : ℕ = c * t.capacity in
        let area : List ℤ = area_of start size cells in
        let row : Row = new_row (setting_values u) vs in
        let wide : length row ≡ c = ap length new_is ∙ new-long in
        let room : start + size ≤ length cells = inside u t start cells vs m.array m.fits_in in
        let used : t.rows * c ≤ size = used-few u t start cells vs m.array m.fits_in in
        let long : length area ≡ size = area-length start size cells room in
        let last : suc t.oldest * c ≤ t.rows * c = mul-le-mul_right c there in
        let q : suc t.oldest * c ≡ c + t.oldest * c = omega (arith, suc-mul t.oldest c) in
        let lying : rows_in c t.rows area ≡ rows_before t start cells = rows-front c t.rows size (drop start cells) used in
        cells_are u t start cells vs m.array m.fits_in
        ∙ ap (λ (j : ℕ). with_area start size cells (stored area (c * t.rows) (laid (is_full_ring t) t.oldest j u vs (rows_before t start cells)))) (form_of (insert os) e)
        ∙ ap (λ (b : Bool). with_area start size cells (stored area (c * t.rows) (cond b (set (rows_before t start cells) t.oldest row) (rows_before t start cells ++ (row ∷ []))))) f
        ∙ ap₂ (λ (j : ℕ) (rs : List Row). with_area start size cells (stored area j (set rs t.oldest row))) (mul_comm c t.rows) (sym lying)
        ∙ ap (with_area start size cells) (sym (set-stored c t.oldest t.rows area row wide there (omega (arith, long, used))) ∙ sym (insert-stored c t.oldest area row wide (omega (arith, long, used, last, q))))
        ∙ area-written start size (t.oldest * c) cells row room (omega (arith, wide, used, last, q))
        ∙ ap (written cells (start + t.oldest * c)) new_is

    removed : get_or (rows_used t start cells) 0 [] ≡ area_of (start + t.oldest * t.count) t.count cells
    removed =
        let z : t.oldest + 0 ≡ t.oldest = omega arith in
        let h : t.oldest + 0 < t.rows = omega (arith, there) in
        row_in t start cells cells-hold there 0 (omega (arith, there))
        ∙ ap (λ (b : Bool). area_of (start + cond b (t.oldest + 0) (t.oldest + 0 - t.rows) * t.count) t.count cells) (lt-ltb (t.oldest + 0) t.rows h)
        ∙ ap (λ (k : ℕ). area_of (start + k * t.count) t.count cells) z

  deletes : (w : Where M.Operand) → s.change ≡ delete w → ((change_of u t start cells vs).oldest ≡ 0)
      × (rows_in t.count (change_of u t start cells vs).rows (drop start (cells_after u t start cells vs)) ≡ keep (λ (r : Row). not (meets_where w vs r)) (rows_used t start cells))
  unfolding laid oldest_after
  deletes w e = (
    starts 2 (form_of (delete w) e),
    lie 2 (form_of (delete w) e)
        ∙ ap (λ (p : Row → Bool). keep (λ (r : Row). not (p r)) (turned t.oldest (rows_before t start cells))) (meets-means u.condition w (condition-of (delete w) e) vs)
        ∙ ap (keep (λ (r : Row). not (meets_where w vs r))) (sym (used-is t start cells cells-hold)),
  )

  updates : (ss : List (ℕ × M.Value)) (w : Where M.Operand) → s.change ≡ update ss w → ((change_of u t start cells vs).oldest ≡ t.oldest)
      × (rows_in t.count (change_of u t start cells vs).rows (drop start (cells_after u t start cells vs)) ≡ map (updated_row ss w vs) (rows_before t start cells))
  unfolding laid oldest_after
  updates ss w e = (
    starts 1 (form_of (update ss w) e),
    lie 1 (form_of (update ss w) e)
        ∙ ap₂ (λ (p : Row → Bool) (l : List (ℕ × M.Value)). map (updated_if p (assigned l vs)) (rows_before t start cells)) (meets-means u.condition w (condition-of (update ss w) e) vs) (m.agrees.settings_are ∙ ap settings_of_change e),
  )

-- ---- the claims

pub full_ring_pushes : FullRingPushes
full_ring_pushes u s t start cells vs os m e f = pushes u s t start cells vs m os e f

pub new_row_takes_cells : NewRowTakesCells
new_row_takes_cells u s t start cells vs os m e f = (removed u s t start cells vs m os e f, new-long u s t start cells vs m os e f, takes u s t start cells vs m os e f)

pub delete_lays_oldest_first : DeleteLaysOldestFirst
delete_lays_oldest_first u s t start cells vs w m e = deletes u s t start cells vs m w e

pub update_stays_in_place : UpdateStaysInPlace
update_stays_in_place u s t start cells vs ss w m e = updates u s t start cells vs m ss w e
