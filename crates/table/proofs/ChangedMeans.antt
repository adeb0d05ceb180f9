-- What an update does to the cells is what `Meaning` says of the sentence that it was compiled from; the rows are read back from the cells, and all other cells are as
-- they were. Assumes nothing.
use mathlib.Core.Path.{◌≡◌, refl, sym, ap, ap₂, ◌∙◌, subst}
use mathlib.Core.Bool.{Bool, true, false, not, cond, ◌&&◌, ◌||◌, and-false}
use mathlib.Core.List.{List, [], ◌∷◌, ◌++◌, map}
use Prim.Native.Nat.{ℕ, zero, suc, ◌+◌, ◌*◌, ◌≤◌, ◌<◌}
use native.Mathlib.Nat.{mul-le-mul_right, mul_comm}
use native.Mathlib.Omega.{arith}
use borrow.Author.Tests.{le-leb, leb-true, lt-ltb, ltb-true, ltb-false, eq-eqb, eqb-true}
use lib.Dec.{eqb, leb, ltb}
use lib.IntN.{ℤ}
use lib.ListN.{length, take, drop, get_or, set, length-append, length-map, length-drop, length-set}
use Rattle.lists.specs.Lists.{All, nil, cons, keep, count, flat, turned}
use Rattle.lists.proofs.Bools.{and_left, and_right, and_both, clash}
use Rattle.lists.proofs.Lists.{All-append, All-keep, All-image, All-map}
use Rattle.lists.proofs.Turned.{turned_zero, turned-map, turned_set, turned-set-last, length-turned, count-turned, All-turned}
use Rattle.lists.proofs.Places.{length-keep, flat-length}
use Rattle.meaning.specs.Condition.{Where}
use Rattle.meaning.specs.Statement as M
use Rattle.meaning.specs.Statement.{insert, delete, update}
use Rattle.meaning.specs.Meaning.{Row, meets_where, new_row, assigned, changed, rows_changed}
use Rattle.meaning.specs.Cells.{rows_in, area_of, stored, with_area}
use Rattle.meaning.proofs.Cells.{rows-length, rows-front, rows_wide, rows-stored, stored-length, area-length, put-length, put-there, put-before, put-after}
use Rattle.meaning.specs.Pattern.{placed_from}
use Rattle.meaning.specs.Plain.{is_insert}
use Rattle.statement.specs.declared.Condition.{Condition}
use Rattle.statement.specs.declared.Table.{Table}
use Rattle.statement.specs.declared.Update.{Update}
use Rattle.statement.specs.Sound.{settings_read, AgreesCondition, AgreesUpdate}
use Rattle.statement.specs.SoundTest.{setting_values, sound_form}
use Rattle.statement.specs.Compiled.{settings_of_change, where_of_change, form_of_change}
use Rattle.table.specs.Rows.{meets_stored, row_cells, rows_used}
use Rattle.table.specs.Changed.{updated_if, laid, next_place, oldest_after, count_after, area_fits, is_full_ring, form_fits, change_fits, rows_before, changed_of, change_of, cells_after, oldest_row}
use Rattle.table.specs.declared.changes.Changed.{Changed}
use Rattle.table.proofs.Means.{meets-where}
use Rattle.table.proofs.Assigning.{assigned-length, row-long}
use Rattle.table.proofs.Updating.{settled-length}
use Rattle.table.proofs.Fitting.{area-inside, rows_inside, form_test, row-free, oldest-there, value-each, few-settings, refused}

-- ---- what Meaning says

-- a stored condition that agrees with a WHERE is met by the rows that meet it
pub meets-means : (c : Condition) (w : Where M.Operand) → AgreesCondition c w → (vs : List ℤ) → meets_stored c vs ≡ meets_where w vs
meets-means c w A vs = λ i r. meets-where c w A vs r i

placed-values : (i : ℕ) (os : List M.Value) → map (λ (s : ℕ × M.Value). s.1) (placed_from i os) ≡ os
placed-values i [] = refl
placed-values i (o ∷ os) = ap (λ (l : List M.Value). o ∷ l) (placed-values (suc i) os)

-- the rows after an update of this form, as they are read
unfoldable pub rows_after : ℕ → Update → List ℤ → List Row → List Row
rows_after zero u vs rows = rows ++ (new_row (setting_values u) vs ∷ [])
rows_after (suc zero) u vs rows = map (updated_if (meets_stored u.condition vs) (assigned (settings_read u) vs)) rows
rows_after (suc (suc k)) u vs rows = keep (λ (r : Row). not (meets_stored u.condition vs r)) rows

-- the values of an INSERT's sentence
pub values-are : (u : Update) (s : M.Update) → AgreesUpdate u s → (os : List M.Value) → s.change ≡ insert os → setting_values u ≡ os
values-are u s A os e = ap (map (λ (p : ℕ × M.Value). p.1)) (A.settings_are ∙ ap settings_of_change e) ∙ placed-values 0 os

module _ (u : Update) (vs : List ℤ) (rows : List Row) where
  rows-by : (ch : M.Change) → u.form ≡ form_of_change ch → settings_read u ≡ settings_of_change ch → AgreesCondition u.condition (where_of_change ch)
      → rows_after u.form u vs rows ≡ changed ch vs rows
  unfolding rows_after changed
  rows-by (insert os) f s A =
      ap (λ (k : ℕ). rows_after k u vs rows) f
      ∙ ap (λ (l : List M.Value). rows ++ (new_row l vs ∷ [])) (ap (map (λ (p : ℕ × M.Value). p.1)) s ∙ placed-values 0 os)
  rows-by (delete w) f s A =
      ap (λ (k : ℕ). rows_after k u vs rows) f
      ∙ ap (λ (p : Row → Bool). keep (λ (r : Row). not (p r)) rows) (meets-means u.condition w A vs)
  rows-by (update ss w) f s A =
      ap (λ (k : ℕ). rows_after k u vs rows) f
      ∙ ap₂ (λ (p : Row → Bool) (l : List (ℕ × M.Value)). map (updated_if p (assigned l vs)) rows) (meets-means u.condition w A vs) s

  count_by : (ch : M.Change) → u.form ≡ form_of_change ch → AgreesCondition u.condition (where_of_change ch)
      → count_after u.form u vs rows ≡ rows_changed ch vs rows
  unfolding count_after rows_changed
  count_by (insert os) f A = ap (λ (k : ℕ). count_after k u vs rows) f
  count_by (delete w) f A = ap (λ (k : ℕ). count_after k u vs rows) f ∙ ap (λ (p : Row → Bool). count p rows) (meets-means u.condition w A vs)
  count_by (update ss w) f A = ap (λ (k : ℕ). count_after k u vs rows) f ∙ ap (λ (p : Row → Bool). count p rows) (meets-means u.condition w A vs)

  -- the rows after an update are those after its sentence, and the count is
  pub rows-mean : (s : M.Update) → AgreesUpdate u s → rows_after u.form u vs rows ≡ changed s.change vs rows
  rows-mean s A = rows-by s.change A.form_is A.settings_are A.condition_is

  pub count-means : (s : M.Update) → AgreesUpdate u s → count_after u.form u vs rows ≡ rows_changed s.change vs rows
  count-means s A = count_by s.change A.form_is A.condition_is

-- ---- the rows as they lie, read from the oldest on

-- how many rows an INSERT removes first, by its form
abbrev pub goes : Bool → ℕ → ℕ
goes full zero = cond full 1 0
goes full (suc k) = 0

-- the oldest of a full ring is one of its rows, where an INSERT takes its place; of any other table the first row is the oldest
pub record Starts (full : Bool) (form k n : ℕ) : Type 0 where
  pub inside : form ≡ 0 → full ≡ true → k < n
  pub first : full ≡ false → k ≡ 0

-- the place of the oldest row replaced, and the start moved on: the oldest goes and the new row is the last
turned-next : (l : List Row) (k : ℕ) (x : Row) → k < length l → turned (next_place (length l) k) (set l k x) ≡ drop 1 (turned k l) ++ (x ∷ [])
turned-next l k x h = go (ltb (k + 1) (length l)) refl
  where
    go : (b : Bool) → ltb (k + 1) (length l) ≡ b → turned (cond b (k + 1) 0) (set l k x) ≡ drop 1 (turned k l) ++ (x ∷ [])
    go true e = turned_set l k x h
    go false e = turned-set-last l k x h (ltb-false (k + 1) (length l) e)

pub laid-means : (full : Bool) (k form : ℕ) (u : Update) (vs : List ℤ) (rows : List Row) → Starts full form k (length rows)
    → turned (oldest_after full (length rows) k form) (laid full k form u vs rows) ≡ rows_after form u vs (drop (goes full form) (turned k rows))
unfolding laid oldest_after rows_after
laid-means true k zero u vs rows S = turned-next rows k (new_row (setting_values u) vs) (S.inside refl refl)
laid-means false k zero u vs rows S =
    let new : List Row = new_row (setting_values u) vs ∷ [] in
    ap (λ (i : ℕ). turned i (rows ++ new)) (S.first refl)
    ∙ turned_zero (rows ++ new)
    ∙ ap (λ (l : List Row). l ++ new) (sym (turned_zero rows) ∙ ap (λ (i : ℕ). turned i rows) (sym (S.first refl)))
laid-means full k (suc zero) u vs rows S = turned-map (updated_if (meets_stored u.condition vs) (assigned (settings_read u) vs)) k rows
laid-means full k (suc (suc j)) u vs rows S = turned_zero (keep (λ (r : Row). not (meets_stored u.condition vs r)) (turned k rows))

-- ---- the rows after an update have the table's columns, and there are at most as many as fit

All-set : {P : Row → Type 0} {l : List Row} (k : ℕ) (x : Row) → P x → All P l → All P (set l k x)
All-set k x p nil = nil
All-set zero x p (cons q h) = cons p h
All-set (suc k) x p (cons q h) = cons q (All-set k x p h)

-- an INSERT has a value for each column
module _ (u : Update) (vs : List ℤ) (c n : ℕ) (l : List ℤ) (eight : length u.settings ≡ 8) (few : u.count ≤ 8) (room : n * c ≤ length l) where
  wide_by : (full : Bool) (k form : ℕ) → (form ≡ 0 → u.count ≡ c) → All (λ (r : Row). length r ≡ c) (laid full k form u vs (rows_in c n l))
  unfolding laid
  wide_by true k zero given = All-set k (new_row (setting_values u) vs) (row-long vs u.settings u.count eight few ∙ given refl) (rows_wide c n l room)
  wide_by false k zero given = All-append (rows_wide c n l room) (cons (row-long vs u.settings u.count eight few ∙ given refl) nil)
  wide_by full k (suc zero) given =
      let p : Row → Bool = meets_stored u.condition vs in
      let f : Row → Row = assigned (settings_read u) vs in
      All-image (updated_if p f)
      (All-map (λ (r : Row) (e : length r ≡ c). settled-length p f (λ r. assigned-length (settings_read u) vs r) r ∙ e) (rows_wide c n l room))
  wide_by full k (suc (suc j)) given = All-keep (λ (r : Row). not (meets_stored u.condition vs r)) (λ (r : Row) (e : length r ≡ c) h. e) (All-turned k (rows_wide c n l room))

few-by : (u : Update) (vs : List ℤ) (c n : ℕ) (l : List ℤ) (most : ℕ) (full : Bool) (k form : ℕ) → n ≤ most → (form ≡ 0 → full ≡ false → n < most)
    → length (laid full k form u vs (rows_in c n l)) ≤ most
unfolding laid
few-by u vs c n l most true k zero h free =
    let e : length (set (rows_in c n l) k (new_row (setting_values u) vs)) ≡ n = length-set (rows_in c n l) k (new_row (setting_values u) vs) ∙ rows-length c n l in
    omega arith
few-by u vs c n l most false k zero h free =
    let e : length (rows_in c n l ++ (new_row (setting_values u) vs ∷ [])) ≡ length (rows_in c n l) + 1 = length-append (rows_in c n l) (new_row (setting_values u) vs ∷ []) in
    let f : length (rows_in c n l) ≡ n = rows-length c n l in
    let g : n < most = free refl refl in
    omega arith
few-by u vs c n l most full k (suc zero) h free =
    let g : Row → Row = updated_if (meets_stored u.condition vs) (assigned (settings_read u) vs) in
    let e : length (map g (rows_in c n l)) ≡ n = length-map (rows_in c n l) g ∙ rows-length c n l in
    omega arith
few-by u vs c n l most full k (suc (suc j)) h free =
    let p : Row → Bool = λ r. not (meets_stored u.condition vs r) in
    let e : length (keep p (turned k (rows_in c n l))) ≤ length (turned k (rows_in c n l)) = length-keep p (turned k (rows_in c n l)) in
    let f : length (turned k (rows_in c n l)) ≡ n = length-turned k (rows_in c n l) ∙ rows-length c n l in
    omega arith

-- ---- the cells after an update

module _ (u : Update) (t : Table) (start : ℕ) (cells vs : List ℤ) (eight : length u.settings ≡ 8) where
  abbrev size : ℕ
  size = t.count * t.capacity

  -- the rows as they lie then
  abbrev after : List Row
  after = laid (is_full_ring t) t.oldest u.form u vs (rows_before t start cells)

  abbrev area : List ℤ
  area = area_of start size cells

  abbrev area' : List ℤ
  area' = stored area (t.count * t.rows) after

  -- where it does not fit
  pub cells_same : change_fits u t start cells ≡ false → cells_after u t start cells vs ≡ cells
  unfolding cells_after
  cells_same e = ap (λ (b : Bool). cond b (with_area start size cells area') cells) e

  -- where it fits
  module _ (yes : change_fits u t start cells ≡ true) where
    area-yes : area_fits t start (length cells) ≡ true
    unfolding change_fits
    area-yes = and_left (area_fits t start (length cells)) (form_test u t) yes

    pub form-yes : form_test u t ≡ true
    unfolding change_fits
    form-yes = and_right (area_fits t start (length cells)) (form_test u t) yes

    pub cells_are : cells_after u t start cells vs ≡ with_area start size cells area'
    unfolding cells_after
    cells_are = ap (λ (b : Bool). cond b (with_area start size cells area') cells) yes

    -- what is counted, and the rows in use
    pub changed-are : change_of u t start cells vs ≡ changed_of (is_full_ring t) t.oldest u.form u vs (rows_before t start cells)
    unfolding change_of
    changed-are =
        ap (λ (b : Bool). cond b (changed_of (is_full_ring t) t.oldest u.form u vs (rows_before t start cells)) (record { count = 0; rows = t.rows; oldest = t.oldest })) yes

    pub inside : start + size ≤ length cells
    inside = area-inside t start (length cells) area-yes

    pub used-few : t.rows * t.count ≤ size
    used-few =
        let h : t.rows * t.count ≤ t.capacity * t.count = mul-le-mul_right t.count (rows_inside t start (length cells) area-yes) in
        omega (arith, mul_comm t.capacity t.count)

    -- each row has the table's columns
    pub after-wide : All (λ (r : Row). length r ≡ t.count) after
    after-wide =
        wide_by u vs t.count t.rows (drop start cells) eight (few-settings u t form-yes)
        (simp length-drop (omega (arith, used-few, inside)))
        (is_full_ring t)
        t.oldest
        u.form
        (λ z. value-each u t form-yes z)

    -- and there are at most as many as its capacity
    pub after-few : length after ≤ t.capacity
    after-few =
        few-by u vs t.count t.rows (drop start cells) t.capacity (is_full_ring t) t.oldest u.form (rows_inside t start (length cells) area-yes)
        (λ z e. row-free u t form-yes z e)

    after-room : length after * t.count ≤ size
    after-room =
        let h : length after * t.count ≤ t.capacity * t.count = mul-le-mul_right t.count after-few in
        omega (arith, mul_comm t.capacity t.count)

    pub area-long : length area' ≡ size
    area-long =
        let l : length area ≡ size = area-length start size cells inside in
        let f : length (flat after) ≡ length after * t.count = flat-length t.count after after-wide in
        stored-length area (t.count * t.rows) after (omega (arith, used-few, mul_comm t.rows t.count)) (omega (arith, after-room)) ∙ l

    -- the rows are read back from the cells
    pub rows_back : rows_in t.count (length after) (drop start (cells_after u t start cells vs)) ≡ after
    rows_back =
        ap (λ (x : List ℤ). rows_in t.count (length after) (drop start x)) cells_are
        ∙ sym (rows-front t.count (length after) size (drop start (with_area start size cells area')) after-room)
        ∙ ap (rows_in t.count (length after)) (put-there start size cells inside area' area-long)
        ∙ rows-stored t.count area (t.count * t.rows) after after-wide

  either : (P : List ℤ → Type 0) → P cells → ((yes : change_fits u t start cells ≡ true) → P (with_area start size cells area')) → P (cells_after u t start cells vs)
  either P p q = go (change_fits u t start cells) refl
    where
      go : (b : Bool) → change_fits u t start cells ≡ b → P (cells_after u t start cells vs)
      go true e = subst P (sym (cells_are e)) (q e)
      go false e = subst P (sym (cells_same e)) p

  -- there are as many cells as before
  pub cells-length : length (cells_after u t start cells vs) ≡ length cells
  cells-length = either (λ (x : List ℤ). length x ≡ length cells) refl (λ yes. put-length start size cells (inside yes) area' (area-long yes))

  -- cells before the area, and behind it, are as they were
  pub cells-before : (a l : ℕ) → a + l ≤ start → area_of a l (cells_after u t start cells vs) ≡ area_of a l cells
  cells-before a l h = either (λ (x : List ℤ). area_of a l x ≡ area_of a l cells) refl (λ yes. put-before start size cells (inside yes) area' (area-long yes) a l h)

  pub cells-behind : (a l : ℕ) → start + size ≤ a → area_of a l (cells_after u t start cells vs) ≡ area_of a l cells
  cells-behind a l h = either (λ (x : List ℤ). area_of a l x ≡ area_of a l cells) refl (λ yes. put-after start size cells (inside yes) area' (area-long yes) a l h)

  -- so are the rows of a table whose area lies apart
  apart : (a c n : ℕ) → area_of a (n * c) (cells_after u t start cells vs) ≡ area_of a (n * c) cells
      → rows_in c n (drop a (cells_after u t start cells vs)) ≡ rows_in c n (drop a cells)
  apart a c n e =
      sym (rows-front c n (n * c) (drop a (cells_after u t start cells vs)) (omega arith)) ∙ ap (rows_in c n) e ∙ rows-front c n (n * c) (drop a cells) (omega arith)

  pub rows_before_lem : (a c n : ℕ) → a + n * c ≤ start → rows_in c n (drop a (cells_after u t start cells vs)) ≡ rows_in c n (drop a cells)
  rows_before_lem a c n h = apart a c n (cells-before a (n * c) h)

  pub rows_behind : (a c n : ℕ) → start + size ≤ a → rows_in c n (drop a (cells_after u t start cells vs)) ≡ rows_in c n (drop a cells)
  rows_behind a c n h = apart a c n (cells-behind a (n * c) h)

-- ---- where the oldest row lies in a sound state: "below the ring's size, and 0 unless a ring is full"

abbrev pub start_sound : Bool → ℕ → ℕ → ℕ → Bool
start_sound ring capacity rows oldest = eqb oldest 0 || (ring && (eqb rows capacity && ltb oldest capacity))

module _ (t : Table) where
  -- but in a full ring the first row is the oldest
  pub starts_first : start_sound t.ring t.capacity t.rows t.oldest ≡ true → is_full_ring t ≡ false → t.oldest ≡ 0
  starts_first h f = go (eqb t.oldest 0) refl
    where
      go : (b : Bool) → eqb t.oldest 0 ≡ b → t.oldest ≡ 0
      go true e = eqb-true t.oldest 0 e
      go false e =
          let r : (t.ring && (eqb t.rows t.capacity && ltb t.oldest t.capacity)) ≡ true =
          sym (ap (λ (b : Bool). b || (t.ring && (eqb t.rows t.capacity && ltb t.oldest t.capacity))) e) ∙ h in
          let n : t.rows ≡ t.capacity =
          eqb-true t.rows t.capacity (and_left (eqb t.rows t.capacity) (ltb t.oldest t.capacity) (and_right t.ring _ r)) in
          clash (and_both t.ring (leb t.capacity t.rows) (and_left t.ring _ r) (le-leb t.capacity t.rows (omega arith))) f

-- ---- the row that an INSERT into a full ring removes first, and the rows that the change finds: as the plain store has them

abbrev pub pushed_rows : Table → M.Change → List Row → List Row
pushed_rows t c rows = cond (t.ring && (is_insert c && leb t.capacity (length rows))) (take 1 rows) []

abbrev pub remaining_rows : Table → M.Change → List Row → List Row
remaining_rows t c rows = drop (length (pushed_rows t c rows)) rows

-- ---- an update that a sentence's agrees with, where it fits

module _ (u : Update) (s : M.Update) (A : AgreesUpdate u s) (t : Table) (start : ℕ) (cells vs : List ℤ) (eight : length u.settings ≡ 8) (yes : change_fits u t start cells ≡ true) where
  -- the rows before it, as they are read
  abbrev pub rows_round : List Row
  rows_round = turned t.oldest (rows_before t start cells)

  round-long : length rows_round ≡ t.rows
  round-long = length-turned t.oldest (rows_before t start cells) ∙ rows-length t.count t.rows (drop start cells)

  pub used-round : rows_used t start cells ≡ rows_round
  used-round =
      let h : start + row_cells t ≤ length cells =
      omega (arith, used-few u t start cells vs eight yes, inside u t start cells vs eight yes, mul_comm t.rows t.count) in
      ap (λ (b : Bool). cond b rows_round []) (le-leb (start + row_cells t) (length cells) h)

  count-turns : (k : ℕ) → count_after k u vs (rows_before t start cells) ≡ count_after k u vs rows_round
  unfolding count_after
  count-turns zero = refl
  count-turns (suc k) = sym (count-turned (meets_stored u.condition vs) t.oldest (rows_before t start cells))

  -- it counts the rows that its sentence inserts, matches or deletes
  pub change-count : (change_of u t start cells vs).count ≡ rows_changed s.change vs (rows_used t start cells)
  unfolding changed_of
  change-count =
      ap (λ (r : Changed). r.count) (changed-are u t start cells vs eight yes)
      ∙ count-turns u.form
      ∙ count-means u vs rows_round s A
      ∙ ap (rows_changed s.change vs) (sym used-round)

  -- as many rows of a full ring go as the plain store removes
  goes-is : (c : M.Change) → u.form ≡ form_of_change c → (u.form ≡ 0 → is_full_ring t ≡ true → t.oldest < t.rows)
      → goes (is_full_ring t) u.form ≡ length (pushed_rows t c rows_round)
  goes-is (delete w) f there = ap (goes (is_full_ring t)) f ∙ sym (ap (λ (b : Bool). length (cond b (take 1 rows_round) [])) (and-false t.ring))
  goes-is (update ss w) f there = ap (goes (is_full_ring t)) f ∙ sym (ap (λ (b : Bool). length (cond b (take 1 rows_round) [])) (and-false t.ring))
  goes-is (insert os) f there =
      ap (goes (is_full_ring t)) f
      ∙ go (is_full_ring t) refl
      ∙ sym (ap (λ (n : ℕ). length (cond (t.ring && leb t.capacity n) (take 1 rows_round) [])) round-long)
    where
      one : (l : List Row) → 1 ≤ length l → 1 ≡ length (take 1 l)
      one [] h = absurd (omega arith)
      one (x ∷ l) h = refl

      go : (b : Bool) → is_full_ring t ≡ b → cond b 1 0 ≡ length (cond (is_full_ring t) (take 1 rows_round) [])
      go true e = one rows_round (omega (arith, there f e, round-long)) ∙ sym (ap (λ (b : Bool). length (cond b (take 1 rows_round) [])) e)
      go false e = sym (ap (λ (b : Bool). length (cond b (take 1 rows_round) [])) e)

  form-holds : form_test u t ≡ true
  form-holds = form-yes u t start cells vs eight yes

  module _ (first : is_full_ring t ≡ false → t.oldest ≡ 0) where
    -- the rows after it, as they are read
    laid-are : turned (oldest_after (is_full_ring t) (length (rows_before t start cells)) t.oldest u.form) (laid (is_full_ring t) t.oldest u.form u vs (rows_before t start cells))
        ≡ changed s.change vs (remaining_rows t s.change (rows_used t start cells))
    laid-are =
        laid-means (is_full_ring t) t.oldest u.form u vs (rows_before t start cells)
        (record { inside = λ z e. omega (arith, oldest-there u t form-holds z e, rows-length t.count t.rows (drop start cells)); first = first })
        ∙ rows-mean u vs (drop (goes (is_full_ring t) u.form) rows_round) s A
        ∙ ap (λ (n : ℕ). changed s.change vs (drop n rows_round)) (goes-is s.change A.form_is (oldest-there u t form-holds))
        ∙ ap (λ (l : List Row). changed s.change vs (remaining_rows t s.change l)) (sym used-round)

    -- these are the rows that the cells hold, read from the oldest on
    pub change-means : turned (change_of u t start cells vs).oldest (rows_in t.count (change_of u t start cells vs).rows (drop start (cells_after u t start cells vs)))
        ≡ changed s.change vs (remaining_rows t s.change (rows_used t start cells))
    unfolding changed_of
    change-means =
        ap (λ (r : Changed). turned r.oldest (rows_in t.count r.rows (drop start (cells_after u t start cells vs)))) (changed-are u t start cells vs eight yes)
        ∙ ap (turned (oldest_after (is_full_ring t) (length (rows_before t start cells)) t.oldest u.form)) (rows_back u t start cells vs eight yes)
        ∙ laid-are

    -- so the table that has so many rows and that start holds them
    pub change-used : (t' : Table) → t'.count ≡ t.count → t'.rows ≡ (change_of u t start cells vs).rows → t'.oldest ≡ (change_of u t start cells vs).oldest
        → rows_used t' start (cells_after u t start cells vs) ≡ changed s.change vs (remaining_rows t s.change (rows_used t start cells))
    unfolding changed_of
    change-used t' c r o =
        let m : (change_of u t start cells vs).rows ≤ t.capacity =
        subst (λ (x : Changed). x.rows ≤ t.capacity) (sym (changed-are u t start cells vs eight yes)) (after-few u t start cells vs eight yes) in
        let n : (change_of u t start cells vs).rows * t.count ≤ t.capacity * t.count = mul-le-mul_right t.count m in
        let e : row_cells t' ≡ (change_of u t start cells vs).rows * t.count = ap₂ ◌*◌ c r ∙ mul_comm t.count (change_of u t start cells vs).rows in
        let h : start + row_cells t' ≤ length (cells_after u t start cells vs) =
        omega (arith, inside u t start cells vs eight yes, cells-length u t start cells vs eight, mul_comm t.capacity t.count) in
        ap (λ (b : Bool). cond b (turned t'.oldest (rows_in t'.count t'.rows (drop start (cells_after u t start cells vs)))) []) (le-leb (start + row_cells t') (length (cells_after u t start cells vs)) h)
        ∙ (λ i. turned (o i) (rows_in (c i) (r i) (drop start (cells_after u t start cells vs))))
        ∙ change-means

-- ---- the oldest row is the first of those read

pub oldest-first : (t : Table) (start : ℕ) (cells : List ℤ) → t.count ≤ 8 → 1 ≤ length (rows_used t start cells) → take 1 (rows_used t start cells) ≡ oldest_row t start cells ∷ []
oldest-first t start cells h n =
    go (rows_used t start cells) n ∙ ap (λ (b : Bool). get_or (cond b (rows_used t start cells) []) 0 [] ∷ []) (sym (le-leb t.count 8 h))
  where
    go : (l : List Row) → 1 ≤ length l → take 1 l ≡ get_or l 0 [] ∷ []
    go [] h = absurd (omega arith)
    go (x ∷ l) h = refl

-- ---- the start stays sound

module _ (u : Update) (t : Table) (start : ℕ) (cells vs : List ℤ) (eight : length u.settings ≡ 8) (h : start_sound t.ring t.capacity t.rows t.oldest ≡ true) where
  start-by : change_fits u t start cells ≡ true → (full : Bool) → is_full_ring t ≡ full → (k : ℕ) → u.form ≡ k
      → start_sound t.ring t.capacity (length (laid full t.oldest k u vs (rows_before t start cells))) (oldest_after full (length (rows_before t start cells)) t.oldest k) ≡ true
  unfolding laid oldest_after
  start-by ok true f zero z =
      let n : length (rows_before t start cells) ≡ t.rows = rows-length t.count t.rows (drop start cells) in
      let l : length (set (rows_before t start cells) t.oldest (new_row (setting_values u) vs)) ≡ t.rows =
      length-set (rows_before t start cells) t.oldest (new_row (setting_values u) vs) ∙ n in
      let r : t.ring ≡ true = and_left t.ring (leb t.capacity t.rows) f in
      let m : t.capacity ≤ t.rows = leb-true t.capacity t.rows (and_right t.ring (leb t.capacity t.rows) f) in
      let q : t.rows ≤ t.capacity = rows_inside t start (length cells) (area-yes u t start cells vs eight ok) in
      let e : t.rows ≡ t.capacity = omega arith in
      ap₂ (λ (i j : ℕ). start_sound t.ring t.capacity i (next_place j t.oldest)) l n ∙ go r e (ltb (t.oldest + 1) t.rows) refl
    where
      either_way : (b : Bool) → (b || true) ≡ true
      either_way true = refl
      either_way false = refl

      go : t.ring ≡ true → t.rows ≡ t.capacity → (b : Bool) → ltb (t.oldest + 1) t.rows ≡ b → start_sound t.ring t.capacity t.rows (cond b (t.oldest + 1) 0) ≡ true
      go r e true eb =
          let j : t.oldest + 1 < t.capacity = omega (arith, ltb-true (t.oldest + 1) t.rows eb) in
          ap (λ (b : Bool). eqb (t.oldest + 1) 0 || b)
          (and_both t.ring _ r (and_both (eqb t.rows t.capacity) _ (eq-eqb t.rows t.capacity e) (lt-ltb (t.oldest + 1) t.capacity j)))
          ∙ either_way (eqb (t.oldest + 1) 0)
      go r e false eb = refl
  start-by ok false f zero z =
      ap (λ (b : Bool). b || (t.ring && (eqb (length (rows_before t start cells ++ (new_row (setting_values u) vs ∷ []))) t.capacity && ltb t.oldest t.capacity)))
      (eq-eqb t.oldest 0 (starts_first t h f))
  start-by ok full f (suc zero) z =
      let g : Row → Row = updated_if (meets_stored u.condition vs) (assigned (settings_read u) vs) in
      ap (λ (n : ℕ). start_sound t.ring t.capacity n t.oldest) (length-map (rows_before t start cells) g ∙ rows-length t.count t.rows (drop start cells)) ∙ h
  start-by ok full f (suc (suc k)) z = refl

  pub change-starts : start_sound t.ring t.capacity (change_of u t start cells vs).rows (change_of u t start cells vs).oldest ≡ true
  unfolding changed_of
  change-starts = go (change_fits u t start cells) refl
    where
      go : (b : Bool) → change_fits u t start cells ≡ b → start_sound t.ring t.capacity (change_of u t start cells vs).rows (change_of u t start cells vs).oldest ≡ true
      go true e =
          ap (λ (r : Changed). start_sound t.ring t.capacity r.rows r.oldest) (changed-are u t start cells vs eight e)
          ∙ start-by e (is_full_ring t) refl u.form refl
      go false e = ap (λ (r : Changed). start_sound t.ring t.capacity r.rows r.oldest) (sym (refused u t start cells vs e).0) ∙ h

-- ---- what fits

module _ (u : Update) (t : Table) where
  form-by : (k : ℕ) → t.count ≤ 8 → sound_form k t.count u ≡ true → (k ≡ 0 → (ltb t.rows t.capacity || (t.ring && ltb t.oldest t.rows)) ≡ true)
      → (leb u.count 8 && form_fits k u t) ≡ true
  form-by zero h e free =
      let n : eqb u.count t.count ≡ true = and_left (eqb u.count t.count) _ e in
      let q : u.count ≡ t.count = eqb-true u.count t.count n in
      and_both (leb u.count 8) (form_fits 0 u t) (le-leb u.count 8 (omega arith))
      (and_both (ltb t.rows t.capacity || (t.ring && ltb t.oldest t.rows)) (eqb u.count t.count) (free refl) n)
  form-by (suc zero) h e free = and_both (leb u.count 8) true (and_left (leb u.count 8) _ (and_right (leb 1 u.count) _ e)) refl
  form-by (suc (suc zero)) h e free =
      let q : u.count ≡ 0 = eqb-true u.count 0 e in
      and_both (leb u.count 8) true (le-leb u.count 8 (omega arith)) refl
  form-by (suc (suc (suc k))) h e free = clash refl (sym e)

  -- a table with a row free, or a ring of one row and more whose start is sound, has a place for a new row
  place-free : start_sound t.ring t.capacity t.rows t.oldest ≡ true → t.rows ≤ t.capacity → 1 ≤ t.capacity → (t.ring ≡ false → t.rows < t.capacity)
      → (ltb t.rows t.capacity || (t.ring && ltb t.oldest t.rows)) ≡ true
  place-free h m one room = go (ltb t.rows t.capacity) t.ring refl refl
    where
      go : (b r : Bool) → ltb t.rows t.capacity ≡ b → t.ring ≡ r → (b || (r && ltb t.oldest t.rows)) ≡ true
      go true r eb er = refl
      go false false eb er = clash (lt-ltb t.rows t.capacity (room er)) eb
      go false true eb er = lt-ltb t.oldest t.rows (below (eqb t.oldest 0) refl)
        where
          below : (z : Bool) → eqb t.oldest 0 ≡ z → t.oldest < t.rows
          below true e = omega (arith, eqb-true t.oldest 0 e, ltb-false t.rows t.capacity eb)
          below false e =
              let r : (t.ring && (eqb t.rows t.capacity && ltb t.oldest t.capacity)) ≡ true =
              sym (ap (λ (b : Bool). b || (t.ring && (eqb t.rows t.capacity && ltb t.oldest t.capacity))) e) ∙ h in
              let l : t.oldest < t.capacity = ltb-true t.oldest t.capacity (and_right (eqb t.rows t.capacity) (ltb t.oldest t.capacity) (and_right t.ring _ r)) in
              omega (arith, ltb-false t.rows t.capacity eb)

  -- a sound update of a table whose area lies in the cells fits, but an INSERT without a free row into a table that is no ring
  pub fits-sound : (start : ℕ) (cells : List ℤ) → area_fits t start (length cells) ≡ true → t.count ≤ 8 → sound_form u.form t.count u ≡ true
      → start_sound t.ring t.capacity t.rows t.oldest ≡ true → 1 ≤ t.capacity → (u.form ≡ 0 → t.ring ≡ false → t.rows < t.capacity) → change_fits u t start cells ≡ true
  unfolding change_fits
  fits-sound start cells a h e sound one free =
      and_both (area_fits t start (length cells)) (form_test u t) a
      (form-by u.form h e (λ z. place-free sound (rows_inside t start (length cells) a) one (free z)))
