-- An update by its form, on an area by itself and among all cells; what the tests of what fits say. Assumes nothing.
use mathlib.Core.Path.{◌≡◌, refl, sym, ap, ap₂, ◌∙◌}
use mathlib.Core.Bool.{Bool, true, false, not, cond, ◌&&◌, ◌||◌}
use mathlib.Core.List.{List, [], ◌∷◌, ◌++◌, map, append_assoc}
use Prim.Native.Nat.{ℕ, zero, suc, ◌+◌, ◌-◌, ◌*◌, ◌≤◌, ◌<◌, max}
use native.Mathlib.Nat.{mul-le-mul_right, mul_comm, suc-mul, add-mul}
use native.Mathlib.Omega.{arith}
use borrow.Author.Tests.{leb-true, ltb-true, ltb-false, eqb-true, le-leb, le-ltb}
use borrow.Rule.Slice.PartMut.{put_mid}
use lib.Dec.{eqb, leb, ltb}
use lib.IntN.{ℤ, pos}
use lib.ListN.{length, take, drop, set, replicate, length-append, length-map, length-drop, length-set, take-append-drop}
use lib.Seq.{length-take-le, take_at, drop_at, drop-drop, set_split}
use Rattle.lists.specs.Lists.{All, keep, cons_if, count, flat, turned}
use Rattle.lists.proofs.Bools.{and_left, and_right, clash}
use Rattle.lists.proofs.Lists.{All-keep}
use Rattle.lists.proofs.Places.{length-keep, flat_append, flat-length}
use Rattle.lists.proofs.Turned.{count-turned, length-turned}
use Rattle.meaning.specs.Meaning.{Row, assigned}
use Rattle.meaning.specs.Cells.{rows_in, stored}
use Rattle.meaning.proofs.Cells.{rows-length, rows-front, rows_wide, flat_rows, insert-stored}
use Rattle.statement.specs.declared.Table.{Table}
use Rattle.statement.specs.declared.Update.{Update}
use Rattle.statement.specs.Sound.{settings_read}
use Rattle.table.specs.Rows.{meets_stored, rows_used}
use Rattle.table.specs.Changed.{updated_if, laid, oldest_after, next_place, count_after, area_fits, is_full_ring, form_fits, change_fits, rows_before, changed_of, change_of, cells_after}
use Rattle.table.specs.Private.Changing.{row_of, Insertable, ChangeFits, inserted_of, TurnsRows}
use Rattle.table.specs.declared.changes.Changed.{Changed}
use Rattle.table.proofs.Assigning.{row-long}
use Rattle.table.proofs.Round.{rows-parts}

-- ---- the tests

module _ (t : Table) (start len : ℕ) where
  pub area-inside : area_fits t start len ≡ true → start + t.count * t.capacity ≤ len
  unfolding area_fits
  area-inside e = leb-true (start + t.count * t.capacity) len (and_left (leb (start + t.count * t.capacity) len) (leb t.rows t.capacity) e)

  pub rows_inside : area_fits t start len ≡ true → t.rows ≤ t.capacity
  unfolding area_fits
  rows_inside e = leb-true t.rows t.capacity (and_right (leb (start + t.count * t.capacity) len) (leb t.rows t.capacity) e)

module _ (u : Update) (t : Table) where
  abbrev pub form_test : Bool
  form_test = leb u.count 8 && form_fits u.form u t

  -- a row is free, or a ring has an oldest one
  abbrev pub place_free : Bool
  place_free = ltb t.rows t.capacity || (t.ring && ltb t.oldest t.rows)

  pub few-settings : form_test ≡ true → u.count ≤ 8
  few-settings e = leb-true u.count 8 (and_left (leb u.count 8) (form_fits u.form u t) e)

  inserts : form_test ≡ true → u.form ≡ 0 → (place_free && eqb u.count t.count) ≡ true
  inserts e z = ap (λ (k : ℕ). form_fits k u t) (sym z) ∙ and_right (leb u.count 8) (form_fits u.form u t) e

  placed : form_test ≡ true → u.form ≡ 0 → place_free ≡ true
  placed e z = and_left place_free (eqb u.count t.count) (inserts e z)

  -- an INSERT into any but a full ring has a row free
  pub row-free : form_test ≡ true → u.form ≡ 0 → is_full_ring t ≡ false → t.rows < t.capacity
  row-free e z f = go (ltb t.rows t.capacity) t.ring refl refl
    where
      go : (b r : Bool) → ltb t.rows t.capacity ≡ b → t.ring ≡ r → t.rows < t.capacity
      go true r eb er = ltb-true t.rows t.capacity eb
      go false true eb er =
          let h : t.capacity ≤ t.rows = ltb-false t.rows t.capacity eb in
          clash (ap₂ (λ (x y : Bool). x && y) er (le-leb t.capacity t.rows h)) f
      go false false eb er = clash (placed e z) (ap₂ (λ (x y : Bool). x || (y && ltb t.oldest t.rows)) eb er)

  -- and one into a full ring an oldest row
  pub oldest-there : form_test ≡ true → u.form ≡ 0 → is_full_ring t ≡ true → t.oldest < t.rows
  oldest-there e z f =
      let h : t.capacity ≤ t.rows = leb-true t.capacity t.rows (and_right t.ring (leb t.capacity t.rows) f) in
      let p : (t.ring && ltb t.oldest t.rows) ≡ true =
      sym (ap (λ (b : Bool). b || (t.ring && ltb t.oldest t.rows)) (le-ltb t.rows t.capacity h)) ∙ placed e z in
      ltb-true t.oldest t.rows (and_right t.ring (ltb t.oldest t.rows) p)

  pub value-each : form_test ≡ true → u.form ≡ 0 → u.count ≡ t.count
  value-each e z = eqb-true u.count t.count (and_right place_free (eqb u.count t.count) (inserts e z))

-- ---- an update of an area, by its form

-- rows that pass a test, and those that do not
pub kept-rest : (p : Row → Bool) (l : List Row) → length (keep (λ (r : Row). not (p r)) l) + count p l ≡ length l
kept-rest p [] = refl
kept-rest p (r ∷ l) = go (p r) (kept-rest p l)
  where
    go : (b : Bool) → length (keep (λ (r : Row). not (p r)) l) + count p l ≡ length l
        → length (cons_if (not b) r (keep (λ (r : Row). not (p r)) l)) + length (cons_if b r (keep p l)) ≡ suc (length l)
    go true e = omega arith
    go false e = omega arith

-- the place of a new row has room
pub place-room : (full : Bool) (columns used oldest size : ℕ) → used * columns ≤ size → Insertable full used oldest → (full ≡ false → used * columns + columns ≤ size)
    → (place : ℕ) → place ≡ cond full oldest used → place * columns + columns ≤ size
place-room true columns used oldest size h there room place e =
    let m : suc oldest * columns ≤ used * columns = mul-le-mul_right columns (there.there refl) in
    let q : place * columns ≡ oldest * columns = ap (λ (k : ℕ). k * columns) e in
    omega (arith, suc-mul oldest columns)
place-room false columns used oldest size h there room place e =
    let q : place * columns ≡ used * columns = ap (λ (k : ℕ). k * columns) e in
    omega (arith, room refl)

-- a row written over the one at place n is the area that holds the rows with it in that place
module _ (c n used : ℕ) (area row : List ℤ) (wide : length row ≡ c) (h : n < used) (room : used * c ≤ length area) where
  abbrev left' : ℕ
  left' = used - suc n

  abbrev rest' : List ℤ
  rest' = drop (suc n * c) area

  set_sum : used * c ≡ suc n * c + left' * c
  set_sum =
      let e : used ≡ suc n + (used - suc n) = omega arith in
      ap (λ (k : ℕ). k * c) e ∙ add-mul (suc n) (used - suc n) c

  set_before : take n (rows_in c used area) ≡ rows_in c n area
  set_before =
      let e : used ≡ n + (used - n) = omega arith in
      ap (λ (k : ℕ). take n (rows_in c k area)) e
      ∙ ap (take n) (rows-parts c n (used - n) area)
      ∙ take_at (rows_in c n area) (rows_in c (used - n) (drop (n * c) area)) n (rows-length c n area)

  set-behind : drop (suc n) (rows_in c used area) ≡ rows_in c left' rest'
  set-behind =
      let e : used ≡ suc n + (used - suc n) = omega arith in
      ap (λ (k : ℕ). drop (suc n) (rows_in c k area)) e
      ∙ ap (drop (suc n)) (rows-parts c (suc n) (used - suc n) area)
      ∙ drop_at (rows_in c (suc n) area) (rows_in c (used - suc n) rest') (suc n) (rows-length c (suc n) area)

  set_is : set (rows_in c used area) n row ≡ rows_in c n area ++ (row ∷ rows_in c left' rest')
  set_is =
      let l : n < length (rows_in c used area) = omega (arith, rows-length c used area) in
      set_split (rows_in c used area) n row l ∙ ap₂ (λ (x y : List Row). x ++ (row ∷ y)) set_before set-behind

  set-flat : flat (set (rows_in c used area) n row) ≡ take (n * c) area ++ (row ++ take (left' * c) rest')
  set-flat =
      ap flat set_is
      ∙ flat_append (rows_in c n area) (row ∷ rows_in c left' rest')
      ∙ ap₂ (λ (x y : List ℤ). x ++ (row ++ y)) (flat_rows c n area) (flat_rows c left' rest')

  set_long : length (flat (set (rows_in c used area) n row)) ≡ used * c
  set_long =
      let q : suc n * c ≡ c + n * c = omega (arith, suc-mul n c) in
      let a : length (take (n * c) area) ≡ n * c = length-take-le (n * c) area (omega (arith, set_sum)) in
      let r : length rest' ≡ length area - suc n * c = length-drop (suc n * c) area in
      let b : length (take (left' * c) rest') ≡ left' * c = length-take-le (left' * c) rest' (omega (arith, set_sum)) in
      ap length set-flat
      ∙ length-append (take (n * c) area) (row ++ take (left' * c) rest')
      ∙ omega (arith, length-append row (take (left' * c) rest'), a, b, set_sum, q, wide)

  pub set-stored : stored area (n * c) (rows_in c n area ++ (row ∷ [])) ≡ stored area (used * c) (set (rows_in c used area) n row)
  unfolding stored
  set-stored =
      let q : suc n * c ≡ c + n * c = omega (arith, suc-mul n c) in
      let there : n * c + length row ≡ suc n * c = omega (arith, wide) in
      let rows : List ℤ = flat (set (rows_in c used area) n row) in
      let none : used * c - length rows ≡ 0 = omega (arith, set_long) in
      let end : max (used * c) (length rows) ≡ used * c = omega (arith, set_long) in
      let tail : take (left' * c) rest' ++ drop (used * c) area ≡ rest' =
      ap (λ (k : ℕ). take (left' * c) rest' ++ drop k area) set_sum
      ∙ ap (λ (l : List ℤ). take (left' * c) rest' ++ l) (sym (drop-drop (left' * c) (suc n * c) area))
      ∙ take-append-drop (left' * c) rest' in
      sym (insert-stored c n area row wide (omega (arith, set_sum)))
      ∙ append_assoc (take (n * c) area) row (drop (n * c + length row) area)
      ∙ ap (λ (k : ℕ). take (n * c) area ++ (row ++ drop k area)) there
      ∙ ap (λ (l : List ℤ). take (n * c) area ++ (row ++ l)) (sym tail)
      ∙ ap (λ (l : List ℤ). take (n * c) area ++ l) (sym (append_assoc row (take (left' * c) rest') (drop (used * c) area)))
      ∙ sym (append_assoc (take (n * c) area) (row ++ take (left' * c) rest') (drop (used * c) area))
      ∙ ap (λ (l : List ℤ). l ++ drop (used * c) area) (sym set-flat)
      ∙ sym (ap₂ (λ (x y : ℕ). rows ++ (replicate x (pos 0) ++ drop y area)) none end)

-- what is stored in no more than the cells in use looks at the others alone
stored-rest : (a b : List ℤ) (used : ℕ) (rows : List Row) → length (flat rows) ≤ used → drop used a ≡ drop used b → stored a used rows ≡ stored b used rows
unfolding stored
stored-rest a b used rows h e =
    let m : max used (length (flat rows)) ≡ used = omega arith in
    let f : ℕ → List ℤ → List ℤ = λ (k : ℕ) (l : List ℤ). flat rows ++ (replicate (used - length (flat rows)) (pos 0) ++ drop k l) in
    ap (λ (k : ℕ). f k a) m ∙ ap (λ (l : List ℤ). flat rows ++ (replicate (used - length (flat rows)) (pos 0) ++ l)) e ∙ sym (ap (λ (k : ℕ). f k b) m)

module _ (u : Update) (vs : List ℤ) (columns used : ℕ) (area : List ℤ) (full : Bool) (oldest : ℕ) where
  abbrev rows_there : List Row
  rows_there = rows_in columns used area

  -- what is promised, of the form k
  abbrev pub Promised : ℕ → Changed → List ℤ → Type 0
  Promised k r area' = (r ≡ changed_of full oldest k u vs rows_there) × (area' ≡ stored area (used * columns) (laid full oldest k u vs rows_there))

  abbrev new : Row
  new = row_of (take u.count u.settings) vs

  inserted-at : (b : Bool) (area' : List ℤ) → b ≡ full → used * columns ≤ length area → length new ≡ columns → Insertable b used oldest
      → area' ≡ stored area (cond b oldest used * columns) (rows_in columns (cond b oldest used) area ++ (new ∷ []))
      → (inserted_of b used oldest ≡ changed_of b oldest 0 u vs rows_there) × (area' ≡ stored area (used * columns) (laid b oldest 0 u vs rows_there))
  unfolding changed_of laid count_after oldest_after
  inserted-at true area' e room wide there h =
      let l : used ≡ length (set rows_there oldest new) = sym (length-set rows_there oldest new ∙ rows-length columns used area) in
      let n : used ≡ length rows_there = sym (rows-length columns used area) in (
        ap₂ (λ (x y : ℕ). record { count = 1; rows = x; oldest = next_place y oldest }) l n,
        h ∙ set-stored columns oldest used area new wide (there.there refl) room,
      )
  inserted-at false area' e room wide there h =
      let l : used + 1 ≡ length (rows_there ++ (new ∷ [])) = sym (length-append rows_there (new ∷ []) ∙ ap (λ (x : ℕ). x + 1) (rows-length columns used area)) in
      (ap (λ (x : ℕ). record { count = 1; rows = x; oldest = oldest }) l, h)

  pub inserted : (k : ℕ) (area' : List ℤ) → k ≡ 0 → length u.settings ≡ 8 → u.count ≤ 8 → u.count ≡ columns → used * columns ≤ length area → Insertable full used oldest
      → (place : ℕ) → place ≡ cond full oldest used
      → area' ≡ stored area (place * columns) (rows_in columns place area ++ (row_of (take columns u.settings) vs ∷ []))
      → (r : Changed) → r ≡ inserted_of full used oldest → Promised k r area'
  inserted k area' e eight few n room there place ep h r er =
      let wide : length new ≡ columns = row-long vs u.settings u.count eight few ∙ n in
      let p = inserted-at full area' refl room wide there
      (h
      ∙ ap (λ (c : ℕ). stored area (place * columns) (rows_in columns place area ++ (row_of (take c u.settings) vs ∷ []))) (sym n)
      ∙ ap (λ (i : ℕ). stored area (i * columns) (rows_in columns i area ++ (new ∷ []))) ep) in (
        er ∙ p.0 ∙ ap (λ (j : ℕ). changed_of full oldest j u vs rows_there) (sym e),
        p.1 ∙ ap (λ (j : ℕ). stored area (used * columns) (laid full oldest j u vs rows_there)) (sym e),
      )

  pub updated : (k n : ℕ) (area' : List ℤ) → k ≡ 1 → n ≡ count (meets_stored u.condition vs) rows_there
      → area' ≡ stored area (used * columns) (map (updated_if (meets_stored u.condition vs) (assigned (settings_read u) vs)) rows_there)
      → Promised k (record { count = n; rows = used; oldest = oldest }) area'
  unfolding changed_of laid count_after oldest_after
  updated k n area' e m h =
      let g : Row → Row = updated_if (meets_stored u.condition vs) (assigned (settings_read u) vs) in
      let l : used ≡ length (map g rows_there) = sym (length-map rows_there g ∙ rows-length columns used area) in (
        ap₂ (λ (x y : ℕ). record { count = x; rows = y; oldest = oldest }) m l ∙ ap (λ (j : ℕ). changed_of full oldest j u vs rows_there) (sym e),
        h ∙ ap (λ (j : ℕ). stored area (used * columns) (laid full oldest j u vs rows_there)) (sym e),
      )

  -- a DELETE finds the rows turned
  module _ (area₁ : List ℤ) (T : TurnsRows columns used oldest area area₁) where
    abbrev p : Row → Bool
    p = meets_stored u.condition vs

    abbrev round : List Row
    round = turned oldest rows_there

    counted : (n : ℕ) → n ≡ count p (rows_in columns used area₁) → n ≡ count p rows_there
    counted n m = m ∙ ap (count p) T.rows_are ∙ count-turned p oldest rows_there

    pub gone-few : (n : ℕ) → n ≡ count p (rows_in columns used area₁) → n ≤ used
    gone-few n m =
        let s : length (keep (λ (r : Row). not (p r)) rows_there) + count p rows_there ≡ length rows_there = kept-rest p rows_there in
        let l : length rows_there ≡ used = rows-length columns used area in
        omega (arith, counted n m)

    left_is : (n : ℕ) → n ≡ count p (rows_in columns used area₁) → used - n ≡ length (keep (λ (r : Row). not (p r)) round)
    left_is n m =
        let s : length (keep (λ (r : Row). not (p r)) round) + count p round ≡ length round = kept-rest p round in
        let l : length round ≡ used = length-turned oldest rows_there ∙ rows-length columns used area in
        omega (arith, counted n m, count-turned p oldest rows_there)

    deleted-at : (n : ℕ) (area' : List ℤ) (j : ℕ) → used * columns ≤ length area → n ≡ count p (rows_in columns used area₁)
        → area' ≡ stored area₁ (used * columns) (keep (λ (r : Row). not (p r)) (rows_in columns used area₁))
        → Promised (suc (suc j)) (record { count = n; rows = used - n; oldest = 0 }) area'
    unfolding changed_of laid count_after oldest_after
    deleted-at n area' j room m h =
        let kept : List Row = keep (λ (r : Row). not (p r)) (rows_in columns used area₁) in
        let wide : All (λ (r : Row). length r ≡ columns) kept =
        All-keep (λ (r : Row). not (p r)) (λ (r : Row) (e : length r ≡ columns) f. e) (rows_wide columns used area₁ (omega (arith, T.same))) in
        let few : length kept ≤ used = omega (arith, length-keep (λ (r : Row). not (p r)) (rows_in columns used area₁), rows-length columns used area₁) in
        let size : length (flat kept) ≡ length kept * columns = flat-length columns kept wide in
        let short : length (flat kept) ≤ used * columns = omega (arith, size, mul-le-mul_right columns few) in (
          ap₂ (λ (x y : ℕ). record { count = x; rows = y; oldest = 0 }) (counted n m) (left_is n m),
          h ∙ stored-rest area₁ area (used * columns) kept short T.rest_is ∙ ap (λ (l : List Row). stored area (used * columns) (keep (λ (r : Row). not (p r)) l)) T.rows_are,
        )

    pub deleted : (k n : ℕ) (area' : List ℤ) → (k ≡ 0 → ⊥) → (k ≡ 1 → ⊥) → used * columns ≤ length area → n ≡ count p (rows_in columns used area₁)
        → area' ≡ stored area₁ (used * columns) (keep (λ (r : Row). not (p r)) (rows_in columns used area₁))
        → Promised k (record { count = n; rows = used - n; oldest = 0 }) area'
    deleted zero n area' a b room m h = absurd (a refl)
    deleted (suc zero) n area' a b room m h = absurd (b refl)
    deleted (suc (suc j)) n area' a b room m h = deleted-at n area' j room m h

-- ---- an update among all cells

module _ (u : Update) (t : Table) (start : ℕ) (cells vs : List ℤ) where
  -- nothing happens
  pub refused : change_fits u t start cells ≡ false → (record { count = 0; rows = t.rows; oldest = t.oldest } ≡ change_of u t start cells vs) × (cells ≡ cells_after u t start cells vs)
  unfolding change_of cells_after
  refused e = (
    sym (ap (λ (b : Bool). cond b (changed_of (is_full_ring t) t.oldest u.form u vs (rows_before t start cells)) (record { count = 0; rows = t.rows; oldest = t.oldest })) e),
    sym (ap (λ (b : Bool). cond b (put_mid start (t.count * t.capacity) cells (stored (take (t.count * t.capacity) (drop start cells)) (t.count * t.rows) (laid (is_full_ring t) t.oldest u.form u vs (rows_before t start cells)))) cells) e),
  )

  pub refused-area : area_fits t start (length cells) ≡ false → change_fits u t start cells ≡ false
  unfolding change_fits
  refused-area e = ap (λ (b : Bool). b && form_test u t) e

  pub refused-form : area_fits t start (length cells) ≡ true → form_test u t ≡ false → change_fits u t start cells ≡ false
  unfolding change_fits
  refused-form a e = ap₂ (λ (x y : Bool). x && y) a e

  -- what is counted where it fits
  module _ (a : area_fits t start (length cells) ≡ true) (f : form_test u t ≡ true) where
    both-fit : change_fits u t start cells ≡ true
    unfolding change_fits
    both-fit = ap₂ (λ (x y : Bool). x && y) a f

    counted_by : (k : ℕ) → u.form ≡ k → (change_of u t start cells vs).count ≡ count_after k u vs (rows_before t start cells)
    unfolding change_of changed_of
    counted_by k e =
        ap (λ (b : Bool). (cond b (changed_of (is_full_ring t) t.oldest u.form u vs (rows_before t start cells)) (record { count = 0; rows = t.rows; oldest = t.oldest })).count) both-fit
        ∙ ap (λ (j : ℕ). count_after j u vs (rows_before t start cells)) e

    pub counted-insert : u.form ≡ 0 → 1 ≡ (change_of u t start cells vs).count
    unfolding count_after
    counted-insert e = sym (counted_by 0 e)

    -- the rows lie inside the cells, and are counted from the oldest on as they are in the order of the area
    rows-found : count (meets_stored u.condition vs) (rows_used t start cells) ≡ count (meets_stored u.condition vs) (rows_before t start cells)
    rows-found =
        let p = meets_stored u.condition vs in
        let rows : List Row = rows_before t start cells in
        let h : t.rows * t.count ≤ t.capacity * t.count = mul-le-mul_right t.count (rows_inside t start (length cells) a) in
        let inside : start + t.count * t.rows ≤ length cells = omega (arith, area-inside t start (length cells) a, mul_comm t.capacity t.count, mul_comm t.rows t.count) in
        ap (λ (b : Bool). count p (cond b (turned t.oldest rows) [])) (le-leb (start + t.count * t.rows) (length cells) inside) ∙ count-turned p t.oldest rows

    pub counted-met : (u.form ≡ 0 → ⊥) → (n : ℕ) → n ≡ count (meets_stored u.condition vs) (rows_used t start cells) → n ≡ (change_of u t start cells vs).count
    unfolding count_after
    counted-met other n e = go u.form refl
      where
        go : (k : ℕ) → u.form ≡ k → n ≡ (change_of u t start cells vs).count
        go zero z = absurd (other z)
        go (suc k) z = e ∙ rows-found ∙ sym (counted_by (suc k) z)

  module _ (a : area_fits t start (length cells) ≡ true) (f : form_test u t ≡ true) (k : ℕ) (size : k ≡ t.count * t.capacity) where
    abbrev area : List ℤ
    area = take k (drop start cells)

    long : length area ≡ k
    long =
        let h : start + t.count * t.capacity ≤ length cells = area-inside t start (length cells) a in
        length-take-le k (drop start cells) (simp length-drop (omega arith))

    used-inside : t.rows * t.count ≤ k
    used-inside =
        let h : t.rows * t.count ≤ t.capacity * t.count = mul-le-mul_right t.count (rows_inside t start (length cells) a) in
        omega (arith, mul_comm t.capacity t.count)

    pub change-fits : t.capacity ≤ 65535 → ChangeFits (is_full_ring t) t.oldest u.form u.count t.count t.rows (length area)
    change-fits c = record {
      few = few-settings u t f;
      inside = omega (arith, long, used-inside);
      place = λ z. record { free = λ e. omega (arith, row-free u t f z e); there = λ e. oldest-there u t f z e };
      given = λ z. value-each u t f z;
      room = λ z e.
          let h : suc t.rows * t.count ≤ t.capacity * t.count = mul-le-mul_right t.count (row-free u t f z e) in
          omega (arith, long, mul_comm t.capacity t.count, suc-mul t.rows t.count);
    }

    rows_are : rows_in t.count t.rows area ≡ rows_before t start cells
    rows_are = rows-front t.count t.rows k (drop start cells) used-inside

    pub done : (r : Changed) (area' : List ℤ) → Promised u vs t.count t.rows area (is_full_ring t) t.oldest u.form r area'
        → (r ≡ change_of u t start cells vs) × (put_mid start k cells area' ≡ cells_after u t start cells vs)
    unfolding change_of cells_after
    done r area' h = (
      h.0
          ∙ ap (changed_of (is_full_ring t) t.oldest u.form u vs) rows_are
          ∙ sym (ap (λ (b : Bool). cond b (changed_of (is_full_ring t) t.oldest u.form u vs (rows_before t start cells)) (record { count = 0; rows = t.rows; oldest = t.oldest })) (both-fit a f)),
      ap (λ (x : List ℤ). put_mid start k cells x)
          (h.1 ∙ ap₂ (λ (n : ℕ) (rows : List Row). stored area n (laid (is_full_ring t) t.oldest u.form u vs rows)) (mul_comm t.rows t.count) rows_are)
          ∙ ap (λ (j : ℕ). put_mid start j cells (stored (take j (drop start cells)) (t.count * t.rows) (laid (is_full_ring t) t.oldest u.form u vs (rows_before t start cells)))) size
          ∙ sym (ap (λ (b : Bool). cond b (put_mid start (t.count * t.capacity) cells (stored (take (t.count * t.capacity) (drop start cells)) (t.count * t.rows) (laid (is_full_ring t) t.oldest u.form u vs (rows_before t start cells)))) cells) (both-fit a f)),
    )
