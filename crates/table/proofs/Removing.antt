-- A row's values as the settings of an INSERT, one after another, and the oldest row in its cells. Assumes nothing.
use Prim.Native.Nat.{ℕ, zero, suc, ◌+◌, ◌-◌, ◌≤◌, ◌<◌}
use mathlib.Core.Path.{◌≡◌, refl, sym, ap, ap₂, ◌∙◌}
use mathlib.Core.List.{List, [], ◌∷◌, ◌++◌, map}
use native.Mathlib.Omega.{arith}
use lib.IntN.{ℤ, pos}
use lib.ListN.{length, drop, get_or, set, replicate, length-replicate}
use lib.Seq.{paste, take_all}
use Rattle.lists.specs.Lists.{turned}
use Rattle.lists.proofs.Turned.{turned-past}
use Rattle.meaning.specs.Statement as M
use Rattle.meaning.specs.Meaning.{Row}
use Rattle.meaning.specs.Cells.{rows_in}
use Rattle.meaning.specs.Pattern.{placed_from}
use Rattle.statement.specs.declared.Condition.{Condition}
use Rattle.statement.specs.declared.Setting.{Setting}
use Rattle.statement.specs.declared.Table.{Table}
use Rattle.statement.specs.Compiled.{no_setting, setting_struct, no_update}
use Rattle.table.specs.Evaluated.{rows_paired}
use Rattle.table.specs.Private.Scanned.{rows_of}
use Rattle.table.specs.Changed.{oldest_row, removal_of}
use Rattle.table.specs.Private.Changing.{constants_of}
use Rattle.table.specs.declared.area.Rows.{Rows}
use Rattle.table.proofs.Copied.{pasted}

-- ---- settings

-- the settings of the values r from column i on
abbrev pub settings_from : ℕ → Row → List Setting
settings_from i r = map setting_struct (placed_from i (map M.constant r))

settings-long : (i : ℕ) (r : Row) → length (settings_from i r) ≡ length r
settings-long i [] = refl
settings-long i (z ∷ r) = ap suc (settings-long (suc i) r)

placed-long : (i : ℕ) (r : Row) → length (placed_from i (map M.constant r)) ≡ length r
placed-long i [] = refl
placed-long i (z ∷ r) = ap suc (placed-long (suc i) r)

settings-at : (i j : ℕ) (r : Row) → j < length r → get_or (settings_from i r) j no_setting ≡ record { column = i + j; mark = 0; number = get_or r j (pos 0) }
settings-at i j [] h = absurd (omega arith)
settings-at i zero (z ∷ r) h =
    let e : i ≡ i + 0 = omega arith in
    ap (λ (k : ℕ). record { column = k; mark = 0; number = z }) e
settings-at i (suc j) (z ∷ r) h =
    let e : suc i + j ≡ i + suc j = omega arith in
    settings-at (suc i) j r (omega arith) ∙ ap (λ (k : ℕ). record { column = k; mark = 0; number = get_or r j (pos 0) }) e

drop-same : (k n : ℕ) → drop k (replicate n no_setting) ≡ replicate (n - k) no_setting
drop-same zero n =
    let e : n ≡ n - 0 = omega arith in
    ap (λ (m : ℕ). replicate m no_setting) e
drop-same (suc k) zero =
    let e : 0 ≡ 0 - suc k = omega arith in
    ap (λ (m : ℕ). replicate m no_setting) e
drop-same (suc k) (suc n) =
    let e : n - k ≡ suc n - suc k = omega arith in
    drop-same k n ∙ ap (λ (m : ℕ). replicate m no_setting) e

-- i settings are written
abbrev pub Writes : List Setting → Row → ℕ → List Setting → Type 0
Writes list row i l = (length l ≡ 8) × (l ≡ paste list 0 (settings_from 0 row) i)

module _ (list : List Setting) (row : Row) (e : list ≡ replicate 8 no_setting) (h : length row ≤ 8) where
  list-long : length list ≡ 8
  list-long = ap length e ∙ length-replicate 8 no_setting

  pub writes-turn : (i : ℕ) (l : List Setting) (s : Setting) → i < length row → l ≡ paste list 0 (settings_from 0 row) i → s ≡ record { column = i; mark = 0; number = get_or row i (pos 0) }
      → set l i s ≡ paste list 0 (settings_from 0 row) (i + 1)
  writes-turn i l s k el es =
      let z : 0 + i ≡ i = omega arith in
      let c : s ≡ get_or (settings_from 0 row) i no_setting = es ∙ ap (λ (j : ℕ). record { column = j; mark = 0; number = get_or row i (pos 0) }) (sym z) ∙ sym (settings-at 0 i row k) in
      pasted list 0 (settings_from 0 row) i no_setting l i s (omega (arith, list-long)) (omega (arith, settings-long 0 row)) el (sym z) c

  pub writes-done : (i : ℕ) (l : List Setting) → i ≡ length row → l ≡ paste list 0 (settings_from 0 row) i → l ≡ constants_of row
  writes-done i l n el =
      let s : List Setting = settings_from 0 row in
      let m : length row ≡ length s = sym (settings-long 0 row) in
      let z : 0 + length row ≡ length row = omega arith in
      el
      ∙ ap (paste list 0 s) n
      ∙ ap₂ (λ (a b : List Setting). a ++ b) (take_all (length row) s (omega (arith, m))) (ap (λ (k : ℕ). drop k list) z ∙ ap (drop (length row)) e ∙ drop-same (length row) 8 ∙ ap (λ (k : ℕ). replicate (8 - k) no_setting) m)

-- ---- the oldest row

turned_none : (k : ℕ) → turned {A = Row} k [] ≡ []
turned_none k = turned-past k [] (omega arith)

module _ (t : Table) (start : ℕ) (cells : List ℤ) (r : Rows) (R : rows_of r ≡ rows_paired t start cells) where
  pub oldest-there : (row : Row) → row ≡ get_or (rows_of r) 0 [] → row ≡ oldest_row t start cells
  oldest-there row e = e ∙ ap (λ (rs : List Row). get_or rs 0 []) R

  pub oldest-none : r.count ≡ 0 → [] ≡ oldest_row t start cells
  oldest-none e = sym (ap (λ (rs : List Row). get_or rs 0 []) (sym R ∙ ap (λ (n : ℕ). turned r.oldest (rows_in r.width n r.cells.now)) e ∙ turned_none r.oldest))

-- its values as the settings of an INSERT
pub removes : (t : Table) (start : ℕ) (cells : List ℤ) (row : Row) → row ≡ oldest_row t start cells → (n : ℕ) (settings : List Setting) → settings ≡ constants_of row → (w : ℕ) → w ≡ length row
    → (c : Condition) → c ≡ no_update.condition → record { form = 0; table = n; settings = settings; count = w; parameters = 0; condition = c } ≡ removal_of n t start cells
unfolding removal_of
removes t start cells row e n settings es w ew c ec =
    let m : w ≡ length (placed_from 0 (map M.constant (oldest_row t start cells))) = ew ∙ ap length e ∙ sym (placed-long 0 (oldest_row t start cells)) in
    (λ i. record { form = 0; table = n; settings = (es ∙ ap constants_of e) i; count = m i; parameters = 0; condition = ec i })
