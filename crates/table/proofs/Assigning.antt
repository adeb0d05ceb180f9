-- The row of an INSERT, value by value. The settings of an UPDATE keep a row's length.
-- Assumes nothing.
use Prim.Native.Nat.{ℕ, ◌+◌, ◌≤◌, ◌<◌}
use mathlib.Core.Path.{◌≡◌, refl, sym, ap, ◌∙◌}
use mathlib.Core.List.{List, [], ◌∷◌, map}
use native.Mathlib.Omega.{arith}
use lib.IntN.{ℤ}
use lib.ListN.{length, take, get_or, set, length-set, length-map, get_or-map}
use lib.Seq.{paste, length-take-le}
use Rattle.meaning.specs.Statement as M
use Rattle.meaning.specs.Meaning.{value_of, assigned}
use Rattle.statement.specs.declared.Setting.{Setting}
use Rattle.statement.specs.Compiled.{new_value}
use Rattle.statement.specs.Sound.{value_read, setting_read}
use Rattle.table.specs.Private.Changing.{row_of}
use Rattle.table.proofs.Copied.{pasted}

-- settings made on a row
abbrev pub made : List ℤ → List Setting → List ℤ → List ℤ
made vs ss row = assigned (map setting_read ss) vs row

-- the row of an INSERT, value by value
module _ (vs : List ℤ) where
  abbrev value_in : Setting → ℤ
  value_in s = value_of vs (value_read (new_value s))

  row_is : (ss : List Setting) → row_of ss vs ≡ map value_in ss
  row_is [] = refl
  row_is (s ∷ ss) = ap (λ (l : List ℤ). value_in s ∷ l) (row_is ss)

  module _ (settings : List Setting) (n : ℕ) where
    pub row-long : length settings ≡ 8 → n ≤ 8 → length (row_of (take n settings) vs) ≡ n
    row-long e h = ap length (row_is (take n settings)) ∙ length-map (take n settings) value_in ∙ length-take-le n settings (omega arith)

  pub row-wide : (ss : List Setting) → length (row_of ss vs) ≡ length ss
  row-wide ss = ap length (row_is ss) ∙ length-map ss value_in

  -- a value put at its place
  pub row-put : (ss : List Setting) (d : Setting) (i : ℕ) (row₀ row : List ℤ) (z : ℤ) → length row₀ ≡ length ss → i < length ss → row ≡ paste row₀ 0 (row_of ss vs) i
      → z ≡ value_in (get_or ss i d) → set row i z ≡ paste row₀ 0 (row_of ss vs) (i + 1)
  row-put ss d i row₀ row z el h er ez =
      let k : i ≡ 0 + i = omega arith in
      let n : length (row_of ss vs) ≡ length ss = ap length (row_is ss) ∙ length-map ss value_in in
      let v : z ≡ get_or (row_of ss vs) i (value_in d) = ez ∙ sym (ap (λ (l : List ℤ). get_or l i (value_in d)) (row_is ss) ∙ get_or-map value_in ss i d) in
      pasted row₀ 0 (row_of ss vs) i (value_in d) row i z (omega arith) (omega arith) er k v

-- settings keep a row's length
pub assigned-length : (ss : List (ℕ × M.Value)) (vs row : List ℤ) → length (assigned ss vs row) ≡ length row
assigned-length [] vs row = refl
assigned-length (s ∷ ss) vs row =
    assigned-length ss vs (set row s.0 (value_of vs s.1)) ∙ length-set row s.0 (value_of vs s.1)
