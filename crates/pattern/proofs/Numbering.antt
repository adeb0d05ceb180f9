-- The numbers of operands, as the code finds them: constants, question marks, columns, and what VALUES and SET give for a column. Assumes nothing.
use mathlib.Core.Path.{◌≡◌, refl, sym, ap, ap₂, subst, ◌∙◌}
use mathlib.Core.Bool.{Bool, cond}
use mathlib.Core.List.{List, [], ◌∷◌, map}
use Prim.Native.Nat.{ℕ, zero, suc, ◌+◌, ◌-◌, ◌≤◌, ◌<◌}
use native.Mathlib.Numerals.{add-one}
use native.Mathlib.Omega.{arith}
use lib.Dec.{eqb}
use lib.IntN.{pos}
use borrow.Author.Tests.{eq-eqb, ne_eqb}
use lib.ListN.{length, drop, get_or, length-map}
use lib.Seq.{drop-cons}
use Rattle.meaning.specs.Statement as M
use Rattle.meaning.specs.Pattern.{Joint, column, constant, asked, given, of_value, set_column, moved, placed_from, replacing}
use Rattle.statement.specs.declared.Setting.{Setting}
use Rattle.statement.specs.Compiled.{new_value}
use Rattle.statement.specs.Sound.{value_read, setting_read}
use Rattle.pattern.specs.Private.Least.{columns_from}
use Rattle.pattern.specs.Private.Flat.{values_of, Coding, SetOnce, Readable}
use Rattle.pattern.proofs.OperandCodes.{constant-below}
use Rattle.pattern.proofs.Mapped.{get_or-map-in}

-- ---- numbers that are computed

pub column-coding : (i n : ℕ) → i < 512 → n ≡ columns_from + i → Coding (column i) n
column-coding i n h e = record { is = e; narrow = h }

-- ---- VALUES and SET

-- inserted values from column k on: the columns before them and behind them stay, and column k + j is the value j
placed_below : (vs : List M.Value) (k i : ℕ) (x : Joint) → i < k → set_column (placed_from k vs) i x ≡ x
placed_below [] k i x h = refl
placed_below (v ∷ vs) k i x h =
    ap (λ (b : Bool). set_column (placed_from (suc k) vs) i (cond b (of_value v) x)) (ne_eqb i k (λ e. omega arith)) ∙ placed_below vs (suc k) i x (omega arith)

placed_past : (vs : List M.Value) (k i : ℕ) (x : Joint) → k + length vs ≤ i → set_column (placed_from k vs) i x ≡ x
placed_past [] k i x h = refl
placed_past (v ∷ vs) k i x h =
    ap (λ (b : Bool). set_column (placed_from (suc k) vs) i (cond b (of_value v) x)) (ne_eqb i k (λ e. omega arith)) ∙ placed_past vs (suc k) i x (omega arith)

placed-there : (vs : List M.Value) (k j i : ℕ) (x : Joint) → i ≡ k + j → j < length vs → set_column (placed_from k vs) i x ≡ of_value (get_or vs j (M.constant (pos 0)))
placed-there [] k j i x e h = absurd (omega arith)
placed-there (v ∷ vs) k zero i x e h =
    ap (λ (b : Bool). set_column (placed_from (suc k) vs) i (cond b (of_value v) x)) (eq-eqb i k (omega arith)) ∙ placed_below vs (suc k) i (of_value v) (omega arith)
placed-there (v ∷ vs) k (suc j) i x e h = placed-there vs (suc k) j i (cond (eqb i k) (of_value v) x) (omega arith) (omega arith)

module _ (settings : List Setting) where
  abbrev ss : List (ℕ × M.Value)
  ss = map setting_read settings

  -- what the first i settings make of a column
  pub record Setting-on (k j code i : ℕ) : Type 0 where
    pub now_is : Joint
    pub coding : Coding now_is code
    pub left : set_column (moved k (drop i ss)) j now_is ≡ replacing (moved k ss) j

  pub set-start : (k j code : ℕ) → j < 256 → code ≡ columns_from + j → Setting-on k j code 0
  set-start k j code h e = record { now_is = column j; coding = column-coding j code (omega arith) e; left = refl }

  pub inserted_below : (k i r : ℕ) → i < k → i < 256 → r ≡ columns_from + i → Coding (replacing (placed_from k (values_of ss)) i) r
  inserted_below k i r h l e = subst (λ (x : Joint). Coding x r) (sym (placed_below (values_of ss) k i (column i) h)) (column-coding i r (omega arith) e)

  values_length : length (values_of ss) ≡ length settings
  values_length = length-map ss (λ (s : ℕ × M.Value). s.1) ∙ length-map settings setting_read

  pub inserted-there : (k j r : ℕ) (d : Setting) → k ≤ j → j - k < length settings → Coding (of_value (value_read (new_value (get_or settings (j - k) d)))) r
      → Coding (replacing (placed_from k (values_of ss)) j) r
  inserted-there k j r d l h c =
      let i : ℕ = j - k in
      let e : get_or (values_of ss) i (M.constant (pos 0)) ≡ value_read (new_value (get_or settings i d)) =
      get_or-map-in (λ (s : ℕ × M.Value). s.1) ss i (setting_read d) (M.constant (pos 0)) (omega (arith, length-map settings setting_read))
      ∙ ap (λ (s : ℕ × M.Value). s.1) (get_or-map-in setting_read settings i d (setting_read d) (omega arith)) in
      subst (λ (x : Joint). Coding x r)
      (sym (placed-there (values_of ss) k (j - k) j (column j) (omega arith) (omega (arith, values_length)) ∙ ap of_value e)) c

  pub inserted-past : (k j r : ℕ) → k ≤ j → length settings ≤ j - k → j < 256 → r ≡ columns_from + j → Coding (replacing (placed_from k (values_of ss)) j) r
  inserted-past k j r l h f e =
      subst (λ (x : Joint). Coding x r) (sym (placed_past (values_of ss) k j (column j) (omega (arith, values_length)))) (column-coding j r (omega arith) e)

  ss-next : (i : ℕ) (d : Setting) → i < length settings → drop i ss ≡ setting_read (get_or settings i d) ∷ drop (i + 1) ss
  ss-next i d h =
      drop-cons ss i (setting_read d) (omega (arith, length-map settings setting_read))
      ∙ ap₂ (λ (x : ℕ × M.Value) (k : ℕ). x ∷ drop k ss)
      (get_or-map-in setting_read settings i d (setting_read d) (omega arith)) (sym (add-one i))

  pub set_more : (k j code code' i : ℕ) (d : Setting) → i < length settings → SetOnce (get_or settings i d) k j code code' → Setting-on k j code i → Setting-on k j code' (i + 1)
  set_more k j code code' i d h S T = record {
    now_is = cond (eqb j (k + (get_or settings i d).column)) (of_value (value_read (new_value (get_or settings i d)))) T.now_is;
    coding = S.follows T.now_is T.coding;
    left = sym (ap (λ (l : List (ℕ × M.Value)). set_column (moved k l) j T.now_is) (ss-next i d h)) ∙ T.left;
  }

-- ---- their numbers can be read

pub coding-readable : (x : Joint) (n : ℕ) → Coding x n → Readable n
coding-readable (column i) n c = record { some = λ e. omega (arith, c.is); few = λ h. omega (arith, c.is) }
coding-readable (constant z) n c = let h = constant-below z c.narrow in record { some = λ e. omega (arith, c.is); few = λ l. omega (arith, c.is) }
coding-readable (asked k) n c = record { some = λ e. omega (arith, c.is); few = λ h. omega (arith, c.is) }
coding-readable (given k) n c = record { some = λ e. omega (arith, c.is, c.narrow.0); few = λ h. omega (arith, c.is, c.narrow.1) }
