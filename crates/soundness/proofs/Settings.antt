-- Settings by the number of the next parameter, and what they say of an update of each form. Assumes nothing.
use mathlib.Core.Path.{◌≡◌, refl, sym, ap, ap₂, ◌∙◌}
use mathlib.Core.Bool.{Bool, true, false, not, cond, ◌&&◌, ◌||◌}
use mathlib.Core.List.{List, [], ◌∷◌, map}
use Prim.Native.Nat.{ℕ, zero, suc, ◌+◌, ◌≤◌}
use native.Mathlib.Numerals.{add-one}
use native.Mathlib.Omega.{arith}
use borrow.Author.Tests.{eqb-true, ne_eqb}
use lib.Dec.{eqb, ltb}
use lib.ListN.{length, take}
use Rattle.std.specs.Prelude.{Option, Some, None}
use lib.Seq.{length-take-le}
use Rattle.lists.specs.Lists.{any, all, repeats, from}
use Rattle.lists.specs.Tests.{eq_list}
use Rattle.lists.proofs.Bools.{and_assoc, and_left, and_right, clash}
use Rattle.meaning.specs.Statement as M
use Rattle.meaning.specs.Statement.{value}
use Rattle.meaning.specs.Resolve.{mark_in_operand, parameter_count, is_numbered, numbered_on}
use Rattle.statement.specs.Private.Built.{mark_in_value}
use Rattle.statement.specs.Compiled.{new_value}
use Rattle.statement.specs.Sound.{value_read, setting_read, used_settings}
use Rattle.statement.specs.SoundTest.{setting_columns, setting_operands, sound_form, sound_condition_on, sound_update_on}
use Rattle.statement.specs.declared.Setting.{Setting}
use Rattle.statement.specs.declared.Update.{Update}
use Rattle.soundness.specs.Private.Parts.{some_if, same_column, form_fits, column_fits, setting_fits, settings_fit, setting_marks, settings_on}
use Rattle.soundness.proofs.Tests.{interchange, counted}

-- ---- settings as they are read

abbrev columns_read : List Setting → List ℕ
columns_read ss = map (λ (s : ℕ × M.Value). s.0) (map setting_read ss)

abbrev operands_read : List Setting → List M.Operand
operands_read ss = map value (map (λ (s : ℕ × M.Value). s.1) (map setting_read ss))

marks_are : (ss : List Setting) → setting_marks ss ≡ parameter_count (operands_read ss)
marks_are [] = refl
marks_are (s ∷ ss) = ap (λ (n : ℕ). mark_in_value (new_value s) + n) (marks_are ss)

repeats-columns : (ss : List Setting) → repeats same_column ss ≡ repeats eqb (columns_read ss)
repeats-columns [] = refl
repeats-columns (s ∷ ss) = ap₂ ◌||◌ (go ss) (repeats-columns ss)
  where
    go : (ts : List Setting) → any (same_column s) ts ≡ any (eqb s.column) (columns_read ts)
    go [] = refl
    go (t ∷ ts) = ap (λ (b : Bool). eqb s.column t.column || b) (go ts)

module _ (form columns : ℕ) where
  abbrev columns_fit : ℕ → List Setting → Bool
  columns_fit i [] = true
  columns_fit i (s ∷ ss) = column_fits form columns i s.column && columns_fit (i + 1) ss

  fit_is : (i m : ℕ) (ss : List Setting) → settings_fit form columns i m ss ≡ (columns_fit i ss && numbered_on m (operands_read ss))
  fit_is i m [] = refl
  fit_is i m (s ∷ ss) =
      ap (λ (b : Bool). setting_fits form columns i m s && b) (fit_is (i + 1) (m + mark_in_value (new_value s)) ss)
      ∙ interchange (column_fits form columns i s.column) (is_numbered m (value (value_read (new_value s))))
      (columns_fit (i + 1) ss) (numbered_on (m + mark_in_operand (value (value_read (new_value s)))) (operands_read ss))

columns-insert : (columns i : ℕ) (ss : List Setting) → columns_fit 0 columns i ss ≡ eq_list eqb (columns_read ss) (from i (length ss))
columns-insert columns i [] = refl
columns-insert columns i (s ∷ ss) =
    ap (λ (b : Bool). eqb s.column i && b) (columns-insert columns (i + 1) ss ∙ ap (λ (k : ℕ). eq_list eqb (columns_read ss) (from k (length ss))) (add-one i))

columns-below : (form columns i : ℕ) (ss : List Setting) → (form ≡ 0 → ⊥) → columns_fit form columns i ss ≡ all (λ (i : ℕ). ltb i columns) (columns_read ss)
columns-below form columns i [] h = refl
columns-below form columns i (s ∷ ss) h =
    ap₂ ◌&&◌ (ap (λ (b : Bool). cond b (eqb s.column i) (ltb s.column columns)) (ne_eqb form 0 h)) (columns-below form columns (i + 1) ss h)

-- ---- an update

module _ (columns : ℕ) (u : Update) where
  abbrev ss : List Setting
  ss = used_settings u

  abbrev formed : ℕ → Bool
  formed k = form_fits k u.count columns u.condition.count

  -- the settings of the form k, which the code looks at
  abbrev distinct : ℕ → Bool
  distinct k = not (eqb k 1) || not (repeats same_column ss)

  form-none : (k : ℕ) → 3 ≤ k → formed k ≡ false
  form-none k h = rw (ne_eqb k 0 (λ e. omega arith), ne_eqb k 1 (λ e. omega arith), ne_eqb k 2 (λ e. omega arith))

  module _ (few : columns ≤ 8) (eight : length u.settings ≡ 8) where
    form-yes : (k : ℕ) → formed k ≡ true → (columns_fit k columns 0 ss && distinct k) ≡ sound_form k columns u
    form-yes zero h =
        let a : eqb u.count columns ≡ true = and_left (eqb u.count columns) _ h in
        let b : eqb u.condition.count 0 ≡ true = and_right (eqb u.count columns) _ h in
        let many : length ss ≡ u.count = length-take-le u.count u.settings (omega (arith, eqb-true u.count columns a)) in
        let places : columns_fit 0 columns 0 ss ≡ eq_list eqb (setting_columns u) (from 0 u.count) =
        columns-insert columns 0 ss ∙ ap (λ (n : ℕ). eq_list eqb (setting_columns u) (from 0 n)) many in
        ap (λ (t : Bool). t && true) places
        ∙ ap₂ (λ (s t : Bool). s && (eq_list eqb (setting_columns u) (from 0 u.count) && t)) (sym a) (sym b)
    form-yes (suc zero) h =
        ap₂ (λ (s t : Bool). s && not t) (columns-below 1 columns 0 ss (λ e. omega arith)) (repeats-columns ss)
        ∙ counted u.count true (all (λ (i : ℕ). ltb i columns) (setting_columns u) && not (repeats eqb (setting_columns u))) h
    form-yes (suc (suc zero)) h =
        ap (λ (n : ℕ). columns_fit 2 columns 0 (take n u.settings) && true) (eqb-true u.count 0 h) ∙ sym h
    form-yes (suc (suc (suc k))) h = clash h (form-none (suc (suc (suc k))) (omega arith))

    update-yes : formed u.form ≡ true
        → ((settings_fit u.form columns 0 0 ss && distinct u.form) && sound_condition_on columns (setting_marks ss) u.parameters u.condition) ≡ sound_update_on columns u
    update-yes h =
        let c : ℕ → Bool = λ k. sound_condition_on columns k u.parameters u.condition in
        let f : Bool = columns_fit u.form columns 0 ss in
        let n : Bool = numbered_on 0 (setting_operands u) in
        let d : Bool = distinct u.form in
        ap₂ (λ (t : Bool) (k : ℕ). (t && d) && c k) (fit_is u.form columns 0 0 ss) (marks_are ss)
        ∙ sym (and_assoc (f && n) d (c (parameter_count (setting_operands u))))
        ∙ interchange f n d (c (parameter_count (setting_operands u)))
        ∙ ap (λ (t : Bool). t && (n && c (parameter_count (setting_operands u)))) (form-yes u.form h)

    -- by what its parts tell
    update-told : formed u.form ≡ true → (k : ℕ) → Some k ≡ settings_on u.form columns ss
        → (distinct u.form && sound_condition_on columns k u.parameters u.condition) ≡ sound_update_on columns u
    update-told h k e = go (settings_fit u.form columns 0 0 ss) refl e
      where
        go : (b : Bool) → settings_fit u.form columns 0 0 ss ≡ b → Some k ≡ some_if b (setting_marks ss)
            → (distinct u.form && sound_condition_on columns k u.parameters u.condition) ≡ sound_update_on columns u
        go true f e =
            let q : k ≡ setting_marks ss = cc in
            ap (λ (n : ℕ). distinct u.form && sound_condition_on columns n u.parameters u.condition) q
            ∙ ap (λ (b : Bool). (b && distinct u.form) && sound_condition_on columns (setting_marks ss) u.parameters u.condition) (sym f)
            ∙ update-yes h
        go false f e = absurd (let q : ⊥ = cc in q)

    update-unsettled : formed u.form ≡ true → None ≡ settings_on u.form columns ss → false ≡ sound_update_on columns u
    update-unsettled h e = go (settings_fit u.form columns 0 0 ss) refl e
      where
        go : (b : Bool) → settings_fit u.form columns 0 0 ss ≡ b → None ≡ some_if b (setting_marks ss) → false ≡ sound_update_on columns u
        go true f e = absurd (let q : ⊥ = cc in q)
        go false f e =
            ap (λ (b : Bool). (b && distinct u.form) && sound_condition_on columns (setting_marks ss) u.parameters u.condition) (sym f) ∙ update-yes h

    -- by the number behind the settings l, if there is one
    pub update-by : formed u.form ≡ true → (l : List Setting) → l ≡ ss → (r : Bool) → (o : Option ℕ) → o ≡ settings_on u.form columns l
        → (o ≡ None → r ≡ false)
        → ((k : ℕ) → o ≡ Some k → r ≡ ((not (eqb u.form 1) || not (repeats same_column l)) && sound_condition_on columns k u.parameters u.condition))
        → r ≡ sound_update_on columns u
    update-by h l q r None e none some = none refl ∙ update-unsettled h (e ∙ ap (settings_on u.form columns) q)
    update-by h l q r (Some k) e none some =
        some k refl
        ∙ ap (λ (l : List Setting). (not (eqb u.form 1) || not (repeats same_column l)) && sound_condition_on columns k u.parameters u.condition) q
        ∙ update-told h k (e ∙ ap (settings_on u.form columns) q)
