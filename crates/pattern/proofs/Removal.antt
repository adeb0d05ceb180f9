-- The stored form of a row that a ring pushes out: an INSERT of constants, which agrees with `removal`. So its stored patterns are those of the row. Assumes nothing.
use mathlib.Core.Path.{◌≡◌, refl, ap, ◌∙◌}
use mathlib.Core.List.{List, [], ◌∷◌, map}
use Prim.Native.Nat.{ℕ, suc}
use lib.ListN.{length, length-map}
use lib.Seq.{take_at}
use Rattle.meaning.specs.Statement as M
use Rattle.meaning.specs.Statement.{constant}
use Rattle.meaning.specs.Meaning.{Row}
use Rattle.meaning.specs.Pattern.{placed_from, removal}
use Rattle.statement.specs.declared.Update.{Update}
use Rattle.statement.specs.Compiled.{update_struct, setting_struct}
use Rattle.statement.specs.Sound.{setting_read, settings_read, condition_nodes, AgreesUpdate}

abbrev places : ℕ → Row → List (ℕ × M.Value)
places i r = placed_from i (map constant r)

places-back : (i : ℕ) (r : Row) → map setting_read (map setting_struct (places i r)) ≡ places i r
places-back i [] = refl
places-back i (z ∷ r) = ap (λ (l : List (ℕ × M.Value)). (i, constant z) ∷ l) (places-back (suc i) r)

module _ (t : ℕ) (r : Row) where
  abbrev u : Update
  u = update_struct (removal t r)

  settings-back : settings_read u ≡ places 0 r
  settings-back =
      ap (map setting_read)
      (take_at (map setting_struct (places 0 r)) _ (length (places 0 r)) (length-map (places 0 r) setting_struct))
      ∙ places-back 0 r

  pub removal-agrees : AgreesUpdate u (removal t r)
  unfolding condition_nodes
  removal-agrees = record {
    form_is = refl;
    table_is = refl;
    count_is = refl;
    settings_are = settings-back;
    parameters_are = refl;
    condition_is = record { count_is = refl; steps_are = refl; operators_are = refl; nodes_are = refl };
  }
