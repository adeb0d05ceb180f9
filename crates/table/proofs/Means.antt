-- What stored questions list is what `Meaning` says of the sentences that they agree with. Assumes nothing.
use mathlib.Core.Path.{◌≡◌, ap₂}
use mathlib.Core.Bool.{Bool}
use mathlib.Core.List.{List, map}
use Prim.Native.Nat.{ℕ}
use lib.IntN.{ℤ}
use lib.ListN.{length}
use Rattle.lists.specs.Lists.{keep}
use Rattle.meaning.specs.Statement as M
use Rattle.meaning.specs.Meaning.{Row, cell, operand_value, meets_where, answer}
use Rattle.meaning.specs.Condition.{Where}
use Rattle.meaning.specs.Record.{encode}
use Rattle.statement.specs.Sound.{AgreesCondition, AgreesQuery}
use Rattle.statement.specs.declared.Condition.{Condition}
use Rattle.statement.specs.declared.Query.{Query}
use Rattle.statement.proofs.SoundCondition.{agrees-truth}
use Rattle.table.specs.Rows.{meets_stored, answer_stored, record_stored}

-- a row meets a stored condition exactly if it meets the WHERE that the condition agrees with
pub meets-where : (c : Condition) (w : Where M.Operand) → AgreesCondition c w → (vs : List ℤ) (r : Row) → meets_stored c vs r ≡ meets_where w vs r
unfolding meets_stored
meets-where c w A vs r = agrees-truth c w A (operand_value r vs)

module _ (q : Query) (q' : M.Query) (A : AgreesQuery q q') (vs : List ℤ) (rows : List Row) where
  -- a stored question lists what its sentence asks for
  pub answer-means : answer_stored q vs rows ≡ answer q' vs rows
  unfolding answer_stored answer
  answer-means =
      ap₂ (λ (p : Row → Bool) (cs : List ℕ). map (λ (r : Row). map (cell r) cs) (keep p rows))
      (λ i r. meets-where q.condition q'.condition A.condition_is vs r i) A.selected_are

  -- and its record is that of the sentence's answer
  pub record-means : record_stored q vs rows ≡ encode (length q'.selected) (answer q' vs rows)
  record-means = ap₂ (λ (cs : List ℕ) (rs : List Row). encode (length cs) rs) A.selected_are answer-means
