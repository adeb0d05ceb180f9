-- Rule 2 column by column, as module `relevance` looks for them: whether a column that the query selects or tests is among those that an UPDATE sets, k columns on (A.1).
-- Assumes nothing: these are definitions.
use Rattle.std.specs.Prelude.{Bool, false, ◌||◌, List, ℕ, eqb}
use Rattle.lists.specs.Lists.{any, count}
use Rattle.meaning.specs.Condition.{Comparison}
use Rattle.meaning.specs.Statement as M
use Rattle.statement.specs.declared.Query.{Query}
use Rattle.statement.specs.declared.Update.{Update}
use Rattle.statement.specs.Sound.{settings_read}
use Rattle.meaning.specs.Pattern.{moved}
use Rattle.pattern.specs.Stored.{columns_used}

abbrev pub is_among : List ℕ → ℕ → Bool
is_among columns i = any (λ (j : ℕ). eqb j i) columns

abbrev pub names_any : List ℕ → M.Operand → Bool
names_any columns (M.column i) = is_among columns i
names_any columns (M.value v) = false

-- whether a comparison has such a column
abbrev pub tests_any : List ℕ → Comparison M.Operand → Bool
tests_any columns c = names_any columns c.left || names_any columns c.right

-- how many steps take a comparison
abbrev pub comparison_steps : List ℕ → ℕ
comparison_steps ss = count (λ (s : ℕ). eqb s 0) ss

unfoldable pub sets_used : ℕ → Query → Update → Bool
sets_used k q u = any (λ (s : ℕ × M.Value). any (eqb s.0) (columns_used q)) (moved k (settings_read u))
