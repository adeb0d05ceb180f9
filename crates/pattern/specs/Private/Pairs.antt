-- The joint clauses of a query and an update one by one, as module `pairing` finds them. Assumes nothing: these are definitions.
use Rattle.std.specs.Prelude.{Option, Some, None, ◌≡◌, true, false, List, [], map, ℕ, zero, suc, ◌+◌, ◌*◌, ◌≤◌, length, get_or}
use Rattle.lists.specs.Lists.{pairs}
use Rattle.meaning.specs.Condition.{renamed}
use Rattle.meaning.specs.Pattern.{Clause}
use Rattle.statement.specs.declared.Query.{Query}
use Rattle.statement.specs.declared.Update.{Update}
use Rattle.statement.specs.Sound.{settings_read}
use Rattle.pattern.specs.Stored.{clauses_read, update_clauses, joint, all_any}
use Rattle.pattern.specs.Private.Masks.{Masked}
use Rattle.pattern.specs.Private.Flat.{operand_of}
use Rattle.pattern.specs.declared.joint.Role.{Role}
use Rattle.pattern.specs.declared.pairing.Pairing.{Pairing}

-- how many joint clauses f clauses of the query and g of the update make, by the update's form
abbrev pub total_of : ℕ → ℕ → ℕ → ℕ
total_of zero f g = f
total_of (suc zero) f g = g * f + g * f
total_of (suc (suc k)) f g = g * f

-- the clauses of the query, its operands in a role
abbrev pub role_clauses : Role → ℕ → Query → Update → List Clause
role_clauses role k q u = map (map (renamed (operand_of role k (settings_read u)))) (clauses_read q.condition)

-- clause i of the update's and the query's
abbrev pub pair_at : Role → ℕ → Query → Update → ℕ → Clause
pair_at role k q u i = get_or (pairs (update_clauses k u) (role_clauses role k q u)) i []

-- what is known where the clauses are worked out
pub record Worked (q : Query) (u : Update) (p : Pairing) : Type 0 where
  pub query_masked : Masked q.condition p.query
  pub update_masked : Masked u.condition p.update
  pub total_is : p.total ≡ length (joint q u)
  pub few : p.total ≤ 64

-- there are none, where they are not
abbrev pub Paired : Query → Update → Option Pairing → Type 0
Paired q u None = all_any q u ≡ true
Paired q u (Some p) = (all_any q u ≡ false) × Worked q u p
