-- How the targets of a test are made, as the code takes it: at first each comparison leads straight to `met` or `unmet`; then the steps of the condition join what they
-- stand for, by leading the left part on to the right one. Assumes nothing: these are definitions.
use Rattle.std.specs.Prelude.{◌≡◌, ◌≢◌, Bool, true, cond, ◌&&◌, ◌||◌, List, [], ◌∷◌, ℕ, zero, suc, ◌+◌, ◌*◌, ◌-◌, ◌≤◌, ◌<◌, ltb, leb, eqb, length, get_or, set}
use Rattle.meaning.specs.Limits.{most_comparisons}
use Rattle.meaning.specs.Postfix.{top, joined}
use Rattle.statement.specs.declared.Order.{Order}
use Rattle.statement.specs.declared.Order.TheVariants.{Less, Equal, Greater, Unknown}
use Rattle.statement.specs.Operators.{predicate_at, truth_by}
use Rattle.table.specs.Tests.{met, target_place, arrives, Forward}
use Rattle.table.specs.Private.Testing.{unmet}

-- ---- one comparison by itself

abbrev pub exit : Bool → ℕ
exit b = cond b met unmet

-- the four targets of comparison i, by its operator: where the left side is less, equal and greater, and where a side is null
abbrev pub target_by : ℕ → Order → ℕ
target_by op order = exit (truth_by (predicate_at op) order)

abbrev pub target_put : List ℕ → ℕ → ℕ → Order → List ℕ
target_put l i op order = set l (4 * i + target_place order) (target_by op order)

abbrev pub targets_put : List ℕ → ℕ → ℕ → List ℕ
targets_put l i op = target_put (target_put (target_put (target_put l i op Less) i op Equal) i op Greater) i op Unknown

-- ---- steps

-- the stack after steps, where comparison `next` is the next: 0 the next comparison, 1 AND, else OR
abbrev pub run_at : (ℕ → Bool) → ℕ → List ℕ → List Bool → List Bool
run_at h next [] st = st
run_at h next (zero ∷ ss) st = run_at h (suc next) ss (h next ∷ st)
run_at h next (suc zero ∷ ss) st = run_at h next ss (joined ◌&&◌ st)
run_at h next (suc (suc k) ∷ ss) st = run_at h next ss (joined ◌||◌ st)

-- of n comparisons; one that is missing holds
abbrev pub held_of : ℕ → (ℕ → Bool) → ℕ → Bool
held_of n h i = cond (ltb i n) (h i) true

-- where comparison `next` of n begins; one that is missing is met
abbrev pub entry_of : ℕ → ℕ → ℕ
entry_of n next = cond (ltb next n) next met

-- which way out of its left part a step leads on to the right one: `met` for AND, `unmet` for OR
abbrev pub exit_of : ℕ → ℕ
exit_of step = cond (eqb step 1) met unmet

-- a target that led to `from` leads to b
abbrev pub led_on : ℕ → ℕ → ℕ → ℕ
led_on from b t = cond (eqb t from) b t

-- the targets of the comparisons from a up to b that led to `from` lead to b; others stay
abbrev pub redirected_at : ℕ → ℕ → ℕ → ℕ → ℕ → ℕ
redirected_at a b from j t = cond (leb (4 * a) j && (ltb j (4 * b) && eqb t from)) b t

abbrev pub Redirects : ℕ → ℕ → ℕ → List ℕ → List ℕ → Type 0
Redirects a b from l r = (length r ≡ length l) × ((j : ℕ) → j < length l → get_or r j 0 ≡ redirected_at a b from j (get_or l j 0))

-- one step: where parts of the condition begin is a stack, its top at `depth` - 1
pub data Links (n step next depth : ℕ) (starts targets : List ℕ) (depth' : ℕ) (starts' targets' : List ℕ) : Type 0 where
  pushed : step ≡ 0 → depth' ≡ suc depth → starts' ≡ set starts depth (entry_of n next) → targets' ≡ targets → Links n step next depth starts targets depth' starts' targets'
  emptied : step ≢ 0 → depth < 2 → depth' ≡ 0 → starts' ≡ starts → targets' ≡ targets → Links n step next depth starts targets depth' starts' targets'
  joins : step ≢ 0 → 2 ≤ depth → suc depth' ≡ depth → starts' ≡ starts → Redirects (get_or starts (depth - 2) 0) (get_or starts (depth - 1) 0) (exit_of step) targets targets'
      → Links n step next depth starts targets depth' starts' targets'

-- no start lies behind `met`
abbrev pub Starts : List ℕ → Type 0
Starts starts = (j : ℕ) → get_or starts j 0 ≤ met

-- the targets `t` of n comparisons became `r`, to be entered at `start`: whatever the order of each comparison's sides, one arrives where the steps in use say
pub record Linked (steps : List ℕ) (n : ℕ) (t r : List ℕ) (start : ℕ) : Type 0 where
  pub forward : Forward r
  pub arrives_at : (ord : ℕ → ℕ) (h : ℕ → Bool) → ((i : ℕ) → ord i ≤ 3) → ((i : ℕ) → i < n → get_or t (4 * i + ord i) 0 ≡ exit (h i))
      → arrives (λ (i : ℕ). get_or r (4 * i + ord i) 0) met start ≡ exit (top true (run_at (held_of n h) 0 steps []))

-- targets of comparisons that lead straight out
abbrev pub Unlinked : List ℕ → Type 0
Unlinked t = (length t ≡ 4 * most_comparisons) × ((j : ℕ) → j < 4 * most_comparisons → met ≤ get_or t j 0)
