-- What `default` makes of the types of a statement: the empty ones of the definitions. Assumes nothing.
use Rattle.std.proofs.Common.{◌≡◌, refl, ap₂, List, [], ◌∷◌, ℕ, zero, suc, ◌<◌, length, get_or, replicate, false, pos, arith}
use Rattle.std.specs.Array.{AllOfLen}
use Rattle.statement.specs.declared.Name.{Name}
use Rattle.statement.specs.declared.Table.{Table}
use Rattle.statement.specs.declared.Comparison.{Comparison}
use Rattle.statement.specs.declared.Condition.{Condition}
use Rattle.statement.specs.declared.Query.{Query}
use Rattle.statement.specs.declared.Setting.{Setting}
use Rattle.statement.specs.declared.Update.{Update}
use Rattle.statement.specs.Compiled.{no_name, no_table, no_comparison, no_setting, condition_struct, no_query, no_update}

-- an array of n, each of which is d
all-default : {A : Type 0} {P : A → Type 0} (d : A) → ((x : A) → P x → x ≡ d) → (xs : List A) (n : ℕ) → AllOfLen P xs n → xs ≡ replicate n d
all-default {A} {P} d f xs n h = go xs n h.long h.at
  where
    go : (xs : List A) (n : ℕ) → length xs ≡ n → ((i : ℕ) (e : A) → i < n → P (get_or xs i e)) → xs ≡ replicate n d
    go [] zero l p = refl
    go [] (suc n) l p = absurd (omega (arith, l))
    go (x ∷ xs) zero l p = absurd (omega (arith, l))
    go (x ∷ xs) (suc n) l p = ap₂ ◌∷◌ (f x (p 0 d (omega arith))) (go xs n (omega (arith, l)) (λ i e h. p (suc i) e (omega (arith, h))))

zeros : (xs : List ℕ) (n : ℕ) → AllOfLen (λ (x : ℕ). x ≡ 0) xs n → xs ≡ replicate n 0
zeros = all-default 0 (λ x h. h)

-- what the derived `default` says of each type
abbrev EmptyName : Name → Type 0
EmptyName n = AllOfLen (λ (x : ℕ). x ≡ 0) n.bytes 12 × (n.len ≡ 0)

abbrev EmptyTable : Table → Type 0
EmptyTable t = EmptyName t.name × (AllOfLen EmptyName t.columns 8 × ((t.count ≡ 0) × ((t.capacity ≡ 0) × ((t.rows ≡ 0) × ((t.oldest ≡ 0) × (t.ring ≡ false))))))

abbrev EmptyComparison : Comparison → Type 0
EmptyComparison c = (c.op ≡ 0) × ((c.left ≡ 0) × ((c.right ≡ 0) × ((c.left_number ≡ pos 0) × (c.right_number ≡ pos 0))))

abbrev EmptyCondition : Condition → Type 0
EmptyCondition c = AllOfLen EmptyComparison c.comparisons 8 × (AllOfLen (λ (x : ℕ). x ≡ 0) c.steps 15 × (c.count ≡ 0))

abbrev EmptyQuery : Query → Type 0
EmptyQuery q =
    (q.table ≡ 0)
    × (AllOfLen (λ (x : ℕ). x ≡ 0) q.selected 8 × ((q.count ≡ 0) × ((q.parameters ≡ 0) × ((q.second ≡ 0) × ((q.start ≡ 0) × ((q.outer ≡ 0) × EmptyCondition q.condition))))))

abbrev EmptySetting : Setting → Type 0
EmptySetting s = (s.column ≡ 0) × ((s.mark ≡ 0) × (s.number ≡ pos 0))

abbrev EmptyUpdate : Update → Type 0
EmptyUpdate u = (u.form ≡ 0) × ((u.table ≡ 0) × (AllOfLen EmptySetting u.settings 8 × ((u.count ≡ 0) × ((u.parameters ≡ 0) × EmptyCondition u.condition))))

-- so it is the empty one
pub name-empty : (n : Name) → EmptyName n → n ≡ no_name
name-empty n h = λ j. record { bytes = zeros n.bytes 12 h.0 j; len = h.1 j }

pub table-empty : (t : Table) → EmptyTable t → t ≡ no_table
table-empty t h = λ j. record {
  name = name-empty t.name h.0 j;
  columns = all-default no_name name-empty t.columns 8 h.1.0 j;
  count = h.1.1.0 j;
  capacity = h.1.1.1.0 j;
  rows = h.1.1.1.1.0 j;
  oldest = h.1.1.1.1.1.0 j;
  ring = h.1.1.1.1.1.1 j;
}

pub comparison-empty : (c : Comparison) → EmptyComparison c → c ≡ no_comparison
comparison-empty c h = λ j. record { op = h.0 j; left = h.1.0 j; right = h.1.1.0 j; left_number = h.1.1.1.0 j; right_number = h.1.1.1.1 j }

pub condition-empty : (c : Condition) → EmptyCondition c → c ≡ condition_struct []
condition-empty c h = λ j. record { comparisons = all-default no_comparison comparison-empty c.comparisons 8 h.0 j; steps = zeros c.steps 15 h.1.0 j; count = h.1.1 j }

pub query-empty : (q : Query) → EmptyQuery q → q ≡ no_query
query-empty q h = λ j. record {
  table = h.0 j;
  selected = zeros q.selected 8 h.1.0 j;
  count = h.1.1.0 j;
  parameters = h.1.1.1.0 j;
  second = h.1.1.1.1.0 j;
  start = h.1.1.1.1.1.0 j;
  outer = h.1.1.1.1.1.1.0 j;
  condition = condition-empty q.condition h.1.1.1.1.1.1.1 j;
}

pub setting-empty : (s : Setting) → EmptySetting s → s ≡ no_setting
setting-empty s h = λ j. record { column = h.0 j; mark = h.1.0 j; number = h.1.1 j }

pub update-empty : (u : Update) → EmptyUpdate u → u ≡ no_update
update-empty u h = λ j. record {
  form = h.0 j;
  table = h.1.0 j;
  settings = all-default no_setting setting-empty u.settings 8 h.1.1.0 j;
  count = h.1.1.1.0 j;
  parameters = h.1.1.1.1.0 j;
  condition = condition-empty u.condition h.1.1.1.1.1 j;
}
