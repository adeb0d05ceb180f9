-- What every operand of a stored query and a stored update has, every operand of their joint clauses has; and the pattern of a clause can be told by its least codes.
-- Assumes nothing.
use Rattle.std.specs.Prelude.{Some, None}
use mathlib.Core.Bool.{Bool, true, false, cond}
use mathlib.Core.List.{List, [], ◌∷◌, map}
use mathlib.Core.Path.{◌≡◌, refl, sym, ap, ◌∙◌}
use Prim.Native.Nat.{ℕ, zero, suc, ◌-◌, ◌/◌, ◌<◌}
use native.Mathlib.Omega.{arith}
use lib.Dec.{eqb}
use lib.IntN.{pos}
use Rattle.lists.specs.Lists.{All, nil, cons, from}
use Rattle.lists.proofs.Lists.{All-map, All-append, All-image, All-pairs, map_same}
use Rattle.lists.proofs.Moved.{from-below}
use Rattle.meaning.specs.Condition as C
use Rattle.meaning.specs.Condition.{sides, renamed}
use Rattle.meaning.specs.Postfix.{leaves}
use Rattle.meaning.specs.Statement as M
use Rattle.meaning.specs.Pattern as P
use Rattle.meaning.specs.Pattern.{Joint, column, constant, of_value, of_update, of_query, set_column, moved, placed_from, replacing, Clause, contradictory, pattern}
use Rattle.meaning.proofs.Postfix.{clauses-have, sides-have}
use Rattle.statement.specs.declared.Operand.{Operand}
use Rattle.statement.proofs.ByKind.{by_kind}
use Rattle.statement.specs.declared.Comparison.{Comparison}
use Rattle.statement.specs.declared.Condition.{Condition}
use Rattle.statement.specs.declared.Query.{Query}
use Rattle.statement.specs.declared.Setting.{Setting}
use Rattle.statement.specs.declared.Update.{Update}
use Rattle.statement.specs.Compiled.{left_side, right_side, new_value}
use Rattle.statement.specs.Sound.{value_read, operand_read, comparison_read, no_comparison, nodes_read, used_comparisons, used_steps, condition_nodes, used_settings, setting_read, settings_read}
use Rattle.statement.specs.SoundTest.{setting_values}
use Rattle.pattern.specs.Stored.{clauses_read, query_clauses, both_clauses, joint_clauses, pattern_struct, clause_pattern}
use Rattle.pattern.specs.Private.Least.{coded, contradicts, least_entry}
use Rattle.pattern.proofs.OperandCodes.{Fits}
use Rattle.pattern.proofs.Least.{least-contradicts, least-entry}

-- both operands of a comparison
abbrev pub Both : {O : Type 0} → (O → Type 0) → C.Comparison O → Type 0
Both P c = P c.left × P c.right

abbrev pub BothSides : (Operand → Type 0) → Comparison → Type 0
BothSides P c = P (left_side c) × P (right_side c)

-- ---- a stored condition

module _ {P : C.Comparison M.Operand → Type 0} (none : P no_comparison) where
  read-have : (ss : List ℕ) {cs : List Comparison} → All (λ (c : Comparison). P (comparison_read c)) cs → All P (leaves (nodes_read ss cs))
  read-have [] h = nil
  read-have (zero ∷ ss) nil = cons none (read-have ss nil)
  read-have (zero ∷ ss) (cons p h) = cons p (read-have ss h)
  read-have (suc zero ∷ ss) h = read-have ss h
  read-have (suc (suc k) ∷ ss) h = read-have ss h

  clauses-read : (c : Condition) → All (λ (k : Comparison). P (comparison_read k)) (used_comparisons c) → All (All P) (clauses_read c)
  unfolding clauses_read condition_nodes
  clauses-read c h = clauses-have (condition_nodes c) (read-have (used_steps c) h)

-- ---- the joint clauses

module _ (P : Joint → Type 0) (none : P (constant (pos 0))) where
  renamed-have : (f : M.Operand → Joint) → P (f (M.value (M.constant (pos 0)))) → (c : Condition)
      → All (BothSides (λ (o : Operand). P (f (operand_read o)))) (used_comparisons c) → All (All (Both P)) (map (map (renamed f)) (clauses_read c))
  renamed-have f p c h =
      All-image (map (renamed f)) (All-map (λ cs. All-image (renamed f)) (clauses-read {P = λ (k : C.Comparison M.Operand). P (f k.left) × P (f k.right)} (p, p) c h))

  query-operand : (f : ℕ → Joint) → ((i : ℕ) → P (column i) → P (f i)) → (o : Operand) → P (of_query column (operand_read o)) → P (of_query f (operand_read o))
  query-operand f g o = by_kind o (λ (x : M.Operand). P (of_query column x) → P (of_query f x)) (λ p. p) (λ p. p) (g (o.code / 2 - 1))

  set-has : {ss : List (ℕ × M.Value)} → All (λ (s : ℕ × M.Value). P (of_value s.1)) ss → (i : ℕ) (x : Joint) → P x → P (set_column ss i x)
  set-has nil i x p = p
  set-has (cons {x = s} q h) i x p = set-has h i (cond (eqb i s.0) (of_value s.1) x) (go (eqb i s.0))
    where
      go : (b : Bool) → P (cond b (of_value s.1) x)
      go true = q
      go false = p

  -- inserted values, and settings some columns on
  placed-have : {vs : List M.Value} → All (λ (v : M.Value). P (of_value v)) vs → (k : ℕ) → All (λ (s : ℕ × M.Value). P (of_value s.1)) (placed_from k vs)
  placed-have nil k = nil
  placed-have (cons p h) k = cons p (placed-have h (suc k))

  moved-have : {ss : List (ℕ × M.Value)} → All (λ (s : ℕ × M.Value). P (of_value s.1)) ss → (k : ℕ) → All (λ (s : ℕ × M.Value). P (of_value s.1)) (moved k ss)
  moved-have nil k = nil
  moved-have (cons p h) k = cons p (moved-have h k)

  module _ (q : Query) (u : Update) (k : ℕ)
      (hq : All (BothSides (λ (o : Operand). P (of_query column (operand_read o)))) (used_comparisons q.condition))
      (hu : All (BothSides (λ (o : Operand). P (of_update k (operand_read o)))) (used_comparisons u.condition))
      (hs : All (λ (s : Setting). P (of_value (value_read (new_value s)))) (used_settings u)) where
    query-have : (f : ℕ → Joint) → ((i : ℕ) → P (column i) → P (f i)) → All (All (Both P)) (query_clauses f q)
    query-have f g =
        renamed-have (of_query f) none q.condition
        (All-map (λ c p. (query-operand f g (left_side c) p.0, query-operand f g (right_side c) p.1)) hq)

    both-have : (f : ℕ → Joint) → ((i : ℕ) → P (column i) → P (f i)) → All (All (Both P)) (both_clauses k u f q)
    both-have f g = All-pairs (renamed-have (of_update k) none u.condition hu) (query-have f g)

    settings-have : All (λ (s : ℕ × M.Value). P (of_value s.1)) (settings_read u)
    settings-have = All-image setting_read hs

    values-have : All (λ (v : M.Value). P (of_value v)) (setting_values u)
    values-have = All-image (λ (s : ℕ × M.Value). s.1) settings-have

    clauses-by : (form : ℕ) → All (All (Both P)) (joint_clauses k form q u)
    unfolding joint_clauses
    clauses-by zero = query-have (replacing (placed_from k (setting_values u))) (λ i p. set-has (placed-have values-have k) i (column i) p)
    clauses-by (suc zero) =
        All-append (both-have column (λ i p. p)) (both-have (replacing (moved k (settings_read u))) (λ i p. set-has (moved-have settings-have k) i (column i) p))
    clauses-by (suc (suc f)) = both-have column (λ i p. p)

    pub joint-have : All (λ (cs : Clause). All P (sides cs)) (joint_clauses k u.form q u)
    joint-have = All-map (λ cs. sides-have) (clauses-by u.form)

-- ---- the pattern of a clause, by the least codes

pub least-pattern : (n : ℕ) → n < 65535 → (cs : Clause) → All Fits (sides cs)
    → clause_pattern n cs ≡ cond (contradicts (coded cs)) None (Some (pattern_struct (map (least_entry (coded cs)) (from 1 n))))
least-pattern n small cs fit =
    go (contradictory cs) refl ∙ ap (λ (b : Bool). cond b None (Some (pattern_struct (map (least_entry (coded cs)) (from 1 n))))) (sym (least-contradicts cs fit))
  where
    go : (b : Bool) → contradictory cs ≡ b
        → cond b None (Some (pattern_struct (pattern n cs))) ≡ cond b None (Some (pattern_struct (map (least_entry (coded cs)) (from 1 n))))
    go true e = refl
    go false e =
        ap (λ (es : P.Pattern). Some (pattern_struct es)) (map_same (least_entry (coded cs)) (All-map (λ k h. sym (least-entry cs fit k (omega arith) e)) (from-below 1 n)))
