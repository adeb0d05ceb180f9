-- Comparisons with their values filled in, as module `filled` writes them: an operand with its value, AND and OR exchanged, and where A.7 decides. Assumes nothing.
use mathlib.Core.Path.{◌≡◌, refl, sym, ap, ap₂, subst, ◌∙◌}
use mathlib.Core.Bool.{Bool, true, false, not, ◌&&◌, ◌||◌, cond, true≢false, false≢true}
use mathlib.Core.List.{List, [], ◌∷◌, ◌++◌, map}
use Prim.Native.Nat.{ℕ, zero, suc, ◌+◌, ◌-◌, ◌*◌}
use native.Mathlib.Omega.{arith}
use lib.Dec.{eqb, leb, ltb}
use lib.IntN.{ℤ}
use lib.ListN.{length, take, length-map}
use Rattle.lists.specs.Lists.{All, all, pairs}
use Rattle.lists.proofs.Bools.{and_assoc}
use Rattle.lists.proofs.Lists.{All-map, map-take}
use Rattle.meaning.specs.Exact.{with_columns}
use Rattle.meaning.specs.Condition as C
use Rattle.meaning.specs.Meaning.{value_of}
use Rattle.meaning.specs.Pattern.{Joint, column, of_value, set_column, moved, placed_from, replacing}
use Rattle.meaning.specs.Postfix.{Node, leaf, all_of, any_of, top, run_on, clauses_of_nodes, leaves, balanced_on, is_postfix}
use Rattle.meaning.specs.Statement as M
use Rattle.statement.specs.declared.Comparison.{Comparison}
use Rattle.statement.specs.declared.Condition.{Condition}
use Rattle.statement.specs.declared.Query.{Query}
use Rattle.statement.specs.declared.Setting.{Setting}
use Rattle.statement.specs.declared.Update.{Update}
use Rattle.statement.specs.Sound.{comparison_read, no_comparison as none, nodes_read, used_comparisons, used_steps, condition_nodes, setting_read, used_settings, settings_read}
use Rattle.pattern.specs.declared.masks.Clauses.{Clauses}
use Rattle.pattern.specs.declared.joint.Role.{Role}
use Rattle.pattern.specs.declared.joint.Role.TheVariants.{Given, Asked, Inserted, Set}
use Rattle.pattern.specs.Private.Masks.{select, comparisons_read, Masked}
use Rattle.pattern.specs.Private.Flat.{values_of, operand_of}
use Rattle.pattern.specs.Stored.{clauses_read, is_formed, is_plain, plain_condition, separate_stored}
use Rattle.pattern.specs.Private.Literals.{set_operand, role_operand, exchanged, clauses_not, exchanged_step, exchanged_of, NotMasked, alike_stored}
use Rattle.pattern.specs.Private.Deciding.{filled_joint, IsApart, Separated}
use Rattle.pattern.proofs.Formed.{balanced-nodes, formed-some, formed-few}
use Rattle.pattern.proofs.Plain.{formed-leaves, plain-formed, plain-leaves, plain-separate}

-- ---- an operand with its value

module _ (us qs : List ℤ) where
  value-filled : (v : M.Value) → M.value (M.constant (value_of us v)) ≡ filled_joint us qs (of_value v)
  value-filled (M.constant z) = refl
  value-filled (M.parameter k) = refl

  set-filled : (ss : List (ℕ × M.Value)) (i : ℕ) (x : Joint) → set_operand ss us i (filled_joint us qs x) ≡ filled_joint us qs (set_column ss i x)
  set-filled [] i x = refl
  set-filled (s ∷ ss) i x = ap (set_operand ss us i) (go (eqb i s.0)) ∙ set-filled ss i (cond (eqb i s.0) (of_value s.1) x)
    where
      go : (b : Bool) → cond b (M.value (M.constant (value_of us s.1))) (filled_joint us qs x) ≡ filled_joint us qs (cond b (of_value s.1) x)
      go true = value-filled s.1
      go false = refl

  moved_none : (ss : List (ℕ × M.Value)) → moved 0 ss ≡ ss
  moved_none [] = refl
  moved_none (s ∷ ss) = let z : 0 + s.0 ≡ s.0 = omega arith in ap₂ (λ (i : ℕ) (l : List (ℕ × M.Value)). (i, s.1) ∷ l) z (moved_none ss)

  pub operand-filled : (r : Role) (ss : List (ℕ × M.Value)) (o : M.Operand) → filled_joint us qs (operand_of r 0 ss o) ≡ role_operand r ss us qs o
  operand-filled Given ss (M.column i) = let z : 0 + i ≡ i = omega arith in ap M.column z
  operand-filled Given ss (M.value (M.constant z)) = refl
  operand-filled Given ss (M.value (M.parameter k)) = refl
  operand-filled Asked ss (M.column i) = refl
  operand-filled Asked ss (M.value (M.constant z)) = refl
  operand-filled Asked ss (M.value (M.parameter k)) = refl
  operand-filled Inserted ss (M.column i) = sym (set-filled (placed_from 0 (values_of ss)) i (column i))
  operand-filled Inserted ss (M.value (M.constant z)) = refl
  operand-filled Inserted ss (M.value (M.parameter k)) = refl
  operand-filled Set ss (M.column i) = ap (λ (l : List (ℕ × M.Value)). filled_joint us qs (replacing l i)) (moved_none ss) ∙ sym (set-filled ss i (column i))
  operand-filled Set ss (M.value (M.constant z)) = refl
  operand-filled Set ss (M.value (M.parameter k)) = refl

-- ---- AND and OR exchanged

exchanged-nodes : (ss : List ℕ) (cs : List Comparison) → nodes_read (map exchanged_step ss) cs ≡ map exchanged (nodes_read ss cs)
exchanged-nodes [] cs = refl
exchanged-nodes (zero ∷ ss) [] = ap (λ (l : List (Node M.Operand)). leaf none ∷ l) (exchanged-nodes ss [])
exchanged-nodes (zero ∷ ss) (c ∷ cs) = ap (λ (l : List (Node M.Operand)). leaf (comparison_read c) ∷ l) (exchanged-nodes ss cs)
exchanged-nodes (suc zero ∷ ss) cs = ap (λ (l : List (Node M.Operand)). any_of ∷ l) (exchanged-nodes ss cs)
exchanged-nodes (suc (suc k) ∷ ss) cs = ap (λ (l : List (Node M.Operand)). all_of ∷ l) (exchanged-nodes ss cs)

module _ {O : Type 0} where
  exchanged-balanced : (k : ℕ) (ns : List (Node O)) → balanced_on k (map exchanged ns) ≡ balanced_on k ns
  exchanged-balanced zero [] = refl
  exchanged-balanced (suc zero) [] = refl
  exchanged-balanced (suc (suc k)) [] = refl
  exchanged-balanced k (leaf c ∷ ns) = exchanged-balanced (suc k) ns
  exchanged-balanced zero (all_of ∷ ns) = refl
  exchanged-balanced (suc zero) (all_of ∷ ns) = refl
  exchanged-balanced (suc (suc k)) (all_of ∷ ns) = exchanged-balanced (suc k) ns
  exchanged-balanced zero (any_of ∷ ns) = refl
  exchanged-balanced (suc zero) (any_of ∷ ns) = refl
  exchanged-balanced (suc (suc k)) (any_of ∷ ns) = exchanged-balanced (suc k) ns

  exchanged-postfix : (ns : List (Node O)) → is_postfix (map exchanged ns) ≡ is_postfix ns
  exchanged-postfix [] = refl
  exchanged-postfix (leaf c ∷ ns) = exchanged-balanced 1 ns
  exchanged-postfix (all_of ∷ ns) = refl
  exchanged-postfix (any_of ∷ ns) = refl

  -- a value is left
  module _ {A : Type 0} (one : C.Comparison O → A) (all any : A → A → A) (d e : A) where
    top_left : (ns : List (Node O)) (st : List A) → balanced_on (length st) ns ≡ true → top d (run_on one all any ns st) ≡ top e (run_on one all any ns st)
    top_left [] [] h = absurd (false≢true h)
    top_left [] (a ∷ st) h = refl
    top_left (leaf c ∷ ns) st h = top_left ns (one c ∷ st) h
    top_left (all_of ∷ ns) [] h = absurd (false≢true h)
    top_left (all_of ∷ ns) (b ∷ []) h = absurd (false≢true h)
    top_left (all_of ∷ ns) (b ∷ a ∷ st) h = top_left ns (all a b ∷ st) h
    top_left (any_of ∷ ns) [] h = absurd (false≢true h)
    top_left (any_of ∷ ns) (b ∷ []) h = absurd (false≢true h)
    top_left (any_of ∷ ns) (b ∷ a ∷ st) h = top_left ns (any a b ∷ st) h

module _ (c : Condition) where
  nodes-exchanged : condition_nodes (exchanged_of c) ≡ map exchanged (condition_nodes c)
  unfolding condition_nodes
  nodes-exchanged =
      ap (λ (ss : List ℕ). nodes_read ss (used_comparisons c)) (sym (map-take exchanged_step (2 * c.count - 1) c.steps))
      ∙ exchanged-nodes (used_steps c) (used_comparisons c)

  pub exchanged-formed : is_formed c ≡ true → is_formed (exchanged_of c) ≡ true
  unfolding is_formed
  exchanged-formed h = ap (λ (b : Bool). leb c.count 8 && b) (ap is_postfix nodes-exchanged ∙ exchanged-postfix (condition_nodes c)) ∙ h

  pub not_none : c.count ≡ 0 → (r : Clauses) → r.count ≡ 0 → length r.masks ≡ 18 → NotMasked c r
  unfolding condition_nodes
  not_none e r ec el = record {
    few = omega arith;
    long = el;
    clauses_are = ap (λ (n : ℕ). clauses_not (nodes_read (take (2 * n - 1) c.steps) (take n c.comparisons))) e
        ∙ sym (ap (λ (n : ℕ). map (select (comparisons_read c)) (take n r.masks)) ec);
  }

  module _ (h : is_formed c ≡ true) (sl : length c.steps ≡ 15) where
    nodes-balanced : (c.count ≡ 0 → ⊥) → balanced_on 0 (condition_nodes c) ≡ true
    unfolding condition_nodes
    nodes-balanced ne = balanced-nodes 0 (used_steps c) (used_comparisons c) ∙ sym (formed-some c sl (formed-few c h) ne) ∙ h

    pub not_some : (c.count ≡ 0 → ⊥) → (r : Clauses) → Masked (exchanged_of c) r → NotMasked c r
    unfolding clauses_read
    not_some ne r m = record {
      few = m.few;
      long = m.long;
      clauses_are = top_left (λ (x : C.Comparison M.Operand). (x ∷ []) ∷ []) pairs ◌++◌ [] ([] ∷ []) (map exchanged (condition_nodes c)) [] (exchanged-balanced 0 (condition_nodes c) ∙ nodes-balanced ne)
          ∙ ap clauses_of_nodes (sym nodes-exchanged) ∙ m.clauses_are;
    }

-- ---- where A.7 decides

module _ (c : Condition) (sl : length c.steps ≡ 15) (cl : length c.comparisons ≡ 8) (n : ℕ) where
  pub plain-read : is_formed c ≡ true → plain_condition n c ≡ all (is_plain n) (comparisons_read c)
  plain-read h = ap₂ ◌&&◌ h (ap (all (is_plain n)) (formed-leaves c h sl cl))

  pub plain-apart : plain_condition n c ≡ true → IsApart c
  plain-apart h = record {
    formed = plain-formed n c h;
    apart = subst (All (λ (k : C.Comparison M.Operand). with_columns k ≡ false)) (formed-leaves c (plain-formed n c h) sl cl)
        (All-map (λ k p. plain-separate n k p) (plain-leaves n c h));
  }

pub plain-unformed : (n : ℕ) (c : Condition) → is_formed c ≡ false → plain_condition n c ≡ false
plain-unformed n c h = ap (λ (b : Bool). b && all (is_plain n) (leaves (condition_nodes c))) h

-- ---- a query and an update

module _ (n : ℕ) (q : Query) (u : Update) where
  pub alike-is : (w : ℕ) (ss : List Setting) → w ≡ n → ss ≡ used_settings u
      → ((eqb q.second 0 && eqb q.table u.table) && (ltb 0 n && (not (eqb u.form 0) || leb w (length ss)))) ≡ alike_stored n q u
  unfolding alike_stored
  alike-is w ss e f =
      ap₂ (λ (i j : ℕ). (eqb q.second 0 && eqb q.table u.table) && (ltb 0 n && (not (eqb u.form 0) || leb i j))) e
      (ap length f ∙ sym (length-map (used_settings u) setting_read))

  separate-parts : separate_stored n q u ≡ (alike_stored n q u && (plain_condition n q.condition && plain_condition n u.condition))
  unfolding separate_stored alike_stored
  separate-parts =
      and_assoc (eqb q.second 0 && eqb q.table u.table) (ltb 0 n && (not (eqb u.form 0) || leb n (length (settings_read u))))
      (plain_condition n q.condition && plain_condition n u.condition)

  pub separate-other : alike_stored n q u ≡ false → separate_stored n q u ≡ false
  separate-other a = separate-parts ∙ ap (λ (b : Bool). b && (plain_condition n q.condition && plain_condition n u.condition)) a

  pub separate-query : alike_stored n q u ≡ true → plain_condition n q.condition ≡ false → separate_stored n q u ≡ false
  separate-query a b = separate-parts ∙ ap₂ (λ (x y : Bool). x && (y && plain_condition n u.condition)) a b

  pub separate-both : alike_stored n q u ≡ true → plain_condition n q.condition ≡ true → separate_stored n q u ≡ plain_condition n u.condition
  separate-both a b = separate-parts ∙ ap₂ (λ (x y : Bool). x && (y && plain_condition n u.condition)) a b

  -- what is found of conditions that compare no two columns
  pub separate-found : (b : Bool) → b ≡ separate_stored n q u → IsApart q.condition → IsApart u.condition → b ≡ true → Separated n q u
  separate-found b e f g h = record { separate = sym e ∙ h; asked = f; given = g }

-- nothing is found
pub none-found : {P : Type 0} (b : Bool) → b ≡ false → b ≡ true → P
none-found b e h = absurd (true≢false (sym h ∙ e))
