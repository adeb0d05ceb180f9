-- Reading a stored condition: its steps, its comparisons, its operators, and the constants in it. Assumes nothing.
use mathlib.Core.Path.{◌≡◌, refl, sym, ap, ap₂}
use mathlib.Core.Bool.{Bool, true, ◌&&◌}
use mathlib.Core.List.{List, [], ◌∷◌, map}
use Prim.Native.Nat.{ℕ, zero, suc, ◌+◌, ◌*◌, ◌-◌, ◌<◌}
use native.Mathlib.Omega.{arith}
use borrow.Author.Tests.{ltb-true, lt-ltb}
use lib.Dec.{ltb}
use lib.ListN.{length}
use Rattle.lists.specs.Lists.{All, nil, cons, all}
use Rattle.lists.proofs.Bools.{and_left, and_right, and_both, clash}
use Rattle.meaning.specs.Condition as C
use Rattle.meaning.specs.Condition.{Where, always, under, sides, comparisons_in}
use Rattle.meaning.specs.Postfix.{Node, leaf, all_of, any_of, nodes_in, leaves, balanced_on, is_postfix}
use Rattle.meaning.specs.Resolve.{is_test}
use Rattle.meaning.proofs.Resolve.{operand_constants, are_tests}
use Rattle.meaning.specs.Limits.{is_within32}
use Rattle.meaning.specs.Statement as M
use Rattle.meaning.proofs.Postfix.{nodes-count}
use Rattle.statement.specs.Operators.{predicate_number}
use Rattle.statement.specs.Sound.{operand_read, comparison_read, nodes_read, OperandFits, ComparisonFits}
use Rattle.statement.specs.Compiled.{left_side, right_side, step_of}
use Rattle.statement.specs.declared.Operand.{Operand}
use Rattle.statement.specs.declared.Comparison.{Comparison}
use Rattle.statement.proofs.OperatorLaws.{predicate-few, predicate-number}
use Rattle.statement.proofs.ByKind.{by_kind}

-- ---- tests of all members, from what each has

pub all-of : {A : Type 0} (p : A → Bool) {l : List A} → All (λ x. p x ≡ true) l → all p l ≡ true
all-of p nil = refl
all-of p (cons {x = x} {xs = l} e h) = and_both (p x) (all p l) e (all-of p h)

pub all_map : {A B : Type 0} (f : A → B) (p : B → Bool) (l : List A) → all p (map f l) ≡ all (λ (x : A). p (f x)) l
all_map f p [] = refl
all_map f p (x ∷ l) = ap (λ b. p (f x) && b) (all_map f p l)

pub all_both : {A : Type 0} (p q : A → Bool) (l : List A) → all p l ≡ true → all q l ≡ true → all (λ (x : A). p x && q x) l ≡ true
all_both p q [] h k = refl
all_both p q (x ∷ l) h k =
    and_both (p x && q x) _ (and_both (p x) (q x) (and_left (p x) (all p l) h) (and_left (q x) (all q l) k))
    (all_both p q l (and_right (p x) (all p l) h) (and_right (q x) (all q l) k))

pub map-twice : {A B D : Type 0} (f : A → B) (g : B → D) (l : List A) → map g (map f l) ≡ map (λ (x : A). g (f x)) l
map-twice f g [] = refl
map-twice f g (x ∷ l) = ap (λ r. g (f x) ∷ r) (map-twice f g l)

-- ---- operators and steps by their numbers

pub steps-below : {O : Type 0} (ns : List (Node O)) → all (λ (s : ℕ). ltb s 3) (map step_of ns) ≡ true
steps-below [] = refl
steps-below (leaf c ∷ ns) = steps-below ns
steps-below (all_of ∷ ns) = steps-below ns
steps-below (any_of ∷ ns) = steps-below ns

pub operators-below : (cs : List (C.Comparison M.Operand)) → all (λ (k : ℕ). ltb k 8) (map (λ (c : C.Comparison M.Operand). predicate_number c.op) cs) ≡ true
operators-below [] = refl
operators-below (c ∷ cs) = and_both (ltb (predicate_number c.op) 8) _ (lt-ltb (predicate_number c.op) 8 (predicate-few c.op)) (operators-below cs)

-- ---- what is read

-- a node for each step
pub read_length : (ss : List ℕ) (cs : List Comparison) → length (nodes_read ss cs) ≡ length ss
read_length [] cs = refl
read_length (zero ∷ ss) [] = ap suc (read_length ss [])
read_length (zero ∷ ss) (c ∷ cs) = ap suc (read_length ss cs)
read_length (suc zero ∷ ss) cs = ap suc (read_length ss cs)
read_length (suc (suc k) ∷ ss) cs = ap suc (read_length ss cs)

pub read-steps : (ss : List ℕ) (cs : List Comparison) → all (λ (s : ℕ). ltb s 3) ss ≡ true → ss ≡ map step_of (nodes_read ss cs)
read-steps [] cs h = refl
read-steps (zero ∷ ss) [] h = ap (λ r. 0 ∷ r) (read-steps ss [] h)
read-steps (zero ∷ ss) (c ∷ cs) h = ap (λ r. 0 ∷ r) (read-steps ss cs h)
read-steps (suc zero ∷ ss) cs h = ap (λ r. 1 ∷ r) (read-steps ss cs h)
read-steps (suc (suc k) ∷ ss) cs h =
    let b : suc (suc k) < 3 = ltb-true (suc (suc k)) 3 (and_left (ltb (suc (suc k)) 3) (all (λ (s : ℕ). ltb s 3) ss) h) in
    ap₂ (λ s r. s ∷ r) (omega arith) (read-steps ss cs (and_right (ltb (suc (suc k)) 3) (all (λ (s : ℕ). ltb s 3) ss) h))

-- where there are as many leaves as comparisons, each is read once, in its order
pub read-leaves : (ss : List ℕ) (cs : List Comparison) → length (leaves (nodes_read ss cs)) ≡ length cs → leaves (nodes_read ss cs) ≡ map comparison_read cs
read-leaves [] [] h = refl
read-leaves [] (c ∷ cs) h = absurd (omega arith)
read-leaves (zero ∷ ss) [] h = absurd (omega arith)
read-leaves (zero ∷ ss) (c ∷ cs) h = ap (λ r. comparison_read c ∷ r) (read-leaves ss cs (omega arith))
read-leaves (suc zero ∷ ss) cs h = read-leaves ss cs h
read-leaves (suc (suc k) ∷ ss) cs h = read-leaves ss cs h

pub read-operators : (cs : List Comparison) → all (λ (c : Comparison). ltb c.op 8) cs ≡ true
    → map (λ (c : Comparison). c.op) cs ≡ map (λ (c : C.Comparison M.Operand). predicate_number c.op) (map comparison_read cs)
read-operators [] h = refl
read-operators (c ∷ cs) h =
    let b : c.op < 8 = ltb-true c.op 8 (and_left (ltb c.op 8) (all (λ (c : Comparison). ltb c.op 8) cs) h) in
    ap₂ (λ k r. k ∷ r) (sym (predicate-number c.op b)) (read-operators cs (and_right (ltb c.op 8) (all (λ (c : Comparison). ltb c.op 8) cs) h))

-- null tests are of columns
pub read-tests : (ss : List ℕ) (cs : List Comparison) → all (λ (c : Comparison). is_test (comparison_read c)) cs ≡ true → are_tests (nodes_read ss cs) ≡ true
read-tests [] cs h = refl
read-tests (zero ∷ ss) [] h = read-tests ss [] h
read-tests (zero ∷ ss) (c ∷ cs) h =
    and_both (is_test (comparison_read c)) _ (and_left (is_test (comparison_read c)) _ h) (read-tests ss cs (and_right (is_test (comparison_read c)) _ h))
read-tests (suc zero ∷ ss) cs h = read-tests ss cs h
read-tests (suc (suc k) ∷ ss) cs h = read-tests ss cs h

-- constants of comparisons that fit have 32 bits
operand-constants : (o : Operand) (os : List M.Operand) → OperandFits o → All (λ z. is_within32 z ≡ true) (operand_constants os)
    → All (λ z. is_within32 z ≡ true) (operand_constants (operand_read o ∷ os))
operand-constants o os f h = by_kind o (λ (p : M.Operand). All (λ z. is_within32 z ≡ true) (operand_constants (p ∷ os))) (cons f h) h h

pub read-constants : {cs : List Comparison} → All ComparisonFits cs → All (λ z. is_within32 z ≡ true) (operand_constants (sides (map comparison_read cs)))
read-constants nil = nil
read-constants (cons {x = c} {xs = cs} f h) =
    operand-constants (left_side c) (operand_read (right_side c) ∷ sides (map comparison_read cs)) f.0
    (operand-constants (right_side c) (sides (map comparison_read cs)) f.1 (read-constants h))

-- as many comparisons as the steps take
balanced-leaves : {O : Type 0} (k : ℕ) (ns : List (Node O)) → balanced_on k ns ≡ true → 2 * length (leaves ns) + k ≡ length ns + 1
balanced-leaves zero [] h = clash h refl
balanced-leaves (suc zero) [] h = omega arith
balanced-leaves (suc (suc k)) [] h = clash h refl
balanced-leaves k (leaf c ∷ ns) h = omega (arith, balanced-leaves (suc k) ns h)
balanced-leaves zero (all_of ∷ ns) h = clash h refl
balanced-leaves (suc zero) (all_of ∷ ns) h = clash h refl
balanced-leaves (suc (suc k)) (all_of ∷ ns) h = omega (arith, balanced-leaves (suc k) ns h)
balanced-leaves zero (any_of ∷ ns) h = clash h refl
balanced-leaves (suc zero) (any_of ∷ ns) h = clash h refl
balanced-leaves (suc (suc k)) (any_of ∷ ns) h = omega (arith, balanced-leaves (suc k) ns h)

pub postfix-leaves : {O : Type 0} (n : ℕ) (ns : List (Node O)) → is_postfix ns ≡ true → length ns ≡ 2 * n - 1 → length (leaves ns) ≡ n
postfix-leaves n [] h e = omega arith
postfix-leaves n (x ∷ ns) h e = omega (arith, balanced-leaves 0 (x ∷ ns) h)

-- 2n - 1 nodes for the n comparisons of a WHERE, none for none
pub where-count : {O : Type 0} (w : Where O) → length (nodes_in w) ≡ 2 * length (comparisons_in w) - 1
where-count always = refl
where-count (under c) = omega (arith, nodes-count true c)
