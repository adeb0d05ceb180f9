-- Conditions without NOT in postfix order: run on a stack they give a condition's truth and its clauses; what is in them, and how many nodes they are; and
-- which lists of nodes they are. Assumes nothing.
use mathlib.Core.Path.{◌≡◌, refl, sym, ap, ap₂, ◌∙◌}
use mathlib.Core.Logic.{◌↔◌}
use mathlib.Core.Bool.{Bool, true, false, not, ◌&&◌, ◌||◌, cond}
use mathlib.Core.List.{List, [], ◌∷◌, ◌++◌, append-nil}
use Prim.Native.Nat.{ℕ, suc, ◌*◌, ◌≤◌}
use native.Mathlib.Omega.{arith}
use lib.IntN.{ℤ}
use lib.ListN.{length, length-append}
use Rattle.lists.specs.Lists.{All, nil, cons, pairs}
use Rattle.lists.proofs.Lists.{All-head, All-tail, All-append, All-pairs}
use Rattle.lists.proofs.Stacks.{regroup}
use Rattle.meaning.specs.Operator.{is_true, compared}
use Rattle.meaning.specs.Condition.{Comparison, Level, atom, conjunction, disjunction, Condition, compare, negate, group, alone, both, single, either, Where, always, under, comparisons, sides, comparisons_in, operands_in, holds, eval, eval_where, clauses, clauses_of}
use Rattle.meaning.specs.Postfix.{Node, leaf, all_of, any_of, top, joined, signed, join_all, join_any, nodes, nodes_in, leaves, step_on, run_on, truth_of, clauses_of_nodes, balanced_on, is_postfix}
use Rattle.meaning.proofs.Clauses.{opposite_negates, polar, true-not, true-and, true-or}

-- ---- run on a stack

module _ {O A : Type 0} (one : Comparison O → A) (all any : A → A → A) where
  -- a value of conditions (true) and of their negations (false) that is made of the parts' values as the nodes say
  pub record Folds (value : (l : Level) → Bool → Condition O l → A) : Type 0 where
    pub at_compare : (p : Bool) (c : Comparison O) → value atom p (compare c) ≡ one (signed p c)
    pub at_negate : (p : Bool) (c : Condition O atom) → value atom p (negate c) ≡ value atom (not p) c
    pub at_group : (p : Bool) (c : Condition O disjunction) → value atom p (group c) ≡ value disjunction p c
    pub at_alone : (p : Bool) (c : Condition O atom) → value conjunction p (alone c) ≡ value atom p c
    pub at_both : (p : Bool) (c : Condition O atom) (d : Condition O conjunction)
        → value conjunction p (both c d) ≡ cond p all any (value atom p c) (value conjunction p d)
    pub at_single : (p : Bool) (c : Condition O conjunction) → value disjunction p (single c) ≡ value conjunction p c
    pub at_either : (p : Bool) (c : Condition O conjunction) (d : Condition O disjunction)
        → value disjunction p (either c d) ≡ cond p any all (value conjunction p c) (value disjunction p d)

  step-all : (p : Bool) (a b : A) (st : List A) → step_on one all any (join_all p) (b ∷ a ∷ st) ≡ cond p all any a b ∷ st
  step-all true a b st = refl
  step-all false a b st = refl

  step-any : (p : Bool) (a b : A) (st : List A) → step_on one all any (join_any p) (b ∷ a ∷ st) ≡ cond p any all a b ∷ st
  step-any true a b st = refl
  step-any false a b st = refl

  abbrev run : List (Node O) → List A → List A
  run = run_on one all any

  -- two sides and what joins them
  run-joined : (xs ys rest : List (Node O)) (j : Node O) (st : List A) (a b r : A) → ((more : List (Node O)) (st : List A) → run (xs ++ more) st ≡ run more (a ∷ st))
      → ((more : List (Node O)) (st : List A) → run (ys ++ more) st ≡ run more (b ∷ st)) → step_on one all any j (b ∷ a ∷ st) ≡ r ∷ st
      → run (xs ++ (ys ++ (j ∷ [])) ++ rest) st ≡ run rest (r ∷ st)
  run-joined xs ys rest j st a b r hx hy h =
      ap (λ ns. run ns st) (regroup xs ys j rest) ∙ hx (ys ++ (j ∷ rest)) st ∙ hy (j ∷ rest) (a ∷ st) ∙ ap (run rest) h

  module _ (value : (l : Level) → Bool → Condition O l → A) (F : Folds value) where
    -- the nodes of a condition put its value on the stack
    pub run-nodes : {l : Level} (p : Bool) (c : Condition O l) (rest : List (Node O)) (st : List A)
        → run_on one all any (nodes p c ++ rest) st ≡ run_on one all any rest (value l p c ∷ st)
    run-nodes p (compare c) rest st = ap (λ a. run rest (a ∷ st)) (sym (F.at_compare p c))
    run-nodes p (negate c) rest st = run-nodes (not p) c rest st ∙ ap (λ a. run rest (a ∷ st)) (sym (F.at_negate p c))
    run-nodes p (group c) rest st = run-nodes p c rest st ∙ ap (λ a. run rest (a ∷ st)) (sym (F.at_group p c))
    run-nodes p (alone c) rest st = run-nodes p c rest st ∙ ap (λ a. run rest (a ∷ st)) (sym (F.at_alone p c))
    run-nodes p (both c d) rest st =
        run-joined (nodes p c) (nodes p d) rest (join_all p) st (value atom p c) (value conjunction p d) (value conjunction p (both c d))
        (λ more s. run-nodes p c more s) (λ more s. run-nodes p d more s)
        (step-all p (value atom p c) (value conjunction p d) st ∙ ap (λ a. a ∷ st) (sym (F.at_both p c d)))
    run-nodes p (single c) rest st = run-nodes p c rest st ∙ ap (λ a. run rest (a ∷ st)) (sym (F.at_single p c))
    run-nodes p (either c d) rest st =
        run-joined (nodes p c) (nodes p d) rest (join_any p) st (value conjunction p c) (value disjunction p d) (value disjunction p (either c d))
        (λ more s. run-nodes p c more s) (λ more s. run-nodes p d more s)
        (step-any p (value conjunction p c) (value disjunction p d) st ∙ ap (λ a. a ∷ st) (sym (F.at_either p c d)))

    -- so it is what lies on top after them
    pub top-nodes : {l : Level} (p : Bool) (c : Condition O l) (d : A) → top d (run_on one all any (nodes p c) []) ≡ value l p c
    top-nodes p c d = ap (λ ns. top d (run ns [])) (sym (append-nil (nodes p c))) ∙ ap (top d) (run-nodes p c [] [])

-- ---- truth

module _ {O : Type 0} where
  holds-signed : (v : O → ℤ) (p : Bool) (c : Comparison O) → is_true (polar p (compared c.op (v c.left) (v c.right))) ≡ holds v (signed p c)
  holds-signed v true c = refl
  holds-signed v false c = ap is_true (sym (opposite_negates c.op (v c.left) (v c.right)))

  pub truth-folds : (v : O → ℤ) → Folds (holds v) ◌&&◌ ◌||◌ (λ l p c. is_true (polar p (eval v c)))
  truth-folds v =
      record {
        at_compare = holds-signed v;
        at_negate = λ p c. true-not p (eval v c);
        at_group = λ p c. refl;
        at_alone = λ p c. refl;
        at_both = λ p c d. true-and p (eval v c) (eval v d);
        at_single = λ p c. refl;
        at_either = λ p c d. true-or p (eval v c) (eval v d);
      }

  -- the nodes of a condition are true exactly where it is
  pub truth-postfix : (v : O → ℤ) (w : Where O) → truth_of v (nodes_in w) ≡ eval_where v w
  truth-postfix v always = refl
  truth-postfix v (under c) = top-nodes (holds v) ◌&&◌ ◌||◌ (λ l p c. is_true (polar p (eval v c))) (truth-folds v) true c true

  -- ---- clauses

  abbrev alternatives : Comparison O → List (List (Comparison O))
  alternatives c = (c ∷ []) ∷ []

  pub clauses-folds : Folds alternatives pairs ◌++◌ (λ l p c. clauses p c)
  clauses-folds =
      record {
        at_compare = elim [ true ↦ λ c. refl | false ↦ λ c. refl ];
        at_negate = elim [ true ↦ λ c. refl | false ↦ λ c. refl ];
        at_group = elim [ true ↦ λ c. refl | false ↦ λ c. refl ];
        at_alone = elim [ true ↦ λ c. refl | false ↦ λ c. refl ];
        at_both = elim [ true ↦ λ c d. refl | false ↦ λ c d. refl ];
        at_single = elim [ true ↦ λ c. refl | false ↦ λ c. refl ];
        at_either = elim [ true ↦ λ c d. refl | false ↦ λ c d. refl ];
      }

  -- the nodes of a condition have its clauses, in their order
  pub clauses-postfix : (w : Where O) → clauses_of_nodes (nodes_in w) ≡ clauses_of w
  clauses-postfix always = refl
  clauses-postfix (under c) = top-nodes alternatives pairs ◌++◌ (λ l p c. clauses p c) clauses-folds true c ([] ∷ [])

  -- what every comparison of the nodes has, every comparison of their clauses has
  module _ {P : Comparison O → Type 0} where
    joined-have : {f : List (List (Comparison O)) → List (List (Comparison O)) → List (List (Comparison O))}
        → ((a b : List (List (Comparison O))) → All (All P) a → All (All P) b → All (All P) (f a b))
        → {st : List (List (List (Comparison O)))} → All (All (All P)) st → All (All (All P)) (joined f st)
    joined-have g nil = nil
    joined-have g (cons b nil) = nil
    joined-have g (cons {x = b} q (cons {x = a} p h)) = cons (g a b p q) h

    run-have : (ns : List (Node O)) → All P (leaves ns) → {st : List (List (List (Comparison O)))} → All (All (All P)) st
        → All (All (All P)) (run_on alternatives pairs ◌++◌ ns st)
    run-have [] p h = h
    run-have (leaf c ∷ ns) p h = run-have ns (All-tail p) (cons (cons (cons (All-head p) nil) nil) h)
    run-have (all_of ∷ ns) p h = run-have ns p (joined-have (λ a b. All-pairs) h)
    run-have (any_of ∷ ns) p h = run-have ns p (joined-have (λ a b. All-append) h)

    pub clauses-have : (ns : List (Node O)) → All P (leaves ns) → All (All P) (clauses_of_nodes ns)
    clauses-have ns p = go (run-have ns p nil)
      where
        go : {st : List (List (List (Comparison O)))} → All (All (All P)) st → All (All P) (top ([] ∷ []) st)
        go nil = cons nil nil
        go (cons b h) = b

  -- ---- what is in them

  -- the comparisons of c, in the text's order, each signed by the NOTs around it: p for those around c
  abbrev pub signed_in : {l : Level} → Bool → Condition O l → List (Comparison O)
  signed_in p (compare c) = signed p c ∷ []
  signed_in p (negate c) = signed_in (not p) c
  signed_in p (group c) = signed_in p c
  signed_in p (alone c) = signed_in p c
  signed_in p (both c d) = signed_in p c ++ signed_in p d
  signed_in p (single c) = signed_in p c
  signed_in p (either c d) = signed_in p c ++ signed_in p d

  pub leaves-append : (ns ms : List (Node O)) → leaves (ns ++ ms) ≡ leaves ns ++ leaves ms
  leaves-append [] ms = refl
  leaves-append (leaf c ∷ ns) ms = ap (λ r. c ∷ r) (leaves-append ns ms)
  leaves-append (all_of ∷ ns) ms = leaves-append ns ms
  leaves-append (any_of ∷ ns) ms = leaves-append ns ms

  leaves_all : (p : Bool) → leaves (join_all {O = O} p ∷ []) ≡ []
  leaves_all true = refl
  leaves_all false = refl

  leaves-any : (p : Bool) → leaves (join_any {O = O} p ∷ []) ≡ []
  leaves-any true = refl
  leaves-any false = refl

  leaves-joined : (xs ys : List (Node O)) (j : Node O) → leaves (j ∷ []) ≡ [] → leaves (xs ++ (ys ++ (j ∷ []))) ≡ leaves xs ++ leaves ys
  leaves-joined xs ys j h =
      leaves-append xs (ys ++ (j ∷ []))
      ∙ ap (λ r. leaves xs ++ r) (leaves-append ys (j ∷ []) ∙ ap (λ r. leaves ys ++ r) h ∙ append-nil (leaves ys))

  -- the leaves are the comparisons in the text's order, each signed by the NOTs around it
  pub leaves_signed : {l : Level} (p : Bool) (c : Condition O l) → leaves (nodes p c) ≡ signed_in p c
  leaves_signed p (compare c) = refl
  leaves_signed p (negate c) = leaves_signed (not p) c
  leaves_signed p (group c) = leaves_signed p c
  leaves_signed p (alone c) = leaves_signed p c
  leaves_signed p (both c d) =
      leaves-joined (nodes p c) (nodes p d) (join_all p) (leaves_all p) ∙ ap₂ ◌++◌ (leaves_signed p c) (leaves_signed p d)
  leaves_signed p (single c) = leaves_signed p c
  leaves_signed p (either c d) =
      leaves-joined (nodes p c) (nodes p d) (join_any p) (leaves-any p) ∙ ap₂ ◌++◌ (leaves_signed p c) (leaves_signed p d)

  -- what both sides of each comparison have
  pub sides-have : {P : O → Type 0} {cs : List (Comparison O)} → All (λ (c : Comparison O). P c.left × P c.right) cs → All P (sides cs)
  sides-have nil = nil
  sides-have (cons p h) = cons p.0 (cons p.1 (sides-have h))

  pub sides-append : (cs ds : List (Comparison O)) → sides (cs ++ ds) ≡ sides cs ++ sides ds
  sides-append [] ds = refl
  sides-append (c ∷ cs) ds = ap (λ r. c.left ∷ c.right ∷ r) (sides-append cs ds)

  sides-one : (p : Bool) (c : Comparison O) → sides (signed p c ∷ []) ≡ c.left ∷ c.right ∷ []
  sides-one true c = refl
  sides-one false c = refl

  sides-two : (xs ys cs ds : List (Comparison O)) → sides xs ≡ sides cs → sides ys ≡ sides ds → sides (xs ++ ys) ≡ sides (cs ++ ds)
  sides-two xs ys cs ds h k = sides-append xs ys ∙ ap₂ ◌++◌ h k ∙ sym (sides-append cs ds)

  sides-signed : {l : Level} (p : Bool) (c : Condition O l) → sides (signed_in p c) ≡ sides (comparisons c)
  sides-signed p (compare c) = sides-one p c
  sides-signed p (negate c) = sides-signed (not p) c
  sides-signed p (group c) = sides-signed p c
  sides-signed p (alone c) = sides-signed p c
  sides-signed p (both c d) = sides-two (signed_in p c) (signed_in p d) (comparisons c) (comparisons d) (sides-signed p c) (sides-signed p d)
  sides-signed p (single c) = sides-signed p c
  sides-signed p (either c d) = sides-two (signed_in p c) (signed_in p d) (comparisons c) (comparisons d) (sides-signed p c) (sides-signed p d)

  -- their operands are those of the condition
  pub sides-nodes : {l : Level} (p : Bool) (c : Condition O l) → sides (leaves (nodes p c)) ≡ sides (comparisons c)
  sides-nodes p c = ap sides (leaves_signed p c) ∙ sides-signed p c

  pub sides-in : (w : Where O) → sides (leaves (nodes_in w)) ≡ operands_in w
  sides-in always = refl
  sides-in (under c) = sides-nodes true c

  -- ---- how many they are

  sides-length : (cs : List (Comparison O)) → length (sides cs) ≡ 2 * length cs
  sides-length [] = refl
  sides-length (c ∷ cs) = omega (arith, sides-length cs)

  pub leaves-nodes : {l : Level} (p : Bool) (c : Condition O l) → length (leaves (nodes p c)) ≡ length (comparisons c)
  leaves-nodes p c = omega (arith, sides-length (leaves (nodes p c)), sides-length (comparisons c), ap length (sides-nodes p c))

  pub leaves_in : (w : Where O) → length (leaves (nodes_in w)) ≡ length (comparisons_in w)
  leaves_in always = refl
  leaves_in (under c) = leaves-nodes true c

  count-joined : (xs ys : List (Node O)) (j : Node O) (cs ds : List (Comparison O)) → suc (length xs) ≡ 2 * length cs → suc (length ys) ≡ 2 * length ds
      → suc (length (xs ++ (ys ++ (j ∷ [])))) ≡ 2 * length (cs ++ ds)
  count-joined xs ys j cs ds h k =
      omega (arith, length-append xs (ys ++ (j ∷ [])), length-append ys (j ∷ []), length-append cs ds)

  -- 2n - 1 nodes for n comparisons
  pub nodes-count : {l : Level} (p : Bool) (c : Condition O l) → suc (length (nodes p c)) ≡ 2 * length (comparisons c)
  nodes-count p (compare c) = refl
  nodes-count p (negate c) = nodes-count (not p) c
  nodes-count p (group c) = nodes-count p c
  nodes-count p (alone c) = nodes-count p c
  nodes-count p (both c d) =
      count-joined (nodes p c) (nodes p d) (join_all p) (comparisons c) (comparisons d) (nodes-count p c) (nodes-count p d)
  nodes-count p (single c) = nodes-count p c
  nodes-count p (either c d) =
      count-joined (nodes p c) (nodes p d) (join_any p) (comparisons c) (comparisons d) (nodes-count p c) (nodes-count p d)

  -- at most 15 nodes exactly if at most 8 comparisons
  pub few_nodes : (w : Where O) → (length (nodes_in w) ≤ 15) ↔ (length (comparisons_in w) ≤ 8)
  few_nodes always = ((λ h. omega arith), (λ h. omega arith))
  few_nodes (under c) = ((λ h. omega (arith, nodes-count true c)), (λ h. omega (arith, nodes-count true c)))

  -- ---- which lists of nodes they are

  balanced-all : (k : ℕ) (p : Bool) (rest : List (Node O)) → balanced_on (suc (suc k)) (join_all p ∷ rest) ≡ balanced_on (suc k) rest
  balanced-all k true rest = refl
  balanced-all k false rest = refl

  balanced-any : (k : ℕ) (p : Bool) (rest : List (Node O)) → balanced_on (suc (suc k)) (join_any p ∷ rest) ≡ balanced_on (suc k) rest
  balanced-any k true rest = refl
  balanced-any k false rest = refl

  -- the nodes of a condition leave one value more
  pub balanced-nodes : {l : Level} (p : Bool) (c : Condition O l) (k : ℕ) (rest : List (Node O))
      → balanced_on k (nodes p c ++ rest) ≡ balanced_on (suc k) rest
  balanced-nodes p (compare c) k rest = refl
  balanced-nodes p (negate c) k rest = balanced-nodes (not p) c k rest
  balanced-nodes p (group c) k rest = balanced-nodes p c k rest
  balanced-nodes p (alone c) k rest = balanced-nodes p c k rest
  balanced-nodes p (both c d) k rest =
      ap (balanced_on k) (regroup (nodes p c) (nodes p d) (join_all p) rest)
      ∙ balanced-nodes p c k (nodes p d ++ (join_all p ∷ rest)) ∙ balanced-nodes p d (suc k) (join_all p ∷ rest) ∙ balanced-all k p rest
  balanced-nodes p (single c) k rest = balanced-nodes p c k rest
  balanced-nodes p (either c d) k rest =
      ap (balanced_on k) (regroup (nodes p c) (nodes p d) (join_any p) rest)
      ∙ balanced-nodes p c k (nodes p d ++ (join_any p ∷ rest)) ∙ balanced-nodes p d (suc k) (join_any p ∷ rest) ∙ balanced-any k p rest

  -- the nodes of a condition are such a list
  pub tree-balanced : {l : Level} (c : Condition O l) (p : Bool) → balanced_on 0 (nodes p c) ≡ true
  tree-balanced c p = ap (balanced_on 0) (sym (append-nil (nodes p c))) ∙ balanced-nodes p c 0 []

  postfix-some : (ns : List (Node O)) → balanced_on 0 ns ≡ true → is_postfix ns ≡ true
  postfix-some [] h = refl
  postfix-some (n ∷ ns) h = h

  pub postfix-where : (w : Where O) → is_postfix (nodes_in w) ≡ true
  postfix-where always = refl
  postfix-where (under c) = postfix-some (nodes true c) (tree-balanced c true)
