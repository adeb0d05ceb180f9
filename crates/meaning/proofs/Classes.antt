-- The labels of a clause are the equivalence that its `=` comparisons generate. So where a clause is met, the operands of a class have one value,
-- rule 6 does not remove the clause, and its pattern agrees with the query's values (rules 6 and 7). Assumes nothing.
use mathlib.Core.Path.{◌≡◌, refl, sym, ap, ap₂, subst, ◌∙◌}
use mathlib.Core.Logic.{◌↔◌}
use mathlib.Core.Bool.{Bool, true, false, not, ◌&&◌, ◌||◌, cond, false≢true}
use mathlib.Core.List.{List, [], ◌∷◌, map, Memᴰ as Member}
use Prim.Native.Nat.{ℕ, zero, suc, ◌≤◌, min}
use native.Mathlib.Nat.{min-eq_left, min-eq_right}
use native.Mathlib.Decide.{dec_le}
use native.Mathlib.Omega.{arith}
use lib.IntN.{ℤ, pos}
use lib.Signed.{lt_z, <ℤ_irrefl, lt_z_yes}
use lib.ListN.{length, get_or}
use Rattle.lists.specs.Lists.{All, nil, cons, from}
use Rattle.lists.specs.Tests.{is_yes, dec_n, dec_z, eq_z}
use Rattle.lists.proofs.Bools.{clash, true→T, eq_z-same, eq_z-true, yes_of}
use Rattle.lists.proofs.Lists.{All-head, All-tail, All-map, All-every, All-kept, all_true, any_none}
use Rattle.lists.proofs.Changed.{member-has, members-have, map-from}
use Rattle.meaning.specs.Operator.{Operator, eq, ne, lt, le, gt, ge, related, is_null, known, unknown, is_true, Predicate, by, is-null, is-not-null, truth}
use Rattle.meaning.specs.Condition.{Comparison, sides, holds}
use Rattle.meaning.specs.Meaning.{Row, cell, value_at}
use Rattle.meaning.specs.Pattern.{Joint, Joint-discrete, column, constant, asked, given, Clause, same, rename, join, labels_on, label, class, constants, update_marks, differ, strict, never_of, false_of, broken, contradictory, Entry, lowest, class_entry, entry, pattern, agrees_at, agrees}
use Rattle.meaning.specs.Demand.{Linked, itself, joined, reversed, through, ClassesLinked}
use Rattle.meaning.proofs.Clauses.{meets}

-- ---- the labels

pub linked-back : {cs : Clause} {x y : Joint} → Linked cs x y → Linked cs y x
linked-back itself = itself
linked-back (joined m) = reversed m
linked-back (reversed m) = joined m
linked-back (through h k) = through (linked-back k) (linked-back h)

-- what an `=` comparison joins is related by R
abbrev pub Joins : (Joint → Joint → Type 0) → Comparison Joint → Type 0
Joins R c = c.op ≡ by eq → R c.left c.right

-- every equivalence that relates what `=` joins relates each operand to its label
module _ (R : Joint → Joint → Type 0) (r-refl : (x : Joint) → R x x) (r-sym : (x y : Joint) → R x y → R y x)
    (r-trans : (x y z : Joint) → R x y → R y z → R x z) where
  rename-within : (a b x : Joint) → R a b → R x (rename a b x)
  rename-within a b x h = go (Joint-discrete dec_n dec_z x a)
    where
      go : (d : Dec (x ≡ a)) → R x (cond (is_yes d) b x)
      go (yes p) = rw p h
      go (no n) = r-refl x

  join-within : (p : Predicate) (a b x : Joint) → (p ≡ by eq → R a b) → R x (join p a b x)
  join-within (by eq) a b x h = rename-within a b x (h refl)
  join-within (by ne) a b x h = r-refl x
  join-within (by lt) a b x h = r-refl x
  join-within (by le) a b x h = r-refl x
  join-within (by gt) a b x h = r-refl x
  join-within (by ge) a b x h = r-refl x
  join-within is-null a b x h = r-refl x
  join-within is-not-null a b x h = r-refl x

  labels-within : (f : Joint → Joint) → ((x : Joint) → R x (f x)) → (cs : Clause) → All (Joins R) cs → (x : Joint) → R x (labels_on f cs x)
  labels-within f hf [] h x = hf x
  labels-within f hf (c ∷ cs) h x =
      labels-within (λ x. join c.op (f c.left) (f c.right) (f x)) step cs (All-tail h) x
    where
      ends : c.op ≡ by eq → R (f c.left) (f c.right)
      ends e =
          r-trans (f c.left) c.left (f c.right) (r-sym c.left (f c.left) (hf c.left))
          (r-trans c.left c.right (f c.right) (All-head h e) (hf c.right))

      step : (x : Joint) → R x (join c.op (f c.left) (f c.right) (f x))
      step x = r-trans x (f x) (join c.op (f c.left) (f c.right) (f x)) (hf x) (join-within c.op (f c.left) (f c.right) (f x) ends)

  label-within : (cs : Clause) → All (Joins R) cs → (x : Joint) → R x (label cs x)
  label-within = labels-within (λ x. x) r-refl

-- equal labels stay equal
labels-kept : (f : Joint → Joint) (cs : Clause) (x y : Joint) → f x ≡ f y → labels_on f cs x ≡ labels_on f cs y
labels-kept f [] x y e = e
labels-kept f (c ∷ cs) x y e =
    labels-kept (λ x. join c.op (f c.left) (f c.right) (f x)) cs x y (ap (join c.op (f c.left) (f c.right)) e)

rename-joins : (a b : Joint) → rename a b a ≡ rename a b b
rename-joins a b = go (Joint-discrete dec_n dec_z a a) (Joint-discrete dec_n dec_z b a)
  where
    go : (d : Dec (a ≡ a)) (e : Dec (b ≡ a)) → cond (is_yes d) b a ≡ cond (is_yes e) b b
    go (yes p) (yes q) = refl
    go (yes p) (no n) = refl
    go (no n) e = absurd (n refl)

join-joins : (p : Predicate) (a b : Joint) → p ≡ by eq → join p a b a ≡ join p a b b
join-joins p a b e = rw e (rename-joins a b)

-- what `=` joins has one label
labels_join : (f : Joint → Joint) (cs : Clause) → All (Joins (λ x y. labels_on f cs x ≡ labels_on f cs y)) cs
labels_join f [] = nil
labels_join f (c ∷ cs) = cons here (labels_join (λ x. join c.op (f c.left) (f c.right) (f x)) cs)
  where
    here : c.op ≡ by eq → labels_on f (c ∷ cs) c.left ≡ labels_on f (c ∷ cs) c.right
    here e = labels-kept (λ x. join c.op (f c.left) (f c.right) (f x)) cs c.left c.right (join-joins c.op (f c.left) (f c.right) e)

-- the comparisons of a clause, as links of it
pub clause-joins : (cs : Clause) → All (Joins (Linked cs)) cs
clause-joins cs = members-have cs (λ c m e. joined (subst (λ (d : Comparison Joint). Member d cs) (λ i. record { left = c.left; op = e i; right = c.right }) m))

linked-labels : {cs : Clause} {x y : Joint} → Linked cs x y → label cs x ≡ label cs y
linked-labels itself = refl
linked-labels {cs} (joined m) = member-has (labels_join (λ x. x) cs) m refl
linked-labels {cs} (reversed m) = sym (member-has (labels_join (λ x. x) cs) m refl)
linked-labels (through h k) = linked-labels h ∙ linked-labels k

-- two operands have one label exactly where the `=` comparisons of the clause link them
pub labels-linked : (cs : Clause) (x y : Joint) → (label cs x ≡ label cs y) ↔ Linked cs x y
labels-linked cs x y = (λ e. through (subst (Linked cs x) e (own x)) (linked-back (own y)), linked-labels)
  where
    own : (x : Joint) → Linked cs x (label cs x)
    own = label-within (Linked cs) (λ x. itself) (λ x y h. linked-back h) (λ x y z h k. through h k) cs (clause-joins cs)

pub classes_linked : ClassesLinked
classes_linked = labels-linked

-- ---- lists of numbers that are all w

-- where a comparison by one of the six is true, the numbers stand so to each other, and neither is null
pub related-holds : (o : Operator) (a b : ℤ) → truth (by o) a b ≡ true → (related o a b ≡ true) × (is_null a ≡ false) × (is_null b ≡ false)
related-holds o a b h = go (is_null a) (is_null b) refl refl h
  where
    go : (m n : Bool) → is_null a ≡ m → is_null b ≡ n → is_true (cond (m || n) unknown (known (related o a b))) ≡ true
        → (related o a b ≡ true) × (is_null a ≡ false) × (is_null b ≡ false)
    go true n e f k = absurd (false≢true k)
    go false true e f k = absurd (false≢true k)
    go false false e f k = (k, e, f)

eq-holds : (p : Predicate) (a b : ℤ) → truth p a b ≡ true → p ≡ by eq → a ≡ b
eq-holds p a b h e = eq_z-true a b (related-holds eq a b (sym (ap (λ (p : Predicate). truth p a b) e) ∙ h)).0

strict-differs : (p : Predicate) (a : ℤ) → truth p a a ≡ true → strict p ≡ false
strict-differs (by eq) a h = refl
strict-differs (by ne) a h = clash (related-holds ne a a h).0 (ap not (eq_z-same a))
strict-differs (by lt) a h = absurd (<ℤ_irrefl {a = a} (lt_z_yes (true→T (lt_z a a) (related-holds lt a a h).0)))
strict-differs (by le) a h = refl
strict-differs (by gt) a h = absurd (<ℤ_irrefl {a = a} (lt_z_yes (true→T (lt_z a a) (related-holds gt a a h).0)))
strict-differs (by ge) a h = refl
strict-differs is-null a h = refl
strict-differs is-not-null a h = refl

-- no side of a comparison that is true has the null constant in its class
never-not : (p : Predicate) (a b : ℤ) (ys zs : List ℤ) → All (λ (y : ℤ). y ≡ a) ys → All (λ (z : ℤ). z ≡ b) zs → truth p a b ≡ true
    → (never_of p ys || never_of p zs) ≡ false
never-not (by o) a b ys zs hy hz h =
    let k = related-holds o a b h in
    ap₂ ◌||◌ (any_none is_null (All-map (λ y e. ap is_null e ∙ k.1) hy)) (any_none is_null (All-map (λ z e. ap is_null e ∙ k.2) hz))
never-not is-null a b ys zs hy hz h = refl
never-not is-not-null a b ys zs hy hz h = refl

pub differ-none : (w : ℤ) (zs : List ℤ) → All (λ (z : ℤ). z ≡ w) zs → differ zs ≡ false
differ-none w [] h = refl
differ-none w (y ∷ zs) h =
    any_none (λ (z : ℤ). not (eq_z y z)) (All-map (λ z e. ap not (ap₂ eq_z (All-head h) e ∙ eq_z-same w)) (All-tail h))

false_of-not : (p : Predicate) (a b : ℤ) (ys zs : List ℤ)
    → All (λ (y : ℤ). y ≡ a) ys → All (λ (z : ℤ). z ≡ b) zs → truth p a b ≡ true → false_of p ys zs ≡ false
false_of-not p a b [] zs hy hz h = refl
false_of-not p a b (y ∷ ys) [] hy hz h = refl
false_of-not p a b (y ∷ ys) (z ∷ zs) hy hz h = ap not (ap₂ (truth p) (All-head hy) (All-head hz) ∙ h)

module _ (us : List ℤ) (w : ℤ) where
  lowest-is : (k : ℕ) (ks : List ℕ) → value_at us k ≡ w → All (λ (m : ℕ). value_at us m ≡ w) ks → value_at us (lowest k ks) ≡ w
  lowest-is k [] e h = e
  lowest-is k (m ∷ ms) e h = go (dec_le k (lowest m ms)) (lowest-is m ms (All-head h) (All-tail h))
    where
      go : Dec (k ≤ lowest m ms) → value_at us (lowest m ms) ≡ w → value_at us (min k (lowest m ms)) ≡ w
      go (yes before) f = ap (value_at us) (min-eq_left before) ∙ e
      go (no n) f = let after : lowest m ms ≤ k = omega arith in ap (value_at us) (min-eq_right after) ∙ f

  entry-agrees : (zs : List ℤ) (ks : List ℕ) → All (λ (z : ℤ). z ≡ w) zs → All (λ (k : ℕ). value_at us k ≡ w) ks → agrees_at us (class_entry zs ks) w ≡ true
  entry-agrees [] [] hz hk = refl
  entry-agrees [] (k ∷ ks) hz hk = rw (lowest-is k ks (All-head hk) (All-tail hk)) (eq_z-same w)
  entry-agrees (z ∷ zs) ks hz hk = rw (All-head hz) (eq_z-same w)

-- a pattern agrees if each entry does
agrees_from : (us zs : List ℤ) (g : ℕ → Entry) → ((k : ℕ) → agrees_at us (g k) (get_or zs k (pos 0)) ≡ true) → agrees us zs (map g (from 0 (length zs))) ≡ true
agrees_from us [] g h = refl
agrees_from us (z ∷ zs) g h =
    ap₂ ◌&&◌ (h zero) (ap (agrees us zs) (map-from g 0 (length zs)) ∙ agrees_from us zs (λ k. g (suc k)) (λ k. h (suc k)))

-- ---- a clause that is met

-- the value of an operand of the joint formula, in a row, with the update's values us and the query's qs
abbrev pub joint_value : Row → List ℤ → List ℤ → Joint → ℤ
joint_value r us qs (column i) = cell r i
joint_value r us qs (constant z) = z
joint_value r us qs (asked k) = value_at qs k
joint_value r us qs (given k) = value_at us k

-- what all operands have, their constants and update marks have
module _ {P : Joint → Type 0} where
  pub constants-have : {xs : List Joint} → All P xs → All (λ (z : ℤ). P (constant z)) (constants xs)
  constants-have nil = nil
  constants-have (cons {x = column i} p h) = constants-have h
  constants-have (cons {x = constant z} p h) = cons p (constants-have h)
  constants-have (cons {x = asked k} p h) = constants-have h
  constants-have (cons {x = given k} p h) = constants-have h

  pub marks-have : {xs : List Joint} → All P xs → All (λ (k : ℕ). P (given k)) (update_marks xs)
  marks-have nil = nil
  marks-have (cons {x = column i} p h) = marks-have h
  marks-have (cons {x = constant z} p h) = marks-have h
  marks-have (cons {x = asked k} p h) = marks-have h
  marks-have (cons {x = given k} p h) = cons p (marks-have h)

module _ (r : Row) (us qs : List ℤ) (cs : Clause) (met : meets (joint_value r us qs) cs ≡ true) where
  each : All (λ (c : Comparison Joint). holds (joint_value r us qs) c ≡ true) cs
  each = all_true (holds (joint_value r us qs)) cs met

  -- an operand and its label have one value
  label-value : (x : Joint) → joint_value r us qs x ≡ joint_value r us qs (label cs x)
  label-value =
      label-within (λ x y. joint_value r us qs x ≡ joint_value r us qs y) (λ x. refl) (λ x y p. sym p) (λ x y z p q. p ∙ q) cs
      (All-map (λ c h. eq-holds c.op (joint_value r us qs c.left) (joint_value r us qs c.right) h) each)

  -- operands in one class have one value
  pub class-value : (x y : Joint) → same (label cs x) (label cs y) ≡ true → joint_value r us qs x ≡ joint_value r us qs y
  class-value x y h =
      label-value x ∙ ap (joint_value r us qs) (yes_of (Joint-discrete dec_n dec_z (label cs x) (label cs y)) h) ∙ sym (label-value y)

  class-all : (x : Joint) → All (λ (y : Joint). joint_value r us qs y ≡ joint_value r us qs x) (class cs x)
  unfolding class
  class-all x = All-map (λ y h. class-value y x h) (All-kept (λ (y : Joint). same (label cs y) (label cs x)) (sides cs))

  class-constants : (x : Joint) → All (λ (z : ℤ). z ≡ joint_value r us qs x) (constants (class cs x))
  class-constants x = constants-have (class-all x)

  class-marks : (x : Joint) → All (λ (k : ℕ). value_at us k ≡ joint_value r us qs x) (update_marks (class cs x))
  class-marks x = marks-have (class-all x)

  apart : (c : Comparison Joint) → holds (joint_value r us qs) c ≡ true → (strict c.op && same (label cs c.left) (label cs c.right)) ≡ false
  apart c h = go (strict c.op) (same (label cs c.left) (label cs c.right)) refl refl
    where
      go : (s t : Bool) → strict c.op ≡ s → same (label cs c.left) (label cs c.right) ≡ t → (s && t) ≡ false
      go false t e k = refl
      go true false e k = refl
      go true true e k =
          clash e (strict-differs c.op (joint_value r us qs c.left) (rw (← class-value c.left c.right k) at h))

  unbroken : (c : Comparison Joint) → holds (joint_value r us qs) c ≡ true → broken cs c ≡ false
  unbroken c h =
      ap₂ ◌||◌ (apart c h)
      (ap₂ ◌||◌
      (never-not c.op (joint_value r us qs c.left) (joint_value r us qs c.right) (constants (class cs c.left))
      (constants (class cs c.right)) (class-constants c.left) (class-constants c.right) h)
      (false_of-not c.op (joint_value r us qs c.left) (joint_value r us qs c.right) (constants (class cs c.left))
      (constants (class cs c.right)) (class-constants c.left) (class-constants c.right) h))

  -- rule 6 removes no clause that is met
  pub not-contradictory : contradictory cs ≡ false
  unfolding contradictory
  not-contradictory =
      ap₂ ◌||◌
      (any_none (λ (x : Joint). differ (constants (class cs x)))
      (All-every (λ x. differ-none (joint_value r us qs x) (constants (class cs x)) (class-constants x)) (sides cs)))
      (any_none (broken cs) (All-map unbroken each))

  -- rule 7: the pattern of a clause that is met agrees with the query's values
  pub pattern-agrees : agrees us qs (pattern (length qs) cs) ≡ true
  unfolding entry
  pattern-agrees =
      ap (agrees us qs) (map-from (entry cs) 0 (length qs))
      ∙ agrees_from us qs (λ k. entry cs (suc k)) λ k.
      entry-agrees us (value_at qs (suc k)) (constants (class cs (asked (suc k)))) (update_marks (class cs (asked (suc k))))
      (class-constants (asked (suc k))) (class-marks (asked (suc k)))
