-- The demands of specs/Demand about nulls, request A.5. Assumes nothing.
use mathlib.Core.Path.{◌≡◌, refl, sym, ap, ap₂, ◌∙◌}
use mathlib.Core.Logic.{◌↔◌, ◌⊎◌, inl, inr, ◌≢◌}
use mathlib.Core.Bool.{Bool, true, false, not, ◌&&◌, ◌||◌, cond, or-true, false≢true}
use mathlib.Core.List.{List, ◌∷◌, ◌++◌}
use lib.IntN.{ℤ}
use Rattle.lists.specs.Lists.{any}
use Rattle.lists.proofs.Bools.{not-not, not-true, clash, eq_z-true}
use Rattle.lists.proofs.Lists.{any_append}
use Rattle.meaning.specs.Operator.{Operator, related, null, is_null, Truth, known, unknown, not₃, and₃, or₃, is_true, Predicate, by, is-null, is-not-null}
use Rattle.meaning.specs.Condition.{Comparison, sides, eval}
use Rattle.meaning.specs.Meaning.{operand_value}
use Rattle.meaning.specs.Pattern.{Joint, Clause, same, label, class, constants, differ, strict, never_of, false_of, broken, contradictory}
use Rattle.meaning.specs.Demand.{NullUnknown, OthersKnown, ThreeValues, TakesTrue, NullTests, Opposites, NullTestsInPatterns, NeverTrue}
use Rattle.meaning.proofs.Clauses.{opposite_twice, opposite_negates}

-- ---- comparisons

pub null_unknown : NullUnknown
null_unknown o z = (refl, ap (λ (b : Bool). cond b unknown (known (related o z null))) (or-true (is_null z)))

not_null : (z : ℤ) → z ≢ null → is_null z ≡ false
not_null z n = go (is_null z) refl
  where
    go : (b : Bool) → is_null z ≡ b → b ≡ false
    go true e = absurd (n (eq_z-true z null e))
    go false e = refl

pub others_known : OthersKnown
others_known o y z a b = ap₂ (λ (m n : Bool). cond (m || n) unknown (known (related o y z))) (not_null y a) (not_null z b)

pub null_tests : NullTests
null_tests z = (
  (eq_z-true z null, λ e. ap is_null e),
  ((λ h e. clash (ap is_null e) (not-true (is_null z) h)), (λ n. ap not (not_null z n))),
)

pub opposites : Opposites
opposites = record { null_test = refl; twice_itself = opposite_twice; negates = opposite_negates }

-- ---- the three values

-- they are three
false-true : {X : Type 0} → known false ≡ known true → X
false-true e = absurd (false≢true (ap is_true e))

unknown-true : {X : Type 0} → unknown ≡ known true → X
unknown-true e = absurd (false≢true (ap is_true e))

unknown-false : {X : Type 0} → unknown ≡ known false → X
unknown-false e = absurd (false≢true (ap (λ (t : Truth). is_true (not₃ t)) e))

pub three_values : ThreeValues
three_values = record {
  not-true = not-is-true;
  not-false = not-is-false;
  and-true = and-is-true;
  and-false = and-is-false;
  or-true = or-is-true;
  or-false = or-is-false;
}
  where
    not-is-true : (t : Truth) → (not₃ t ≡ known true) ↔ (t ≡ known false)
    not-is-true (known true) = (sym, sym)
    not-is-true (known false) = ((λ h. refl), (λ h. refl))
    not-is-true unknown = (unknown-true, unknown-false)

    not-is-false : (t : Truth) → (not₃ t ≡ known false) ↔ (t ≡ known true)
    not-is-false (known true) = ((λ h. refl), (λ h. refl))
    not-is-false (known false) = (sym, sym)
    not-is-false unknown = (unknown-false, unknown-true)

    and-is-true : (s t : Truth) → (and₃ s t ≡ known true) ↔ ((s ≡ known true) × (t ≡ known true))
    and-is-true (known true) t = ((λ h. (refl, h)), (λ h. h.1))
    and-is-true (known false) t = (false-true, (λ h. h.0))
    and-is-true unknown (known true) = ((λ h. (h, refl)), (λ h. h.0))
    and-is-true unknown (known false) = (false-true, (λ h. h.1))
    and-is-true unknown unknown = ((λ h. (h, h)), (λ h. h.0))

    and-is-false : (s t : Truth) → (and₃ s t ≡ known false) ↔ ((s ≡ known false) ⊎ (t ≡ known false))
    and-is-false (known true) t = (inr, elim [ inl h ↦ false-true (sym h) | inr h ↦ h ])
    and-is-false (known false) t = ((λ h. inl refl), (λ h. refl))
    and-is-false unknown (known true) = (inl, elim [ inl h ↦ h | inr h ↦ false-true (sym h) ])
    and-is-false unknown (known false) = ((λ h. inr refl), (λ h. refl))
    and-is-false unknown unknown = (inl, elim [ inl h ↦ h | inr h ↦ h ])

    or-is-true : (s t : Truth) → (or₃ s t ≡ known true) ↔ ((s ≡ known true) ⊎ (t ≡ known true))
    or-is-true (known true) t = ((λ h. inl refl), (λ h. refl))
    or-is-true (known false) t = (inr, elim [ inl h ↦ false-true h | inr h ↦ h ])
    or-is-true unknown (known true) = ((λ h. inr refl), (λ h. refl))
    or-is-true unknown (known false) = (inl, elim [ inl h ↦ h | inr h ↦ false-true h ])
    or-is-true unknown unknown = (inl, elim [ inl h ↦ h | inr h ↦ h ])

    or-is-false : (s t : Truth) → (or₃ s t ≡ known false) ↔ ((s ≡ known false) × (t ≡ known false))
    or-is-false (known true) t = ((λ h. false-true (sym h)), (λ h. h.0))
    or-is-false (known false) t = ((λ h. (refl, h)), (λ h. h.1))
    or-is-false unknown (known true) = ((λ h. false-true (sym h)), (λ h. h.1))
    or-is-false unknown (known false) = ((λ h. (h, refl)), (λ h. h.0))
    or-is-false unknown unknown = ((λ h. (h, h)), (λ h. h.0))

pub takes_true : TakesTrue
takes_true c vs r = go (eval (operand_value r vs) c)
  where
    go : (t : Truth) → (is_true t ≡ true) ↔ (t ≡ known true)
    go (known b) = (ap known, ap is_true)
    go unknown = ((λ h. absurd (false≢true h)), unknown-true)

-- ---- rule 6

pub null_tests_in_patterns : NullTestsInPatterns
null_tests_in_patterns cs x = record {
  null_constant = λ z zs e. (
    ap₂ (false_of is-null) e e,
    ap₂ (false_of is-not-null) e e ∙ not-not (is_null z),
  );
  no_constant = λ e. (ap₂ (false_of is-null) e e, ap₂ (false_of is-not-null) e e);
}

-- a comparison with an operand whose class holds the null constant
never-broken : (cs : Clause) (c : Comparison Joint) (o : Operator) → c.op ≡ by o
    → any is_null (constants (class cs c.left) ++ constants (class cs c.right)) ≡ true → broken cs c ≡ true
never-broken cs c o e h =
    let ys : List ℤ = constants (class cs c.left) in
    let zs : List ℤ = constants (class cs c.right) in
    let never : (never_of c.op ys || never_of c.op zs) ≡ true =
    ap (λ (p : Predicate). never_of p ys || never_of p zs) e ∙ sym (any_append is_null ys zs) ∙ h in
    ap (λ (b : Bool). (strict c.op && same (label cs c.left) (label cs c.right)) || (b || false_of c.op ys zs)) never
    ∙ or-true (strict c.op && same (label cs c.left) (label cs c.right))

pub never_true : NeverTrue
unfolding contradictory
never_true before after c o e h =
    let cs : Clause = before ++ c ∷ after in
    let there : any (broken cs) cs ≡ true =
    any_append (broken cs) before (c ∷ after)
    ∙ ap (λ (b : Bool). any (broken cs) before || (b || any (broken cs) after)) (never-broken cs c o e h)
    ∙ or-true (any (broken cs) before) in
    ap (λ (b : Bool). any (λ (x : Joint). differ (constants (class cs x))) (sides cs) || b) there
    ∙ or-true (any (λ (x : Joint). differ (constants (class cs x))) (sides cs))
