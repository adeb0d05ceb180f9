-- Back from comparisons of two sides to tests as they are written (A.5): which comparisons are those of a test, and the test of which each of them is. Assumes nothing.
use mathlib.Core.Path.{◌≡◌, refl, sym, ap, ap₂, subst}
use mathlib.Core.Bool.{Bool, true, false, not}
use Rattle.lists.specs.Lists.{All, nil, cons}
use Rattle.lists.proofs.Lists.{All-head, All-append, All-left, All-right}
use Rattle.meaning.specs.Operator.{eq, Predicate, by, is-null, is-not-null, opposite}
use Rattle.meaning.specs.Condition.{Comparison, Level, Tree, Condition, compare, negate, group, alone, both, single, either, Optional, Where, always, under, comparisons, comparisons_in, mapped, mapped_in}
use Rattle.meaning.specs.Grammar.{Term, column, given, Test, compares, tests_null, tests-not-null, comparison}
use Rattle.meaning.specs.Postfix.{signed, nodes_in, leaves}
use Rattle.meaning.proofs.Postfix.{signed_in, leaves_signed}

module _ {C : Type 0} where
  -- ---- comparisons

  -- both sides are one column
  abbrev pub OneColumn : Term C → Term C → Type 0
  OneColumn (column c) (column d) = c ≡ d
  OneColumn (column c) (given v) = ⊥
  OneColumn (given v) t = ⊥

  abbrev pub Fits : Predicate → Term C → Term C → Type 0
  Fits (by o) a b = Unit {0}
  Fits is-null a b = OneColumn a b
  Fits is-not-null a b = OneColumn a b

  -- by an operator, or a null test of one column
  abbrev pub IsTest : Comparison (Term C) → Type 0
  IsTest c = Fits c.op c.left c.right

  -- the null test of a column (there is none of a constant or a question mark)
  abbrev null_test : (C → Test C) → Term C → Test C
  null_test test (column c) = test c
  null_test test (given v) = compares (given v) eq (given v)

  abbrev written_as : Term C → Predicate → Term C → Test C
  written_as a (by o) b = compares a o b
  written_as a is-null b = null_test tests_null a
  written_as a is-not-null b = null_test tests-not-null a

  -- the test of a comparison
  abbrev pub written : Comparison (Term C) → Test C
  written c = written_as c.left c.op c.right

  pub written_back : (c : Comparison (Term C)) → IsTest c → comparison (written c) ≡ c
  written_back c h = go c.left c.op c.right h
    where
      go : (a : Term C) (p : Predicate) (b : Term C) → Fits p a b → ◌≡◌ {A = Comparison (Term C)} (comparison (written_as a p b)) (record { left = a; op = p; right = b })
      go a (by o) b h = refl
      go (column c) is-null (column d) e = λ i. record { left = column c; op = is-null; right = column (e i) }
      go (column c) is-null (given v) e = absurd e
      go (given v) is-null b e = absurd e
      go (column c) is-not-null (column d) e = λ i. record { left = column c; op = is-not-null; right = column (e i) }
      go (column c) is-not-null (given v) e = absurd e
      go (given v) is-not-null b e = absurd e

  pub test-is : (c : Test C) → IsTest (comparison c)
  test-is (compares a o b) = tt
  test-is (tests_null c) = refl
  test-is (tests-not-null c) = refl

  -- and so is the opposite
  signed_is : (p : Bool) (c : Comparison (Term C)) → IsTest (signed p c) ≡ IsTest c
  signed_is true c = refl
  signed_is false c = go c.op
    where
      go : (q : Predicate) → Fits (opposite q) c.left c.right ≡ Fits q c.left c.right
      go (by o) = refl
      go is-null = refl
      go is-not-null = refl

  -- ---- conditions

  pub mapped-back : {l : Level} (c : Condition (Term C) l) → All IsTest (comparisons c) → mapped comparison (mapped written c) ≡ c
  mapped-back (compare c) h = ap compare (written_back c (All-head h))
  mapped-back (negate c) h = ap negate (mapped-back c h)
  mapped-back (group c) h = ap group (mapped-back c h)
  mapped-back (alone c) h = ap alone (mapped-back c h)
  mapped-back (both c d) h = ap₂ both (mapped-back c (All-left (comparisons c) (comparisons d) h)) (mapped-back d (All-right (comparisons c) h))
  mapped-back (single c) h = ap single (mapped-back c h)
  mapped-back (either c d) h = ap₂ either (mapped-back c (All-left (comparisons c) (comparisons d) h)) (mapped-back d (All-right (comparisons c) h))

  pub where-back : (w : Where (Term C)) → All IsTest (comparisons_in w) → mapped_in comparison (mapped_in written w) ≡ w
  where-back always h = refl
  where-back (under c) h = ap under (mapped-back c h)

  -- ---- their nodes

  unsigned : {l : Level} (p : Bool) (c : Condition (Term C) l) → All IsTest (signed_in p c) → All IsTest (comparisons c)
  unsigned p (compare c) h = cons (subst (λ (T : Type 0). T) (signed_is p c) (All-head h)) nil
  unsigned p (negate c) h = unsigned (not p) c h
  unsigned p (group c) h = unsigned p c h
  unsigned p (alone c) h = unsigned p c h
  unsigned p (both c d) h = All-append (unsigned p c (All-left (signed_in p c) (signed_in p d) h)) (unsigned p d (All-right (signed_in p c) h))
  unsigned p (single c) h = unsigned p c h
  unsigned p (either c d) h = All-append (unsigned p c (All-left (signed_in p c) (signed_in p d) h)) (unsigned p d (All-right (signed_in p c) h))

  -- a WHERE whose nodes compare so is one of tests
  pub nodes-back : (w : Where (Term C)) → All IsTest (leaves (nodes_in w)) → mapped_in comparison (mapped_in written w) ≡ w
  nodes-back always h = refl
  nodes-back (under c) h = where-back (under c) (unsigned true c (subst (All IsTest) (leaves_signed true c) h))

  signed-tests : {l : Level} (p : Bool) (c : Tree (Test C) l) → All IsTest (signed_in p (mapped comparison c))
  signed-tests p (compare c) = cons (subst (λ (T : Type 0). T) (sym (signed_is p (comparison c))) (test-is c)) nil
  signed-tests p (negate c) = signed-tests (not p) c
  signed-tests p (group c) = signed-tests p c
  signed-tests p (alone c) = signed-tests p c
  signed-tests p (both c d) = All-append (signed-tests p c) (signed-tests p d)
  signed-tests p (single c) = signed-tests p c
  signed-tests p (either c d) = All-append (signed-tests p c) (signed-tests p d)

  -- and the nodes of tests compare so
  pub nodes-tests : (w : Optional (Test C)) → All IsTest (leaves (nodes_in (mapped_in comparison w)))
  nodes-tests always = nil
  nodes-tests (under c) = subst (All IsTest) (sym (leaves_signed true (mapped comparison c))) (signed-tests true c)
