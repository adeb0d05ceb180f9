-- The two sides of a comparison and its operator, or a column and its null test: what each way through `read_comparison` and `read_null` knows. Assumes nothing.
use mathlib.Core.Path.{◌≡◌, refl, sym, ap, ap₂, subst, ◌∙◌}
use mathlib.Core.Logic.{◌≢◌}
use mathlib.Core.Bool.{Bool, true, false, cond, ◌&&◌, ◌||◌}
use mathlib.Core.Option.{Option, none, some}
use Rattle.std.specs.Prelude.{Option as Maybe, Some, None}
use mathlib.Core.List.{List, [], ◌∷◌, ◌++◌}
use Prim.Native.Nat.{ℕ, ◌+◌, ◌≤◌, ◌<◌}
use native.Mathlib.Nat.{le_refl}
use native.Mathlib.Omega.{arith}
use lib.Dec.{ltb}
use lib.ListN.{length, take, drop}
use Rattle.lists.proofs.Bools.{clash, and_left, and_right, and_both}
use Rattle.meaning.specs.Operator.{Operator, Predicate, opposite}
use Rattle.meaning.specs.Condition.{compare}
use Rattle.meaning.specs.Postfix.{leaf, signed}
use Rattle.meaning.specs.Tokens as T
use Rattle.meaning.specs.Tokens.{tokens, keyword, NOT, IS, NULL}
use Rattle.meaning.specs.Grammar.{constant, mark, Term, column, given, Test, compares, tests_null, tests-not-null, comparison}
use Rattle.meaning.specs.Reader.{Reader, then, ◌>>◌, done, fails, expect, a_token, a_term, operator_of, a_null, a_rest, a_test, a_comparison}
use Rattle.meaning.specs.Limits.{most_depth, mark_count, term_givens}
use Rattle.meaning.proofs.Readers.{begins, passing-yes, passing-stops, expect-here, a_token-some, a_token-none, then_some, then-none}
use Rattle.token.specs.declared.Token.{Token}
use Rattle.token.specs.declared.Kind.{Kind}
use Rattle.token.specs.declared.Kind.TheVariants.{Not, Is, Null}
use Rattle.token.specs.Tokens.{token_at}
use Rattle.statement.specs.Operators.{operator_number, predicate_number, opposite_of}
use Rattle.statement.specs.declared.conditions.Node.{Node}
use Rattle.statement.specs.Private.Places.{Column, term_on, comparison_node, node_on, nodes_on, bare_marks_on}
use Rattle.statement.specs.Private.Reading.{operator_in, is_name, is_is, Operand, a_column, with_sides, with_node, PutsNode, ended_at, PutsNull, Stands, Spans, IsOperand, Sides, ReadsSide, Found, Meets, Reaches, TestsNull}
use Rattle.statement.specs.declared.conditions.Cursor.{Cursor}
use Rattle.statement.specs.declared.sides.Side.{Side}
use Rattle.statement.proofs.OperatorLaws.{predicate-back, predicate-few, opposite-is}
use Rattle.statement.proofs.Nodes.{nodes-put, marks-put}
use Rattle.statement.proofs.Operands.{append-marks, is_column, column-is, first-column, no-operator, is-operator}
use Rattle.statement.proofs.Steps.{Look, ended, seen, look, Goes, goes, stops}

-- ---- an operand

-- what is said of a side that was read, beside what the grammar's reader finds
pub record Reached {A : Type 0} (s : List ℕ) (at : ℕ) (r : Side) (Q : A → Type 0) (o : Option (A × List T.Token)) : Type 0 where
  pub value : A
  pub found : o ≡ some (value, tokens (drop r.next s))
  pub spans : Spans s at r (tokens (drop r.next s))
  pub is : Q value

module _ {A : Type 0} (s : List ℕ) (at : ℕ) (Q : Side → A → Type 0) where
  pub side-none : (o : Option (A × List T.Token)) → Sides s at None Q o → o ≡ none
  side-none none h = refl
  side-none (some x) h = absurd h

  pub side : (r : Side) (o : Option (A × List T.Token)) → Sides s at (Some r) Q o → Reached s at r (Q r) o
  side r none h = absurd h
  side r (some x) h =
      let a = h.0 in
      record {
        value = x.0;
        found = ap (λ ts. some (x.0, ts)) (sym a.left);
        spans = record { on = a.on; within = a.within; begun = a.begun; left = refl };
        is = h.1;
      }

-- ---- an operator

-- the operator o stands first, as the token u
pub record Sign (s : List ℕ) (at : ℕ) (u : Token) (n : ℕ) (o : Operator) : Type 0 where
  pub on : at < u.next
  pub within : u.next ≤ length s
  pub reads : a_token operator_of (tokens (drop at s)) ≡ some (o, tokens (drop u.next s))
  pub number : n ≡ operator_number o

module _ (s : List ℕ) (at : ℕ) (u : Token) (e : u ≡ token_at s at) where
  pub sign-none : operator_in u.kind ≡ None → a_token operator_of (tokens (drop at s)) ≡ none
  sign-none h = go (look s at u e)
    where
      go : Look s at u → a_token operator_of (tokens (drop at s)) ≡ none
      go (ended z q) = ap (a_token operator_of) q
      go (seen v) = ap (a_token operator_of) v.left ∙ a_token-none operator_of v.token _ (no-operator v.token (ap operator_in v.kind ∙ h))

  pub sign : (n : ℕ) → operator_in u.kind ≡ Some n → (o : Operator) × Sign s at u n o
  sign n h = go (look s at u e)
    where
      go : Look s at u → (o : Operator) × Sign s at u n o
      go (ended z q) = let x = ap operator_in z in absurd (cc)
      go (seen v) =
          let t = v.token in
          let m = is-operator t n (ap operator_in v.kind ∙ h) in (
            m.0,
            record {
              on = omega (arith, v.from, v.moves);
              within = v.inside;
              reads = ap (a_token operator_of) v.left ∙ a_token-some operator_of t _ _ (ap operator_of m.1);
              number = m.2;
            },
          )

-- ---- a comparison's node

node_is : (depth : ℕ) (d : Bool) (s : List ℕ) (positive : Bool) (a b : ℕ) (o : Predicate) (x y : Operand d) → term_on d s a ≡ x → term_on d s b ≡ y
    → node_on d s (comparison_node depth (cond positive (predicate_number o) (opposite_of (predicate_number o))) a b) ≡ leaf (signed positive (record { left = x; op = o; right = y }))
node_is depth d s true a b o x y q r i = leaf (record { left = q i; op = predicate-back o i; right = r i })
node_is depth d s false a b o x y q r i =
    leaf (record { left = q i; op = (opposite-is (predicate_number o) (predicate-few o) ∙ ap opposite (predicate-back o)) i; right = r i })

few_marks : {C : Type 0} (x : Term C) → mark_count (term_givens (x ∷ [])) ≤ 1
few_marks (column n) = omega arith
few_marks (given (constant z)) = omega arith
few_marks (given mark) = omega arith

-- the sides u and w of the test t were read, up to w's end, and its node was put, with the number k
module _ (d : Bool) (s : List ℕ) (positive : Bool) (depth : ℕ) (c : Cursor) (eq : c.dotted ≡ d) (xs ys : List Node) (u w : Side) (t : Test (Column d))
    (p : IsOperand d s u (comparison t).left) (q : IsOperand d s w (comparison t).right) (far : c.at + 2 ≤ w.next) (within : w.next ≤ length s) where
  found : Stands s c → (r : Cursor) (k : ℕ) → k ≡ predicate_number (comparison t).op
      → PutsNode xs (with_sides depth u w c) (comparison_node depth (cond positive k (opposite_of k)) u.start w.start) ys r
      → Found d s positive depth c xs r ys (compare t) (tokens (drop w.next s))
  found st r k number put = subst (λ z. Found d s positive depth c xs z ys (compare t) (tokens (drop w.next s))) (sym put.counted) here
    where
      x : Operand d
      x = (comparison t).left

      y : Operand d
      y = (comparison t).right

      node : node_on d s (comparison_node depth (cond positive k (opposite_of k)) u.start w.start) ≡ leaf (signed positive (comparison t))
      node =
          ap (λ j. node_on d s (comparison_node depth (cond positive j (opposite_of j)) u.start w.start)) number
          ∙ node_is depth d s positive u.start w.start (comparison t).op x y p.here q.here

      here : Found d s positive depth c xs (with_node (with_sides depth u w c)) ys (compare t) (tokens (drop w.next s))
      here =
          record {
            dotted = eq;
            moved = omega arith;
            stands = record {
              short = st.short;
              inside = within;
              few_nodes = omega (arith, st.few_nodes);
              few_marks = omega (arith, st.few_marks, p.marks, q.marks, few_marks x, few_marks y);
            };
            left = refl;
            over = ap₂ (λ (m n : Bool). c.over || (ltb most_depth depth || (m || n))) p.over q.over;
            nodes_are = refl;
            marks_are = omega (arith, p.marks, q.marks, append-marks (x ∷ []) (y ∷ []));
            noted = λ h. ap (nodes_on d s) (put.noted (omega arith)) ∙ nodes-put (take c.nodes xs) _ d s ∙ ap (λ n. nodes_on d s (take c.nodes xs) ++ (n ∷ [])) node;
            bare = λ h. ap bare_marks_on (put.noted (omega arith)) ∙ marks-put (take c.nodes xs) _;
            spread = omega arith;
          }

-- ---- the answers of `read_null`: what follows IS

null-or : (k : Kind) → Dec (k ≡ Null)
null-or Null = yes refl
null-or _ = no (λ e. cc)

module _ (d : Bool) (s : List ℕ) (positive : Bool) (depth : ℕ) (c : Cursor) (eq : c.dotted ≡ d) (xs : List Node) (a : Side) (at : ℕ)
    (st : Stands s c) (R : Reaches s c a at) (x : Column d) (p : IsOperand d s a (column x)) (r : Maybe Cursor) (ys : List Node) where
  abbrev Answers : Option (Test (Column d) × List T.Token) → Type 0
  Answers o = Meets d s positive depth c xs r ys (then o (λ t. done (compare t)))

  -- NULL makes the test t, or there is none
  ends : (t : Test (Column d)) → IsOperand d s a (comparison t).left → IsOperand d s a (comparison t).right
      → (from : ℕ) → at ≤ from → (u : Token) → u ≡ token_at s from
      → PutsNull xs c positive depth a (predicate_number (comparison t).op) u ys r → Answers ((expect (keyword NULL) >> done t) (tokens (drop from s)))
  ends t l q from le u e put = go (null-or u.kind) r put
    where
      Answered : Maybe Cursor → Type 0
      Answered v = Meets d s positive depth c xs v ys (then ((expect (keyword NULL) >> done t) (tokens (drop from s))) (λ t. done (compare t)))

      go : Dec (u.kind ≡ Null) → (v : Maybe Cursor) → PutsNull xs c positive depth a (predicate_number (comparison t).op) u ys v → Answered v
      go (yes k) None put = absurd (put k)
      go (yes k) (Some w) put =
          let g : Goes s from u.next (keyword NULL) = goes s from u e (keyword NULL) refl k in
          subst (λ o. Meets d s positive depth c xs (Some w) ys (then o (λ t. done (compare t)))) (sym (ap (expect (keyword NULL) >> done t) g.after ∙ then_some (λ _. done t) (expect-here (keyword NULL) (tokens (drop u.next s)))))
          (found d s positive depth c eq xs ys a (ended_at u.next a) t l (record { here = q.here; over = q.over; marks = q.marks }) (omega (arith, R.on, g.on)) g.within
          st w (predicate_number (comparison t).op) refl put.1)
      go (no k) None put =
          subst (λ o. Meets d s positive depth c xs None ys (then o (λ t. done (compare t)))) (sym (then-none (λ _. done t) (passing-stops (keyword NULL) (done tt) fails (tokens (drop from s)) (stops s from u e (keyword NULL) k))))
          tt
      go (no k) (Some w) put = absurd (k put.0)

  -- either with NOT before it
  abbrev negated : Reader (Test (Column d))
  negated = expect (keyword NULL) >> done (tests-not-null x)

  abbrev plain : Reader (Test (Column d))
  plain = expect (keyword NULL) >> done (tests_null x)

  module _ (v : Token) (e : v ≡ token_at s at) where
    pub null-negated : v.kind ≡ Not → (u : Token) → u ≡ token_at s v.next → PutsNull xs c positive depth a 7 u ys r → Answers (a_null (a_column d) x (tokens (drop at s)))
    null-negated k u f put =
        let g : Goes s at v.next (keyword NOT) = goes s at v e (keyword NOT) refl k in
        subst Answers (sym (ap (a_null (a_column d) x) g.after ∙ passing-yes (keyword NOT) negated plain (tokens (drop v.next s))))
        (ends (tests-not-null x) p p v.next (omega (arith, g.on)) u f put)

    pub null-plain : v.kind ≢ Not → PutsNull xs c positive depth a 6 v ys r → Answers (a_null (a_column d) x (tokens (drop at s)))
    null-plain k put =
        subst Answers (sym (passing-stops (keyword NOT) negated plain (tokens (drop at s)) (stops s at v e (keyword NOT) k)))
        (ends (tests_null x) p p at (le_refl at) v e put)

-- ---- the answers of `read_comparison`, whose sides are a and w

is-is : (k : Kind) → is_is k ≡ true → k ≡ Is
is-is Is e = refl
is-is _ e = cc

-- what follows an operand, but IS behind a column
behind-rest : {C : Type 0} (a_column : Reader C) (x : Term C) (ts : List T.Token) → (is_column x ≡ true → begins (keyword IS) ts ≡ false) → a_test a_column x ts ≡ a_rest a_column x ts
behind-rest a_column (column n) ts h = passing-stops (keyword IS) (a_null a_column n) (a_rest a_column (column n)) ts (h refl)
behind-rest a_column (given v) ts h = refl

module _ (d : Bool) (s : List ℕ) (positive : Bool) (depth : ℕ) (c : Cursor) (eq : c.dotted ≡ d) (xs : List Node) (r : Maybe Cursor) (ys : List Node) where
  abbrev Answer : Type 0
  Answer = Meets d s positive depth c xs r ys (a_comparison (a_column d) (tokens (drop c.at s)))

  misses : a_comparison (a_column d) (tokens (drop c.at s)) ≡ none → r ≡ None → Answer
  misses e q = subst (λ v. Meets d s positive depth c xs v ys (a_comparison (a_column d) (tokens (drop c.at s)))) (sym q) (subst (Meets d s positive depth c xs None ys) (sym e) tt)

  module _ (first : Token) (e₁ : first ≡ token_at s c.at) where
    pub no-left : Sides s c.at None (IsOperand d s) (a_term (a_column d) (tokens (drop c.at s))) → r ≡ None → Answer
    no-left k = misses (then-none _ (side-none s c.at (IsOperand d s) (a_term (a_column d) (tokens (drop c.at s))) k))

    module _ (a : Side) (k₁ : Sides s c.at (Some a) (IsOperand d s) (a_term (a_column d) (tokens (drop c.at s)))) (v : Token) (e₂ : v ≡ token_at s a.next) where
      abbrev left : Reached s c.at a (IsOperand d s a) (a_term (a_column d) (tokens (drop c.at s)))
      left = side s c.at (IsOperand d s) a (a_term (a_column d) (tokens (drop c.at s))) k₁

      -- the left side is a column exactly if its first token is a name
      left-column : is_column left.value ≡ is_name first.kind
      left-column = first-column d s c.at first e₁ left.value (tokens (drop a.next s)) left.found

      -- behind a column IS follows
      module _ (h₂ : (is_is v.kind && is_name first.kind) ≡ true) where
        is-there : Goes s a.next v.next (keyword IS)
        is-there = goes s a.next v e₂ (keyword IS) refl (is-is v.kind (and_left (is_is v.kind) _ h₂))

        column-there : (n : Column d) × (left.value ≡ column n)
        column-there = column-is left.value (left-column ∙ and_right (is_is v.kind) _ h₂)

        pub null-reaches : Reaches s c a v.next
        null-reaches = record {
          on = omega (arith, left.spans.on, is-there.on);
          within = is-there.within;
          begun = omega (arith, left.spans.begun, is-there.on);
          unmarked = left.is.marks ∙ ap (λ t. mark_count (term_givens (t ∷ []))) column-there.1;
        }

        pub tests : TestsNull s positive depth c xs a v.next r ys → Answer
        tests h =
            let n : Column d = column-there.0 in
            let e : left.value ≡ column n = column-there.1 in
            subst (Meets d s positive depth c xs r ys)
            (sym
            (then_some _ left.found
            ∙ ap (λ o. then o (λ t. done (compare t)))
            (ap₂ (a_test (a_column d)) e is-there.after ∙ passing-yes (keyword IS) (a_null (a_column d) n) (a_rest (a_column d) (column n)) (tokens (drop v.next s)))))
            (h d eq n (subst (IsOperand d s a) e left.is))

      -- or it does not
      module _ (h₂ : (is_is v.kind && is_name first.kind) ≡ false) where
        no-is : is_column left.value ≡ true → begins (keyword IS) (tokens (drop a.next s)) ≡ false
        no-is e = stops s a.next v e₂ (keyword IS) (λ k. clash (and_both (is_is v.kind) _ (ap is_is k) (sym left-column ∙ e)) h₂)

        -- what the rest makes of it
        then-rest : (o : Option (Test (Column d) × List T.Token)) → a_rest (a_column d) left.value (tokens (drop a.next s)) ≡ o
            → a_comparison (a_column d) (tokens (drop c.at s)) ≡ then o (λ t. done (compare t))
        then-rest o e =
            then_some _ left.found
            ∙ ap (λ o. then o (λ t. done (compare t))) (behind-rest (a_column d) left.value (tokens (drop a.next s)) no-is ∙ e)

        pub no_sign : operator_in v.kind ≡ None → r ≡ None → Answer
        no_sign h = misses (then-rest none (then-none _ (sign-none s a.next v e₂ h)))

        module _ (op : ℕ) (h₃ : operator_in v.kind ≡ Some op) where
          abbrev between : (o : Operator) × Sign s a.next v op o
          between = sign s a.next v e₂ op h₃

          pub no-right : Sides s v.next None (IsOperand d s) (a_term (a_column d) (tokens (drop v.next s))) → r ≡ None → Answer
          no-right k =
              misses
              (then-rest none
              (then_some _ between.1.reads ∙ then-none _ (side-none s v.next (IsOperand d s) (a_term (a_column d) (tokens (drop v.next s))) k)))

          -- all three are there
          module _ (w : Side) (k₃ : Sides s v.next (Some w) (IsOperand d s) (a_term (a_column d) (tokens (drop v.next s)))) (st : Stands s c) where
            abbrev right : Reached s v.next w (IsOperand d s w) (a_term (a_column d) (tokens (drop v.next s)))
            right = side s v.next (IsOperand d s) w (a_term (a_column d) (tokens (drop v.next s))) k₃

            pub compared : (e : Cursor) → r ≡ Some e → PutsNode xs (with_sides depth a w c) (comparison_node depth (cond positive op (opposite_of op)) a.start w.start) ys e → Answer
            compared e q put =
                let m = left in
                let n = right in
                let o : Operator = between.0 in
                let g : Sign s a.next v op o = between.1 in
                subst (λ v. Meets d s positive depth c xs v ys (a_comparison (a_column d) (tokens (drop c.at s)))) (sym q)
                (subst (Meets d s positive depth c xs (Some e) ys)
                (sym (then-rest (some (compares m.value o n.value, tokens (drop w.next s))) (then_some _ g.reads ∙ then_some _ n.found)))
                (found d s positive depth c eq xs ys a w (compares m.value o n.value) m.is n.is (omega (arith, m.spans.on, g.on, n.spans.on)) n.spans.within
                st e op g.number put))

-- for every b the sides of a comparison are read as the cursor says
pub side-as : (s : List ℕ) (first : Token) (r : Maybe Side) (c d : Bool) → c ≡ d → ReadsSide c s first r → ReadsSide d s first r
side-as s first r c d e h = subst (λ b. ReadsSide b s first r) e h
