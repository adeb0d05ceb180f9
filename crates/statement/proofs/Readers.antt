-- The answers of the readers, over plain values: what a reader may answer, from what its calls answered. Assumes nothing.
use mathlib.Core.Path.{◌≡◌, refl, sym, ap, subst, ◌∙◌}
use mathlib.Core.Bool.{Bool, true, false, not, cond, ◌||◌, or-false}
use mathlib.Core.Option.{Option, none, some}
use Rattle.std.specs.Prelude.{Option as Maybe, Some, None}
use mathlib.Core.List.{List, [], ◌∷◌, ◌++◌, append-nil, append_assoc}
use Prim.Native.Nat.{ℕ, zero, suc, ◌+◌, ◌-◌, ◌*◌, ◌≤◌, ◌<◌}
use native.Mathlib.Nat.{le_refl, add-zero}
use native.Mathlib.Omega.{arith}
use lib.ListN.{length, take, drop, length-append}
use Rattle.lists.proofs.Bools.{or_assoc}
use Rattle.meaning.specs.Condition.{Level, atom, conjunction, disjunction, mapped, negate, group, alone, both, single, either, comparisons}
use Rattle.meaning.specs.Postfix.{Node, nodes, join_all, join_any}
use Rattle.meaning.specs.Tokens as T
use Rattle.meaning.specs.Tokens.{tokens, keyword, lparen, rparen, NOT, AND, OR}
use Rattle.meaning.specs.Grammar.{comparison}
use Rattle.meaning.specs.Reader.{Reader, then, ◌>>=◌, ◌>>◌, done, passing, expect, a_condition}
use Rattle.meaning.proofs.Readers.{begins, passing-yes, passing-stops}
use Rattle.meaning.proofs.Decides.{reads-not, reads-open, reads-compare, reads-and, reads-or}
use Rattle.statement.specs.declared.conditions.Node.{Node as Noted}
use Rattle.statement.specs.declared.conditions.Node.TheVariants.{And, Or}
use Rattle.statement.specs.Private.Places.{node_on, nodes_on, bare_mark, bare_marks_on}
use Rattle.statement.specs.Private.Reading.{moved_to, with_node, PutsNode, Stands, Operand, Written, a_column, condition_past, bare_marks, marks_in, Found, Meets, rank, Compares, Reads}
use Rattle.statement.specs.Private.Sentences.{Before, Agree, Counts, Expects}
use Rattle.token.specs.declared.Kind.TheVariants.{Close}
use Rattle.statement.specs.declared.conditions.Cursor.{Cursor}
use Rattle.statement.proofs.Nodes.{nodes-put, marks-put}
use Rattle.statement.proofs.Operands.{marks-of-both}
use Rattle.statement.proofs.Steps.{Goes}

-- ---- what was found, as another condition

module _ (b : Bool) (s : List ℕ) (positive : Bool) (depth : ℕ) (c : Cursor) (xs : List Noted) where
  -- t and then d were read, with the token between them, and the node that joins them was put: u is what they make
  module _ {lo hi : Level} (t : Written b lo) (d u : Written b hi) (p : Cursor) (ys : List Noted) (q : Cursor) (zs : List Noted) (next : ℕ) (node : Noted) (join : Node (Operand b))
      (over-is : condition_past b depth (mapped comparison u) ≡ (condition_past b depth (mapped comparison t) || condition_past b depth (mapped comparison d)))
      (marks-is : marks_in (mapped comparison u) ≡ marks_in (mapped comparison t) + marks_in (mapped comparison d))
      (nodes-is : nodes positive (mapped comparison u) ≡ nodes positive (mapped comparison t) ++ (nodes positive (mapped comparison d) ++ (join ∷ [])))
      (bare_is : bare_marks depth (mapped comparison u) ≡ bare_marks depth (mapped comparison t) ++ bare_marks depth (mapped comparison d))
      (node_is : node_on b s node ≡ join) (unmarked : bare_mark node ≡ []) where
    joined : (more left : List T.Token) → Found b s positive depth c xs p ys t more → p.at < next → Found b s positive depth (moved_to next p) ys q zs d left
        → (r : Cursor) (ws : List Noted) → PutsNode zs q node ws r → Found b s positive depth c xs r ws u left
    joined more left f on g r ws put = subst (λ z. Found b s positive depth c xs z ws u left) (sym put.counted) here
      where
        many : length (nodes positive (mapped comparison u)) ≡ length (nodes positive (mapped comparison t)) + length (nodes positive (mapped comparison d)) + 1
        many = ap length nodes-is ∙ simp length-append (omega arith)

        regrouped : ((nodes_on b s (take c.nodes xs) ++ nodes positive (mapped comparison t)) ++ nodes positive (mapped comparison d)) ++ (join ∷ [])
            ≡ nodes_on b s (take c.nodes xs) ++ (nodes positive (mapped comparison t) ++ (nodes positive (mapped comparison d) ++ (join ∷ [])))
        regrouped = simp append_assoc

        st : Stands s q
        st = g.stands

        notes : q.nodes + 1 ≤ 15 → nodes_on b s (take (q.nodes + 1) ws) ≡ nodes_on b s (take c.nodes xs) ++ nodes positive (mapped comparison u)
        notes h =
            ap (nodes_on b s) (put.noted (omega arith))
            ∙ nodes-put (take q.nodes zs) node b s
            ∙ ap (λ ns. ns ++ (node_on b s node ∷ [])) (g.noted (omega arith) ∙ ap (λ ns. ns ++ nodes positive (mapped comparison d)) (f.noted (omega (arith, g.nodes_are))))
            ∙ ap (λ n. ((nodes_on b s (take c.nodes xs) ++ nodes positive (mapped comparison t)) ++ nodes positive (mapped comparison d)) ++ (n ∷ [])) node_is
            ∙ regrouped
            ∙ ap (λ ns. nodes_on b s (take c.nodes xs) ++ ns) (sym nodes-is)

        marks : q.nodes + 1 ≤ 15 → bare_marks_on (take (q.nodes + 1) ws) ≡ bare_marks_on (take c.nodes xs) ++ bare_marks depth (mapped comparison u)
        marks h =
            ap bare_marks_on (put.noted (omega arith))
            ∙ marks-put (take q.nodes zs) node
            ∙ ap (λ bs. bare_marks_on (take q.nodes zs) ++ bs) unmarked
            ∙ append-nil (bare_marks_on (take q.nodes zs))
            ∙ g.bare (omega arith)
            ∙ ap (λ bs. bs ++ bare_marks depth (mapped comparison d)) (f.bare (omega (arith, g.nodes_are)))
            ∙ append_assoc (bare_marks_on (take c.nodes xs)) (bare_marks depth (mapped comparison t)) (bare_marks depth (mapped comparison d))
            ∙ ap (λ bs. bare_marks_on (take c.nodes xs) ++ bs) (sym bare_is)

        here : Found b s positive depth c xs (with_node q) ws u left
        here =
            record {
              dotted = g.dotted;
              moved = omega (arith, f.moved, g.moved);
              stands = record { short = st.short; inside = st.inside; few_nodes = omega (arith, g.spread, f.stands.few_nodes); few_marks = st.few_marks };
              left = g.left;
              over = g.over ∙ ap (λ z. z || condition_past b depth (mapped comparison d)) f.over
                  ∙ sym (or_assoc c.over (condition_past b depth (mapped comparison t)) (condition_past b depth (mapped comparison d))) ∙ ap (λ z. c.over || z) (sym over-is);
              nodes_are = omega (arith, g.nodes_are, f.nodes_are, many);
              marks_are = omega (arith, g.marks_are, f.marks_are, marks-is);
              noted = notes;
              bare = marks;
              spread = omega (arith, f.spread, g.spread);
            }

-- a condition as another one that says the same
abbrev Same : (b : Bool) {lo hi : Level} → Bool → ℕ → Written b lo → Bool → ℕ → Written b hi → Type 0
Same b p d t q e u =
    (condition_past b d (mapped comparison t) ≡ condition_past b e (mapped comparison u))
    × (marks_in (mapped comparison t) ≡ marks_in (mapped comparison u))
    × (nodes p (mapped comparison t) ≡ nodes q (mapped comparison u))
    × (bare_marks d (mapped comparison t) ≡ bare_marks e (mapped comparison u))

-- what was found under p and d, from a later place on, is found under q and e, from an earlier one on
found_as : (b : Bool) {lo hi : Level} (s : List ℕ) (p : Bool) (d : ℕ) (q : Bool) (e : ℕ) (c : Cursor) (at : ℕ) (xs : List Noted) (r : Cursor) (ys : List Noted)
    (t : Written b lo) (u : Written b hi) (more : List T.Token) → Same b p d t q e u → c.at ≤ at → Found b s p d (moved_to at c) xs r ys t more → Found b s q e c xs r ys u more
found_as b s p d q e c at xs r ys t u more same le f =
    record {
      dotted = f.dotted;
      moved = omega (arith, f.moved);
      stands = f.stands;
      left = f.left;
      over = f.over ∙ ap (λ z. c.over || z) same.0;
      nodes_are = f.nodes_are ∙ ap (λ ns. c.nodes + length ns) same.2;
      marks_are = f.marks_are ∙ ap (λ n. c.marks + n) same.1;
      noted = λ h. f.noted h ∙ ap (λ ns. nodes_on b s (take c.nodes xs) ++ ns) same.2;
      bare = λ h. f.bare h ∙ ap (λ bs. bare_marks_on (take c.nodes xs) ++ bs) same.3;
      spread = omega (arith, f.spread);
    }

-- what a reader found moved on, and stands; columns are dotted as before
found-more : (l : Level) (s : List ℕ) (positive : Bool) (depth : ℕ) (c : Cursor) (xs : List Noted) (r : Cursor) (ys : List Noted) → Reads l s positive depth c xs (Some r) ys
    → (Stands s r × (c.at < r.at) × (r.nodes + c.at ≤ c.nodes + r.at)) × (r.dotted ≡ c.dotted)
found-more l s positive depth c xs r ys m = go (a_condition (a_column c.dotted) (3 * (length s - c.at) + rank l) l (tokens (drop c.at s))) (m c.dotted refl _ (le_refl _))
  where
    go : (x : Option (Written c.dotted l × List T.Token)) → Meets c.dotted s positive depth c xs (Some r) ys x
        → (Stands s r × (c.at < r.at) × (r.nodes + c.at ≤ c.nodes + r.at)) × (r.dotted ≡ c.dotted)
    go none n = absurd n
    go (some x) n = ((n.stands, n.moved, n.spread), n.dotted)

pub found-on : (l : Level) (s : List ℕ) (positive : Bool) (depth : ℕ) (c : Cursor) (xs : List Noted) (r : Cursor) (ys : List Noted) → Reads l s positive depth c xs (Some r) ys
    → Stands s r × (c.at < r.at) × (r.nodes + c.at ≤ c.nodes + r.at)
found-on l s positive depth c xs r ys m = (found-more l s positive depth c xs r ys m).0

-- ---- AND and OR: what follows the first condition

module _ (b : Bool) {lo hi : Level} (k : T.Token) (wrap : Written b lo → Written b hi) (join : Written b lo → Written b hi → Written b hi) (again : Reader (Written b hi)) where
  abbrev rest : Written b lo → Reader (Written b hi)
  rest t = passing k (again >>= λ d. done (join t d)) (done (wrap t))

  module _ (s : List ℕ) (positive : Bool) (depth : ℕ) (c : Cursor) (xs : List Noted) (ys : List Noted) where
    -- the first failed
    chain-fails : (x : Option (Written b lo × List T.Token)) → Meets b s positive depth c xs None ys x → Meets b s positive depth c xs None ys (then x rest)
    chain-fails none m = tt
    chain-fails (some y) m = absurd m

    module _ (p : Cursor) where
      -- the first is all
      chain-stops : ((t : Written b lo) → Same b positive depth t positive depth (wrap t))
          → (x : Option (Written b lo × List T.Token)) → Meets b s positive depth c xs (Some p) ys x → begins k (tokens (drop p.at s)) ≡ false
          → Meets b s positive depth c xs (Some p) ys (then x rest)
      chain-stops w none m i = absurd m
      chain-stops w (some y) m i =
          subst (Meets b s positive depth c xs (Some p) ys) (sym (passing-stops k (again >>= λ d. done (join y.0 d)) (done (wrap y.0)) y.1 (ap (begins k) (sym m.left) ∙ i)))
          (found_as b s positive depth positive depth c c.at xs p ys y.0 (wrap y.0) y.1 (w y.0) (le_refl c.at) m)

      -- the second is read from `next` on, which leaves q; r is the answer
      module _ (q : Maybe Cursor) (zs : List Noted) (next : ℕ) (t : Goes s p.at next k) (r : Maybe Cursor) (ws : List Noted) where
        chain-goes : ((x : Written b lo) (more : List T.Token) → Found b s positive depth c xs p ys x more → (o : Option (Written b hi × List T.Token))
            → Meets b s positive depth (moved_to next p) ys q zs o → Meets b s positive depth c xs r ws (then o (λ d. done (join x d))))
            → (x : Option (Written b lo × List T.Token)) → Meets b s positive depth c xs (Some p) ys x
            → Meets b s positive depth (moved_to next p) ys q zs (again (tokens (drop next s))) → Meets b s positive depth c xs r ws (then x rest)
        chain-goes j none m n = absurd m
        chain-goes j (some y) m n =
            subst (Meets b s positive depth c xs r ws)
            (sym (ap (rest y.0) (sym m.left ∙ t.after) ∙ passing-yes k (again >>= λ d. done (join y.0 d)) (done (wrap y.0)) (tokens (drop next s))))
            (j y.0 y.1 m (again (tokens (drop next s))) n)

-- a level that joins conditions of the one below by the token k: how the grammar reads it, and what the joined condition is
pub record Chain (lo hi : Level) (k : T.Token) (wrap : (b : Bool) → Written b lo → Written b hi) (join : (b : Bool) → Written b lo → Written b hi → Written b hi)
    (noted : Bool → Noted) (node : (b : Bool) → Bool → Node (Operand b)) : Type 0 where
  pub unrolls : (b : Bool) (n : ℕ) (ts : List T.Token) → a_condition (a_column b) (suc n) hi ts ≡ then (a_condition (a_column b) n lo ts) (rest b k (wrap b) (join b) (a_condition (a_column b) n hi))
  pub higher : rank hi ≡ suc (rank lo)
  pub same : (b : Bool) (p : Bool) (d : ℕ) (t : Written b lo) → Same b p d t p d (wrap b t)
  pub over : (b : Bool) (d : ℕ) (t : Written b lo) (u : Written b hi)
      → condition_past b d (mapped comparison (join b t u)) ≡ (condition_past b d (mapped comparison t) || condition_past b d (mapped comparison u))
  pub marks : (b : Bool) (t : Written b lo) (u : Written b hi) → marks_in (mapped comparison (join b t u)) ≡ marks_in (mapped comparison t) + marks_in (mapped comparison u)
  pub nodes_are : (b : Bool) (p : Bool) (t : Written b lo) (u : Written b hi)
      → nodes p (mapped comparison (join b t u)) ≡ nodes p (mapped comparison t) ++ (nodes p (mapped comparison u) ++ (node b p ∷ []))
  pub bare_is : (b : Bool) (d : ℕ) (t : Written b lo) (u : Written b hi)
      → bare_marks d (mapped comparison (join b t u)) ≡ bare_marks d (mapped comparison t) ++ bare_marks d (mapped comparison u)
  pub node_is : (b : Bool) (s : List ℕ) (p : Bool) → node_on b s (noted p) ≡ node b p
  pub unmarked : (p : Bool) → bare_mark (noted p) ≡ []

abbrev pub and_noted : Bool → Noted
and_noted p = cond p And Or

abbrev pub or_noted : Bool → Noted
or_noted p = cond p Or And

pub ands : Chain atom conjunction (keyword AND) (λ b. alone) (λ b. both) and_noted (λ b. join_all)
ands =
    record {
      unrolls = λ b. reads-and (a_column b);
      higher = refl;
      same = λ b p d t. (refl, refl, refl, refl);
      over = λ b d t u. refl;
      marks = λ b t u. marks-of-both (comparisons (mapped comparison t)) (comparisons (mapped comparison u));
      nodes_are = λ b p t u. refl;
      bare_is = λ b d t u. refl;
      node_is = go;
      unmarked = none;
    }
  where
    go : (b : Bool) (s : List ℕ) (p : Bool) → node_on b s (and_noted p) ≡ join_all p
    go b s true = refl
    go b s false = refl

    none : (p : Bool) → bare_mark (and_noted p) ≡ []
    none true = refl
    none false = refl

pub ors : Chain conjunction disjunction (keyword OR) (λ b. single) (λ b. either) or_noted (λ b. join_any)
ors =
    record {
      unrolls = λ b. reads-or (a_column b);
      higher = refl;
      same = λ b p d t. (refl, refl, refl, refl);
      over = λ b d t u. refl;
      marks = λ b t u. marks-of-both (comparisons (mapped comparison t)) (comparisons (mapped comparison u));
      nodes_are = λ b p t u. refl;
      bare_is = λ b d t u. refl;
      node_is = go;
      unmarked = none;
    }
  where
    go : (b : Bool) (s : List ℕ) (p : Bool) → node_on b s (or_noted p) ≡ join_any p
    go b s true = refl
    go b s false = refl

    none : (p : Bool) → bare_mark (or_noted p) ≡ []
    none true = refl
    none false = refl

-- ---- the answers of `read_and` and `read_or`: n is at least 1 call, since each asks for calls of its own

module _ {lo hi : Level} {k : T.Token} {wrap : (b : Bool) → Written b lo → Written b hi} {join : (b : Bool) → Written b lo → Written b hi → Written b hi}
    {noted : Bool → Noted} {node : (b : Bool) → Bool → Node (Operand b)}
    (𝓒 : Chain lo hi k wrap join noted node) (s : List ℕ) (positive : Bool) (depth : ℕ) (c : Cursor) (xs : List Noted) (ys : List Noted) where
  unrolled : (v : Maybe Cursor) (m : Reads lo s positive depth c xs v ys) (r : Maybe Cursor) (ws : List Noted)
      → ((b : Bool) → c.dotted ≡ b → (n : ℕ) → 3 * (length s - c.at) + rank lo ≤ n
      → Meets b s positive depth c xs r ws (then (a_condition (a_column b) n lo (tokens (drop c.at s))) (rest b k (wrap b) (join b) (a_condition (a_column b) n hi))))
      → Reads hi s positive depth c xs r ws
  unrolled v m r ws f b eb zero h = absurd (omega (arith, 𝓒.higher))
  unrolled v m r ws f b eb (suc n) h = subst (Meets b s positive depth c xs r ws) (sym (𝓒.unrolls b n (tokens (drop c.at s)))) (f b eb n (omega (arith, 𝓒.higher)))

  pub first-fails : (v : Maybe Cursor) → v ≡ None → Reads lo s positive depth c xs None ys → Reads hi s positive depth c xs v ys
  first-fails v e m = subst (λ r. Reads hi s positive depth c xs r ys) (sym e) (unrolled None m None ys (λ b eb n h. chain-fails b k (wrap b) (join b) (a_condition (a_column b) n hi) s positive depth c xs ys (a_condition (a_column b) n lo (tokens (drop c.at s))) (m b eb n h)))

  module _ (p : Cursor) (m : Reads lo s positive depth c xs (Some p) ys) where
    pub first_alone : begins k (tokens (drop p.at s)) ≡ false → Reads hi s positive depth c xs (Some p) ys
    first_alone i =
        unrolled (Some p) m (Some p) ys (λ b eb n h.
        chain-stops b k (wrap b) (join b) (a_condition (a_column b) n hi) s positive depth c xs ys p (𝓒.same b positive depth) (a_condition (a_column b) n lo (tokens (drop c.at s))) (m b eb n h) i)

    module _ (next : ℕ) (t : Goes s p.at next k) (q : Maybe Cursor) (zs : List Noted) (w : Reads hi s positive depth (moved_to next p) ys q zs) where
      second-goes : (r : Maybe Cursor) (ws : List Noted)
          → ((b : Bool) (x : Written b lo) (more : List T.Token) → Found b s positive depth c xs p ys x more → (o : Option (Written b hi × List T.Token))
          → Meets b s positive depth (moved_to next p) ys q zs o → Meets b s positive depth c xs r ws (then o (λ d. done (join b x d))))
          → Reads hi s positive depth c xs r ws
      second-goes r ws j =
          let on = found-more lo s positive depth c xs p ys m in
          unrolled (Some p) m r ws (λ b eb n h.
          chain-goes b k (wrap b) (join b) (a_condition (a_column b) n hi) s positive depth c xs ys p q zs next t r ws (j b) (a_condition (a_column b) n lo (tokens (drop c.at s))) (m b eb n h)
          (w b (on.1 ∙ eb) n (omega (arith, 𝓒.higher, on.0.1, t.on, t.within))))

    module _ (next : ℕ) (t : Goes s p.at next k) (zs : List Noted) where
      pub second-fails : (v : Maybe Cursor) → v ≡ None → Reads hi s positive depth (moved_to next p) ys None zs → Reads hi s positive depth c xs v zs
      second-fails v e w = subst (λ r. Reads hi s positive depth c xs r zs) (sym e) (second-goes next t None zs w None zs go)
        where
          go : (b : Bool) (x : Written b lo) (more : List T.Token) → Found b s positive depth c xs p ys x more → (o : Option (Written b hi × List T.Token))
              → Meets b s positive depth (moved_to next p) ys None zs o → Meets b s positive depth c xs None zs (then o (λ d. done (join b x d)))
          go b x more g none n = tt
          go b x more g (some d) n = absurd n

      pub second-joins : (q : Cursor) → Reads hi s positive depth (moved_to next p) ys (Some q) zs → (r : Cursor) (ws : List Noted) (n : Noted) → n ≡ noted positive → PutsNode zs q n ws r
          → Reads hi s positive depth c xs (Some r) ws
      second-joins q w r ws i ei put = second-goes next t (Some q) zs w (Some r) ws go
        where
          go : (b : Bool) (x : Written b lo) (more : List T.Token) → Found b s positive depth c xs p ys x more → (o : Option (Written b hi × List T.Token))
              → Meets b s positive depth (moved_to next p) ys (Some q) zs o → Meets b s positive depth c xs (Some r) ws (then o (λ d. done (join b x d)))
          go b x more g none n = absurd n
          go b x more g (some y) n =
              joined b s positive depth c xs x y.0 (join b x y.0) p ys q zs next (noted positive) (node b positive) (𝓒.over b depth x y.0) (𝓒.marks b x y.0) (𝓒.nodes_are b positive x y.0)
              (𝓒.bare_is b depth x y.0) (𝓒.node_is b s positive) (𝓒.unmarked positive)
              more y.1 g t.on n r ws (subst (λ z. PutsNode zs q z ws r) ei put)

-- ---- the closing parenthesis

-- what was found before it is found behind it
passed-found : (b : Bool) {l : Level} (s : List ℕ) (positive : Bool) (depth : ℕ) (c : Cursor) (xs : List Noted) (p : Cursor) (ys : List Noted)
    (t : Written b l) (more : List T.Token) (q : Cursor) (left : List T.Token)
    → Found b s positive depth c xs p ys t more → Before s q left → Counts p q false 0 → Found b s positive depth c xs q ys t left
passed-found b s positive depth c xs p ys t more q left f k n =
    record {
      dotted = n.dotted ∙ f.dotted;
      moved = omega (arith, f.moved, n.moved);
      stands = k.stands;
      left = k.left;
      over = n.over ∙ or-false p.over ∙ f.over;
      nodes_are = n.nodes_are ∙ f.nodes_are;
      marks_are = n.marks_are ∙ add-zero p.marks ∙ f.marks_are;
      noted = λ h. ap (λ i. nodes_on b s (take i ys)) n.nodes_are ∙ f.noted (omega (arith, n.nodes_are));
      bare = λ h. ap (λ i. bare_marks_on (take i ys)) n.nodes_are ∙ f.bare (omega (arith, n.nodes_are));
      spread = omega (arith, f.spread, n.moved, n.nodes_are);
    }

-- ---- the answers of `read_one`

module _ (s : List ℕ) (positive : Bool) (depth : ℕ) (c : Cursor) (xs : List Noted) (ys : List Noted) (next : ℕ) where
  pub one-negates : (p : Maybe Cursor) → Goes s c.at next (keyword NOT) → Reads atom s (not positive) (depth + 1) (moved_to next c) xs p ys → Reads atom s positive depth c xs p ys
  one-negates p g m b eb zero h = absurd (omega arith)
  one-negates p g m b eb (suc n) h =
      subst (Meets b s positive depth c xs p ys) (sym (ap (a_condition (a_column b) (suc n) atom) g.after ∙ reads-not (a_column b) n (tokens (drop next s))))
      (go p (a_condition (a_column b) n atom (tokens (drop next s))) (m b eb n (omega (arith, g.on, g.within))))
    where
      go : (v : Maybe Cursor) (x : Option (Written b atom × List T.Token)) → Meets b s (not positive) (depth + 1) (moved_to next c) xs v ys x
          → Meets b s positive depth c xs v ys (then x (λ t. done (negate t)))
      go None none f = tt
      go None (some y) f = absurd f
      go (Some v) none f = absurd f
      go (Some v) (some y) f = found_as b s (not positive) (depth + 1) positive depth c next xs v ys y.0 (negate y.0) y.1 (refl, refl, refl, refl) (omega (arith, g.on)) f

  -- what stands in the parentheses is no condition
  empty : Goes s c.at next lparen → Reads disjunction s positive (depth + 1) (moved_to next c) xs None ys → Reads atom s positive depth c xs None ys
  empty g m b eb zero h = absurd (omega arith)
  empty g m b eb (suc n) h =
      subst (Meets b s positive depth c xs None ys) (sym (ap (a_condition (a_column b) (suc n) atom) g.after ∙ reads-open (a_column b) n (tokens (drop next s))))
      (go (a_condition (a_column b) n disjunction (tokens (drop next s))) (m b eb n (omega (arith, g.on, g.within))))
    where
      go : (x : Option (Written b disjunction × List T.Token)) → Meets b s positive (depth + 1) (moved_to next c) xs None ys x
          → Meets b s positive depth c xs None ys (then x (λ t. expect rparen >> done (group t)))
      go none f = tt
      go (some y) f = absurd f

  pub one-empty : (v : Maybe Cursor) → v ≡ None → Goes s c.at next lparen → Reads disjunction s positive (depth + 1) (moved_to next c) xs None ys → Reads atom s positive depth c xs v ys
  one-empty v e g m = subst (λ r. Reads atom s positive depth c xs r ys) (sym e) (empty g m)

  pub one-closes : (p : Cursor) → Goes s c.at next lparen → Reads disjunction s positive (depth + 1) (moved_to next c) xs (Some p) ys → (q : Maybe Cursor) → Expects s Close p q → Reads atom s positive depth c xs q ys
  one-closes p g m q k b eb zero h = absurd (omega arith)
  one-closes p g m q k b eb (suc n) h =
      subst (Meets b s positive depth c xs q ys) (sym (ap (a_condition (a_column b) (suc n) atom) g.after ∙ reads-open (a_column b) n (tokens (drop next s))))
      (go (a_condition (a_column b) n disjunction (tokens (drop next s))) (m b eb n (omega (arith, g.on, g.within))))
    where
      shut : (t : Written b disjunction) (more : List T.Token) → Found b s positive (depth + 1) (moved_to next c) xs p ys t more
          → (v : Maybe Cursor) (o : Option (Unit {0} × List T.Token)) → Agree s (λ d. d) (λ d u. Counts p d false 0) v o → Meets b s positive depth c xs v ys (then o (λ x. done (group t)))
      shut t more f None none z = tt
      shut t more f None (some y) z = absurd z
      shut t more f (Some v) none z = absurd z
      shut t more f (Some v) (some y) z =
          found_as b s positive (depth + 1) positive depth c next xs v ys t (group t) y.1 (refl, refl, refl, refl) (omega (arith, g.on))
          (passed-found b s positive (depth + 1) (moved_to next c) xs p ys t more v y.1 f z.0 z.1)

      go : (x : Option (Written b disjunction × List T.Token)) → Meets b s positive (depth + 1) (moved_to next c) xs (Some p) ys x
          → Meets b s positive depth c xs q ys (then x (λ t. expect rparen >> done (group t)))
      go none f = absurd f
      go (some y) f = shut y.0 y.1 f q (expect rparen y.1) (subst (λ ts. Agree s (λ d. d) (λ d u. Counts p d false 0) q (expect rparen ts)) f.left k.agrees)

pub one-compares : (s : List ℕ) (positive : Bool) (depth : ℕ) (c : Cursor) (xs : List Noted) (p : Maybe Cursor) (ys : List Noted)
    → begins (keyword NOT) (tokens (drop c.at s)) ≡ false → begins lparen (tokens (drop c.at s)) ≡ false
    → Compares s positive depth c xs p ys → Reads atom s positive depth c xs p ys
one-compares s positive depth c xs p ys i j m b eb zero h = absurd (omega arith)
one-compares s positive depth c xs p ys i j m b eb (suc n) h = subst (Meets b s positive depth c xs p ys) (sym (reads-compare (a_column b) n (tokens (drop c.at s)) i j)) (m b eb)
