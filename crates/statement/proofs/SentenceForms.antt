-- An optional WHERE, and the forms, each from its row of readers. Assumes nothing.
use mathlib.Core.Path.{◌≡◌, refl, sym, ap, ◌∙◌}
use mathlib.Core.Bool.{Bool, true, false, ◌||◌, or-false}
use mathlib.Core.Option.{Option, none, some}
use Rattle.std.specs.Prelude.{Option as Maybe, Some, None}
use Rattle.std.proofs.lemmas.Simd.{map-map}
use mathlib.Core.List.{List, [], ◌∷◌, ◌++◌, map, append-nil}
use Prim.Native.Nat.{ℕ, ◌+◌, ◌≤◌}
use native.Mathlib.Nat.{add-zero, zero-add}
use native.Mathlib.Omega.{arith}
use lib.ListN.{length, take, drop}
use Rattle.meaning.specs.Condition.{disjunction, Optional, Where, always, under, mapped_in, operands_in}
use Rattle.meaning.specs.Postfix.{nodes_in}
use Rattle.meaning.specs.Tokens.{Name, Token, keyword, WHERE, tokens}
use Rattle.meaning.specs.Grammar.{Given, Test, comparison, items, Sentence, table, select, pair, insert, update, delete}
use Rattle.meaning.specs.Reader.{Reader, then, ◌>>=◌, done, a_condition, a_where, a_table, a_single, a_pair, an_insert, an_update}
use Rattle.meaning.specs.Limits.{most_items, table_named, list_givens, bare_term, where_of, term_givens, mark_count, givens}
use Rattle.meaning.proofs.Dotted.{bare-givens}
use Rattle.meaning.proofs.Readers.{begins, passing-stops, passing-yes}
use Rattle.statement.specs.declared.conditions.Cursor.{Cursor}
use Rattle.statement.specs.declared.conditions.Node.{Node}
use Rattle.statement.specs.declared.sentences.Item.{Item}
use Rattle.statement.specs.declared.sentences.Contents.TheVariants.{Names as names, Values as values, Settings as settings, Columns as columns}
use Rattle.statement.specs.declared.sentences.Form.TheVariants.{Table, Select, Insert, Update, Delete, Pair}
use Rattle.statement.specs.declared.sentences.Entry.{Entry}
use Rattle.token.specs.declared.Kind.TheVariants.{Comma, Open, Close, From, Into, Values, Set}
use Rattle.statement.specs.Private.Places.{name_on, Column, nodes_on, bare_marks_on}
use Rattle.statement.specs.Private.Reading.{Stands, Operand, Written, a_column, moved_to, Meets, Reads}
use Rattle.statement.specs.Private.Sentences.{parts_of, item_on, Takes, Counts, Expects, is_long_name, Names, Sizes, outside_rows, CountsRows, list_past, ReadsList, where_past, Filters, ReadsWhere, FormIs, list_length, bare_marks_in, NodesAt, BareAt, NamesAt, GivensAt, Entered, Starts, ReadsForm, Lists, Deletes}
use Rattle.statement.proofs.Steps.{Goes}
use Rattle.statement.proofs.SentenceLimits.{sorted, own_past, past-limit, nodes-replaced}
use Rattle.statement.proofs.SentenceReaders.{finds, finds-none, reads_as, goes_on, counts-then}

-- ---- WHERE

filters-nothing : (b : Bool) (s : List ℕ) (c : Cursor) (xs : List Node) → Filters b s c xs c xs always
filters-nothing b s c xs =
    record {
      over = sym (or-false c.over);
      marks_are = sym (add-zero c.marks);
      nodes_are = sym (add-zero c.nodes);
      noted = λ h. sym (append-nil (nodes_on b s (take c.nodes xs)));
      bare = λ h. sym (append-nil (bare_marks_on (take c.nodes xs)));
    }

module _ (s : List ℕ) (c : Cursor) (xs : List Node) where
  pub where-absent : Stands s c → begins (keyword WHERE) (tokens (drop c.at s)) ≡ false → ReadsWhere s c xs (Some c) xs
  where-absent st i b eb n h =
      finds always (tokens (drop c.at s))
      (passing-stops (keyword WHERE) (a_condition (a_column b) n disjunction >>= λ d. done (under d)) (done always) (tokens (drop c.at s)) i)
      (record { stands = st; left = refl }) (filters-nothing b s c xs)

  pub where-read : (at : ℕ) → Goes s c.at at (keyword WHERE) → (ys : List Node) (r : Maybe Cursor) → Reads disjunction s true 0 (moved_to at c) xs r ys → ReadsWhere s c xs r ys
  where-read at g ys r m b eb n h =
      reads_as (ap (a_where (a_column b) n) g.after ∙ passing-yes (keyword WHERE) on (done always) (tokens (drop at s)))
      (by r (a_condition (a_column b) n disjunction (tokens (drop at s))) (m b eb n (omega arith)))
    where
      on : Reader (Optional (Test (Column b)))
      on = a_condition (a_column b) n disjunction >>= λ t. done (under t)

      by : (r : Maybe Cursor) (o : Option (Written b disjunction × List Token)) → Meets b s true 0 (moved_to at c) xs r ys o
          → Takes s (λ d. d) (λ d w. Filters b s c xs d ys (mapped_in comparison w)) r (then o (λ t. done (under t)))
      by None none q = finds-none refl refl
      by None (some x) q = absurd q
      by (Some r) none q = absurd q
      by (Some r) (some x) q =
          finds (under x.0) x.1 refl (record { stands = q.stands; left = q.left })
          (record { over = q.over; marks_are = q.marks_are; nodes_are = q.nodes_are; noted = q.noted; bare = q.bare })

-- ---- a sentence from what was counted up to m, before its WHERE

marks-append : (vs ws : List Given) → mark_count (vs ++ ws) ≡ mark_count vs + mark_count ws
marks-append [] ws = omega arith
marks-append (v ∷ vs) ws = omega (arith, marks-append vs ws)

-- y is its WHERE, of two sides a comparison
module _ (s : List ℕ) (ls : List Item) (b : Bool) (c m : Cursor) (p : Bool) (a : ℕ) (ps : List Node) (r : Entry) (ps' : List Node) (x : Sentence) (y : Where (Operand b))
    (st : Starts b c) (h : Counts c m p a) (w : Filters b s m ps r.c ps' y) where
  over-is : r.c.over ≡ (p || where_past b y)
  over-is = w.over ∙ ap (λ q. q || where_past b y) (h.over ∙ ap (λ q. q || p) st.over)

  no-nodes : m.nodes ≡ 0
  no-nodes = h.nodes_are ∙ st.nodes

  entered : term_givens (operands_in y) ≡ term_givens (operands_in (where_of x)) → length (nodes_in y) ≡ length (nodes_in (where_of x))
      → (nodes_on b s (take r.c.nodes ps') ≡ nodes_in y → NodesAt s (take r.c.nodes ps') x)
      → (bare_marks_on (take r.c.nodes ps') ≡ bare_marks_in y → BareAt (take r.c.nodes ps') x)
      → FormIs s r.form x → (p || where_past b y) ≡ own_past x → a ≡ mark_count (list_givens x) → name_on s r.table ≡ table_named x → r.listed ≡ list_length x
      → (r.listed ≤ most_items → NamesAt s (take r.listed ls) x) → (r.listed ≤ most_items → GivensAt s (take r.listed ls) x) → Entered s ls ps' r x
  entered asked same nodes-at bare-at form past marks named listed columns-at values-at =
      let e : r.c.over ≡ own_past x = over-is ∙ past in
      let f : r.c.marks ≡ mark_count (givens x) = omega (arith, w.marks_are, h.marks_are, st.marks, ap mark_count asked, marks-append (list_givens x) (term_givens (operands_in (where_of x)))) in
      let g : r.c.nodes ≡ length (nodes_in (where_of x)) = omega (arith, w.nodes_are, no-nodes) in
      record {
        form = form;
        past = past-limit x ∙ rw (e, f, g, listed);
        table = named;
        listed_are = listed;
        marks_are = f;
        nodes_are = g;
        noted = λ i. nodes-at (w.noted i ∙ ap (λ n. nodes_on b s (take n ps) ++ nodes_in y) no-nodes);
        bare = λ i. bare-at (w.bare i ∙ ap (λ n. bare_marks_on (take n ps) ++ bare_marks_in y) no-nodes);
        names = columns-at;
        givens = values-at;
      }

-- ---- the forms

module _ (s : List ℕ) (c : Cursor) (st : Starts false c) (xs ys : List Item) where
  pub of-table : (n : Cursor × ℕ) (c₁ : Cursor) (l : Cursor × ℕ) (c₂ : Cursor) (d : Cursor × Bool) (r : Cursor × ℕ)
      → Names s c (Some n) → Expects s Open n.0 (Some c₁) → ReadsList names s xs c₁ 0 ys (Some l) → Expects s Close l.0 (Some c₂) → Sizes s c₂ (Some d)
      → CountsRows s d.0 (Some r) → Lists a_table s c ys (Some (record { c = r.0; form = Table r.1 d.1; table = n.1; listed = l.1 }))
  of-table n c₁ l c₂ d r h₁ h₂ h₃ h₄ h₅ h₆ ps k i =
      goes_on _ h₁ (λ t b₁ q₁.
      goes_on _ h₂ (λ u₂ b₂ q₂.
      goes_on _ (h₃ k (omega arith)) (λ cs b₃ q₃.
      goes_on _ h₄ (λ u₄ b₄ q₄.
      goes_on _ h₅ (λ ring b₅ q₅.
      goes_on _ h₆ (λ z b₆ q₆.
      finds (table t cs ring z) _ refl b₆
      (entered s ys false c r.0 _ _ ps (record { c = r.0; form = Table r.1 d.1; table = n.1; listed = l.1 }) ps (table t cs ring z) always st
      (counts-then (counts-then (counts-then (counts-then (counts-then q₁.0 q₂) q₃.counts) q₄) q₅.0) q₆.0)
      (filters-nothing false s r.0 ps) refl refl (λ z. tt) (λ z. tt) (q₆.1, q₅.1) (order (is_long_name t) (list_past (items cs) []) (outside_rows z)) refl q₁.1
      (q₃.listed_are ∙ zero-add (length (items cs))) q₃.noted (λ _. tt))))))))
    where
      order : (a b d : Bool) → ((((((a || false) || b) || false) || false) || d) || false) ≡ (a || (b || ((d || false) || false)))
      order a b d = simp (sorted, or-false)

  pub of-insert : (c₁ : Cursor) (n : Cursor × ℕ) (c₂ c₃ : Cursor) (l : Cursor × ℕ) (r : Cursor)
      → Expects s Into c (Some c₁) → Names s c₁ (Some n) → Expects s Values n.0 (Some c₂) → Expects s Open c₂ (Some c₃) → ReadsList values s xs c₃ 0 ys (Some l)
      → Expects s Close l.0 (Some r) → Lists an_insert s c ys (Some (record { c = r; form = Insert; table = n.1; listed = l.1 }))
  of-insert c₁ n c₂ c₃ l r h₁ h₂ h₃ h₄ h₅ h₆ ps k i =
      goes_on _ h₁ (λ u₁ b₁ q₁.
      goes_on _ h₂ (λ t b₂ q₂.
      goes_on _ h₃ (λ u₃ b₃ q₃.
      goes_on _ h₄ (λ u₄ b₄ q₄.
      goes_on _ (h₅ k (omega arith)) (λ vs b₅ q₅.
      goes_on _ h₆ (λ u₆ b₆ q₆.
      finds (insert t vs) _ refl b₆
      (entered s ys false c r _ _ ps (record { c = r; form = Insert; table = n.1; listed = l.1 }) ps (insert t vs) always st
      (counts-then (counts-then (counts-then (counts-then (counts-then q₁ q₂.0) q₃) q₄) q₅.counts) q₆)
      (filters-nothing false s r ps) refl refl (λ z. tt) (λ z. tt) tt (order (is_long_name t) (list_past [] (items vs))) (omega arith) q₂.1
      (q₅.listed_are ∙ zero-add (length (items vs))) (λ _. tt) q₅.noted)))))))
    where
      order : (a b : Bool) → (((((a || false) || false) || b) || false) || false) ≡ (a || (b || false))
      order a b = simp (sorted, or-false)

  -- with a condition
  module _ (ps ps' : List Node) where
    pub of-single : (l : Cursor × ℕ) (c₁ : Cursor) (n : Cursor × ℕ) (r : Cursor)
        → ReadsList names s xs c 0 ys (Some l) → Expects s From l.0 (Some c₁) → Names s c₁ (Some n) → ReadsWhere s n.0 ps (Some r) ps'
        → ReadsForm a_single s c ys ps' (Some (record { c = r; form = Select; table = n.1; listed = l.1 }))
    of-single l c₁ n r h₁ h₂ h₃ h₄ k i =
        goes_on _ (h₁ k (omega arith)) (λ cs b₁ q₁.
        goes_on _ h₂ (λ u₂ b₂ q₂.
        goes_on _ h₃ (λ t b₃ q₃.
        let m : Counts c n.0 ((list_past (items cs) [] || false) || is_long_name t) 0 = counts-then (counts-then q₁.counts q₂) q₃.0 in
        goes_on _ (h₄ false (m.dotted ∙ st.dotted) k i) (λ w b₄ q₄.
        finds (select cs t w) _ refl b₄
        (entered s ys false c n.0 _ _ ps (record { c = r; form = Select; table = n.1; listed = l.1 }) ps' (select cs t w) (mapped_in comparison w) st m q₄
        refl refl (λ z. z) (λ z. tt) tt (order (is_long_name t) (list_past (items cs) []) (where_past false (mapped_in comparison w))) refl q₃.1
        (q₁.listed_are ∙ zero-add (length (items cs))) q₁.noted (λ _. tt))))))
      where
        order : (a b d : Bool) → (((b || false) || a) || d) ≡ (a || (b || d))
        order a b d = simp sorted

    pub of-update : (n : Cursor × ℕ) (c₁ : Cursor) (l : Cursor × ℕ) (r : Cursor)
        → Names s c (Some n) → Expects s Set n.0 (Some c₁) → ReadsList settings s xs c₁ 0 ys (Some l) → ReadsWhere s l.0 ps (Some r) ps'
        → ReadsForm an_update s c ys ps' (Some (record { c = r; form = Update; table = n.1; listed = l.1 }))
    of-update n c₁ l r h₁ h₂ h₃ h₄ k i =
        goes_on _ h₁ (λ t b₁ q₁.
        goes_on _ h₂ (λ u₂ b₂ q₂.
        goes_on _ (h₃ k (omega arith)) (λ ss b₃ q₃.
        let m : Counts c l.0 ((is_long_name t || false) || list_past (map first (items ss)) (map second (items ss))) _ = counts-then (counts-then q₁.0 q₂) q₃.counts in
        goes_on _ (h₄ false (m.dotted ∙ st.dotted) k i) (λ w b₄ q₄.
        finds (update t ss w) _ refl b₄
        (entered s ys false c l.0 _ _ ps (record { c = r; form = Update; table = n.1; listed = l.1 }) ps' (update t ss w) (mapped_in comparison w) st m q₄
        refl refl (λ z. z) (λ z. tt) tt (order (is_long_name t) (list_past (map first (items ss)) (map second (items ss))) (where_past false (mapped_in comparison w))) (omega arith) q₁.1
        (q₃.listed_are ∙ zero-add (length (items ss)))
        (λ h. sym (map-map first (item_on settings s) (take l.1 ys)) ∙ ap (map first) (q₃.noted h))
        (λ h. sym (map-map second (item_on settings s) (take l.1 ys)) ∙ ap (map second) (q₃.noted h)))))))
      where
        first : Name × Given → Name
        first x = x.0

        second : Name × Given → Given
        second x = x.1

        order : (a b d : Bool) → (((a || false) || b) || d) ≡ (a || (b || d))
        order a b d = simp sorted

pub of-delete : (s : List ℕ) (c : Cursor) (st : Starts false c) (ps ps' : List Node) (c₁ : Cursor) (n : Cursor × ℕ) (r : Cursor)
    → Expects s From c (Some c₁) → Names s c₁ (Some n) → ReadsWhere s n.0 ps (Some r) ps' → Deletes s c ps' (Some (record { c = r; form = Delete; table = n.1; listed = 0 }))
of-delete s c st ps ps' c₁ n r h₁ h₂ h₃ ls k i =
    goes_on _ h₁ (λ u₁ b₁ q₁.
    goes_on _ h₂ (λ t b₂ q₂.
    let m : Counts c n.0 (false || is_long_name t) 0 = counts-then q₁ q₂.0 in
    goes_on _ (h₃ false (m.dotted ∙ st.dotted) k i) (λ w b₃ q₃.
    finds (delete t w) _ refl b₃
    (entered s ls false c n.0 _ _ ps (record { c = r; form = Delete; table = n.1; listed = 0 }) ps' (delete t w) (mapped_in comparison w) st m q₃
    refl refl (λ z. z) (λ z. tt) tt refl refl q₂.1 refl (λ _. tt) (λ _. tt)))))

-- A.1: a question over two tables
module _ (s : List ℕ) (c : Cursor) (st : Starts true c) (xs ys : List Item) (ps ps' : List Node) where
  pub of_pair : (l : Cursor × ℕ) (c₁ : Cursor) (n : Cursor × ℕ) (c₂ : Cursor) (o : Cursor × ℕ) (r : Cursor)
      → ReadsList columns s xs c 0 ys (Some l) → Expects s From l.0 (Some c₁) → Names s c₁ (Some n) → Expects s Comma n.0 (Some c₂) → Names s c₂ (Some o)
      → ReadsWhere s o.0 ps (Some r) ps' → ReadsForm a_pair s c ys ps' (Some (record { c = r; form = Pair o.1; table = n.1; listed = l.1 }))
  of_pair l c₁ n c₂ o r h₁ h₂ h₃ h₄ h₅ h₆ k i =
      goes_on _ (h₁ k (omega arith)) (λ cs b₁ q₁.
      goes_on _ h₂ (λ u₂ b₂ q₂.
      goes_on _ h₃ (λ t b₃ q₃.
      goes_on _ h₄ (λ u₄ b₄ q₄.
      goes_on _ h₅ (λ u b₅ q₅.
      let m : Counts c o.0 ((((list_past (parts_of (items cs)) [] || false) || is_long_name t) || false) || is_long_name u) 0 =
      counts-then (counts-then (counts-then (counts-then q₁.counts q₂) q₃.0) q₄) q₅.0 in
      goes_on _ (h₆ true (m.dotted ∙ st.dotted) k i) (λ w b₆ q₆.
      finds (pair cs t u w) _ refl b₆
      (entered s ys true c o.0 _ _ ps (record { c = r; form = Pair o.1; table = n.1; listed = l.1 }) ps' (pair cs t u w) (mapped_in comparison w) st m q₆
      (sym (bare-givens (mapped_in comparison w))) (sym (nodes-replaced bare_term (mapped_in comparison w))) (λ z. z) (λ z. z) q₅.1
      (order (is_long_name t) (is_long_name u) (list_past (parts_of (items cs)) []) (where_past true (mapped_in comparison w))) refl q₃.1
      (q₁.listed_are ∙ zero-add (length (items cs))) q₁.noted (λ _. tt))))))))
    where
      order : (a u b d : Bool) → (((((b || false) || a) || false) || u) || d) ≡ (a || (u || (b || d)))
      order a u b d = simp sorted
