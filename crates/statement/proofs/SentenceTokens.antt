-- The readers of one token: a token that its kind tells, a name, a value, ROWS or RING and the constant behind it. Assumes nothing.
use mathlib.Core.Path.{◌≡◌, refl, sym, ap, ap₂, ◌∙◌}
use mathlib.Core.Bool.{Bool, true, false, not, cond, ◌&&◌, ◌||◌}
use mathlib.Core.Option.{Option, none, some}
use Rattle.std.specs.Prelude.{Option as Maybe, Some, None}
use mathlib.Core.List.{List, [], ◌∷◌}
use Prim.Native.Nat.{ℕ, ◌+◌, ◌-◌, ◌≤◌}
use native.Mathlib.Nat.{add-zero}
use native.Mathlib.Omega.{arith}
use borrow.Author.Tests.{leb-true, le-leb}
use lib.Dec.{leb}
use lib.IntN.{ℤ, pos, negsuc}
use lib.ListN.{length, drop}
use lib.Signed.{lt_z}
use Rattle.lists.proofs.Bools.{and_right, clash, le_z-not, not-and, not-not}
use Rattle.meaning.specs.Tokens as T
use Rattle.meaning.specs.Tokens.{Name, keyword, name, operator, comma, lparen, rparen, dot, other, ROWS, RING, tokens}
use Rattle.meaning.specs.Grammar.{Given, constant, mark}
use Rattle.meaning.specs.Reader.{Reader, then, ◌>>◌, done, fails, expect, a_token, name_of, constant_of, a_given, a_size_word}
use Rattle.meaning.specs.Limits.{is_within32, outside32, mark_count}
use Rattle.meaning.proofs.Readers.{a_token-some, a_token-none, passing-stops, passing-yes, expect-here}
use Rattle.token.specs.declared.Token.{Token}
use Rattle.token.specs.declared.Kind.{Kind}
use Rattle.token.specs.declared.Kind.TheVariants.{Name as Named, Constant, Big, Mark, Rows, Ring}
use Rattle.token.specs.Tokens.{kind_of, token_at}
use Rattle.token.proofs.Laws.{Reads, next-inside}
use Rattle.token.proofs.TokenKinds.{kind-name}
use Rattle.statement.proofs.Tells.{Told, told, asked_fixed}
use Rattle.statement.specs.declared.conditions.Cursor.{Cursor}
use Rattle.statement.specs.Private.Places.{token_on, given_on}
use Rattle.statement.specs.Private.Reading.{Stands, token_past, tokens_past, marks_at, moved_to}
use Rattle.statement.specs.Private.Sentences.{Before, Takes, Counts, asked, ExpectsToken, Expects, is_long_name, Names, Gives, Sizes, ring_in, is_value, outside_rows, rows_past, CountsRows}
use Rattle.statement.proofs.Steps.{Look, ended, seen, look, stands-there, name_length, Goes, goes, stops, stands-past}
use Rattle.statement.proofs.SentenceReaders.{finds-none, finds, reads_as, counts-moved}

-- ---- what the token u says that was read at a place

module _ (s : List ℕ) (at : ℕ) (u : Token) (e : u ≡ token_at s at) where
  pub stays : u.next ≤ length s
  stays = rw e (next-inside s at)

-- ---- one token, by a reader that takes it for an A

module _ {A : Type 0} (f : T.Token → Option A) (s : List ℕ) (at : ℕ) (u : Token) where
  pub token-none : Look s at u → ((t : T.Token) → kind_of t ≡ u.kind → f t ≡ none) → a_token f (tokens (drop at s)) ≡ none
  token-none (ended z q) h = ap (a_token f) q
  token-none (seen v) h = ap (a_token f) v.left ∙ a_token-none f v.token _ (h v.token v.kind)

  pub token-found : (v : Reads s at u) (x : A) → f v.token ≡ some x → a_token f (tokens (drop at s)) ≡ some (x, tokens (drop u.next s))
  token-found v x h = ap (a_token f) v.left ∙ a_token-some f v.token _ x h

-- ---- tokens by their kinds

pub no_name_lem : (t : T.Token) → (kind_of t ≡ Named → ⊥) → name_of t ≡ none
no_name_lem (name n) h = absurd (h refl)
no_name_lem _ h = refl

no_constant : (t : T.Token) → rows_past (kind_of t) ≡ None → constant_of t ≡ none
no_constant (T.constant z) h = go (is_within32 z) h
  where
    go : (b : Bool) → rows_past (cond b (Constant z) Big) ≡ None → constant_of (T.constant z) ≡ none
    go true e = cc
    go false e = cc
no_constant _ h = refl

-- a value is one token
given_of : T.Token → Option Given
given_of (keyword k) = none
given_of (name n) = none
given_of (T.constant z) = some (constant z)
given_of (operator o) = none
given_of T.mark = some mark
given_of comma = none
given_of lparen = none
given_of rparen = none
given_of dot = none
given_of other = none

given-reader : (ts : List T.Token) → a_given ts ≡ a_token given_of ts
unfolding given_of
given-reader [] = refl
given-reader (keyword k ∷ ts) = refl
given-reader (name n ∷ ts) = refl
given-reader (T.constant z ∷ ts) = refl
given-reader (operator o ∷ ts) = refl
given-reader (T.mark ∷ ts) = refl
given-reader (comma ∷ ts) = refl
given-reader (lparen ∷ ts) = refl
given-reader (rparen ∷ ts) = refl
given-reader (dot ∷ ts) = refl
given-reader (other ∷ ts) = refl

no-given : (t : T.Token) → is_value (kind_of t) ≡ false → given_of t ≡ none
unfolding given_of
no-given (T.constant z) h = go (is_within32 z) h
  where
    go : (b : Bool) → is_value (cond b (Constant z) Big) ≡ false → given_of (T.constant z) ≡ none
    go true e = cc
    go false e = cc
no-given T.mark h = cc
no-given _ h = refl

-- the value v of a token t
record IsGiven (t : T.Token) (v : Given) : Type 0 where
  is : given_of t ≡ some v
  over : (start next : ℕ) → token_past (kind_of t) start next ≡ outside32 v
  marks : marks_at (kind_of t) ≡ mark_count (v ∷ [])
  here : (s : List ℕ) (p : ℕ) → token_on s p ≡ t → given_on s p ≡ v

is-given : (t : T.Token) → is_value (kind_of t) ≡ true → (v : Given) × IsGiven t v
unfolding given_of token_past
is-given t h = go (kind_of t) refl h (told t)
  where
    go : (k : Kind) → kind_of t ≡ k → is_value k ≡ true → Told t k → (v : Given) × IsGiven t v
    go (Constant z) q e r = (
      constant z,
      record { is = ap given_of r.0; over = λ start next. ap (λ k. token_past k start next) q ∙ sym (ap not r.1); marks = ap marks_at q; here = λ s p i. rw (i ∙ r.0) },
    )
    go Big q e r = (
      constant r.0,
      record { is = ap given_of r.1; over = λ start next. ap (λ k. token_past k start next) q ∙ sym (ap not r.2); marks = ap marks_at q; here = λ s p i. rw (i ∙ r.1) },
    )
    go Mark q e r = (mark, record { is = ap given_of r; over = λ start next. ap (λ k. token_past k start next) q; marks = ap marks_at q; here = λ s p i. rw (i ∙ r) })
    go _ q e r = absurd (cc)

pub few_marks : (k : Kind) → marks_at k ≤ 1
few_marks Mark = omega arith
few_marks _ = omega arith

-- a constant, and whether it is not 1 to 512
is-constant : (t : T.Token) (past : Bool) → rows_past (kind_of t) ≡ Some past → (z : ℤ) × (t ≡ T.constant z) × (past ≡ outside_rows z)
is-constant t past h = go (kind_of t) h (told t)
  where
    far : (z : ℤ) → is_within32 z ≡ false → outside_rows z ≡ true
    far (pos n) e = by (leb 1 n && leb n 512) refl
      where
        by : (b : Bool) → (leb 1 n && leb n 512) ≡ b → not b ≡ true
        by true q = clash (le-leb n 2147483647 (omega (arith, leb-true n 512 (and_right (leb 1 n) (leb n 512) q)))) e
        by false q = refl
    far (negsuc n) e = refl

    near : (z : ℤ) → (lt_z z (pos 1) || lt_z (pos 512) z) ≡ outside_rows z
    near z =
        sym
        (ap₂ (λ a b. not (a && b)) (le_z-not (pos 1) z) (le_z-not z (pos 512))
        ∙ sym (not-and (not (lt_z z (pos 1))) (not (lt_z (pos 512) z)))
        ∙ ap₂ (λ a b. a || b) (not-not (lt_z z (pos 1))) (not-not (lt_z (pos 512) z)))

    go : (k : Kind) → rows_past k ≡ Some past → Told t k → (z : ℤ) × (t ≡ T.constant z) × (past ≡ outside_rows z)
    go (Constant z) e r = let q : past ≡ (lt_z z (pos 1) || lt_z (pos 512) z) = cc in (z, r.0, q ∙ near z)
    go Big e r = let q : past ≡ true = cc in (r.0, r.1, q ∙ sym (far r.0 r.2))
    go _ e r = absurd (cc)

-- ---- the token t was passed: nothing else is counted

module _ (s : List ℕ) (c : Cursor) (next : ℕ) (t : T.Token) (st : Stands s c) (g : Goes s c.at next t) where
  pub passed-before : Before s (moved_to next c) (tokens (drop next s))
  passed-before = record { stands = stands-past c st g; left = refl }

  passed-counts : Counts c (moved_to next c) false 0
  passed-counts = counts-moved c next g.on

-- ---- a token that its kind tells

module _ (s : List ℕ) (k : Kind) (c : Cursor) (u : Token) (e : u ≡ token_at s c.at) where
  pub expect-none : (u.kind ≡ k → ⊥) → Expects s k c None
  expect-none h = go (asked k) refl
    where
      go : (o : Option T.Token) → asked k ≡ o → ExpectsToken s o c None
      go none q = tt
      go (some t) q = finds-none refl (passing-stops t (done tt) fails (tokens (drop c.at s)) (stops s c.at u e t (λ z. h (z ∙ (asked_fixed k t q).0))))

  pub expect-found : Stands s c → ((t : T.Token) → asked k ≡ some t → u.kind ≡ k) → Expects s k c (Some (moved_to u.next c))
  expect-found st h = go (asked k) refl
    where
      go : (o : Option T.Token) → asked k ≡ o → ExpectsToken s o c (Some (moved_to u.next c))
      go none q = tt
      go (some t) q =
          let f = asked_fixed k t q in
          let g = goes s c.at u e t f.1 (h t q ∙ sym f.0) in
          finds tt (tokens (drop u.next s)) (ap (expect t) g.after ∙ expect-here t (tokens (drop u.next s))) (passed-before s c u.next t st g) (passed-counts s c u.next t st g)

-- ---- ROWS or RING

-- where ROWS does not stand, RING does
ring_word : Reader Bool
ring_word = expect (keyword RING) >> done true

module _ (s : List ℕ) (c : Cursor) (u : Token) (e : u ≡ token_at s c.at) where
  no_rows : (u.kind ≡ Rows → ⊥) → a_size_word (tokens (drop c.at s)) ≡ ring_word (tokens (drop c.at s))
  unfolding ring_word
  no_rows h = passing-stops (keyword ROWS) (done false) ring_word (tokens (drop c.at s)) (stops s c.at u e (keyword ROWS) h)

  no-ring : (u.kind ≡ Ring → ⊥) → ring_word (tokens (drop c.at s)) ≡ none
  unfolding ring_word
  no-ring h = ap (λ o. then o (λ x. done true)) (passing-stops (keyword RING) (done tt) fails (tokens (drop c.at s)) (stops s c.at u e (keyword RING) h))

  pub size_none : (r : Maybe (Cursor × Bool)) → ring_in u.kind ≡ None → r ≡ None → Sizes s c r
  size_none r h f =
      let not_rows : u.kind ≡ Rows → ⊥ = λ q. let e = ap ring_in q in cc in
      let not_ring : u.kind ≡ Ring → ⊥ = λ q. let e = ap ring_in q in cc in
      finds-none f (no_rows not_rows ∙ no-ring not_ring)

  module _ (st : Stands s c) where
    -- the word w, which says b
    sized : (w : T.Token) (b ring : Bool) → ring ≡ b → Goes s c.at u.next w → a_size_word (tokens (drop c.at s)) ≡ some (b, tokens (drop u.next s))
        → Sizes s c (Some (moved_to u.next c, ring))
    sized w b ring p g q =
        finds b (tokens (drop u.next s)) q (passed-before s c u.next w st g) (passed-counts s c u.next w st g, p)

    pub size-found : (b : Bool) → ring_in u.kind ≡ Some b → Sizes s c (Some (moved_to u.next c, b))
    unfolding ring_word
    size-found b h = go u.kind refl h
      where
        go : (k : Kind) → u.kind ≡ k → ring_in k ≡ Some b → Sizes s c (Some (moved_to u.next c, b))
        go Rows i h =
            let g : Goes s c.at u.next (keyword ROWS) = goes s c.at u e (keyword ROWS) refl i in
            sized (keyword ROWS) false b (cc) g
            (ap a_size_word g.after ∙ passing-yes (keyword ROWS) (done false) ring_word (tokens (drop u.next s)))
        go Ring i h =
            let g : Goes s c.at u.next (keyword RING) = goes s c.at u e (keyword RING) refl i in
            let not_rows : u.kind ≡ Rows → ⊥ = λ q. cc in
            sized (keyword RING) true b (cc) g
            (no_rows not_rows ∙ ap ring_word g.after ∙ ap (λ o. then o (λ x. done true)) (expect-here (keyword RING) (tokens (drop u.next s))))
        go _ i h = absurd (cc)

-- ---- a name, a value, the constant of ROWS or RING

-- behind the token u, with b passed and m question marks
abbrev pub stepped : Cursor → Token → Bool → ℕ → Cursor
stepped c u b m = record { over = c.over || b; dotted = c.dotted; nodes = c.nodes; marks = m; at = u.next }

-- a token was read that the grammar's reader takes for x
module _ {A : Type 0} (f : T.Token → Option A) (s : List ℕ) (c : Cursor) (u : Token) (st : Stands s c) (v : Reads s c.at u) (b : Bool) (m k : ℕ) (q : m ≡ c.marks + k) (l : k ≤ 1) where
  one-counts : (p : Bool) → b ≡ p → Counts c (stepped c u b m) p k
  one-counts p e = record { dotted = refl; moved = omega (arith, v.from, v.moves); over = ap (λ z. c.over || z) e; marks_are = q; nodes_are = refl }

  one-found : {Q : Cursor × ℕ → A → Type 0} (x : A) → f v.token ≡ some x → Q (stepped c u b m, u.start) x
      → Takes s (λ (d : Cursor × ℕ). d.0) Q (Some (stepped c u b m, u.start)) (a_token f (tokens (drop c.at s)))
  one-found x e h =
      let few = st.few_nodes in
      let less = st.few_marks in
      let from = v.from in
      let moves = v.moves in
      finds x (tokens (drop u.next s)) (token-found f s c.at u v x e)
      (record { stands = record { short = st.short; inside = v.inside; few_nodes = omega arith; few_marks = omega arith }; left = refl }) h

module _ (s : List ℕ) (c : Cursor) (u : Token) (e : u ≡ token_at s c.at) where
  pub name-none : (u.kind ≡ Named → ⊥) → Names s c None
  name-none h = finds-none refl (token-none name_of s c.at u (look s c.at u e) (λ t q. no_name_lem t (λ z. h (sym q ∙ z))))

  pub value_none : is_value u.kind ≡ false → Gives s c None
  value_none h =
      finds-none refl
      (given-reader (tokens (drop c.at s)) ∙ token-none given_of s c.at u (look s c.at u e) (λ t q. no-given t (ap is_value q ∙ h)))

  pub rows_none : (r : Maybe (Cursor × ℕ)) → rows_past u.kind ≡ None → r ≡ None → CountsRows s c r
  rows_none r h f =
      finds-none f
      (token-none constant_of s c.at u (look s c.at u e) (λ t q. no_constant t (ap rows_past q ∙ h)))

  module _ (st : Stands s c) where
    long : (n : Name) → u.kind ≡ Named → u.next - u.start ≡ length n → tokens_past u ≡ is_long_name n
    unfolding token_past
    long n h l = rw (h, l)

    pub name-found : u.kind ≡ Named → Names s c (Some (stepped c u (tokens_past u) c.marks, u.start))
    name-found h = go (look s c.at u e)
      where
        go : Look s c.at u → Names s c (Some (stepped c u (tokens_past u) c.marks, u.start))
        go (ended z q) = absurd (cc)
        go (seen v) =
            let i = kind-name v.token (v.kind ∙ h) in
            let z : c.marks ≡ c.marks + 0 = sym (add-zero c.marks) in
            one-found name_of s c u st v (tokens_past u) c.marks 0 z (omega arith) i.0 (ap name_of i.1)
            (one-counts name_of s c u st v (tokens_past u) c.marks 0 z (omega arith) (is_long_name i.0) (long i.0 h (name_length v i.0 i.1)), rw (stands-there v ∙ i.1))

    pub value_found : is_value u.kind ≡ true → Gives s c (Some (stepped c u (tokens_past u) (c.marks + marks_at u.kind), u.start))
    value_found h = go (look s c.at u e)
      where
        go : Look s c.at u → Gives s c (Some (stepped c u (tokens_past u) (c.marks + marks_at u.kind), u.start))
        go (ended z q) = let x = ap is_value z in absurd (cc)
        go (seen v) =
            let i = is-given v.token (ap is_value v.kind ∙ h) in
            let w = i.1 in
            let m : marks_at u.kind ≡ mark_count (i.0 ∷ []) = ap marks_at (sym v.kind) ∙ w.marks in
            let q : c.marks + marks_at u.kind ≡ c.marks + mark_count (i.0 ∷ []) = ap (λ n. c.marks + n) m in
            let l : mark_count (i.0 ∷ []) ≤ 1 = omega (arith, few_marks u.kind, m) in
            reads_as (given-reader (tokens (drop c.at s)))
            (one-found given_of s c u st v (tokens_past u) (c.marks + marks_at u.kind) (mark_count (i.0 ∷ [])) q l i.0 w.is (
              one-counts given_of s c u st v (tokens_past u) (c.marks + marks_at u.kind) (mark_count (i.0 ∷ [])) q l (outside32 i.0) (ap (λ n. token_past n u.start u.next) (sym v.kind) ∙ w.over u.start u.next),
              w.here s u.start (stands-there v),
            ))

    pub rows-found : (b : Bool) → rows_past u.kind ≡ Some b → CountsRows s c (Some (stepped c u b c.marks, u.start))
    rows-found b h = go (look s c.at u e)
      where
        go : Look s c.at u → CountsRows s c (Some (stepped c u b c.marks, u.start))
        go (ended z q) = let x = ap rows_past z in absurd (cc)
        go (seen v) =
            let i = is-constant v.token b (ap rows_past v.kind ∙ h) in
            let z : c.marks ≡ c.marks + 0 = sym (add-zero c.marks) in
            one-found constant_of s c u st v b c.marks 0 z (omega arith) i.0 (ap constant_of i.1)
            (one-counts constant_of s c u st v b c.marks 0 z (omega arith) (outside_rows i.0) i.2, stands-there v ∙ i.1)
