-- The loops that mark slots: the held slots walked through, the queries that hold an answer, the clauses of a query, and the queries. Each invariant says what is
-- left to be done. Assumes nothing.
use Rattle.std.specs.Prelude.{Option, Some, None}
use Rattle.pattern.proofs.Searching.{drop-next}
use mathlib.Core.Path.{◌≡◌, refl, sym, ap, ap₂, ◌∙◌}
use mathlib.Core.Bool.{Bool, true, false, ◌&&◌, ◌||◌, cond, or-false}
use mathlib.Core.List.{List, [], ◌∷◌, map}
use Prim.Native.Nat.{ℕ, zero, suc, ◌+◌, ◌-◌, ◌≤◌, ◌<◌}
use native.Mathlib.Nat.{sub-zero}
use native.Mathlib.Omega.{arith}
use borrow.Author.Tests.{ne_eqb}
use lib.Dec.{eqb}
use lib.IntN.{ℤ}
use lib.ListN.{drop, drop_of_length-le, length, take, get_or, set, replicate, length-set}
use lib.Seq.{get_or-take, length-take-le}
use Rattle.lists.specs.Lists.{any, All, from}
use Rattle.lists.proofs.Bools.{or_assoc}
use Rattle.lists.proofs.Chains.{eqb-turned}
use Rattle.lists.proofs.Lists.{All-map, map_same}
use Rattle.lists.proofs.Places.{get_or-inside}
use Rattle.lists.proofs.Changed.{map-from}
use Rattle.lists.proofs.Moved.{from-below}
use Rattle.lists.proofs.Walks.{from_cons, from-none}
use Rattle.statement.specs.declared.Table.{Table}
use Rattle.statement.specs.declared.Query.{Query}
use Rattle.statement.specs.declared.Update.{Update}
use Rattle.statement.specs.Compiled.{no_query}
use Rattle.table.specs.Changed.{removal_of}
use Rattle.pattern.specs.declared.Pattern.{Pattern}
use Rattle.pattern.specs.Stored.{is_read, clause_total, pattern_at, filled_of}
use Rattle.pattern.proofs.Laws.{none_elsewhere}
use Rattle.slots.specs.declared.Key.{Key}
use Rattle.slots.specs.declared.SlotList.{SlotList}
use Rattle.slots.specs.Keys.{slot_key, held_slots}
use Rattle.slots.specs.Order.{sound_slots, is_marked}
use Rattle.slots.proofs.Laws.{sound-is, held_below}
use Rattle.cache.specs.Private.Marks.{marked, marked_each, agrees_at, clause_at, clause_tests, query_marks, holds_answer, marks_over, marks_of, marks_judged, reached_at, marks_both}
use Rattle.cache.specs.Gives.{is_pushing}
use Rattle.cache.proofs.Returns.SlotsMatched.{no-mark, set-mark}

-- ---- the held slots

-- a key read, whatever stands in past the end
pub key-at : (keys : List Key) (x : ℕ) (d : Key) → length keys ≡ 64 → x < 64 → get_or keys x d ≡ slot_key keys x
key-at keys x d l h = get_or-inside keys x d _ (omega arith)

-- they are slots
pub held-below : (s : SlotList) → sound_slots s ≡ true → All (λ x. x < 64) (held_slots s)
held-below s h = let S = sound-is s h in All-map (λ x b. omega (arith, S.few)) (held_below s S)

-- ---- the queries that hold an answer

-- a list is what stands at its places
listed : (d : Bool) (l : List Bool) → map (λ (i : ℕ). get_or l i d) (from 0 (length l)) ≡ l
listed d [] = refl
listed d (x ∷ l) = ap (λ (r : List Bool). x ∷ r) (map-from (λ (i : ℕ). get_or (x ∷ l) i d) 0 (length l) ∙ listed d l)

from_at : (f : ℕ → Bool) (d : Bool) (i n k : ℕ) → k < n → get_or (map f (from i n)) k d ≡ f (i + k)
from_at f d i zero k h = absurd (omega arith)
from_at f d i (suc n) zero h = let e : i ≡ i + 0 = omega arith in ap f e
from_at f d i (suc n) (suc k) h = let e : suc i + k ≡ i + suc k = omega arith in from_at f d (suc i) n k (omega arith) ∙ ap f e

module _ (keys : List Key) (held : List ℕ) where
  -- a query has an answer in one of these slots
  abbrev answered : List ℕ → ℕ → Bool
  answered xs q = any (λ (k : Key). eqb k.query q) (map (slot_key keys) xs)

  -- an answer was found, or stands in the slots left
  pub record Finding (i : ℕ) (found : List Bool) : Type 0 where
    pub long : length found ≡ 16
    pub left : (q : ℕ) → q < 16 → (is_marked found q || answered (drop i held) q) ≡ answered held q

  pub finding-start : Finding 0 (replicate 16 false)
  finding-start = record { long = refl; left = λ q h. ap (λ (b : Bool). b || answered held q) (no-mark 16 q) }

  pub finding-end : (i : ℕ) (found : List Bool) → length held ≤ i → Finding i found → found ≡ map (answered held) (from 0 16)
  finding-end i found h F =
      let e : (q : ℕ) → q < 16 → is_marked found q ≡ answered held q = λ q k.
      sym (or-false (is_marked found q)) ∙ ap (λ (xs : List ℕ). is_marked found q || answered xs q) (sym (drop_of_length-le held h)) ∙ F.left q k in
      sym (listed false found)
      ∙ ap (λ (k : ℕ). map (is_marked found) (from 0 k)) F.long
      ∙ map_same (answered held) (All-map (λ q k. e q (omega arith)) (from-below 0 16))

  module _ (i : ℕ) (found : List Bool) (h : i < length held) (F : Finding i found) (k : Key) (r : k ≡ slot_key keys (get_or held i 0)) where
    step : (q : ℕ) → answered (drop i held) q ≡ (eqb k.query q || answered (drop (i + 1) held) q)
    step q = ap (λ (xs : List ℕ). answered xs q) (drop-next held i 0 h) ∙ ap (λ (k : Key). eqb k.query q || answered (drop (i + 1) held) q) (sym r)

    pub finding-more : k.query < 16 → Finding (i + 1) (set found k.query true)
    finding-more b = record {
      long = length-set found k.query true ∙ F.long;
      left = λ q c.
          ap (λ (t : Bool). t || answered (drop (i + 1) held) q) (set-mark found k.query q (omega (arith, F.long)) ∙ ap (λ (t : Bool). is_marked found q || t) (eqb-turned q k.query))
          ∙ sym (or_assoc (is_marked found q) (eqb k.query q) (answered (drop (i + 1) held) q))
          ∙ ap (λ (t : Bool). is_marked found q || t) (sym (step q))
          ∙ F.left q c;
    }

    pub finding-skip : 16 ≤ k.query → Finding (i + 1) found
    finding-skip b = record {
      long = F.long;
      left = λ q c.
          ap (λ (t : Bool). is_marked found q || t)
          (sym (step q ∙ ap (λ (t : Bool). t || answered (drop (i + 1) held) q) (ne_eqb k.query q (λ e. omega arith))))
          ∙ F.left q c;
    }

-- ---- the held slots that pass a test

module _ (p : ℕ → Bool) (held : List ℕ) (marks₀ : List Bool) where
  -- the slots left are still to be tested
  abbrev pub Marking : ℕ → List Bool → Type 0
  Marking j marks = marked p (drop j held) marks ≡ marked p held marks₀

  pub marking-end : (j : ℕ) (marks : List Bool) → length held ≤ j → Marking j marks → marks ≡ marked p held marks₀
  marking-end j marks h M = ap (λ (xs : List ℕ). marked p xs marks) (sym (drop_of_length-le held h)) ∙ M

  module _ (j : ℕ) (marks : List Bool) (h : j < length held) (M : Marking j marks) where
    turn : marked p (drop (j + 1) held) (cond (p (get_or held j 0)) (set marks (get_or held j 0) true) marks) ≡ marked p held marks₀
    turn = ap (λ (xs : List ℕ). marked p xs marks) (sym (drop-next held j 0 h)) ∙ M

    pub marking-yes : p (get_or held j 0) ≡ true → Marking (j + 1) (set marks (get_or held j 0) true)
    marking-yes e = rw e at turn

    pub marking-no : p (get_or held j 0) ≡ false → Marking (j + 1) marks
    marking-no e = rw e at turn

-- a test that nothing passes marks nothing
pub marked-none : (p : ℕ → Bool) → ((x : ℕ) → p x ≡ false) → (xs : List ℕ) (marks : List Bool) → marked p xs marks ≡ marks
marked-none p f [] marks = refl
marked-none p f (x ∷ xs) marks = marked-none p f xs _ ∙ ap (λ (b : Bool). cond b (set marks x true) marks) (f x)

-- ---- the clauses of a query

module _ (keys : List Key) (held : List ℕ) (q : ℕ) (query : Query) (u : Update) (us : List ℤ) (marks₀ : List Bool) where
  abbrev test : ℕ → ℕ → Bool
  test i = clause_at keys q us (pattern_at query u i)

  -- the clauses from i on
  abbrev later : ℕ → List Bool → List Bool
  later i marks = marked_each (map test (from i (clause_total query u - i))) held marks

  -- the clauses left are still to be marked
  abbrev pub Clauses : ℕ → List Bool → Type 0
  Clauses i marks = later i marks ≡ marked_each (clause_tests keys q query u us) held marks₀

  pub clauses-end : (i : ℕ) (marks : List Bool) → clause_total query u ≤ i → Clauses i marks → marks ≡ marked_each (clause_tests keys q query u us) held marks₀
  clauses-end i marks h C = ap (λ (is : List ℕ). marked_each (map test is) held marks) (sym (from-none (clause_total query u) i h)) ∙ C

  module _ (i : ℕ) (marks : List Bool) (h : i < clause_total query u) (C : Clauses i marks) where
    turned : Clauses (i + 1) (marked (test i) held marks)
    turned = ap (λ (is : List ℕ). marked_each (map test is) held marks) (sym (from_cons (clause_total query u) i h)) ∙ C

    -- a clause whose pattern the held slots were tested by
    pub clauses-more : (p : Pattern) (next : List Bool) → pattern_at query u i ≡ Some p → next ≡ marked (agrees_at keys q (filled_of us p)) held marks → Clauses (i + 1) next
    clauses-more p next e f = ap (later (i + 1)) (f ∙ ap (λ (o : Option Pattern). marked (clause_at keys q us o) held marks) (sym e)) ∙ turned

    -- one without
    pub clauses-stay : pattern_at query u i ≡ None → Clauses (i + 1) marks
    clauses-stay e =
        ap (later (i + 1)) (sym (ap (λ (o : Option Pattern). marked (clause_at keys q us o) held marks) e ∙ marked-none (clause_at keys q us None) (λ x. none (eqb (slot_key keys x).query q)) held marks)) ∙ turned
      where
        none : (b : Bool) → (b && false) ≡ false
        none true = refl
        none false = refl

-- ---- the queries

-- a query that reads another table marks nothing
abbrev reads_of : Query → Update → Bool
reads_of q u = is_read q.table q.second u.table

other-marks : (keys : List Key) (s : SlotList) (q : ℕ) (query : Query) (u : Update) (us : List ℤ) (marks : List Bool) → reads_of query u ≡ false
    → query_marks keys s q query u us marks ≡ marks
other-marks keys s q query u us marks e =
    ap (λ (k : ℕ). marked_each (map (λ (i : ℕ). clause_at keys q us (pattern_at query u i)) (from 0 k)) (held_slots s) marks) (none_elsewhere query u e)

module _ (keys : List Key) (s : SlotList) (queries : List Query) (n : ℕ) (u : Update) (us : List ℤ) (marks₀ : List Bool) where
  pub record Queries (q : ℕ) (marks : List Bool) : Type 0 where
    pub within : q ≤ n
    pub left : marks_over keys s queries u us (from q (n - q)) marks ≡ marks_of keys s queries n u us marks₀

  pub queries-start : Queries 0 marks₀
  unfolding marks_of
  queries-start = record { within = omega arith; left = ap (λ (k : ℕ). marks_over keys s queries u us (from 0 k) marks₀) (sub-zero n) }

  pub queries-end : (q : ℕ) (marks : List Bool) → n ≤ q → Queries q marks → marks ≡ marks_of keys s queries n u us marks₀
  queries-end q marks h Q = ap (λ (qs : List ℕ). marks_over keys s queries u us qs marks) (sym (from-none n q h)) ∙ Q.left

  module _ (q : ℕ) (marks : List Bool) (h : q < n) (Q : Queries q marks) (found : List Bool) (k : n ≤ 16) (e : found ≡ map (holds_answer keys s) (from 0 16)) where
    holds : (b : Bool) → is_marked found q ≡ b → holds_answer keys s q ≡ b
    holds b t =
        let at : is_marked (map (holds_answer keys s) (from 0 16)) q ≡ holds_answer keys s q =
        from_at (holds_answer keys s) false 0 16 q (omega arith) ∙ ap (holds_answer keys s) (zero-plus q) in
        sym at ∙ ap (λ (l : List Bool). is_marked l q) (sym e) ∙ t
      where
        zero-plus : (q : ℕ) → 0 + q ≡ q
        zero-plus q = omega arith

    turn-over : marks_over keys s queries u us (from (q + 1) (n - (q + 1))) (cond (holds_answer keys s q) (query_marks keys s q (get_or queries q no_query) u us marks) marks)
        ≡ marks_of keys s queries n u us marks₀
    turn-over = ap (λ (qs : List ℕ). marks_over keys s queries u us qs marks) (sym (from_cons n q h)) ∙ Q.left

    pub queries-yes : (x : Query) (next : List Bool) → x ≡ get_or queries q no_query → is_marked found q ≡ true → next ≡ query_marks keys s q x u us marks → Queries (q + 1) next
    queries-yes x next r t m = record {
      within = omega arith;
      left =
          ap (marks_over keys s queries u us (from (q + 1) (n - (q + 1)))) (m ∙ ap (λ (x : Query). query_marks keys s q x u us marks) r)
          ∙ (rw (holds true t) at turn-over);
    }

    -- a query that holds no answer, or reads another table
    pub queries-no : (x : Query) (same : Bool) → x ≡ get_or queries q no_query → same ≡ reads_of x u → (is_marked found q && same) ≡ false → Queries (q + 1) marks
    queries-no x same query-is r t = record { within = omega arith; left = ap (marks_over keys s queries u us (from (q + 1) (n - (q + 1)))) (sym (go (is_marked found q) refl)) ∙ turn-over }
      where
        unlike : is_marked found q ≡ true → reads_of (get_or queries q no_query) u ≡ false
        unlike f = ap (λ (x : Query). reads_of x u) (sym query-is) ∙ sym r ∙ (rw f at t)

        go : (b : Bool) → is_marked found q ≡ b → cond (holds_answer keys s q) (query_marks keys s q (get_or queries q no_query) u us marks) marks ≡ marks
        go false f = rw (holds false f)
        go true f = rw (holds true f) (other-marks keys s q (get_or queries q no_query) u us marks (unlike f))

-- the queries in use, as they are lent
pub used-many : (queries : List Query) (n : ℕ) (used : List Query) → length queries ≡ 16 → n ≤ 16 → used ≡ take n queries → length used ≡ n
used-many queries n used l f u = ap length u ∙ length-take-le n queries (omega (arith, l))

-- a query of those in use, read from their slice
pub query-at : (queries : List Query) (n q : ℕ) (d : Query) → length queries ≡ 16 → n ≤ 16 → q < n → get_or (take n queries) q d ≡ get_or queries q no_query
query-at queries n q d l k h = get_or-take n queries q d h ∙ get_or-inside queries q d no_query (omega (arith, l))

-- ---- the update, and the removal of the row that it pushes out

module _ (keys : List Key) (s : SlotList) (queries : List Query) (n : ℕ) (u : Update) (t : Table) (start : ℕ) (cells us : List ℤ) where
  abbrev none : List Bool
  none = replicate 64 false

  abbrev gone : Update
  gone = removal_of u.table t start cells

  abbrev over : Update → List Bool → List Bool
  over v marks = marks_of keys s queries n v us marks

  -- of the slots matched those that an update reaches, beside others
  abbrev reached : Update → List Bool → List Bool → List Bool
  reached v matched marks = marked (reached_at keys queries t.count us v matched) (held_slots s) marks

  abbrev goal : List Bool
  goal = marks_both keys s queries n u t start cells us

  -- where none is held
  pub none-goal : s.held ≡ 0 → none ≡ goal
  unfolding marks_both
  none-goal h = go (is_pushing t u) ∙ sym (ap (λ (xs : List ℕ). at xs (is_pushing t u)) empty)
    where
      matched : List Bool
      matched = marks_judged keys s queries n u t start cells us

      at : List ℕ → Bool → List Bool
      at xs b =
          marked (reached_at keys queries t.count us u matched) xs
          (cond b (marked (reached_at keys queries t.count us gone matched) xs none) none)

      empty : held_slots s ≡ []
      empty = ap (λ (k : ℕ). take k s.order) h

      go : (b : Bool) → none ≡ at [] b
      go true = refl
      go false = refl

  module _ (own : List Bool) (e : own ≡ over u none) where
    -- the row that goes out is judged too
    pub both-goal : (both dropped : List Bool) → both ≡ over gone own → dropped ≡ reached gone both none → is_pushing t u ≡ true → reached u both dropped ≡ goal
    unfolding marks_both marks_judged
    both-goal both dropped f g p =
        let same : both ≡ cond (is_pushing t u) (over gone (over u none)) (over u none) = f ∙ ap (over gone) e ∙ sym (ap (λ (b : Bool). cond b (over gone (over u none)) (over u none)) p) in
        ap₂ (reached u) same
        (g ∙ ap (λ (marks : List Bool). reached gone marks none) same
        ∙ sym (ap (λ (b : Bool). cond b (reached gone (cond (is_pushing t u) (over gone (over u none)) (over u none)) none) none) p))

    pub own-goal : is_pushing t u ≡ false → reached u own none ≡ goal
    unfolding marks_both marks_judged
    own-goal p =
        let same : own ≡ cond (is_pushing t u) (over gone (over u none)) (over u none) = e ∙ sym (ap (λ (b : Bool). cond b (over gone (over u none)) (over u none)) p) in
        ap₂ (reached u) same (sym (ap (λ (b : Bool). cond b (reached gone (cond (is_pushing t u) (over gone (over u none)) (over u none)) none) none) p))
