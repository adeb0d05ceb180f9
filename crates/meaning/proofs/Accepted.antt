-- The demands of specs/Demand about refusals and acceptance: the number given is the lowest that applies, a refused call changes nothing, and a text is
-- accepted, and its statement added, exactly if no condition of refusals 2 to 9 holds. Assumes nothing.
use mathlib.Core.Path.{◌≡◌, refl, sym, ap, subst, ◌∙◌}
use mathlib.Core.Logic.{◌↔◌, ◌≢◌}
use mathlib.Core.Bool.{Bool, true, false, cond, ◌&&◌, ◌||◌, and-false, or-true, not}
use mathlib.Core.Option.{Option, none, some}
use mathlib.Core.List.{List, [], ◌∷◌, ◌++◌}
use Prim.Native.Nat.{ℕ, zero, suc, ◌≤◌, ◌<◌}
use native.Mathlib.Omega.{arith}
use borrow.Author.Tests.{ltb-true, ltb-false, le-ltb, eq-eqb, ne_eqb, leb-false, eqb-true, lt-leb}
use lib.Dec.{ltb, eqb}
use lib.IntN.{ℤ}
use lib.ListN.{length}
use Rattle.lists.specs.Lists.{any, All, nil, cons}
use Rattle.lists.proofs.Bools.{and_left, and_right, not-false, clash}
use Rattle.lists.proofs.Lists.{All-head, All-tail, All-map}
use Rattle.meaning.specs.Tokens.{tokens}
use Rattle.meaning.specs.Grammar.{Sentence}
use Rattle.meaning.specs.Reader.{sentence}
use Rattle.meaning.specs.Key.{Key}
use Rattle.meaning.specs.Limits.{most_text}
use Rattle.meaning.specs.Plain.{Lengths, Plain, query_at, update_at, other_lengths, catalog_of, full, ask_conditions, change_conditions, conditions, refusal, refused, text_added, does, guard, Note}
use Rattle.meaning.specs.Refusals.{Conditions, order, or_else, lowest_of, add_conditions, applies, Lowest, is_none}
use Rattle.meaning.specs.Call.{Call, add, ask, change, flush, propose, commit, withdraw}
use Rattle.meaning.specs.Demand.{LowestNumber, RefusedChangesNothing, ReadsExactly, OneSentence, Acceptable, AcceptedExactlyIf, AcceptedIsAdded}
use Rattle.meaning.proofs.Decides.{decides, unique}

-- ---- the lowest number that applies, in any list of numbers and conditions

-- the place of a number in the order in which they are looked for, counted from 1; 0 where it is none of them
abbrev later_place : ℕ → ℕ
later_place zero = zero
later_place (suc k) = suc (suc k)

abbrev place_in : List ℕ → ℕ → ℕ
place_in [] n = 0
place_in (m ∷ ms) n = cond (eqb m n) 1 (later_place (place_in ms n))

abbrev pub rank : ℕ → ℕ
rank n = place_in order n

-- the numbers stand in their order, all behind k
abbrev pub ascends : ℕ → List (ℕ × Bool) → Bool
ascends k [] = true
ascends k (c ∷ cs) = ltb k (rank c.0) && ascends (rank c.0) cs

module _ (k : ℕ) (c : ℕ × Bool) (cs : List (ℕ × Bool)) (a : ascends k (c ∷ cs) ≡ true) where
  above : k < rank c.0
  above = ltb-true k (rank c.0) (and_left (ltb k (rank c.0)) (ascends (rank c.0) cs) a)

  later : ascends (rank c.0) cs ≡ true
  later = and_right (ltb k (rank c.0)) (ascends (rank c.0) cs) a

behind : (n m : ℕ) → rank m < rank n → n ≡ m → ⊥
behind n m h e = let d : rank n ≡ rank m = ap rank e in let z : ⊥ = absurd (omega (arith, d, h)) in z

-- no number up to k applies
none_below : (k : ℕ) (cs : List (ℕ × Bool)) → ascends k cs ≡ true → (m : ℕ) → rank m ≤ k → applies cs m ≡ false
none_below k [] a m h = refl
none_below k (c ∷ cs) a m h =
    let up : k < rank c.0 = above k c cs a in
    rw (ne_eqb c.0 m (λ e. behind c.0 m (omega (arith, up, h)) e)) (none_below (rank c.0) cs (later k c cs a) m (omega (arith, up, h)))

pub record LowestIn (cs : List (ℕ × Bool)) (n : ℕ) : Type 0 where
  pub given : n ≢ 0 → applies cs n ≡ true
  pub lower : (m : ℕ) → rank m < rank n → applies cs m ≡ false
  pub only : n ≡ 0 → (m : ℕ) → applies cs m ≡ false

passed-by : (c : ℕ × Bool) (cs : List (ℕ × Bool)) → c.1 ≡ false → (m : ℕ) → applies (c ∷ cs) m ≡ applies cs m
passed-by c cs e m = ap (λ b. (eqb c.0 m && b) || applies cs m) e ∙ ap (λ b. b || applies cs m) (and-false (eqb c.0 m))

-- of numbers that ascend from above 0, the first whose condition holds is the lowest that applies
pub lowest-in : (k : ℕ) (cs : List (ℕ × Bool)) → ascends k cs ≡ true → LowestIn cs (lowest_of cs)
lowest-in k [] a = record { given = λ h. absurd (h refl); lower = λ m h. refl; only = λ e m. refl }
lowest-in k (c ∷ cs) a = go c.1 refl (lowest-in (rank c.0) cs (later k c cs a))
  where
    up : k < rank c.0
    up = above k c cs a

    below : (m : ℕ) → rank m < rank c.0 → applies (c ∷ cs) m ≡ false
    below m h = rw (ne_eqb c.0 m (behind c.0 m h)) (none_below (rank c.0) cs (later k c cs a) m (omega (arith, h)))

    go : (b : Bool) → c.1 ≡ b → LowestIn cs (lowest_of cs) → LowestIn (c ∷ cs) (or_else b c.0 (lowest_of cs))
    go true e ih = record {
      given = λ h. rw (eq-eqb c.0 c.0 refl, e);
      lower = below;
      only = λ q m. absurd (behind c.0 0 (omega (arith, up)) q);
    }
    go false e ih = record {
      given = λ h. passed-by c cs e (lowest_of cs) ∙ ih.given h;
      lower = λ m h. passed-by c cs e m ∙ ih.lower m h;
      only = λ q m. passed-by c cs e m ∙ ih.only q m;
    }

later-placed : (k : ℕ) → 0 < later_place k → 0 < k
later-placed zero h = h
later-placed (suc k) h = omega arith

-- a number with a place is in the list
place-listed : (ms : List ℕ) (n : ℕ) → 0 < place_in ms n → any (eqb n) ms ≡ true
place-listed [] n h = absurd (omega (arith, h))
place-listed (m ∷ ms) n h = go (eqb m n) refl h (place-listed ms n)
  where
    go : (b : Bool) → eqb m n ≡ b → 0 < cond b 1 (later_place (place_in ms n)) → (0 < place_in ms n → any (eqb n) ms ≡ true) → any (eqb n) (m ∷ ms) ≡ true
    go true e h ih = rw (eq-eqb n m (sym (eqb-true m n e)))
    go false e h ih = rw (ih (later-placed (place_in ms n) h), or-true (eqb n m))

-- the ranks of a list of numbers climb, all above k
abbrev climbs : ℕ → List ℕ → Bool
climbs k [] = true
climbs k (m ∷ ms) = ltb k (rank m) && climbs (rank m) ms

-- so those before a number have smaller ranks
climbs-before : (k : ℕ) (before : List ℕ) (n : ℕ) (behind : List ℕ) → climbs k (before ++ n ∷ behind) ≡ true → (k < rank n) × All (λ (m : ℕ). rank m < rank n) before
climbs-before k [] n behind h = (ltb-true k (rank n) (and_left (ltb k (rank n)) (climbs (rank n) behind) h), nil)
climbs-before k (m ∷ ms) n behind h =
    let up : k < rank m = ltb-true k (rank m) (and_left (ltb k (rank m)) (climbs (rank m) (ms ++ n ∷ behind)) h) in
    let r = climbs-before (rank m) ms n behind (and_right (ltb k (rank m)) (climbs (rank m) (ms ++ n ∷ behind)) h) in
    (omega (arith, up, r.0), cons r.0 r.1)

-- of numbers that ascend the lowest that applies is given
pub lowest-of : (cs : Conditions) → ascends 0 cs ≡ true → Lowest cs (lowest_of cs)
lowest-of cs a =
    let l : LowestIn cs (lowest_of cs) = lowest-in 0 cs a in
    record {
      listed = listed;
      given = l.given;
      lower = λ before behind e. All-map l.lower (climbs-before 0 before (lowest_of cs) behind (subst (λ (ms : List ℕ). climbs 0 ms ≡ true) e refl)).1;
      only = l.only;
    }
  where
    listed : (m : ℕ) → applies cs m ≡ true → any (eqb m) order ≡ true
    listed m h = go (ltb 0 (rank m)) refl
      where
        go : (b : Bool) → ltb 0 (rank m) ≡ b → any (eqb m) order ≡ true
        go true e = place-listed order m (ltb-true 0 (rank m) e)
        go false e = clash h (none_below 0 cs a m (ltb-false 0 (rank m) e))

-- 0 is given exactly if no condition holds
pub clear : (k : ℕ) (cs : List (ℕ × Bool)) → ascends k cs ≡ true → (lowest_of cs ≡ 0) ↔ All (λ c. c.1 ≡ false) cs
clear k [] a = ((λ e. nil), (λ h. refl))
clear k (c ∷ cs) a = go c.1 refl (clear (rank c.0) cs (later k c cs a))
  where
    up : k < rank c.0
    up = above k c cs a

    go : (b : Bool) → c.1 ≡ b → (lowest_of cs ≡ 0) ↔ All (λ c. c.1 ≡ false) cs → (or_else b c.0 (lowest_of cs) ≡ 0) ↔ All (λ c. c.1 ≡ false) (c ∷ cs)
    go true e ih = ((λ q. absurd (behind c.0 0 (omega (arith, up)) q)), (λ h. clash e (All-head h)))
    go false e ih = ((λ q. cons e (ih.0 q)), (λ h. ih.1 (All-tail h)))

-- the numbers of a call ascend
ascending : (lent : Lengths) (p : Plain) (c : Call ℕ) → ascends 0 (conditions lent p c) ≡ true
ascending lent p (add text) = refl
ascending lent p (ask k buffer) = refl
ascending lent p (change n us) = refl
ascending lent p flush = refl
ascending lent p (propose n us) = refl
ascending lent p commit = refl
ascending lent p withdraw = refl

-- ---- demand 1

-- the lowest number that applies is given, and only then
pub lowest_number : LowestNumber
unfolding refusal
lowest_number lent p c = lowest-of (conditions lent p c) (ascending lent p c)

module _ {S O : Type 0} (s : S) (f : ℕ → O) (done : S × O) where
  pub guard-refused : (n : ℕ) → n ≢ 0 → guard n s f done ≡ (s, f n)
  guard-refused zero h = absurd (h refl)
  guard-refused (suc n) h = refl

  pub guard-done : (n : ℕ) → n ≡ 0 → guard n s f done ≡ done
  guard-done n e = ap (λ k. guard k s f done) e

-- a refused call changes nothing
pub refused_changes_nothing : RefusedChangesNothing
refused_changes_nothing lent p c h = guard-refused p refused (does p c) (refusal lent p c) h

-- ---- demand 2

-- a text is read as a sentence exactly if its tokens are the sentence's
pub reads_exactly : ReadsExactly
reads_exactly text s = decides (tokens text) s

-- one spelling, one sentence
pub one_sentence : OneSentence
one_sentence s t e = unique s t e

module _ (lent : Lengths) (p : Plain) (text : List ℕ) where
  acceptable-of : (o : Option Sentence) → sentence text ≡ o → All (λ c. c.1 ≡ false) (add_conditions (other_lengths lent p) (catalog_of p) text o) → (s : Sentence) × Acceptable lent p text s
  acceptable-of none e h = clash refl (All-head (All-tail (All-tail h)))
  acceptable-of (some s) e h =
      let h₃ = All-tail h in
      let h₅ = All-tail (All-tail h₃) in
      let h₆ = All-tail h₅ in
      let h₇ = All-tail h₆ in
      let h₈ = All-tail h₇ in (
        s,
        record {
          lengths = All-head h;
          short = ltb-false most_text (length text) (All-head h₃);
          spelled = (decides (tokens text) s).0 e;
          within = All-head h₅;
          known = All-head h₆;
          fresh = All-head h₇;
          counted = All-head h₈;
          different = All-head (All-tail h₈);
          place = All-head (All-tail (All-tail h₈));
        },
      )

  none-holds : (s : Sentence) → Acceptable lent p text s → All (λ c. c.1 ≡ false) (add_conditions (other_lengths lent p) (catalog_of p) text (some s))
  none-holds s h =
      cons h.lengths (cons (le-ltb most_text (length text) h.short) (cons refl (cons h.within
      (cons h.known (cons h.fresh (cons h.counted (cons h.different (cons h.place nil))))))))

  its-sentence : (s : Sentence) → Acceptable lent p text s → sentence text ≡ some s
  its-sentence s h = (decides (tokens text) s).1 h.spelled

  not-refused : (s : Sentence) → Acceptable lent p text s → refusal lent p (add text) ≡ 0
  unfolding refusal
  not-refused s h =
      (clear 0 (conditions lent p (add text)) (ascending lent p (add text))).1
      (subst (λ o. All (λ c. c.1 ≡ false) (add_conditions (other_lengths lent p) (catalog_of p) text o)) (sym (its-sentence s h)) (none-holds s h))

-- a text is accepted exactly if no condition holds
pub accepted_exactly_if : AcceptedExactlyIf
unfolding refusal
accepted_exactly_if lent p text = (
  (λ e. acceptable-of lent p text (sentence text) refl ((clear 0 (conditions lent p (add text)) (ascending lent p (add text))).0 e)),
  (λ h. not-refused lent p text h.0 h.1),
)

-- and then its statement is added
pub accepted_is_added : AcceptedIsAdded
unfolding text_added
accepted_is_added lent p text s h =
    guard-done p refused (does p (add text)) (refusal lent p (add text)) (not-refused lent p text s h)
    ∙ ap (text_added p) (its-sentence lent p text s h)

-- ---- what a call that is not refused tells

-- a text: its sentence, and that no condition holds
pub text-taken : (lent : Lengths) (p : Plain) (text : List ℕ) → refusal lent p (add text) ≡ 0 → (s : Sentence) × (sentence text ≡ some s) × Acceptable lent p text s
text-taken lent p text e =
    let (s, h) = (accepted_exactly_if lent p text).0 e in
    (s, its-sentence lent p text s h, h)

-- a question

pub record Asked (lent : Lengths) (p : Plain) (k : Key) : Type 0 where
  pub lengths : other_lengths lent p ≡ false
  pub there : k.query < length p.queries
  pub values : length k.values ≡ (query_at p k.query).parameters

module _ (lent : Lengths) (p : Plain) (k : Key) where
  pub key-asked : lowest_of (ask_conditions lent p k) ≡ 0 → Asked lent p k
  key-asked h =
      let a = (clear 0 (ask_conditions lent p k) refl).0 h in
      record {
        lengths = All-head a;
        there = leb-false (length p.queries) k.query (All-head (All-tail a));
        values =
            eqb-true (length k.values) (query_at p k.query).parameters
            (not-false (eqb (length k.values) (query_at p k.query).parameters) (All-head (All-tail (All-tail a))));
      }

-- an update: 10 to 12 are no ground against it
pub record Ready (p : Plain) (n : ℕ) (us : List ℤ) : Type 0 where
  pub there : n < length p.updates
  pub values : length us ≡ (update_at p n).parameters
  pub room : full p n ≡ false

module _ (lent : Lengths) (p : Plain) (n : ℕ) (us : List ℤ) where
  -- and the lengths are right
  pub update-taken : refusal lent p (change n us) ≡ 0 → (other_lengths lent p ≡ false) × Ready p n us
  unfolding refusal
  update-taken h =
      let a = (clear 0 (change_conditions lent p n us) refl).0 h in (
        All-head a,
        record {
          there = leb-false (length p.updates) n (All-head (All-tail a));
          values =
              eqb-true (length us) (update_at p n).parameters
              (not-false (eqb (length us) (update_at p n).parameters) (All-head (All-tail (All-tail a))));
          room = All-head (All-tail (All-tail (All-tail a)));
        },
      )

  pub ready-taken : other_lengths lent p ≡ false → Ready p n us → refusal lent p (change n us) ≡ 0
  unfolding refusal
  ready-taken l R =
      (clear 0 (change_conditions lent p n us) refl).1
      (cons l (cons (lt-leb (length p.updates) n R.there) (cons (ap not (eq-eqb (length us) (update_at p n).parameters R.values)) (cons R.room nil))))

-- a proposal has the same numbers
pub propose-refusal : (lent : Lengths) (p : Plain) (n : ℕ) (us : List ℤ) → refusal lent p (propose n us) ≡ refusal lent p (change n us)
unfolding refusal
propose-refusal lent p n us = refl

-- a commit: there is a note
there : {A : Type 0} (o : Option A) → is_none o ≡ false → (x : A) × (o ≡ some x)
there none h = clash refl h
there (some x) h = (x, refl)

pub commit-noted : (lent : Lengths) (p : Plain) → refusal lent p commit ≡ 0 → (x : Note) × (p.pending ≡ some x) × (other_lengths lent p ≡ false)
unfolding refusal
commit-noted lent p h =
    let a = (clear 0 (conditions lent p commit) refl).0 h in
    let (x, e) = there p.pending (All-head (All-tail a)) in
    (x, e, All-head a)

pub noted-taken : (lent : Lengths) (p : Plain) (x : Note) → p.pending ≡ some x → other_lengths lent p ≡ false → refusal lent p commit ≡ 0
unfolding refusal
noted-taken lent p x e l = (clear 0 (conditions lent p commit) refl).1 (cons l (cons (ap is_none e) nil))
