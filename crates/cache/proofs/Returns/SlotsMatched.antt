-- The slots that an update marks are those whose key it matches: `marks_of` read slot by slot. Assumes nothing.
use mathlib.Core.Path.{◌≡◌, refl, sym, ap, ap₂, ◌∙◌}
use mathlib.Core.Bool.{Bool, true, false, ◌&&◌, ◌||◌, cond, and-false, and-true, or-false, or-true}
use mathlib.Core.List.Memᴰ.{head, tail}
use mathlib.Core.List.{List, [], ◌∷◌, Memᴰ as Member}
use Prim.Native.Nat.{ℕ, zero, suc, ◌+◌, ◌≤◌, ◌<◌}
use native.Mathlib.Omega.{arith}
use borrow.Author.Tests.{eqb-true, eqb-false, eq-eqb}
use lib.Dec.{eqb}
use lib.IntN.{ℤ}
use lib.ListN.{length, get_or, set, replicate, length-set}
use lib.Seq.{get_or-set_same, get_or-set_other}
use Rattle.lists.specs.Lists.{any, All, from}
use Rattle.lists.proofs.Bools.{or_assoc, and-or}
use Rattle.lists.proofs.Lists.{All-head, All-tail, any-map, any_false, All-source}
use Rattle.lists.proofs.Changed.{member-has}
use Rattle.statement.specs.declared.Query.{Query}
use Rattle.statement.specs.declared.Update.{Update}
use Rattle.statement.specs.Compiled.{no_query}
use Rattle.pattern.specs.Stored.{clause_total, pattern_at, matches_stored}
use Rattle.pattern.specs.Private.Flat.{clause_agrees}
use Rattle.pattern.proofs.Laws.{matches-one-by-one}
use Rattle.slots.specs.declared.Key.{Key}
use Rattle.slots.specs.declared.SlotList.{SlotList}
use Rattle.slots.specs.Keys.{values_of, slot_key, held_keys, held_slots}
use Rattle.slots.specs.Order.{is_marked}
use Rattle.cache.specs.Private.Marks.{marked, marked_each, clause_at, clause_tests, query_marks, holds_answer, marks_over, marks_of}

-- ---- members that equal a number

-- of them the test says the same
any-equal : (p : ℕ → Bool) (y : ℕ) (xs : List ℕ) → any (λ (x : ℕ). eqb y x && p x) xs ≡ (p y && any (eqb y) xs)
any-equal p y [] = sym (and-false (p y))
any-equal p y (x ∷ xs) = ap₂ ◌||◌ (here (eqb y x) refl) (any-equal p y xs) ∙ and-or (p y) (eqb y x) (any (eqb y) xs)
  where
    here : (b : Bool) → eqb y x ≡ b → (eqb y x && p x) ≡ (p y && eqb y x)
    here true e = rw (e, eqb-true y x e) (sym (and-true (p x)))
    here false e = rw e (sym (and-false (p y)))

any-member : (y : ℕ) {xs : List ℕ} → Member y xs → any (eqb y) xs ≡ true
any-member y (head {xs = xs} e) = ap (λ (b : Bool). b || any (eqb y) xs) (eq-eqb y _ e)
any-member y (tail {x = x} m) = ap (λ (b : Bool). eqb y x || b) (any-member y m) ∙ or-true (eqb y x)

member-from : (i n k : ℕ) → i ≤ k → k < i + n → Member k (from i n)
member-from i zero k a b = absurd (omega arith)
member-from i (suc n) k a b = go (eqb i k) refl (member-from (suc i) n k)
  where
    go : (t : Bool) → eqb i k ≡ t → (suc i ≤ k → k < suc i + n → Member k (from (suc i) n)) → Member k (from i (suc n))
    go true e f = head (sym (eqb-true i k e))
    go false e f = let ne = eqb-false i k e in tail (f (omega (arith, ne)) (omega arith))

any-both : {A : Type 0} (b : Bool) (f : A → Bool) (xs : List A) → any (λ (x : A). b && f x) xs ≡ (b && any f xs)
any-both b f [] = sym (and-false b)
any-both b f (x ∷ xs) = ap (λ (c : Bool). (b && f x) || c) (any-both b f xs) ∙ and-or b (f x) (any f xs)

-- ---- marks

-- nothing is marked at first
pub no-mark : (n x : ℕ) → is_marked (replicate n false) x ≡ false
no-mark zero x = refl
no-mark (suc n) zero = refl
no-mark (suc n) (suc x) = no-mark n x

-- one more is marked
pub set-mark : (marks : List Bool) (x y : ℕ) → x < length marks → is_marked (set marks x true) y ≡ (is_marked marks y || eqb y x)
set-mark marks x y h = go (eqb y x) refl
  where
    go : (b : Bool) → eqb y x ≡ b → is_marked (set marks x true) y ≡ (is_marked marks y || b)
    go true e =
        let q : y ≡ x = eqb-true y x e in
        ap (λ (z : ℕ). is_marked (set marks x true) z) q ∙ get_or-set_same marks x true false h ∙ sym (or-true (is_marked marks y))
    go false e = get_or-set_other marks x y true false (eqb-false y x e) ∙ sym (or-false (is_marked marks y))

length-if : (b : Bool) (marks : List Bool) (x : ℕ) → length (cond b (set marks x true) marks) ≡ length marks
length-if true marks x = length-set marks x true
length-if false marks x = refl

mark-if : (b : Bool) (marks : List Bool) (x y : ℕ) → x < length marks → is_marked (cond b (set marks x true) marks) y ≡ (is_marked marks y || (eqb y x && b))
mark-if true marks x y h = set-mark marks x y h ∙ ap (λ (b : Bool). is_marked marks y || b) (sym (and-true (eqb y x)))
mark-if false marks x y h = sym (or-false (is_marked marks y)) ∙ ap (λ (b : Bool). is_marked marks y || b) (sym (and-false (eqb y x)))

pub length_marked : (p : ℕ → Bool) (xs : List ℕ) (marks : List Bool) → length (marked p xs marks) ≡ length marks
length_marked p [] marks = refl
length_marked p (x ∷ xs) marks = length_marked p xs (cond (p x) (set marks x true) marks) ∙ length-if (p x) marks x

length-each : (ps : List (ℕ → Bool)) (xs : List ℕ) (marks : List Bool) → length (marked_each ps xs marks) ≡ length marks
length-each [] xs marks = refl
length-each (p ∷ ps) xs marks = length-each ps xs (marked p xs marks) ∙ length_marked p xs marks

marked-at : (n : ℕ) (p : ℕ → Bool) (xs : List ℕ) (marks : List Bool) (y : ℕ) → All (λ x. x < n) xs → length marks ≡ n
    → is_marked (marked p xs marks) y ≡ (is_marked marks y || any (λ (x : ℕ). eqb y x && p x) xs)
marked-at n p [] marks y h l = sym (or-false (is_marked marks y))
marked-at n p (x ∷ xs) marks y h l =
    let b : x < n = All-head h in
    marked-at n p xs (cond (p x) (set marks x true) marks) y (All-tail h) (length-if (p x) marks x ∙ l)
    ∙ ap (λ (b : Bool). b || any (λ (x : ℕ). eqb y x && p x) xs) (mark-if (p x) marks x y (omega arith))
    ∙ sym (or_assoc (is_marked marks y) (eqb y x && p x) (any (λ (x : ℕ). eqb y x && p x) xs))

-- of the members of the list those are marked that pass one of the tests
module _ (n : ℕ) (xs : List ℕ) (h : All (λ x. x < n) xs) (y : ℕ) (m : Member y xs) where
  pub marked-one : (p : ℕ → Bool) (marks : List Bool) → length marks ≡ n → is_marked (marked p xs marks) y ≡ (is_marked marks y || p y)
  marked-one p marks l =
      marked-at n p xs marks y h l
      ∙ ap (λ (b : Bool). is_marked marks y || b) (any-equal p y xs ∙ ap (λ (b : Bool). p y && b) (any-member y m) ∙ and-true (p y))

  marked-each : (ps : List (ℕ → Bool)) (marks : List Bool) → length marks ≡ n → is_marked (marked_each ps xs marks) y ≡ (is_marked marks y || any (λ (p : ℕ → Bool). p y) ps)
  marked-each [] marks l = sym (or-false (is_marked marks y))
  marked-each (p ∷ ps) marks l =
      marked-each ps (marked p xs marks) (length_marked p xs marks ∙ l)
      ∙ ap (λ (b : Bool). b || any (λ (p : ℕ → Bool). p y) ps) (marked-one p marks l)
      ∙ sym (or_assoc (is_marked marks y) (p y) (any (λ (p : ℕ → Bool). p y) ps))

-- ---- the slots whose key the update matches

module _ (keys : List Key) (s : SlotList) (queries : List Query) (u : Update) (us : List ℤ) (n : ℕ) (h : All (λ x. x < n) (held_slots s)) (y : ℕ)
    (m : Member y (held_slots s)) where
  abbrev key : Key
  key = slot_key keys y

  -- the key is of the query, and the update matches it
  abbrev matched_by : ℕ → Bool
  matched_by q = eqb key.query q && matches_stored (get_or queries q no_query) u us (values_of key)

  clauses-match : (q : ℕ) (query : Query) → any (λ (p : ℕ → Bool). p y) (clause_tests keys q query u us) ≡ (eqb key.query q && matches_stored query u us (values_of key))
  clauses-match q query =
      any-map (λ (i : ℕ). clause_at keys q us (pattern_at query u i)) (λ (p : ℕ → Bool). p y) (from 0 (clause_total query u))
      ∙ any-both (eqb key.query q) (λ (i : ℕ). clause_agrees us (values_of key) (pattern_at query u i)) (from 0 (clause_total query u))
      ∙ ap (λ (b : Bool). eqb key.query q && b) (matches-one-by-one query u us (values_of key))

  -- a query that holds no answer has no held key
  not-held : (q : ℕ) → holds_answer keys s q ≡ false → eqb key.query q ≡ false
  not-held q e = member-has (All-source (slot_key keys) (held_slots s) (any_false (λ (k : Key). eqb k.query q) (held_keys keys s) e)) m

  abbrev next : ℕ → List Bool → List Bool
  next q marks = cond (holds_answer keys s q) (query_marks keys s q (get_or queries q no_query) u us marks) marks

  next-at : (q : ℕ) (marks : List Bool) → length marks ≡ n → is_marked (next q marks) y ≡ (is_marked marks y || matched_by q)
  next-at q marks l = go (holds_answer keys s q) refl
    where
      go : (b : Bool) → holds_answer keys s q ≡ b → is_marked (cond b (query_marks keys s q (get_or queries q no_query) u us marks) marks) y ≡ (is_marked marks y || matched_by q)
      go true e =
          marked-each n (held_slots s) h y m (clause_tests keys q (get_or queries q no_query) u us) marks l
          ∙ ap (λ (b : Bool). is_marked marks y || b) (clauses-match q (get_or queries q no_query))
      go false e = rw (not-held q e) (sym (or-false (is_marked marks y)))

  next-length : (q : ℕ) (marks : List Bool) → length (next q marks) ≡ length marks
  next-length q marks = go (holds_answer keys s q)
    where
      go : (b : Bool) → length (cond b (query_marks keys s q (get_or queries q no_query) u us marks) marks) ≡ length marks
      go true = length-each (clause_tests keys q (get_or queries q no_query) u us) (held_slots s) marks
      go false = refl

  over-at : (qs : List ℕ) (marks : List Bool) → length marks ≡ n → is_marked (marks_over keys s queries u us qs marks) y ≡ (is_marked marks y || any matched_by qs)
  over-at [] marks l = sym (or-false (is_marked marks y))
  over-at (q ∷ qs) marks l =
      over-at qs (next q marks) (next-length q marks ∙ l)
      ∙ ap (λ (b : Bool). b || any matched_by qs) (next-at q marks l)
      ∙ sym (or_assoc (is_marked marks y) (matched_by q) (any matched_by qs))

  -- as many marks as before
  pub marks-length : (c : ℕ) (marks : List Bool) → length (marks_of keys s queries c u us marks) ≡ length marks
  unfolding marks_of
  marks-length c marks = go (from 0 c) marks
    where
      go : (qs : List ℕ) (marks : List Bool) → length (marks_over keys s queries u us qs marks) ≡ length marks
      go [] marks = refl
      go (q ∷ qs) marks = go qs (next q marks) ∙ next-length q marks

  -- beside those that were marked, nothing else is
  pub marks-match : (c : ℕ) → key.query < c → (marks : List Bool) → length marks ≡ n
      → is_marked (marks_of keys s queries c u us marks) y ≡ (is_marked marks y || matches_stored (get_or queries key.query no_query) u us (values_of key))
  unfolding marks_of
  marks-match c b marks l =
      let M : ℕ → Bool = λ q. matches_stored (get_or queries q no_query) u us (values_of key) in
      over-at (from 0 c) marks l
      ∙ ap (λ (b : Bool). is_marked marks y || b)
      (any-equal M key.query (from 0 c)
      ∙ ap (λ (b : Bool). M key.query && b) (any-member key.query (member-from 0 c key.query (omega arith) (omega arith)))
      ∙ and-true (M key.query))
