-- Laws for callers: keys that differ, the key of a question, the first held place whose slot has a key, and keys held twice. Assumes nothing.
use mathlib.Core.Path.{◌≡◌, refl, sym, ap, subst, ◌∙◌}
use mathlib.Core.Logic.{◌≢◌}
use mathlib.Core.Bool.{Bool, true, false, ◌&&◌, cond}
use mathlib.Core.List.{List, [], ◌∷◌, ◌++◌}
use Prim.Native.Nat.{ℕ, suc, ◌+◌, ◌≤◌, ◌<◌, min}
use native.Mathlib.Omega.{arith}
use borrow.Author.Tests.{lt-ltb, ltb-true}
use lib.Dec.{ltb}
use lib.IntN.{ℤ, pos}
use lib.ListN.{length, take, drop, replicate, length-append, length-take}
use lib.Seq.{take_all, take_at}
use Rattle.lists.specs.Lists.{All, nil, cons, DistinctBy}
use Rattle.lists.proofs.Bools.{and_left, and_right, clash}
use Rattle.lists.proofs.Lists.{distinct-source}
use Rattle.lists.proofs.Walks.{take_min}
use Rattle.lists.proofs.Repeats.{repeats-distinct, distinct-repeats, distinct-map}
use Rattle.meaning.specs.Limits.{most_slots, most_marks}
use Rattle.slots.specs.declared.Key.{Key}
use Rattle.slots.specs.declared.SlotList.{SlotList}
use Rattle.std.specs.Prelude.{Some, None}
use Rattle.std.specs.List.{position_from}
use Rattle.std.proofs.lemmas.Iterator.Adapters.{position_from-zero}
use Rattle.slots.specs.Keys.{held_slots, values_of, key_read, same_key, key_of, slot_key, held_keys, slot_has, find_of, held_twice}
use Rattle.slots.specs.Same.{same_read, read_same}

-- ---- keys that differ

pub other-read : (a b : Key) → same_key a b ≡ false → key_read a ≢ key_read b
other-read a b h e = clash (read_same a b e) h

pub read-other : (a b : Key) → key_read a ≢ key_read b → same_key a b ≡ false
read-other a b h = go (same_key a b) refl
  where
    go : (t : Bool) → same_key a b ≡ t → same_key a b ≡ false
    go true e = absurd (h (same_read a b e))
    go false e = e

-- ---- the key of a question

pub key-read : (q : ℕ) (vs : List ℤ) → key_read (key_of q vs) ≡ record { query = q; values = take most_marks vs }
unfolding key_of
key-read q vs =
    let n : length (take 8 vs) ≡ min (length vs) 8 = omega (arith, length-take 8 vs) in
    let e : values_of (key_of q vs) ≡ take 8 vs = take_at (take 8 vs) _ (min (length vs) 8) n in
    λ j. record { query = q; values = e j }

pub key-few : (q : ℕ) (vs : List ℤ) → length vs ≤ most_marks → key_read (key_of q vs) ≡ record { query = q; values = vs }
key-few q vs h = key-read q vs ∙ (λ j. record { query = q; values = take_all 8 vs h j })

-- ---- the first held place whose slot has a key

pub has_key : (keys : List Key) (k : Key) (x : ℕ) → slot_has keys k x ≡ true → (x < most_slots) × (key_read (slot_key keys x) ≡ key_read k)
unfolding slot_has
has_key keys k x h = (ltb-true x 64 (and_left (ltb x 64) _ h), same_read (slot_key keys x) k (and_right (ltb x 64) _ h))

pub has_other : (keys : List Key) (k : Key) (x : ℕ) → x < most_slots → slot_has keys k x ≡ false → key_read (slot_key keys x) ≢ key_read k
unfolding slot_has
has_other keys k x b h = other-read (slot_key keys x) k (sym (ap (λ (t : Bool). t && same_key (slot_key keys x) k) (lt-ltb x 64 b)) ∙ h)

-- the place i of a list: what stands before it fails the test, and what stands there passes
pub record FoundAt (p : ℕ → Bool) (l : List ℕ) (i : ℕ) : Type 0 where
  pub before : List ℕ
  pub slot : ℕ
  pub after : List ℕ
  pub split : l ≡ before ++ slot ∷ after
  pub place : length before ≡ i
  pub passed : All (λ x. p x ≡ false) before
  pub has : p slot ≡ true

find_at : (p : ℕ → Bool) (j : ℕ) (l : List ℕ) (i : ℕ) → position_from p j l ≡ Some i → (k : ℕ) × (i ≡ j + k) × FoundAt p l k
find_at p j [] i h = let z : ◌≡◌ {A = ℕ} 0 1 = cc in absurd (omega arith)
find_at p j (x ∷ l) i h = go (p x) refl h (find_at p (j + 1) l i)
  where
    go : (b : Bool) → p x ≡ b → cond b (Some j) (position_from p (j + 1) l) ≡ Some i → (position_from p (j + 1) l ≡ Some i → (k : ℕ) × (i ≡ j + 1 + k) × FoundAt p l k)
        → (k : ℕ) × (i ≡ j + k) × FoundAt p (x ∷ l) k
    go true e q f =
        let z : j ≡ i = cc in
        (0, omega arith, record { before = []; slot = x; after = l; split = refl; place = refl; passed = nil; has = e })
    go false e q f =
        let r = f q in
        let F = r.2 in
        let s : i ≡ j + 1 + r.0 = r.1 in (
          suc r.0,
          omega arith,
          record {
            before = x ∷ F.before;
            slot = F.slot;
            after = F.after;
            split = ap (λ (t : List ℕ). x ∷ t) F.split;
            place = ap suc F.place;
            passed = cons e F.passed;
            has = F.has;
          },
        )

find-nothing : (p : ℕ → Bool) (j : ℕ) (l : List ℕ) → position_from p j l ≡ None → All (λ x. p x ≡ false) l
find-nothing p j [] h = nil
find-nothing p j (x ∷ l) h = go (p x) refl h (find-nothing p (j + 1) l)
  where
    go : (b : Bool) → p x ≡ b → cond b (Some j) (position_from p (j + 1) l) ≡ None → (position_from p (j + 1) l ≡ None → All (λ x. p x ≡ false) l) → All (λ x. p x ≡ false) (x ∷ l)
    go true e q f = let z : ◌≡◌ {A = ℕ} 0 1 = cc in absurd (omega arith)
    go false e q f = cons e (f q)

-- a place of the held slots is one of those held
pub found_inside : (s : SlotList) (p : ℕ → Bool) (i : ℕ) → FoundAt p (held_slots s) i → i < s.held
found_inside s p i F =
    omega (arith, F.place, ap length F.split, length-append F.before (F.slot ∷ F.after), length-take s.held s.order)

module _ (keys : List Key) (s : SlotList) (k : Key) where
  pub found_at : (i : ℕ) → find_of keys s k ≡ Some i → FoundAt (slot_has keys k) (held_slots s) i
  unfolding find_of
  found_at i h =
      let r = find_at (slot_has keys k) 0 (held_slots s) i (sym (position_from-zero (slot_has keys k) (held_slots s)) ∙ h) in
      let e : r.0 ≡ i = omega (arith, r.1) in
      subst (FoundAt (slot_has keys k) (held_slots s)) e r.2

  pub found_below : (i : ℕ) → find_of keys s k ≡ Some i → i < s.held
  found_below i h = found_inside s (slot_has keys k) i (found_at i h)

  pub found_nothing : find_of keys s k ≡ None → All (λ x. slot_has keys k x ≡ false) (held_slots s)
  unfolding find_of
  found_nothing h = find-nothing (slot_has keys k) 0 (held_slots s) (sym (position_from-zero (slot_has keys k) (held_slots s)) ∙ h)

-- ---- keys held twice

module _ (keys : List Key) (s : SlotList) where
  pub not-twice : held_twice keys s ≡ false → DistinctBy (λ (x : ℕ). key_read (slot_key keys x)) (held_slots s)
  unfolding held_twice
  not-twice h =
      distinct-source (slot_key keys) key_read (held_slots s)
      (repeats-distinct same_key key_read (λ a b e q. other-read a b e (sym q)) (held_keys keys s) h)

  pub twice-not : DistinctBy (λ (x : ℕ). key_read (slot_key keys x)) (held_slots s) → held_twice keys s ≡ false
  unfolding held_twice
  twice-not h =
      distinct-repeats same_key key_read (λ a b e. read-other a b (λ q. e (sym q))) (held_keys keys s)
      (distinct-map (slot_key keys) key_read (held_slots s) h)

-- ---- the key made of a question

pub key_made : (q n : ℕ) (vs r : List ℤ) → n ≡ min (length vs) 8 → r ≡ take n vs → record { query = q; count = n; values = r ++ drop n (replicate 8 (pos 0)) } ≡ key_of q vs
unfolding key_of
key_made q n vs r e h =
    let m : n ≡ min 8 (length vs) = omega arith in
    let t : r ≡ take 8 vs = h ∙ ap (λ (k : ℕ). take k vs) m ∙ take_min 8 (length vs) vs refl in
    let d : n ≡ 0 + length (take 8 vs) = omega (arith, length-take 8 vs) in
    λ j. record { query = q; count = e j; values = t j ++ drop (d j) (replicate 8 (pos 0)) }
