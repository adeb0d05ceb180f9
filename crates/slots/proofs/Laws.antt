-- Laws for callers: what the slots, the held and the free ones are after each call, and that a sound slot list stays sound. The slots of a list after a call are those
-- before it in another order (`Moved`): so as many are counted, and what all of them have stays. Assumes nothing.
use mathlib.Core.Path.{◌≡◌, refl, sym, ap, ap₂, subst, ◌∙◌}
use mathlib.Core.Logic.{◌≢◌}
use mathlib.Core.Bool.{Bool, true, false, not}
use mathlib.Core.List.{List, [], ◌∷◌, ◌++◌, append_assoc, append-nil}
use Prim.Native.Nat.{ℕ, suc, ◌+◌, ◌-◌, ◌≤◌, ◌<◌, min}
use native.Mathlib.Decide.{dec_lt}
use native.Mathlib.Omega.{arith}
use borrow.Author.Tests.{le-leb, leb-true, lt-ltb, ltb-true, eqb-false, ne_eqb}
use lib.Dec.{leb, ltb, eqb}
use lib.ListN.{length, take, drop, get_or, length-append, length-take, length-drop, take-append-drop, drop_of_length-le, get_or-eq_default}
use lib.Seq.{take_at, take_all, take-suc, take-take, take-add, take-append-add, drop_at, drop-append-le, length-take-le, get_or-take}
use Rattle.lists.specs.Lists.{All, Distinct, all, keep, count, repeats, from}
use Rattle.lists.proofs.Bools.{and_left, and_right, and_both, not-true}
use Rattle.lists.proofs.Lists.{All-map, All-take, All-every, all_true, all-of, keep_all}
use Rattle.lists.proofs.Places.{All-at}
use Rattle.lists.proofs.Moved.{Moved, moved-last, moved-parted, parted-length, moved-All, moved-distinct, from-once, from-below, take-from}
use Rattle.lists.proofs.Repeats.{repeats-distinct, distinct-repeats}
use Rattle.meaning.specs.Limits.{most_slots}
use Rattle.slots.specs.declared.SlotList.{SlotList}
use Rattle.slots.specs.Order.{free_slots, sound_slots, open_of, front, front_of, is_open, last_taken, drop_by, clear_of}
use Rattle.slots.specs.Keys.{slots_of, held_slots}
use Rattle.slots.proofs.Fronts.{front_at, take-front, drop-front, front-moved}
use Rattle.slots.proofs.KeyLaws.{FoundAt, found_inside}

-- ---- what the test of a slot list says

pub record Sound (s : SlotList) : Type 0 where
  pub few : s.count ≤ most_slots
  pub within : s.held ≤ s.count
  pub below : All (λ x. x < s.count) (slots_of s)
  pub once : Distinct (slots_of s)

pub sound-is : (s : SlotList) → sound_slots s ≡ true → Sound s
unfolding sound_slots
sound-is s h =
    let a = and_right (leb s.count 64) _ h in
    let b = and_right (leb s.held s.count) _ a in
    record {
      few = leb-true s.count 64 (and_left (leb s.count 64) _ h);
      within = leb-true s.held s.count (and_left (leb s.held s.count) _ a);
      below = All-map (λ x e. ltb-true x s.count e) (all_true (λ (x : ℕ). ltb x s.count) (slots_of s) (and_left (all (λ (x : ℕ). ltb x s.count) (slots_of s)) _ b));
      once =
          repeats-distinct eqb (λ (x : ℕ). x) (λ x y e q. eqb-false x y e (sym q)) (slots_of s)
          (not-true (repeats eqb (slots_of s)) (and_right (all (λ (x : ℕ). ltb x s.count) (slots_of s)) _ b));
    }

pub is-sound : (s : SlotList) → Sound s → sound_slots s ≡ true
unfolding sound_slots
is-sound s S =
    and_both (leb s.count 64) _ (le-leb s.count 64 S.few)
    (and_both (leb s.held s.count) _ (le-leb s.held s.count S.within)
    (and_both (all (λ (x : ℕ). ltb x s.count) (slots_of s)) _ (all-of (λ (x : ℕ). ltb x s.count) (All-map (λ x b. lt-ltb x s.count b) S.below))
    (ap not (distinct-repeats eqb (λ (x : ℕ). x) (λ x y e. ne_eqb x y (λ q. e (sym q))) (slots_of s) S.once))))

-- the same slots in another order, no more of them held than there are
sound-moved : (s t : SlotList) → Sound s → t.count ≡ s.count → t.held ≤ s.count → Moved (slots_of s) (slots_of t) → Sound t
sound-moved s t S e h m = record {
  few = omega (arith, S.few);
  within = omega arith;
  below = All-map (λ x b. omega arith) (moved-All m S.below);
  once = moved-distinct m S.once;
}

-- ---- held and free ones

-- the held slots are the first of the slots, the free ones the others
pub held_first : (s : SlotList) → s.held ≤ s.count → take s.held (slots_of s) ≡ held_slots s
held_first s h = take-take s.held s.count s.order h

pub held-free : (s : SlotList) → s.held ≤ s.count → slots_of s ≡ held_slots s ++ free_slots s
held-free s h = sym (take-append-drop s.held (slots_of s)) ∙ ap (λ (l : List ℕ). l ++ free_slots s) (held_first s h)

module _ (s : SlotList) (S : Sound s) (long : length s.order ≡ most_slots) where
  pub slots_length : length (slots_of s) ≡ s.count
  slots_length = length-take-le s.count s.order (omega (arith, S.few))

  pub held-length : length (held_slots s) ≡ s.held
  held-length = length-take-le s.held s.order (omega (arith, S.few, S.within))

-- every held slot is below the count
pub held_below : (s : SlotList) → Sound s → All (λ x. x < s.count) (held_slots s)
held_below s S = subst (All (λ x. x < s.count)) (held_first s S.within) (All-take s.held S.below)

-- ---- opening

pub open-slots : (n : ℕ) → n ≤ most_slots → slots_of (open_of n) ≡ from 0 n
unfolding open_of
open-slots n h = take-from 0 n 64 h

pub open-held : (n : ℕ) → held_slots (open_of n) ≡ []
unfolding open_of
open-held n = refl

pub open_free : (n : ℕ) → n ≤ most_slots → free_slots (open_of n) ≡ from 0 n
unfolding open_of
open_free n h = open-slots n h

pub open-sound : (n : ℕ) → n ≤ most_slots → Sound (open_of n)
unfolding open_of
open-sound n h = record {
  few = h;
  within = omega arith;
  below = subst (All (λ x. x < n)) (sym (open-slots n h)) (All-map (λ x b. omega arith) (from-below 0 n));
  once = subst Distinct (sym (open-slots n h)) (from-once 0 n);
}

-- ---- a slot moved to the front

module _ (s : SlotList) (p : ℕ) where
  pub front-slots : p < s.count → slots_of (front_of s p) ≡ front p (slots_of s)
  unfolding front_of
  front-slots h = take-front p s.count s.order h

  pub front-held : p < s.held → held_slots (front_of s p) ≡ front p (held_slots s)
  unfolding front_of
  front-held h = take-front p s.held s.order h

  pub front-free : p < s.held → s.held ≤ s.count → free_slots (front_of s p) ≡ free_slots s
  unfolding front_of
  front-free h k = ap (drop s.held) (take-front p s.count s.order (omega arith)) ∙ drop-front p s.held (slots_of s) h

  -- the place where a slot was found
  pub front-found : (f : ℕ → Bool) (F : FoundAt f (held_slots s) p) → held_slots (front_of s p) ≡ F.slot ∷ (F.before ++ F.after)
  front-found f F = front-held (found_inside s f p F) ∙ ap (front p) F.split ∙ front_at F.before F.slot F.after p F.place

  pub slots-front : p < s.count → Moved (slots_of s) (slots_of (front_of s p))
  slots-front h = subst (λ (l : List ℕ). Moved (slots_of s) l) (sym (front-slots h)) (front-moved p (slots_of s))

  pub held-front : p < s.held → Moved (held_slots s) (held_slots (front_of s p))
  held-front h = subst (λ (l : List ℕ). Moved (held_slots s) l) (sym (front-held h)) (front-moved p (held_slots s))

  pub front-sound : p < s.count → Sound s → Sound (front_of s p)
  unfolding front_of
  front-sound h S = sound-moved s (front_of s p) S refl S.within (slots-front h)

-- ---- the last slot taken

-- a free slot was taken: it is held before the others; or a held one was, and it is the first of them
pub record TakenFree (s : SlotList) : Type 0 where
  pub held : held_slots (last_taken s).slots ≡ (last_taken s).slot ∷ held_slots s
  pub free : free_slots s ≡ free_slots (last_taken s).slots ++ (last_taken s).slot ∷ []
  pub apart : All (λ x. x ≢ (last_taken s).slot) (held_slots s)

pub record TakenHeld (s : SlotList) : Type 0 where
  pub others : List ℕ
  pub before : held_slots s ≡ others ++ (last_taken s).slot ∷ []
  pub held : held_slots (last_taken s).slots ≡ (last_taken s).slot ∷ others
  pub none : free_slots s ≡ []
  pub free : free_slots (last_taken s).slots ≡ []
  pub apart : All (λ x. x ≢ (last_taken s).slot) others

-- of a sound list with a slot one is taken
pub slots-open : (s : SlotList) → Sound s → 1 ≤ s.count → is_open s ≡ true
slots-open s S some = and_both (leb 1 s.count) _ (le-leb 1 s.count some) (le-leb s.count 64 S.few)

pub taken-below : (s : SlotList) → Sound s → 1 ≤ s.count → (last_taken s).slot < s.count
taken-below s S some = go (dec_lt (s.count - 1) (length s.order))
  where
    go : Dec (s.count - 1 < length s.order) → get_or s.order (s.count - 1) 0 < s.count
    go (yes h) =
        let inside : s.count - 1 < length (slots_of s) = omega (arith, length-take s.count s.order) in
        let below : get_or (slots_of s) (s.count - 1) 0 < s.count = All-at {P = λ x. x < s.count} (s.count - 1) 0 inside S.below in
        subst (λ (x : ℕ). x < s.count) (get_or-take s.count s.order (s.count - 1) 0 (omega arith)) below
    go (no h) =
        let past : length s.order ≤ s.count - 1 = omega arith in
        let z : get_or s.order (s.count - 1) 0 ≡ 0 = get_or-eq_default s.order 0 past in
        omega arith

module _ (s : SlotList) (S : Sound s) (long : length s.order ≡ most_slots) (some : 1 ≤ s.count) where
  -- all but the last
  abbrev others : List ℕ
  others = take (s.count - 1) s.order

  abbrev last : ℕ
  last = get_or s.order (s.count - 1) 0

  others-length : length others ≡ s.count - 1
  others-length = length-take-le (s.count - 1) s.order (omega (arith, S.few))

  slots-last : slots_of s ≡ others ++ last ∷ []
  slots-last =
      let e : s.count ≡ suc (s.count - 1) = omega arith in
      ap (λ (n : ℕ). take n s.order) e ∙ take-suc s.order (s.count - 1) 0 (omega (arith, S.few))

  last-front : front (s.count - 1) (slots_of s) ≡ last ∷ others
  last-front = ap (front (s.count - 1)) slots-last ∙ front_at others last [] (s.count - 1) others-length ∙ ap (λ (l : List ℕ). last ∷ l) (append-nil others)

  -- the list after it
  abbrev after : SlotList
  after = (last_taken s).slots

  after-slots : slots_of after ≡ last ∷ others
  unfolding front_of
  after-slots = front-slots s (s.count - 1) (omega arith) ∙ last-front

  after-within : min (s.held + 1) s.count ≤ s.count
  after-within = omega arith

  pub slots-taken : Moved (slots_of s) (slots_of (last_taken s).slots)
  slots-taken = subst (λ (l : List ℕ). Moved (slots_of s) l) (sym after-slots) (subst (λ (l : List ℕ). Moved l (last ∷ others)) (sym slots-last) (moved-last others last))

  pub taken-sound : Sound (last_taken s).slots
  taken-sound = sound-moved s after S refl after-within slots-taken

  others_apart : All (λ x. x ≢ last) others
  others_apart = (subst Distinct after-slots (moved-distinct slots-taken S.once)).0

  -- by how many are held
  after-held : (n : ℕ) → min (s.held + 1) s.count ≡ suc n → held_slots after ≡ last ∷ take n others
  after-held n e =
      sym (held_first after after-within)
      ∙ ap₂ take e after-slots

  after_free : (n : ℕ) → min (s.held + 1) s.count ≡ suc n → free_slots after ≡ drop n others
  after_free n e = ap₂ drop e after-slots

  pub taken_free : s.held < s.count → TakenFree s
  taken_free h =
      let m : min (s.held + 1) s.count ≡ suc s.held = omega arith in
      let k : take s.held others ≡ held_slots s = take-take s.held (s.count - 1) s.order (omega arith) in
      let f : free_slots s ≡ drop s.held others ++ last ∷ [] =
      ap (drop s.held) slots-last ∙ drop-append-le s.held others (last ∷ []) (omega (arith, others-length)) in
      record {
        held = after-held s.held m ∙ ap (λ (l : List ℕ). last ∷ l) k;
        free = f ∙ ap (λ (l : List ℕ). l ++ last ∷ []) (sym (after_free s.held m));
        apart = subst (All (λ x. x ≢ last)) k (All-take s.held others_apart);
      }

  pub taken-held : s.held ≡ s.count → TakenHeld s
  taken-held h =
      let m : min (s.held + 1) s.count ≡ suc (s.count - 1) = omega arith in
      let n : length (slots_of s) ≤ s.held = omega (arith, slots_length s S long) in
      let k : length others ≤ s.count - 1 = omega (arith, others-length) in
      record {
        others = others;
        before = ap (λ (i : ℕ). take i s.order) h ∙ slots-last;
        held = after-held (s.count - 1) m ∙ ap (λ (l : List ℕ). last ∷ l) (take_all (s.count - 1) others k);
        none = drop_of_length-le (slots_of s) n;
        free = after_free (s.count - 1) m ∙ drop_of_length-le others k;
        apart = others_apart;
      }

-- ---- slots dropped

module _ (s : SlotList) (p : ℕ → Bool) where
  abbrev stay : List ℕ
  stay = keep (λ (x : ℕ). not (p x)) (held_slots s)

  abbrev leave : List ℕ
  leave = keep p (held_slots s)

  pub drop-held : held_slots (drop_by p s) ≡ stay
  unfolding drop_by
  drop-held = ap (take (length stay)) (append_assoc stay leave (drop s.held s.order)) ∙ take_at stay (leave ++ drop s.held s.order) (length stay) refl

  pub drop-length : length (drop_by p s).order ≡ length s.order
  unfolding drop_by
  drop-length =
      let rest : List ℕ = drop s.held s.order in
      let a : length ((stay ++ leave) ++ rest) ≡ length (stay ++ leave) + length rest = length-append (stay ++ leave) rest in
      omega (arith, length-append stay leave, parted-length p (held_slots s), length-take s.held s.order, length-drop s.held s.order)

  module _ (S : Sound s) (long : length s.order ≡ most_slots) where
    -- those that stay held and those that are dropped, by their number
    pub drop-count : (drop_by p s).held + count p (held_slots s) ≡ s.held
    unfolding drop_by
    drop-count = parted-length p (held_slots s) ∙ held-length s S long

    free-rest : free_slots s ≡ take (s.count - s.held) (drop s.held s.order)
    free-rest =
        let n : s.count ≡ s.held + (s.count - s.held) = omega (arith, S.within) in
        ap (λ (k : ℕ). drop s.held (take k s.order)) n
        ∙ ap (drop s.held) (take-add s.held (s.count - s.held) s.order)
        ∙ drop_at (held_slots s) (take (s.count - s.held) (drop s.held s.order)) s.held (held-length s S long)

    pub drop-slots : slots_of (drop_by p s) ≡ stay ++ (leave ++ free_slots s)
    unfolding drop_by
    drop-slots =
        let n : s.count ≡ length stay + (length leave + (s.count - s.held)) = omega (arith, S.within, parted-length p (held_slots s), held-length s S long) in
        ap₂ take n (append_assoc stay leave (drop s.held s.order))
        ∙ take-append-add stay (leave ++ drop s.held s.order) (length leave + (s.count - s.held))
        ∙ ap (λ (l : List ℕ). stay ++ l) (take-append-add leave (drop s.held s.order) (s.count - s.held) ∙ ap (λ (l : List ℕ). leave ++ l) (sym free-rest))

    pub drop-free : free_slots (drop_by p s) ≡ leave ++ free_slots s
    unfolding drop_by
    drop-free = ap (drop (length stay)) drop-slots ∙ drop_at stay (leave ++ free_slots s) (length stay) refl

    pub slots-drop : Moved (slots_of s) (slots_of (drop_by p s))
    slots-drop =
        subst (λ (l : List ℕ). Moved l (slots_of (drop_by p s))) (sym (held-free s S.within))
        (subst (λ (l : List ℕ). Moved (held_slots s ++ free_slots s) l) (sym drop-slots) (moved-parted p (held_slots s) (free_slots s)))

    pub drop-sound : Sound (drop_by p s)
    unfolding drop_by
    drop-sound = sound-moved s (drop_by p s) S refl (omega (arith, drop-count, S.within)) slots-drop

-- ---- every slot dropped

keep-none : {A : Type 0} (l : List A) → keep (λ (x : A). false) l ≡ []
keep-none [] = refl
keep-none (x ∷ l) = keep-none l

-- none is held, and the order stays
pub clear-is : (s : SlotList) → record { order = s.order; held = 0; count = s.count } ≡ clear_of s
unfolding drop_by
clear-is s =
    let order : s.order ≡ keep (λ (x : ℕ). false) (held_slots s) ++ keep (λ (x : ℕ). true) (held_slots s) ++ drop s.held s.order =
    sym (ap₂ (λ (a b : List ℕ). a ++ b ++ drop s.held s.order) (keep-none (held_slots s)) (keep_all (λ (x : ℕ). true) (All-every (λ x. refl) (held_slots s)))
    ∙ take-append-drop s.held s.order) in
    ap₂ (λ (o k : List ℕ). record { order = o; held = length k; count = s.count }) order (sym (keep-none (held_slots s)))
