-- What each return of a question owes: refused, cached, or worked out; and of a record that is kept. Assumes nothing.
use mathlib.Core.Path.{◌≡◌, refl, sym, ap, ap₂, subst, ◌∙◌}
use mathlib.Core.Bool.{Bool, true, false, cond, ◌&&◌, and-false}
use mathlib.Core.List.{List}
use Prim.Native.Nat.{ℕ, ◌*◌, ◌≤◌, ◌<◌}
use native.Mathlib.Omega.{arith}
use borrow.Author.Tests.{leb-false, le-leb, lt-ltb, ltb-false, le-ltb}
use Rattle.std.proofs.lemmas.Bool.{lt-leb}
use lib.Dec.{leb, ltb, lit<}
use lib.IntN.{ℤ}
use lib.ListN.{length, take, get_or, set}
use lib.Seq.{length-take-le}
use Rattle.lists.specs.Lists.{written}
use Rattle.lists.proofs.Bools.{and_both}
use Rattle.lists.proofs.Written.{length-written, written-there}
use Rattle.meaning.specs.Plain.{Lengths}
use Rattle.meaning.specs.Refusals.{or_else, settled}
use Rattle.table.specs.Evaluated.{Said}
use Rattle.slots.specs.declared.Key.{Key}
use Rattle.slots.specs.Keys.{Found, key_of, find_of}
use Rattle.std.specs.Prelude.{Option, Some, None, Result, Ok, Err}
use Rattle.std.specs.Result.{IsErrAnd}
use Rattle.statement.specs.declared.Refusal.{Refusal}
use Rattle.statement.specs.Refusals.{number_of}
use Rattle.slots.specs.declared.SlotList.{SlotList}
use Rattle.slots.specs.declared.Taken.{Taken}
use Rattle.slots.specs.Order.{front_of, is_open, last_taken, taken_of}
use Rattle.slots.proofs.Moves.{taken_open, not_open}
use Rattle.cache.specs.declared.State.{State}
use Rattle.cache.specs.declared.Answer as N
use Rattle.cache.specs.Given.{asked_as}
use Rattle.cache.specs.Calls.{lengths_lent, Asked, unfit, Asks, bytes_at, cached_length, record_at, too_many}
use Rattle.cache.specs.Gives.{ask_of, ask_gives, ask_refused, ask_refusal, with_cache, cached_refusal, ask_cached, takes_slot, put_in, kept, kept_bytes, kept_memory, new_refusal, newly, ask_new, ask_found}
use Rattle.cache.specs.declared.Kept.{Kept}
use Rattle.cache.specs.declared.Place.{Place}
use Rattle.cache.specs.Private.Outcomes.{Outcome, nowhere, no_answer, settled_in, settled_state, outcome_of, Last, Room, Keeps, WorksOut}
use Rattle.cache.proofs.Settled.{settled-refused, settled-done, Fit, fit_is, or-else-zero}

-- ---- a question that is not refused

module _ (s : State) (l : Lengths) (query values : ℕ) where
  pub none-fits : ask_refusal s l query values ≡ 0 → Fit s l × (query < s.query_count)
  unfolding ask_refusal
  none-fits e =
      let a = or-else-zero (unfit s l) 2 _ (lit< tt) e in
      let b = or-else-zero (leb s.query_count query) 10 _ (lit< tt) a.1 in
      (fit_is s l a.0, leb-false s.query_count query b.0)

-- ---- an outcome that keeps nothing

pub refused-is : (s : State) (key : Key) (n : ℕ) (o : Outcome) → o ≡ no_answer n s.slots → outcome_of s key o ≡ ask_refused s n
unfolding with_cache
refused-is s key n o e = ap (outcome_of s key) e

-- what the exit of a `?` returns
pub asked-exit : (x : Result N.Answer Refusal) (r : Refusal) (s : State) → IsErrAnd x (λ (y : Refusal). y ≡ r) → asked_as x s ≡ ask_refused s (number_of r)
asked-exit (Ok a) r s h = absurd h
asked-exit (Err y) r s h = ap (λ (z : Refusal). ask_refused s (number_of z)) h

-- ---- an answer in a slot

module _ (s : State) (memory answer : List ℕ) (p : ℕ) where
  pub cached-short : (r : Asked) → length answer < cached_length s p → r ≡ ask_refused s 13 → ask_gives r memory answer ≡ ask_cached s memory answer p
  unfolding ask_cached cached_refusal settled
  cached-short r h e = rw (lt-ltb (length answer) (cached_length s p) h, e)

  pub cached-done : (slots : SlotList) (new : List ℕ) → cached_length s p ≤ length answer → slots ≡ front_of s.slots p
      → new ≡ written answer 0 (bytes_at s memory (get_or s.slots.order p 0))
      → ask_gives (record { refusal = 0; cached = 1; scanned = 0; size = cached_length s p; state = with_cache s slots s.keys s.lengths }) memory new
      ≡ ask_cached s memory answer p
  unfolding ask_cached cached_refusal settled
  cached-done slots new h e f = rw (le-ltb (length answer) (cached_length s p) h, e, f)

-- ---- a record kept

abbrev taking : Taken → ℕ → Place
taking t n = record { kept = Some (record { slot = t.slot; size = n }); slots = t.slots }

module _ (slots : SlotList) (bytes size : ℕ) (from memory : List ℕ) (long : size ≤ length from) where
  abbrev first : List ℕ
  first = take size from

  size_is : length first ≡ size
  size_is = length-take-le size from long

  test-is : takes_slot slots bytes first ≡ (leb size bytes && is_open slots)
  test-is = ap (λ (n : ℕ). leb n bytes && is_open slots) size_is

  -- what a state with these slots keeps, by whether the record takes one
  kept-by : (s : State) (key : Key) (b : Bool) → s.slots ≡ slots → s.slot_bytes ≡ bytes → takes_slot slots bytes first ≡ b → cond b (put_in s key first (last_taken s.slots)) s ≡ kept s key first
  unfolding kept
  kept-by s key b e k h =
      ap (λ (c : Bool). cond c (put_in s key first (last_taken s.slots)) s) (sym (ap₂ (λ (l : SlotList) (n : ℕ). takes_slot l n first) e k ∙ h))

  keep-not : (p : Place) → p ≡ nowhere slots → (leb size bytes && is_open slots) ≡ false → Keeps slots bytes first p × (memory ≡ kept_bytes slots bytes first memory)
  unfolding kept_bytes with_cache
  keep-not p f h =
      let z = test-is ∙ h in
      ((λ s key e k. ap (settled_state s key) (f ∙ ap nowhere (sym e)) ∙ kept-by s key false e k z), rw z)

  -- it does not fit, or there is no slot
  pub keep-long : (p : Place) → p ≡ nowhere slots → bytes < size → Keeps slots bytes first p × (memory ≡ kept_bytes slots bytes first memory)
  keep-long p f h = keep-not p f (ap (λ (b : Bool). b && is_open slots) (lt-leb size bytes h))

  pub keep-none : (p : Place) → p ≡ nowhere slots → taken_of slots ≡ None → Keeps slots bytes first p × (memory ≡ kept_bytes slots bytes first memory)
  keep-none p f h = keep-not p f (ap (λ (b : Bool). leb size bytes && b) (not_open slots h) ∙ and-false (leb size bytes))

  pub keep-done : (t : Taken) (new : List ℕ) → taken_of slots ≡ Some t → size ≤ bytes → new ≡ written memory (t.slot * bytes) first
      → Keeps slots bytes first (taking t size) × (new ≡ kept_bytes slots bytes first memory)
  unfolding kept_bytes
  keep-done t new h k f =
      let o = taken_open slots t h in
      let z = test-is ∙ and_both (leb size bytes) (is_open slots) (le-leb size bytes k) o.0 in (
        λ s key e q. ap₂ (λ (u : Taken) (n : ℕ). with_cache s u.slots (set s.keys u.slot key) (set s.lengths u.slot n)) (o.1 ∙ ap last_taken (sym e)) (sym size_is)
            ∙ kept-by s key true e q z,
        rw z (f ∙ ap (λ (u : Taken). written memory (u.slot * bytes) first) o.1),
      )

  -- where a slot is taken the record has room in it
  pub last-room : (t : Taken) (n : ℕ) → Room slots bytes n size → taken_of slots ≡ Some t → size ≤ bytes → Last bytes n t size
  last-room t n room h k =
      let o = taken_open slots t h in
      subst (λ (u : Taken). Last bytes n u size) (sym o.1) (room o.0 k)

-- the key and the length in the slot, if there is one
module _ (s : State) (key : Key) (p : Place) where
  pub settled-slot : (k : Kept) (y : ℕ) → p.kept ≡ Some k → y ≡ k.slot → with_cache s p.slots (set s.keys y key) (set s.lengths y k.size) ≡ settled_state s key p
  settled-slot k y e q =
      ap (λ (x : ℕ). with_cache s p.slots (set s.keys x key) (set s.lengths x k.size)) q ∙ ap (λ (o : Option Kept). settled_in o s key p.slots) (sym e)

  pub settled-nowhere : p.kept ≡ None → with_cache s p.slots s.keys s.lengths ≡ settled_state s key p
  settled-nowhere e = ap (λ (o : Option Kept). settled_in o s key p.slots) (sym e)

-- ---- an answer worked out

-- no number, and the record fits
short-of : (many : Bool) (n m : ℕ) → or_else many 16 (or_else (ltb n m) 13 0) ≡ 0 → m ≤ n
short-of true n m e = absurd (omega arith)
short-of false n m e = go (ltb n m) refl e
  where
    go : (b : Bool) → ltb n m ≡ b → or_else b 13 0 ≡ 0 → m ≤ n
    go true h z = absurd (omega arith)
    go false h z = ltb-false n m h

module _ (s : State) (cells : List ℤ) (memory : List ℕ) (query : ℕ) (values : List ℤ) (answer : List ℕ) (w : Said) (new : List ℕ)
    (W : WorksOut s cells query values answer w new) where
  abbrev rec : List ℕ
  rec = record_at s cells query values

  pub new-short : (r : Asked) → (w.refusal ≡ 0 → ⊥) → r ≡ ask_refused s w.refusal → ask_gives r memory new ≡ ask_new s cells memory answer query values
  unfolding ask_new
  new-short r k f =
      ap₂ (λ (x : Asked) (y : List ℕ). ask_gives x memory y) f (W.stays k)
      ∙ settled-refused w.refusal (newly s cells memory answer query values) (ask_gives (ask_refused s w.refusal) memory answer) k
      ∙ ap (λ (n : ℕ). settled n (newly s cells memory answer query values) (ask_gives (ask_refused s n) memory answer)) W.number

  module _ (k : w.refusal ≡ 0) where
    fits : length rec ≤ length answer
    unfolding new_refusal
    fits = short-of (too_many s cells query values) (length answer) (length rec) (sym W.number ∙ k)

    -- the record stands at the buffer's start
    new-first : take w.size new ≡ rec
    new-first = ap₂ take (W.size k) (W.bytes k) ∙ written-there answer 0 rec (omega (arith, fits))

    pub new-inside : w.size ≤ length new
    new-inside =
        let l : length new ≡ length answer = ap length (W.bytes k) ∙ length-written answer 0 rec (omega (arith, fits)) in
        omega (arith, W.size k, fits)

    pub new-done : (key : Key) (t : State) (after : List ℕ) → key ≡ key_of query values → t ≡ kept s key (take w.size new)
        → after ≡ kept_memory s (take w.size new) memory
        → ask_gives (record { refusal = 0; cached = 0; scanned = w.scanned; size = w.size; state = t }) after new ≡ ask_new s cells memory answer query values
    unfolding ask_new
    new-done key t after q f m =
        let z : t ≡ kept s (key_of query values) rec = f ∙ ap₂ (kept s) q new-first in
        let a : after ≡ kept_memory s rec memory = m ∙ ap (λ (l : List ℕ). kept_memory s l memory) new-first in
        (λ i. ask_gives (record { refusal = 0; cached = 0; scanned = W.read k i; size = W.size k i; state = z i }) (a i) (W.bytes k i))
        ∙ settled-done (new_refusal s cells (length answer) query values) (newly s cells memory answer query values)
        (ask_gives (ask_refused s (new_refusal s cells (length answer) query values)) memory answer) (sym W.number ∙ k)

-- ---- the whole question

module _ (s : State) (cells : List ℤ) (memory : List ℕ) (query : ℕ) (values : List ℤ) (answer : List ℕ) (n : ℕ)
    (e : n ≡ ask_refusal s (lengths_lent cells memory) query (length values)) where
  pub ask-refused : (r : Asked) → (n ≡ 0 → ⊥) → r ≡ ask_refused s n → ask_gives r memory answer ≡ ask_of s cells memory query values answer
  unfolding ask_of
  ask-refused r h f = rw (← e, f) (settled-refused n _ _ h)

  module _ (z : n ≡ 0) where
    pub accepted : Fit s (lengths_lent cells memory) × (query < s.query_count)
    accepted = none-fits s (lengths_lent cells memory) query (length values) (sym e ∙ z)

    module _ (key : Key) (q : key ≡ key_of query values) (f : Found) (g : f ≡ find_of s.keys s.slots key) where
      pub ask-done : (o : Asks) → o ≡ ask_found f s cells memory answer query values → o ≡ ask_of s cells memory query values answer
      unfolding ask_of
      ask-done o h = h ∙ rw (← e, ← q, ← g) (settled-done n _ _ z)
