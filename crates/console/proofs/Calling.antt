-- What each return of a command owes: the call's step, and its text printed. Assumes nothing.
use mathlib.Core.Path.{◌≡◌, refl, ap, ◌∙◌, subst⁻¹}
use mathlib.Core.List.{List}
use Prim.Native.Nat.{ℕ, zero, suc, ◌+◌, ◌*◌, ◌-◌, ◌≤◌}
use native.Mathlib.Omega.{arith}
use borrow.Author.Tests.{ltb-false}
use lib.Dec.{ltb}
use lib.IntN.{ℤ}
use lib.ListN.{length, drop, get_or, length-append, length-take, length-drop}
use Rattle.lists.specs.Lists.{written}
use Rattle.meaning.specs.Refusals.{lowest_of, is_short, kept_conditions, settled}
use Rattle.slots.specs.Keys.{Found}
use Rattle.std.specs.Prelude.{Some, None}
use Rattle.cache.specs.declared.State.{State}
use Rattle.cache.specs.Calls.{lengths_lent, Added, Flushed, Asks, bytes_at, cached_length, record_at, too_many, found_in, Updates}
use Rattle.cache.specs.Gives.{add_of, ask_of, update_of, flush_of, ask_gives, ask_refused, ask_refusal, cached_refusal, ask_cached, new_refusal, ask_new, ask_found}
use Rattle.meaning.specs.Key.{Key}
use Rattle.meaning.specs.Call.{Call, add, ask, change, flush}
use Rattle.cache.specs.Run.{Store, Seen, step_add, step_ask, step_update, step_flush, step}
use Rattle.cache.proofs.Settled.{settled-refused, settled-done, or-else-zero}
use Rattle.console.specs.Room.{filled, filled_to}
use Rattle.console.specs.Printed.{refused_text}
use Rattle.console.specs.Desk.{done_text, text_of, buffer_after, Replies, replies}
use Rattle.console.specs.Private.Commands.{reply_to}

abbrev pub store_of : State → List ℤ → List ℕ → Store
store_of s cells memory = record { state = s; cells = cells; memory = memory }

-- ---- the text is that of a refusal, or of a call that is taken

-- what a step leaves, with so many bytes of the text at the start of a buffer
abbrev given : List ℕ → Call (List ℕ) → ℕ → List ℕ → Store × Seen → Replies
given answer c n new q = replies (record { size = n; state = q.0.state }) q.0.cells q.0.memory (buffer_after c answer q.1) new

abbrev Written : List ℕ → ℕ → List ℕ → List ℕ → Type 0
Written out n new t = (n ≡ filled_to out 0 t) × (new ≡ filled out 0 t)

module _ (s : State) (cells : List ℤ) (memory answer out : List ℕ) (c : Call (List ℕ)) (p : Store × Seen) (e : p ≡ step (store_of s cells memory) c) (n : ℕ) (new : List ℕ) where
  told : (t : List ℕ) → t ≡ text_of c p.1 → Written out n new t → given answer c n new p ≡ reply_to s cells memory answer c out
  unfolding reply_to
  told t h w =
      (λ i. given answer c (w.0 i) (w.1 i) p)
      ∙ ap (λ (u : List ℕ). given answer c (filled_to out 0 u) (filled out 0 u) p) h
      ∙ ap (λ (q : Store × Seen). given answer c (filled_to out 0 (text_of c q.1)) (filled out 0 (text_of c q.1)) q) e

  pub call-refused : (p.1.got.refusal ≡ 0 → ⊥) → Written out n new (refused_text p.1.got.refusal) → given answer c n new p ≡ reply_to s cells memory answer c out
  call-refused h w = told _ (settled-refused p.1.got.refusal _ _ h) w

  pub call-done : p.1.got.refusal ≡ 0 → Written out n new (done_text c p.1) → given answer c n new p ≡ reply_to s cells memory answer c out
  call-done h w = told _ (settled-done p.1.got.refusal _ _ h) w

-- ---- the steps, by what the store's functions promise

module _ (s : State) (cells : List ℤ) (memory : List ℕ) where
  pub add_is : (text : List ℕ) (a : Added) → a ≡ add_of s (lengths_lent cells memory) text
      → step_add (store_of s cells memory) a ≡ step (store_of s cells memory) (add text)
  unfolding step
  add_is text a e = ap (step_add (store_of s cells memory)) e

  pub ask-is : (number : ℕ) (values : List ℤ) (answer : List ℕ) (a : Asks) → a ≡ ask_of s cells memory number values answer
      → step_ask (store_of s cells memory) a ≡ step (store_of s cells memory) (ask (record { query = number; values = values }) answer)
  unfolding step
  ask-is number values answer a e = ap (step_ask (store_of s cells memory)) e

  pub change-is : (number : ℕ) (values : List ℤ) (a : Updates) → a ≡ update_of s cells memory number values
      → step_update (store_of s cells memory) a ≡ step (store_of s cells memory) (change number values)
  unfolding step
  change-is number values a e = ap (step_update (store_of s cells memory)) e

  pub flush-is : (a : Flushed) → a ≡ flush_of s (lengths_lent cells memory) → step_flush (store_of s cells memory) a ≡ step (store_of s cells memory) flush
  unfolding step
  flush-is a e = ap (step_flush (store_of s cells memory)) e

-- ---- the record of an answer lies in the answer buffer, which keeps its length

pub written-length : (xs ys : List ℕ) → length (written xs 0 ys) ≡ length ys + (length xs - (0 + length ys))
written-length xs ys = length-append ys (drop (0 + length ys) xs) ∙ ap (λ (k : ℕ). length ys + k) (length-drop (0 + length ys) xs)

pub record Inside (answer : List ℕ) (a : Asks) : Type 0 where
  pub part : a.result.size ≤ length a.answer
  pub long : length a.answer ≡ length answer

-- a record that is not refused has room
has-room : (answer : List ℕ) (n : ℕ) → lowest_of (kept_conditions (is_short (length answer) n)) ≡ 0 → n ≤ length answer
has-room answer n e = ltb-false (length answer) n (or-else-zero (ltb (length answer) n) 13 0 (omega arith) e).0

module _ (s : State) (cells : List ℤ) (memory : List ℕ) (number : ℕ) (values : List ℤ) (answer : List ℕ) where
  refused-inside : (n : ℕ) → Inside answer (ask_gives (ask_refused s n) memory answer)
  refused-inside n = record { part = omega arith; long = refl }

  settled-inside : (n : ℕ) (done : Asks) → (n ≡ 0 → Inside answer done) → Inside answer (settled n done (ask_gives (ask_refused s n) memory answer))
  unfolding settled
  settled-inside zero done d = d refl
  settled-inside (suc n) done d = refused-inside (suc n)

  cached-inside : (p : ℕ) → Inside answer (ask_cached s memory answer p)
  unfolding ask_cached cached_refusal
  cached-inside p =
      let bs = bytes_at s memory (get_or s.slots.order p 0) in
      let n : length bs ≤ cached_length s p = omega (arith, length-take (cached_length s p) (drop (get_or s.slots.order p 0 * s.slot_bytes) memory)) in
      settled-inside (cached_refusal s (length answer) p) _
      (λ e. let h = has-room answer (cached_length s p) e in record { part = omega (arith, h, n, written-length answer bs); long = omega (arith, h, n, written-length answer bs) })

  -- an answer worked out that is not refused has room
  new-fits : new_refusal s cells (length answer) number values ≡ 0 → length (record_at s cells number values) ≤ length answer
  unfolding new_refusal
  new-fits e =
      let n = length (record_at s cells number values) in
      has-room answer n (or-else-zero (too_many s cells number values) 16 (lowest_of (kept_conditions (is_short (length answer) n))) (omega arith) e).1

  new-inside : Inside answer (ask_new s cells memory answer number values)
  unfolding ask_new
  new-inside =
      let r = record_at s cells number values in
      settled-inside (new_refusal s cells (length answer) number values) _
      (λ e. record { part = omega (arith, new-fits e, written-length answer r); long = omega (arith, new-fits e, written-length answer r) })

  found_inside : (f : Found) → Inside answer (ask_found f s cells memory answer number values)
  found_inside (Some p) = cached-inside p
  found_inside None = new-inside

  pub asked-inside : Inside answer (ask_of s cells memory number values answer)
  unfolding ask_of
  asked-inside = settled-inside (ask_refusal s (lengths_lent cells memory) number (length values)) _ (λ _. found_inside (found_in s number values))

  pub answer-inside : (a : Asks) → a ≡ ask_of s cells memory number values answer → a.result.size ≤ length a.answer
  answer-inside a e = (subst⁻¹ (Inside answer) e asked-inside).part

-- and so of a step
pub step-long : (s : Store) (k : Key) (answer : List ℕ) → length (step s (ask k answer)).1.got.answer ≡ length answer
unfolding step
step-long s k answer = (asked-inside s.state s.cells s.memory k.query k.values answer).long
