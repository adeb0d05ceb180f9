-- 13, or the slot's bytes; what soundness says of a held slot is `Held`. Assumes nothing.
use mathlib.Core.Path.{◌≡◌, refl, ap, ap₂, ◌∙◌}
use native.Mathlib.Omega.{arith}
use borrow.Author.Rules.{rules}
use Prim.Native.Nat.{ℕ, ◌+◌, ◌*◌, ◌≤◌, ◌<◌}
use mathlib.Core.Bool.{true}
use lib.ListN.{length, take, drop, get_or}
use Rattle.lists.specs.Lists.{written}
use Rattle.cache.specs.declared.State.{State}
use Rattle.cache.specs.SoundTest.{sound_state}
use Rattle.cache.specs.Calls.{cached_length}
use Rattle.cache.specs.Gives.{ask_gives, with_cache}
use Rattle.cache.proofs.Invariant.Sound.{sound-is}
use Rattle.cache.proofs.Returns.Inside.{Held, held-known}
use Rattle.cache.proofs.Returns.Copies.{copied-first}
use Rattle.cache.proofs.Returns.Asking.{refused-is, cached-short, cached-done}
use Rattle.cache.proofs.Question.cached.Goals as goal

known : (s : State) (p : ℕ) → length s.slots.order ≡ 64 → sound_state s ≡ true → p < s.slots.held → Held s p
known s p long sound h = held-known s (sound-is s sound) long p h

pub bounds-s-from : goal.bounds-s-from
bounds-s-from c = omega (arith, (known c.args.self.now.state.now c.args.p (search rules depth 12) c.args.self.now.sound c.requires.0).place, c.from.ensures)

pub bounds-s-x : goal.bounds-s-x
bounds-s-x c =
    let s = c.args.self.now.state.now in
    let x = c.from-x.ensures ∙ ap (λ (k : ℕ). get_or s.slots.order k 0) c.from.ensures in
    omega (arith, (known s c.args.p (search rules depth 12) c.args.self.now.sound c.requires.0).slot, x)

pub returns-then-answer-size : goal.returns-then-answer-size
returns-then-answer-size c key =
    let a = c.args in
    let s = a.self.now.state.now in
    let x = c.from-x.ensures ∙ ap (λ (k : ℕ). get_or s.slots.order k 0) c.from.ensures in
    let n : c.from-size.result ≡ cached_length s a.p = c.from-size.ensures ∙ ap (λ (k : ℕ). get_or s.lengths k 0) x in
    let short : length a.answer.now < cached_length s a.p = omega (arith, c.if-answer-size.true, n) in
    cached-short s a.memory.now a.answer.now a.p _ short (refused-is s key 13 _ c.not_answered.ensures)

pub slice_bounds-record-end : goal.slice_bounds-record-end
slice_bounds-record-end c =
    let s = c.args.self.now.state.now in
    let K = known s c.args.p (search rules depth 12) c.args.self.now.sound c.requires.0 in
    let x = c.from-x.ensures ∙ ap (λ (k : ℕ). get_or s.slots.order k 0) c.from.ensures in
    let n : c.from-size.result ≡ cached_length s c.args.p = c.from-size.ensures ∙ ap (λ (k : ℕ). get_or s.lengths k 0) x in
    let at = ap₂ ◌*◌ x c.from-2.ensures in
    omega (arith, K.ends, n, at, c.requires.1)

pub returns : goal.returns
returns c key =
    let a = c.args in
    let s = a.self.now.state.now in
    let K = known s a.p (search rules depth 12) a.self.now.sound c.requires.0 in
    let x = c.from-x.ensures ∙ ap (λ (k : ℕ). get_or s.slots.order k 0) c.from.ensures in
    let n : c.from-size.result ≡ cached_length s a.p = c.from-size.ensures ∙ ap (λ (k : ℕ). get_or s.lengths k 0) x in
    let at = ap₂ ◌*◌ x c.from-2.ensures in
    let inside : c.from-x.result * c.from-2.result + c.from-size.result ≤ length a.memory.now = omega (arith, K.ends, n, at, c.requires.1) in
    let fits : cached_length s a.p ≤ length a.answer.now = omega (arith, c.if-answer-size.false, n) in
    let e = copied-first a.answer.now a.memory.now c.copy_from_slice.new.self _ _ inside c.copy_from_slice.ensures.after ∙ ap₂ (λ (m k : ℕ). written a.answer.now 0 (take m (drop k a.memory.now))) n at in
    rw c.nowhere.ensures
    ((λ j. ask_gives (record { refusal = 0; cached = 1; scanned = 0; size = n j; state = with_cache s c.move_to_front.result s.keys s.lengths }) a.memory.now (e j))
    ∙ cached-done s a.memory.now a.answer.now a.p _ _ fits c.move_to_front.ensures refl)
