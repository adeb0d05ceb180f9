-- An opening, taken or refused, gives a sound state, and every call leaves a sound state sound. Assumes nothing.
use mathlib.Core.Path.{◌≡◌, refl}
use mathlib.Core.Bool.{true}
use mathlib.Core.List.{List}
use Prim.Native.Nat.{ℕ}
use native.Mathlib.Omega.{arith}
use Rattle.lists.specs.Lists.{nil}
use Rattle.meaning.specs.Plain.{Opening}
use Rattle.slots.specs.Order.{open_of as slots_open}
use Rattle.slots.proofs.Laws.{open-sound}
use Rattle.cache.specs.declared.State.{State}
use Rattle.meaning.specs.Call.{Call, add, ask, change, flush, propose, commit, withdraw}
use Rattle.cache.specs.Sound.{lengths, opening, OpeningWithin}
use Rattle.cache.specs.SoundTest.{sound_state}
use Rattle.cache.specs.Gives.{empty_state}
use Rattle.cache.specs.Means.{Typed}
use Rattle.cache.specs.Run.{Store, opening_of, step}
use Rattle.cache.specs.Demand.{OpensSound, StaysSound}
use Rattle.cache.proofs.Invariant.Sound.{sizes-fit, Sound, sound-is, is-sound}
use Rattle.cache.proofs.Settled.{nothing}
use Rattle.cache.proofs.Invariant.Cases.{by-opened}
use Rattle.cache.proofs.Invariant.Added.{add-stays}
use Rattle.cache.proofs.Invariant.Asked.{ask-stays}
use Rattle.cache.proofs.Invariant.Updated.{update-stays, commit-stays}
use Rattle.cache.proofs.Invariant.Noted.{propose-stays, withdraw-stays, flush-stays}

-- ---- an opening

empty-sound : (o : Opening) → OpeningWithin o → Sound (empty_state o)
unfolding empty_state slots_open
empty-sound o F = record {
  sizes = F;
  few_tables = omega arith;
  few_queries = omega arith;
  few_updates = omega arith;
  areas = omega arith;
  rows = nil;
  starts = nil;
  tables = refl;
  queries = nil;
  updates = nil;
  lengths = nil;
  keys = nil;
  once = refl;
  slots = open-sound o.slots F.few_slots;
  note = λ n e. absurd (nothing n e);
}

-- what a refused opening gives
none-fit : OpeningWithin (opening (lengths 0 0) 0 8)
none-fit = record {
  few_cells = omega arith;
  few_memory = omega arith;
  few_slots = omega arith;
  least_bytes = omega arith;
  most_bytes = omega arith;
  room = omega arith;
}

pub opens_sound : OpensSound
opens_sound o =
    by-opened (λ (s : State). sound_state s ≡ true) o
    (is-sound (empty_state (opening (lengths 0 0) 0 8)) (empty-sound (opening (lengths 0 0) 0 8) none-fit))
    (λ e. is-sound (empty_state (opening_of o)) (empty-sound (opening_of o) (sizes-fit (opening_of o) e)))

-- ---- each call

call_stays : (s : Store) (c : Call (List ℕ)) → Typed s.state → Sound s.state → Sound (step s c).0.state
call_stays s (add text) T S = add-stays s text T S
call_stays s (ask k buffer) T S = ask-stays s k buffer T S
call_stays s (change n vs) T S = update-stays s n vs T S
call_stays s flush T S = flush-stays s T S
call_stays s (propose n vs) T S = propose-stays s T S n vs
call_stays s commit T S = commit-stays s T S
call_stays s withdraw T S = withdraw-stays s T S

pub stays_sound : StaysSound
stays_sound s c T h = is-sound (step s c).0.state (call_stays s c T (sound-is s.state h))
