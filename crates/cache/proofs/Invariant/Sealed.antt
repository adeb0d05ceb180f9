-- A sealed state stays sealed: what its types say and that it is sound are kept by every call. Assumes nothing.
use mathlib.Core.Path.{◌≡◌, refl, sym, subst}
use mathlib.Core.List.{List}
use Prim.Native.Nat.{ℕ}
use lib.IntN.{ℤ}
use Rattle.meaning.specs.Call.{Call, add, ask, change, flush, propose, commit, withdraw}
use Rattle.std.specs.Prelude.{Result, Ok, Err}
use Rattle.statement.specs.declared.Refusal.{Refusal}
use Rattle.cache.specs.declared.State.{State}
use Rattle.cache.specs.declared.Proposed as D
use Rattle.cache.specs.Given.{proposed_as}
use Rattle.cache.specs.Calls.{lengths_lent, Added, Flushed, Opens, Asks, Updates, Proposed}
use Rattle.cache.specs.Gives.{open_of, add_of, ask_of, update_of, flush_of, propose_of, commit_of, withdraw_of}
use Rattle.cache.specs.Run.{Store, Start, step}
use Rattle.cache.specs.Sealed.{Sealed}
use Rattle.cache.proofs.Invariant.Stays.{opens_sound, stays_sound}
use Rattle.cache.proofs.Invariant.Typed.{opened-typed, step_typed}

pub open-sealed : (cells : List ℤ) (memory : List ℕ) (slots bytes : ℕ) (r : Opens) → r ≡ open_of cells memory slots bytes → Sealed r.result.state
open-sealed cells memory slots bytes r e =
    let o : Start = record { cells = cells; memory = memory; slots = slots; slot_bytes = bytes } in
    subst (λ (x : Opens). Sealed x.result.state) (sym e) (record { typed = opened-typed o; sound = opens_sound o })

module _ (s : State) (K : Sealed s) (cells : List ℤ) (memory : List ℕ) where
  abbrev store : Store
  store = record { state = s; cells = cells; memory = memory }

  call-sealed : (c : Call (List ℕ)) → Sealed (step store c).0.state
  call-sealed c = record { typed = step_typed store c K.typed; sound = stays_sound store c K.typed K.sound }

  pub add-sealed : (text : List ℕ) (r : Added) → r ≡ add_of s (lengths_lent cells memory) text → Sealed r.state
  unfolding step
  add-sealed text r e = subst (λ (x : Added). Sealed x.state) (sym e) (call-sealed (add text))

  pub ask-sealed : (query : ℕ) (values : List ℤ) (answer : List ℕ) (r : Asks) → r ≡ ask_of s cells memory query values answer → Sealed r.result.state
  unfolding step
  ask-sealed query values answer r e = subst (λ (x : Asks). Sealed x.result.state) (sym e) (call-sealed (ask (record { query = query; values = values }) answer))

  pub update-sealed : (update : ℕ) (values : List ℤ) (r : Updates) → r ≡ update_of s cells memory update values → Sealed r.result.state
  unfolding step
  update-sealed update values r e = subst (λ (x : Updates). Sealed x.result.state) (sym e) (call-sealed (change update values))

  pub propose-sealed : (update : ℕ) (values : List ℤ) (r : Result D.Proposed Refusal) (t : State) → proposed_as r t ≡ propose_of s cells memory update values → Sealed t
  unfolding step
  propose-sealed update values r t e =
      subst Sealed (same r) (subst (λ (x : Proposed). Sealed x.state) (sym e) (call-sealed (propose update values)))
    where
      same : (r : Result D.Proposed Refusal) → (proposed_as r t).state ≡ t
      same (Ok p) = refl
      same (Err n) = refl

  pub commit-sealed : (r : Updates) → r ≡ commit_of s cells memory → Sealed r.result.state
  unfolding step
  commit-sealed r e = subst (λ (x : Updates). Sealed x.result.state) (sym e) (call-sealed commit)

  pub withdraw-sealed : (r : Flushed) → r ≡ withdraw_of s (lengths_lent cells memory) → Sealed r.state
  unfolding step
  withdraw-sealed r e = subst (λ (x : Flushed). Sealed x.state) (sym e) (call-sealed withdraw)

  pub flush-sealed : (r : Flushed) → r ≡ flush_of s (lengths_lent cells memory) → Sealed r.state
  unfolding step
  flush-sealed r e = subst (λ (x : Flushed). Sealed x.state) (sym e) (call-sealed flush)
