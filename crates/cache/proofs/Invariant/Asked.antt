-- A question leaves a sound state sound: its key is a sound one that no slot holds, and its record is at least 8 bytes long. Assumes nothing.
use mathlib.Core.Path.{◌≡◌, refl, sym, subst}
use mathlib.Core.Logic.{◌≢◌}
use mathlib.Core.Bool.{false}
use mathlib.Core.List.{List}
use Prim.Native.Nat.{ℕ, ◌≤◌, ◌<◌}
use native.Mathlib.Omega.{arith}
use borrow.Author.Tests.{leb-true, leb-false, eqb-true}
use lib.Dec.{eqb, leb}
use lib.ListN.{length}
use Rattle.lists.specs.Lists.{All}
use Rattle.lists.proofs.Bools.{and_left, and_right, not-false}
use Rattle.lists.proofs.Lists.{All-head, All-tail, All-map, All-both}
use Rattle.meaning.proofs.Accepted.{clear}
use Rattle.meaning.proofs.Record.{encode-length}
use Rattle.statement.proofs.SoundQuery.{query-parts}
use Rattle.std.specs.Prelude.{None}
use Rattle.slots.specs.Keys.{key_read, key_of, slot_key, held_slots}
use Rattle.slots.proofs.KeyLaws.{has_other, found_below, found_nothing}
use Rattle.slots.proofs.Moves.{open_is}
use Rattle.cache.specs.declared.State.{State}
use Rattle.cache.specs.Sound.{query_at, schemas_in, KeyFits}
use Rattle.cache.specs.Calls.{ask_conditions, record_at, found_in}
use Rattle.cache.specs.Gives.{ask_refusal}
use Rattle.cache.specs.Means.{Typed}
use Rattle.meaning.specs.Key as M
use Rattle.meaning.specs.Call.{ask}
use Rattle.cache.specs.Run.{Store, lent_by, step}
use Rattle.cache.proofs.Invariant.Sound.{Sound, held_below, query-at}
use Rattle.cache.proofs.Invariant.Cases.{by-ask}
use Rattle.cache.proofs.Invariant.Cached.{front-stays, put-stays}

module _ (s : Store) (k : M.Key) (buffer : List ℕ) (T : Typed s.state) (S : Sound s.state) where
  abbrev st : State
  st = s.state

  abbrev r : List ℕ
  r = record_at st s.cells k.query k.values

  record-long : 8 ≤ length r
  unfolding record_at
  record-long = subst (λ (n : ℕ). 8 ≤ n) (sym (encode-length _ _)) (omega arith)

  module _ (asked : ask_refusal st (lent_by s) k.query (length k.values) ≡ 0) where
    clear-all : All (λ c. c.1 ≡ false) (ask_conditions st (lent_by s) k.query (length k.values))
    unfolding ask_refusal
    clear-all = (clear 0 (ask_conditions st (lent_by s) k.query (length k.values)) refl).0 asked

    query-there : k.query < st.query_count
    query-there = leb-false st.query_count k.query (All-head (All-tail clear-all))

    values-many : length k.values ≡ (query_at st k.query).parameters
    values-many =
        eqb-true (length k.values) (query_at st k.query).parameters (not-false (eqb (length k.values) (query_at st k.query).parameters) (All-head (All-tail (All-tail clear-all))))

    pub key-sound : KeyFits st (key_of k.query k.values)
    unfolding key_of
    key-sound =
        let few : (query_at st k.query).parameters ≤ 8 = (query-parts (schemas_in st) (query_at st k.query) (query-at st T S k.query query-there)).few_parameters in
        record { there = query-there; values = omega (arith, values-many) }

    new-key : found_in st k.query k.values ≡ None → All (λ (x : ℕ). key_read (slot_key st.keys x) ≢ key_read (key_of k.query k.values)) (held_slots st.slots)
    new-key e =
        All-map (λ x h. has_other st.keys (key_of k.query k.values) x (omega (arith, h.0, S.slots.few)) h.1)
        (All-both (held_below st S) (found_nothing st.keys st.slots (key_of k.query k.values) e))

  pub ask-stays : Sound (step s (ask k buffer)).0.state
  ask-stays =
      by-ask Sound s S k buffer
      (λ p asked e. front-stays st S p (found_below st.keys st.slots (key_of k.query k.values) p e))
      (λ asked e h.
      put-stays st S T (open_is st.slots (and_right (leb (length r) st.slot_bytes) _ h)).0 (key_of k.query k.values) r (key-sound asked) record-long
      (leb-true (length r) st.slot_bytes (and_left (leb (length r) st.slot_bytes) _ h)) (new-key asked e))
