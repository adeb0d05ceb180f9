-- A note put in or taken away leaves a sound state sound: a proposal's update is there, has as many values, and its table has room. Assumes nothing.
use mathlib.Core.Path.{◌≡◌, refl, sym, ◌∙◌, subst}
use mathlib.Core.Bool.{true, false}
use Prim.Native.Nat.{ℕ, ◌≤◌, ◌<◌}
use native.Mathlib.Omega.{arith}
use borrow.Author.Tests.{leb-false, eqb-true}
use lib.Dec.{eqb}
use lib.IntN.{ℤ}
use lib.ListN.{length}
use mathlib.Core.List.{List}
use Rattle.std.specs.Prelude.{Option as Maybe, Some, None}
use Rattle.lists.specs.Lists.{All}
use Rattle.lists.proofs.Bools.{not-false}
use Rattle.lists.proofs.Lists.{All-head, All-tail, All-map}
use Rattle.meaning.proofs.Accepted.{clear}
use Rattle.meaning.specs.Call.{propose, withdraw, flush}
use Rattle.statement.specs.declared.Update.{Update}
use Rattle.statement.proofs.SoundUpdate.{update-parts}
use Rattle.cache.specs.declared.Note.{Note}
use Rattle.cache.specs.declared.State.{State}
use Rattle.cache.specs.Sound.{schemas_in, update_at, NoteStands}
use Rattle.cache.specs.Calls.{change_conditions}
use Rattle.cache.specs.Gives.{update_refusal, with_cache, with_note, note_of}
use Rattle.cache.specs.Means.{Typed}
use Rattle.cache.specs.Run.{Store, lent_by, step}
use Rattle.cache.proofs.Settled.{nothing, note-put}
use Rattle.cache.proofs.Invariant.Sound.{Sound, update-at}
use Rattle.cache.proofs.Invariant.Cases.{by-propose, by-withdraw, by-flush}
use Rattle.cache.proofs.Invariant.Cached.{drop-stays}

pub note-stays : (s : State) → Sound s → (p : Maybe Note) → ((n : Note) → p ≡ Some n → NoteStands s n) → Sound (with_note s p)
unfolding with_note
note-stays s S p f = record {
  sizes = S.sizes;
  few_tables = S.few_tables;
  few_queries = S.few_queries;
  few_updates = S.few_updates;
  areas = S.areas;
  rows = S.rows;
  starts = S.starts;
  tables = S.tables;
  queries = S.queries;
  updates = S.updates;
  lengths = All-map (λ x L. record { least = L.least; most = L.most }) S.lengths;
  keys = All-map (λ x K. record { there = K.there; values = K.values }) S.keys;
  once = S.once;
  slots = S.slots;
  note = λ n e. let N = f n (sym (note-put p) ∙ e) in record { there = N.there; values = N.values; room = N.room };
}

module _ (s : Store) (T : Typed s.state) (S : Sound s.state) where
  abbrev st : State
  st = s.state

  module _ (number : ℕ) (values : List ℤ) where
    abbrev u : Update
    u = update_at st number

    module _ (taken : update_refusal st (lent_by s) number (length values) ≡ 0) where
      clear-all : All (λ c. c.1 ≡ false) (change_conditions st (lent_by s) number (length values))
      unfolding update_refusal
      clear-all = (clear 0 (change_conditions st (lent_by s) number (length values)) refl).0 taken

      there : number < st.update_count
      there = leb-false st.update_count number (All-head (All-tail clear-all))

      many : length values ≡ u.parameters
      many = eqb-true (length values) u.parameters (not-false (eqb (length values) u.parameters) (All-head (All-tail (All-tail clear-all))))

      pub stands : NoteStands st (note_of number values)
      unfolding note_of
      stands =
          let few : u.parameters ≤ 8 = (update-parts (schemas_in st) u (update-at st T S number there)).few_parameters in
          record { there = there; values = omega (arith, many); room = All-head (All-tail (All-tail (All-tail clear-all))) }

    pub propose-stays : Sound (step s (propose number values)).0.state
    propose-stays =
        by-propose Sound s S number values
        (λ taken. note-stays st S (Some (note_of number values)) (λ n e. let q : note_of number values ≡ n = cc in subst (NoteStands st) q (stands taken)))

  -- a withdrawal, and a flush
  pub withdraw-stays : Sound (step s withdraw).0.state
  withdraw-stays = by-withdraw Sound s S (note-stays st S None (λ n e. absurd (nothing n e)))

  pub flush-stays : Sound (step s flush).0.state
  unfolding with_note with_cache
  flush-stays = by-flush Sound s S (note-stays _ (drop-stays st S T (λ x. true)) None (λ n e. absurd (nothing n e)))
