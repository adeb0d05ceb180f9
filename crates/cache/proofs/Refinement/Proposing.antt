-- A proposal, a commit, a withdrawal and a flush get from a sound state what they get from the plain store, and leave the note that it has then. Assumes nothing.
use mathlib.Core.Path.{◌≡◌, refl, sym, ap, ap₂, ◌∙◌, subst}
use mathlib.Core.Bool.{Bool, true, false}
use mathlib.Core.Option.{Option, none, some}
use mathlib.Core.List.{List, []}
use Prim.Native.Nat.{ℕ, ◌≤◌}
use native.Mathlib.Omega.{arith}
use lib.IntN.{ℤ}
use lib.ListN.{length}
use Rattle.std.specs.Prelude.{Option as Maybe, Some, None}
use Rattle.lists.proofs.Bools.{clash}
use Rattle.meaning.specs.Call.{change, flush, propose, commit, withdraw}
use Rattle.meaning.specs.Key as M
use Rattle.meaning.specs.Limits.{most_marks}
use Rattle.meaning.specs.Plain as P
use Rattle.meaning.specs.Plain.{Plain, flushed, withdrawn, rows, refusal, rows_by, made, committed}
use Rattle.meaning.specs.Refusals.{is_none, or_else, lowest_of, note_conditions}
use Rattle.meaning.proofs.Accepted.{Ready, update-taken, propose-refusal}
use Rattle.statement.proofs.SoundUpdate.{update-parts}
use Rattle.slots.specs.Keys.{key_of}
use Rattle.slots.proofs.KeyLaws.{key-few}
use Rattle.cache.specs.declared.Note.{Note}
use Rattle.cache.specs.declared.State.{State}
use Rattle.cache.specs.Sound.{schemas_in, update_at, note_read, pending_read, note_in}
use Rattle.cache.specs.SoundTest.{sound_state}
use Rattle.cache.specs.Means.{Means, Typed}
use Rattle.cache.specs.Calls.{unfit}
use Rattle.cache.specs.Gives.{flush_of, emptied, update_gives, update_refused, update_refusal, update_done, with_note, note_of, propose_refused, would_do, propose_of, pending_refusal, commit_done, commit_of, withdraw_of}
use Rattle.cache.specs.Run.{Store, got_of, lent_by, step_update, step_flush, step_propose, step}
use Rattle.cache.proofs.Settled.{note-put}
use Rattle.cache.proofs.Invariant.Sound.{Sound, sound-is, update-at}
use Rattle.cache.proofs.Claims.Proposed.{note-taken, commit-fits}
use Rattle.cache.proofs.Refinement.StoodFor.{update_agrees}
use Rattle.cache.proofs.Refinement.Refused.{Same, settled_same, unfit-is}
use Rattle.cache.proofs.Refinement.Updating.{count_is, update-number, update-there, update-long, done-same}

-- ---- the note

-- of at most eight values, read back
pub note-few : (n : ℕ) (vs : List ℤ) → length vs ≤ most_marks → note_read (note_of n vs) ≡ record { update = n; values = vs }
unfolding note_of key_of
note-few n vs h = ap (λ (k : M.Key). record { update = n; values = k.values }) (key-few n vs h)

-- another note on both sides
module _ (s : State) (cells : List ℤ) (p : Plain) (m : Means s cells p) where
  pub note-means : (x : Maybe Note) (y : Option P.Note) → y ≡ pending_read x → Means (with_note s x) cells (P.with_note p y)
  unfolding with_note
  note-means x y e = record {
    cells_are = m.cells_are;
    memory_is = m.memory_is;
    tables_are = m.tables_are;
    queries_are = m.queries_are;
    updates_are = m.updates_are;
    note_is = e ∙ ap pending_read (sym (note-put x));
  }

  pub emptied-means : Means (emptied s) cells (P.with_note p none)
  emptied-means = record {
    cells_are = m.cells_are;
    memory_is = m.memory_is;
    tables_are = m.tables_are;
    queries_are = m.queries_are;
    updates_are = m.updates_are;
    note_is = refl;
  }

module _ (s : Store) (p : Plain) (h : sound_state s.state ≡ true) (m : Means s.state s.cells p) where
  -- ---- a flush, and a withdrawal

  pub flush-same : Same [] (step s flush) (P.step (lent_by s) p flush)
  unfolding step flush_of refusal
  flush-same =
      settled_same (step_flush s) (record { refusal = 0; state = emptied s.state }) (λ n. record { refusal = n; state = s.state }) [] s p (P.with_note p none, flushed) m (λ k. refl) _ _
      (ap (λ (b : Bool). or_else b 2 0) (unfit-is s.state s.cells p h m (lent_by s))) (λ k. (refl, emptied-means s.state s.cells p m))

  -- 2 or 17
  pub pending-number : pending_refusal s.state (lent_by s) ≡ refusal (lent_by s) p commit
  unfolding pending_refusal refusal
  pending-number =
      ap₂ (λ (b : Bool) (o : Option P.Note). lowest_of (note_conditions b (is_none o))) (unfit-is s.state s.cells p h m (lent_by s)) (sym m.note_is)

  withdraw-number : pending_refusal s.state (lent_by s) ≡ refusal (lent_by s) p withdraw
  unfolding refusal
  withdraw-number = pending-number

  pub withdraw-same : Same [] (step s withdraw) (P.step (lent_by s) p withdraw)
  unfolding step withdraw_of
  withdraw-same =
      settled_same (step_flush s) (record { refusal = 0; state = with_note s.state None }) (λ n. record { refusal = n; state = s.state }) [] s p (P.with_note p none, withdrawn) m (λ k. refl) _ _
      withdraw-number (λ k. (refl, note-means s.state s.cells p m None none refl))

module _ (s : Store) (p : Plain) (T : Typed s.state) (h : sound_state s.state ≡ true) (m : Means s.state s.cells p) where
  S : Sound s.state
  S = sound-is s.state h

  -- ---- a proposal

  module _ (n : ℕ) (us : List ℤ) where
    pub propose-number : update_refusal s.state (lent_by s) n (length us) ≡ refusal (lent_by s) p (propose n us)
    propose-number = update-number s p T h m n us ∙ sym (propose-refusal (lent_by s) p n us)

    proposed-same : refusal (lent_by s) p (propose n us) ≡ 0
        → Same [] (step_propose s (would_do s.state s.cells n us)) (P.with_note p (some (record { update = n; values = us })), rows (rows_by p n us))
    unfolding would_do
    proposed-same e =
        let r : refusal (lent_by s) p (change n us) ≡ 0 = sym (propose-refusal (lent_by s) p n us) ∙ e in
        let C : Ready p n us = (update-taken (lent_by s) p n us r).1 in
        let there = update-there s p T h m n us r in
        let few : (update_at s.state n).parameters ≤ most_marks = (update-parts (schemas_in s.state) (update_at s.state n) (update-at s.state T S n there)).few_parameters in
        let long : length us ≤ most_marks = omega (arith, C.values, (update_agrees s.state T S s.cells p m n there).parameters_are) in (
          ap (λ k. got_of [] (rows k)) (count_is s.state T S s.cells p m n there (update-long s p T h m n us r) us C.room),
          note-means s.state s.cells p m (Some (note_of n us)) _ (ap some (sym (note-few n us long))),
        )

    pub propose-same : Same [] (step s (propose n us)) (P.step (lent_by s) p (propose n us))
    unfolding step propose_of
    propose-same =
        settled_same (step_propose s) (would_do s.state s.cells n us) (propose_refused s.state) [] s p
        (P.with_note p (some (record { update = n; values = us })), rows (rows_by p n us)) m (λ k. refl) _ _ propose-number proposed-same

  -- ---- a commit

  -- one that is not refused has a note, whose update is not refused
  module _ (z : refusal (lent_by s) p commit ≡ 0) (n : Note) (e : note_in s.state ≡ Some n) where
    pub noted-update : refusal (lent_by s) p (change n.update (note_read n).values) ≡ 0
    noted-update =
        let f : unfit s.state (lent_by s) ≡ false = (commit-fits s.state (lent_by s) (pending-number s p h m ∙ z)).0 in
        sym (update-number s p T h m n.update (note_read n).values) ∙ note-taken s.state T S n e (lent_by s) f

    pub noted-same : Same [] (step_update s (update_done s.state s.cells (update_at s.state n.update) (note_read n).values)) (made p n.update (note_read n).values)
    noted-same = done-same s p T h m n.update (note_read n).values noted-update

  pub no_note : {X : Type 0} → refusal (lent_by s) p commit ≡ 0 → note_in s.state ≡ None → X
  no_note z e =
      clash (ap (λ (o : Maybe Note). is_none (pending_read o)) e) (commit-fits s.state (lent_by s) (pending-number s p h m ∙ z)).1

  commit-done : refusal (lent_by s) p commit ≡ 0 → Same [] (step_update s (commit_done s.state s.cells (note_in s.state))) (committed p p.pending)
  commit-done z =
      subst (λ (o : Option P.Note). Same [] (step_update s (commit_done s.state s.cells (note_in s.state))) (committed p o)) (sym m.note_is)
      (go (note_in s.state) refl)
    where
      go : (o : Maybe Note) → note_in s.state ≡ o → Same [] (step_update s (commit_done s.state s.cells o)) (committed p (pending_read o))
      go None e = no_note z e
      go (Some n) e = noted-same z n e

  pub commit-same : Same [] (step s commit) (P.step (lent_by s) p commit)
  unfolding step commit_of
  commit-same =
      settled_same (step_update s) (commit_done s.state s.cells (note_in s.state)) (λ k. update_gives (update_refused s.state k) s.cells) [] s p
      (committed p p.pending) m (λ k. refl) _ _ (pending-number s p h m) commit-done
