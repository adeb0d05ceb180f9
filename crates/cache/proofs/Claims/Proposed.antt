-- What a proposal leaves; that a commit is the update of the note, of which the test of a sound state has tried 10 to 12; and when a withdrawal is taken, and what it leaves. Assumes nothing.
use mathlib.Core.Path.{◌≡◌, refl, sym, ap, ap₂, ◌∙◌, subst}
use mathlib.Core.Bool.{Bool, true, false, not, ◌&&◌, ◌||◌, true≢false}
use mathlib.Core.Option.{Option, none, some}
use Prim.Native.Nat.{ℕ, zero, suc, ◌≤◌}
use native.Mathlib.Omega.{arith}
use borrow.Author.Tests.{lt-leb, eq-eqb}
use lib.Dec.{lit<, eqb}
use lib.ListN.{length}
use lib.Seq.{length-take-le}
use Rattle.std.specs.Prelude.{Option as Maybe, Some, None}
use Rattle.lists.specs.Lists.{nil, cons, keep, count}
use Rattle.lists.proofs.Bools.{and_both}
use Rattle.meaning.specs.Key.{Key}
use Rattle.meaning.specs.Call.{change, commit, withdraw}
use Rattle.meaning.specs.Plain.{Lengths, Plain, Note as PlainNote, drops_key}
use Rattle.meaning.specs.Refusals.{is_none, or_else, settled}
use Rattle.meaning.proofs.Accepted.{clear}
use Rattle.statement.proofs.SoundUpdate.{update-parts}
use Rattle.cache.specs.declared.Note.{Note}
use Rattle.cache.specs.declared.State.{State}
use Rattle.cache.specs.Sound.{schemas_in, update_at, note_read, pending_read, pending_in, NoteStands, note_in, pending_of}
use Rattle.cache.specs.SoundTest.{sound_state}
use Rattle.cache.specs.Means.{Means, Typed}
use Rattle.cache.specs.Calls.{unfit, change_conditions}
use Rattle.cache.specs.Gives.{update_of, update_gives, update_refused, update_refusal, update_done, with_note, note_of, propose_refused, would_do, propose_of, pending_refusal, commit_done, commit_of, withdraw_of}
use Rattle.cache.specs.Run.{Store, Seen, lent_by, step_update, step_flush, step_propose, step}
use Rattle.cache.specs.Demand.{keys_held, ProposalNotesOnly, CommitDoesIt, CommitDropsExactlyMatched, WithdrawExactlyIf, WithdrawTakesNote}
use Rattle.cache.proofs.Settled.{fit_is, or-else-zero}
use Rattle.cache.proofs.Invariant.Sound.{Sound, sound-is, update-at}
use Rattle.cache.proofs.Claims.Refusals.{number_is}
use Rattle.cache.proofs.Refinement.Dropping.{DropsMean, drops_exactly_matched}

-- ---- a proposal

pub proposal_notes_only : ProposalNotesOnly
unfolding step propose_of would_do with_note settled
proposal_notes_only s n us = go (update_refusal s.state (lent_by s) n (length us))
  where
    by : ℕ → Store × Seen
    by k = step_propose s (settled k (would_do s.state s.cells n us) (propose_refused s.state k))

    go : (k : ℕ) → (by k).1.got.refusal ≡ 0 → (by k).0 ≡ record s { state = record s.state { pending = pending_of (Some (note_of n us)) } }
    go zero e = refl
    go (suc k) e = absurd (omega arith)

-- ---- a commit

module _ (s : State) (T : Typed s) (S : Sound s) (n : Note) (e : note_in s ≡ Some n) where
  abbrev N : NoteStands s n
  N = S.note n e

  few : n.count ≤ 8
  few =
      let p : (update_at s n.update).parameters ≤ 8 = (update-parts (schemas_in s) (update_at s n.update) (update-at s T S n.update N.there)).few_parameters in
      omega (arith, N.values)

  -- the values in use
  pub values-long : length (note_read n).values ≡ (update_at s n.update).parameters
  values-long = length-take-le n.count n.values (omega (arith, few, T.note_fits n e)) ∙ N.values

  -- where the state and the lengths are the opening's, the update of the note is not refused
  pub note-taken : (l : Lengths) → unfit s l ≡ false → update_refusal s l n.update (length (note_read n).values) ≡ 0
  unfolding update_refusal
  note-taken l f =
      (clear 0 (change_conditions s l n.update (length (note_read n).values)) refl).1
      (cons f
      (cons (lt-leb s.update_count n.update N.there)
      (cons (ap not (eq-eqb (length (note_read n).values) (update_at s n.update).parameters values-long)) (cons N.room nil))))

-- a commit that is not refused has a sound state and the opening's lengths
pub commit-fits : (s : State) (l : Lengths) → pending_refusal s l ≡ 0 → (unfit s l ≡ false) × (is_none (pending_in s) ≡ false)
unfolding pending_refusal
commit-fits s l e =
    let a = or-else-zero (unfit s l) 2 _ (lit< tt) e in
    (a.0, (or-else-zero (is_none (pending_in s)) 17 0 (lit< tt) a.1).0)

no_number : (s : Store) → (step s commit).1.got.refusal ≡ 0 → pending_refusal s.state (lent_by s) ≡ 0
unfolding pending_refusal
no_number s h = sym (number_is s commit) ∙ h

pub commit_does_it : CommitDoesIt
unfolding step commit_of update_of settled
commit_does_it s n T h e =
    let st : State = s.state in
    let z : pending_refusal st (lent_by s) ≡ 0 = no_number s h in
    let f : unfit st (lent_by s) ≡ false = (commit-fits st (lent_by s) z).0 in
    let t : update_refusal st (lent_by s) n.update (length (note_read n).values) ≡ 0 = note-taken st T (sound-is st (fit_is st (lent_by s) f).sound) n e (lent_by s) f in
    ap (λ (k : ℕ). step_update s (settled k (commit_done st s.cells (note_in st)) (update_gives (update_refused st k) s.cells))) z
    ∙ ap (λ (o : Maybe Note). step_update s (commit_done st s.cells o)) e
    ∙ sym
    (ap (λ (k : ℕ). step_update s (settled k (update_done st s.cells (update_at st n.update) (note_read n).values) (update_gives (update_refused st k) s.cells))) t)

-- a note and none, and notes that are the same
none-some : {x : PlainNote} → ◌≡◌ {A = Option PlainNote} (some x) none → ⊥
none-some e = absurd (cc)

some-same : {x y : PlainNote} → ◌≡◌ {A = Option PlainNote} (some x) (some y) → x ≡ y
some-same {x} {y} e = ap (λ (o : Option PlainNote). elim o [ none ↦ x | some z ↦ z ]) e

-- and drops what that update does
pub commit_drops_exactly_matched : DropsMean → CommitDropsExactlyMatched
commit_drops_exactly_matched mean s x p T h m i z = go (note_in s.state) refl
  where
    Drops : PlainNote → Store × Seen → Type 0
    Drops y r = (keys_held r.0 ≡ keep (λ (k : Key). not (drops_key p y.update y.values k)) (keys_held s)) × (r.1.drops ≡ count (drops_key p y.update y.values) (keys_held s))

    go : (o : Maybe Note) → note_in s.state ≡ o → Drops x (step s commit)
    go None e = absurd (none-some (sym i ∙ m.note_is ∙ ap pending_read e))
    go (Some n) e =
        let f : note_read n ≡ x = some-same (sym (ap pending_read e) ∙ sym m.note_is ∙ i) in
        let c : step s commit ≡ step s (change n.update (note_read n).values) = commit_does_it s n T z e in
        subst (λ (y : PlainNote). Drops y (step s commit)) f
        (subst (Drops (note_read n)) (sym c) (drops_exactly_matched mean s n.update (note_read n).values p T h m (sym (ap (λ (r : Store × Seen). r.1.got.refusal) c) ∙ z)))

-- ---- a withdrawal

withdraw-number : (s : Store) → (step s withdraw).1.got.refusal ≡ pending_refusal s.state (lent_by s)
unfolding pending_refusal
withdraw-number s = number_is s withdraw

fit-unfit : (s : State) (l : Lengths) → sound_state s ≡ true → l.cells ≡ s.cells → l.memory ≡ s.memory → unfit s l ≡ false
unfolding unfit
fit-unfit s l h c m =
    ap₂ (λ (a b : Bool). not a || not b) h (and_both (eqb l.cells s.cells) (eqb l.memory s.memory) (eq-eqb l.cells s.cells c) (eq-eqb l.memory s.memory m))

note-there : (o : Maybe Note) → is_none (pending_read o) ≡ false → (n : Note) × (o ≡ Some n)
note-there None e = absurd (true≢false e)
note-there (Some n) e = (n, refl)

no-refusal : (s : State) (l : Lengths) → unfit s l ≡ false → is_none (pending_in s) ≡ false → pending_refusal s l ≡ 0
unfolding pending_refusal
no-refusal s l f g = ap₂ (λ (a b : Bool). or_else a 2 (or_else b 17 0)) f g

pub withdraw_exactly_if : WithdrawExactlyIf
withdraw_exactly_if s = (there, back)
  where
    there : (step s withdraw).1.got.refusal ≡ 0
        → (sound_state s.state ≡ true) × (length s.cells ≡ s.state.cells) × (length s.memory ≡ s.state.memory) × ((n : Note) × (note_in s.state ≡ Some n))
    there z =
        let c = commit-fits s.state (lent_by s) (sym (withdraw-number s) ∙ z) in
        let F = fit_is s.state (lent_by s) c.0 in
        (F.sound, F.cells_are, F.memory_is, note-there (note_in s.state) c.1)

    back : (sound_state s.state ≡ true) × (length s.cells ≡ s.state.cells) × (length s.memory ≡ s.state.memory) × ((n : Note) × (note_in s.state ≡ Some n))
        → (step s withdraw).1.got.refusal ≡ 0
    back (h, c, m, e) = withdraw-number s ∙ no-refusal s.state (lent_by s) (fit-unfit s.state (lent_by s) h c m) (ap (λ (o : Maybe Note). is_none (pending_read o)) e.1)

pub withdraw_takes_note : WithdrawTakesNote
unfolding step withdraw_of with_note settled
withdraw_takes_note s = go (pending_refusal s.state (lent_by s))
  where
    by : ℕ → Store × Seen
    by k = step_flush s (settled k (record { refusal = 0; state = with_note s.state None }) (record { refusal = k; state = s.state }))

    go : (k : ℕ) → (by k).1.got.refusal ≡ 0 → (by k).0 ≡ record s { state = record s.state { pending = pending_of None } }
    go zero e = refl
    go (suc k) e = absurd (omega arith)
