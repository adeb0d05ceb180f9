-- The number that a call gets is the lowest of document 01 that applies, and a call that gets one changes nothing. Assumes nothing.
use mathlib.Core.Path.{◌≡◌, refl, sym, ap, ◌∙◌, subst}
use mathlib.Core.Logic.{◌≢◌}
use mathlib.Core.Bool.{Bool, true, false, not, ◌&&◌, and-false}
use mathlib.Core.List.{List, [], ◌∷◌, ◌++◌}
use Prim.Native.Nat.{ℕ, zero, suc, ◌<◌}
use native.Mathlib.Omega.{arith}
use borrow.Author.Tests.{ltb-true}
use lib.Dec.{eqb, leb, ltb}
use lib.IntN.{ℤ}
use lib.ListN.{length}
use Rattle.lists.proofs.Bools.{and_left, and_right}
use Rattle.meaning.specs.Key.{Key}
use Rattle.meaning.specs.Call.{Call, add, ask, change, flush, propose, commit, withdraw}
use Rattle.meaning.specs.Refusals.{Conditions, update_conditions, is_none, or_else, lowest_of, settled, Lowest}
use Rattle.meaning.proofs.Accepted.{rank, ascends, lowest-of}
use Rattle.statement.specs.Compiled.{Compiled, insert_form}
use Rattle.statement.specs.declared.Table.{Table}
use Rattle.statement.specs.declared.Update.{Update}
use Rattle.slots.specs.Keys.{Found}
use Rattle.std.specs.Prelude.{Option as Maybe, Some, None}
use Rattle.cache.specs.declared.Note.{Note}
use Rattle.cache.specs.declared.State.{State}
use Rattle.cache.specs.Calls.{Added, Flushed, unfit, Asks, ask_conditions, found_in, Updates, Proposed}
use Rattle.cache.specs.Sound.{table_at, update_at, is_full, pending_read, pending_in, note_in}
use Rattle.cache.specs.Gives.{add_of, ask_of, update_of, flush_of, compiled_beside, add_refused, added_of, added_by, add_refusal, ask_gives, ask_refused, ask_refusal, cached_refusal, from_cache, ask_cached, new_refusal, newly, ask_new, ask_found, update_gives, update_refused, update_refusal, update_done, emptied, with_note, propose_refused, would_do, propose_of, pending_refusal, commit_done, commit_of, withdraw_of}
use Rattle.cache.specs.Run.{Store, lent_by, step_add, step_ask, step_update, step_flush, step_propose, step}
use Rattle.cache.specs.Demand.{answer_conditions, conditions, LowestNumber, RingsNeverFull, refused_with, RefusedChangesNothing}

-- ---- a call that is settled by a number

module _ {X : Type 0} (number : X → ℕ) (make : ℕ → X) (numbered : (n : ℕ) → number (make n) ≡ n) where
  -- the number of what is done where none is given, or the number given
  settled-number : (done : X) (n : ℕ) → number (settled n done (make n)) ≡ settled n (number done) n
  unfolding settled
  settled-number done zero = refl
  settled-number done (suc n) = numbered (suc n)

  -- what is refused is no more than its number, where what is done is so too
  settled-refused : (done : X) → (number done ≢ 0 → done ≡ make (number done)) → (n : ℕ)
      → number (settled n done (make n)) ≢ 0 → settled n done (make n) ≡ make (number (settled n done (make n)))
  unfolding settled
  settled-refused done f zero h = f h
  settled-refused done f (suc n) h = ap make (sym (numbered (suc n)))

  -- the same where what is done has no number
  done-number : (done : X) → number done ≡ 0 → (n : ℕ) → number (settled n done (make n)) ≡ n
  unfolding settled
  done-number done e zero = e
  done-number done e (suc n) = numbered (suc n)

  done-refused : (done : X) → number done ≡ 0 → (n : ℕ) → number (settled n done (make n)) ≢ 0 → settled n done (make n) ≡ make (number (settled n done (make n)))
  done-refused done e n h = settled-refused done (λ k. absurd (k e)) n h

-- ---- the lowest of numbers that ascend from above 0, where more conditions follow

lowest-append : (k : ℕ) (cs ds : Conditions) → ascends k cs ≡ true → lowest_of (cs ++ ds) ≡ settled (lowest_of cs) (lowest_of ds) (lowest_of cs)
unfolding settled
lowest-append k [] ds a = refl
lowest-append k (c ∷ cs) ds a =
    go c.1 c.0 (ltb-true k (rank c.0) (and_left (ltb k (rank c.0)) _ a)) (lowest-append (rank c.0) cs ds (and_right (ltb k (rank c.0)) _ a))
  where
    go : (b : Bool) (n : ℕ) → k < rank n → lowest_of (cs ++ ds) ≡ settled (lowest_of cs) (lowest_of ds) (lowest_of cs)
        → or_else b n (lowest_of (cs ++ ds)) ≡ settled (or_else b n (lowest_of cs)) (lowest_of ds) (or_else b n (lowest_of cs))
    go true zero h e = absurd (omega arith)
    go true (suc n) h e = refl
    go false n h e = e

-- ---- add

added-zero : (k : ℕ) (s : State) (c : Compiled) → (added_of k s c).refusal ≡ 0
added-zero zero s c = refl
added-zero (suc zero) s c = refl
added-zero (suc (suc zero)) s c = refl
added-zero (suc (suc (suc zero))) s c = refl
added-zero (suc (suc (suc (suc k)))) s c = refl

module _ (s : Store) (text : List ℕ) where
  abbrev text_added : Added
  text_added = added_by s.state (compiled_beside s.state text)

  done-zero : text_added.refusal ≡ 0
  unfolding added_by
  done-zero = added-zero (compiled_beside s.state text).kind s.state (compiled_beside s.state text)

  add-number : (step s (add text)).1.got.refusal ≡ lowest_of (conditions s (add text))
  unfolding step add_of add_refusal
  add-number = done-number (λ (r : Added). r.refusal) (add_refused s.state) (λ n. refl) text_added done-zero (lowest_of (conditions s (add text)))

  add-refused : (step s (add text)).1.got.refusal ≢ 0 → step s (add text) ≡ (s, refused_with (step s (add text)).1.got.refusal [])
  unfolding step add_of
  add-refused h = ap (step_add s) (done-refused (λ (r : Added). r.refusal) (add_refused s.state) (λ n. refl) text_added done-zero (add_refusal s.state (lent_by s) text) h)

-- ---- ask

module _ (s : Store) (k : Key) (buffer : List ℕ) where
  abbrev refuse_ask : ℕ → Asks
  refuse_ask n = ask_gives (ask_refused s.state n) s.memory buffer

  abbrev ask_number : ℕ
  ask_number = ask_refusal s.state (lent_by s) k.query (length k.values)

  abbrev answer_found : Found → Asks
  answer_found f = ask_found f s.state s.cells s.memory buffer k.query k.values

  abbrev asked_number : Asks → ℕ
  asked_number r = r.result.refusal

  -- 16, 13, or none
  pub found_number : (f : Found) → (answer_found f).result.refusal ≡ lowest_of (answer_conditions s k (length buffer) f)
  unfolding ask_cached cached_refusal ask_new new_refusal
  found_number (Some p) = done-number asked_number refuse_ask (λ n. refl) (from_cache s.state s.memory buffer p) refl (lowest_of (answer_conditions s k (length buffer) (Some p)))
  found_number None =
      done-number asked_number refuse_ask (λ n. refl) (newly s.state s.cells s.memory buffer k.query k.values) refl (lowest_of (answer_conditions s k (length buffer) None))

  found-refused : (f : Found) → (answer_found f).result.refusal ≢ 0 → answer_found f ≡ refuse_ask (answer_found f).result.refusal
  unfolding ask_cached ask_new
  found-refused (Some p) h = done-refused asked_number refuse_ask (λ n. refl) (from_cache s.state s.memory buffer p) refl (cached_refusal s.state (length buffer) p) h
  found-refused None h =
      done-refused asked_number refuse_ask (λ n. refl) (newly s.state s.cells s.memory buffer k.query k.values) refl
      (new_refusal s.state s.cells (length buffer) k.query k.values) h

  abbrev found_here : Found
  found_here = found_in s.state k.query k.values

  ask-number : (step s (ask k buffer)).1.got.refusal ≡ lowest_of (conditions s (ask k buffer))
  unfolding step ask_of ask_refusal
  ask-number =
      settled-number asked_number refuse_ask (λ n. refl) (answer_found found_here) ask_number
      ∙ ap (λ (m : ℕ). settled ask_number m ask_number) (found_number found_here)
      ∙ sym (lowest-append 0 (ask_conditions s.state (lent_by s) k.query (length k.values)) (answer_conditions s k (length buffer) found_here) refl)

  ask-refused : (step s (ask k buffer)).1.got.refusal ≢ 0 → step s (ask k buffer) ≡ (s, refused_with (step s (ask k buffer)).1.got.refusal buffer)
  unfolding step ask_of
  ask-refused h = ap (step_ask s) (settled-refused asked_number refuse_ask (λ n. refl) (answer_found found_here) (found-refused found_here) ask_number h)

-- ---- update

module _ (s : Store) (number : ℕ) (values : List ℤ) where
  abbrev refuse_update : ℕ → Updates
  refuse_update n = update_gives (update_refused s.state n) s.cells

  abbrev updated_here : Updates
  updated_here = update_done s.state s.cells (update_at s.state number) values

  updated-zero : updated_here.result.refusal ≡ 0
  unfolding update_done
  updated-zero = refl

  update-number : (step s (change number values)).1.got.refusal ≡ lowest_of (conditions s (change number values))
  unfolding step update_of update_refusal
  update-number = done-number (λ (r : Updates). r.result.refusal) refuse_update (λ n. refl) updated_here updated-zero (lowest_of (conditions s (change number values)))

  update-refused : (step s (change number values)).1.got.refusal ≢ 0 → step s (change number values) ≡ (s, refused_with (step s (change number values)).1.got.refusal [])
  unfolding step update_of
  update-refused h =
      ap (step_update s)
      (done-refused (λ (r : Updates). r.result.refusal) refuse_update (λ n. refl) updated_here updated-zero (update_refusal s.state (lent_by s) number (length values)) h)

  -- a proposal of it
  abbrev proposed_here : Proposed
  proposed_here = would_do s.state s.cells number values

  proposed-zero : proposed_here.refusal ≡ 0
  unfolding would_do
  proposed-zero = refl

  propose-number : (step s (propose number values)).1.got.refusal ≡ lowest_of (conditions s (propose number values))
  unfolding step propose_of update_refusal
  propose-number = done-number (λ (r : Proposed). r.refusal) (propose_refused s.state) (λ n. refl) proposed_here proposed-zero (lowest_of (conditions s (propose number values)))

  propose-refused : (step s (propose number values)).1.got.refusal ≢ 0 → step s (propose number values) ≡ (s, refused_with (step s (propose number values)).1.got.refusal [])
  unfolding step propose_of
  propose-refused h =
      ap (step_propose s)
      (done-refused (λ (r : Proposed). r.refusal) (propose_refused s.state) (λ n. refl) proposed_here proposed-zero (update_refusal s.state (lent_by s) number (length values)) h)

-- ---- flush

module _ (s : Store) where
  abbrev refuse_flush : ℕ → Flushed
  refuse_flush n = record { refusal = n; state = s.state }

  abbrev flush_done : Flushed
  flush_done = record { refusal = 0; state = emptied s.state }

  flush-number : (step s flush).1.got.refusal ≡ lowest_of (conditions s flush)
  unfolding step flush_of
  flush-number = done-number (λ (r : Flushed). r.refusal) refuse_flush (λ n. refl) flush_done refl (lowest_of (conditions s flush))

  flush-refused : (step s flush).1.got.refusal ≢ 0 → step s flush ≡ (s, refused_with (step s flush).1.got.refusal [])
  unfolding step flush_of
  flush-refused h = ap (step_flush s) (done-refused (λ (r : Flushed). r.refusal) refuse_flush (λ n. refl) flush_done refl (lowest_of (conditions s flush)) h)

-- ---- commit, withdraw

module _ (s : Store) where
  abbrev refuse_commit : ℕ → Updates
  refuse_commit n = update_gives (update_refused s.state n) s.cells

  abbrev commit_here : Maybe Note → Updates
  commit_here o = commit_done s.state s.cells o

  abbrev commit_refusal : Bool → Maybe Note → ℕ
  commit_refusal b o = or_else b 2 (or_else (is_none (pending_read o)) 17 0)

  -- where no number is given there is a note
  commit-zero : (b : Bool) (o : Maybe Note) → settled (commit_refusal b o) (commit_here o).result.refusal (commit_refusal b o) ≡ commit_refusal b o
  unfolding settled update_done
  commit-zero true o = refl
  commit-zero false None = refl
  commit-zero false (Some n) = refl

  commit-number : (step s commit).1.got.refusal ≡ lowest_of (conditions s commit)
  unfolding step commit_of pending_refusal
  commit-number =
      settled-number (λ (r : Updates). r.result.refusal) refuse_commit (λ n. refl) (commit_here (note_in s.state)) (lowest_of (conditions s commit))
      ∙ commit-zero (unfit s.state (lent_by s)) (note_in s.state)

  none-there : (o : Maybe Note) → (commit_here o).result.refusal ≢ 0 → commit_here o ≡ refuse_commit (commit_here o).result.refusal
  unfolding update_done
  none-there None k = refl
  none-there (Some n) k = absurd (k refl)

  commit-refused : (step s commit).1.got.refusal ≢ 0 → step s commit ≡ (s, refused_with (step s commit).1.got.refusal [])
  unfolding step commit_of
  commit-refused h =
      ap (step_update s)
      (settled-refused (λ (r : Updates). r.result.refusal) refuse_commit (λ n. refl) (commit_here (note_in s.state)) (none-there (note_in s.state)) (pending_refusal s.state (lent_by s)) h)

  abbrev withdrawal_done : Flushed
  withdrawal_done = record { refusal = 0; state = with_note s.state None }

  withdraw-number : (step s withdraw).1.got.refusal ≡ lowest_of (conditions s withdraw)
  unfolding step withdraw_of pending_refusal
  withdraw-number = done-number (λ (r : Flushed). r.refusal) (refuse_flush s) (λ n. refl) withdrawal_done refl (lowest_of (conditions s withdraw))

  withdraw-refused : (step s withdraw).1.got.refusal ≢ 0 → step s withdraw ≡ (s, refused_with (step s withdraw).1.got.refusal [])
  unfolding step withdraw_of
  withdraw-refused h =
      ap (step_flush s) (done-refused (λ (r : Flushed). r.refusal) (refuse_flush s) (λ n. refl) withdrawal_done refl (pending_refusal s.state (lent_by s)) h)

-- ---- the demands

-- a call gets the first number whose condition holds
pub number_is : (s : Store) (c : Call (List ℕ)) → (step s c).1.got.refusal ≡ lowest_of (conditions s c)
number_is s (add text) = add-number s text
number_is s (ask k buffer) = ask-number s k buffer
number_is s (change n vs) = update-number s n vs
number_is s flush = flush-number s
number_is s (propose n vs) = propose-number s n vs
number_is s commit = commit-number s
number_is s withdraw = withdraw-number s

-- its numbers ascend
ascending : (s : Store) (c : Call (List ℕ)) → ascends 0 (conditions s c) ≡ true
ascending s (add text) = refl
ascending s (ask k buffer) = go (found_in s.state k.query k.values)
  where
    go : (f : Found) → ascends 0 (ask_conditions s.state (lent_by s) k.query (length k.values) ++ answer_conditions s k (length buffer) f) ≡ true
    go (Some p) = refl
    go None = refl
ascending s (change n vs) = refl
ascending s flush = refl
ascending s (propose n vs) = refl
ascending s commit = refl
ascending s withdraw = refl

pub lowest_number : LowestNumber
lowest_number s c = subst (Lowest (conditions s c)) (sym (number_is s c)) (lowest-of (conditions s c) (ascending s c))

module _ (s : Store) (n : ℕ) (vs : List ℤ) (r : (table_at s.state (update_at s.state n).table).ring ≡ true) where
  ring-free : is_full s.state (update_at s.state n) ≡ false
  ring-free =
      let u : Update = update_at s.state n in
      let t : Table = table_at s.state u.table in
      ap (λ (b : Bool). eqb u.form insert_form && (not b && leb t.capacity t.rows)) r ∙ and-false (eqb u.form insert_form)

  -- of an update and of its proposal
  ring-not-12 : lowest_of (conditions s (change n vs)) ≡ 12 → ⊥
  ring-not-12 e = go (unfit s.state (lent_by s)) (leb s.state.update_count n) (not (eqb (length vs) (update_at s.state n).parameters)) (sym number ∙ e)
    where
      number : lowest_of (conditions s (change n vs)) ≡ lowest_of (update_conditions (unfit s.state (lent_by s)) s.state.update_count n (update_at s.state n).parameters (length vs) false)
      number = ap (λ (b : Bool). lowest_of (update_conditions (unfit s.state (lent_by s)) s.state.update_count n (update_at s.state n).parameters (length vs) b)) ring-free

      go : (a b c : Bool) → or_else a 2 (or_else b 10 (or_else c 11 0)) ≡ 12 → ⊥
      go true b c h = absurd (omega arith)
      go false true c h = absurd (omega arith)
      go false false true h = absurd (omega arith)
      go false false false h = absurd (omega arith)

commit-not-12 : (a b : Bool) → or_else a 2 (or_else b 17 0) ≡ 12 → ⊥
commit-not-12 true b h = absurd (omega arith)
commit-not-12 false true h = absurd (omega arith)
commit-not-12 false false h = absurd (omega arith)

pub rings_never_full : RingsNeverFull
rings_never_full s n vs = (
  λ r. ((λ e. ring-not-12 s n vs r (sym (number_is s (change n vs)) ∙ e)), λ e. ring-not-12 s n vs r (sym (number_is s (propose n vs)) ∙ e)),
  λ e. commit-not-12 (unfit s.state (lent_by s)) (is_none (pending_in s.state)) (sym (number_is s commit) ∙ e),
)

pub refused_changes_nothing : RefusedChangesNothing
refused_changes_nothing s (add text) h = add-refused s text h
refused_changes_nothing s (ask k buffer) h = ask-refused s k buffer h
refused_changes_nothing s (change n vs) h = update-refused s n vs h
refused_changes_nothing s flush h = flush-refused s h
refused_changes_nothing s (propose n vs) h = propose-refused s n vs h
refused_changes_nothing s commit h = commit-refused s h
refused_changes_nothing s withdraw h = withdraw-refused s h
