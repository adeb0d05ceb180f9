-- What holds of the state after a call, by its cases: what a test chooses, what is settled by a number, and what each call leaves where it is not refused.
-- Assumes nothing.
use mathlib.Core.Path.{◌≡◌, refl, ◌∙◌}
use mathlib.Core.Bool.{Bool, true, false, cond}
use mathlib.Core.List.{List}
use Prim.Native.Nat.{ℕ, zero, suc}
use lib.Dec.{lit<}
use lib.IntN.{ℤ}
use lib.ListN.{length}
use Rattle.meaning.specs.Plain.{opening_refused}
use Rattle.statement.specs.Compiled.{Compiled}
use Rattle.slots.specs.Keys.{Found, key_of}
use Rattle.std.specs.Prelude.{Option as Maybe, Some, None}
use Rattle.slots.specs.Order.{front_of, last_taken}
use Rattle.cache.specs.declared.State.{State}
use Rattle.cache.specs.declared.Note.{Note}
use Rattle.cache.specs.Calls.{Added, Flushed, unfit, Opens, Asks, record_at, found_in, Updates, Proposed}
use Rattle.cache.specs.Sound.{update_at, lengths, opening, note_read, note_in}
use Rattle.cache.specs.Gives.{open_of, add_of, ask_of, update_of, flush_of, empty_state, added_table, added_query, added_update, compiled_beside, added_of, added_by, add_refusal, ask_refusal, with_cache, cached_refusal, ask_cached, takes_slot, put_in, kept, new_refusal, ask_new, ask_found, update_refusal, update_done, emptied, with_note, note_of, would_do, propose_of, pending_refusal, commit_done, commit_of, withdraw_of}
use Rattle.meaning.specs.Key as M
use Rattle.meaning.specs.Call.{add, ask, change, flush, propose, commit, withdraw}
use Rattle.meaning.specs.Refusals.{or_else, settled}
use Rattle.cache.specs.Run.{Store, Start, opening_of, opened, lent_by, step}
use Rattle.cache.proofs.Settled.{or-else-zero}
use Rattle.cache.proofs.Returns.Adding.{beside-refusal}

module _ {X : Type 0} (Q : X → Type 0) where
  pub by_cond : (b : Bool) (x y : X) → (b ≡ true → Q x) → (b ≡ false → Q y) → Q (cond b x y)
  by_cond true x y f g = f refl
  by_cond false x y f g = g refl

  pub by-settled : (n : ℕ) (done refused : X) → (n ≡ 0 → Q done) → Q refused → Q (settled n done refused)
  unfolding settled
  by-settled zero done refused f r = f refl
  by-settled (suc n) done refused f r = r

-- ---- an opening, refused or not

pub by-opened : (P : State → Type 0) (o : Start) → P (empty_state (opening (lengths 0 0) 0 8)) → (opening_refused (opening_of o) ≡ false → P (empty_state (opening_of o)))
    → P (opened o).state
unfolding open_of
by-opened P o r f = by_cond (λ (x : Opens). P x.result.state) (opening_refused (opening_of o)) _ _ (λ e. r) f

-- ---- each call; where it is refused the state is as it was

module _ (P : State → Type 0) (s : Store) (before : P s.state) where
  abbrev st : State
  st = s.state

  added-by : (k : ℕ) (c : Compiled) → (k ≡ 1 → P (added_table st c.table).state) → (k ≡ 2 → P (added_query st c.query).state)
      → (k ≡ 3 → P (added_update st c.update).state) → P (added_of k st c).state
  added-by zero c t q u = before
  added-by (suc zero) c t q u = t refl
  added-by (suc (suc zero)) c t q u = q refl
  added-by (suc (suc (suc zero))) c t q u = u refl
  added-by (suc (suc (suc (suc k)))) c t q u = before

  module _ (text : List ℕ) where
    abbrev compiled : Compiled
    compiled = compiled_beside st text

    -- the text is taken, and says a statement of the kind
    abbrev Taken : ℕ → Type 0
    Taken k = (unfit st (lent_by s) ≡ false) × (compiled.refusal ≡ 0) × (compiled.kind ≡ k)

    pub by-add : (Taken 1 → P (added_table st compiled.table).state) → (Taken 2 → P (added_query st compiled.query).state)
        → (Taken 3 → P (added_update st compiled.update).state) → P (step s (add text)).0.state
    unfolding step add_of add_refusal added_by
    by-add t q u =
        by-settled (λ (r : Added). P r.state) (add_refusal st (lent_by s) text) _ _
        (λ e.
        let z = or-else-zero (unfit st (lent_by s)) 2 _ (lit< tt) e in
        let r = beside-refusal st text ∙ z.1 in
        added-by compiled.kind compiled (λ k. t (z.0, r, k)) (λ k. q (z.0, r, k)) (λ k. u (z.0, r, k)))
        before

  module _ (k : M.Key) (buffer : List ℕ) where
    abbrev found : Found
    found = found_in st k.query k.values

    abbrev answer : List ℕ
    answer = record_at st s.cells k.query k.values

    -- the question is there, and has its number of values
    abbrev Asked : Type 0
    Asked = ask_refusal st (lent_by s) k.query (length k.values) ≡ 0

    pub by-ask : ((p : ℕ) → Asked → found ≡ Some p → P (with_cache st (front_of st.slots p) st.keys st.lengths))
        → (Asked → found ≡ None → takes_slot st.slots st.slot_bytes answer ≡ true → P (put_in st (key_of k.query k.values) answer (last_taken st.slots)))
        → P (step s (ask k buffer)).0.state
    unfolding step ask_of ask_cached ask_new kept
    by-ask f g =
        by-settled (λ (r : Asks). P r.result.state) (ask_refusal st (lent_by s) k.query (length k.values)) _ _
        (λ e. go found refl e) before
      where
        go : (x : Found) → found ≡ x → Asked → P (ask_found x st s.cells s.memory buffer k.query k.values).result.state
        go (Some p) e a =
            by-settled (λ (r : Asks). P r.result.state) (cached_refusal st (length buffer) p) _ _ (λ h. f p a e) before
        go None e a =
            by-settled (λ (r : Asks). P r.result.state) (new_refusal st s.cells (length buffer) k.query k.values) _ _
            (λ h. by_cond P (takes_slot st.slots st.slot_bytes answer) _ _ (λ k. g a e k) (λ k. before)) before

  pub by-update : (number : ℕ) (values : List ℤ)
      → (update_refusal st (lent_by s) number (length values) ≡ 0 → P (update_done st s.cells (update_at st number) values).result.state)
      → P (step s (change number values)).0.state
  unfolding step update_of
  by-update number values f =
      by-settled (λ (r : Updates). P r.result.state) (update_refusal st (lent_by s) number (length values)) _ _ f before

  pub by-flush : P (emptied st) → P (step s flush).0.state
  unfolding step flush_of
  by-flush f = by-settled (λ (r : Flushed). P r.state) (or_else (unfit st (lent_by s)) 2 0) _ _ (λ e. f) before

  pub by-propose : (number : ℕ) (values : List ℤ) → (update_refusal st (lent_by s) number (length values) ≡ 0 → P (with_note st (Some (note_of number values))))
      → P (step s (propose number values)).0.state
  unfolding step propose_of would_do
  by-propose number values f =
      by-settled (λ (r : Proposed). P r.state) (update_refusal st (lent_by s) number (length values)) _ _ f before

  -- the update of the note, if there is one
  pub by-commit : ((n : Note) → pending_refusal st (lent_by s) ≡ 0 → note_in st ≡ Some n → P (update_done st s.cells (update_at st n.update) (note_read n).values).result.state)
      → P (step s commit).0.state
  unfolding step commit_of
  by-commit f =
      by-settled (λ (r : Updates). P r.result.state) (pending_refusal st (lent_by s)) _ _ (λ e. go (note_in st) refl e) before
    where
      go : (p : Maybe Note) → note_in st ≡ p → pending_refusal st (lent_by s) ≡ 0 → P (commit_done st s.cells p).result.state
      go None q e = before
      go (Some n) q e = f n e q

  pub by-withdraw : P (with_note st None) → P (step s withdraw).0.state
  unfolding step withdraw_of
  by-withdraw f = by-settled (λ (r : Flushed). P r.state) (pending_refusal st (lent_by s)) _ _ (λ e. f) before
