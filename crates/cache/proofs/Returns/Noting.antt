-- What a proposal, a commit and a withdrawal owe: the note, and what each gives, refused or not. Assumes nothing.
use Rattle.std.proofs.Common.{Option, Some, None, Result, Ok, Err, ok_or, is_ok}
use Rattle.std.specs.Result.{IsErrAnd, IsOkAnd, MatchResult}
use mathlib.Core.Path.{◌≡◌, refl, sym, ap, ap₂, subst, ◌∙◌}
use mathlib.Core.Bool.{true, false}
use mathlib.Core.List.{List}
use Prim.Native.Nat.{ℕ, ◌<◌}
use lib.Dec.{lit<}
use lib.IntN.{ℤ}
use lib.ListN.{length, take, get_or}
use Rattle.meaning.specs.Limits.{most_tables}
use Rattle.meaning.specs.Plain.{Lengths}
use Rattle.statement.specs.declared.Refusal.{Refusal}
use Rattle.statement.specs.declared.Refusal.TheVariants as R
use Rattle.statement.specs.Refusals.{number_of, number_in}
use Rattle.statement.specs.declared.Table.{Table}
use Rattle.statement.specs.declared.Update.{Update}
use Rattle.table.specs.Changed.{change_of}
use Rattle.table.proofs.Recording.{numbered}
use Rattle.cache.specs.declared.Note.{Note}
use Rattle.cache.specs.declared.Pending.{Pending}
use Rattle.cache.specs.declared.State.{State}
use Rattle.cache.specs.Sound.{areas_of, table_at, update_at, note_read, note_in, pending_of}
use Rattle.cache.specs.SoundTest.{sound_state}
use Rattle.cache.specs.Private.Outcomes.{Takes, NotesOr}
use Rattle.cache.specs.Calls.{lengths_lent, area_start, unfit, Updates}
use Rattle.cache.specs.Gives.{update_gives, update_refusal, update_refused, update_done, with_note, note_of, propose_refused, would_do, propose_of, pending_refusal, commit_done, commit_of, withdraw_of}
use Rattle.cache.specs.Given.{flushed_as, proposed_as}
use Rattle.cache.proofs.Invariant.Sound.{sound-is}
use Rattle.cache.proofs.Settled.{settled-refused, settled-done, fit_is, or-else-zero}
use Rattle.cache.proofs.Returns.Updating.{Long, table_below, table-read, update-read, table-there}

-- ---- a proposal

-- its table, whose number is read as i
pub its-table : (s : State) → sound_state s ≡ true → Long s → (update : ℕ) → update < s.update_count → (d : Update) (i : ℕ) → i ≡ (get_or s.updates update d).table → i < most_tables
its-table s h L update k d i e = subst (λ (j : ℕ). j < most_tables) (sym e) (table_below s h _ (table-there s h L update k d))

-- the rows that the update would insert, match or delete
pub rows-counted : (s : State) → sound_state s ≡ true → Long s → (update : ℕ) → update < s.update_count → (cells values : List ℤ) (d : Update) (e : Table) (i start : ℕ)
    → i ≡ (get_or s.updates update d).table → start ≡ areas_of (take i s.tables)
    → (change_of (get_or s.updates update d) (get_or s.tables i e) start cells values).count ≡ (would_do s cells update values).rows
unfolding would_do
rows-counted s h L update k cells values d e i start ei es =
    let u : Update = get_or s.updates update d in
    let et : get_or s.tables i e ≡ table_at s u.table = ap (λ (j : ℕ). get_or s.tables j e) ei ∙ table-read s h L.tables u.table e (table-there s h L update k d) in
    let ea : start ≡ area_start s u.table = es ∙ ap (λ (j : ℕ). areas_of (take j s.tables)) ei in
    ap₂ (λ (t : Table) (a : ℕ). (change_of u t a cells values).count) et ea
    ∙ ap (λ (v : Update). (change_of v (table_at s v.table) (area_start s v.table) cells values).count) (update-read s h L update k d)

module _ (s : State) (cells : List ℤ) (memory : List ℕ) (update : ℕ) (values : List ℤ) (n : ℕ) (en : n ≡ update_refusal s (lengths_lent cells memory) update (length values)) where
  pub propose-refused : (r : Refusal) → n ≡ number_of r → proposed_as (Err r) s ≡ propose_of s cells memory update values
  unfolding propose_of
  propose-refused r e =
      ap (propose_refused s) (sym e ∙ en) ∙ settled-refused (update_refusal s (lengths_lent cells memory) update (length values)) _ _ (λ z. numbered r (sym e ∙ en ∙ z))

  pub propose-done : n ≡ 0 → (rows : ℕ) → rows ≡ (would_do s cells update values).rows → (m : Note) → m ≡ note_of update values → (p : Pending) → p ≡ pending_of (Some m)
      → proposed_as (Ok (record { rows = rows })) (record s { pending = p }) ≡ propose_of s cells memory update values
  unfolding propose_of would_do with_note
  propose-done z rows er m em p ep =
      (λ j. record { refusal = 0; rows = er j; state = record s { pending = (ep ∙ ap (λ (x : Note). pending_of (Some x)) em) j } })
      ∙ settled-done (update_refusal s (lengths_lent cells memory) update (length values)) _ _ (sym en ∙ z)

-- ---- the note

module _ (s : State) (l : Lengths) where
  pub note-unfit : unfit s l ≡ true → pending_refusal s l ≡ 2
  unfolding pending_refusal
  note-unfit f = rw f

  module _ (f : unfit s l ≡ false) where
    note-missing : note_in s ≡ None → pending_refusal s l ≡ 17
    unfolding pending_refusal
    note-missing e = rw (f, e)

    note-there : (n : Note) → note_in s ≡ Some n → pending_refusal s l ≡ 0
    unfolding pending_refusal
    note-there n e = rw (f, e)

    pub notes-asked : (r : Result Note Refusal) → r ≡ ok_or (note_in s) R.Note → NotesOr s l r
    notes-asked = go (note_in s) refl
      where
        go : (p : Option Note) → note_in s ≡ p → (r : Result Note Refusal) → r ≡ ok_or p R.Note → NotesOr s l r
        go None e r h = subst (λ (x : Result Note Refusal). NotesOr s l x) (sym h) (note-missing e)
        go (Some n) e r h = subst (λ (x : Result Note Refusal). NotesOr s l x) (sym h) (note-there n e, e)

  pub notes-exit : (r : Result Note Refusal) (x : Refusal) → IsErrAnd r (λ (y : Refusal). y ≡ x) → number_of x ≡ pending_refusal s l → NotesOr s l r
  notes-exit (Ok n) x h e = absurd h
  notes-exit (Err y) x h e = sym e ∙ ap number_of (sym h)

  -- where it is not refused, the note is one that 10 to 12 let pass
  pub note-taken : pending_refusal s l ≡ 0 → (n : Note) → note_in s ≡ Some n → Takes s l.cells n.update
  unfolding pending_refusal
  note-taken z n e =
      let F = fit_is s l (or-else-zero (unfit s l) 2 _ (lit< tt) z).0 in
      record { sound = F.sound; cells_are = F.cells_are; there = ((sound-is s F.sound).note n e).there }

-- ---- a commit

module _ (s : State) (cells : List ℤ) (memory : List ℕ) where
  abbrev refusal : ℕ
  refusal = pending_refusal s (lengths_lent cells memory)

  pub commit-refused : (r : Refusal) → refusal ≡ number_of r → update_gives (update_refused s (number_of r)) cells ≡ commit_of s cells memory
  unfolding commit_of
  commit-refused r e = ap (λ (n : ℕ). update_gives (update_refused s n) cells) (sym e) ∙ settled-refused refusal _ _ (λ z. numbered r (sym e ∙ z))

  pub commit-made : refusal ≡ 0 → (n : Note) → note_in s ≡ Some n → (i : ℕ) → i ≡ n.update → (values : List ℤ) → values ≡ (note_read n).values → (r : Updates)
      → r ≡ update_done s cells (update_at s i) values → r ≡ commit_of s cells memory
  unfolding commit_of
  commit-made z n e i ei values ev r h =
      h
      ∙ ap₂ (λ (k : ℕ) (vs : List ℤ). update_done s cells (update_at s k) vs) ei ev
      ∙ ap (commit_done s cells) (sym e)
      ∙ settled-done refusal _ _ z

-- ---- a withdrawal

module _ (s : State) (l : Lengths) (P : Note → Unit → Type 0) where
  pub withdraw-done : (t : Result Note Refusal) → NotesOr s l t → (r : Result Unit Refusal) → MatchResult t (λ x. IsOkAnd r (λ y. P x y)) (λ e. r ≡ Err e) → is_ok r ≡ true
      → (p : Pending) → p ≡ pending_of None → flushed_as r (record s { pending = p }) ≡ withdraw_of s l
  unfolding withdraw_of with_note
  withdraw-done (Ok n) N (Ok u) m h p e = (λ j. record { refusal = 0; state = record s { pending = e j } }) ∙ settled-done (pending_refusal s l) _ _ N.0
  withdraw-done (Ok n) N (Err x) m h p e = absurd m
  withdraw-done (Err y) N (Ok u) m h p e = absurd (cc)
  withdraw-done (Err y) N (Err x) m h p e = absurd (cc)

  pub withdraw-refused : (t : Result Note Refusal) → NotesOr s l t → (r : Result Unit Refusal) → MatchResult t (λ x. IsOkAnd r (λ y. P x y)) (λ e. r ≡ Err e) → is_ok r ≡ false
      → flushed_as r s ≡ withdraw_of s l
  unfolding withdraw_of
  withdraw-refused (Ok n) N (Ok u) m h = absurd (cc)
  withdraw-refused (Ok n) N (Err e) m h = absurd m
  withdraw-refused (Err e) N (Ok u) m h = absurd (cc)
  withdraw-refused (Err e) N (Err x) m h =
      let q : number_of x ≡ pending_refusal s l = ap number_in m ∙ sym N in
      ap (λ (k : ℕ). record { refusal = k; state = s }) q ∙ settled-refused (pending_refusal s l) _ _ (λ z. numbered x (q ∙ z))
