-- A question whose answer is not kept gets from a sound state what it gets from the plain store. Assumes nothing.
use mathlib.Core.Path.{◌≡◌, refl, sym, ap, ap₂, ◌∙◌, subst}
use mathlib.Core.Logic.{◌≢◌}
use mathlib.Core.Bool.{Bool, true, false, not, cond}
use mathlib.Core.Option.{Option, none, some}
use mathlib.Core.List.{List}
use Prim.Native.Nat.{ℕ, zero, suc, ◌+◌, ◌*◌, ◌<◌}
use borrow.Author.Tests.{leb-false}
use lib.Dec.{eqb, leb, ltb}
use lib.IntN.{ℤ}
use lib.ListN.{length}
use Rattle.meaning.specs.Key.{Key}
use Rattle.meaning.specs.Statement.{Second}
use Rattle.meaning.specs.Meaning.{Row, answer}
use Rattle.meaning.specs.Record.{encode}
use Rattle.meaning.specs.Plain as P
use Rattle.meaning.specs.Plain.{Plain, record_of, Out, refused, answered, guard, refusal}
use Rattle.meaning.specs.Refusals.{is_short, is_many, new_conditions, or_else, lowest_of, settled}
use Rattle.meaning.specs.Call.{ask}
use Rattle.lists.specs.Lists.{All, keep, pairs}
use Rattle.meaning.proofs.Accepted.{key-asked}
use Rattle.meaning.proofs.Outer.{skipped-pairs}
use Rattle.trace.specs.Private.Model.{ask_refusal as plain_refusal, new_refusal as plain_new}
use Rattle.trace.proofs.Laws.{first_of, ask-refusal}
use Rattle.statement.specs.Sound.{second_read, AgreesQuery}
use Rattle.table.specs.Rows.{passes_stored}
use Rattle.table.proofs.Means.{answer-means, record-means}
use Rattle.table.proofs.Outer.{passes-means, used-wide}
use Rattle.slots.specs.Keys.{Found, key_of}
use Rattle.std.specs.Prelude.{Some, None}
use Rattle.slots.specs.declared.SlotList.{SlotList}
use Rattle.slots.specs.declared.Key.{Key as Stored}
use Rattle.slots.specs.Order.{last_taken}
use Rattle.cache.specs.declared.State.{State}
use Rattle.cache.specs.Sound.{query_at, table_at}
use Rattle.cache.specs.SoundTest.{sound_state}
use Rattle.cache.specs.Means.{Means, Typed}
use Rattle.cache.specs.Calls.{Asks, cached_length, area_start, rows_at, rows_over, rows_for, record_at, too_many, found_in}
use Rattle.cache.specs.Gives.{ask_of, ask_gives, ask_refused, ask_refusal, with_cache, takes_slot, put_in, kept, read_over, read_for, new_refusal, newly, ask_new, ask_found}
use Rattle.cache.specs.Run.{Store, lent_by, step_ask, step}
use Rattle.cache.proofs.Invariant.Sound.{Sound, sound-is}
use Rattle.cache.proofs.Refinement.Standing.{query-table, SecondThere, sound-second, StartsBehind, second-starts}
use Rattle.cache.proofs.Refinement.StoodFor.{table-at, query-count, query-agrees}
use Rattle.cache.proofs.Claims.Refusals.{found_number}
use Rattle.cache.proofs.Refinement.Refused.{Same, settled_same, same-else, unfit-is}

-- other kept answers, the same plain store
pub cache-means : (s : State) (cells : List ℤ) (p : Plain) → Means s cells p → (slots : SlotList) (keys : List Stored) (sizes : List ℕ)
    → Means (with_cache s slots keys sizes) cells p
unfolding with_cache
cache-means s cells p m slots keys sizes = record {
  cells_are = m.cells_are;
  memory_is = m.memory_is;
  tables_are = m.tables_are;
  queries_are = m.queries_are;
  updates_are = m.updates_are;
  note_is = m.note_is;
}

kept-means : (s : State) (cells : List ℤ) (p : Plain) → Means s cells p → (k : Stored) (r : List ℕ) → Means (kept s k r) cells p
unfolding kept
kept-means s cells p m k r = go (takes_slot s.slots s.slot_bytes r)
  where
    go : (b : Bool) → Means (cond b (put_in s k r (last_taken s.slots)) s) cells p
    go true = cache-means s cells p m _ _ _
    go false = m

-- ---- the record, on a state that stands for the plain store

module _ (s : State) (T : Typed s) (S : Sound s) (cells : List ℤ) (p : Plain) (m : Means s cells p) (n : ℕ) (there : n < s.query_count) where
  agrees : AgreesQuery (query_at s n) (P.query_at p n)
  agrees = query-agrees s T S cells p m n there

  -- the rows of a table in use are the plain store's
  rows-there : (i : ℕ) → i < s.table_count → rows_at s cells i ≡ P.rows_at p.tables i
  rows-there i h = ap (λ (t : P.Table). t.rows) (sym (table-at s T S cells p m i h))

  first_rows : rows_at s cells (query_at s n).table ≡ P.rows_at p.tables (P.query_at p n).table
  first_rows = rows-there (query_at s n).table (query-table s T S n there) ∙ ap (P.rows_at p.tables) agrees.table_is

  -- and so is what it lists of those that it is over, one table or two (A.6: a first-table row that does not pass has no pair in it), and how many it reads
  module _ (vs : List ℤ) where
    over-same : (o : Option Second) → second_read (query_at s n) ≡ o → SecondThere s o → StartsBehind s (query_at s n).table o
        → (answer (P.query_at p n) vs (rows_over s cells (query_at s n) vs o) ≡ answer (P.query_at p n) vs (P.rows_over p.tables (P.query_at p n) o))
        × (read_over s cells (query_at s n) vs o ≡ P.rows_read_over p.tables (P.query_at p n) vs o)
    over-same none e h b = (ap (answer (P.query_at p n) vs) first_rows, ap length first_rows)
    over-same (some t) e h b =
        let second : rows_at s cells t.table ≡ P.rows_at p.tables t.table = rows-there t.table h in
        let same : (r : Row) → passes_stored (query_at s n) vs r ≡ P.passes_first (P.query_at p n) t vs r =
        passes-means (query_at s n) (P.query_at p n) agrees t (sym agrees.second_is ∙ e) vs in
        let kept : keep (passes_stored (query_at s n) vs) (rows_at s cells (query_at s n).table) ≡ keep (P.passes_first (P.query_at p n) t vs) (P.rows_at p.tables (P.query_at p n).table) =
        (λ i. keep (λ (r : Row). same r i) (first_rows i)) in
        let wide : All (λ (r : Row). length r ≡ t.start) (P.rows_at p.tables (P.query_at p n).table) =
        subst (All (λ (r : Row). length r ≡ t.start)) first_rows
        (subst (λ (k : ℕ). All (λ (r : Row). length r ≡ k) (rows_at s cells (query_at s n).table)) (sym b)
        (used-wide (table_at s (query_at s n).table) (area_start s (query_at s n).table) cells)) in (
          ap (answer (P.query_at p n) vs) (ap₂ pairs kept second)
              ∙ skipped-pairs (P.query_at p n) t vs (P.rows_at p.tables (P.query_at p n).table) (P.rows_at p.tables t.table) wide,
          (λ i. length (first_rows i) + length (kept i) * length (second i)),
        )

    abbrev other : Option Second
    other = second_read (query_at s n)

    both-same : (answer (P.query_at p n) vs (rows_for s cells (query_at s n) vs) ≡ answer (P.query_at p n) vs (P.rows_over p.tables (P.query_at p n) other))
        × (read_for s cells (query_at s n) vs ≡ P.rows_read_over p.tables (P.query_at p n) vs other)
    both-same = over-same other refl (sound-second s T S n there) (second-starts s T S n there)

    pub listed-asked : answer (P.query_at p n) vs (rows_for s cells (query_at s n) vs) ≡ answer (P.query_at p n) vs (P.rows_for p (P.query_at p n))
    listed-asked = both-same.0 ∙ ap (λ (o : Option Second). answer (P.query_at p n) vs (P.rows_over p.tables (P.query_at p n) o)) agrees.second_is

    pub read_asked : read_for s cells (query_at s n) vs ≡ P.rows_read p (record { query = n; values = vs })
    read_asked = both-same.1 ∙ ap (P.rows_read_over p.tables (P.query_at p n) vs) agrees.second_is

  -- and so is the record
  pub record_is : (vs : List ℤ) → record_at s cells n vs ≡ record_of p (record { query = n; values = vs })
  unfolding record_at record_of
  record_is vs =
      record-means (query_at s n) (P.query_at p n) agrees vs (rows_for s cells (query_at s n) vs)
      ∙ ap (encode (length (P.query_at p n).selected)) (listed-asked vs)

  -- and whether it has too many rows
  pub many_is : (vs : List ℤ) → too_many s cells n vs ≡ P.too_many p (record { query = n; values = vs })
  unfolding too_many P.too_many
  many_is vs =
      ap (λ (l : List Row). is_many (length l))
      (answer-means (query_at s n) (P.query_at p n) agrees vs (rows_for s cells (query_at s n) vs) ∙ listed-asked vs)

-- ---- the whole call

-- a call that has two numbers, one after the other
guard-first : {A B : Type 0} (m n : ℕ) (s : A) (f : ℕ → B) (done : A × B) → guard m s f (guard n s f done) ≡ guard (first_of m n) s f done
guard-first zero n s f done = refl
guard-first (suc m) n s f done = refl

module _ (s : Store) (p : Plain) (T : Typed s.state) (h : sound_state s.state ≡ true) (m : Means s.state s.cells p)
    (key : Key) (buffer : List ℕ) where
  S : Sound s.state
  S = sound-is s.state h

  -- the numbers but 13
  pub ask-number : ask_refusal s.state (lent_by s) key.query (length key.values) ≡ plain_refusal (lent_by s) p key
  unfolding ask_refusal
  ask-number =
      let count : length p.queries ≡ s.state.query_count = query-count s.state T S s.cells p m in
      same-else 2 _ _ _ _ (unfit-is s.state s.cells p h m (lent_by s))
      (λ a. same-else 10 (leb s.state.query_count key.query) _ _ _ (ap (λ k. leb k key.query) (sym count))
      (λ b. ap (λ k. or_else (not (eqb (length key.values) k)) 11 0)
      (query-agrees s.state T S s.cells p m key.query
      (subst (λ k. key.query < k) count (leb-false (length p.queries) key.query b))).parameters_are))

  -- 16 and 13
  pub new-number : key.query < s.state.query_count → new_refusal s.state s.cells (length buffer) key.query key.values ≡ plain_new p key (length buffer)
  unfolding new_refusal
  new-number there =
      ap₂ (λ (many : Bool) (r : List ℕ). lowest_of (new_conditions many (is_short (length buffer) (length r))))
      (many_is s.state T S s.cells p m key.query there key.values) (record_is s.state T S s.cells p m key.query there key.values)

  -- 16, 13, or a new answer
  new-same : key.query < s.state.query_count → Same buffer (step_ask s (ask_new s.state s.cells s.memory buffer key.query key.values))
      (guard (plain_new p key (length buffer)) p refused (p, answered (record_of p key)))
  unfolding ask_new
  new-same there =
      settled_same (step_ask s) (newly s.state s.cells s.memory buffer key.query key.values) (λ k. ask_gives (ask_refused s.state k) s.memory buffer) buffer s p
      (p, answered (record_of p key)) m (λ k. refl) _ _ (new-number there)
      (λ z. subst (λ r. Same buffer (step_ask s (newly s.state s.cells s.memory buffer key.query key.values)) (p, answered r))
      (record_is s.state T S s.cells p m key.query there key.values)
      (refl, kept-means s.state s.cells p m (key_of key.query key.values) (record_at s.state s.cells key.query key.values)))

  abbrev found : Found → Asks
  found f = ask_found f s.state s.cells s.memory buffer key.query key.values

  abbrev answered_plain : Plain × Out
  answered_plain = guard (plain_new p key (length buffer)) p refused (p, answered (record_of p key))

  -- refused before the answer is looked for, or by what is found
  ask-by : (plain_refusal (lent_by s) p key ≡ 0 → Same buffer (step_ask s (found (found_in s.state key.query key.values))) answered_plain)
      → Same buffer (step s (ask key buffer)) (P.step (lent_by s) p (ask key (length buffer)))
  unfolding step ask_of
  ask-by d =
      subst (Same buffer (step s (ask key buffer)))
      (guard-first (plain_refusal (lent_by s) p key) (plain_new p key (length buffer)) p refused (p, answered (record_of p key))
      ∙ ap (λ k. guard k p refused (p, answered (record_of p key))) (sym (ask-refusal (lent_by s) p key (length buffer))))
      (settled_same (step_ask s) (found (found_in s.state key.query key.values)) (λ k. ask_gives (ask_refused s.state k) s.memory buffer) buffer s p answered_plain m (λ k. refl) _ _ ask-number d)

  -- no slot holds it
  pub ask-same : found_in s.state key.query key.values ≡ None → Same buffer (step s (ask key buffer)) (P.step (lent_by s) p (ask key (length buffer)))
  ask-same anew =
      ask-by (λ z. subst (λ f. Same buffer (step_ask s (found f)) answered_plain) (sym anew)
      (new-same (subst (λ k. key.query < k) (query-count s.state T S s.cells p m) (key-asked (lent_by s) p key z).there)))

  -- a held answer is refused by 13 alone
  held-short : (i : ℕ) → (found (Some i)).result.refusal ≢ 0 → (found (Some i)).result.refusal ≢ 13 → ⊥
  held-short i = go (ltb (length buffer) (cached_length s.state i)) (found_number s key buffer (Some i))
    where
      go : (b : Bool) → (found (Some i)).result.refusal ≡ or_else b 13 0 → (found (Some i)).result.refusal ≢ 0 → (found (Some i)).result.refusal ≢ 13 → ⊥
      go true e a c = c e
      go false e a c = a e

  refused-by : (i : ℕ) → found_in s.state key.query key.values ≡ Some i → plain_refusal (lent_by s) p key ≡ 0
      → (step s (ask key buffer)).1.got.refusal ≡ (found (Some i)).result.refusal
  unfolding step ask_of settled
  refused-by i e z =
      ap (λ k. (step_ask s (settled k (found (found_in s.state key.query key.values)) (ask_gives (ask_refused s.state k) s.memory buffer))).1.got.refusal) (ask-number ∙ z)
      ∙ ap (λ f. (found f).result.refusal) e

  -- a number other than 13 is given before that, or of an answer worked out
  pub ask-refused-same : (step s (ask key buffer)).1.got.refusal ≢ 0 → (step s (ask key buffer)).1.got.refusal ≢ 13
      → Same buffer (step s (ask key buffer)) (P.step (lent_by s) p (ask key (length buffer)))
  ask-refused-same a b = go (found_in s.state key.query key.values) refl
    where
      go : (f : Found) → found_in s.state key.query key.values ≡ f → Same buffer (step s (ask key buffer)) (P.step (lent_by s) p (ask key (length buffer)))
      go None e = ask-same e
      go (Some i) e = ask-by (λ z. absurd (held-short i (λ k. a (refused-by i e z ∙ k)) (λ k. b (refused-by i e z ∙ k))))
