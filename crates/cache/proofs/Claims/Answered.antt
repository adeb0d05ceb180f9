-- A question that is answered on a sound state: new, its record reads back as the rows that Meaning lists, and the rows of its table are read; kept, it is its slot's
-- bytes. Assumes nothing.
use mathlib.Core.Path.{◌≡◌, refl, sym, ap, ◌∙◌, subst}
use mathlib.Core.Logic.{◌≢◌, ◌⊎◌, inl, inr}
use mathlib.Core.Bool.{Bool, true, false, cond}
use mathlib.Core.Option.{Option, none, some}
use mathlib.Core.List.{List, [], ◌++◌}
use Prim.Native.Nat.{ℕ, zero, suc, ◌+◌, ◌<◌}
use native.Mathlib.Omega.{arith}
use borrow.Author.Tests.{ltb-false}
use lib.Dec.{leb, ltb}
use lib.IntN.{ℤ}
use lib.ListN.{length, get_or, drop}
use Rattle.lists.specs.Lists.{All, nil, cons, keep, turned, written}
use Rattle.lists.proofs.Lists.{All-take, All-drop, All-keep}
use Rattle.lists.proofs.Turned.{All-turned}
use Rattle.meaning.specs.Key.{Key}
use Rattle.meaning.specs.Limits.{most_listed}
use Rattle.meaning.specs.Statement.{Second}
use Rattle.meaning.specs.Cells.{rows_in}
use Rattle.meaning.specs.Meaning.{Row, answer}
use Rattle.meaning.specs.Record.{encode, ReadsBack}
use Rattle.meaning.specs.Plain.{rows_listed, Plain, record_of}
use Rattle.meaning.specs.Call.{ask, Is32}
use Rattle.meaning.specs.Plain as P
use Rattle.meaning.specs.Refusals.{or_else, settled}
use Rattle.meaning.proofs.Accepted.{Asked, key-asked}
use Rattle.meaning.proofs.Record.{record_reads_back}
use Rattle.meaning.proofs.Within32.{Row32, answer-rows, pairs-32}
use Rattle.statement.specs.Sound.{second_read, AgreesQuery}
use Rattle.statement.proofs.SoundQuery.{query-parts}
use Rattle.statement.specs.declared.Query.{Query}
use Rattle.table.specs.Rows.{row_cells, area_rows, passes_stored}
use Rattle.table.proofs.Means.{answer-means}
use Rattle.slots.specs.Keys.{Found, key_of, slot_has}
use Rattle.std.specs.Prelude.{Some, None}
use Rattle.slots.specs.Order.{front_of}
use Rattle.slots.proofs.KeyLaws.{key-few, has_key, found_at, found_inside}
use Rattle.cache.specs.declared.State.{State}
use Rattle.cache.specs.Sound.{query_at, table_at}
use Rattle.cache.specs.SoundTest.{sound_state}
use Rattle.cache.specs.Means.{Means, Typed}
use Rattle.cache.specs.Calls.{area_start, Asks, bytes_at, rows_at, rows_over, rows_for, too_many, found_in}
use Rattle.cache.specs.Gives.{ask_of, ask_gives, ask_refused, ask_refusal, with_cache, cached_refusal, from_cache, ask_cached, new_refusal, newly, ask_new, ask_found}
use Rattle.cache.specs.Run.{Store, Seen, lent_by, step_ask, step}
use Rattle.cache.specs.Demand.{NewAnswer, ItsSlotsBytes, KeptAnswer, KeptMovesOrder}
use Rattle.cache.proofs.Invariant.Sound.{Sound, sound-is, query-at}
use Rattle.cache.proofs.Refinement.Standing.{stands_for_plain}
use Rattle.cache.proofs.Refinement.StoodFor.{query-agrees}
use Rattle.cache.proofs.Refinement.Asking.{listed-asked, read_asked, record_is, ask-number}
use Rattle.cache.proofs.Refinement.CallsOfModel.{there, few-values, place}

-- ---- what an answer is, kept or new

module _ (s : Store) (k : Key) (buffer : List ℕ) where
  abbrev st : State
  st = s.state

  abbrev number : ℕ
  number = ask_refusal st (lent_by s) k.query (length k.values)

  abbrev found : Found
  found = found_in st k.query k.values

  abbrev Answered : Store × Seen → Type 0
  Answered r = (number ≡ 0)
      × (((i : ℕ) × (found ≡ Some i) × (r ≡ step_ask s (from_cache st s.memory buffer i)))
      ⊎ ((found ≡ None) × (new_refusal st s.cells (length buffer) k.query k.values ≡ 0) × (r ≡ step_ask s (newly st s.cells s.memory buffer k.query k.values))))

  -- 16, 13, or done
  not-refused : (n : ℕ) (r : Asks) → (step_ask s (settled n r (ask_gives (ask_refused st n) s.memory buffer))).1.got.refusal ≡ 0
      → (n ≡ 0) × (step_ask s (settled n r (ask_gives (ask_refused st n) s.memory buffer)) ≡ step_ask s r)
  unfolding settled
  not-refused zero r z = (refl, refl)
  not-refused (suc n) r z = absurd (omega arith)

  answered : (step s (ask k buffer)).1.got.refusal ≡ 0 → Answered (step s (ask k buffer))
  unfolding step ask_of settled ask_cached ask_new
  answered = go number refl found refl
    where
      by : ℕ → Found → Store × Seen
      by n f = step_ask s (settled n (ask_found f st s.cells s.memory buffer k.query k.values) (ask_gives (ask_refused st n) s.memory buffer))

      go : (n : ℕ) → number ≡ n → (f : Found) → found ≡ f → (by n f).1.got.refusal ≡ 0 → Answered (by n f)
      go zero e (Some i) g z = (e, inl (i, g, (not-refused (cached_refusal st (length buffer) i) (from_cache st s.memory buffer i) z).1))
      go zero e None g z =
          let d = not-refused (new_refusal st s.cells (length buffer) k.query k.values) (newly st s.cells s.memory buffer k.query k.values) z in
          (e, inr (g, d.0, d.1))
      go (suc n) e f g z = absurd (omega arith)

-- ---- a new one

-- rows in cells of 32 bits have 32 bits
in-32 : (c n : ℕ) (l : List ℤ) → All Is32 l → All Row32 (rows_in c n l)
in-32 c zero l h = nil
in-32 c (suc n) l h = cons (All-take c h) (in-32 c n (drop c l) (All-drop c h))

rows-32 : (s : State) (cells : List ℤ) (i : ℕ) → All Is32 cells → All Row32 (rows_at s cells i)
rows-32 s cells i h = go (leb (area_start s i + row_cells (table_at s i)) (length cells))
  where
    go : (b : Bool) → All Row32 (cond b (turned (table_at s i).oldest (area_rows (table_at s i).count (table_at s i).rows (drop (area_start s i) cells))) [])
    go true = All-turned (table_at s i).oldest (in-32 (table_at s i).count (table_at s i).rows (drop (area_start s i) cells) (All-drop (area_start s i) h))
    go false = nil

over-32 : (s : State) (cells : List ℤ) (q : Query) (vs : List ℤ) (o : Option Second) → All Is32 cells → All Row32 (rows_over s cells q vs o)
over-32 s cells q vs none h = rows-32 s cells q.table h
over-32 s cells q vs (some t) h =
    pairs-32 (keep (passes_stored q vs) (rows_at s cells q.table)) (rows_at s cells t.table) (All-keep (passes_stored q vs) (λ r e k. e) (rows-32 s cells q.table h))
    (rows-32 s cells t.table h)

module _ (s : Store) (p : Plain) (T : Typed s.state) (h : sound_state s.state ≡ true) (m : Means s.state s.cells p) (small : All Is32 s.cells)
    (k : Key) (A : Asked (lent_by s) p k) where
  S : Sound s.state
  S = sound-is s.state h

  abbrev rows : List Row
  rows = rows_for s.state s.cells (query_at s.state k.query) k.values

  here : k.query < s.state.query_count
  here = there s p T h m k [] A

  agrees : AgreesQuery (query_at s.state k.query) (P.query_at p k.query)
  agrees = query-agrees s.state T S s.cells p m k.query here

  reads-back : too_many s.state s.cells k.query k.values ≡ false → (later : List ℕ) → ReadsBack (record_of p k ++ later) (length (P.query_at p k.query).selected) (rows_listed p k)
  unfolding record_of too_many
  reads-back few later =
      let q = P.query_at p k.query in
      let Q = query-parts _ (query_at s.state k.query) (query-at s.state T S k.query here) in
      let n : (query_at s.state k.query).count ≡ length q.selected = agrees.count_is in
      subst (λ (l : List Row). ReadsBack (encode (length q.selected) l ++ later) (length q.selected) l)
      (listed-asked s.state T S s.cells p m k.query here k.values)
      (record_reads_back (length q.selected) (answer q k.values rows) later (omega (arith, Q.some_selected)) (omega (arith, Q.few_selected))
      (ltb-false most_listed (length (answer q k.values rows))
      (ap (λ (l : List Row). ltb most_listed (length l)) (sym (answer-means (query_at s.state k.query) q agrees k.values rows)) ∙ few))
      (answer-rows q k.values rows
      (over-32 s.state s.cells (query_at s.state k.query) k.values (second_read (query_at s.state k.query)) small)))

-- a number of 0 is not 16
few-of : (many : Bool) (n : ℕ) → or_else many 16 n ≡ 0 → many ≡ false
few-of true n e = absurd (omega arith)
few-of false n e = refl

pub new_answer : NewAnswer
unfolding new_refusal
new_answer s p k buffer T h m small e z = go (answered s k buffer e)
  where
    go : Answered s k buffer (step s (ask k buffer))
        → ReadsBack (step s (ask k buffer)).1.got.answer (length (P.query_at p k.query).selected) (rows_listed p k)
        × ((step s (ask k buffer)).1.scanned ≡ P.rows_read p k)
    go (c, inl (i, f, r)) =
        let a : ◌≡◌ {A = ℕ} 0 1 = sym z ∙ ap (λ (x : Store × Seen). x.1.kept) r in
        absurd (omega arith)
    go (c, inr (f, y, r)) =
        let A : Asked (lent_by s) p k = key-asked (lent_by s) p k (sym (ask-number s p T h m k buffer) ∙ c) in
        let S : Sound s.state = sound-is s.state h in
        let l = here s p T h m small k A in (
          subst (λ (x : List ℕ). ReadsBack x (length (P.query_at p k.query).selected) (rows_listed p k))
              (sym (ap (λ (x : Store × Seen). x.1.got.answer) r ∙ ap (written buffer 0) (record_is s.state T S s.cells p m k.query l k.values)))
              (reads-back s p T h m small k A (few-of (too_many s.state s.cells k.query k.values) _ y) (drop (0 + length (record_of p k)) buffer)),
          ap (λ (x : Store × Seen). x.1.scanned) r ∙ read_asked s.state T S s.cells p m k.query l k.values,
        )

-- ---- a kept one

pub kept_answer : KeptAnswer
kept_answer s k buffer T h e z = go (answered s k buffer e)
  where
    go : Answered s k buffer (step s (ask k buffer)) → ItsSlotsBytes s k buffer (step s (ask k buffer)).1
    go (c, inl (i, f, r)) =
        let P = stands_for_plain s T h in
        let A : Asked (lent_by s) P.0 k = key-asked (lent_by s) P.0 k (sym (ask-number s P.0 T h P.1 k buffer) ∙ c) in
        let F = found_at s.state.keys s.state.slots (key_of k.query k.values) i f in
        let at : get_or s.state.slots.order i 0 ≡ F.slot = place s P.0 T h P.1 k buffer A i F in
        let few = few-values s P.0 T h P.1 k buffer A in
        record {
          slot = F.slot;
          held = (i, found_inside s.state.slots (slot_has s.state.keys (key_of k.query k.values)) i F, at);
          key_is = (has_key s.state.keys (key_of k.query k.values) F.slot F.has).1 ∙ key-few k.query k.values few;
          length_is = ap (λ (x : Store × Seen). x.1.got.size) r ∙ ap (λ (x : ℕ). get_or s.state.lengths x 0) at;
          answer_is = ap (λ (x : Store × Seen). x.1.got.answer) r ∙ ap (λ (x : ℕ). written buffer 0 (bytes_at s.state s.memory x)) at;
          none_read = ap (λ (x : Store × Seen). x.1.scanned) r;
        }
    go (c, inr (f, y, r)) = absurd (z (ap (λ (x : Store × Seen). x.1.kept) r))

-- what it leaves
abbrev MovesOrder : Store → Store → Type 0
MovesOrder s r = r ≡ record s { state = record s.state { slots = record s.state.slots { order = r.state.slots.order } } }

front-moves : (s : Store) (buffer : List ℕ) (i : ℕ) → MovesOrder s (step_ask s (from_cache s.state s.memory buffer i)).0
unfolding with_cache front_of
front-moves s buffer i = refl

pub kept_moves_order : KeptMovesOrder
kept_moves_order s k buffer e z = go (answered s k buffer e)
  where
    go : Answered s k buffer (step s (ask k buffer)) → MovesOrder s (step s (ask k buffer)).0
    go (c, inl (i, f, r)) = subst (λ (x : Store × Seen). MovesOrder s x.0) (sym r) (front-moves s buffer i)
    go (c, inr (f, y, r)) = absurd (z (ap (λ (x : Store × Seen). x.1.kept) r))
