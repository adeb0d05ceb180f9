-- The user's three demands, about the calls as the program makes them: `Gives` is what the contracts of the code say that it gives and leaves. Each claim stands below
-- its sentence, and is proved in proofs/Demand. Assumes nothing: these are definitions.
use Rattle.std.specs.Prelude.{◌≡◌, ◌≢◌, ◌⊎◌, ◌↔◌, true, false, not, cond, List, [], ◌∷◌, ◌++◌, map, ℕ, ◌+◌, ◌*◌, ◌≤◌, ◌<◌, ℤ, pos, nat_abs, length, take, get_or, replicate, sum_by, Some, None}
use Rattle.lists.specs.Lists.{All, any, keep, count, from, written}
use Rattle.lists.specs.Tests.{is_yes}
use Rattle.meaning.specs.Key.{Key, same_key}
use Rattle.meaning.specs.Demand.{Proposal, standing}
use Rattle.meaning.specs.Plain.{rows_listed, Plain, schemas, Opening, opening_refused, record_of, drops_key}
use Rattle.meaning.specs.Record.{ReadsBack}
use Rattle.meaning.specs.Limits.{WithinLimits}
use Rattle.meaning.specs.Call.{Call, add, ask, change, flush, propose, commit, withdraw, Is32, Call32}
use Rattle.meaning.specs.Refusals.{Conditions, kept_conditions, flush_conditions, is_short, Lowest}
use Rattle.meaning.specs.Tokens.{tokens}
use Rattle.meaning.specs.Grammar as G
use Rattle.meaning.specs.Grammar.{items, Sentence, spell}
use Rattle.meaning.specs.Names.{Schema, unknown_name, taken, miscounted, twice}
use Rattle.meaning.specs.Statement.{creates, asks, changes, statement_of}
use Rattle.meaning.specs.Plain as P
use Rattle.trace.specs.History.{Event, history, fits_slot, OneOf, keys_asked, Answered, hits, since, Filled, Ground}
use Rattle.statement.specs.Sound.{Passes}
use Rattle.slots.specs.Keys.{Found, key_read, slot_key, slots_of, held_slots}
use Rattle.cache.specs.declared.State.{State}
use Rattle.cache.specs.Sound.{lengths, opening, sizes_of, used_tables, schemas_in, areas_of, length_at, keys_in, OpeningWithin, IsSound, note_read, table_at, update_at, note_in, pending_of}
use Rattle.cache.specs.SoundTest.{sound_state}
use Rattle.cache.specs.Means.{tables_in, Means, Typed}
use Rattle.cache.specs.Calls.{unfit, add_conditions_in, ask_conditions, change_conditions, record_conditions, cached_length, bytes_at, found_in, pending_conditions}
use Rattle.cache.specs.Gives.{note_of}
use Rattle.cache.specs.declared.Note.{Note}
use Rattle.std.proofs.Math.Option.{Option, none, some}
use Rattle.cache.specs.Run.{Store, Start, opening_of, opened_by, opened, Got, Seen, lent_by, step, after, gets, plain_call, buffer_of, got_of, plain_after, plain_gets}

-- ---- Demand 1: "If a call brings a text, number, state or lent memory that the store can't take, it gives the refusal number of document 01 and changes nothing. Every
-- other call ends with its work done." That each call ends, and touches no place outside the lent memories, is what it means for the code to be proved.

-- the numbers that a call can get, each with its condition, on any state: the lists of `Refusals`. An answer that is held is judged by its own length alone: 16 is none of its numbers
abbrev pub answer_conditions : Store → Key → ℕ → Found → Conditions
answer_conditions s k buffer (Some p) = kept_conditions (is_short buffer (cached_length s.state p))
answer_conditions s k buffer None = record_conditions s.state s.cells buffer k.query k.values

abbrev pub conditions : Store → Call (List ℕ) → Conditions
conditions s (add text) = add_conditions_in s.state (lent_by s) text
conditions s (ask k buffer) =
    ask_conditions s.state (lent_by s) k.query (length k.values) ++ answer_conditions s k (length buffer) (found_in s.state k.query k.values)
conditions s (change n vs) = change_conditions s.state (lent_by s) n (length vs)
conditions s flush = flush_conditions (unfit s.state (lent_by s))
conditions s (propose n vs) = change_conditions s.state (lent_by s) n (length vs)
conditions s commit = pending_conditions s.state (lent_by s)
conditions s withdraw = pending_conditions s.state (lent_by s)

-- "The lowest number that applies is given, and only then." (`Refusals.Lowest`)
abbrev pub LowestNumber : Type 0
LowestNumber = (s : Store) (c : Call (List ℕ)) → Lowest (conditions s c) (step s c).1.got.refusal

-- a ring is never full (REFERENCE 4.8.2): neither an update of it nor a proposal gets 12; and no commit does, whatever its table, since 12 was looked for when it was proposed
abbrev pub RingsNeverFull : Type 0
RingsNeverFull = (s : Store) (n : ℕ) (vs : List ℤ)
    → ((table_at s.state (update_at s.state n).table).ring ≡ true → ((step s (change n vs)).1.got.refusal ≢ 12) × ((step s (propose n vs)).1.got.refusal ≢ 12))
    × ((step s commit).1.got.refusal ≢ 12)

-- "State and lent memories come back as they came, other results are 0"
abbrev pub refused_with : ℕ → List ℕ → Seen
refused_with n buffer = record {
  got = record { refusal = n; kind = 0; number = 0; size = 0; rows = 0; answer = buffer };
  kept = 0;
  scanned = 0;
  drops = 0;
}

abbrev pub RefusedChangesNothing : Type 0
RefusedChangesNothing = (s : Store) (c : Call (List ℕ)) → (step s c).1.got.refusal ≢ 0 → step s c ≡ (s, refused_with (step s c).1.got.refusal (buffer_of c))

-- ---- opening: "1: opening outside the limits, or slots × bytes over the kept memory", and no other number

abbrev pub OpensExactlyIf : Type 0
OpensExactlyIf = (o : Start) → ((opened_by o).result.refusal ≡ 0) ↔ OpeningWithin (opening_of o)

-- a state without tables, statements or kept answers, of these sizes: "The order of use is one list of slots, at first 0, 1, 2 and on."
pub record Fresh (s : State) (o : Opening) : Type 0 where
  pub no_tables : s.table_count ≡ 0
  pub no_queries : s.query_count ≡ 0
  pub no_updates : s.update_count ≡ 0
  pub none_held : s.slots.held ≡ 0
  pub sizes : sizes_of s ≡ o
  pub order : slots_of s.slots ≡ from 0 o.slots

-- "Opening fills both memories with zeros."
abbrev pub OpeningTaken : Type 0
OpeningTaken = (o : Start) → (opened_by o).result.refusal ≡ 0
    → Fresh (opened o).state (opening_of o)
    × ((opened o).cells ≡ replicate (length o.cells) (pos 0))
    × ((opened o).memory ≡ replicate (length o.memory) 0)

-- "State and lent memories come back as they came .. a refused opening gives a state without tables, statements, slots or memory, its bytes a slot 8."
abbrev pub OpeningRefused : Type 0
OpeningRefused = (o : Start) → (opened_by o).result.refusal ≢ 0
    → ((opened_by o).result.refusal ≡ 1)
    × Fresh (opened o).state (opening (lengths 0 0) 0 8)
    × ((opened o).cells ≡ o.cells)
    × ((opened o).memory ≡ o.memory)

-- ---- soundness: the test that every call makes is document 01's sentence; an opening, taken or refused, gives a sound state, and every call leaves a sound state sound

abbrev pub SoundExactlyIf : Type 0
SoundExactlyIf = (s : State) → Typed s → (sound_state s ≡ true) ↔ IsSound s

abbrev pub OpensSound : Type 0
OpensSound = (o : Start) → sound_state (opened o).state ≡ true

abbrev pub StaysSound : Type 0
StaysSound = (s : Store) (c : Call (List ℕ)) → Typed s.state → sound_state s.state ≡ true → sound_state (step s c).0.state ≡ true

-- ---- Demand 2: "A text is accepted exactly if no refusal condition of document 01 holds.", of the program's `add`, beside every state of its type

-- 9: "no table or statement place, or too few cells left"; what there has to be
abbrev pub HasPlace : State → Sentence → Type 0
HasPlace s (G.table t cs ring z) = (s.table_count < 8) × (areas_of (used_tables s) + length (items cs) * nat_abs z ≤ s.cells)
HasPlace s (G.select cs t w) = s.query_count < 16
HasPlace s (G.pair cs t u w) = s.query_count < 16
HasPlace s (G.insert t vs) = s.update_count < 16
HasPlace s (G.update t ss w) = s.update_count < 16
HasPlace s (G.delete t w) = s.update_count < 16

pub record Accepted (s : Store) (text : List ℕ) (x : Sentence) : Type 0 where
  -- 2
  pub sound : IsSound s.state
  pub cells_lent : length s.cells ≡ s.state.cells
  pub memory_lent : length s.memory ≡ s.state.memory
  -- 3
  pub short : length text ≤ 256
  -- 4
  pub spelled : tokens text ≡ spell x
  -- 5
  pub within : WithinLimits x
  -- 6, 7, 8, beside the tables that there are
  pub known : unknown_name (schemas_in s.state) x ≡ false
  pub fresh : taken (schemas_in s.state) x ≡ false
  pub counted : miscounted (schemas_in s.state) x ≡ false
  -- 15, "looked for after 8"
  pub different : twice x ≡ false
  -- 9
  pub place : HasPlace s.state x

abbrev pub AcceptedExactlyIf : Type 0
AcceptedExactlyIf = (s : Store) (text : List ℕ) → Typed s.state → ((step s (add text)).1.got.refusal ≡ 0) ↔ ((x : Sentence) × Accepted s text x)

-- ---- Demand 2, of every sound state, reached from an opening or not: there is a plain store that it stands for, whose tables and statements are those of sentences
-- that refusals 4 to 8 let pass. Every call but a question whose answer is kept gets on the state what it gets on that store; and what the call leaves stands for what the plain store is then, with its
-- note (A.8).

pub record FromSentences (p : Plain) : Type 0 where
  pub tables : (before : List Schema) (t : Schema) (behind : List Schema) → schemas p ≡ before ++ t ∷ behind
      → (x : Sentence) × Passes (before ++ behind) x × (statement_of (before ++ behind) x ≡ creates t)
  pub queries : All (λ q. (x : Sentence) × Passes (schemas p) x × (statement_of (schemas p) x ≡ asks q)) p.queries
  pub updates : All (λ u. (x : Sentence) × Passes (schemas p) x × (statement_of (schemas p) x ≡ changes u)) p.updates

abbrev pub StandsForPlain : Type 0
StandsForPlain = (s : Store) → Typed s.state → sound_state s.state ≡ true → (p : Plain) × Means s.state s.cells p × FromSentences p

-- no slot holds the answer, or the call is refused before that is looked for (of a held one 13 goes by the kept length)
abbrev pub Anew : Store → Call (List ℕ) → Type 0
Anew s (add text) = Unit {0}
Anew s (ask k buffer) = (found_in s.state k.query k.values ≡ None) ⊎ (((step s (ask k buffer)).1.got.refusal ≢ 0) × ((step s (ask k buffer)).1.got.refusal ≢ 13))
Anew s (change n vs) = Unit {0}
Anew s flush = Unit {0}
Anew s (propose n vs) = Unit {0}
Anew s commit = Unit {0}
Anew s withdraw = Unit {0}

abbrev pub DoesAsPlain : Type 0
DoesAsPlain = (s : Store) (c : Call (List ℕ)) (p : Plain) → Typed s.state → sound_state s.state ≡ true → Means s.state s.cells p → Anew s c
    → ((step s c).1.got ≡ got_of (buffer_of c) (P.step (lent_by s) p (plain_call c)).1)
    × Means (step s c).0.state (step s c).0.cells (P.step (lent_by s) p (plain_call c)).0

-- "A new answer .. holds exactly the rows, in order, that the SQL meaning set down there gives, and its record reads back as those rows", and the rows that it reads: on
-- every sound state. Cells have 32 bits, as their type says
abbrev pub NewAnswer : Type 0
NewAnswer = (s : Store) (p : Plain) (k : Key) (buffer : List ℕ) → Typed s.state → sound_state s.state ≡ true → Means s.state s.cells p → All Is32 s.cells
    → let r : Seen = (step s (ask k buffer)).1 in
    r.got.refusal ≡ 0 → r.kept ≡ 0
    → ReadsBack r.got.answer (length (P.query_at p k.query).selected) (rows_listed p k) × (r.scanned ≡ P.rows_read p k)

-- "In a sound state not reached from an opening, a kept answer is its slot's bytes.": those of the slot that has the key; no row is read
pub record ItsSlotsBytes (s : Store) (k : Key) (buffer : List ℕ) (r : Seen) : Type 0 where
  pub slot : ℕ
  pub held : (i : ℕ) × (i < s.state.slots.held) × (get_or s.state.slots.order i 0 ≡ slot)
  pub key_is : key_read (slot_key s.state.keys slot) ≡ k
  pub length_is : r.got.size ≡ length_at s.state slot
  pub answer_is : r.got.answer ≡ written buffer 0 (bytes_at s.state s.memory slot)
  pub none_read : r.scanned ≡ 0

abbrev pub KeptAnswer : Type 0
KeptAnswer = (s : Store) (k : Key) (buffer : List ℕ) → Typed s.state → sound_state s.state ≡ true
    → let r : Seen = (step s (ask k buffer)).1 in
    r.got.refusal ≡ 0 → r.kept ≢ 0 → ItsSlotsBytes s k buffer r

-- and of the store the order of use alone changes: tables, statements, the note, the keys and lengths of all answers, which slots are held, and both memories are as they were. Of every state
abbrev pub KeptMovesOrder : Type 0
KeptMovesOrder = (s : Store) (k : Key) (buffer : List ℕ)
    → let r : Store × Seen = step s (ask k buffer) in
    r.1.got.refusal ≡ 0 → r.1.kept ≢ 0 → r.0 ≡ record s { state = record s.state { slots = record s.state.slots { order = r.0.state.slots.order } } }

-- "The kept answers an update drops are exactly those matched by the patterns"; A.7: under its premises "a matched answer is dropped exactly if some row of 32-bit numbers .. through
-- the update, enters or leaves what the question takes, or is taken before and after and alters in a selected column" (`Plain.drops_key`, `Exact.drops`)
abbrev pub keys_held : Store → List Key
keys_held s = keys_in s.state

abbrev pub DropsExactlyMatched : Type 0
DropsExactlyMatched = (s : Store) (n : ℕ) (us : List ℤ) (p : Plain) → Typed s.state → sound_state s.state ≡ true → Means s.state s.cells p
    → (step s (change n us)).1.got.refusal ≡ 0
    → (keys_held (step s (change n us)).0 ≡ keep (λ (k : Key). not (drops_key p n us k)) (keys_held s))
    × ((step s (change n us)).1.drops ≡ count (drops_key p n us) (keys_held s))

-- and of a commit those that the update of the note drops at that time, with the note's values
abbrev pub CommitDropsExactlyMatched : Type 0
CommitDropsExactlyMatched = (s : Store) (x : P.Note) (p : Plain) → Typed s.state → sound_state s.state ≡ true → Means s.state s.cells p → p.pending ≡ some x
    → (step s commit).1.got.refusal ≡ 0
    → (keys_held (step s commit).0 ≡ keep (λ (k : Key). not (drops_key p x.update x.values k)) (keys_held s))
    × ((step s commit).1.drops ≡ count (drops_key p x.update x.values) (keys_held s))

-- "flush (drop every kept answer)"; "Drops put held slots first and free ones after, each in the order they had."
abbrev pub FlushDropsAll : Type 0
FlushDropsAll = (s : Store) → (step s flush).1.got.refusal ≡ 0 → (keys_held (step s flush).0 ≡ []) × ((step s flush).0.state.slots.order ≡ s.state.slots.order)

-- ---- On every sound state, reached from an opening or not: the order of use, and which answers are kept

-- the kept answers, the one used last in front: each with its key and its record
abbrev pub answers_held : Store → List (Key × List ℕ)
answers_held s = map (λ (x : ℕ). (key_read (slot_key s.state.keys x), bytes_at s.state s.memory x)) (held_slots s.state.slots)

-- (REFERENCE 6.3) an answer that is given, from a slot or worked out anew, comes to the front if its
-- record fits a slot; the others follow in the order that they had, and of more than there are slots the last one goes
abbrev pub with_used : State → Key → List ℕ → List (Key × List ℕ) → List (Key × List ℕ)
with_used s k r xs = cond (fits_slot s.slot_bytes r) (take s.slots.count ((k, r) ∷ keep (λ (x : Key × List ℕ). not (is_yes (same_key x.0 k))) xs)) xs

-- those of an update go that it drops, with their records, and the others keep their order
abbrev pub without_dropped : Plain → ℕ → List ℤ → List (Key × List ℕ) → List (Key × List ℕ)
without_dropped p n us xs = keep (λ (x : Key × List ℕ). not (drops_key p n us x.0)) xs

abbrev pub without_noted : Plain → Option P.Note → List (Key × List ℕ) → List (Key × List ℕ)
without_noted p none xs = xs
without_noted p (some x) xs = without_dropped p x.update x.values xs

-- the answers kept after a call that is taken: a text, a proposal and a withdrawal leave them, records and order; the record of a question is what it got
abbrev pub answers_after : Store → Plain → Call (List ℕ) → Got → List (Key × List ℕ)
answers_after s p (add text) g = answers_held s
answers_after s p (ask k buffer) g = with_used s.state k (take g.size g.answer) (answers_held s)
answers_after s p (change n us) g = without_dropped p n us (answers_held s)
answers_after s p flush g = []
answers_after s p (propose n us) g = answers_held s
answers_after s p commit g = without_noted p p.pending (answers_held s)
answers_after s p withdraw g = answers_held s

abbrev pub OrderOfUse : Type 0
OrderOfUse = (s : Store) (c : Call (List ℕ)) (p : Plain) → Typed s.state → sound_state s.state ≡ true → Means s.state s.cells p → (step s c).1.got.refusal ≡ 0
    → answers_held (step s c).0 ≡ answers_after s p c (step s c).1.got

-- ---- Demand 3: "For every opening and every list of calls after it (adding, asking, updating, flushing), refused ones included, each given the state that the last one
-- returned and the opening's memories as it left them, which only the store writes: every call gets the refusal number, the statement's kind and number, the record and
-- the count of rows inserted, matched or deleted that the same call gets from the plain store of document 01, which keeps no answer, and after the list the tables hold
-- the same rows as that store's." A.8: "All three calls join the list of demand 3, where the proposed count is compared as well, and the plain store holds the note by the same rules."

-- The values of a call have 32 bits, as their type says (`Call32`): of the calls of a list, where a claim needs it, and never of the one after them.

abbrev pub SameAsPlain : Type 0
SameAsPlain = (o : Start) (cs : List (Call (List ℕ))) → All Call32 cs
    → (map (λ (x : Seen). x.got) (gets (opened o) cs) ≡ plain_gets (opening_of o).lent (P.opened (opening_of o)) cs)
    × (tables_in (after (opened o) cs).state (after (opened o) cs).cells ≡ (plain_after o cs).tables)

-- "In every such list a question with its values is worked out anew only if it was never answered since opening, its record doesn't fit a slot, a matching update or a
-- flush came since its last answer, or at least as many different others as there are slots were answered since." The number of slots is the opening's, 0 if it was
-- refused. A.7: "Such a question is then worked out anew for such an update only where this rule drops it, or would if it were kept.": an update is a ground by `Plain.drops_key` alone.

abbrev pub slot_count : Start → ℕ
slot_count o = cond (opening_refused (opening_of o)) 0 o.slots

abbrev pub slot_size : Start → ℕ
slot_size o = cond (opening_refused (opening_of o)) 8 o.slot_bytes

abbrev pub history_of : Start → List (Call (List ℕ)) → List (Event Key)
history_of o cs = history (opening_of o).lent (P.opened (opening_of o)) (map plain_call cs)

abbrev pub next_ask : Start → List (Call (List ℕ)) → Key → List ℕ → Seen
next_ask o cs k buffer = (step (after (opened o) cs) (ask k buffer)).1

abbrev pub AnewOnlyIf : Type 0
AnewOnlyIf = (o : Start) (cs : List (Call (List ℕ))) → All Call32 cs → (k : Key) (buffer : List ℕ) → (next_ask o cs k buffer).got.refusal ≡ 0 → (next_ask o cs k buffer).kept ≡ 0
    → Ground same_key (slot_count o) (slot_size o) (record_of (plain_after o cs) k) k (history_of o cs)

-- All of demand 3, as one claim about the whole list
pub record Demand3 (o : Start) (cs : List (Call (List ℕ))) : Type 0 where
  -- "every call gets the refusal number, the statement's kind and number, the record and the count of rows inserted, matched or deleted that the same call gets from the
  -- plain store of document 01, which keeps no answer"
  pub same : map (λ (x : Seen). x.got) (gets (opened o) cs) ≡ plain_gets (opening_of o).lent (P.opened (opening_of o)) cs
  -- "and after the list the tables hold the same rows as that store's"
  pub tables : tables_in (after (opened o) cs).state (after (opened o) cs).cells ≡ (plain_after o cs).tables
  -- "In every such list a question with its values is worked out anew only if ..": each question of the list, behind the calls before it
  pub anew : (before : List (Call (List ℕ))) (k : Key) (buffer : List ℕ) (behind : List (Call (List ℕ))) → cs ≡ before ++ ask k buffer ∷ behind
      → (next_ask o before k buffer).got.refusal ≡ 0 → (next_ask o before k buffer).kept ≡ 0
      → Ground same_key (slot_count o) (slot_size o) (record_of (plain_after o before) k) k (history_of o before)

abbrev pub ThirdDemand : Type 0
ThirdDemand = (o : Start) (cs : List (Call (List ℕ))) → All Call32 cs → Demand3 o cs

-- Demand 2 in such a list: the plain store of the list is the one that the state stands for, and the kept answers that an update drops are those that it matches there
abbrev pub StandsInList : Type 0
StandsInList = (o : Start) (cs : List (Call (List ℕ))) → Means (after (opened o) cs).state (after (opened o) cs).cells (plain_after o cs)

abbrev pub DropsInList : Type 0
DropsInList = (o : Start) (cs : List (Call (List ℕ))) (n : ℕ) (us : List ℤ)
    → let s : Store = after (opened o) cs in
    let p : Plain = plain_after o cs in
    (step s (change n us)).1.got.refusal ≡ 0
    → (keys_held (step s (change n us)).0 ≡ keep (λ (k : Key). not (drops_key p n us k)) (keys_held s))
    × ((step s (change n us)).1.drops ≡ count (drops_key p n us) (keys_held s))

abbrev pub CommitDropsInList : Type 0
CommitDropsInList = (o : Start) (cs : List (Call (List ℕ))) (x : P.Note)
    → let s : Store = after (opened o) cs in
    let p : Plain = plain_after o cs in
    p.pending ≡ some x → (step s commit).1.got.refusal ≡ 0
    → (keys_held (step s commit).0 ≡ keep (λ (k : Key). not (drops_key p x.update x.values k)) (keys_held s))
    × ((step s commit).1.drops ≡ count (drops_key p x.update x.values) (keys_held s))

-- The converse, by the slot rules: a question that was answered before, whose record fits, with no matching update or flush since, and with fewer different others than
-- there are slots answered since with records that fit, is kept.
abbrev pub KeptOtherwise : Type 0
KeptOtherwise = (o : Start) (cs : List (Call (List ℕ))) → All Call32 cs → (k : Key) (buffer : List ℕ) → (next_ask o cs k buffer).got.refusal ≡ 0 → Answered k (history_of o cs)
    → fits_slot (slot_size o) (record_of (plain_after o cs) k) ≡ true → any (hits k) (since same_key k (history_of o cs)) ≡ false
    → ¬ Filled (slot_size o) (slot_count o) k (since same_key k (history_of o cs)) → (next_ask o cs k buffer).kept ≡ 1

-- "rows read (0 if kept, else the table's row count)": of a question that is worked out anew, the rows that its table has on the plain store; A.6: "For a question over two
-- tables that is worked out anew the count becomes exactly r1 + m × r2."
abbrev pub RowsRead : Type 0
RowsRead = (o : Start) (cs : List (Call (List ℕ))) (k : Key) (buffer : List ℕ) → (next_ask o cs k buffer).got.refusal ≡ 0
    → (((next_ask o cs k buffer).kept ≡ 0) → (next_ask o cs k buffer).scanned ≡ P.rows_read (plain_after o cs) k)
    × (((next_ask o cs k buffer).kept ≢ 0) → (next_ask o cs k buffer).scanned ≡ 0)

-- Demand 2, "A new answer, and under 3's premises a kept one, holds exactly the rows, in order, that the SQL meaning set down there gives, and its record reads back as
-- those rows": the answer buffer of every question that is answered, with whatever stands behind the record.

abbrev pub AnswerReadsBack : Type 0
AnswerReadsBack = (o : Start) (cs : List (Call (List ℕ))) → All Call32 cs → (k : Key) (buffer : List ℕ) → (next_ask o cs k buffer).got.refusal ≡ 0
    → ReadsBack (next_ask o cs k buffer).got.answer (length (P.query_at (plain_after o cs) k.query).selected) (rows_listed (plain_after o cs) k)

-- How many slots are enough: where there are at least as many as different questions with values in the list, none is ever pushed out by the others. What is worked out anew was never answered, doesn't
-- fit, or was dropped since. `ks` has all that are asked.
abbrev pub EnoughSlots : Type 0
EnoughSlots = (o : Start) (cs : List (Call (List ℕ))) → All Call32 cs → (k : Key) (buffer : List ℕ) (ks : List Key)
    → length ks ≤ slot_count o → All (λ j. OneOf j ks) (k ∷ keys_asked cs)
    → (next_ask o cs k buffer).got.refusal ≡ 0 → (next_ask o cs k buffer).kept ≡ 0
    → (¬ Answered k (history_of o cs))
    ⊎ ((fits_slot (slot_size o) (record_of (plain_after o cs) k) ≡ false) ⊎ (any (hits k) (since same_key k (history_of o cs)) ≡ true))

-- ---- A.8: "An update may be proposed: it gives the rows it would insert, match or delete, and changes nothing but the pending note in the state."

-- on every state; of what it gives, and of the plain store's note, `DoesAsPlain` and `ThirdDemand` speak
abbrev pub ProposalNotesOnly : Type 0
ProposalNotesOnly = (s : Store) (n : ℕ) (us : List ℤ) → (step s (propose n us)).1.got.refusal ≡ 0
    → (step s (propose n us)).0 ≡ record s { state = record s.state { pending = pending_of (Some (note_of n us)) } }

-- "A commit then does it", and "the drop count is the commit's": on every sound state it is the update that the note names, in all that it gives and leaves
abbrev pub CommitDoesIt : Type 0
CommitDoesIt = (s : Store) (n : Note) → Typed s.state → (step s commit).1.got.refusal ≡ 0 → note_in s.state ≡ Some n
    → step s commit ≡ step s (change n.update (note_read n).values)

-- a withdrawal is taken exactly where there is a note, on a sound state with the opening's lengths; and it takes away the note alone. Both of every state
abbrev pub WithdrawExactlyIf : Type 0
WithdrawExactlyIf = (s : Store) → ((step s withdraw).1.got.refusal ≡ 0)
    ↔ ((sound_state s.state ≡ true) × (length s.cells ≡ s.state.cells) × (length s.memory ≡ s.state.memory) × ((n : Note) × (note_in s.state ≡ Some n)))

abbrev pub WithdrawTakesNote : Type 0
WithdrawTakesNote = (s : Store) → (step s withdraw).1.got.refusal ≡ 0 → (step s withdraw).0 ≡ record s { state = record s.state { pending = pending_of None } }

-- "in a list as in demand 3 an accepted commit's row count equals the one proposed": a proposal stands (`standing`: by what the calls before it got), and the rows that it gave are the commit's
abbrev pub proposal_after : Start → List (Call (List ℕ)) → Option Proposal
proposal_after o cs = standing (λ (x : Seen). x.got.refusal) (λ (x : Seen). x.got.rows) none cs (gets (opened o) cs)

abbrev pub CommitAsProposed : Type 0
CommitAsProposed = (o : Start) (cs : List (Call (List ℕ))) → All Call32 cs → (step (after (opened o) cs) commit).1.got.refusal ≡ 0
    → (x : Proposal) × (proposal_after o cs ≡ some x) × (x.rows ≡ (step (after (opened o) cs) commit).1.got.rows)

-- ---- More slots (REFERENCE 6.9): of two stores that get the same calls, refused ones too, the one with more slots answers from its cache whatever the other one does. Each has a state
-- and memories of its own.

-- alike: as many cells, whatever stands in them, since an opening clears them; and as many bytes a slot, so that a record fits a slot of both or of neither. The larger has
-- twice the slots, or any number that is no smaller
pub record Larger (o l : Start) : Type 0 where
  pub small_taken : (opened_by o).result.refusal ≡ 0
  pub large_taken : (opened_by l).result.refusal ≡ 0
  pub same_cells : length o.cells ≡ length l.cells
  pub same_bytes : o.slot_bytes ≡ l.slot_bytes
  pub more_slots : o.slots ≤ l.slots

-- a question in the middle of a list stands behind the calls before it
abbrev pub KeptInLarger : Type 0
KeptInLarger = (o l : Start) → Larger o l → (cs : List (Call (List ℕ))) → All Call32 cs → (k : Key) (buffer : List ℕ)
    → (next_ask o cs k buffer).kept ≡ 1 → (next_ask l cs k buffer).kept ≡ 1

-- and every call gets the same from both but for that mark, the rows read and the drops
abbrev pub SameInBoth : Type 0
SameInBoth = (o l : Start) → Larger o l → (cs : List (Call (List ℕ))) → All Call32 cs
    → map (λ (x : Seen). x.got) (gets (opened o) cs) ≡ map (λ (x : Seen). x.got) (gets (opened l) cs)

-- so the larger gives at least as many answers from memory, and reads no more rows, over the whole list
abbrev pub ReadsNoMore : Type 0
ReadsNoMore = (o l : Start) → Larger o l → (cs : List (Call (List ℕ))) → All Call32 cs
    → (sum_by (λ (x : Seen). x.kept) (gets (opened o) cs) ≤ sum_by (λ (x : Seen). x.kept) (gets (opened l) cs))
    × (sum_by (λ (x : Seen). x.scanned) (gets (opened l) cs) ≤ sum_by (λ (x : Seen). x.scanned) (gets (opened o) cs))

-- ---- all of these

pub record Demands : Type 0 where
  pub lowest_number : LowestNumber
  pub rings_never_full : RingsNeverFull
  pub refused_changes_nothing : RefusedChangesNothing
  pub opens_exactly_if : OpensExactlyIf
  pub opening_taken : OpeningTaken
  pub opening-refused : OpeningRefused
  pub sound_exactly_if : SoundExactlyIf
  pub opens_sound : OpensSound
  pub stays_sound : StaysSound
  pub accepted_exactly_if : AcceptedExactlyIf
  pub stands_for_plain : StandsForPlain
  pub does_as_plain : DoesAsPlain
  pub new_answer : NewAnswer
  pub kept_answer : KeptAnswer
  pub kept_moves_order : KeptMovesOrder
  pub drops_exactly_matched : DropsExactlyMatched
  pub commit_drops_exactly_matched : CommitDropsExactlyMatched
  pub flush_drops_all : FlushDropsAll
  pub order_of_use : OrderOfUse
  pub third_demand : ThirdDemand
  pub same_as_plain : SameAsPlain
  pub anew_only_if : AnewOnlyIf
  pub stands_in_list : StandsInList
  pub drops_in_list : DropsInList
  pub commit_drops_in_list : CommitDropsInList
  pub kept_otherwise : KeptOtherwise
  pub enough_slots : EnoughSlots
  pub rows-read : RowsRead
  pub answer_reads_back : AnswerReadsBack
  pub proposal_notes_only : ProposalNotesOnly
  pub commit_does_it : CommitDoesIt
  pub withdraw_exactly_if : WithdrawExactlyIf
  pub withdraw_takes_note : WithdrawTakesNote
  pub commit_as_proposed : CommitAsProposed
  pub kept_in_larger : KeptInLarger
  pub same_in_both : SameInBoth
  pub reads_no_more : ReadsNoMore
