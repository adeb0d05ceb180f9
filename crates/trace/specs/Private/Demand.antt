-- The demands as claims, as far as the model of kept answers can say them. Assumes nothing: these are definitions.
use Rattle.std.specs.Prelude.{◌≡◌, true, false, not, List, ◌++◌, map, ℕ, ◌≤◌, ℤ, length, sum_by}
use Rattle.std.proofs.Math.Option.{some}
use Rattle.lists.specs.Lists.{All, DistinctBy, keep, count, any}
use Rattle.meaning.specs.Key.{Key, same_key}
use Rattle.meaning.specs.Plain.{rows_listed, Lengths, Plain, query_at, Opening, opening_refused, refusal, record_of, drops_key, answered, Note}
use Rattle.meaning.specs.Record.{ReadsBack}
use Rattle.meaning.specs.Call.{Call32, Call, ask, change, commit, propose}
use Rattle.meaning.specs.Plain as P
use Rattle.trace.specs.History.{Event, history, fits_slot, Answered, hits, since, Filled, Ground}
use Rattle.trace.specs.Private.Slots.{Names, Held, Cache, order, slot_bytes}
use Rattle.trace.specs.Private.Model.{Seen, Model, ask_refusal, step, after, outs, slot_count, slot_size, opened}

-- an opening, and the kept memory lent to it
pub record ModelStart : Type 0 where
  pub opening : Opening
  pub memory : List ℕ
  pub lent : length memory ≡ opening.lent.memory

-- the model after a list of calls, and what the next call gets
abbrev pub after_calls : ModelStart → List (Call ℕ) → Model
after_calls s cs = after s.opening.lent (slot_size s.opening) (opened s.opening s.memory) cs

abbrev pub next_call : ModelStart → List (Call ℕ) → Call ℕ → Seen
next_call s cs c = (step s.opening.lent (slot_size s.opening) (after_calls s cs) c).1

-- the plain store after the same calls
abbrev pub plain_beside : ModelStart → List (Call ℕ) → Plain
plain_beside s cs = P.after s.opening.lent (P.opened s.opening) cs

-- In the claims over lists of calls the values of a call have 32 bits, as their type says (`Call32`); of the next call this is not asked.

-- Demand 3: "For every opening and every list of calls after it .. every call gets the refusal number, the statement's kind and number, the record and the
-- count of rows inserted, matched or deleted that the same call gets from the plain store of document 01, which keeps no answer, and after the list the
-- tables hold the same rows as that store's."
abbrev pub ModelSameAsPlain : Type 0
ModelSameAsPlain = (s : ModelStart) (cs : List (Call ℕ)) → All Call32 cs
    → (map (λ (o : Seen). o.out) (outs s.opening.lent (slot_size s.opening) (opened s.opening s.memory) cs)
    ≡ P.outs s.opening.lent (P.opened s.opening) cs)
    × ((after_calls s cs).store ≡ plain_beside s cs)

-- Demand 3: "In every such list a question with its values is worked out anew only if it was never answered since opening, its record doesn't fit a slot, a
-- matching update or a flush came since its last answer, or at least as many different others as there are slots were answered since."
abbrev pub ModelAnewOnlyIf : Type 0
ModelAnewOnlyIf = (s : ModelStart) (cs : List (Call ℕ)) → All Call32 cs → (k : Key) (buffer : ℕ) (r : List ℕ)
    → (next_call s cs (ask k buffer)).out ≡ answered r → (next_call s cs (ask k buffer)).kept ≡ 0
    → Ground same_key (slot_count s.opening) (slot_size s.opening) (record_of (plain_beside s cs) k) k
    (history s.opening.lent (P.opened s.opening) cs)

-- The converse, by the slot rules: a question that was answered before, whose record fits, with no matching update or flush since, and with fewer different
-- others than there are slots answered since with records that fit, is kept.
abbrev pub ModelKeptOtherwise : Type 0
ModelKeptOtherwise = (s : ModelStart) (cs : List (Call ℕ)) → All Call32 cs → (k : Key) (buffer : ℕ) (r : List ℕ)
    → let h : List (Event Key) = history s.opening.lent (P.opened s.opening) cs in
    (next_call s cs (ask k buffer)).out ≡ answered r → Answered k h → fits_slot (slot_size s.opening) (record_of (plain_beside s cs) k) ≡ true
    → any (hits k) (since same_key k h) ≡ false → ¬ Filled (slot_size s.opening) (slot_count s.opening) k (since same_key k h)
    → (next_call s cs (ask k buffer)).kept ≡ 1

-- Demand 2: "The kept answers an update drops are exactly those matched by the patterns": of the keys held before it, an update that is not refused leaves
-- those that it does not match, in their order, and its count is the number of the others; whatever its values and those of the calls before it are.
abbrev pub keys_held : Model → List Key
keys_held m = map (λ (e : Held Key). e.key) m.cache.held

-- the call c drops so
abbrev pub DropsMatched : ModelStart → List (Call ℕ) → Call ℕ → ℕ → List ℤ → Type 0
DropsMatched s cs c n us =
    (keys_held (step s.opening.lent (slot_size s.opening) (after_calls s cs) c).0
    ≡ keep (λ (k : Key). not (drops_key (plain_beside s cs) n us k)) (keys_held (after_calls s cs)))
    × ((next_call s cs c).drops ≡ count (drops_key (plain_beside s cs) n us) (keys_held (after_calls s cs)))

abbrev pub ModelDropsExactlyMatched : Type 0
ModelDropsExactlyMatched = (s : ModelStart) (cs : List (Call ℕ)) (n : ℕ) (us : List ℤ)
    → refusal s.opening.lent (plain_beside s cs) (change n us) ≡ 0 → DropsMatched s cs (change n us) n us

-- A.8, "the drop count is the commit's": a commit drops what its update does then
abbrev pub ModelCommitDrops : Type 0
ModelCommitDrops = (s : ModelStart) (cs : List (Call ℕ)) (x : Note) → (plain_beside s cs).pending ≡ some x
    → refusal s.opening.lent (plain_beside s cs) commit ≡ 0 → DropsMatched s cs commit x.update x.values

-- "changes nothing but the pending note": a proposal leaves the kept answers, their order and the kept memory
abbrev pub ModelProposalDropsNothing : Type 0
ModelProposalDropsNothing = (s : ModelStart) (cs : List (Call ℕ)) (n : ℕ) (us : List ℤ)
    → ((step s.opening.lent (slot_size s.opening) (after_calls s cs) (propose n us)).0.cache ≡ (after_calls s cs).cache)
    × ((next_call s cs (propose n us)).drops ≡ 0)

-- The kept answers after a list: each slot is named once, no key is held twice, and each record is the plain store's of now and fits its slot.
pub record Tidy (n size : ℕ) (lent : Lengths) (p : Plain) (c : Cache Key) : Type 0 where
  pub slots_once : Names n (order c)
  pub keys_once : DistinctBy (λ (e : Held Key). e.key) c.held
  pub right : All (λ e. (ask_refusal lent p e.key ≡ 0) × (slot_bytes size c.memory e ≡ record_of p e.key) × (e.len ≤ size)) c.held

abbrev pub ModelTidyAfter : Type 0
ModelTidyAfter = (s : ModelStart) (cs : List (Call ℕ)) → All Call32 cs
    → Tidy (slot_count s.opening) (slot_size s.opening) s.opening.lent (plain_beside s cs) (after_calls s cs).cache

-- Demand 2, "under 3's premises a kept one": in every such list an answer, kept or new, leaves a record that reads back as the rows that Meaning lists on
-- the plain store at that call, whatever stands behind it.
abbrev pub ModelKeptReadsBack : Type 0
ModelKeptReadsBack = (s : ModelStart) (cs : List (Call ℕ)) → All Call32 cs → (k : Key) (buffer : ℕ) (r : List ℕ) → (next_call s cs (ask k buffer)).out ≡ answered r
    → (later : List ℕ) → ReadsBack (r ++ later) (length (query_at (plain_beside s cs) k.query).selected) (rows_listed (plain_beside s cs) k)

-- ---- More slots (REFERENCE 6.9): two stores, neither opening refused, opened alike but for the number of slots and the kept memory for them. Both are sent the same calls, of whatever
-- kind and whether refused or not, each with its own state and memories.

pub record ModelLarger (s l : ModelStart) : Type 0 where
  pub small_taken : opening_refused s.opening ≡ false
  pub large_taken : opening_refused l.opening ≡ false
  pub same_cells : s.opening.lent.cells ≡ l.opening.lent.cells
  pub same_bytes : s.opening.slot_bytes ≡ l.opening.slot_bytes
  pub more_slots : s.opening.slots ≤ l.opening.slots

-- a question that the smaller marks as kept, the larger marks as kept: the next one after any list of calls, and so each one in it
abbrev pub ModelKeptInLarger : Type 0
ModelKeptInLarger = (s l : ModelStart) → ModelLarger s l → (cs : List (Call ℕ)) → All Call32 cs → (k : Key) (buffer : ℕ)
    → (next_call s cs (ask k buffer)).kept ≡ 1 → (next_call l cs (ask k buffer)).kept ≡ 1

-- what the calls of a list get, in their order
abbrev pub calls_get : ModelStart → List (Call ℕ) → List Seen
calls_get s cs = outs s.opening.lent (slot_size s.opening) (opened s.opening s.memory) cs

-- and each call gets the same from both
abbrev pub ModelSameInBoth : Type 0
ModelSameInBoth = (s l : ModelStart) → ModelLarger s l → (cs : List (Call ℕ)) → All Call32 cs
    → map (λ (o : Seen). o.out) (calls_get s cs) ≡ map (λ (o : Seen). o.out) (calls_get l cs)

-- over the whole list at least as many answers are kept ones, and no more rows are read
abbrev pub ModelReadsNoMore : Type 0
ModelReadsNoMore = (s l : ModelStart) → ModelLarger s l → (cs : List (Call ℕ)) → All Call32 cs
    → (sum_by (λ (o : Seen). o.kept) (calls_get s cs) ≤ sum_by (λ (o : Seen). o.kept) (calls_get l cs))
    × (sum_by (λ (o : Seen). o.scanned) (calls_get l cs) ≤ sum_by (λ (o : Seen). o.scanned) (calls_get s cs))

-- ---- all of these

pub record Demands : Type 0 where
  pub same_as_plain : ModelSameAsPlain
  pub anew_only_if : ModelAnewOnlyIf
  pub kept_otherwise : ModelKeptOtherwise
  pub drops_exactly_matched : ModelDropsExactlyMatched
  pub commit_drops : ModelCommitDrops
  pub proposal_drops_nothing : ModelProposalDropsNothing
  pub kept_reads_back : ModelKeptReadsBack
  pub tidy_after : ModelTidyAfter
  pub kept_in_larger : ModelKeptInLarger
  pub same_in_both : ModelSameInBoth
  pub reads_no_more : ModelReadsNoMore
