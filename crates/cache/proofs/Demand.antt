-- The claims of specs/Demand, and the argument for demand 3 from top to bottom:
-- 1. what the table layer states: on a sound state each call does to tables and statements what it does to the plain store that the state stands for (Refinement/Standing,
--    Calls), the state stays sound (Invariant/Stays), and the answers that an update drops are those that it matches (Refinement/Dropping, from the patterns' laws);
-- 2. what the slots keep: finding, moving to the front, taking the last slot and dropping are those of the model of crate `trace` (Refinement/SlotsAsCache, Finding,
--    Caching);
-- 3. why they agree: so each call meets the model's step (Refinement/CallsOfModel), and a list of calls follows the model's list (ListsOfCalls). There the kept answers are
--    those of `recent`, read off the history of the plain store, and each is the plain store's record of now (trace/proofs/Past, Kept, Same, Anew);
-- 4. what follows: what holds of every list in the model holds of the state (below). Assumes nothing.
use mathlib.Core.Path.{◌≡◌, refl, sym, ap, ap₂, ◌∙◌, subst, subst₂}
use mathlib.Core.Logic.{◌≢◌, ◌⊎◌, inl, inr}
use mathlib.Core.Bool.{Bool, true, false, cond}
use mathlib.Core.Option.{Option, none, some}
use Rattle.std.proofs.lemmas.Simd.{map-map}
use mathlib.Core.List.{List, [], ◌∷◌, ◌++◌, map}
use Prim.Native.Nat.{ℕ, zero, suc, ◌+◌}
use native.Mathlib.Omega.{arith}
use lib.ListN.{length, drop}
use Rattle.std.specs.Prelude.{sum_by}
use Rattle.lists.specs.Lists.{All, any, written}
use Rattle.lists.proofs.Lists.{All-map, All-left, All-image}
use Rattle.meaning.specs.Key.{Key, same_key}
use Rattle.meaning.specs.Plain.{rows_listed, Lengths, Plain, opening_refused, Out, refused, added, answered, rows, flushed, withdrawn, record_of, Note, committed, guard, refusal}
use Rattle.meaning.specs.Record.{ReadsBack}
use Rattle.meaning.specs.Call.{Call, add, ask, change, flush, propose, commit, withdraw, Call32}
use Rattle.meaning.specs.Demand as M
use Rattle.meaning.specs.Demand.{refusal_in, rows_in}
use Rattle.meaning.proofs.Proposed as M₁
use Rattle.meaning.proofs.Proposed.{standing-same}
use Rattle.meaning.specs.Plain as P
use Rattle.trace.specs.History.{fits_slot, asked_by, keys_asked, Answered, hits, since, Ground, never, too_large, dropped, crowded}
use Rattle.trace.specs.Private.Model as T
use Rattle.trace.specs.Private.Model.{Model, turned, asked}
use Rattle.trace.specs.Private.Demand as D
use Rattle.trace.proofs.Enough.{uncrowded}
use Rattle.trace.proofs.Demand.{AskGets, turned_away, from_slot, worked_out, ask-gets, stored-after, demands as on-model}
use Rattle.cache.specs.Run.{Start, Store, Seen, opening_of, opened, Got, step, after, gets, plain_call, buffer_of, got_of, plain_after, plain_gets}
use Rattle.cache.specs.Means.{Means}
use Rattle.cache.specs.Demand.{Larger, KeptInLarger, SameInBoth, ReadsNoMore, SameAsPlain, slot_count, slot_size, history_of, next_ask, EnoughSlots, AnewOnlyIf, ThirdDemand, StandsInList, DropsInList, CommitDropsInList, KeptOtherwise, RowsRead, AnswerReadsBack, proposal_after, CommitAsProposed, Demands}
use Rattle.cache.proofs.Invariant.Sentence.{sound_exactly_if}
use Rattle.cache.proofs.Claims.Openings.{opens_exactly_if, opening_taken, opening-refused, not-refused, flush_drops_all}
use Rattle.cache.proofs.Claims.Accepted.{accepted_exactly_if}
use Rattle.cache.proofs.Claims.Answered.{new_answer, kept_answer, kept_moves_order}
use Rattle.cache.proofs.Claims.Order.{order_of_use}
use Rattle.cache.proofs.Claims.Proposed.{proposal_notes_only, commit_does_it, commit_drops_exactly_matched, withdraw_exactly_if, withdraw_takes_note}
use Rattle.cache.proofs.Claims.Refusals.{lowest_number, rings_never_full, refused_changes_nothing}
use Rattle.cache.proofs.Invariant.Stays.{opens_sound, stays_sound}
use Rattle.cache.proofs.Refinement.Standing.{stands_for_plain}
use Rattle.cache.proofs.Refinement.Calls.{does_as_plain}
use Rattle.cache.proofs.Refinement.Dropping.{drops_exactly_matched}
use Rattle.cache.proofs.Refinement.CallsOfModel.{Meets, patterns-mean}
use Rattle.cache.proofs.Refinement.ListsOfCalls.{Follows, follows-opened, gots_of, plain-gets, meets, follows-after, follows-gets, follows-sum}

-- ---- a question that is not refused is answered

answer_of : (buffer : List ℕ) {m : Model} {k : Key} (x : T.Seen) → AskGets m k x → (g : Got) → g ≡ got_of buffer x.out → g.refusal ≡ 0 → (r : List ℕ) × (x.out ≡ answered r)
answer_of buffer x (turned_away n) g i z = let a : 0 ≡ suc n = sym z ∙ ap (λ (y : Got). y.refusal) i in absurd (omega arith)
answer_of buffer x (from_slot r h) g i z = (r, refl)
answer_of buffer x (worked_out r h) g i z = (r, refl)

-- ---- demand 3

-- the opening, as the model has it
abbrev start_of : Start → D.ModelStart
start_of o = record { opening = opening_of o; memory = o.memory; lent = refl }

slots-are : (o : Start) → T.slot_count (opening_of o) ≡ slot_count o
slots-are o = go (opening_refused (opening_of o))
  where
    go : (b : Bool) → T.slots_opened b (opening_of o) ≡ cond b 0 o.slots
    go true = refl
    go false = refl

size_is : (o : Start) → T.slot_size (opening_of o) ≡ slot_size o
size_is o = go (opening_refused (opening_of o))
  where
    go : (b : Bool) → T.size_opened b (opening_of o) ≡ cond b 8 o.slot_bytes
    go true = refl
    go false = refl

values-32 : (c : Call (List ℕ)) → Call32 c → Call32 (plain_call c)
values-32 (add text) v = v
values-32 (ask k buffer) v = v
values-32 (change n us) v = v
values-32 flush v = v
values-32 (propose n us) v = v
values-32 commit v = v
values-32 withdraw v = v

calls-32 : (cs : List (Call (List ℕ))) → All Call32 cs → All Call32 (map plain_call cs)
calls-32 cs v = All-image plain_call (All-map values-32 v)

pub follows : (o : Start) (cs : List (Call (List ℕ)))
    → Follows (opening_of o).lent (T.slot_size (opening_of o)) (after (opened o) cs) (D.after_calls (start_of o) (map plain_call cs))
follows o cs = follows-after (follows-opened o) cs

pub same_as_plain : SameAsPlain
same_as_plain o cs v =
    let same = on-model.same_as_plain (start_of o) (map plain_call cs) (calls-32 cs v) in (
      follows-gets (follows-opened o) cs ∙ ap (gots_of cs) same.0 ∙ plain-gets (opening_of o).lent (P.opened (opening_of o)) cs,
      sym (follows o cs).means.tables_are ∙ ap (λ (p : Plain). p.tables) same.1,
    )

-- the next question, on the state and in the model
module _ (o : Start) (cs : List (Call (List ℕ))) (k : Key) (buffer : List ℕ) where
  next : Meets (after (opened o) cs) buffer (step (after (opened o) cs) (ask k buffer))
      (T.step (opening_of o).lent (T.slot_size (opening_of o)) (D.after_calls (start_of o) (map plain_call cs)) (ask k (length buffer)))
  next = meets (follows o cs) (ask k buffer)

  next-answer : (next_ask o cs k buffer).got.refusal ≡ 0 → (r : List ℕ) × ((D.next_call (start_of o) (map plain_call cs) (ask k (length buffer))).out ≡ answered r)
  next-answer e = answer_of buffer _ (ask-gets _ _ (D.after_calls (start_of o) (map plain_call cs)) k (length buffer)) _ next.got e

pub anew_only_if : AnewOnlyIf
anew_only_if o cs v k buffer e z =
    let a = next-answer o cs k buffer e in
    let g = on-model.anew_only_if (start_of o) (map plain_call cs) (calls-32 cs v) k (length buffer) a.0 a.1 (sym (next o cs k buffer).kept ∙ z) in
    subst₂ (λ (n size : ℕ). Ground same_key n size (record_of (plain_after o cs) k) k (history_of o cs)) (slots-are o) (size_is o) g

pub kept_otherwise : KeptOtherwise
kept_otherwise o cs v k buffer e asked fit hit few =
    let a = next-answer o cs k buffer e in
    (next o cs k buffer).kept
    ∙ on-model.kept_otherwise (start_of o) (map plain_call cs) (calls-32 cs v) k (length buffer) a.0 a.1 asked (rw (size_is o) fit) hit (rw (size_is o, slots-are o) few)

asked-plain : (cs : List (Call (List ℕ))) → keys_asked (map plain_call cs) ≡ keys_asked cs
asked-plain [] = refl
asked-plain (c ∷ cs) = ap₂ ◌++◌ (go c) (asked-plain cs)
  where
    go : (c : Call (List ℕ)) → asked_by (plain_call c) ≡ asked_by c
    go (add text) = refl
    go (ask k buffer) = refl
    go (change n us) = refl
    go flush = refl
    go (propose n us) = refl
    go commit = refl
    go withdraw = refl

pub enough_slots : EnoughSlots
enough_slots o cs v k buffer ks le all e z = go (anew_only_if o cs v k buffer e z)
  where
    go : Ground same_key (slot_count o) (slot_size o) (record_of (plain_after o cs) k) k (history_of o cs)
        → (¬ Answered k (history_of o cs))
        ⊎ ((fits_slot (slot_size o) (record_of (plain_after o cs) k) ≡ false) ⊎ (any (hits k) (since same_key k (history_of o cs)) ≡ true))
    go (never a) = inl a
    go (too_large f) = inr (inl f)
    go (dropped d) = inr (inr d)
    go (crowded c) = absurd (uncrowded (slot_count o) (opening_of o).lent (P.opened (opening_of o)) (map plain_call cs) k ks le (rw (asked-plain cs) all) c)

pub rows-read : RowsRead
rows-read o cs k buffer e =
    go _ (ask-gets (opening_of o).lent (T.slot_size (opening_of o)) (D.after_calls (start_of o) (map plain_call cs)) k (length buffer)) (next o cs k buffer).got
    (next o cs k buffer).kept (next o cs k buffer).scanned
  where
    go : (x : T.Seen) → AskGets (D.after_calls (start_of o) (map plain_call cs)) k x
        → (next_ask o cs k buffer).got ≡ got_of buffer x.out → (next_ask o cs k buffer).kept ≡ x.kept → (next_ask o cs k buffer).scanned ≡ x.scanned
        → ((next_ask o cs k buffer).kept ≡ 0 → (next_ask o cs k buffer).scanned ≡ P.rows_read (plain_after o cs) k)
        × ((next_ask o cs k buffer).kept ≢ 0 → (next_ask o cs k buffer).scanned ≡ 0)
    go x (turned_away n) g i j = let a : 0 ≡ suc n = sym e ∙ ap (λ (y : Got). y.refusal) g in absurd (omega arith)
    go x (from_slot r h) g i j = (λ z. let a : ◌≡◌ {A = ℕ} 0 1 = sym z ∙ i in absurd (omega arith), λ z. j)
    go x (worked_out r h) g i j = (λ z. j ∙ ap (λ (p : Plain). P.rows_read p k) (stored-after (start_of o) (map plain_call cs)), λ z. absurd (z i))

-- ---- the list as a whole

pub third_demand : ThirdDemand
third_demand o cs v = record {
  same = (same_as_plain o cs v).0;
  tables = (same_as_plain o cs v).1;
  anew = λ before k buffer behind e. anew_only_if o before (All-left before (ask k buffer ∷ behind) (subst (All Call32) e v)) k buffer;
}

pub stands_in_list : StandsInList
stands_in_list o cs =
    subst (Means (after (opened o) cs).state (after (opened o) cs).cells) (stored-after (start_of o) (map plain_call cs)) (follows o cs).means

pub drops_in_list : DropsInList
drops_in_list o cs n us =
    drops_exactly_matched patterns-mean (after (opened o) cs) n us (plain_after o cs) (follows o cs).typed (follows o cs).sound (stands_in_list o cs)

pub commit_drops_in_list : CommitDropsInList
commit_drops_in_list o cs x =
    commit_drops_exactly_matched patterns-mean (after (opened o) cs) x (plain_after o cs) (follows o cs).typed (follows o cs).sound (stands_in_list o cs)

pub answer_reads_back : AnswerReadsBack
answer_reads_back o cs v k buffer e =
    let a = next-answer o cs k buffer e in
    let b : (next_ask o cs k buffer).got.answer ≡ written buffer 0 a.0 = ap (λ (x : Got). x.answer) ((next o cs k buffer).got ∙ ap (got_of buffer) a.1) in
    subst (λ (l : List ℕ). ReadsBack l (length (P.query_at (plain_after o cs) k.query).selected) (rows_listed (plain_after o cs) k)) (sym b)
    (on-model.kept_reads_back (start_of o) (map plain_call cs) (calls-32 cs v) k (length buffer) a.0 a.1 (drop (0 + length a.0) buffer))

-- ---- A.8: a commit gives the rows proposed

-- what the calls of a list get, by what the plain store gives
refusal_got : (buffer : List ℕ) (o : Out) → (got_of buffer o).refusal ≡ refusal_in o
refusal_got buffer (refused n) = refl
refusal_got buffer (added k n) = refl
refusal_got buffer (answered r) = refl
refusal_got buffer (rows n) = refl
refusal_got buffer flushed = refl
refusal_got buffer withdrawn = refl

rows_got : (buffer : List ℕ) (o : Out) → (got_of buffer o).rows ≡ rows_in o
rows_got buffer (refused n) = refl
rows_got buffer (added k n) = refl
rows_got buffer (answered r) = refl
rows_got buffer (rows n) = refl
rows_got buffer flushed = refl
rows_got buffer withdrawn = refl

module _ {X : Type 0} (f : Got → X) (g : Out → X) (same : (buffer : List ℕ) (o : Out) → f (got_of buffer o) ≡ g o) where
  plain-got : (lent : Lengths) (p : Plain) (cs : List (Call (List ℕ))) → map f (plain_gets lent p cs) ≡ map g (P.outs lent p (map plain_call cs))
  plain-got lent p [] = refl
  plain-got lent p (c ∷ cs) =
      ap₂ (λ (x : X) (l : List X). x ∷ l) (same (buffer_of c) (P.step lent p (plain_call c)).1) (plain-got lent (P.step lent p (plain_call c)).0 cs)

  got-same : (o : Start) (cs : List (Call (List ℕ))) → All Call32 cs
      → map (λ (x : Seen). f x.got) (gets (opened o) cs) ≡ map g (P.outs (opening_of o).lent (P.opened (opening_of o)) (map plain_call cs))
  got-same o cs v =
      sym (map-map f (λ (x : Seen). x.got) (gets (opened o) cs)) ∙ ap (map f) (same_as_plain o cs v).0 ∙ plain-got (opening_of o).lent (P.opened (opening_of o)) cs

-- the proposal that stands is the plain store's
proposal-same : (o : Start) (cs : List (Call (List ℕ))) → All Call32 cs → proposal_after o cs ≡ M.proposal_after (opening_of o) (map plain_call cs)
proposal-same o cs v =
    standing-same length (λ (x : Seen). x.got.refusal) (λ (x : Seen). x.got.rows) refusal_in rows_in none cs (gets (opened o) cs)
    (P.outs (opening_of o).lent (P.opened (opening_of o)) (map plain_call cs))
    (got-same (λ (g : Got). g.refusal) refusal_in refusal_got o cs v) (got-same (λ (g : Got). g.rows) rows_in rows_got o cs v)

-- a commit that is not refused gives rows
commit-rows : (k : ℕ) (p : Plain) (x : Option Note) → (got_of [] (guard k p refused (committed p x)).1).refusal ≡ 0
    → (guard k p refused (committed p x)).1 ≡ rows (got_of [] (guard k p refused (committed p x)).1).rows
commit-rows zero p none z = absurd (omega arith)
commit-rows zero p (some x) z = refl
commit-rows (suc k) p x z = absurd (omega arith)

pub commit_as_proposed : CommitAsProposed
commit_as_proposed o cs v z =
    let s : Store = after (opened o) cs in
    let p : Plain = plain_after o cs in
    let lent : Lengths = (opening_of o).lent in
    let F = follows o cs in
    let D : (step s commit).1.got ≡ got_of [] (P.step lent p commit).1 =
    (does_as_plain s commit p F.typed F.sound (stands_in_list o cs) tt).0 ∙ ap (λ (l : Lengths). got_of [] (P.step l p commit).1) F.lent_is in
    let r : (P.step lent p commit).1 ≡ rows (step s commit).1.got.rows =
    commit-rows (refusal lent p commit) p p.pending (ap (λ (g : Got). g.refusal) (sym D) ∙ z) ∙ ap (λ (g : Got). rows g.rows) (sym D) in
    let (x, i, e) = (M₁.commit_as_proposed (opening_of o) (map plain_call cs) (step s commit).1.got.rows).0 r in
    (x, proposal-same o cs v ∙ i, e)

-- ---- A.12

-- the two openings, as the model has them
larger : (o l : Start) → Larger o l → D.ModelLarger (start_of o) (start_of l)
larger o l g = record {
  small_taken = not-refused o g.small_taken;
  large_taken = not-refused l g.large_taken;
  same_cells = g.same_cells;
  same_bytes = g.same_bytes;
  more_slots = g.more_slots;
}

pub kept_in_larger : KeptInLarger
kept_in_larger o l g cs v k buffer e =
    (next l cs k buffer).kept
    ∙ on-model.kept_in_larger (start_of o) (start_of l) (larger o l g) (map plain_call cs) (calls-32 cs v) k (length buffer) (sym (next o cs k buffer).kept ∙ e)

pub same_in_both : SameInBoth
same_in_both o l g cs v =
    follows-gets (follows-opened o) cs
    ∙ ap (gots_of cs) (on-model.same_in_both (start_of o) (start_of l) (larger o l g) (map plain_call cs) (calls-32 cs v))
    ∙ sym (follows-gets (follows-opened l) cs)

pub reads_no_more : ReadsNoMore
reads_no_more o l g cs v =
    let kept-is : (o : Start) → sum_by (λ (x : Seen). x.kept) (gets (opened o) cs) ≡ sum_by (λ (x : T.Seen). x.kept) (D.calls_get (start_of o) (map plain_call cs)) =
    λ o. follows-sum (λ x. x.kept) (λ x. x.kept) (λ s b r q m. m.kept) _ _ (follows-opened o) cs 0 in
    let read-is : (o : Start) → sum_by (λ (x : Seen). x.scanned) (gets (opened o) cs) ≡ sum_by (λ (x : T.Seen). x.scanned) (D.calls_get (start_of o) (map plain_call cs)) =
    λ o. follows-sum (λ x. x.scanned) (λ x. x.scanned) (λ s b r q m. m.scanned) _ _ (follows-opened o) cs 0 in
    let m = on-model.reads_no_more (start_of o) (start_of l) (larger o l g) (map plain_call cs) (calls-32 cs v) in
    (rw (kept-is o, kept-is l) m.0, rw (read-is l, read-is o) m.1)

-- ---- all claims

pub demands : Demands
demands = record {
  lowest_number = lowest_number;
  rings_never_full = rings_never_full;
  refused_changes_nothing = refused_changes_nothing;
  opens_exactly_if = opens_exactly_if;
  opening_taken = opening_taken;
  opening-refused = opening-refused;
  sound_exactly_if = sound_exactly_if;
  opens_sound = opens_sound;
  stays_sound = stays_sound;
  accepted_exactly_if = accepted_exactly_if;
  stands_for_plain = stands_for_plain;
  does_as_plain = does_as_plain;
  new_answer = new_answer;
  kept_answer = kept_answer;
  kept_moves_order = kept_moves_order;
  drops_exactly_matched = drops_exactly_matched patterns-mean;
  commit_drops_exactly_matched = commit_drops_exactly_matched patterns-mean;
  flush_drops_all = flush_drops_all;
  order_of_use = order_of_use;
  third_demand = third_demand;
  same_as_plain = same_as_plain;
  anew_only_if = anew_only_if;
  stands_in_list = stands_in_list;
  drops_in_list = drops_in_list;
  commit_drops_in_list = commit_drops_in_list;
  kept_otherwise = kept_otherwise;
  enough_slots = enough_slots;
  rows-read = rows-read;
  answer_reads_back = answer_reads_back;
  proposal_notes_only = proposal_notes_only;
  commit_does_it = commit_does_it;
  withdraw_exactly_if = withdraw_exactly_if;
  withdraw_takes_note = withdraw_takes_note;
  commit_as_proposed = commit_as_proposed;
  kept_in_larger = kept_in_larger;
  same_in_both = same_in_both;
  reads_no_more = reads_no_more;
}
