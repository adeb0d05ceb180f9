-- A call on a sound state does what it does in the model of crate `trace`: the plain store beside the kept answers. Assumes nothing.
use mathlib.Core.Path.{◌≡◌, refl, sym, ap, ◌∙◌, subst}
use mathlib.Core.Bool.{Bool, true, ◌&&◌}
use mathlib.Core.Option.{Option, some}
use mathlib.Core.List.{List, [], ◌++◌, map}
use Prim.Native.Nat.{ℕ, zero, suc, ◌≤◌, ◌<◌}
use native.Mathlib.Omega.{arith}
use borrow.Author.Tests.{eqb-true}
use lib.Dec.{eqb}
use lib.IntN.{ℤ}
use lib.ListN.{length, get_or}
use lib.Seq.{get_or-take, get_or_at}
use Rattle.lists.specs.Lists.{All, written}
use Rattle.lists.proofs.Bools.{and_right, not-false}
use Rattle.lists.proofs.Lists.{All-head, All-right, All-map, All-every, All-get_or}
use Rattle.meaning.specs.Key.{Key, same_key}
use Rattle.meaning.specs.Limits.{most_slots, most_marks}
use Rattle.meaning.specs.Plain.{Lengths, Plain, other_lengths, refusal, record_of, rows_read, drops_key, Out, refused, answered, does, guard, committed}
use Rattle.meaning.specs.Plain as P
use Rattle.meaning.specs.Call.{Call, add, ask, change, flush, propose, commit, withdraw}
use Rattle.meaning.specs.Refusals.{is_short, kept_conditions, flush_conditions, lowest_of, settled}
use Rattle.meaning.proofs.Accepted.{Asked, key-asked}
use Rattle.trace.specs.History.{fits_slot}
use Rattle.trace.specs.Private.Slots.{Held, find, put, drop_by, drop_count}
use Rattle.trace.specs.Private.Model as T
use Rattle.trace.specs.Private.Model.{Model, turned, plainly, asked, dropping, committing}
use Rattle.statement.specs.Compiled.{Compiled, no_update}
use Rattle.statement.proofs.SoundQuery.{query-parts}
use Rattle.table.proofs.ChangedMeans.{cells-length}
use Rattle.pattern.proofs.Reached.{drops-mean}
use Rattle.slots.specs.Keys.{Found, key_of, slot_has, held_slots}
use Rattle.std.specs.Prelude.{Option as Maybe, Some, None}
use Rattle.cache.specs.declared.Note.{Note}
use Rattle.slots.specs.Order.{front_of}
use Rattle.slots.proofs.KeyLaws.{key-few, FoundAt, found_inside, found_at}
use Rattle.cache.specs.declared.State.{State}
use Rattle.cache.specs.Calls.{Added, Flushed, Asks, bytes_at, record_at, found_in, Updates, unfit}
use Rattle.cache.specs.Sound.{update_at, length_at, query_at, note_read, pending_read, note_in}
use Rattle.cache.specs.Gives.{add_of, ask_of, update_of, flush_of, added_of, added_by, add_refusal, compiled_beside, add_refused, ask_gives, ask_refused, ask_refusal, with_cache, cached_refusal, ask_cached, new_refusal, newly, ask_new, ask_found, update_gives, update_refused, update_refusal, is_dropped, with_change, update_done, emptied, with_note, propose_refused, would_do, propose_of, pending_refusal, commit_done, commit_of, withdraw_of}
use Rattle.cache.specs.SoundTest.{sound_state}
use Rattle.cache.specs.Means.{Means, Typed}
use Rattle.cache.specs.Run.{Store, lent_by, Got, Seen, step_ask, step_update, step_flush, step, plain_call, buffer_of, got_of}
use Rattle.cache.proofs.Invariant.Sound.{Sound, sound-is, held_below, held-sound, query-at}
use Rattle.cache.proofs.Refinement.StoodFor.{query-count, query-agrees}
use Rattle.cache.proofs.Refinement.Asking.{cache-means, read_asked, record_is, ask-number, new-number}
use Rattle.cache.proofs.Refinement.Updating.{update-there, update-long}
use Rattle.cache.proofs.Refinement.Proposing.{emptied-means, pending-number, no_note, noted-update, noted-same}
use Rattle.cache.proofs.Refinement.Calls.{does_as_plain}
use Rattle.cache.proofs.Refinement.Dropping.{DropsMean, matched-is}
use Rattle.cache.proofs.Refinement.SlotsAsCache.{held_in, cache_of}
use Rattle.cache.proofs.Refinement.Finding.{find-held, find-missed}
use Rattle.cache.proofs.Refinement.Caching.{cached-front, cached-drop, cached-put, kept-is, bytes-long, kept-long}

-- ---- a store and a plain store that it stands for, as a model

abbrev pub model_of : Store → Plain → Model
model_of s p = record { store = p; cache = cache_of s.state s.memory }

-- a call on the store s gives and leaves what it does in the model
pub record Meets (s : Store) (buffer : List ℕ) (r : Store × Seen) (q : Model × T.Seen) : Type 0 where
  pub means : Means r.0.state r.0.cells q.0.store
  pub cached : q.0.cache ≡ cache_of r.0.state r.0.memory
  pub cells_long : length r.0.cells ≡ length s.cells
  pub memory_long : length r.0.memory ≡ length s.memory
  pub bytes_same : r.0.state.slot_bytes ≡ s.state.slot_bytes
  pub got : r.1.got ≡ got_of buffer q.1.out
  pub kept : r.1.kept ≡ q.1.kept
  pub scanned : r.1.scanned ≡ q.1.scanned

module _ (s : Store) (p : Plain) (m : Means s.state s.cells p) where
  -- a refused call leaves all as it was
  refused-meets : (buffer : List ℕ) (n : ℕ)
      → Meets s buffer (s, record { got = got_of buffer (refused n); kept = 0; scanned = 0; drops = 0 }) (model_of s p, turned n)
  refused-meets buffer n = record {
    means = m;
    cached = refl;
    cells_long = refl;
    memory_long = refl;
    bytes_same = refl;
    got = refl;
    kept = refl;
    scanned = refl;
  }

-- ---- asking

module _ (s : Store) (p : Plain) (Ty : Typed s.state) (h : sound_state s.state ≡ true) (m : Means s.state s.cells p)
    (key : Key) (buffer : List ℕ) where
  S : Sound s.state
  S = sound-is s.state h

  abbrev size : ℕ
  size = s.state.slot_bytes

  abbrev held_at : ℕ → Held Key
  held_at = held_in s.state.keys s.state.lengths

  -- what the model finds, and does by what it finds
  abbrev model_finds : Option (Held Key × List (Held Key))
  model_finds = find same_key key (map held_at (held_slots s.state.slots))

  abbrev model_asked : Option (Held Key × List (Held Key)) → Model × T.Seen
  model_asked o = asked (lent_by s) size (model_of s p) key (length buffer) o

  below : All (λ x. x < most_slots) (held_slots s.state.slots)
  below = All-map (λ x l. omega (arith, S.slots.few)) (held_below s.state S)

  module _ (A : Asked (lent_by s) p key) where
    pub there : key.query < s.state.query_count
    there = subst (λ k. key.query < k) (query-count s.state Ty S s.cells p m) A.there

    pub few-values : length key.values ≤ most_marks
    few-values =
        let e : length key.values ≡ (query_at s.state key.query).parameters =
        A.values ∙ sym (query-agrees s.state Ty S s.cells p m key.query there).parameters_are in
        rw e (query-parts _ (query_at s.state key.query) (query-at s.state Ty S key.query there)).few_parameters

    pub memory_lent : length s.memory ≡ s.state.memory
    unfolding other_lengths
    memory_lent =
        let same : Bool = eqb (length s.cells) p.lengths.cells in
        eqb-true (length s.memory) p.lengths.memory (and_right same _ (not-false (same && eqb (length s.memory) p.lengths.memory) A.lengths))
        ∙ m.memory_is

    -- ---- found at place i of the order, in the slot x; its record has k bytes

    abbrev shown : ℕ → ℕ → ℕ → Asks
    shown i x k =
        ask_gives
        (record { refusal = 0; cached = 1; scanned = 0; size = k; state = with_cache s.state (front_of s.state.slots i) s.state.keys s.state.lengths })
        s.memory
        (written buffer 0 (bytes_at s.state s.memory x))

    -- 13, or done
    abbrev short : ℕ → ℕ
    short k = lowest_of (kept_conditions (is_short (length buffer) k))

    abbrev found_with : ℕ → ℕ → ℕ → ℕ → Asks
    found_with n i x k = settled n (shown i x k) (ask_gives (ask_refused s.state n) s.memory buffer)

    short-meets : (n : ℕ) (i x k : ℕ) (q : Model × T.Seen) → Meets s buffer (step_ask s (shown i x k)) q → Meets s buffer (step_ask s (found_with n i x k)) (guard n (model_of s p) turned q)
    unfolding settled
    short-meets zero i x k q d = d
    short-meets (suc n) i x k q d = refused-meets s p m buffer (suc n)

    module _ (i : ℕ) (F : FoundAt (slot_has s.state.keys (key_of key.query key.values)) (held_slots s.state.slots) i) where
      pub place : get_or s.state.slots.order i 0 ≡ F.slot
      place =
          sym (get_or-take s.state.slots.held s.state.slots.order i 0 (found_inside s.state.slots _ i F))
          ∙ ap (λ (l : List ℕ). get_or l i 0) F.split
          ∙ get_or_at F.before F.slot F.after 0 i F.place

      long : length (bytes_at s.state s.memory F.slot) ≡ length_at s.state F.slot
      long = bytes-long s.state Ty S s.memory memory_lent F.slot (All-head (All-right F.before (rw F.split at (held-sound s.state S))))

      abbrev size_here : ℕ
      size_here = length (bytes_at s.state s.memory F.slot)

      cached-is : ask_cached s.state s.memory buffer i ≡ found_with (short size_here) i F.slot size_here
      unfolding ask_cached cached_refusal
      cached-is = ap (λ (y : ℕ). found_with (short (length_at s.state y)) i y (length_at s.state y)) place ∙ ap (λ (k : ℕ). found_with (short k) i F.slot k) (sym long)

      moved-meets : Meets s buffer (step_ask s (ask_cached s.state s.memory buffer i)) (model_asked (some (held_at F.slot, map held_at (F.before ++ F.after))))
      unfolding with_cache
      moved-meets =
          subst (λ (r : Asks). Meets s buffer (step_ask s r) (model_asked (some (held_at F.slot, map held_at (F.before ++ F.after))))) (sym cached-is)
          (short-meets (short size_here) i F.slot size_here _
          (record {
            means = cache-means s.state s.cells p m (front_of s.state.slots i) s.state.keys s.state.lengths;
            cached = sym (cached-front s.state Ty S s.memory _ i F);
            cells_long = refl;
            memory_long = refl;
            bytes_same = refl;
            got = refl;
            kept = refl;
            scanned = refl;
          }))

    -- ---- not found

    abbrev r : List ℕ
    r = record_at s.state s.cells key.query key.values

    -- the model's step, with the record x
    abbrev answered_new : List ℕ → Model × T.Seen
    answered_new x = (
      record { store = p; cache = put size (fits_slot size x) (cache_of s.state s.memory) key x },
      record { out = answered x; kept = 0; scanned = rows_read p key; drops = 0 },
    )

    newly-meets : Meets s buffer (step_ask s (newly s.state s.cells s.memory buffer key.query key.values)) (answered_new (record_of p key))
    unfolding with_cache
    newly-meets =
        let K = kept-is s.state Ty S s.memory (key_of key.query key.values) r in
        subst (λ (x : List ℕ). Meets s buffer (step_ask s (newly s.state s.cells s.memory buffer key.query key.values)) (answered_new x))
        (record_is s.state Ty S s.cells p m key.query there key.values)
        (record {
          means = subst (λ (t : State). Means t s.cells p) (sym K.3) (cache-means s.state s.cells p m K.0 K.1 K.2);
          cached =
              ap (λ (k : Key). put size (fits_slot size r) (cache_of s.state s.memory) k r) (sym (key-few key.query key.values few-values))
              ∙ sym (cached-put s.state Ty S s.memory (key_of key.query key.values) r);
          cells_long = refl;
          memory_long = kept-long s.state Ty S s.memory memory_lent r;
          bytes_same = ap (λ (t : State). t.slot_bytes) K.3;
          got = refl;
          kept = refl;
          scanned = read_asked s.state Ty S s.cells p m key.query there key.values;
        })

    -- 16, 13, or done
    new_meets : Meets s buffer (step_ask s (ask_new s.state s.cells s.memory buffer key.query key.values))
        (guard (T.new_refusal p key (length buffer)) (model_of s p) turned (answered_new (record_of p key)))
    unfolding ask_new settled
    new_meets =
        subst (λ (k : ℕ). Meets s buffer (step_ask s (ask_new s.state s.cells s.memory buffer key.query key.values)) (guard k (model_of s p) turned (answered_new (record_of p key))))
        (new-number s p Ty h m key buffer there)
        (go (new_refusal s.state s.cells (length buffer) key.query key.values))
      where
        go : (k : ℕ) → Meets s buffer (step_ask s (settled k (newly s.state s.cells s.memory buffer key.query key.values) (ask_gives (ask_refused s.state k) s.memory buffer)))
            (guard k (model_of s p) turned (answered_new (record_of p key)))
        go zero = newly-meets
        go (suc k) = refused-meets s p m buffer (suc k)

    -- ---- by what is found

    found-meets : (f : Found) → found_in s.state key.query key.values ≡ f
        → Meets s buffer (step_ask s (ask_found f s.state s.cells s.memory buffer key.query key.values)) (model_asked model_finds)
    found-meets (Some i) e =
        let F = found_at s.state.keys s.state.slots (key_of key.query key.values) i e in
        subst (λ o. Meets s buffer (step_ask s (ask_cached s.state s.memory buffer i)) (model_asked o))
        (sym (find-held s.state.keys s.state.lengths s.state.slots below key.query key.values few-values i F))
        (moved-meets i F)
    found-meets None e =
        subst (λ o. Meets s buffer (step_ask s (ask_new s.state s.cells s.memory buffer key.query key.values)) (model_asked o))
        (sym (find-missed s.state.keys s.state.lengths s.state.slots below key.query key.values few-values e))
        new_meets

  ask-meets : Meets s buffer (step s (ask key buffer)) (T.step (lent_by s) size (model_of s p) (ask key (length buffer)))
  unfolding step ask_of settled
  ask-meets =
      subst (λ (k : ℕ). Meets s buffer (step s (ask key buffer)) (guard k (model_of s p) turned (model_asked model_finds)))
      (ask-number s p Ty h m key buffer)
      (go (ask_refusal s.state (lent_by s) key.query (length key.values)) refl)
    where
      go : (k : ℕ) → ask_refusal s.state (lent_by s) key.query (length key.values) ≡ k
          → Meets s buffer (step_ask s (settled k (ask_found (found_in s.state key.query key.values) s.state s.cells s.memory buffer key.query key.values) (ask_gives (ask_refused s.state k) s.memory buffer)))
          (guard k (model_of s p) turned (model_asked model_finds))
      go zero e =
          let A = key-asked (lent_by s) p key (sym (ask-number s p Ty h m key buffer) ∙ e) in
          found-meets A (found_in s.state key.query key.values) refl
      go (suc k) e = refused-meets s p m buffer (suc k)

-- ---- the other calls: what they get, and the plain store after them, is known

-- what crate `pattern` states of sound statements
pub patterns-mean : DropsMean
patterns-mean = drops-mean

module _ (s : Store) (p : Plain) (Ty : Typed s.state) (h : sound_state s.state ≡ true)
    (m : Means s.state s.cells p) where
  abbrev lent : Lengths
  lent = lent_by s

  abbrev bytes : ℕ
  bytes = s.state.slot_bytes

  -- a text leaves the kept answers
  abbrev Leaves : Added → Type 0
  Leaves a = (cache_of a.state s.memory ≡ cache_of s.state s.memory) × (a.state.slot_bytes ≡ bytes)

  added-leaves : (k : ℕ) (c : Compiled) → Leaves (added_of k s.state c)
  added-leaves zero c = (refl, refl)
  added-leaves (suc zero) c = (refl, refl)
  added-leaves (suc (suc zero)) c = (refl, refl)
  added-leaves (suc (suc (suc zero))) c = (refl, refl)
  added-leaves (suc (suc (suc (suc k)))) c = (refl, refl)

  text-leaves : (text : List ℕ) → Leaves (add_of s.state (lent_by s) text)
  unfolding add_of settled added_by
  text-leaves text = go (add_refusal s.state (lent_by s) text)
    where
      go : (k : ℕ) → Leaves (settled k (added_by s.state (compiled_beside s.state text)) (add_refused s.state k))
      go zero = added-leaves (compiled_beside s.state text).kind (compiled_beside s.state text)
      go (suc k) = (refl, refl)

  abbrev Unmoved : State → Type 0
  Unmoved t = (cache_of t s.memory ≡ cache_of s.state s.memory) × (t.slot_bytes ≡ bytes)

  -- nor does a proposal or a withdrawal move them
  proposed-leaves : (n : ℕ) (us : List ℤ) → Unmoved (propose_of s.state s.cells s.memory n us).state
  unfolding propose_of settled would_do with_note
  proposed-leaves n us = go (update_refusal s.state (lent_by s) n (length us))
    where
      go : (k : ℕ) → Unmoved (settled k (would_do s.state s.cells n us) (propose_refused s.state k)).state
      go zero = (refl, refl)
      go (suc k) = (refl, refl)

  withdrawn-leaves : Unmoved (withdraw_of s.state (lent_by s)).state
  unfolding withdraw_of settled with_note
  withdrawn-leaves = go (pending_refusal s.state (lent_by s))
    where
      withdrawal : Flushed
      withdrawal = record { refusal = 0; state = with_note s.state None }

      go : (k : ℕ) → Unmoved (settled k withdrawal (record { refusal = k; state = s.state })).state
      go zero = (refl, refl)
      go (suc k) = (refl, refl)

  plain-guard : (k : ℕ) (d : Plain × Out)
      → guard k (model_of s p) turned (record { store = d.0; cache = (model_of s p).cache }, plainly d.1)
      ≡ (record { store = (guard k p refused d).0; cache = (model_of s p).cache }, plainly (guard k p refused d).1)
  plain-guard zero d = refl
  plain-guard (suc k) d = refl

  add_meets : (text : List ℕ) → Meets s [] (step s (add text)) (T.step lent bytes (model_of s p) (add text))
  unfolding step
  add_meets text =
      let D = does_as_plain s (add text) p Ty h m tt in
      subst (Meets s [] (step s (add text))) (sym (plain-guard (refusal lent p (add text)) (does p (add text))))
      (record {
        means = D.1;
        cached = sym (text-leaves text).0;
        cells_long = refl;
        memory_long = refl;
        bytes_same = (text-leaves text).1;
        got = D.0;
        kept = refl;
        scanned = refl;
      })

  propose-meets : (n : ℕ) (us : List ℤ) → Meets s [] (step s (propose n us)) (T.step lent bytes (model_of s p) (propose n us))
  unfolding step
  propose-meets n us =
      let D = does_as_plain s (propose n us) p Ty h m tt in
      subst (Meets s [] (step s (propose n us))) (sym (plain-guard (refusal lent p (propose n us)) (does p (propose n us))))
      (record {
        means = D.1;
        cached = sym (proposed-leaves n us).0;
        cells_long = refl;
        memory_long = refl;
        bytes_same = (proposed-leaves n us).1;
        got = D.0;
        kept = refl;
        scanned = refl;
      })

  withdraw-meets : Meets s [] (step s withdraw) (T.step lent bytes (model_of s p) withdraw)
  unfolding step
  withdraw-meets =
      let D = does_as_plain s withdraw p Ty h m tt in
      subst (Meets s [] (step s withdraw)) (sym (plain-guard (refusal lent p withdraw) (does p withdraw)))
      (record {
        means = D.1;
        cached = sym withdrawn-leaves.0;
        cells_long = refl;
        memory_long = refl;
        bytes_same = withdrawn-leaves.1;
        got = D.0;
        kept = refl;
        scanned = refl;
      })

  -- numbers of a refusal that the two stores give: both 0, or neither
  one-zero : {X : Type 0} (k : ℕ) → 0 ≡ suc k → X
  one-zero k e = absurd (omega arith)

  eight : (n : ℕ) → length (update_at s.state n).settings ≡ 8
  eight n = All-get_or n no_update refl (All-map (λ u f. f.eight) Ty.updates_fit)

  module _ (n : ℕ) (us : List ℤ) where
    abbrev done : Updates
    done = update_done s.state s.cells (update_at s.state n) us

    -- refused with j, or done
    abbrev outcome : ℕ → Updates
    outcome j = settled j done (update_gives (update_refused s.state j) s.cells)

    drops-meet : refusal lent p (change n us) ≡ 0 → (step_update s done).1.got ≡ got_of [] (does p (change n us)).1
        → Means done.result.state done.cells (does p (change n us)).0
        → Meets s [] (step_update s done) (dropping lent bytes (model_of s p) (change n us) (drops_key p n us))
    unfolding update_done with_change
    drops-meet e g M = record {
      means = M;
      cached =
          sym (cached-drop s.state Ty (sound-is s.state h) s.memory (is_dropped s.state s.cells (update_at s.state n) us) (drops_key p n us) (matched-is patterns-mean s.state Ty (sound-is s.state h) s.cells p m n (update-there s p Ty h m n us e) (update-long s p Ty h m n us e) us));
      cells_long = cells-length (update_at s.state n) _ _ s.cells us (eight n);
      memory_long = refl;
      bytes_same = refl;
      got = g;
      kept = refl;
      scanned = refl;
    }

    by_number : (j k : ℕ) → refusal lent p (change n us) ≡ k → (step_update s (outcome j)).1.got ≡ got_of [] (guard k p refused (does p (change n us))).1
        → Means (outcome j).result.state (outcome j).cells (guard k p refused (does p (change n us))).0
        → Meets s [] (step_update s (outcome j)) (guard k (model_of s p) turned (dropping lent bytes (model_of s p) (change n us) (drops_key p n us)))
    unfolding settled update_done
    by_number zero zero e g M = drops-meet e g M
    by_number zero (suc k) e g M = one-zero k (ap (λ (x : Got). x.refusal) g)
    by_number (suc j) zero e g M = one-zero j (sym (ap (λ (x : Got). x.refusal) g))
    by_number (suc j) (suc k) e g M = subst (λ (i : ℕ). Meets s [] (step_update s (outcome (suc j))) (model_of s p, turned i)) (ap (λ (x : Got). x.refusal) g) (refused-meets s p m [] (suc j))

    update-meets : Meets s [] (step s (change n us)) (T.step lent bytes (model_of s p) (change n us))
    unfolding step update_of
    update-meets =
        let D = does_as_plain s (change n us) p Ty h m tt in
        by_number (update_refusal s.state (lent_by s) n (length us)) (refusal lent p (change n us)) refl D.0 D.1

  -- a commit drops what the update of its note does
  abbrev committed_as : Option P.Note → (Key → Bool) → Model × T.Seen
  committed_as o d = (
    record { store = (committed p o).0; cache = drop_by d (model_of s p).cache },
    record { out = (committed p o).1; kept = 0; scanned = 0; drops = drop_count d (model_of s p).cache },
  )

  committing-is : (x : P.Note) → p.pending ≡ some x
      → committing lent bytes (model_of s p) p.pending ≡ dropping lent bytes (model_of s p) (change x.update x.values) (drops_key p x.update x.values)
  committing-is x e = ap (committing lent bytes (model_of s p)) e ∙ ap (λ (o : Option P.Note). committed_as o (drops_key p x.update x.values)) e

  committed-meets : refusal lent p commit ≡ 0 → (o : Maybe Note) → note_in s.state ≡ o
      → Meets s [] (step_update s (commit_done s.state s.cells o)) (committing lent bytes (model_of s p) p.pending)
  committed-meets z None e = no_note s p Ty h m z e
  committed-meets z (Some n) e =
      let D = noted-same s p Ty h m z n e in
      subst (Meets s [] (step_update s (commit_done s.state s.cells (Some n)))) (sym (committing-is (note_read n) (m.note_is ∙ ap pending_read e)))
      (drops-meet n.update (note_read n).values (noted-update s p Ty h m z n e) D.0 D.1)

  commit-meets : Meets s [] (step s commit) (T.step lent bytes (model_of s p) commit)
  unfolding step commit_of settled
  commit-meets =
      subst (λ (k : ℕ). Meets s [] (step s commit) (guard k (model_of s p) turned (committing lent bytes (model_of s p) p.pending)))
      (pending-number s p h m)
      (go (pending_refusal s.state lent) refl)
    where
      go : (k : ℕ) → pending_refusal s.state lent ≡ k
          → Meets s [] (step_update s (settled k (commit_done s.state s.cells (note_in s.state)) (update_gives (update_refused s.state k) s.cells)))
          (guard k (model_of s p) turned (committing lent bytes (model_of s p) p.pending))
      go zero e = committed-meets (sym (pending-number s p h m) ∙ e) (note_in s.state) refl
      go (suc k) e = refused-meets s p m [] (suc k)

  -- a flush drops every answer
  abbrev flush_with : ℕ → Flushed
  flush_with j = settled j (record { refusal = 0; state = emptied s.state }) (record { refusal = j; state = s.state })

  flushed-by : (j k : ℕ) → (step_flush s (flush_with j)).1.got ≡ got_of [] (guard k p refused (does p flush)).1
      → Meets s [] (step_flush s (flush_with j)) (guard k (model_of s p) turned (dropping lent bytes (model_of s p) flush (λ x. true)))
  unfolding settled
  flushed-by (suc j) zero g = one-zero j (sym (ap (λ (x : Got). x.refusal) g))
  flushed-by (suc j) (suc k) g = subst (λ (i : ℕ). Meets s [] (step_flush s (flush_with (suc j))) (model_of s p, turned i)) (ap (λ (x : Got). x.refusal) g) (refused-meets s p m [] (suc j))
  flushed-by zero (suc k) g = one-zero k (ap (λ (x : Got). x.refusal) g)
  flushed-by zero zero g = record {
    means = emptied-means s.state s.cells p m;
    cached = sym (cached-drop s.state Ty (sound-is s.state h) s.memory (λ x. true) (λ k. true) (All-every (λ x. refl) (held_slots s.state.slots)));
    cells_long = refl;
    memory_long = refl;
    bytes_same = refl;
    got = g;
    kept = refl;
    scanned = refl;
  }

  flush-meets : Meets s [] (step s flush) (T.step lent bytes (model_of s p) flush)
  unfolding step flush_of
  flush-meets = flushed-by (lowest_of (flush_conditions (unfit s.state lent))) (refusal lent p flush) (does_as_plain s flush p Ty h m tt).0

  -- ---- every call

  pub step-meets : (c : Call (List ℕ)) → Meets s (buffer_of c) (step s c) (T.step lent bytes (model_of s p) (plain_call c))
  step-meets (add text) = add_meets text
  step-meets (ask k buffer) = ask-meets s p Ty h m k buffer
  step-meets (change n us) = update-meets n us
  step-meets flush = flush-meets
  step-meets (propose n us) = propose-meets n us
  step-meets commit = commit-meets
  step-meets withdraw = withdraw-meets
