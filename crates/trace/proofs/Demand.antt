-- The claims of specs/Demand, for every opening and every list of calls: first from any laws of the plain store (TableLaws, a parameter), then, with the
-- laws that it keeps, outright. Assumes nothing.
use mathlib.Core.Path.{◌≡◌, refl, sym, ap, ap₂, ◌∙◌, subst, subst₂}
use mathlib.Core.Logic.{◌≢◌, ◌⊎◌, inl, inr}
use mathlib.Core.Bool.{Bool, true, false, not}
use mathlib.Core.Option.{Option, none, some}
use mathlib.Core.List.{List, [], ◌∷◌, ◌++◌, map}
use Prim.Native.Nat.{ℕ, zero, suc, ◌+◌, ◌*◌, ◌≤◌, zero-le}
use native.Mathlib.Omega.{arith}
use lib.ListN.{length, length-map, length-replicate}
use lib.Dec.{ltb}
use lib.IntN.{ℤ}
use borrow.Author.Tests.{ltb-false}
use Rattle.lists.specs.Lists.{All, nil, keep, count}
use Rattle.lists.proofs.Bools.{or_right}
use Rattle.lists.proofs.Lists.{All-head, All-tail, All-left, All-right, All-map, All-both, All-image, All-source, distinct-source, keep-map}
use Rattle.std.specs.Prelude.{fold}
use Rattle.meaning.proofs.Alike.{with_memory, refusal-alike}
use Rattle.meaning.proofs.Within32.{answer_reads_back}
use Rattle.meaning.specs.Key.{Key, same_key}
use Rattle.meaning.specs.Call.{Call32, Call, add, ask, change, flush, propose, commit, withdraw}
use Rattle.meaning.specs.Limits.{most_cells, most_memory, most_slots, least_slot_bytes, most_slot_bytes}
use Rattle.meaning.specs.Plain as P
use Rattle.meaning.specs.Plain.{Lengths, Plain, Opening, opening_refused, refusal, record_of, rows_read, drops_key, answered, guard, Note, Out, refused, does}
use Rattle.trace.specs.History.{Event, note, history_on, history, Ground}
use Rattle.trace.proofs.Recent.{Entry, recent}
use Rattle.trace.specs.Private.Slots.{Held, slot_bytes, find}
use Rattle.trace.specs.Private.Model.{Seen, turned, Model, ask_refusal, short_refusal, new_refusal, asked, step, after, outs, slots_opened, size_opened, memory_opened, slot_count, slot_size, opened, leaving, dropping, committing}
use Rattle.trace.specs.Private.Demand.{ModelStart, after_calls, next_call, plain_beside, keys_held, ModelSameAsPlain, ModelAnewOnlyIf, ModelKeptOtherwise, ModelDropsExactlyMatched, ModelKeptReadsBack, Tidy, ModelTidyAfter, Demands, DropsMatched, ModelCommitDrops, ModelProposalDropsNothing, ModelLarger, ModelKeptInLarger, ModelSameInBoth, ModelReadsNoMore}
use Rattle.trace.proofs.Laws.{TableLaws}
use Rattle.trace.proofs.Tables.{plain-laws}
use Rattle.trace.proofs.Past.{Past, start, past-step, Current, current, apart}
use Rattle.trace.proofs.Order.{names-from}
use Rattle.trace.proofs.Kept.{entry, Found, find-is, Sound}
use Rattle.trace.proofs.Same.{Agrees, step-agrees, after_store}
use Rattle.trace.proofs.Larger.{begins, note-alike, guard-alike}
use Rattle.trace.proofs.Anew.{filled, anew}

-- ---- opening: the memory has room for the slots

room-opened : (o : Opening) (memory : List ℕ) → length memory ≡ o.lent.memory → (b : Bool) → opening_refused o ≡ b
    → slots_opened b o * size_opened b o ≤ length (memory_opened b memory)
unfolding opening_refused
room-opened o memory e true h = zero-le
room-opened o memory e false h =
    let r₁ = or_right (ltb most_cells o.lent.cells) _ h in
    let r₂ = or_right (ltb most_memory o.lent.memory) _ r₁ in
    let r₃ = or_right (ltb most_slots o.slots) _ r₂ in
    let r₄ = or_right (ltb o.slot_bytes least_slot_bytes) _ r₃ in
    let r₅ = or_right (ltb most_slot_bytes o.slot_bytes) _ r₄ in
    let le : o.slots * o.slot_bytes ≤ o.lent.memory = ltb-false o.lent.memory (o.slots * o.slot_bytes) r₅ in
    rw (length-replicate {A = ℕ} (length memory) 0, e) le

-- ---- a question that is answered: marked as kept, or no slot holds its key

abbrev Missing : Model → Key → Type 0
Missing s k = All (λ e. e.key ≢ k) s.cache.held

-- what a question gets: its refusal; the answer that a slot holds, and no row is read; or one worked out anew, and no slot holds its key
pub data AskGets (s : Model) (k : Key) : Seen → Type 0 where
  turned_away : (n : ℕ) → AskGets s k (turned (suc n))
  from_slot : (r : List ℕ) → ¬ Missing s k → AskGets s k (record { out = answered r; kept = 1; scanned = 0; drops = 0 })
  worked_out : (r : List ℕ) → Missing s k → AskGets s k (record { out = answered r; kept = 0; scanned = rows_read s.store k; drops = 0 })

guard-gets : (m : ℕ) (s : Model) (k : Key) (q : Model × Seen) → AskGets s k q.1 → AskGets s k (guard m s turned q).1
guard-gets zero s k q a = a
guard-gets (suc m) s k q a = turned_away m

pub ask-gets : (lent : Lengths) (size : ℕ) (s : Model) (k : Key) (b : ℕ) → AskGets s k (step lent size s (ask k b)).1
ask-gets lent size s k b = guard-gets (ask_refusal lent s.store k) s k _ (go (find same_key k s.cache.held) (find-is same_key k s.cache.held))
  where
    go : (o : Option (Held Key × List (Held Key))) → Found k s.cache.held o → AskGets s k (asked lent size s k b o).1
    go none f = guard-gets (new_refusal s.store k b) s k _ (worked_out (record_of s.store k) f)
    go (some w) (x, y, held-is, rest_is, key_is) =
        guard-gets (short_refusal b (slot_bytes size s.cache.memory w.0)) s k _ (from_slot (slot_bytes size s.cache.memory w.0) (λ m. All-head (All-right x (rw held-is at m)) key_is))

kept-or-missing : (s : Model) (k : Key) (r : List ℕ) (x : Seen) → AskGets s k x → x.out ≡ answered r → (x.kept ≡ 1) ⊎ Missing s k
kept-or-missing s k r x (turned_away n) e = absurd (cc)
kept-or-missing s k r x (from_slot q h) e = inl refl
kept-or-missing s k r x (worked_out q h) e = inr h

-- ---- an update drops exactly what it matches

module _ (lent : Lengths) (size : ℕ) (s : Model) (c : Call ℕ) (n : ℕ) (us : List ℤ) where
  abbrev Matched : Model × Seen → Plain → Type 0
  Matched r p =
      (keys_held r.0 ≡ keep (λ (k : Key). not (drops_key p n us k)) (keys_held s))
      × (r.1.drops ≡ count (drops_key p n us) (keys_held s))

  drops-own : Matched (dropping lent size s c (drops_key s.store n us)) s.store
  drops-own = (
    keep-map (λ (x : Held Key). x.key) (λ (k : Key). not (drops_key s.store n us k)) s.cache.held,
    sym (length-map (keep (λ (x : Held Key). drops_key s.store n us x.key) s.cache.held) (λ (x : Held Key). x.key))
        ∙ ap length (keep-map (λ (x : Held Key). x.key) (drops_key s.store n us) s.cache.held),
  )

  drops-at : (p : Plain) → s.store ≡ p → step lent size s c ≡ dropping lent size s c (drops_key s.store n us) → Matched (step lent size s c) p
  drops-at p e i = subst (Matched (step lent size s c)) e (subst (λ (r : Model × Seen). Matched r s.store) (sym i) drops-own)

-- ---- a list of calls, step by step

-- what a call in the middle of a list gets is what it gets after the calls before it
pub outs-split : (lent : Lengths) (size : ℕ) (s : Model) (cs : List (Call ℕ)) (c : Call ℕ) (ds : List (Call ℕ))
    → outs lent size s (cs ++ c ∷ ds)
    ≡ outs lent size s cs ++ (step lent size (after lent size s cs) c).1 ∷ outs lent size (step lent size (after lent size s cs) c).0 ds
outs-split lent size s [] c ds = refl
outs-split lent size s (x ∷ cs) c ds = ap (λ l. (step lent size s x).1 ∷ l) (outs-split lent size (step lent size s x).0 cs c ds)

module _ (𝓛 : TableLaws) (lent : Lengths) (n size : ℕ) where
  -- what a list of calls keeps between the two stores
  pub record Agree (s : Model) (p : Plain) (h : List (Event Key)) : Type 0 where
    pub stored : s.store ≡ p
    pub fine : 𝓛.Good p
    pub past : Past lent p h
    pub sound : Sound same_key n size s.cache h

  agrees : {s : Model} {p : Plain} {h : List (Event Key)} → Agree s p h → (c : Call ℕ)
      → Agrees lent n size (note (refusal lent p c) p c h) (P.step lent p c) (step lent size s c)
  agrees {s} {p} {h} a c =
      subst (λ (x : Plain). Agrees lent n size (note (refusal lent x c) x c h) (P.step lent x c) (step lent size s c)) a.stored
      (step-agrees lent n size s h (rw a.stored a.past) a.sound c)

  pub agree-step : {s : Model} {p : Plain} {h : List (Event Key)} → Agree s p h → (c : Call ℕ) → Call32 c
      → Agree (step lent size s c).0 (P.step lent p c).0 (note (refusal lent p c) p c h)
  agree-step {s} {p} {h} a c v = record {
    stored = (agrees a c).stored;
    fine = 𝓛.good_step lent p a.fine c v;
    past = past-step 𝓛 lent a.fine a.past c;
    sound = (agrees a c).sound;
  }

  pub agree_after : {s : Model} {p : Plain} {h : List (Event Key)} → Agree s p h → (cs : List (Call ℕ)) → All Call32 cs
      → Agree (after lent size s cs) (P.after lent p cs) (history_on lent p h cs)
  agree_after a [] v = a
  agree_after {s = s} {p = p} {h = h} a (c ∷ cs) v =
      agree_after {s = (step lent size s c).0} {p = (P.step lent p c).0} {h = note (refusal lent p c) p c h} (agree-step a c (All-head v)) cs (All-tail v)

  agree-outs : {s : Model} {p : Plain} {h : List (Event Key)} → Agree s p h → (cs : List (Call ℕ)) → All Call32 cs
      → map (λ (o : Seen). o.out) (outs lent size s cs) ≡ P.outs lent p cs
  agree-outs a [] v = refl
  agree-outs {s = s} {p = p} {h = h} a (c ∷ cs) v =
      ap₂ (λ x l. x ∷ l) (agrees a c).got
      (agree-outs {s = (step lent size s c).0} {p = (P.step lent p c).0} {h = note (refusal lent p c) p c h} (agree-step a c (All-head v)) cs (All-tail v))

  -- the keys held are those of `recent`
  missing-recent : {s : Model} {p : Plain} {h : List (Event Key)} → Agree s p h → (k : Key) → Missing s k → All (λ x. x.0 ≢ k) (recent same_key n size h)
  missing-recent {s} {p} {h} a k m = rw (← a.sound.view) (All-image (entry size s.cache.memory) m)

  tidy-at : {s : Model} {p : Plain} {h : List (Event Key)} → Agree s p h → Tidy n size lent p s.cache
  tidy-at {s} {p} {h} a =
      let all : All (Current lent size p) (map (entry size s.cache.memory) s.cache.held) = rw a.sound.view (current lent n size a.past) in
      record {
        slots_once = a.sound.names;
        keys_once =
            distinct-source (entry size s.cache.memory) (λ (x : Entry Key). x.0) s.cache.held (rw a.sound.view (apart same_key n size h));
        right =
            All-map (λ e q. (q.0.asked, q.0.right, q.1))
            (All-both (All-source (entry size s.cache.memory) s.cache.held all) a.sound.lens);
      }

-- ---- a store and one with at least as many slots, each beside a plain store of its own; these differ in the length of the kept memory alone

-- what a call gets from the smaller, and from the larger
record NoWorse (x y : Seen) : Type 0 where
  pub same : x.out ≡ y.out
  pub marked : x.kept ≡ 1 → y.kept ≡ 1
  pub kept : x.kept ≤ y.kept
  pub read : y.scanned ≤ x.scanned

abbrev Unmarked : Seen → Type 0
Unmarked x = (x.kept ≡ 0) × (x.scanned ≡ 0)

unmarked : {x y : Seen} → x.out ≡ y.out → Unmarked x → Unmarked y → NoWorse x y
unmarked e a b = record { same = e; marked = λ i. omega (arith, a.0); kept = omega (arith, a.0); read = omega (arith, b.1) }

-- a call that is no question
guard-unmarked : (m : ℕ) (s : Model) (q : Model × Seen) → Unmarked q.1 → Unmarked (guard m s turned q).1
guard-unmarked zero s q a = a
guard-unmarked (suc m) s q a = (refl, refl)

unmarked-commit : (lent : Lengths) (size : ℕ) (s : Model) (o : Option Note) → Unmarked (committing lent size s o).1
unmarked-commit lent size s none = (refl, refl)
unmarked-commit lent size s (some x) = (refl, refl)

-- a question, where a key that no slot of the larger holds is held by none of the smaller
no-worse-ask : {s l : Model} {k : Key} {x y : Seen} → (Missing l k → Missing s k) → rows_read l.store k ≡ rows_read s.store k
    → AskGets s k x → AskGets l k y → x.out ≡ y.out → NoWorse x y
no-worse-ask f i (turned_away n) (turned_away m) e = unmarked e (refl, refl) (refl, refl)
no-worse-ask f i (turned_away n) (from_slot q h) e = absurd (cc)
no-worse-ask f i (turned_away n) (worked_out q h) e = absurd (cc)
no-worse-ask f i (from_slot r g) (turned_away m) e = absurd (cc)
no-worse-ask f i (from_slot r g) (from_slot q h) e = record { same = e; marked = λ z. refl; kept = omega arith; read = omega arith }
no-worse-ask f i (from_slot r g) (worked_out q h) e = absurd (g (f h))
no-worse-ask f i (worked_out r g) (turned_away m) e = absurd (cc)
no-worse-ask f i (worked_out r g) (from_slot q h) e = record { same = e; marked = λ z. refl; kept = omega arith; read = omega arith }
no-worse-ask f i (worked_out r g) (worked_out q h) e = record { same = e; marked = λ z. z; kept = omega arith; read = omega (arith, i) }

module _ (𝓛 : TableLaws) (lent lent' : Lengths) (cells : lent.cells ≡ lent'.cells) (n m size : ℕ) (le : n ≤ m) where
  record Both (s l : Model) : Type 0 where
    plain : Plain
    past : List (Event Key)
    small : Agree 𝓛 lent n size s (with_memory lent.memory plain) past
    large : Agree 𝓛 lent' m size l (with_memory lent'.memory plain) past

  -- a call that is refused with r, or taken
  agree-alike : (x : Lengths) (slots : ℕ) (s : Model) (p : Plain) (h : List (Event Key)) (c : Call ℕ) (r : ℕ) → refusal x (with_memory x.memory p) c ≡ r → Call32 c
      → Agree 𝓛 x slots size s (with_memory x.memory p) h
      → Agree 𝓛 x slots size (step x size s c).0 (with_memory x.memory (guard r p refused (does p c)).0) (note r p c h)
  agree-alike x slots s p h c r e v a =
      let q : Plain = with_memory x.memory p in
      subst₂ (λ (y : Plain) (g : List (Event Key)). Agree 𝓛 x slots size (step x size s c).0 y g)
      (ap (λ (i : ℕ). (guard i q refused (does q c)).0) e ∙ ap (λ (y : Plain × Out). y.0) (guard-alike r x.memory p c))
      (ap (λ (i : ℕ). note i q c h) e ∙ note-alike r x.memory p c h)
      (agree-step 𝓛 x slots size a c v)

  module _ (s l : Model) (b : Both s l) where
    abbrev p : Plain
    p = b.plain

    both-step : (c : Call ℕ) → Call32 c → Both (step lent size s c).0 (step lent' size l c).0
    both-step c v =
        let r : ℕ = refusal lent (with_memory lent.memory p) c in
        record {
          plain = (guard r p refused (does p c)).0;
          past = note r p c b.past;
          small = agree-alike lent n s p b.past c r refl v b.small;
          large = agree-alike lent' m l p b.past c r (sym (refusal-alike lent lent' cells p c)) v b.large;
        }

    -- what a call gets in both is what the plain store gives
    both-same : (c : Call ℕ) → (step lent size s c).1.out ≡ (step lent' size l c).1.out
    both-same c =
        (agrees 𝓛 lent n size b.small c).got
        ∙ ap (λ (x : Plain × Out). x.1) (guard-alike (refusal lent (with_memory lent.memory p) c) lent.memory p c)
        ∙ ap (λ (i : ℕ). (guard i p refused (does p c)).1) (refusal-alike lent lent' cells p c)
        ∙ sym (ap (λ (x : Plain × Out). x.1) (guard-alike (refusal lent' (with_memory lent'.memory p) c) lent'.memory p c))
        ∙ sym (agrees 𝓛 lent' m size b.large c).got

    -- a key that no slot of the larger holds is held by none of the smaller
    both-missing : (k : Key) → Missing l k → Missing s k
    both-missing k h =
        let (c, i) = begins same_key n m size le b.past in
        let out : All (λ x. x.0 ≢ k) (recent same_key n size b.past) =
        All-left (recent same_key n size b.past) c (rw i (missing-recent 𝓛 lent' m size b.large k h)) in
        let out' : All (λ x. x.0 ≢ k) (map (entry size s.cache.memory) s.cache.held) = rw b.small.sound.view out in
        All-source (entry size s.cache.memory) s.cache.held out'

    both-next : (c : Call ℕ) → NoWorse (step lent size s c).1 (step lent' size l c).1
    both-next c = go c (both-same c)
      where
        go : (c : Call ℕ) → (step lent size s c).1.out ≡ (step lent' size l c).1.out → NoWorse (step lent size s c).1 (step lent' size l c).1
        go (ask k i) e =
            no-worse-ask (both-missing k)
            (ap (λ (q : Plain). rows_read q k) b.large.stored ∙ sym (ap (λ (q : Plain). rows_read q k) b.small.stored))
            (ask-gets lent size s k i) (ask-gets lent' size l k i) e
        go (add text) e = unmarked e (guard-unmarked _ s _ (refl, refl)) (guard-unmarked _ l _ (refl, refl))
        go (change i us) e = unmarked e (guard-unmarked _ s _ (refl, refl)) (guard-unmarked _ l _ (refl, refl))
        go flush e = unmarked e (guard-unmarked _ s _ (refl, refl)) (guard-unmarked _ l _ (refl, refl))
        go (propose i us) e = unmarked e (guard-unmarked _ s _ (refl, refl)) (guard-unmarked _ l _ (refl, refl))
        go commit e =
            unmarked e (guard-unmarked _ s _ (unmarked-commit lent size s s.store.pending))
            (guard-unmarked _ l _ (unmarked-commit lent' size l l.store.pending))
        go withdraw e = unmarked e (guard-unmarked _ s _ (refl, refl)) (guard-unmarked _ l _ (refl, refl))

  -- ---- every call of a list

  both-after : (s l : Model) → Both s l → (cs : List (Call ℕ)) → All Call32 cs → Both (after lent size s cs) (after lent' size l cs)
  both-after s l b [] v = b
  both-after s l b (c ∷ cs) v = both-after (step lent size s c).0 (step lent' size l c).0 (both-step s l b c (All-head v)) cs (All-tail v)

  both-outs : (s l : Model) → Both s l → (cs : List (Call ℕ)) → All Call32 cs
      → map (λ (o : Seen). o.out) (outs lent size s cs) ≡ map (λ (o : Seen). o.out) (outs lent' size l cs)
  both-outs s l b [] v = refl
  both-outs s l b (c ∷ cs) v =
      ap₂ (λ x y. x ∷ y) (both-same s l b c) (both-outs (step lent size s c).0 (step lent' size l c).0 (both-step s l b c (All-head v)) cs (All-tail v))

  -- with a sum so far
  both-kept : (s l : Model) → Both s l → (cs : List (Call ℕ)) → All Call32 cs → (x y : ℕ) → x ≤ y
      → fold (λ (a : ℕ) (o : Seen). a + o.kept) x (outs lent size s cs) ≤ fold (λ (a : ℕ) (o : Seen). a + o.kept) y (outs lent' size l cs)
  both-kept s l b [] v x y h = h
  both-kept s l b (c ∷ cs) v x y h =
      both-kept (step lent size s c).0 (step lent' size l c).0 (both-step s l b c (All-head v)) cs (All-tail v) _ _ (omega (arith, h, (both-next s l b c).kept))

  both-read : (s l : Model) → Both s l → (cs : List (Call ℕ)) → All Call32 cs → (x y : ℕ) → y ≤ x
      → fold (λ (a : ℕ) (o : Seen). a + o.scanned) y (outs lent' size l cs) ≤ fold (λ (a : ℕ) (o : Seen). a + o.scanned) x (outs lent size s cs)
  both-read s l b [] v x y h = h
  both-read s l b (c ∷ cs) v x y h =
      both-read (step lent size s c).0 (step lent' size l c).0 (both-step s l b c (All-head v)) cs (All-tail v) _ _ (omega (arith, h, (both-next s l b c).read))

-- ---- the theorems

-- after an opening and every list of calls the tables and statements are the plain store's
pub stored-after : (s : ModelStart) (cs : List (Call ℕ)) → (after_calls s cs).store ≡ plain_beside s cs
stored-after s cs = after_store s.opening.lent (slot_size s.opening) (opened s.opening s.memory) (P.opened s.opening) refl cs

-- demand 2, of the kept answers: an update, and a commit
module _ (s : ModelStart) (cs : List (Call ℕ)) where
  abbrev m : Model
  m = after_calls s cs

  abbrev size : ℕ
  size = slot_size s.opening

  -- a call that is not refused
  taken : (c : Call ℕ) → refusal s.opening.lent (plain_beside s cs) c ≡ 0 → refusal s.opening.lent m.store c ≡ 0
  taken c e = ap (λ (p : Plain). refusal s.opening.lent p c) (stored-after s cs) ∙ e

  matched_by : (n : ℕ) (us : List ℤ) → refusal s.opening.lent (plain_beside s cs) (change n us) ≡ 0 → DropsMatched s cs (change n us) n us
  matched_by n us e =
      drops-at s.opening.lent size m (change n us) n us (plain_beside s cs) (stored-after s cs)
      (ap (λ (i : ℕ). guard i m turned (dropping s.opening.lent size m (change n us) (drops_key m.store n us))) (taken (change n us) e))

  commit_by : (x : Note) → (plain_beside s cs).pending ≡ some x → refusal s.opening.lent (plain_beside s cs) commit ≡ 0 → DropsMatched s cs commit x.update x.values
  commit_by x i e =
      drops-at s.opening.lent size m commit x.update x.values (plain_beside s cs) (stored-after s cs)
      (ap (λ (k : ℕ). guard k m turned (committing s.opening.lent size m m.store.pending)) (taken commit e)
      ∙ ap (committing s.opening.lent size m) (ap (λ (p : Plain). p.pending) (stored-after s cs) ∙ i))

pub drops_exactly_matched : ModelDropsExactlyMatched
drops_exactly_matched s cs n us e = matched_by s cs n us e

pub commit_drops : ModelCommitDrops
commit_drops s cs x i e = commit_by s cs x i e

pub proposal_drops_nothing : ModelProposalDropsNothing
proposal_drops_nothing s cs n us = go (refusal s.opening.lent (after_calls s cs).store (propose n us))
  where
    m : Model
    m = after_calls s cs

    next : Model × Seen
    next = leaving s.opening.lent (slot_size s.opening) m (propose n us)

    go : (k : ℕ) → ((guard k m turned next).0.cache ≡ m.cache) × ((guard k m turned next).1.drops ≡ 0)
    go zero = (refl, refl)
    go (suc k) = (refl, refl)

module _ (𝓛 : TableLaws) where
  agree-opened : (s : ModelStart)
      → Agree 𝓛 s.opening.lent (slot_count s.opening) (slot_size s.opening) (opened s.opening s.memory) (P.opened s.opening) []
  agree-opened s = record {
    stored = refl;
    fine = 𝓛.good_opened s.opening;
    past = start;
    sound = record {
      names = names-from (slot_count s.opening);
      lens = nil;
      room = room-opened s.opening s.memory s.lent (opening_refused s.opening) refl;
      view = refl;
    };
  }

  -- after an opening and every list of calls the two stores agree
  pub agree-calls : (s : ModelStart) (cs : List (Call ℕ)) → All Call32 cs
      → Agree 𝓛 s.opening.lent (slot_count s.opening) (slot_size s.opening) (after_calls s cs) (plain_beside s cs)
      (history s.opening.lent (P.opened s.opening) cs)
  agree-calls s cs v = agree_after 𝓛 s.opening.lent (slot_count s.opening) (slot_size s.opening) (agree-opened s) cs v

  -- demand 3, first part
  pub same_as_plain : ModelSameAsPlain
  same_as_plain s cs v = (
    agree-outs 𝓛 s.opening.lent (slot_count s.opening) (slot_size s.opening) (agree-opened s) cs v,
    stored-after s cs,
  )

  -- a key that no slot holds is none of `recent`
  gone : (s : ModelStart) (cs : List (Call ℕ)) → All Call32 cs → (k : Key) → Missing (after_calls s cs) k
      → All (λ x. x.0 ≢ k) (recent same_key (slot_count s.opening) (slot_size s.opening) (history s.opening.lent (P.opened s.opening) cs))
  gone s cs v k m = missing-recent 𝓛 s.opening.lent (slot_count s.opening) (slot_size s.opening) (agree-calls s cs v) k m

  -- demand 3, second part
  pub anew_only_if : ModelAnewOnlyIf
  anew_only_if s cs v k buffer r e z =
      go (kept-or-missing (after_calls s cs) k r _ (ask-gets s.opening.lent (slot_size s.opening) (after_calls s cs) k buffer) e)
    where
      go : ((next_call s cs (ask k buffer)).kept ≡ 1) ⊎ Missing (after_calls s cs) k
          → Ground same_key (slot_count s.opening) (slot_size s.opening) (record_of (plain_beside s cs) k) k
          (history s.opening.lent (P.opened s.opening) cs)
      go (inl y) = absurd (omega arith)
      go (inr m) = anew s.opening.lent (slot_count s.opening) (slot_size s.opening) (agree-calls s cs v).past k (gone s cs v k m)

  -- its converse
  pub kept_otherwise : ModelKeptOtherwise
  kept_otherwise s cs v k buffer r e a f d few =
      go (kept-or-missing (after_calls s cs) k r _ (ask-gets s.opening.lent (slot_size s.opening) (after_calls s cs) k buffer) e)
    where
      go : ((next_call s cs (ask k buffer)).kept ≡ 1) ⊎ Missing (after_calls s cs) k → (next_call s cs (ask k buffer)).kept ≡ 1
      go (inl y) = y
      go (inr m) =
          absurd (few (filled s.opening.lent (slot_count s.opening) (slot_size s.opening) (agree-calls s cs v).past k (gone s cs v k m) f a d))

  -- the kept answers after every list
  pub tidy_after : ModelTidyAfter
  tidy_after s cs v = tidy-at 𝓛 s.opening.lent (slot_count s.opening) (slot_size s.opening) (agree-calls s cs v)

  -- the next call gets what it gets from the plain store
  pub next-same : (s : ModelStart) (cs : List (Call ℕ)) → All Call32 cs → (c : Call ℕ) → (next_call s cs c).out ≡ (P.step s.opening.lent (plain_beside s cs) c).1
  next-same s cs v c = (agrees 𝓛 s.opening.lent (slot_count s.opening) (slot_size s.opening) (agree-calls s cs v) c).got

  -- so its record reads back
  pub kept_reads_back : ModelKeptReadsBack
  kept_reads_back s cs v k buffer r e later = answer_reads_back s.opening cs v k buffer r (sym (next-same s cs v (ask k buffer)) ∙ e) later

  -- a store and one with more slots: both begin on one plain store without tables
  module _ (s l : ModelStart) (g : ModelLarger s l) where
    abbrev first : Plain
    first = record { lengths = s.opening.lent; tables = []; queries = []; updates = []; pending = none }

    more : slot_count s.opening ≤ slot_count l.opening
    more = rw (g.small_taken, g.large_taken) g.more_slots

    same_size : slot_size l.opening ≡ slot_size s.opening
    same_size = rw (g.small_taken, g.large_taken) (sym g.same_bytes)

    both : Both 𝓛 s.opening.lent l.opening.lent g.same_cells (slot_count s.opening) (slot_count l.opening) (slot_size s.opening) more
        (opened s.opening s.memory) (opened l.opening l.memory)
    both = record {
      plain = first;
      past = [];
      small =
          subst (λ (b : Bool). Agree 𝓛 s.opening.lent (slot_count s.opening) (slot_size s.opening) (opened s.opening s.memory)
          (record first { lengths = P.lengths_of b s.opening.lent }) []) g.small_taken (agree-opened s);
      large =
          subst₂ (λ (z : ℕ) (x : Lengths). Agree 𝓛 l.opening.lent (slot_count l.opening) z (opened l.opening l.memory) (record first { lengths = x }) [])
          same_size
          (ap (λ (b : Bool). P.lengths_of b l.opening.lent) g.large_taken
          ∙ ap (λ (n : ℕ). record { cells = n; memory = l.opening.lent.memory }) (sym g.same_cells))
          (agree-opened l);
    }

  pub kept_in_larger : ModelKeptInLarger
  kept_in_larger s l g cs v k buffer e =
      let b = both-after 𝓛 _ _ g.same_cells _ _ _ (more s l g) _ _ (both s l g) cs v in
      rw (next_call, after_calls, same_size s l g) ((both-next 𝓛 _ _ g.same_cells _ _ _ (more s l g) _ _ b (ask k buffer)).marked e)

  pub same_in_both : ModelSameInBoth
  same_in_both s l g cs v = rw (same_size s l g) (both-outs 𝓛 _ _ g.same_cells _ _ _ (more s l g) _ _ (both s l g) cs v)

  pub reads_no_more : ModelReadsNoMore
  reads_no_more s l g cs v =
      rw (same_size s l g)
      (both-kept 𝓛 _ _ g.same_cells _ _ _ (more s l g) _ _ (both s l g) cs v 0 0 zero-le, both-read 𝓛 _ _ g.same_cells _ _ _ (more s l g) _ _ (both s l g) cs v 0 0 zero-le)

-- ---- outright

pub demands : Demands
demands = record {
  same_as_plain = same_as_plain plain-laws;
  anew_only_if = anew_only_if plain-laws;
  kept_otherwise = kept_otherwise plain-laws;
  drops_exactly_matched = drops_exactly_matched;
  commit_drops = commit_drops;
  proposal_drops_nothing = proposal_drops_nothing;
  kept_reads_back = kept_reads_back plain-laws;
  tidy_after = tidy_after plain-laws;
  kept_in_larger = kept_in_larger plain-laws;
  same_in_both = same_in_both plain-laws;
  reads_no_more = reads_no_more plain-laws;
}
