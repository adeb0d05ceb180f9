-- The order of use, and which answers are kept, on every sound state: a call does with the kept answers of the state what it does with those of the model (Refinement/CallsOfModel), and those are
-- what is kept after a history that is made up of the answers that the state keeps (crate `trace`, Recent). Assumes nothing.
use mathlib.Core.Path.{◌≡◌, refl, sym, ap, ap₂, ◌∙◌, subst}
use mathlib.Core.Logic.{◌≢◌, inl, inr}
use mathlib.Core.Bool.{Bool, true, false, not, cond, ◌&&◌}
use mathlib.Core.Option.{Option, none, some}
use mathlib.Core.List.{List, [], ◌∷◌, ◌++◌, map, append_assoc}
use Prim.Native.Nat.{ℕ, zero, suc, ◌+◌, ◌*◌, ◌≤◌}
use native.Mathlib.Omega.{arith}
use borrow.Author.Tests.{le-leb}
use lib.IntN.{ℤ}
use lib.ListN.{length, take, drop, length-map}
use lib.Seq.{take_all, take_at}
use Rattle.std.proofs.lemmas.Simd.{map-map}
use Rattle.lists.specs.Lists.{All, nil, cons, DistinctBy, keep, written}
use Rattle.lists.proofs.Lists.{All-head, All-right, All-map, All-image, map-append, keep_all, keep-map}
use Rattle.lists.proofs.Repeats.{distinct-map}
use Rattle.meaning.specs.Key.{Key, same_key}
use Rattle.meaning.specs.Plain.{Plain, Note, Out, refused, answered, record_of, drops_key, guard}
use Rattle.meaning.specs.Plain as P
use Rattle.meaning.specs.Call.{Call, add, ask, change, flush, propose, commit, withdraw}
use Rattle.meaning.proofs.Accepted.{Asked, key-asked}
use Rattle.trace.specs.History.{Event, answer_of, fits_slot}
use Rattle.trace.specs.Private.Slots.{Names, Held, Cache, slots_of, slot_bytes, find, put, drop_by, move_to_front}
use Rattle.trace.specs.Private.Model as T
use Rattle.trace.specs.Private.Model.{Model, turned, asked, leaving, dropping, committing}
use Rattle.trace.proofs.Recent.{spared, other, front, recent}
use Rattle.trace.proofs.Past.{other-yes}
use Rattle.trace.proofs.Kept as K
use Rattle.trace.proofs.Kept.{entry, Found, find-is, hit, put-sound}
use Rattle.slots.specs.Keys.{key_read, slot_key, held_twice, held_slots}
use Rattle.slots.specs.Order.{free_slots}
use Rattle.slots.proofs.KeyLaws.{not-twice}
use Rattle.slots.proofs.Laws.{held-free, slots_length, held-length}
use Rattle.cache.specs.declared.State.{State}
use Rattle.cache.specs.SoundTest.{sound_state}
use Rattle.cache.specs.Means.{Means, Typed}
use Rattle.cache.specs.Calls.{bytes_at}
use Rattle.cache.specs.Run.{Store, lent_by, Got, Seen, step, buffer_of, plain_call, got_of}
use Rattle.cache.specs.Demand.{answers_held, with_used, without_dropped, without_noted, answers_after, OrderOfUse}
use Rattle.cache.proofs.Invariant.Sound.{Sound, sound-is, HeldSound, held-sound}
use Rattle.cache.proofs.Refinement.SlotsAsCache.{held_in, cache_of}
use Rattle.cache.proofs.Refinement.Caching.{bytes-long}
use Rattle.cache.proofs.Refinement.CallsOfModel.{model_of, Meets, memory_lent, step-meets}

-- ---- a history of answers with different keys, as many as there are slots at most: all of them are kept

abbrev Answer : Type 0
Answer = Key × List ℕ

abbrev made : List Answer → List (Event Key)
made xs = map (λ (x : Answer). answer_of x.0 x.1) xs

recent-made : (n size : ℕ) (xs : List Answer) → DistinctBy (λ (x : Answer). x.0) xs → All (λ (x : Answer). fits_slot size x.1 ≡ true) xs → length xs ≤ n
    → recent same_key n size (made xs) ≡ xs
recent-made n size [] d f h = refl
recent-made n size (x ∷ xs) d (cons e f) h =
    ap (λ (b : Bool). front same_key b n x.0 x.1 (recent same_key n size (made xs))) e
    ∙ ap (λ (l : List Answer). take n ((x.0, x.1) ∷ keep (other same_key x.0) l)) (recent-made n size xs d.1 f (omega arith))
    ∙ ap (λ (l : List Answer). take n (x ∷ l)) (keep_all (other same_key x.0) (All-map (λ y ne. other-yes same_key x.0 y ne) d.0))
    ∙ take_all n (x ∷ xs) h

-- ---- the answers of a cache, and those of a state

abbrev answers_in : ℕ → Cache Key → List Answer
answers_in size c = map (entry size c.memory) c.held

held-are : (s : Store) → answers_held s ≡ answers_in s.state.slot_bytes (cache_of s.state s.memory)
held-are s = sym (map-map (entry s.state.slot_bytes s.memory) (held_in s.state.keys s.state.lengths) (held_slots s.state.slots))

-- an answer given, as `recent` has it
used-is : (s : State) (k : Key) (r : List ℕ) (xs : List Answer) → front same_key (fits_slot s.slot_bytes r) s.slots.count k r xs ≡ with_used s k r xs
used-is s k r xs = go (fits_slot s.slot_bytes r)
  where
    go : (b : Bool) → front same_key b s.slots.count k r xs ≡ cond b (take s.slots.count ((k, r) ∷ keep (other same_key k) xs)) xs
    go true = refl
    go false = refl

none-kept : (xs : List Answer) → keep (spared (λ (k : Key). true)) xs ≡ []
none-kept [] = refl
none-kept (x ∷ xs) = none-kept xs

-- ---- the slots of a state whose memory is the opening's

module _ (s : Store) (Ty : Typed s.state) (h : sound_state s.state ≡ true) (lent : length s.memory ≡ s.state.memory) where
  S : Sound s.state
  S = sound-is s.state h

  abbrev size : ℕ
  size = s.state.slot_bytes

  abbrev n : ℕ
  n = s.state.slots.count

  abbrev held_at : ℕ → Held Key
  held_at = held_in s.state.keys s.state.lengths

  abbrev cache : Cache Key
  cache = cache_of s.state s.memory

  slots-are : (l : List ℕ) → slots_of (map held_at l) ≡ l
  slots-are [] = refl
  slots-are (x ∷ l) = ap (λ (r : List ℕ). x ∷ r) (slots-are l)

  order-is : slots_of cache.held ++ cache.free ≡ take n s.state.slots.order
  order-is = ap (λ (l : List ℕ). l ++ free_slots s.state.slots) (slots-are (held_slots s.state.slots)) ∙ sym (held-free s.state.slots S.slots.within)

  names : Names n (slots_of cache.held ++ cache.free)
  names = rw order-is (record { once = S.slots.once; below = S.slots.below; count = slots_length s.state.slots S.slots Ty.order-64 })

  different : DistinctBy (λ (x : Answer). x.0) (answers_held s)
  unfolding held_twice
  different =
      distinct-map (λ (x : ℕ). (key_read (slot_key s.state.keys x), bytes_at s.state s.memory x)) (λ (x : Answer). x.0) (held_slots s.state.slots)
      (not-twice s.state.keys s.state.slots S.once)

  fitting : All (λ (x : Answer). fits_slot size x.1 ≡ true) (answers_held s)
  fitting =
      All-image (λ (x : ℕ). (key_read (slot_key s.state.keys x), bytes_at s.state s.memory x))
      (All-map (λ x H. le-leb (length (bytes_at s.state s.memory x)) size (omega (arith, bytes-long s.state Ty S s.memory lent x H, H.long.most))) (held-sound s.state S))

  few : length (answers_held s) ≤ n
  few =
      let e : length (answers_held s) ≡ length (held_slots s.state.slots) =
      length-map (held_slots s.state.slots) (λ (x : ℕ). (key_read (slot_key s.state.keys x), bytes_at s.state s.memory x)) in
      omega (arith, held-length s.state.slots S.slots Ty.order-64, S.slots.within)

  abbrev past : List (Event Key)
  past = made (answers_held s)

  past-kept : recent same_key n size past ≡ answers_held s
  past-kept = recent-made n size (answers_held s) different fitting few

  kept-sound : K.Sound same_key n size cache past
  kept-sound = record {
    names = names;
    lens = All-image held_at (All-map (λ x H. H.long.most) (held-sound s.state S));
    room = rw lent S.sizes.room;
    view = sym (held-are s) ∙ sym past-kept;
  }

  -- an answer given then
  given : (k : Key) (r : List ℕ) → recent same_key n size (answer_of k r ∷ past) ≡ with_used s.state k r (answers_held s)
  given k r = ap (front same_key (fits_slot size r) n k r) past-kept ∙ used-is s.state k r (answers_held s)

-- ---- a call that is taken

module _ (s : Store) (p : Plain) (Ty : Typed s.state) (h : sound_state s.state ≡ true) (m : Means s.state s.cells p) where
  abbrev model : Model
  model = model_of s p

  abbrev bytes : ℕ
  bytes = s.state.slot_bytes

  -- what the model does where no number is given
  passed : (k : ℕ) (b : List ℕ) (x : Model × T.Seen) → (got_of b (guard k model turned x).1.out).refusal ≡ 0 → (k ≡ 0) × (guard k model turned x ≡ x)
  passed zero b x e = (refl, refl)
  passed (suc k) b x e = absurd (omega arith)

  same-held : (k : ℕ) (b : List ℕ) (x : Model × T.Seen) → (got_of b (guard k model turned x).1.out).refusal ≡ 0 → x.0.cache ≡ cache_of s.state s.memory
      → answers_in bytes (guard k model turned x).0.cache ≡ answers_held s
  same-held k b x e i = ap (λ (y : Model × T.Seen). answers_in bytes y.0.cache) (passed k b x e).1 ∙ ap (answers_in bytes) i ∙ sym (held-are s)

  dropped-held : (k : ℕ) (b : List ℕ) (x : Model × T.Seen) (d : Key → Bool) → (got_of b (guard k model turned x).1.out).refusal ≡ 0
      → x.0.cache ≡ drop_by d (cache_of s.state s.memory) → answers_in bytes (guard k model turned x).0.cache ≡ keep (spared d) (answers_held s)
  dropped-held k b x d e i =
      ap (λ (y : Model × T.Seen). answers_in bytes y.0.cache) (passed k b x e).1
      ∙ ap (answers_in bytes) i
      ∙ keep-map (entry bytes s.memory) (spared d) (cache_of s.state s.memory).held
      ∙ ap (keep (spared d)) (sym (held-are s))

  committed-held : (k : ℕ) (o : Option Note) → (got_of [] (guard k model turned (committing (lent_by s) bytes model o)).1.out).refusal ≡ 0
      → answers_in bytes (guard k model turned (committing (lent_by s) bytes model o)).0.cache ≡ without_noted p o (answers_held s)
  committed-held k none e = same-held k [] (committing (lent_by s) bytes model none) e refl
  committed-held k (some x) e = dropped-held k [] (committing (lent_by s) bytes model (some x)) (drops_key p x.update x.values) e refl

  -- ---- a question

  module _ (k : Key) (buffer : List ℕ) where
    abbrev held : List (Held Key)
    held = (cache_of s.state s.memory).held

    abbrev finds : Option (Held Key × List (Held Key))
    finds = find same_key k held

    -- the record that it got
    abbrev record_got : Got → List ℕ
    record_got g = take g.size g.answer

    abbrev Orders : Model × T.Seen → Type 0
    Orders q = (got_of buffer q.1.out).refusal ≡ 0 → answers_in bytes q.0.cache ≡ with_used s.state k (record_got (got_of buffer q.1.out)) (answers_held s)

    orders : (r : List ℕ) (q : Model × T.Seen) → q.1.out ≡ answered r → answers_in bytes q.0.cache ≡ with_used s.state k r (answers_held s) → Orders q
    orders r q i j e =
        j
        ∙ ap (λ (x : List ℕ). with_used s.state k x (answers_held s))
        (sym (ap (λ (o : Out). record_got (got_of buffer o)) i ∙ take_at r (drop (0 + length r) buffer) (length r) refl))

    orders-guarded : (j : ℕ) (q : Model × T.Seen) → Orders q → Orders (guard j model turned q)
    orders-guarded zero q o = o
    orders-guarded (suc j) q o = λ e. absurd (omega arith)

    module _ (A : Asked (lent_by s) p k) where
      lent : length s.memory ≡ s.state.memory
      lent = memory_lent s p Ty h m k buffer A

      orders-found : (o : Option (Held Key × List (Held Key))) → Found k held o → Orders (asked (lent_by s) bytes model k (length buffer) o)
      orders-found none F =
          let r : List ℕ = record_of p k in
          let q : Model × T.Seen = (
            record { store = p; cache = put bytes (fits_slot bytes r) (cache_of s.state s.memory) k r },
            record { out = answered r; kept = 0; scanned = P.rows_read p k; drops = 0 },
          ) in
          orders-guarded (T.new_refusal p k (length buffer)) q
          (orders r q refl
          ((put-sound same_key s.state.slots.count bytes (cache_of s.state s.memory) (past s Ty h lent) k r F (kept-sound s Ty h lent) (fits_slot bytes r) refl).view
          ∙ given s Ty h lent k r))
      orders-found (some w) (a, b, i, j, e) =
          let r : List ℕ = slot_bytes bytes s.memory w.0 in
          let c : List (Held Key) → Cache Key = λ l. record { held = l; free = free_slots s.state.slots; memory = s.memory } in
          let S = subst (λ (l : List (Held Key)). K.Sound same_key s.state.slots.count bytes (c l) (past s Ty h lent)) i (kept-sound s Ty h lent) in
          let f : fits_slot bytes r ≡ true = fits-held w.0 a b i in
          let q : Model × T.Seen = (record { store = p; cache = move_to_front (cache_of s.state s.memory) w }, record { out = answered r; kept = 1; scanned = 0; drops = 0 }) in
          orders-guarded (T.short_refusal (length buffer) r) q
          (orders r q refl
          (ap (λ (l : List (Held Key)). map (entry bytes s.memory) (w.0 ∷ l)) j
          ∙ (hit same_key s.state.slots.count bytes s.memory (free_slots s.state.slots) (past s Ty h lent) k r a w.0 b e refl f S).view
          ∙ given s Ty h lent k r))
        where
          fits-held : (x : Held Key) (a b : List (Held Key)) → held ≡ a ++ x ∷ b → fits_slot bytes (slot_bytes bytes s.memory x) ≡ true
          fits-held x a b i =
              All-head (All-right (map (entry bytes s.memory) a)
              (subst (All (λ (y : Answer). fits_slot bytes y.1 ≡ true)) (held-are s ∙ ap (map (entry bytes s.memory)) i ∙ map-append (entry bytes s.memory) a (x ∷ b)) (fitting s Ty h lent)))

    orders-asked : (j : ℕ) → T.ask_refusal (lent_by s) p k ≡ j → Orders (guard j model turned (asked (lent_by s) bytes model k (length buffer) finds))
    orders-asked zero e = orders-found (key-asked (lent_by s) p k e) finds (find-is same_key k held)
    orders-asked (suc j) e = λ z. absurd (omega arith)

  -- ---- every call

  abbrev does : Call (List ℕ) → Model × T.Seen
  does c = T.step (lent_by s) bytes model (plain_call c)

  model-orders : (c : Call (List ℕ)) → (got_of (buffer_of c) (does c).1.out).refusal ≡ 0
      → answers_in bytes (does c).0.cache ≡ answers_after s p c (got_of (buffer_of c) (does c).1.out)
  model-orders (add text) e = same-held (P.refusal (lent_by s) p (add text)) [] (leaving (lent_by s) bytes model (add text)) e refl
  model-orders (ask k buffer) e = orders-asked k buffer (T.ask_refusal (lent_by s) p k) refl e
  model-orders (change n us) e =
      dropped-held (P.refusal (lent_by s) p (change n us)) [] (dropping (lent_by s) bytes model (change n us) (drops_key p n us)) (drops_key p n us) e refl
  model-orders flush e =
      dropped-held (P.refusal (lent_by s) p flush) [] (dropping (lent_by s) bytes model flush (λ k. true)) (λ k. true) e refl ∙ none-kept (answers_held s)
  model-orders (propose n us) e = same-held (P.refusal (lent_by s) p (propose n us)) [] (leaving (lent_by s) bytes model (propose n us)) e refl
  model-orders commit e = committed-held (P.refusal (lent_by s) p commit) p.pending e
  model-orders withdraw e = same-held (P.refusal (lent_by s) p withdraw) [] (leaving (lent_by s) bytes model withdraw) e refl

pub order_of_use : OrderOfUse
order_of_use s c p Ty h m z =
    let M = step-meets s p Ty h m c in
    held-are (step s c).0
    ∙ ap₂ answers_in M.bytes_same (sym M.cached)
    ∙ model-orders s p Ty h m c (sym (ap (λ (g : Got). g.refusal) M.got) ∙ z)
    ∙ ap (answers_after s p c) (sym M.got)
