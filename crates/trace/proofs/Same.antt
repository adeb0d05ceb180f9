-- A call gets from the store that keeps answers what it gets from the plain store, and the slots keep what `recent` says of the history; and whatever the
-- slots keep, it leaves the tables and statements that it leaves there. Assumes nothing.
use mathlib.Core.Path.{◌≡◌, refl, ap, ◌∙◌, sym}
use mathlib.Core.Bool.{true, false, Bool}
use mathlib.Core.Option.{Option, none, some}
use mathlib.Core.List.{List, [], ◌∷◌, ◌++◌, map}
use Prim.Native.Nat.{ℕ, zero, suc}
use Rattle.lists.specs.Lists.{All}
use Rattle.lists.proofs.Lists.{All-head, All-right, All-source}
use Rattle.meaning.specs.Key.{Key, same_key}
use Rattle.meaning.specs.Plain as P
use Rattle.meaning.specs.Plain.{Lengths, Plain, refusal, record_of, too_many, drops_key, Out, refused, does, guard, Note}
use Rattle.meaning.specs.Call.{Call, add, ask, change, flush, propose, commit, withdraw}
use Rattle.trace.specs.History.{Event, answer_of, noted, note, fits_slot, commit_noted, drop_of}
use Rattle.trace.specs.Private.Slots.{Held, slot_bytes, find, move_to_front}
use Rattle.trace.specs.Private.Model.{Seen, turned, Model, ask_refusal, short_refusal, new_refusal, asked, step, after, leaving, dropping, committing}
use Rattle.trace.proofs.Laws.{first_of, ask-refusal}
use Rattle.trace.proofs.Past.{Past, Current, current}
use Rattle.trace.proofs.Kept.{entry, Found, find-is, Sound, hit, put-sound, drop-sound}

-- ---- tables and statements, whatever the slots keep

module _ (lent : Lengths) (size : ℕ) where
  guard-store : (m : ℕ) (s : Model) (q : Model × Seen) (p : Plain × Out) → q.0.store ≡ p.0
      → (guard m s turned q).0.store ≡ (guard m s.store refused p).0
  guard-store zero s q p e = e
  guard-store (suc m) s q p e = refl

  -- a question leaves them as they were
  guard-asked : (m : ℕ) (s : Model) (q : Model × Seen) → q.0.store ≡ s.store → (guard m s turned q).0.store ≡ s.store
  guard-asked zero s q e = e
  guard-asked (suc m) s q e = refl

  asked-store : (s : Model) (k : Key) (b : ℕ) (o : Option (Held Key × List (Held Key))) → (asked lent size s k b o).0.store ≡ s.store
  asked-store s k b none = guard-asked (new_refusal s.store k b) s _ refl
  asked-store s k b (some w) = guard-asked (short_refusal b (slot_bytes size s.cache.memory w.0)) s _ refl

  step-store : (s : Model) (c : Call ℕ) → (step lent size s c).0.store ≡ (P.step lent s.store c).0
  step-store s (add text) = guard-store (refusal lent s.store (add text)) s _ _ refl
  step-store s (ask k b) =
      guard-asked (ask_refusal lent s.store k) s _ (asked-store s k b (find same_key k s.cache.held)) ∙ sym (stays (refusal lent s.store (ask k b)))
    where
      stays : (m : ℕ) → (guard m s.store refused (does s.store (ask k b))).0 ≡ s.store
      stays zero = refl
      stays (suc m) = refl
  step-store s (change n us) = guard-store (refusal lent s.store (change n us)) s _ _ refl
  step-store s flush = guard-store (refusal lent s.store flush) s _ _ refl
  step-store s (propose n us) = guard-store (refusal lent s.store (propose n us)) s _ _ refl
  step-store s commit = guard-store (refusal lent s.store commit) s _ _ (commit-store s.store.pending)
    where
      commit-store : (o : Option Note) → (committing lent size s o).0.store ≡ (does s.store commit).0
      commit-store none = refl
      commit-store (some x) = refl
  step-store s withdraw = guard-store (refusal lent s.store withdraw) s _ _ refl

  pub after_store : (s : Model) (p : Plain) → s.store ≡ p → (cs : List (Call ℕ)) → (after lent size s cs).store ≡ P.after lent p cs
  after_store s p e [] = e
  after_store s p e (c ∷ cs) = after_store (step lent size s c).0 (P.step lent p c).0 (step-store s c ∙ ap (λ (x : Plain). (P.step lent x c).0) e) cs

-- ---- what a call gets

module _ (lent : Lengths) (n size : ℕ) where
  -- what the two stores give for a call, and what holds after it
  pub record Agrees (h : List (Event Key)) (p : Plain × Out) (q : Model × Seen) : Type 0 where
    pub stored : q.0.store ≡ p.0
    pub got : q.1.out ≡ p.1
    pub sound : Sound same_key n size q.0.cache h

  -- a call that is refused with m, or taken
  guarded : (m : ℕ) (c : Call ℕ) (s : Model) (h : List (Event Key)) (p : Plain × Out) (q : Model × Seen) → Sound same_key n size s.cache h
      → Agrees (noted s.store c h) p q → Agrees (note m s.store c h) (guard m s.store refused p) (guard m s turned q)
  guarded zero c s h p q ok a = a
  guarded (suc m) c s h p q ok a = record { stored = refl; got = refl; sound = ok }

  module _ (s : Model) (h : List (Event Key)) (past : Past lent s.store h) (ok : Sound same_key n size s.cache h) where
    -- an answer found: its bytes are the record of now
    found-current : (a : List (Held Key)) (e : Held Key) (b : List (Held Key)) → s.cache.held ≡ a ++ e ∷ b
        → Current lent size s.store (entry size s.cache.memory e)
    found-current a e b i =
        let all : All (Current lent size s.store) (map (entry size s.cache.memory) s.cache.held) = rw ok.view (current lent n size past) in
        All-head (All-right a (rw i at (All-source (entry size s.cache.memory) s.cache.held all)))

    asked-agrees : (k : Key) (b : ℕ) (o : Option (Held Key × List (Held Key))) → Found k s.cache.held o
        → Agrees (note (new_refusal s.store k b) s.store (ask k b) h)
        (guard (new_refusal s.store k b) s.store refused (does s.store (ask k b)))
        (asked lent size s k b o)
    asked-agrees k b none miss =
        guarded (new_refusal s.store k b) (ask k b) s h _ _ ok
        (record {
          stored = refl;
          got = refl;
          sound = put-sound same_key n size s.cache h k (record_of s.store k) miss ok (fits_slot size (record_of s.store k)) refl;
        })
    asked-agrees k b (some w) (x, y, held-is, rest_is, key_is) =
        let g = found-current x w.0 y held-is in
        let e : slot_bytes size s.cache.memory w.0 ≡ record_of s.store k = g.right ∙ ap (record_of s.store) key_is in
        let moved : Sound same_key n size (move_to_front s.cache w) (answer_of k (record_of s.store k) ∷ h) =
        rw rest_is
        (hit same_key n size s.cache.memory s.cache.free h k (record_of s.store k) x w.0 y key_is e (rw e at g.small) (rw held-is at ok)) in
        let few : too_many s.store k ≡ false = ap (too_many s.store) (sym key_is) ∙ g.few in
        rw (e, few) (guarded (short_refusal b (record_of s.store k)) (ask k b) s h _ _ ok (record { stored = refl; got = refl; sound = moved }))

    -- a call that leaves the kept answers, and one that drops those of d
    leaves : (c : Call ℕ) → noted s.store c h ≡ h → Agrees (note (refusal lent s.store c) s.store c h) (P.step lent s.store c) (guard (refusal lent s.store c) s turned (leaving lent size s c))
    leaves c i = guarded (refusal lent s.store c) c s h _ _ ok (record { stored = refl; got = refl; sound = rw i ok })

    drops-by : (c : Call ℕ) (d : Key → Bool) → noted s.store c h ≡ drop_of d ∷ h
        → Agrees (note (refusal lent s.store c) s.store c h) (P.step lent s.store c) (guard (refusal lent s.store c) s turned (dropping lent size s c d))
    drops-by c d i = guarded (refusal lent s.store c) c s h _ _ ok (record { stored = refl; got = refl; sound = rw i (drop-sound same_key n size s.cache h d ok) })

    pub step-agrees : (c : Call ℕ) → Agrees (note (refusal lent s.store c) s.store c h) (P.step lent s.store c) (step lent size s c)
    step-agrees (add text) = leaves (add text) refl
    step-agrees (ask k b) = rw (ask-refusal lent s.store k b) (go (ask_refusal lent s.store k))
      where
        go : (m : ℕ)
            → Agrees (note (first_of m (new_refusal s.store k b)) s.store (ask k b) h)
            (guard (first_of m (new_refusal s.store k b)) s.store refused (does s.store (ask k b)))
            (guard m s turned (asked lent size s k b (find same_key k s.cache.held)))
        go zero = asked-agrees k b (find same_key k s.cache.held) (find-is same_key k s.cache.held)
        go (suc m) = record { stored = refl; got = refl; sound = ok }
    step-agrees (change i us) = drops-by (change i us) (drops_key s.store i us) refl
    step-agrees flush = drops-by flush (λ k. true) refl
    step-agrees (propose i us) = leaves (propose i us) refl
    step-agrees commit = go s.store.pending refl
      where
        go : (o : Option Note) → s.store.pending ≡ o
            → Agrees (note (refusal lent s.store commit) s.store commit h) (P.step lent s.store commit)
            (guard (refusal lent s.store commit) s turned (committing lent size s o))
        go none e = leaves commit (ap (λ (o : Option Note). commit_noted s.store o h) e)
        go (some x) e = drops-by commit (drops_key s.store x.update x.values) (ap (λ (o : Option Note). commit_noted s.store o h) e)
    step-agrees withdraw = leaves withdraw refl
