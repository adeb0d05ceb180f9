-- The kept answers of a sound state stay sound: where one is found and its slot moves to the front, where a new one takes the last slot, and where some are dropped.
-- Assumes nothing.
use mathlib.Core.Path.{◌≡◌, refl, sym, subst}
use mathlib.Core.Logic.{◌≢◌}
use mathlib.Core.Bool.{Bool, false, not}
use mathlib.Core.List.{List, [], ◌∷◌, ◌++◌, append-nil}
use Prim.Native.Nat.{ℕ, ◌*◌, ◌≤◌, ◌<◌}
use native.Mathlib.Decide.{dec_lt}
use native.Mathlib.Omega.{arith}
use lib.ListN.{length, get_or, set}
use lib.Seq.{get_or-set_same, get_or-set_other}
use Rattle.lists.specs.Lists.{All, cons}
use Rattle.lists.proofs.Lists.{All-map, All-both, All-left, All-keep}
use Rattle.lists.proofs.Moved.{Moved, moved-All}
use Rattle.meaning.specs.Limits.{least_slot_bytes}
use Rattle.slots.specs.declared.Key.{Key}
use Rattle.slots.specs.declared.SlotList.{SlotList}
use Rattle.slots.specs.Keys.{no_key, key_read, slot_key, held_twice, held_slots}
use Rattle.slots.specs.Order.{front_of, last_taken, drop_by}
use Rattle.slots.proofs.Laws as L
use Rattle.slots.proofs.Laws.{held-front, front-sound, drop-held, drop-sound, TakenFree, TakenHeld, taken-sound, taken-below, taken_free, taken-held}
use Rattle.slots.proofs.HeldLaws.{front-once, drop-once, put-once}
use Rattle.cache.specs.Sound.{KeyFits}
use Rattle.cache.specs.declared.State.{State}
use Rattle.cache.specs.Gives.{with_cache, put_in}
use Rattle.cache.specs.Means.{Typed}
use Rattle.cache.proofs.Invariant.Sound.{Sound}

dropped-count : (p : ℕ → Bool) (l : SlotList) → (drop_by p l).count ≡ l.count
unfolding drop_by
dropped-count p l = refl

-- ---- the kept answers of a state, and others in their place

pub record Answers (s : State) (slots : SlotList) (keys : List Key) (lengths : List ℕ) : Type 0 where
  pub count_same : slots.count ≡ s.slots.count
  pub slots_sound : L.Sound slots
  pub lengths_fit : All (λ (x : ℕ). (least_slot_bytes ≤ get_or lengths x 0) × (get_or lengths x 0 ≤ s.slot_bytes)) (held_slots slots)
  pub keys_sound : All (λ (x : ℕ). KeyFits s (slot_key keys x)) (held_slots slots)
  pub once : held_twice keys slots ≡ false

pub answers-are : (s : State) → Sound s → Answers s s.slots s.keys s.lengths
unfolding held_twice
answers-are s S = record {
  count_same = refl;
  slots_sound = S.slots;
  lengths_fit = All-map (λ x L. (L.least, L.most)) S.lengths;
  keys_sound = S.keys;
  once = S.once;
}

module _ (s : State) (S : Sound s) where
  pub answers-sound : (slots : SlotList) (keys : List Key) (lengths : List ℕ) → Answers s slots keys lengths → Sound (with_cache s slots keys lengths)
  unfolding with_cache held_twice
  answers-sound slots keys lengths A = record {
    sizes =
        let e : slots.count ≡ s.slots.count = A.count_same in
        record {
          few_cells = S.sizes.few_cells;
          few_memory = S.sizes.few_memory;
          few_slots = omega (arith, S.sizes.few_slots);
          least_bytes = S.sizes.least_bytes;
          most_bytes = S.sizes.most_bytes;
          room = subst (λ (n : ℕ). n * s.slot_bytes ≤ s.memory) (sym e) S.sizes.room;
        };
    few_tables = S.few_tables;
    few_queries = S.few_queries;
    few_updates = S.few_updates;
    areas = S.areas;
    rows = S.rows;
    starts = S.starts;
    tables = S.tables;
    queries = S.queries;
    updates = S.updates;
    lengths = All-map (λ x L. record { least = L.0; most = L.1 }) A.lengths_fit;
    keys = All-map (λ x K. record { there = K.there; values = K.values }) A.keys_sound;
    once = A.once;
    slots = A.slots_sound;
    note = λ n e. let N = S.note n e in record { there = N.there; values = N.values; room = N.room };
  }

  abbrev answers : Answers s s.slots s.keys s.lengths
  answers = answers-are s S

  -- ---- "A kept answer found moves its slot to the front."

  module _ (p : ℕ) (h : p < s.slots.held) where
    held_moved : Moved (held_slots s.slots) (held_slots (front_of s.slots p))
    held_moved = held-front s.slots p h

    pub front-stays : Sound (with_cache s (front_of s.slots p) s.keys s.lengths)
    unfolding front_of
    front-stays = answers-sound (front_of s.slots p) s.keys s.lengths (record {
      count_same = refl;
      slots_sound = front-sound s.slots p (omega (arith, S.slots.within)) S.slots;
      lengths_fit = moved-All held_moved answers.lengths_fit;
      keys_sound = moved-All held_moved answers.keys_sound;
      once = front-once s.keys s.slots p h answers.once;
    })

  -- ---- "Drops put held slots first and free ones after, each in the order they had."

  module _ (T : Typed s) (p : ℕ → Bool) where
    pub drop-stays : Sound (with_cache s (drop_by p s.slots) s.keys s.lengths)
    drop-stays =
        let left : ℕ → Bool = λ (x : ℕ). not (p x) in
        answers-sound (drop_by p s.slots) s.keys s.lengths (record {
          count_same = dropped-count p s.slots;
          slots_sound = drop-sound s.slots p S.slots T.order-64;
          lengths_fit = rw (drop-held s.slots p) (All-keep left (λ x h e. h) answers.lengths_fit);
          keys_sound = rw (drop-held s.slots p) (All-keep left (λ x h e. h) answers.keys_sound);
          once = drop-once s.keys s.slots p answers.once;
        })

  -- ---- "A new record that fits a slot takes the last slot and moves it to the front."

  module _ (T : Typed s) (some : 1 ≤ s.slots.count) where
    abbrev last : ℕ
    last = (last_taken s.slots).slot

    -- the other slots that are held then, and what else was held
    record Others : Type 0 where
      others : List ℕ
      rest : List ℕ
      before : held_slots s.slots ≡ others ++ rest
      held : held_slots (last_taken s.slots).slots ≡ last ∷ others
      apart : All (λ (x : ℕ). x ≢ last) others

    others-are : Others
    others-are = go (dec_lt s.slots.held s.slots.count)
      where
        go : Dec (s.slots.held < s.slots.count) → Others
        go (yes h) =
            let F : TakenFree s.slots = taken_free s.slots S.slots T.order-64 some h in
            record { others = held_slots s.slots; rest = []; before = sym (append-nil (held_slots s.slots)); held = F.held; apart = F.apart }
        go (no h) =
            let e : s.slots.held ≡ s.slots.count = omega (arith, S.slots.within) in
            let H : TakenHeld s.slots = taken-held s.slots S.slots T.order-64 some e in
            record { others = H.others; rest = last ∷ []; before = H.before; held = H.held; apart = H.apart }

    last-below : last < s.slots.count
    last-below = taken-below s.slots S.slots some

    module _ (key : Key) (r : List ℕ) (ok : KeyFits s key) (least : least_slot_bytes ≤ length r) (most : length r ≤ s.slot_bytes)
        (new : All (λ (x : ℕ). key_read (slot_key s.keys x) ≢ key_read key) (held_slots s.slots)) where
      abbrev keys' : List Key
      keys' = set s.keys last key

      abbrev sizes' : List ℕ
      sizes' = set s.lengths last (length r)

      key_here : slot_key keys' last ≡ key
      key_here = get_or-set_same s.keys last key no_key (omega (arith, last-below, S.slots.few, T.keys-64))

      key-there : (x : ℕ) → x ≢ last → slot_key keys' x ≡ slot_key s.keys x
      key-there x h = get_or-set_other s.keys last x key no_key h

      length-here : get_or sizes' last 0 ≡ length r
      length-here = get_or-set_same s.lengths last (length r) 0 (omega (arith, last-below, S.slots.few, T.lengths-64))

      length-there : (x : ℕ) → x ≢ last → get_or sizes' x 0 ≡ get_or s.lengths x 0
      length-there x h = get_or-set_other s.lengths last x (length r) 0 h

      abbrev Fit : ℕ → Type 0
      Fit n = (least_slot_bytes ≤ n) × (n ≤ s.slot_bytes)

      -- what the others had they have still
      still-have : (O : Others) {P Q : ℕ → Type 0} → ((x : ℕ) → x ≢ last → P x → Q x) → All P (held_slots s.slots) → All Q O.others
      still-have O {P} f a =
          All-map (λ x h. f x h.0 h.1) (All-both O.apart (All-left O.others O.rest (subst (All P) O.before a)))

      put-answers : (O : Others) → Answers s (last_taken s.slots).slots keys' sizes'
      put-answers O = record {
        count_same = refl;
        slots_sound = taken-sound s.slots S.slots T.order-64 some;
        lengths_fit = rw O.held
            (cons (subst Fit (sym length-here) (least, most)) (still-have O (λ x h L. subst Fit (sym (length-there x h)) L) answers.lengths_fit));
        keys_sound = rw O.held
            (cons (subst (KeyFits s) (sym key_here) ok) (still-have O (λ x h K. subst (KeyFits s) (sym (key-there x h)) K) answers.keys_sound));
        once = put-once s.keys s.slots key S.slots T.order-64 some T.keys-64 answers.once new;
      }

      pub put-stays : Sound (put_in s key r (last_taken s.slots))
      put-stays = answers-sound (last_taken s.slots).slots keys' sizes' (put-answers others-are)
