-- What a call does to the kept answers of a sound state is what it does in the model: found, put into the last slot, dropped. Assumes nothing.
use mathlib.Core.Path.{◌≡◌, refl, sym, ap, ap₂, ◌∙◌}
use mathlib.Core.Logic.{◌≢◌}
use mathlib.Core.Bool.{Bool, true, false, not, ◌&&◌, cond}
use mathlib.Core.List.{List, [], ◌∷◌, ◌++◌, map}
use Prim.Native.Nat.{ℕ, ◌*◌, ◌≤◌, ◌<◌}
use native.Mathlib.Decide.{dec_le}
use native.Mathlib.Omega.{arith}
use borrow.Author.Tests.{leb-true}
use lib.Dec.{leb}
use lib.ListN.{length, set}
use lib.Seq.{get_or-set_same, get_or-set_other}
use Rattle.lists.specs.Lists.{All, keep, written}
use Rattle.lists.proofs.Lists.{All-map, map_same, keep-map}
use Rattle.lists.proofs.Written.{slot-written, slot-length}
use Rattle.meaning.specs.Key as M
use Rattle.meaning.specs.Limits.{most_slots}
use Rattle.trace.specs.History.{fits_slot}
use Rattle.trace.specs.Private.Slots.{Held, move_to_front, take_last, put_in, put, drop_by}
use Rattle.slots.specs.declared.Key.{Key}
use Rattle.slots.specs.declared.SlotList.{SlotList}
use Rattle.slots.specs.declared.Taken.{Taken}
use Rattle.slots.specs.Keys.{no_key, key_read, held_slots}
use Rattle.slots.specs.Order as order
use Rattle.slots.specs.Order.{free_slots, front_of, is_open, last_taken}
use Rattle.slots.proofs.KeyLaws.{FoundAt, found_inside}
use Rattle.slots.proofs.Laws.{front-found, front-free, slots-open, taken-below, drop-held, drop-free}
use Rattle.cache.specs.declared.State.{State}
use Rattle.cache.specs.Sound.{length_at}
use Rattle.cache.specs.Means.{Typed}
use Rattle.cache.specs.Gives as calls
use Rattle.cache.specs.Calls.{bytes_at}
use Rattle.cache.specs.Gives.{with_cache, takes_slot, kept, kept_bytes, kept_memory}
use Rattle.cache.proofs.Invariant.Sound.{Sound, HeldSound}
use Rattle.cache.proofs.Lists.{keep_same}
use Rattle.cache.proofs.Refinement.SlotsAsCache.{held_in, cache_in, cache_of, Last, last-is, none_last}

module _ (s : State) (T : Typed s) (S : Sound s) (memory : List ℕ) where
  abbrev held_at : ℕ → Held M.Key
  held_at = held_in s.keys s.lengths

  -- ---- "A kept answer found moves its slot to the front."

  pub cached-front : (f : ℕ → Bool) (i : ℕ) (F : FoundAt f (held_slots s.slots) i)
      → cache_of (with_cache s (front_of s.slots i) s.keys s.lengths) memory
      ≡ move_to_front (cache_of s memory) (held_at F.slot, map held_at (F.before ++ F.after))
  unfolding with_cache
  cached-front f i F =
      ap₂ (λ (h f : List ℕ). record { held = map held_at h; free = f; memory = memory })
      (front-found s.slots i f F) (front-free s.slots i (found_inside s.slots f i F) S.slots.within)

  -- ---- "Drops put held slots first and free ones after, each in the order they had."

  module _ (p : ℕ → Bool) (d : M.Key → Bool) (agree : All (λ x. p x ≡ d (held_at x).key) (held_slots s.slots)) where
    gone-are : map held_at (keep p (held_slots s.slots)) ≡ keep (λ (e : Held M.Key). d e.key) (map held_at (held_slots s.slots))
    gone-are =
        ap (map held_at) (keep_same p (λ x. d (held_at x).key) agree)
        ∙ keep-map held_at (λ (e : Held M.Key). d e.key) (held_slots s.slots)

    left-are : map held_at (keep (λ x. not (p x)) (held_slots s.slots)) ≡ keep (λ (e : Held M.Key). not (d e.key)) (map held_at (held_slots s.slots))
    left-are =
        ap (map held_at) (keep_same (λ x. not (p x)) (λ x. not (d (held_at x).key)) (All-map (λ x e. ap not e) agree))
        ∙ keep-map held_at (λ (e : Held M.Key). not (d e.key)) (held_slots s.slots)

    -- the slots that are dropped
    slots-are : (l : List ℕ) → map (λ (e : Held M.Key). e.slot) (map held_at l) ≡ l
    slots-are [] = refl
    slots-are (x ∷ l) = ap (λ (r : List ℕ). x ∷ r) (slots-are l)

    pub cached-drop : cache_in s.keys s.lengths (order.drop_by p s.slots) memory ≡ drop_by d (cache_of s memory)
    cached-drop =
        let h = ap (map held_at) (drop-held s.slots p) ∙ left-are in
        let f = drop-free s.slots p S.slots T.order-64
        ∙ ap (λ (l : List ℕ). l ++ free_slots s.slots)
        (sym (slots-are (keep p (held_slots s.slots))) ∙ ap (map (λ (e : Held M.Key). e.slot)) gone-are) in
        ap₂ (λ (l : List (Held M.Key)) (r : List ℕ). record { held = l; free = r; memory = memory }) h f

  -- ---- "A new record that fits a slot takes the last slot and moves it to the front."

  abbrev taken : Taken
  taken = last_taken s.slots

  -- no slot, none taken
  none-there : s.slots.count ≡ 0 → is_open s.slots ≡ false
  none-there z = ap (λ (n : ℕ). leb 1 n && leb n most_slots) z

  module _ (key : Key) (r : List ℕ) where
    abbrev keys' : List Key
    keys' = set s.keys taken.slot key

    abbrev sizes' : List ℕ
    sizes' = set s.lengths taken.slot (length r)

    abbrev memory' : List ℕ
    memory' = written memory (taken.slot * s.slot_bytes) r

    held-here : taken.slot < s.slots.count → held_in keys' sizes' taken.slot ≡ record { slot = taken.slot; key = key_read key; len = length r }
    held-here h =
        ap₂ (λ (k : Key) (n : ℕ). record { slot = taken.slot; key = key_read k; len = n })
        (get_or-set_same s.keys taken.slot key no_key (omega (arith, S.slots.few, T.keys-64)))
        (get_or-set_same s.lengths taken.slot (length r) 0 (omega (arith, S.slots.few, T.lengths-64)))

    held-other : (y : ℕ) → y ≢ taken.slot → held_in keys' sizes' y ≡ held_at y
    held-other y ne =
        ap₂ (λ (k : Key) (n : ℕ). record { slot = y; key = key_read k; len = n })
        (get_or-set_other s.keys taken.slot y key no_key ne) (get_or-set_other s.lengths taken.slot y (length r) 0 ne)

    put-taken : taken.slot < s.slots.count → (hs fs : List ℕ) → Last s.keys s.lengths memory s.slots hs fs
        → cache_in keys' sizes' taken.slots memory' ≡ put_in s.slot_bytes (cache_of s memory) (key_read key) r (take_last (cache_of s memory))
    put-taken h hs fs Z =
        let held = ap (map (held_in keys' sizes')) Z.held_now
        ∙ ap₂ (λ (e : Held M.Key) (l : List (Held M.Key)). e ∷ l) (held-here h) (map_same held_at (All-map held-other Z.apart)) in
        ap₂ (λ (l : List (Held M.Key)) (f : List ℕ). record { held = l; free = f; memory = memory' }) held Z.free_now
        ∙ ap (put_in s.slot_bytes (cache_of s memory) (key_read key) r) (sym Z.takes)

    put-by : (b : Bool) → Dec (1 ≤ s.slots.count)
        → cache_of (cond (b && is_open s.slots) (calls.put_in s key r taken) s) (cond (b && is_open s.slots) memory' memory)
        ≡ put s.slot_bytes b (cache_of s memory) (key_read key) r
    unfolding with_cache
    put-by false d = refl
    put-by true (yes h) =
        let l = last-is s.keys s.lengths memory s.slots S.slots T.order-64 h in
        rw (slots-open s.slots S.slots h) (put-taken (taken-below s.slots S.slots h) l.0 l.1 l.2)
    put-by true (no h) =
        let z : s.slots.count ≡ 0 = omega arith in
        rw (none-there z)
        (ap (put_in s.slot_bytes (cache_of s memory) (key_read key) r) (sym (none_last s.keys s.lengths memory s.slots S.slots z)))

    pub cached-put : cache_of (kept s key r) (kept_memory s r memory) ≡ put s.slot_bytes (fits_slot s.slot_bytes r) (cache_of s memory) (key_read key) r
    unfolding kept kept_bytes
    cached-put = put-by (fits_slot s.slot_bytes r) (dec_le 1 s.slots.count)

    -- it changes the kept answers alone
    pub kept-is : (l : SlotList) × (ks : List Key) × (ns : List ℕ) × (kept s key r ≡ with_cache s l ks ns)
    unfolding kept with_cache
    kept-is = go (takes_slot s.slots s.slot_bytes r)
      where
        go : (b : Bool) → (l : SlotList) × (ks : List Key) × (ns : List ℕ) × (cond b (calls.put_in s key r taken) s ≡ with_cache s l ks ns)
        go true = (taken.slots, keys', sizes', refl)
        go false = (s.slots, s.keys, s.lengths, refl)

  -- ---- the kept memory, which has room for the slots

  module _ (lent : length memory ≡ s.memory) where
    room : s.slots.count * s.slot_bytes ≤ length memory
    room = rw lent S.sizes.room

    -- the bytes of a held slot are as many as its length says
    pub bytes-long : (x : ℕ) → HeldSound s x → length (bytes_at s memory x) ≡ length_at s x
    bytes-long x H = slot-length s.slots.count s.slot_bytes x (length_at s x) memory H.slot room H.long.most

    -- a record put in leaves it as long as it was
    pub kept-long : (r : List ℕ) → length (kept_memory s r memory) ≡ length memory
    unfolding kept_bytes
    kept-long r = go (fits_slot s.slot_bytes r) refl (dec_le 1 s.slots.count)
      where
        go : (b : Bool) → fits_slot s.slot_bytes r ≡ b → Dec (1 ≤ s.slots.count)
            → length (cond (b && is_open s.slots) (written memory (taken.slot * s.slot_bytes) r) memory) ≡ length memory
        go false e d = refl
        go true e (yes h) =
            rw (slots-open s.slots S.slots h)
            (slot-written s.slots.count s.slot_bytes taken.slot r memory (taken-below s.slots S.slots h) room (leb-true (length r) s.slot_bytes e))
        go true e (no h) = let z : s.slots.count ≡ 0 = omega arith in rw (none-there z)
