-- What the slots of a state keep, as the model of crate `trace` has it; and the last slot taken. Assumes nothing.
use mathlib.Core.Path.{◌≡◌, refl, ap, ap₂, ◌∙◌}
use mathlib.Core.Logic.{◌≢◌}
use mathlib.Core.Option.{none, some}
use mathlib.Core.List.{List, [], ◌∷◌, ◌++◌, map}
use Prim.Native.Nat.{ℕ, ◌≤◌, ◌<◌}
use native.Mathlib.Decide.{dec_lt}
use native.Mathlib.Omega.{arith}
use lib.ListN.{length, take, drop, get_or}
use Rattle.lists.specs.Lists.{All, unsnoc, behind}
use Rattle.lists.proofs.Lists.{map-append}
use Rattle.meaning.specs.Key as M
use Rattle.meaning.specs.Limits.{most_slots}
use Rattle.trace.specs.Private.Slots.{Held, Cache, last_held, last_free, take_last}
use Rattle.slots.specs.declared.Key.{Key}
use Rattle.slots.specs.declared.SlotList.{SlotList}
use Rattle.slots.specs.Keys.{key_read, slot_key, held_slots}
use Rattle.slots.specs.Order.{free_slots, last_taken}
use Rattle.slots.proofs.Laws.{Sound, TakenFree, TakenHeld, taken_free, taken-held}
use Rattle.cache.specs.declared.State.{State}

-- ---- the cache of a slot list, with the keys and the lengths by slot

abbrev pub held_in : List Key → List ℕ → ℕ → Held M.Key
held_in keys sizes x = record { slot = x; key = key_read (slot_key keys x); len = get_or sizes x 0 }

abbrev pub cache_in : List Key → List ℕ → SlotList → List ℕ → Cache M.Key
cache_in keys sizes l memory = record { held = map (held_in keys sizes) (held_slots l); free = free_slots l; memory = memory }

abbrev pub cache_of : State → List ℕ → Cache M.Key
cache_of s memory = cache_in s.keys s.lengths s.slots memory

-- ---- the last slot, and the held and the free ones before it

unsnoc-last : {A : Type 0} (a : List A) (x : A) → unsnoc (a ++ x ∷ []) ≡ some (a, x)
unsnoc-last [] x = refl
unsnoc-last (y ∷ a) x = ap (behind y) (unsnoc-last a x)

module _ (keys : List Key) (sizes memory : List ℕ) (l : SlotList) where
  pub record Last (hs fs : List ℕ) : Type 0 where
    pub held_now : held_slots (last_taken l).slots ≡ (last_taken l).slot ∷ hs
    pub free_now : free_slots (last_taken l).slots ≡ fs
    pub apart : All (λ x. x ≢ (last_taken l).slot) hs
    pub takes : take_last (cache_in keys sizes l memory) ≡ some ((last_taken l).slot, map (held_in keys sizes) hs, fs)

  last-free : TakenFree l → Last (held_slots l) (free_slots (last_taken l).slots)
  last-free F = record {
    held_now = F.held;
    free_now = refl;
    apart = F.apart;
    takes =
        ap (λ (f : List ℕ). last_free (map (held_in keys sizes) (held_slots l)) (unsnoc f)) F.free
        ∙ ap (last_free (map (held_in keys sizes) (held_slots l))) (unsnoc-last (free_slots (last_taken l).slots) (last_taken l).slot);
  }

  last-held : (H : TakenHeld l) → Last H.others []
  last-held H = record {
    held_now = H.held;
    free_now = H.free;
    apart = H.apart;
    takes =
        ap₂ (λ (h f : List ℕ). last_free (map (held_in keys sizes) h) (unsnoc f)) H.before H.none
        ∙ ap (λ h. last_held (unsnoc h)) (map-append (held_in keys sizes) H.others ((last_taken l).slot ∷ []))
        ∙ ap last_held (unsnoc-last (map (held_in keys sizes) H.others) (held_in keys sizes (last_taken l).slot));
  }

  pub last-is : Sound l → length l.order ≡ most_slots → 1 ≤ l.count → (hs fs : List ℕ) × Last hs fs
  last-is S long any = go (dec_lt l.held l.count)
    where
      go : Dec (l.held < l.count) → (hs fs : List ℕ) × Last hs fs
      go (yes h) = (held_slots l, free_slots (last_taken l).slots, last-free (taken_free l S long any h))
      go (no h) = let H = taken-held l S long any (omega (arith, S.within)) in (H.others, [], last-held H)

  -- no slot: nothing to take
  pub none_last : Sound l → l.count ≡ 0 → take_last (cache_in keys sizes l memory) ≡ none
  none_last S z =
      let h : l.held ≡ 0 = omega (arith, S.within) in
      ap₂ (λ (m n : ℕ). last_free (map (held_in keys sizes) (take m l.order)) (unsnoc (drop m (take n l.order)))) h z
