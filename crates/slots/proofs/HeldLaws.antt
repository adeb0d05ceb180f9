-- Laws for callers: no key is held twice after a call, if none was before it; and a new key is put where none is the same. Assumes nothing.
use mathlib.Core.Path.{◌≡◌, sym, ap, ap₂, subst, ◌∙◌}
use mathlib.Core.Logic.{◌≢◌}
use mathlib.Core.Bool.{Bool, false, ◌||◌}
use mathlib.Core.List.{List, [], ◌∷◌, map}
use Prim.Native.Nat.{ℕ, ◌≤◌, ◌<◌}
use native.Mathlib.Decide.{dec_lt}
use native.Mathlib.Omega.{arith}
use lib.ListN.{length, set}
use lib.Seq.{get_or-set_same}
use Rattle.lists.specs.Lists.{All, DistinctBy, repeats}
use Rattle.lists.proofs.Lists.{All-map, All-left, All-image, any_none, distinct-keep, distinct-left}
use Rattle.lists.proofs.Moved.{moved-distinct_by}
use Rattle.lists.proofs.Places.{set_apart}
use Rattle.lists.proofs.Repeats.{distinct-repeats, distinct-map}
use Rattle.meaning.specs.Limits.{most_slots}
use Rattle.slots.specs.declared.Key.{Key}
use Rattle.slots.specs.declared.SlotList.{SlotList}
use Rattle.slots.specs.Order.{front_of, last_taken, drop_by}
use Rattle.slots.specs.Keys.{held_slots, key_read, same_key, no_key, slot_key, held_keys, held_twice}
use Rattle.slots.proofs.KeyLaws.{read-other, not-twice, twice-not}
use Rattle.slots.proofs.Laws.{Sound, held-front, drop-held, taken-below, taken_free, taken-held}

pub front-once : (keys : List Key) (s : SlotList) (p : ℕ) → p < s.held → held_twice keys s ≡ false → held_twice keys (front_of s p) ≡ false
front-once keys s p h t =
    twice-not keys (front_of s p) (moved-distinct_by (λ (x : ℕ). key_read (slot_key keys x)) (held-front s p h) (not-twice keys s t))

pub drop-once : (keys : List Key) (s : SlotList) (p : ℕ → Bool) → held_twice keys s ≡ false → held_twice keys (drop_by p s) ≡ false
drop-once keys s p t =
    twice-not keys (drop_by p s)
    (subst (DistinctBy (λ (x : ℕ). key_read (slot_key keys x))) (sym (drop-held s p))
    (distinct-keep (λ (x : ℕ). key_read (slot_key keys x)) _ (held_slots s) (not-twice keys s t)))

-- a key put at the slot that was taken
module _ (keys : List Key) (s : SlotList) (k : Key) (S : Sound s) (long : length s.order ≡ most_slots) (some : 1 ≤ s.count) (sized : length keys ≡ most_slots) where
  -- the keys that are held then, where these are the other held slots
  put-keys : (rest : List ℕ) → held_slots (last_taken s).slots ≡ (last_taken s).slot ∷ rest → All (λ x. x ≢ (last_taken s).slot) rest
      → held_keys (set keys (last_taken s).slot k) (last_taken s).slots ≡ k ∷ map (slot_key keys) rest
  put-keys rest e a =
      ap (map (slot_key (set keys (last_taken s).slot k))) e
      ∙ ap₂ (λ (y : Key) (l : List Key). y ∷ l)
      (get_or-set_same keys (last_taken s).slot k no_key (omega (arith, taken-below s S some, S.few)))
      (set_apart keys (last_taken s).slot k no_key a)

  put_rest : (rest : List ℕ) → held_slots (last_taken s).slots ≡ (last_taken s).slot ∷ rest → All (λ x. x ≢ (last_taken s).slot) rest
      → DistinctBy (λ (x : ℕ). key_read (slot_key keys x)) rest → All (λ x. key_read (slot_key keys x) ≢ key_read k) rest
      → held_twice (set keys (last_taken s).slot k) (last_taken s).slots ≡ false
  unfolding held_twice
  put_rest rest e a d o =
      ap (repeats same_key) (put-keys rest e a)
      ∙ ap₂ ◌||◌
      (any_none (same_key k) (All-image (slot_key keys) (All-map (λ x ne. read-other k (slot_key keys x) (λ q. ne (sym q))) o)))
      (distinct-repeats same_key key_read (λ x y ne. read-other x y (λ q. ne (sym q))) (map (slot_key keys) rest) (distinct-map (slot_key keys) key_read rest d))

  pub put-once : held_twice keys s ≡ false → All (λ x. key_read (slot_key keys x) ≢ key_read k) (held_slots s)
      → held_twice (set keys (last_taken s).slot k) (last_taken s).slots ≡ false
  put-once t o = go (dec_lt s.held s.count)
    where
      go : Dec (s.held < s.count) → held_twice (set keys (last_taken s).slot k) (last_taken s).slots ≡ false
      go (yes h) = let F = taken_free s S long some h in put_rest (held_slots s) F.held F.apart (not-twice keys s t) o
      go (no h) =
          let F = taken-held s S long some (omega (arith, S.within)) in
          put_rest F.others F.held F.apart
          (distinct-left (λ (x : ℕ). key_read (slot_key keys x)) F.others ((last_taken s).slot ∷ []) (subst (DistinctBy (λ (x : ℕ). key_read (slot_key keys x))) F.before (not-twice keys s t)))
          (All-left F.others ((last_taken s).slot ∷ []) (subst (All (λ x. key_read (slot_key keys x) ≢ key_read k)) F.before o))
