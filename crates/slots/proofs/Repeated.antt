-- What `held_twice` returns: equal keys have equal fingerprints, so where no two fingerprints are equal no key is held twice. Assumes nothing.
use mathlib.Core.Path.{◌≡◌, sym, ap, ◌∙◌}
use mathlib.Core.Bool.{Bool, true, false}
use mathlib.Core.List.{List, map, map-map}
use Prim.Native.Nat.{ℕ}
use borrow.Author.Tests.{eq-eqb}
use lib.Dec.{eqb}
use Rattle.lists.specs.Lists.{repeats}
use Rattle.lists.proofs.Repeats.{repeats-image}
use Rattle.slots.specs.declared.Key.{Key}
use Rattle.slots.specs.declared.SlotList.{SlotList}
use Rattle.slots.specs.Keys.{held_slots, key_read, same_key, slot_key, held_twice}
use Rattle.slots.specs.Private.Fingerprints.{fingerprint, slot_print}
use Rattle.slots.specs.Same.{same_read}

same-prints : (a b : Key) → same_key a b ≡ true → eqb (fingerprint (key_read a)) (fingerprint (key_read b)) ≡ true
same-prints a b h = eq-eqb _ _ (ap fingerprint (same_read a b h))

pub none_equal : (keys : List Key) (s : SlotList) (l : List ℕ) → l ≡ held_slots s → repeats eqb (map (slot_print keys) l) ≡ false → false ≡ held_twice keys s
unfolding held_twice
none_equal keys s l e h =
    let f : Key → ℕ = λ (k : Key). fingerprint (key_read k) in
    let p : repeats eqb (map f (map (slot_key keys) l)) ≡ false = ap (repeats eqb) (map-map f (slot_key keys) l) ∙ h in
    sym (repeats-image same_key f eqb same-prints (map (slot_key keys) l) p) ∙ ap (λ (r : List ℕ). repeats same_key (map (slot_key keys) r)) e

pub compared : (keys : List Key) (s : SlotList) (l : List ℕ) (r : Bool) → l ≡ held_slots s → r ≡ repeats same_key (map (slot_key keys) l) → r ≡ held_twice keys s
unfolding held_twice
compared keys s l r e h = h ∙ ap (λ (k : List ℕ). repeats same_key (map (slot_key keys) k)) e
