-- Whether the keys of slots repeat, as `any_same` tests it: each is looked for among those before it. Assumes nothing.
use mathlib.Core.Path.{◌≡◌, sym, ◌∙◌}
use mathlib.Core.Bool.{Bool}
use mathlib.Core.List.{List, map}
use Prim.Native.Nat.{ℕ}
use lib.ListN.{take}
use Rattle.std.specs.List.{list_any, enumerate_from}
use Rattle.lists.specs.Lists.{any, repeats}
use Rattle.lists.proofs.Lists.{any-map}
use Rattle.lists.proofs.Chains as C
use Rattle.lists.proofs.Chains.{any-is, repeats-map}
use Rattle.slots.specs.declared.Key.{Key}
use Rattle.slots.specs.Keys.{same_key, slot_key}
use Rattle.slots.specs.Same.{same_laws}

module _ (keys : List Key) where
  abbrev key : ℕ → Key
  key = slot_key keys

  -- the library's test of some member, of numbers by their keys
  pub any_keys : (k : Key) (ys : List ℕ) → list_any (λ (y : ℕ). same_key k (slot_key keys y)) ys ≡ any (same_key k) (map (slot_key keys) ys)
  any_keys k ys = any-is (λ (y : ℕ). same_key k (key y)) ys ∙ sym (any-map key (same_key k) ys)

  -- whether a slot before this place has this slot's key
  abbrev pub before : List ℕ → ℕ × ℕ → Bool
  before all e = any (same_key (slot_key keys e.1)) (map (slot_key keys) (take e.0 all))

  pub repeats-is : (all : List ℕ) → list_any (before all) (enumerate_from 0 all) ≡ repeats same_key (map (slot_key keys) all)
  repeats-is all =
      C.repeats-is (λ (x y : ℕ). same_key (key x) (key y)) (λ x y. same_laws.symm (key x) (key y)) (before all) all (λ i x. any-map key (same_key (key x)) (take i all))
      ∙ sym (repeats-map same_key key all)
