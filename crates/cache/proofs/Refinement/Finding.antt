-- A question finds its answer among the held slots where the model finds it. Assumes nothing.
use mathlib.Core.Path.{◌≡◌, refl, sym, ap, ◌∙◌}
use mathlib.Core.Logic.{◌≢◌}
use mathlib.Core.Bool.{false}
use mathlib.Core.Option.{none, some}
use mathlib.Core.List.{List, [], ◌∷◌, ◌++◌, map}
use Prim.Native.Nat.{ℕ, ◌≤◌, ◌<◌}
use lib.IntN.{ℤ}
use lib.ListN.{length}
use Rattle.lists.specs.Lists.{All, cons}
use Rattle.lists.proofs.Lists.{All-map, All-both, All-left}
use Rattle.meaning.specs.Key as M
use Rattle.meaning.specs.Limits.{most_slots, most_marks}
use Rattle.trace.specs.Private.Slots.{Held, found, find}
use Rattle.slots.specs.declared.Key.{Key}
use Rattle.std.specs.Prelude.{None}
use Rattle.slots.specs.declared.SlotList.{SlotList}
use Rattle.slots.specs.Keys.{key_of, slot_has, find_of, held_slots}
use Rattle.slots.proofs.KeyLaws.{key-few, has_key, has_other, FoundAt, found_nothing}
use Rattle.cache.proofs.Refinement.SlotsAsCache.{held_in}

-- ---- the first slot whose key is k, and the others in their order

module _ (f : ℕ → Held M.Key) (k : M.Key) where
  abbrev Other : ℕ → Type 0
  Other x = (f x).key ≢ k

  find_past : (a : List ℕ) (x : ℕ) (b : List ℕ) → All Other a → (f x).key ≡ k → find M.same_key k (map f (a ++ x ∷ b)) ≡ some (f x, map f (a ++ b))
  find_past [] x b h e = go (M.same_key (f x).key k)
    where
      go : (d : Dec ((f x).key ≡ k)) → found d (f x) (map f b) (find M.same_key k (map f b)) ≡ some (f x, map f b)
      go (yes p) = refl
      go (no p) = absurd (p e)
  find_past (y ∷ a) x b (cons o h) e = go (M.same_key (f y).key k) (find_past a x b h e)
    where
      go : (d : Dec ((f y).key ≡ k)) → find M.same_key k (map f (a ++ x ∷ b)) ≡ some (f x, map f (a ++ b))
          → found d (f y) (map f (a ++ x ∷ b)) (find M.same_key k (map f (a ++ x ∷ b))) ≡ some (f x, f y ∷ map f (a ++ b))
      go (yes p) i = absurd (o p)
      go (no p) i = ap (found (no p) (f y) (map f (a ++ x ∷ b))) i

  find_none : (l : List ℕ) → All Other l → find M.same_key k (map f l) ≡ none
  find_none [] h = refl
  find_none (y ∷ l) (cons o h) = go (M.same_key (f y).key k) (find_none l h)
    where
      go : (d : Dec ((f y).key ≡ k)) → find M.same_key k (map f l) ≡ none → found d (f y) (map f l) (find M.same_key k (map f l)) ≡ none
      go (yes p) i = absurd (o p)
      go (no p) i = ap (found (no p) (f y) (map f l)) i

-- ---- the answer of a question, with at most eight values, among the held slots

abbrev pub as_key : ℕ → List ℤ → M.Key
as_key n vs = record { query = n; values = vs }

module _ (keys : List Key) (sizes : List ℕ) (l : SlotList) (below : All (λ x. x < most_slots) (held_slots l))
    (n : ℕ) (vs : List ℤ) (few : length vs ≤ most_marks) where
  others : {xs : List ℕ} → All (λ x. x < most_slots) xs → All (λ x. slot_has keys (key_of n vs) x ≡ false) xs → All (Other (held_in keys sizes) (as_key n vs)) xs
  others b h = All-map (λ x c e. has_other keys (key_of n vs) x c.0 c.1 (e ∙ sym (key-few n vs few))) (All-both b h)

  pub find-held : (i : ℕ) (F : FoundAt (slot_has keys (key_of n vs)) (held_slots l) i)
      → find M.same_key (as_key n vs) (map (held_in keys sizes) (held_slots l))
      ≡ some (held_in keys sizes F.slot, map (held_in keys sizes) (F.before ++ F.after))
  find-held i F =
      ap (λ (xs : List ℕ). find M.same_key (as_key n vs) (map (held_in keys sizes) xs)) F.split
      ∙ find_past (held_in keys sizes) (as_key n vs) F.before F.slot F.after
      (others (All-left F.before (F.slot ∷ F.after) (rw F.split at below)) F.passed)
      ((has_key keys (key_of n vs) F.slot F.has).1 ∙ key-few n vs few)

  pub find-missed : find_of keys l (key_of n vs) ≡ None → find M.same_key (as_key n vs) (map (held_in keys sizes) (held_slots l)) ≡ none
  find-missed e = find_none (held_in keys sizes) (as_key n vs) (held_slots l) (others below (found_nothing keys l (key_of n vs) e))
