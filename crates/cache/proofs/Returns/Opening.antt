-- What an opening gives, refused or not. Assumes nothing.
use mathlib.Core.Path.{◌≡◌, sym, ◌∙◌}
use mathlib.Core.Bool.{Bool, true, false, not}
use mathlib.Core.List.{List}
use Prim.Native.Nat.{ℕ}
use lib.IntN.{ℤ, pos}
use lib.ListN.{length, replicate}
use Rattle.std.specs.Array.{AllOfLen}
use Rattle.std.proofs.lemmas.List.FromFn.{fill_by_all}
use Rattle.lists.proofs.Bools.{not-true, not-false}
use Rattle.meaning.specs.Plain.{Opening, opening_refused}
use Rattle.slots.specs.declared.Key.{Key}
use Rattle.slots.specs.Keys.{no_key}
use Rattle.cache.specs.declared.State.{State}
use Rattle.cache.specs.Sound.{lengths, opening, OpeningWithin}
use Rattle.cache.specs.Calls.{lengths_lent}
use Rattle.cache.specs.Gives.{open_of, empty_state, open_gives}
use Rattle.cache.proofs.Invariant.Sound.{sizes-fit}

-- what `default` makes of a key
pub key-empty : (k : Key) → (k.query ≡ 0) × ((k.count ≡ 0) × AllOfLen (λ (x : ℤ). x ≡ pos 0) k.values 8) → k ≡ no_key
key-empty k h = λ j. record {
  query = h.0 j;
  count = h.1.0 j;
  values = fill_by_all (λ (i : ℕ). pos 0) k.values 8 (pos 0) h.1.1.long (λ i l. h.1.1.at i (pos 0) l) j;
}

-- ---- an opening, where the sizes fit or do not

module _ (cells : List ℤ) (memory : List ℕ) (slots bytes : ℕ) (fit : Bool)
    (tested : fit ≡ not (opening_refused (opening (lengths_lent cells memory) slots bytes))) where
  abbrev sizes : Opening
  sizes = opening (lengths_lent cells memory) slots bytes

  pub open-fits : fit ≡ true → OpeningWithin sizes
  open-fits h = sizes-fit sizes (not-true (opening_refused sizes) (sym tested ∙ h))

  pub open-refused : fit ≡ false → (s : State) → s ≡ empty_state (opening (lengths 0 0) 0 8) → open_gives (record { refusal = 1; state = s }) cells memory ≡ open_of cells memory slots bytes
  unfolding open_of
  open-refused h s e = rw (not-false (opening_refused sizes) (sym tested ∙ h), e)

  pub open_done : fit ≡ true → (s : State) (cs : List ℤ) (ms : List ℕ) → s ≡ empty_state sizes
      → cs ≡ replicate (length cells) (pos 0) → ms ≡ replicate (length memory) 0
      → open_gives (record { refusal = 0; state = s }) cs ms ≡ open_of cells memory slots bytes
  unfolding open_of
  open_done h s cs ms e c m = rw (not-true (opening_refused sizes) (sym tested ∙ h), e, c, m)
