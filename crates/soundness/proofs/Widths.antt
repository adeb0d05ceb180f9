-- How many columns the tables have; questions and updates by the number of columns of their table. Assumes nothing.
use mathlib.Core.Path.{◌≡◌, refl, sym, ap, ap₂, ◌∙◌}
use mathlib.Core.Bool.{Bool, true, false, ◌&&◌, cond}
use mathlib.Core.List.{List, [], ◌∷◌, map}
use Prim.Native.Nat.{ℕ, zero, suc, ◌+◌, ◌-◌}
use native.Mathlib.Omega.{arith}
use borrow.Author.Tests.{ne_eqb, le-ltb, lt-ltb}
use lib.Dec.{ltb}
use lib.ListN.{length, length-map}
use Rattle.std.specs.Prelude.{Option, Some, None, option_map, option_and_then, slice_get}
use Rattle.std.proofs.lemmas.Bool.Decides.{nat_tests}
use Rattle.lists.specs.Lists.{all}
use Rattle.statement.specs.Catalog.{schema_of}
use Rattle.statement.specs.Sound.{second_by}
use Rattle.statement.specs.SoundTest.{columns_at, columns_with, sound_second, sound_query, sound_update, sound_update_on}
use Rattle.statement.specs.declared.Table.{Table}
use Rattle.statement.specs.declared.Query.{Query}
use Rattle.statement.specs.declared.Update.{Update}
use Rattle.soundness.specs.Private.Parts.{passes, some_if, width_of, fits_second, width_beside, query_on, query_at, update_at}

-- ---- statements beside the tables

width-at : (ts : List Table) (i : ℕ) → slice_get (map width_of ts) i ≡ some_if (ltb i (length ts)) (columns_at (map schema_of ts) i)
width-at [] i = ap (λ (b : Bool). some_if b (columns_at [] i)) (sym (le-ltb i 0 (omega arith)))
width-at (t ∷ ts) zero = ap (λ (b : Bool). some_if b (width_of t)) (sym (lt-ltb 0 (suc (length ts)) (omega arith)))
width-at (t ∷ ts) (suc i) = width-at ts i ∙ ap (λ (b : Bool). some_if b (columns_at (map schema_of ts) i)) (both i (length ts))
  where
    both : (i n : ℕ) → ltb i n ≡ ltb (suc i) (suc n)
    both i n = grind (arith, nat_tests)

module _ (ts : List Table) where
  second-beside : (q : Query) (n k : ℕ)
      → passes (λ (n : ℕ). query_on n q) (width_beside (map width_of ts) q.table k q.start n)
      ≡ (sound_second (map schema_of ts) q.table n (second_by k q.start) && query_on (columns_with (map schema_of ts) n (second_by k q.start)) q)
  second-beside q n zero = refl
  second-beside q n (suc k) =
      let p : Option ℕ → Bool = passes (λ (n : ℕ). query_on n q) in
      let j : suc k - 1 ≡ k = omega arith in
      let none : Option ℕ = None in
      ap (λ (b : Bool). p (cond b (Some n) (cond (fits_second q.table n (suc k - 1) q.start) (option_map (λ (w : ℕ). n + w) (slice_get (map width_of ts) (suc k - 1))) none)))
      (ne_eqb (suc k) 0 (λ e. omega arith))
      ∙ ap (λ (i : ℕ). p (cond (fits_second q.table n i q.start) (option_map (λ (w : ℕ). n + w) (slice_get (map width_of ts) i)) none)) j
      ∙ ap (λ (o : Option ℕ). p (cond (fits_second q.table n k q.start) (option_map (λ (w : ℕ). n + w) o) none)) (width-at ts k)
      ∙ both (fits_second q.table n k q.start) (ltb k (length ts))
      ∙ ap (λ (m : ℕ). (ltb k m && fits_second q.table n k q.start) && query_on (n + columns_at (map schema_of ts) k) q) (sym (length-map ts schema_of))
    where
      both : (f b : Bool) → passes (λ (n : ℕ). query_on n q) (cond f (option_map (λ (w : ℕ). n + w) (some_if b (columns_at (map schema_of ts) k))) None)
          ≡ ((b && f) && query_on (n + columns_at (map schema_of ts) k) q)
      both true true = refl
      both true false = refl
      both false true = refl
      both false false = refl

  query-beside : (q : Query) → query_at (map width_of ts) q ≡ sound_query (map schema_of ts) q
  unfolding sound_query
  query-beside q =
      ap (λ (o : Option ℕ). passes (λ (n : ℕ). query_on n q) (option_and_then (width_beside (map width_of ts) q.table q.second q.start) o)) (width-at ts q.table)
      ∙ there (ltb q.table (length ts))
      ∙ ap₂ (λ (m : ℕ) (b : Bool). ltb q.table m && b) (sym (length-map ts schema_of)) (second-beside q (columns_at (map schema_of ts) q.table) q.second)
    where
      there : (b : Bool) → passes (λ (n : ℕ). query_on n q) (option_and_then (width_beside (map width_of ts) q.table q.second q.start) (some_if b (columns_at (map schema_of ts) q.table)))
          ≡ (b && passes (λ (n : ℕ). query_on n q) (width_beside (map width_of ts) q.table q.second q.start (columns_at (map schema_of ts) q.table)))
      there true = refl
      there false = refl

  update-beside : (u : Update) → update_at (map width_of ts) u ≡ sound_update (map schema_of ts) u
  unfolding sound_update
  update-beside u =
      ap (passes (λ (n : ℕ). sound_update_on n u)) (width-at ts u.table)
      ∙ there (ltb u.table (length ts))
      ∙ ap (λ (m : ℕ). ltb u.table m && sound_update_on (columns_at (map schema_of ts) u.table) u) (sym (length-map ts schema_of))
    where
      there : (b : Bool) → passes (λ (n : ℕ). sound_update_on n u) (some_if b (columns_at (map schema_of ts) u.table)) ≡ (b && sound_update_on (columns_at (map schema_of ts) u.table) u)
      there true = refl
      there false = refl

  pub queries-beside : (qs : List Query) → all (query_at (map width_of ts)) qs ≡ all (sound_query (map schema_of ts)) qs
  queries-beside qs = ap (λ (p : Query → Bool). all p qs) (λ i q. query-beside q i)

  pub updates-beside : (us : List Update) → all (update_at (map width_of ts)) us ≡ all (sound_update (map schema_of ts)) us
  updates-beside us = ap (λ (p : Update → Bool). all p us) (λ i u. update-beside u i)
