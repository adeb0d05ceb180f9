-- For callers: a sound statement stays sound beside more tables. Assumes nothing.
use mathlib.Core.Path.{◌≡◌, refl, ap, ◌∙◌}
use mathlib.Core.Bool.{Bool, true, ◌&&◌}
use mathlib.Core.Option.{Option, none, some}
use mathlib.Core.List.{List, ◌++◌}
use Prim.Native.Nat.{ℕ, ◌+◌, ◌<◌}
use native.Mathlib.Omega.{arith}
use borrow.Author.Tests.{ltb-true, lt-ltb}
use lib.Dec.{ltb}
use lib.ListN.{length, length-append, get_or-append}
use Rattle.lists.proofs.Bools.{and_left, and_right, and_both}
use Rattle.meaning.specs.Names.{Schema, no_schema}
use Rattle.meaning.specs.Statement as M
use Rattle.statement.specs.Sound.{second_read}
use Rattle.statement.specs.SoundTest.{columns_at, columns_with, sound_second, sound_update_on, sound_query, sound_update}
use Rattle.statement.specs.declared.Query.{Query}
use Rattle.statement.specs.declared.Update.{Update}
use Rattle.soundness.specs.Private.Parts.{query_on}

module _ (ts us : List Schema) where
  columns-before : (i : ℕ) → i < length ts → columns_at (ts ++ us) i ≡ columns_at ts i
  columns-before i h = ap (λ (s : Schema). length s.columns) (get_or-append ts us no_schema i h)

  -- a test that goes by how many columns a table has that is there
  test-before : (p : ℕ → Bool) (i : ℕ) → (ltb i (length ts) && p (columns_at ts i)) ≡ true → (ltb i (length (ts ++ us)) && p (columns_at (ts ++ us) i)) ≡ true
  test-before p i h =
      let k : i < length ts = ltb-true i (length ts) (and_left (ltb i (length ts)) _ h) in
      and_both (ltb i (length (ts ++ us))) _ (lt-ltb i (length (ts ++ us)) (omega (arith, k, length-append ts us)))
      (ap p (columns-before i k) ∙ and_right (ltb i (length ts)) _ h)

  second-there : (s : M.Second) (t n : ℕ) → sound_second ts t n (some s) ≡ true → s.table < length ts
  second-there s t n h = ltb-true s.table (length ts) (and_left (ltb s.table (length ts)) _ h)

  second-before : (t n : ℕ) (o : Option M.Second) → sound_second ts t n o ≡ true → sound_second (ts ++ us) t n o ≡ true
  second-before t n none h = refl
  second-before t n (some s) h =
      and_both (ltb s.table (length (ts ++ us))) _
      (lt-ltb s.table (length (ts ++ us)) (omega (arith, second-there s t n h, length-append ts us))) (and_right (ltb s.table (length ts)) _ h)

  with-before : (t n : ℕ) (o : Option M.Second) → sound_second ts t n o ≡ true → columns_with (ts ++ us) n o ≡ columns_with ts n o
  with-before t n none h = refl
  with-before t n (some s) h = ap (λ (k : ℕ). n + k) (columns-before s.table (second-there s t n h))

  pub query-before : (q : Query) → sound_query ts q ≡ true → sound_query (ts ++ us) q ≡ true
  unfolding sound_query
  query-before q h =
      let t : ℕ = q.table in
      let o : Option M.Second = second_read q in
      let n : ℕ = columns_at ts t in
      let k : t < length ts = ltb-true t (length ts) (and_left (ltb t (length ts)) _ h) in
      let r : (sound_second ts t n o && query_on (columns_with ts n o) q) ≡ true = and_right (ltb t (length ts)) _ h in
      let s : sound_second ts t n o ≡ true = and_left (sound_second ts t n o) _ r in
      and_both (ltb t (length (ts ++ us))) _ (lt-ltb t (length (ts ++ us)) (omega (arith, length-append ts us)))
      (ap (λ (m : ℕ). sound_second (ts ++ us) t m o && query_on (columns_with (ts ++ us) m o) q) (columns-before t k)
      ∙ and_both (sound_second (ts ++ us) t n o) _ (second-before t n o s)
      (ap (λ (w : ℕ). query_on w q) (with-before t n o s) ∙ and_right (sound_second ts t n o) _ r))

  pub update-before : (u : Update) → sound_update ts u ≡ true → sound_update (ts ++ us) u ≡ true
  unfolding sound_update
  update-before u h = test-before (λ (n : ℕ). sound_update_on n u) u.table h
