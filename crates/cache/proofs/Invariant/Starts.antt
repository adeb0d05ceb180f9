-- The place of a table's oldest row: "below the ring's size, and 0 unless a ring is full" as a test and as a sentence. Assumes nothing.
use mathlib.Core.Path.{◌≡◌, refl, sym, ap, ◌∙◌}
use mathlib.Core.Bool.{Bool, true, false, ◌&&◌, ◌||◌, true≢false}
use mathlib.Core.List.{List, [], ◌∷◌, ◌++◌}
use Prim.Native.Nat.{◌≤◌}
use native.Mathlib.Omega.{arith}
use borrow.Author.Tests.{eqb-true, eqb-false, eq-eqb, ltb-true, lt-ltb}
use lib.Dec.{eqb, ltb}
use Rattle.lists.specs.Lists.{All, nil, cons}
use Rattle.lists.proofs.Bools.{and_left, and_right}
use Rattle.meaning.specs.Names.{Schema}
use Rattle.statement.specs.declared.Table.{Table}
use Rattle.statement.specs.Catalog.{schema_of}
use Rattle.statement.specs.SoundTest.{sound_table, sound_schemas}
use Rattle.statement.proofs.SoundTable.{table-parts}
use Rattle.cache.specs.Sound.{StartFits}
use Rattle.cache.specs.SoundTest.{start_fits}

-- each of sound tables has room for a row
pub rows-some : (before : List Schema) (ts : List Table) → sound_schemas before ts ≡ true → All (λ (t : Table). 1 ≤ t.capacity) ts
rows-some before [] h = nil
rows-some before (t ∷ ts) h =
    cons (table-parts before t (and_left (sound_table before t) _ h)).some_rows (rows-some (before ++ (schema_of t ∷ [])) ts (and_right (sound_table before t) _ h))

-- ---- the test and the sentence

pub start-means : (t : Table) → start_fits t ≡ true → 1 ≤ t.capacity → StartFits t
start-means t e c = go (eqb t.oldest 0) refl e
  where
    go : (b : Bool) → eqb t.oldest 0 ≡ b → (b || (t.ring && (eqb t.rows t.capacity && ltb t.oldest t.capacity))) ≡ true → StartFits t
    go true z h = let k : t.oldest ≡ 0 = eqb-true t.oldest 0 z in record { below = λ r. omega (arith, c, k); unless_full = λ f. k }
    go false z h =
        let full : (eqb t.rows t.capacity && ltb t.oldest t.capacity) ≡ true = and_right t.ring _ h in
        record {
          below = λ r. ltb-true t.oldest t.capacity (and_right (eqb t.rows t.capacity) _ full);
          unless_full = λ f. absurd (f (and_left t.ring _ h) (eqb-true t.rows t.capacity (and_left (eqb t.rows t.capacity) _ full)));
        }

pub means-start : (t : Table) → StartFits t → start_fits t ≡ true
means-start t F = go (eqb t.oldest 0) t.ring (eqb t.rows t.capacity) refl refl refl
  where
    go : (z r f : Bool) → eqb t.oldest 0 ≡ z → t.ring ≡ r → eqb t.rows t.capacity ≡ f → (z || (r && (f && ltb t.oldest t.capacity))) ≡ true
    go true r f ez er ef = refl
    go false true true ez er ef = lt-ltb t.oldest t.capacity (F.below er)
    go false true false ez er ef = absurd (eqb-false t.oldest 0 ez (F.unless_full (λ a b. eqb-false t.rows t.capacity ef b)))
    go false false f ez er ef = absurd (eqb-false t.oldest 0 ez (F.unless_full (λ a b. true≢false (sym a ∙ er))))

-- the first row is the oldest
pub start_first : (t : Table) → t.oldest ≡ 0 → start_fits t ≡ true
start_first t e = ap (λ (b : Bool). b || (t.ring && (eqb t.rows t.capacity && ltb t.oldest t.capacity))) (eq-eqb t.oldest 0 e)
