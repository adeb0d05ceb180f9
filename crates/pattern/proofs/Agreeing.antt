-- A pattern with values, and beside the values of a key: entry by entry. Assumes nothing.
use Rattle.std.specs.Prelude.{Some, None}
use mathlib.Core.Path.{◌≡◌, refl, sym, ap, ap₂, ◌∙◌}
use mathlib.Core.Bool.{Bool, true, false, ◌&&◌, cond}
use mathlib.Core.List.{List, [], ◌∷◌, map}
use Prim.Native.Nat.{ℕ, suc, ◌≤◌, ◌<◌}
use native.Mathlib.Omega.{arith}
use lib.IntN.{ℤ}
use lib.ListN.{length, take, get_or, replicate, length-map}
use borrow.Author.Tests.{lt-ltb, le-ltb}
use Rattle.std.specs.List.{zip}
use Rattle.lists.specs.Lists.{all}
use Rattle.meaning.specs.Pattern as P
use Rattle.meaning.specs.Pattern.{agrees_at, agrees, anything}
use Rattle.statement.specs.declared.Query.{Query}
use Rattle.statement.specs.declared.Update.{Update}
use Rattle.pattern.specs.declared.Entry.{Entry}
use Rattle.pattern.specs.declared.Pattern.{Pattern}
use Rattle.pattern.specs.Stored.{relevant, joint, all_any, entry_count, clause_count, clause_total, pattern_struct, clause_pattern, pattern_at, entry_read, agrees_stored}

-- ---- patterns

-- lists of different lengths do not agree
agrees-short : (qs : List ℤ) (es : List P.Entry) → (length qs ≡ length es → ⊥) → agrees [] qs es ≡ false
agrees-short [] [] ne = absurd (ne refl)
agrees-short [] (e ∷ es) ne = refl
agrees-short (z ∷ qs) [] ne = refl
agrees-short (z ∷ qs) (e ∷ es) ne = ap (λ (b : Bool). agrees_at [] e z && b) (agrees-short qs es (λ q. ne (ap suc q))) ∙ go (agrees_at [] e z)
  where
    go : (b : Bool) → (b && false) ≡ false
    go true = refl
    go false = refl

-- an entry beside its value
abbrev pub pair_agrees : Entry × ℤ → Bool
pair_agrees p = agrees_at [] (entry_read p.0) p.1

-- the entries in use, beside the values
pub other-count : (values : List ℤ) (entries : List Entry) → (length values ≡ length entries → ⊥) → false ≡ agrees [] values (map entry_read entries)
other-count values entries ne = sym (agrees-short values (map entry_read entries) (λ q. ne (q ∙ length-map entries entry_read)))

pub pairs-agree : (values : List ℤ) (entries : List Entry) → length values ≡ length entries → all pair_agrees (zip entries values) ≡ agrees [] values (map entry_read entries)
pairs-agree [] [] e = refl
pairs-agree [] (y ∷ ys) e = absurd (omega arith)
pairs-agree (x ∷ xs) [] e = absurd (omega arith)
pairs-agree (x ∷ xs) (y ∷ ys) e = ap (λ (b : Bool). agrees_at [] (entry_read y) x && b) (pairs-agree xs ys (omega arith))

pub stored_is : (p : Pattern) (values : List ℤ) (entries : List Entry) → entries ≡ take p.count p.entries → agrees [] values (map entry_read entries) ≡ agrees_stored p values
unfolding agrees_stored
stored_is p values entries e = ap (λ (l : List Entry). agrees [] values (map entry_read l)) e

-- ---- by whether the update can matter, and how many clauses there are

module _ (q : Query) (u : Update) where
  pub total-none : relevant q u ≡ false → 0 ≡ clause_total q u
  unfolding clause_total
  total-none e = sym (ap (λ (b : Bool). cond b (cond (all_any q u) 1 (length (joint q u))) 0) e)

  pub total-many : relevant q u ≡ true → all_any q u ≡ true → 1 ≡ clause_total q u
  unfolding clause_total
  total-many e f = sym (ap₂ (λ (b t : Bool). cond b (cond t 1 (length (joint q u))) 0) e f)

  pub total-worked : relevant q u ≡ true → all_any q u ≡ false → length (joint q u) ≡ clause_total q u
  unfolding clause_total
  total-worked e f = sym (ap₂ (λ (b t : Bool). cond b (cond t 1 (length (joint q u))) 0) e f)

  pub count-many : all_any q u ≡ true → 1 ≡ clause_count q u
  count-many e = sym (ap (λ (t : Bool). cond t 1 (length (joint q u))) e)

  pub count-worked : all_any q u ≡ false → length (joint q u) ≡ clause_count q u
  count-worked e = sym (ap (λ (t : Bool). cond t 1 (length (joint q u))) e)

  -- those that are looked at are among them
  pub total-few : (i : ℕ) → i < clause_total q u → i < clause_count q u
  unfolding clause_total
  total-few i h = go (relevant q u) h
    where
      go : (b : Bool) → i < cond b (clause_count q u) 0 → i < clause_count q u
      go true h = h
      go false h = absurd (omega arith)

  pub at-past : (i : ℕ) → clause_count q u ≤ i → None ≡ pattern_at q u i
  unfolding pattern_at
  at-past i h =
      sym (ap (λ (b : Bool). cond b (cond (all_any q u) (Some (pattern_struct (replicate (entry_count q) anything))) (clause_pattern (entry_count q) (get_or (joint q u) i []))) None)
      (le-ltb i (clause_count q u) h))

  pub at-many : (i : ℕ) → i < clause_count q u → all_any q u ≡ true → Some (pattern_struct (replicate (entry_count q) anything)) ≡ pattern_at q u i
  unfolding pattern_at
  at-many i h e =
      sym (ap₂ (λ (b t : Bool). cond b (cond t (Some (pattern_struct (replicate (entry_count q) anything))) (clause_pattern (entry_count q) (get_or (joint q u) i []))) None)
      (lt-ltb i (clause_count q u) h) e)

  pub at-worked : (i : ℕ) → i < clause_count q u → all_any q u ≡ false → clause_pattern (entry_count q) (get_or (joint q u) i []) ≡ pattern_at q u i
  unfolding pattern_at
  at-worked i h e =
      sym (ap₂ (λ (b t : Bool). cond b (cond t (Some (pattern_struct (replicate (entry_count q) anything))) (clause_pattern (entry_count q) (get_or (joint q u) i []))) None)
      (lt-ltb i (clause_count q u) h) e)
