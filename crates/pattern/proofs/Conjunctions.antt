-- The conjunctions that are tried are possible exactly if some row of 32-bit numbers is affected: whether an update matters through a row is whether the row meets one of them.
-- Assumes nothing.
use mathlib.Core.Path.{◌≡◌, refl, sym, ap, ap₂, subst, ◌∙◌}
use mathlib.Core.Logic.{◌↔◌}
use mathlib.Core.Bool.{Bool, true, false, not, ◌&&◌, ◌||◌, false≢true, and-false, or-true}
use mathlib.Core.List.{List, [], ◌∷◌, ◌++◌, map}
use Prim.Native.Nat.{ℕ, zero, suc, ◌≤◌}
use lib.IntN.{ℤ}
use lib.Dec.{leb}
use lib.ListN.{length, length-map}
use borrow.Author.Tests.{leb-true, eq-eqb}
use Rattle.lists.specs.Lists.{All, nil, any, all}
use Rattle.lists.specs.Tests.{eq_z, eq_list}
use Rattle.lists.proofs.Bools.{and-or, or-and, and_assoc}
use Rattle.lists.proofs.Lists.{All-every, All-head, All-tail, All-map, All-append, All-image, all_append, any_append, any-map, any_same}
use Rattle.meaning.specs.Condition.{Comparison, holds}
use Rattle.meaning.specs.Statement as M
use Rattle.meaning.specs.Statement.{Operand}
use Rattle.meaning.specs.Meaning.{Row, operand_value, new_row, assigned}
use Rattle.meaning.specs.Pattern.{placed_from}
use Rattle.meaning.specs.Exact.{IsRow}
use Rattle.statement.specs.declared.Query.{Query}
use Rattle.statement.specs.declared.Update.{Update}
use Rattle.statement.specs.Sound.{settings_read}
use Rattle.statement.specs.SoundTest.{setting_values}
use Rattle.table.specs.Rows.{meets_stored, selected_stored}
use Rattle.pattern.specs.Stored.{separate_stored, matters_stored}
use Rattle.pattern.specs.Private.Literals.{Literal, wanted, trues, falses, filled_operand, after_operand, possible, where_clauses, not_clauses, alterations, some_possible, decided}
use Rattle.pattern.proofs.Choice.{met, Proper, decides}
use Rattle.pattern.proofs.Plain.{Plain, plain-proper, filled-tame, after-tame, Separate, separate-is, filled-where, filled-not, says-filled, says-set, says-placed, where-says, not-says}
use Rattle.pattern.proofs.Altering.{alters, alterations-proper}

-- some row of n columns passes
abbrev pub SomeRow : ℕ → (Row → Bool) → Type 0
SomeRow n p = (r : Row) × IsRow n r × (p r ≡ true)

-- the update with the values us matters to the query with the values qs through some row
abbrev pub AffectedStored : ℕ → Query → List ℤ → Update → List ℤ → Type 0
AffectedStored n q qs u us = SomeRow n (matters_stored u.form q qs u us)

-- ---- a test that holds exactly if some row passes another

pub record Decides (n : ℕ) (b : Bool) (p : Row → Bool) : Type 0 where
  pub there : b ≡ true → SomeRow n p
  pub back : SomeRow n p → b ≡ true

module _ {n : ℕ} where
  pub decides-same : {b : Bool} {p : Row → Bool} (q : Row → Bool) → ((r : Row) → IsRow n r → p r ≡ q r) → Decides n b p → Decides n b q
  decides-same {b} {p} q f D = record { there = λ e. to (D.there e); back = λ s. D.back (from s) }
    where
      to : SomeRow n p → SomeRow n q
      to (r, R, e) = (r, R, sym (f r R) ∙ e)

      from : SomeRow n q → SomeRow n p
      from (r, R, e) = (r, R, f r R ∙ e)

  pub decides_or : {b c : Bool} (p q : Row → Bool) → Decides n b p → Decides n c q → Decides n (b || c) (λ r. p r || q r)
  decides_or {b} {c} p q D E = record { there = to b refl; back = from }
    where
      to : (t : Bool) → b ≡ t → (t || c) ≡ true → SomeRow n (λ r. p r || q r)
      to true e k = go (D.there e)
        where
          go : SomeRow n p → SomeRow n (λ r. p r || q r)
          go (r, R, m) = (r, R, ap (λ (t : Bool). t || q r) m)
      to false e k = go (E.there k)
        where
          go : SomeRow n q → SomeRow n (λ r. p r || q r)
          go (r, R, m) = (r, R, ap (λ (t : Bool). p r || t) m ∙ or-true (p r))

      from : SomeRow n (λ r. p r || q r) → (b || c) ≡ true
      from (r, R, m) = go (p r) refl m
        where
          go : (t : Bool) → p r ≡ t → (t || q r) ≡ true → (b || c) ≡ true
          go true e k = ap (λ (t : Bool). t || c) (D.back (r, R, e))
          go false e k = ap (λ (t : Bool). b || t) (E.back (r, R, k)) ∙ or-true b

  -- "some row" and "some member" change places
  pub decides-any : {A : Type 0} (f : A → Bool) (p : A → Row → Bool) (xs : List A) → All (λ (x : A). Decides n (f x) (p x)) xs → Decides n (any f xs) (λ r. any (λ (x : A). p x r) xs)
  decides-any f p [] h = record { there = λ e. absurd (false≢true e); back = none }
    where
      none : SomeRow n (λ r. false) → false ≡ true
      none (r, R, e) = e
  decides-any f p (x ∷ xs) h = decides_or (p x) (λ r. any (λ x. p x r) xs) (All-head h) (decides-any f p xs (All-tail h))

-- ---- any and all

module _ {A : Type 0} where
  any-beside : (p : A → Bool) (c : List A) (ds : List (List A)) → any (λ (d : List A). all p (c ++ d)) ds ≡ (all p c && any (all p) ds)
  any-beside p c [] = sym (and-false (all p c))
  any-beside p c (d ∷ ds) = ap₂ ◌||◌ (all_append p c d) (any-beside p c ds) ∙ and-or (all p c) (all p d) (any (all p) ds)

  any-and : (p : A → Bool) (b : Bool) (xs : List A) → any (λ (x : A). p x && b) xs ≡ (any p xs && b)
  any-and p b [] = refl
  any-and p b (x ∷ xs) = ap (λ (t : Bool). (p x && b) || t) (any-and p b xs) ∙ or-and (p x) (any p xs) b

  and-any : (p : A → Bool) (b : Bool) (xs : List A) → any (λ (x : A). b && p x) xs ≡ (b && any p xs)
  and-any p b [] = sym (and-false b)
  and-any p b (x ∷ xs) = ap (λ (t : Bool). (b && p x) || t) (and-any p b xs) ∙ and-or b (p x) (any p xs)

-- ---- literals of clauses

module _ (r : Row) where
  abbrev true_here : Comparison Operand → Bool
  true_here c = holds (operand_value r []) c

  abbrev false_here : Comparison Operand → Bool
  false_here c = not (holds (operand_value r []) c)

  met-wanted : (b : Bool) (p : Comparison Operand → Bool) → ((c : Comparison Operand) → met r (wanted b c) ≡ p c) → (cs : List (Comparison Operand))
      → all (met r) (map (wanted b) cs) ≡ all p cs
  met-wanted b p f [] = refl
  met-wanted b p f (c ∷ cs) = ap₂ ◌&&◌ (f c) (met-wanted b p f cs)

  met-trues : (css : List (List (Comparison Operand))) → any (λ (cs : List (Comparison Operand)). all (met r) (trues cs)) css ≡ any (all true_here) css
  met-trues css = any_same (All-every (λ cs. met-wanted true true_here (λ c. refl) cs) css)

  some-trues : (css : List (List (Comparison Operand))) → any (all (met r)) (map trues css) ≡ any (all true_here) css
  some-trues css = any-map trues (all (met r)) css ∙ met-trues css

  some-falses : (css : List (List (Comparison Operand))) → any (all (met r)) (map falses css) ≡ any (all false_here) css
  some-falses css = any-map falses (all (met r)) css ∙ any_same (All-every (λ cs. met-wanted false false_here (λ c. refl) cs) css)

proper-wanted : (n : ℕ) (b : Bool) {cs : List (Comparison Operand)} → All (Plain n) cs → All (Proper n) (map (wanted b) cs)
proper-wanted n b h = All-image (wanted b) (All-map (λ c p. plain-proper n c p b) h)

proper-clauses : (n : ℕ) (b : Bool) {css : List (List (Comparison Operand))} → All (All (Plain n)) css → All (All (Proper n)) (map (map (wanted b)) css)
proper-clauses n b h = All-image (map (wanted b)) (All-map (λ cs p. proper-wanted n b p) h)

-- ---- conjunctions

module _ (n : ℕ) (some_column : 1 ≤ n) where
  possible-decides : (ls : List Literal) → All (Proper n) ls → Decides n (possible n ls) (λ r. all (met r) ls)
  possible-decides ls h = record { there = (decides n ls some_column h).0; back = (decides n ls some_column h).1 }

  some-possible : (ls : List Literal) (lss : List (List Literal)) → All (Proper n) ls → All (All (Proper n)) lss
      → Decides n (some_possible n ls lss) (λ r. all (met r) ls && any (all (met r)) lss)
  some-possible ls lss h k =
      decides-same (λ r. all (met r) ls && any (all (met r)) lss) (λ r R. any-beside (met r) ls lss)
      (decides-any (λ (ms : List Literal). possible n (ls ++ ms)) (λ ms r. all (met r) (ls ++ ms)) lss (All-map (λ ms m. possible-decides (ls ++ ms) (All-append h m)) k))

  -- a clause of G, a clause of a list, and one of some literals
  beside : (g : List (Comparison Operand)) (fs : List (List (Comparison Operand))) (lss : List (List Literal)) → All (Plain n) g → All (All (Plain n)) fs → All (All (Proper n)) lss
      → Decides n (any (λ (f : List (Comparison Operand)). some_possible n (trues g ++ trues f) lss) fs)
      (λ r. all (met r) (trues g) && (any (all (true_here r)) fs && any (all (met r)) lss))
  beside g fs lss hg hf k =
      decides-same (λ r. all (met r) (trues g) && (any (all (true_here r)) fs && any (all (met r)) lss)) same
      (decides-any (λ (f : List (Comparison Operand)). some_possible n (trues g ++ trues f) lss) (λ f r. all (met r) (trues g ++ trues f) && any (all (met r)) lss) fs
      (All-map (λ f m. some-possible (trues g ++ trues f) lss (All-append (proper-wanted n true hg) (proper-wanted n true m)) k) hf))
    where
      same : (r : Row) → IsRow n r
          → any (λ (f : List (Comparison Operand)). all (met r) (trues g ++ trues f) && any (all (met r)) lss) fs
          ≡ (all (met r) (trues g) && (any (all (true_here r)) fs && any (all (met r)) lss))
      same r R =
          any-and (λ (f : List (Comparison Operand)). all (met r) (trues g ++ trues f)) (any (all (met r)) lss) fs
          ∙ ap (λ (t : Bool). t && any (all (met r)) lss)
          (any_same (All-every (λ f. all_append (met r) (trues g) (trues f)) fs)
          ∙ and-any (λ (f : List (Comparison Operand)). all (met r) (trues f)) (all (met r) (trues g)) fs
          ∙ ap (λ (t : Bool). all (met r) (trues g) && t) (met-trues r fs))
          ∙ sym (and_assoc (all (met r) (trues g)) (any (all (true_here r)) fs) (any (all (met r)) lss))

-- ---- by the update's form

module _ (n : ℕ) (q : Query) (qs : List ℤ) (u : Update) (us : List ℤ) (S : Separate n q u) where
  abbrev F : List (List (Comparison Operand))
  F = where_clauses (filled_operand qs) q.condition

  abbrev G : List (List (Comparison Operand))
  G = where_clauses (filled_operand us) u.condition

  plain-F : All (All (Plain n)) F
  plain-F = filled-where n q.condition S.asked (filled-tame qs)

  plain-G : All (All (Plain n)) G
  plain-G = filled-where n u.condition S.given (filled-tame us)

  F-says : (r : Row) → any (all (true_here r)) F ≡ meets_stored q.condition qs r
  F-says r = where-says n q.condition S.asked (filled_operand qs) r r qs (says-filled n qs r)

  G-says : (r : Row) → any (λ (g : List (Comparison Operand)). all (met r) (trues g)) G ≡ meets_stored u.condition us r
  G-says r = met-trues r G ∙ where-says n u.condition S.given (filled_operand us) r r us (says-filled n us r)

  -- INSERT
  abbrev inserted : Operand → Operand
  inserted = after_operand (placed_from 0 (setting_values u)) us qs

  insert-decides : n ≤ length (settings_read u)
      → Decides n (some_possible n [] (map trues (where_clauses inserted q.condition))) (λ r. meets_stored q.condition qs (new_row (setting_values u) us))
  insert-decides room =
      decides-same (λ r. meets_stored q.condition qs (new_row (setting_values u) us))
      (λ r R. some-trues r fs ∙ where-says n q.condition S.asked inserted r (new_row (setting_values u) us) qs (says-placed n (setting_values u) us qs r long))
      (some-possible n S.some_column [] (map trues fs) nil
      (proper-clauses n true (filled-where n q.condition S.asked (after-tame (placed_from 0 (setting_values u)) us qs))))
    where
      fs : List (List (Comparison Operand))
      fs = where_clauses inserted q.condition

      long : n ≤ length (setting_values u)
      long = subst (λ (m : ℕ). n ≤ m) (sym (length-map (settings_read u) (λ (s : ℕ × M.Value). s.1))) room

  -- DELETE
  delete-decides : Decides n (any (λ (g : List (Comparison Operand)). some_possible n (trues g) (map trues F)) G)
      (λ r. meets_stored u.condition us r && meets_stored q.condition qs r)
  delete-decides =
      decides-same (λ r. meets_stored u.condition us r && meets_stored q.condition qs r)
      (λ r R. any-and (λ (g : List (Comparison Operand)). all (met r) (trues g)) (any (all (met r)) (map trues F)) G ∙ ap₂ ◌&&◌ (G-says r) (some-trues r F ∙ F-says r))
      (decides-any (λ (g : List (Comparison Operand)). some_possible n (trues g) (map trues F)) (λ g r. all (met r) (trues g) && any (all (met r)) (map trues F)) G
      (All-map (λ g h. some-possible n S.some_column (trues g) (map trues F) (proper-wanted n true h) (proper-clauses n true plain-F)) plain-G))

  -- UPDATE
  abbrev ss : List (ℕ × M.Value)
  ss = settings_read u

  abbrev F' : List (List (Comparison Operand))
  F' = where_clauses (after_operand ss us qs) q.condition

  abbrev not_F : List (List (Comparison Operand))
  not_F = not_clauses (filled_operand qs) q.condition

  abbrev not_F' : List (List (Comparison Operand))
  not_F' = not_clauses (after_operand ss us qs) q.condition

  abbrev leaving : List (List Literal)
  leaving = alterations n q u us ++ map falses not_F'

  abbrev before : Row → Bool
  before r = meets_stored q.condition qs r

  abbrev behind : Row → Bool
  behind r = meets_stored q.condition qs (assigned ss us r)

  abbrev altered : Row → Bool
  altered r = not (eq_list eq_z (selected_stored q r) (selected_stored q (assigned ss us r)))

  -- it was taken and alters or leaves; it is taken after and enters
  abbrev leaves_or_alters : Row → Bool
  leaves_or_alters r = any (all (true_here r)) F && any (all (met r)) leaving

  abbrev enters : Row → Bool
  enters r = any (all (true_here r)) F' && any (all (met r)) (map falses not_F)

  leaves-says : (r : Row) → IsRow n r → leaves_or_alters r ≡ (before r && (altered r || not (behind r)))
  leaves-says r R =
      ap₂ ◌&&◌ (F-says r)
      (any_append (all (met r)) (alterations n q u us) (map falses not_F')
      ∙ ap₂ ◌||◌ (alters n q u us r R.0)
      (some-falses r not_F' ∙ not-says n q.condition S.asked (after_operand ss us qs) r (assigned ss us r) qs (says-set n ss us qs r R.0)))

  enters-says : (r : Row) → IsRow n r → enters r ≡ (behind r && not (before r))
  enters-says r R =
      ap₂ ◌&&◌ (where-says n q.condition S.asked (after_operand ss us qs) r (assigned ss us r) qs (says-set n ss us qs r R.0))
      (some-falses r not_F ∙ not-says n q.condition S.asked (filled_operand qs) r r qs (says-filled n qs r))

  -- both together are "differs"
  parted : (a b e : Bool) → ((a && (e || not b)) || (b && not a)) ≡ ((a && not b) || ((not a && b) || (a && (b && e))))
  parted true true true = refl
  parted true true false = refl
  parted true false true = refl
  parted true false false = refl
  parted false true e = refl
  parted false false e = refl

  abbrev tried_with : List (Comparison Operand) → Bool
  tried_with g =
      any (λ (f : List (Comparison Operand)). some_possible n (trues g ++ trues f) leaving) F
      || any (λ (f : List (Comparison Operand)). some_possible n (trues g ++ trues f) (map falses not_F)) F'

  -- with one clause of G
  one-decides : (g : List (Comparison Operand)) → All (Plain n) g → Decides n (tried_with g) (λ r. all (met r) (trues g) && (leaves_or_alters r || enters r))
  one-decides g h =
      decides-same (λ r. all (met r) (trues g) && (leaves_or_alters r || enters r)) (λ r R. and-or (all (met r) (trues g)) (leaves_or_alters r) (enters r))
      (decides_or (λ r. all (met r) (trues g) && leaves_or_alters r) (λ r. all (met r) (trues g) && enters r)
      (beside n S.some_column g F leaving h plain-F
      (All-append (alterations-proper n q u us) (proper-clauses n false (filled-not n q.condition S.asked (after-tame ss us qs)))))
      (beside n S.some_column g F' (map falses not_F) h (filled-where n q.condition S.asked (after-tame ss us qs))
      (proper-clauses n false (filled-not n q.condition S.asked (filled-tame qs)))))

  update-decides : Decides n (any tried_with G) (matters_stored 1 q qs u us)
  update-decides =
      decides-same (matters_stored 1 q qs u us)
      (λ r R.
      any-and (λ (g : List (Comparison Operand)). all (met r) (trues g)) (leaves_or_alters r || enters r) G
      ∙ ap₂ ◌&&◌ (G-says r) (ap₂ ◌||◌ (leaves-says r R) (enters-says r R) ∙ parted (before r) (behind r) (altered r)))
      (decides-any tried_with (λ g r. all (met r) (trues g) && (leaves_or_alters r || enters r)) G (All-map one-decides plain-G))

  form-decides : (f : ℕ) → u.form ≡ f → Decides n (decided f n q qs u us) (matters_stored f q qs u us)
  unfolding decided
  form-decides zero e = insert-decides (leb-true n (length ss) (sym (ap (λ (t : Bool). not t || leb n (length ss)) (eq-eqb u.form 0 e)) ∙ S.room))
  form-decides (suc zero) e = update-decides
  form-decides (suc (suc k)) e = delete-decides

-- what is decided, exactly
pub decided-exactly : (n : ℕ) (q : Query) (qs : List ℤ) (u : Update) (us : List ℤ) → separate_stored n q u ≡ true → (decided u.form n q qs u us ≡ true) ↔ AffectedStored n q qs u us
decided-exactly n q qs u us h = (D.there, D.back)
  where
    D : Decides n (decided u.form n q qs u us) (matters_stored u.form q qs u us)
    D = form-decides n q qs u us (separate-is n q u h) u.form refl
