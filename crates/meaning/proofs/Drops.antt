-- Which answers an update drops, as request A.7 says it. Assumes nothing.
use mathlib.Core.Path.{◌≡◌, refl, sym, ap, subst, ◌∙◌}
use mathlib.Core.Logic.{◌↔◌, ◌⊎◌, inl, inr}
use mathlib.Core.Bool.{Bool, true, false, not, ◌&&◌, ◌||◌, false≢true}
use mathlib.Core.List.{List, []}
use lib.IntN.{ℤ, pos}
use lib.ListN.{replicate}
use Rattle.lists.specs.Lists.{any}
use Rattle.lists.specs.Tests.{eq_z, eq_list}
use Rattle.lists.proofs.Bools.{and_left, and_right, and_both, not-true, iff, clash, eq_z-true}
use Rattle.lists.proofs.Changed.{eq_list-true}
use Rattle.meaning.specs.Statement.{Query, Change, insert, delete, update}
use Rattle.meaning.specs.Meaning.{Row, meets_where, takes, selected, new_row, assigned}
use Rattle.meaning.specs.Pattern.{Side, differs, matters, matches_two}
use Rattle.meaning.specs.Exact.{is_separate, Affected, affects, drops}
use Rattle.meaning.specs.Demand.{StandsBeside, Altered, AlteredBy, AffectedMeans, DropsExactlyIf, InsertKnown, PatternsAlone, AffectedMatched}
use Rattle.meaning.proofs.Weakening.{eq_list-same, patterns_weaken}
use Rattle.meaning.proofs.Exact.{matters_alone, zeros, separate-first, separate-matters, affects-exactly-if}

-- ---- the sentence

module _ (q : Query) (qs : List ℤ) (r s : Row) where
  differs-altered : differs q qs r s ≡ true → Altered q qs r s
  differs-altered h = go (takes q qs r) (takes q qs s) refl refl h
    where
      go : (a b : Bool) → takes q qs r ≡ a → takes q qs s ≡ b
          → ((a && not b) || ((not a && b) || (a && (b && not (eq_list eq_z (selected q r) (selected q s)))))) ≡ true → Altered q qs r s
      go true true d e h =
          inr (inr (
            d,
            e,
            λ p. clash (subst (λ (x : Row). eq_list eq_z (selected q r) x ≡ true) p (eq_list-same (selected q r)))
                (not-true (eq_list eq_z (selected q r) (selected q s)) h),
          ))
      go true false d e h = inl (d, e)
      go false true d e h = inr (inl (d, e))
      go false false d e h = absurd (false≢true h)

  altered-differs : Altered q qs r s → differs q qs r s ≡ true
  altered-differs A = go (takes q qs r) (takes q qs s) (eq_list eq_z (selected q r) (selected q s)) refl refl refl A
    where
      go : (a b x : Bool) → takes q qs r ≡ a → takes q qs s ≡ b → eq_list eq_z (selected q r) (selected q s) ≡ x → Altered q qs r s
          → ((a && not b) || ((not a && b) || (a && (b && not x)))) ≡ true
      go true true false d e f A = refl
      go true true true d e f (inl (j, k)) = clash e k
      go true true true d e f (inr (inl (j, k))) = clash d j
      go true true true d e f (inr (inr (j, k, ne))) = absurd (ne (eq_list-true eq_z eq_z-true (selected q r) (selected q s) f))
      go true false x d e f A = refl
      go false true x d e f A = refl
      go false false x d e f (inl (j, k)) = clash j d
      go false false x d e f (inr (inl (j, k))) = clash k e
      go false false x d e f (inr (inr (j, k, ne))) = clash j d

module _ (q : Query) (qs us : List ℤ) (r : Row) where
  alone-altered : (c : Change) → (matters_alone q qs c us r ≡ true) ↔ AlteredBy q qs c us r
  alone-altered (insert os) = (λ h. h, λ h. h)
  alone-altered (delete g) = (
    λ h. (and_left (meets_where g us r) (takes q qs r) h, and_right (meets_where g us r) (takes q qs r) h),
    λ A. and_both (meets_where g us r) (takes q qs r) A.0 A.1,
  )
  alone-altered (update ss g) =
      let s : Row = assigned ss us r in (
        λ h. (and_left (meets_where g us r) (differs q qs r s) h, differs-altered q qs r s (and_right (meets_where g us r) (differs q qs r s) h)),
        λ A. and_both (meets_where g us r) (differs q qs r s) A.0 (altered-differs q qs r s A.1),
      )

pub affected_means : AffectedMeans
affected_means columns q qs u us h = (
  λ (r, R, m). (r, R, (alone-altered q qs us r u.change).0 (sym (separate-matters q u h qs us r) ∙ m)),
  λ (r, R, A). (r, R, separate-matters q u h qs us r ∙ (alone-altered q qs us r u.change).1 A),
)

-- ---- dropped exactly if

pub drops_exactly_if : DropsExactlyIf
unfolding drops
drops_exactly_if columns q u out us qs h = (there, back)
  where
    Moved : Type 0
    Moved = Affected columns q qs u us ⊎ (any (takes q qs) out ≡ true)

    moved : Bool
    moved = affects columns q qs u us || any (takes q qs) out

    exact : (not (is_separate q u) || moved) ≡ moved
    exact = ap (λ (b : Bool). not b || moved) h

    split : (a b : Bool) → (a || b) ≡ true → (a ≡ true) ⊎ (b ≡ true)
    split true b e = inl refl
    split false b e = inr e

    either : (affects columns q qs u us ≡ true) ⊎ (any (takes q qs) out ≡ true) → Moved
    either (inl e) = inl ((affects-exactly-if q u h columns qs us).0 e)
    either (inr e) = inr e

    joined : Moved → moved ≡ true
    joined (inl A) = ap (λ (b : Bool). b || any (takes q qs) out) ((affects-exactly-if q u h columns qs us).1 A)
    joined (inr e) = ap (λ (b : Bool). affects columns q qs u us || b) e ∙ last (affects columns q qs u us)
      where
        last : (a : Bool) → (a || true) ≡ true
        last true = refl
        last false = refl

    there : (matches_two q u out us qs && (not (is_separate q u) || moved)) ≡ true → (matches_two q u out us qs ≡ true) × Moved
    there d = (
      and_left (matches_two q u out us qs) (not (is_separate q u) || moved) d,
      either (split (affects columns q qs u us) (any (takes q qs) out) (sym exact ∙ and_right (matches_two q u out us qs) (not (is_separate q u) || moved) d)),
    )

    back : (matches_two q u out us qs ≡ true) × Moved → (matches_two q u out us qs && (not (is_separate q u) || moved)) ≡ true
    back (m, A) = and_both (matches_two q u out us qs) (not (is_separate q u) || moved) m (exact ∙ joined A)

pub insert_known : InsertKnown
insert_known columns q qs u us os h e =
    iff (affects columns q qs u us) (takes q qs (new_row os us)) (λ k. there ((affects-exactly-if q u h columns qs us).0 k))
    (λ k. (affects-exactly-if q u h columns qs us).1 (back k))
  where
    known : (r : Row) → matters q qs u us r [] ≡ takes q qs (new_row os us)
    known r = separate-matters q u h qs us r ∙ ap (λ (c : Change). matters_alone q qs c us r) e

    there : Affected columns q qs u us → takes q qs (new_row os us) ≡ true
    there (r, R, m) = sym (known r) ∙ m

    back : takes q qs (new_row os us) ≡ true → Affected columns q qs u us
    back k = (replicate columns (pos 0), zeros columns, known (replicate columns (pos 0)) ∙ k)

pub patterns_alone : PatternsAlone
unfolding drops
patterns_alone columns q u out us qs h =
    ap (λ (b : Bool). matches_two q u out us qs && (not b || (affects columns q qs u us || any (takes q qs) out))) h ∙ whole (matches_two q u out us qs)
  where
    whole : (m : Bool) → (m && true) ≡ m
    whole true = refl
    whole false = refl

pub affected_matched : AffectedMatched
affected_matched columns q u us qs n h within (r, R, m) =
    patterns_weaken q qs u us r [] n (within r R) (subst (λ (s : Side). StandsBeside q s []) (sym (separate-first q u h)) tt) m
