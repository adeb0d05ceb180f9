-- Where A.7's rule does not drop it an answer stays, in a table of rows of 32-bit numbers. Assumes nothing.
use mathlib.Core.Path.{◌≡◌, refl, sym, ap, subst, ◌∙◌}
use mathlib.Core.Bool.{Bool, true, false, not, ◌&&◌, ◌||◌}
use mathlib.Core.Option.{Option}
use mathlib.Core.List.{List, [], ◌++◌, append-nil}
use Prim.Native.Nat.{ℕ}
use lib.IntN.{ℤ, pos}
use lib.ListN.{replicate}
use Rattle.lists.specs.Lists.{All, nil, cons, any}
use Rattle.lists.proofs.Bools.{contra, not-false, or_left, or_right}
use Rattle.lists.proofs.Lists.{All-map, any_false}
use Rattle.meaning.specs.Statement.{Second, Query, Change, insert, delete, update}
use Rattle.meaning.specs.Meaning.{Row, takes, answer, changed}
use Rattle.meaning.specs.Pattern.{first, side_of, matters_in, matters, matches_two}
use Rattle.meaning.specs.Exact.{is_separate, IsRow, affects, drops}
use Rattle.meaning.specs.Demand.{rows_beside, StaysUndropped}
use Rattle.meaning.proofs.Weakening.{Seen, alone-stays, alone-unseen, answer_stays}
use Rattle.meaning.proofs.Exact.{zeros, alone-is, separate-single, separate-matters, affects-exactly-if}

-- the rows through which a change is judged: of INSERT, where any row does, one of zeros
seen-rows : (columns : ℕ) (q : Query) (qs : List ℤ) (c : Change) (us : List ℤ) (rows : List Row)
    → ((r : Row) → IsRow columns r → matters_in q qs first c us r [] ≡ false) → All (IsRow columns) rows → All (λ r. matters_in q qs first c us r [] ≡ false) (Seen c rows)
seen-rows columns q qs (insert os) us rows f R = cons (f (replicate columns (pos 0)) (zeros columns)) nil
seen-rows columns q qs (delete g) us rows f R = All-map f R
seen-rows columns q qs (update ss g) us rows f R = All-map f R

pub stays_undropped : StaysUndropped
unfolding drops
stays_undropped columns q qs u us out rows others n R w b is h = go (matches_two q u out us qs) refl h
  where
    Stays : Option Second → Type 0
    Stays m = answer q qs (rows_beside m (side_of q u) (changed u.change us rows) others) ≡ answer q qs (rows_beside m (side_of q u) (out ++ rows) others)

    taken : Bool
    taken = any (takes q qs) out

    exact : (not (is_separate q u) || (affects columns q qs u us || taken)) ≡ false → Stays q.second
    exact k =
        subst Stays (sym (separate-single q u separate))
        (alone-stays q qs u.change us rows (seen-rows columns q qs u.change us rows unmoved R) ∙ sym (alone-unseen q qs out rows untaken))
      where
        separate : is_separate q u ≡ true
        separate = not-false (is_separate q u) (or_left (not (is_separate q u)) (affects columns q qs u us || taken) k)

        rest : (affects columns q qs u us || taken) ≡ false
        rest = or_right (not (is_separate q u)) (affects columns q qs u us || taken) k

        unmoved : (r : Row) → IsRow columns r → matters_in q qs first u.change us r [] ≡ false
        unmoved r b =
            alone-is q qs u.change us r ∙ sym (separate-matters q u separate qs us r)
            ∙ contra (matters q qs u us r []) (affects columns q qs u us) (λ m. (affects-exactly-if q u separate columns qs us).1 (r, b, m))
            (or_left (affects columns q qs u us) taken rest)

        untaken : All (λ r. takes q qs (r ++ []) ≡ false) out
        untaken = All-map (λ r e. ap (takes q qs) (append-nil r) ∙ e) (any_false (takes q qs) out (or_right (affects columns q qs u us) taken rest))

    go : (m : Bool) → matches_two q u out us qs ≡ m → (m && (not (is_separate q u) || (affects columns q qs u us || taken))) ≡ false → Stays q.second
    go true e k = exact k
    go false e k = answer_stays q qs u us out rows others n w b is e
