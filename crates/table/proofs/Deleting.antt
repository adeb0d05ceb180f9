-- The loop of a DELETE, over the rows of an area.
--     Closed          what holds with `left` rows left from cell `from` on, and the rows that stay moved up to cell `to`
--     delete-gone     after a row that goes
--     delete-stay     after a row that stays and was moved to `to`
--     delete-done     after the last, with the cells between cleared
-- Assumes nothing.
use Prim.Native.Nat.{ℕ, zero, suc, ◌+◌, ◌-◌, ◌*◌, ◌≤◌, max}
use mathlib.Core.Path.{◌≡◌, refl, sym, ap, ap₂, ◌∙◌, subst}
use mathlib.Core.Bool.{Bool, true, false, not}
use mathlib.Core.List.{List, [], ◌∷◌, ◌++◌, append_assoc, append-nil}
use native.Mathlib.Nat.{zero-mul}
use native.Mathlib.Omega.{arith}
use borrow.Rule.Slice.PartMut.{put_mid, mid_of}
use lib.IntN.{ℤ, pos}
use lib.ListN.{length, take, drop, replicate, length-take, length-drop}
use lib.Seq.{length-take-le, drop-drop, paste, take-paste, drop-paste, length-paste}
use Rattle.lists.specs.Lists.{flat, cons_if, keep, count}
use Rattle.meaning.specs.Cells.{rows_in, stored}
use Rattle.meaning.proofs.Cells.{rows-length}
use Rattle.table.proofs.Work.{row_room}

-- the rows that p does not hold of
abbrev pub without : (List ℤ → Bool) → List (List ℤ) → List (List ℤ)
without p rows = keep (λ (r : List ℤ). not (p r)) rows

-- `used` is the number of rows at the start, and a₀ the area there
pub record Closed (p : List ℤ → Bool) (c used : ℕ) (a₀ a : List ℤ) (from to left gone : ℕ) : Type 0 where
  pub fits : used * c ≤ length a
  pub room : from + left * c ≡ used * c
  pub same : length a ≡ length a₀
  pub order : to ≤ from
  pub few : gone + left ≤ used
  pub ahead : drop from a ≡ drop from a₀
  pub counted : gone + count p (rows_in c left (drop from a₀)) ≡ count p (rows_in c used a₀)
  pub cells : take to a ++ flat (without p (rows_in c left (drop from a₀))) ≡ flat (without p (rows_in c used a₀))

module _ (p : List ℤ → Bool) (c used : ℕ) (a₀ : List ℤ) where
  -- the row at `from`, as the loop has it
  abbrev row_at : List ℤ → ℕ → List ℤ
  row_at a from = take (from + c - from) (drop from a)

  row_is : (a : List ℤ) (from to left gone : ℕ) → Closed p c used a₀ a from to left gone → row_at a from ≡ take c (drop from a₀)
  row_is a from to left gone L =
      let e : from + c - from ≡ c = omega arith in
      ap₂ (λ (k : ℕ) (l : List ℤ). take k l) e L.ahead

  next-ahead : (a : List ℤ) (from : ℕ) → drop from a ≡ drop from a₀ → drop (from + c) a ≡ drop (from + c) a₀
  next-ahead a from e = sym (drop-drop c from a) ∙ ap (drop c) e ∙ drop-drop c from a₀

  gone-suc : (a : List ℤ) (from to m gone : ℕ) → Closed p c used a₀ a from to (suc m) gone → p (take c (drop from a₀)) ≡ true → Closed p c used a₀ a (from + c) to m (gone + 1)
  gone-suc a from to m gone L t =
      let q : suc m * c ≡ c + (suc m - 1) * c = row_room (suc m) c (omega arith) in
      let one : suc m - 1 ≡ m = omega arith in
      let q' : suc m * c ≡ c + m * c = q ∙ ap (λ (k : ℕ). c + k * c) one in
      let rows : List (List ℤ) = rows_in c m (drop c (drop from a₀)) in
      let past : drop c (drop from a₀) ≡ drop (from + c) a₀ = drop-drop c from a₀ in
      let n : suc (count p rows) ≡ count p (rows_in c (suc m) (drop from a₀)) = sym (ap (λ (b : Bool). length (cons_if b (take c (drop from a₀)) (keep p rows))) t) in
      let w : without p rows ≡ without p (rows_in c (suc m) (drop from a₀)) = sym (ap (λ (b : Bool). cons_if (not b) (take c (drop from a₀)) (without p rows)) t) in
      let cnt : gone + count p (rows_in c (suc m) (drop from a₀)) ≡ count p (rows_in c used a₀) = L.counted in
      let cnt' : gone + 1 + count p rows ≡ count p (rows_in c used a₀) = omega arith in
      record {
        fits = L.fits;
        room = omega arith;
        same = L.same;
        order = omega arith;
        few = omega arith;
        ahead = next-ahead a from L.ahead;
        counted = ap (λ (l : List ℤ). gone + 1 + count p (rows_in c m l)) (sym past) ∙ cnt';
        cells = ap (λ (l : List ℤ). take to a ++ flat (without p (rows_in c m l))) (sym past) ∙ ap (λ (r : List (List ℤ)). take to a ++ flat r) w ∙ L.cells;
      }

  stay-suc : (a : List ℤ) (from to m gone : ℕ) → Closed p c used a₀ a from to (suc m) gone → p (take c (drop from a₀)) ≡ false → Closed p c used a₀ (paste a to (drop from a) c) (from + c) (to + c) m gone
  stay-suc a from to m gone L t =
      let q : suc m * c ≡ c + (suc m - 1) * c = row_room (suc m) c (omega arith) in
      let one : suc m - 1 ≡ m = omega arith in
      let q' : suc m * c ≡ c + m * c = q ∙ ap (λ (k : ℕ). c + k * c) one in
      let a' : List ℤ = paste a to (drop from a) c in
      let fit : used * c ≤ length a = L.fits in
      let rm : from + suc m * c ≡ used * c = L.room in
      let or : to ≤ from = L.order in
      let hd : c ≤ length (drop from a) = simp length-drop (omega arith) in
      let len : length a' ≡ length a = length-paste a to (drop from a) c (omega arith) hd in
      let row : List ℤ = take c (drop from a₀) in
      let rows : List (List ℤ) = rows_in c m (drop c (drop from a₀)) in
      let past : drop c (drop from a₀) ≡ drop (from + c) a₀ = drop-drop c from a₀ in
      let n : count p rows ≡ count p (rows_in c (suc m) (drop from a₀)) = sym (ap (λ (b : Bool). length (cons_if b (take c (drop from a₀)) (keep p rows))) t) in
      let w : row ∷ without p rows ≡ without p (rows_in c (suc m) (drop from a₀)) = sym (ap (λ (b : Bool). cons_if (not b) row (without p rows)) t) in
      let k : from + c ≡ to + c + (from - to) = omega arith in
      let back : drop (from + c) a' ≡ drop (from + c) a =
      ap (λ (j : ℕ). drop j a') k ∙ sym (drop-drop (from - to) (to + c) a') ∙ ap (drop (from - to)) (drop-paste a to (drop from a) c (omega arith) hd) ∙ drop-drop (from - to) (to + c) a ∙ ap (λ (j : ℕ). drop j a) (sym k) in
      record {
        fits = omega arith;
        room = omega arith;
        same = len ∙ L.same;
        order = omega arith;
        few = omega (arith, L.few);
        ahead = back ∙ next-ahead a from L.ahead;
        counted = ap (λ (l : List ℤ). gone + count p (rows_in c m l)) (sym past) ∙ ap (λ (j : ℕ). gone + j) n ∙ L.counted;
        cells = ap (λ (l : List ℤ). take (to + c) a' ++ flat (without p (rows_in c m l))) (sym past)
            ∙ ap (λ (x : List ℤ). x ++ flat (without p rows)) (take-paste a to (drop from a) c (omega arith) hd)
            ∙ append_assoc (take to a) (take c (drop from a)) (flat (without p rows))
            ∙ ap (λ (l : List ℤ). take to a ++ (take c l ++ flat (without p rows))) L.ahead
            ∙ ap (λ (r : List (List ℤ)). take to a ++ flat r) w
            ∙ L.cells;
      }

  pub delete-gone : (a : List ℤ) (from to left gone : ℕ) → 1 ≤ left → Closed p c used a₀ a from to left gone → p (row_at a from) ≡ true → Closed p c used a₀ a (from + c) to (left - 1) (gone + 1)
  delete-gone a from to zero gone h L t = absurd (omega arith)
  delete-gone a from to (suc m) gone h L t =
      let o : m ≡ suc m - 1 = omega arith in
      subst (λ (k : ℕ). Closed p c used a₀ a (from + c) to k (gone + 1)) o
      (gone-suc a from to m gone L (ap p (sym (row_is a from to (suc m) gone L)) ∙ t))

  pub delete-stay : (a a' : List ℤ) (from to left gone : ℕ) → 1 ≤ left → Closed p c used a₀ a from to left gone → p (row_at a from) ≡ false → a' ≡ paste a to (drop from a) c → Closed p c used a₀ a' (from + c) (to + c) (left - 1) gone
  delete-stay a a' from to zero gone h L t e = absurd (omega arith)
  delete-stay a a' from to (suc m) gone h L t e =
      let o : m ≡ suc m - 1 = omega arith in
      subst (λ (k : ℕ). Closed p c used a₀ a' (from + c) (to + c) k gone) o
      (subst (λ (l : List ℤ). Closed p c used a₀ l (from + c) (to + c) m gone) (sym e)
      (stay-suc a from to m gone L (ap p (sym (row_is a from to (suc m) gone L)) ∙ t)))

  pub delete-done : (a z : List ℤ) (from to left gone : ℕ) → left ≤ 0 → Closed p c used a₀ a from to left gone → z ≡ replicate (length (mid_of to (from - to) a)) (pos 0) → (gone ≡ count p (rows_in c used a₀)) × (put_mid to (from - to) a z ≡ stored a₀ (used * c) (without p (rows_in c used a₀)))
  unfolding stored
  delete-done a z from to zero gone h L ez =
      let n : gone + 0 ≡ count p (rows_in c used a₀) = L.counted in
      let kept : List ℤ = flat (without p (rows_in c used a₀)) in
      let all : from + 0 * c ≡ used * c = L.room in
      let zc : 0 * c ≡ 0 = zero-mul c in
      let fit : used * c ≤ length a = L.fits in
      let or : to ≤ from = L.order in
      let cells : take to a ≡ kept = sym (append-nil (take to a)) ∙ L.cells in
      let len : length kept ≡ to = ap length (sym cells) ∙ length-take-le to a (omega arith) in
      let mid : length (mid_of to (from - to) a) ≡ used * c - length kept = simp (length-take, length-drop) (omega arith) in
      let end : max (used * c) (length kept) ≡ from = omega arith in
      let there : to + (from - to) ≡ from = omega arith in
      let rest : drop (from - to) (drop to a) ≡ drop (max (used * c) (length kept)) a₀ =
      drop-drop (from - to) to a ∙ ap (λ (k : ℕ). drop k a) there ∙ L.ahead ∙ ap (λ (k : ℕ). drop k a₀) (sym end) in (
        omega arith,
        ap₂ (λ (x y : List ℤ). x ++ (z ++ y)) cells rest ∙ ap (λ (x : List ℤ). kept ++ (x ++ drop (max (used * c) (length kept)) a₀)) (ez ∙ ap (λ (k : ℕ). replicate k (pos 0)) mid),
      )
  delete-done a z from to (suc m) gone h L ez = absurd (omega arith)

  -- the same, at equal numbers and cells, as where the arms of a branch meet
  pub closed_at : (a a' : List ℤ) (from to to' left gone gone' : ℕ) → a' ≡ a → to' ≡ to → gone' ≡ gone → Closed p c used a₀ a from to left gone → Closed p c used a₀ a' from to' left gone'
  closed_at a a' from to to' left gone gone' ea et eg L =
      subst (λ (l : List ℤ). Closed p c used a₀ l from to' left gone') (sym ea)
      (subst (λ (k : ℕ). Closed p c used a₀ a from k left gone') (sym et)
      (subst (λ (k : ℕ). Closed p c used a₀ a from to left k) (sym eg) L))

  -- before the first row
  pub closed-start : used * c ≤ length a₀ → Closed p c used a₀ a₀ 0 0 used 0
  closed-start h =
      let none : 0 + count p (rows_in c used a₀) ≡ count p (rows_in c used a₀) = omega arith in
      record { fits = h; room = omega arith; same = refl; order = omega arith; few = omega arith; ahead = refl; counted = none; cells = refl }

  -- where all rows go
  pub closed-all : used * c ≤ length a₀ → ((r : List ℤ) → p r ≡ true) → Closed p c used a₀ a₀ (used * c) 0 0 used
  closed-all h all =
      let none : 0 * c ≡ 0 = zero-mul c in
      let few : count p (rows_in c used a₀) ≡ used = every (rows_in c used a₀) ∙ rows-length c used a₀ in
      record {
        fits = h;
        room = omega arith;
        same = refl;
        order = omega arith;
        few = omega arith;
        ahead = refl;
        counted = add-zero used ∙ sym few;
        cells = ap flat (sym (gone (rows_in c used a₀)));
      }
    where
      every : (rows : List (List ℤ)) → count p rows ≡ length rows
      every [] = refl
      every (r ∷ rs) = ap (λ (b : Bool). length (cons_if b r (keep p rs))) (all r) ∙ ap suc (every rs)

      gone : (rows : List (List ℤ)) → without p rows ≡ []
      gone [] = refl
      gone (r ∷ rs) = ap (λ (b : Bool). cons_if (not b) r (without p rs)) (all r) ∙ gone rs

      add-zero : (n : ℕ) → n + 0 ≡ n
      add-zero n = omega arith

  -- one row fewer is left
  pub row-next : (a : List ℤ) (i from to gone : ℕ) → Closed p c used a₀ a from to (used - i - 1) gone → Closed p c used a₀ a from to (used - (i + 1)) gone
  row-next a i from to gone L = let n : used - i - 1 ≡ used - (i + 1) = omega arith in subst (λ (k : ℕ). Closed p c used a₀ a from to k gone) n L
