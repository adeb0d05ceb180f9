-- A list of cells whose first n rows are each worked on by g, which keeps a row's length.
--     work-zero, work-suc     no row; the first row, and the others
--     flat-length     such rows have n times c cells
--     work-stored     it is the area that holds the rows worked on
--     row_room        a row left takes a row's cells
--     put-take, put-drop     a part that was lent and came back: the list up to its end, and past it
-- Assumes nothing.
use Prim.Native.Nat.{ℕ, zero, suc, ◌+◌, ◌-◌, ◌*◌, ◌≤◌, max}
use mathlib.Core.Path.{◌≡◌, sym, ap, ap₂, ◌∙◌}
use mathlib.Core.List.{List, ◌++◌, map, append_assoc}
use native.Mathlib.Nat.{zero-mul, suc-mul}
use native.Mathlib.Omega.{arith}
use borrow.Rule.Slice.PartMut.{put_mid}
use lib.IntN.{ℤ, pos}
use lib.ListN.{length, take, drop, replicate, length-append, length-drop}
use lib.Seq.{drop-drop, take_at, drop_at, length-take-le}
use Rattle.lists.specs.Lists.{flat}
use Rattle.meaning.specs.Cells.{rows_in, stored}

pub row_room : (left c : ℕ) → 1 ≤ left → left * c ≡ c + (left - 1) * c
row_room zero c h = absurd (omega arith)
row_room (suc m) c h =
    let e : suc m - 1 ≡ m = omega arith in
    let q : suc m * c ≡ c + m * c = omega (arith, suc-mul m c) in
    q ∙ ap (λ (k : ℕ). c + k * c) (sym e)

abbrev pub work : (List ℤ → List ℤ) → ℕ → ℕ → List ℤ → List ℤ
work g c n l = flat (map g (rows_in c n l)) ++ drop (n * c) l

module _ (g : List ℤ → List ℤ) where
  pub work-zero : (c : ℕ) (l : List ℤ) → work g c 0 l ≡ l
  work-zero c l = ap (λ (k : ℕ). drop k l) (zero-mul c)

  pub work-suc : (c n : ℕ) (l : List ℤ) → work g c (suc n) l ≡ g (take c l) ++ work g c n (drop c l)
  work-suc c n l =
      let e : suc n * c ≡ c + n * c = omega (arith, suc-mul n c) in
      let d : drop (suc n * c) l ≡ drop (n * c) (drop c l) = ap (λ (k : ℕ). drop k l) e ∙ sym (drop-drop (n * c) c l) in
      ap (λ (t : List ℤ). g (take c l) ++ flat (map g (rows_in c n (drop c l))) ++ t) d
      ∙ append_assoc (g (take c l)) (flat (map g (rows_in c n (drop c l)))) (drop (n * c) (drop c l))

  module _ (keeps : (r : List ℤ) → length (g r) ≡ length r) where
    pub flat-length : (c n : ℕ) (l : List ℤ) → n * c ≤ length l → length (flat (map g (rows_in c n l))) ≡ n * c
    flat-length c zero l h = sym (zero-mul c)
    flat-length c (suc n) l h =
        let q : suc n * c ≡ c + n * c = omega (arith, suc-mul n c) in
        let r : length (g (take c l)) ≡ c = keeps (take c l) ∙ length-take-le c l (omega arith) in
        let k : n * c ≤ length (drop c l) = simp length-drop (omega arith) in
        let i : length (flat (map g (rows_in c n (drop c l)))) ≡ n * c = flat-length c n (drop c l) k in
        length-append (g (take c l)) (flat (map g (rows_in c n (drop c l)))) ∙ ap₂ (λ (x y : ℕ). x + y) r i ∙ sym q

    pub work-stored : (c n : ℕ) (l : List ℤ) → n * c ≤ length l → work g c n l ≡ stored l (n * c) (map g (rows_in c n l))
    unfolding stored
    work-stored c n l h =
        let rows : List ℤ = flat (map g (rows_in c n l)) in
        let e : length rows ≡ n * c = flat-length c n l h in
        let none : n * c - length rows ≡ 0 = omega arith in
        let end : max (n * c) (length rows) ≡ n * c = omega arith in
        sym (ap₂ (λ (x y : ℕ). rows ++ (replicate x (pos 0) ++ drop y l)) none end)

module _ (at c : ℕ) (a r : List ℤ) (h : at ≤ length a) (len : length r ≡ c) where
  head-length : length (take at a ++ r) ≡ at + c
  head-length = length-append (take at a) r ∙ ap₂ (λ (x y : ℕ). x + y) (length-take-le at a h) len

  pub put-take : take (at + c) (put_mid at c a r) ≡ take at a ++ r
  put-take = ap (take (at + c)) (sym (append_assoc (take at a) r (drop c (drop at a)))) ∙ take_at (take at a ++ r) (drop c (drop at a)) (at + c) head-length

  pub put-drop : drop (at + c) (put_mid at c a r) ≡ drop c (drop at a)
  put-drop = ap (drop (at + c)) (sym (append_assoc (take at a) r (drop c (drop at a)))) ∙ drop_at (take at a ++ r) (drop c (drop at a)) (at + c) head-length
