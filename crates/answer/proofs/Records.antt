-- Records as they are read: when a row is there, that it lies within the bytes then, and what is shown. Assumes nothing.
use mathlib.Core.Path.{◌≡◌, sym, ap, ap₂, ◌∙◌, subst}
use mathlib.Core.Bool.{Bool, true, false, cond, ◌&&◌}
use mathlib.Core.List.{List, []}
use Prim.Native.Nat.{ℕ, suc, ◌+◌, ◌*◌, ◌-◌, ◌≤◌, ◌<◌}
use native.Mathlib.Nat.{mul-le-mul_right, suc-mul}
use native.Mathlib.Omega.{arith}
use borrow.Author.Tests.{ltb-true, leb-true, eqb-true, le-leb, lt-leb}
use lib.Dec.{leb, ltb, eqb}
use lib.ListN.{length, take, drop, get_or}
use Rattle.lists.proofs.Bools.{and_left, and_right}
use Rattle.meaning.specs.Limits.{most_items, most_listed}
use Rattle.meaning.specs.Record.{columns_in, row_count, row_bytes, four_at, is_record, has_row, row_part}

module _ (bs : List ℕ) where
  -- the length that a record says, and that it is there
  sized : is_record bs ≡ true → row_count bs * row_bytes bs + 8 ≤ length bs
  unfolding is_record
  sized h =
      let t₅ = and_right (leb (columns_in bs) most_items) _ (and_right (leb 1 (columns_in bs)) _ (and_right (eqb (get_or bs 4 0) 1) _ (and_right (leb 8 (length bs)) _ h))) in
      let t₆ = and_right (leb (row_count bs) most_listed) _ t₅ in
      let z : four_at bs 0 ≡ row_count bs * row_bytes bs + 4 = eqb-true (four_at bs 0) (row_count bs * row_bytes bs + 4) (and_left _ (leb (four_at bs 0 + 4) (length bs)) t₆) in
      let l : four_at bs 0 + 4 ≤ length bs = leb-true (four_at bs 0 + 4) (length bs) (and_right (eqb (four_at bs 0) (row_count bs * row_bytes bs + 4)) _ t₆) in
      let k : row_count bs * row_bytes bs + 4 + 4 ≤ length bs = subst (λ (n : ℕ). n + 4 ≤ length bs) z l in
      omega arith

  module _ (i : ℕ) where
    -- a row that is there lies within the bytes
    pub row_fits : has_row bs i ≡ true → 8 + i * row_bytes bs + row_bytes bs ≤ length bs
    unfolding has_row
    row_fits h =
        let k : i < row_count bs = ltb-true i (row_count bs) (and_right (is_record bs) (ltb i (row_count bs)) h) in
        let m : suc i * row_bytes bs ≤ row_count bs * row_bytes bs = mul-le-mul_right (row_bytes bs) k in
        omega (arith, sized (and_left (is_record bs) (ltb i (row_count bs)) h), suc-mul i (row_bytes bs))

    pub row-short : length bs < 8 → has_row bs i ≡ false
    unfolding has_row is_record
    row-short h = rw (lt-leb 8 (length bs) h)

    -- the row is there if the numbers of the head agree and it is below the rows
    pub row-by : (size version columns rows : ℕ) → 8 ≤ length bs → size ≡ four_at bs 0 → version ≡ get_or bs 4 0 → columns ≡ columns_in bs → rows ≡ row_count bs → rows < 65536
        → has_row bs i ≡ ((eqb version 1 && (leb 1 columns && (leb columns 8 && (eqb size (rows * (4 * columns) + 4) && leb (size + 4) (length bs))))) && ltb i rows)
    unfolding has_row is_record
    row-by size version columns rows l e f g k r =
        let m : leb (row_count bs) 65535 ≡ true = le-leb (row_count bs) 65535 (omega arith) in
        rw (e, f, g, k, le-leb 8 (length bs) l, m)

    -- what is shown, by whether the row is there, from `start` up to `end`
    pub row-there : (start end : ℕ) → has_row bs i ≡ true → start ≡ 8 + i * row_bytes bs → end ≡ start + row_bytes bs → take (end - start) (drop start bs) ≡ row_part bs i
    unfolding row_part
    row-there start end h e f =
        let d : end - start ≡ row_bytes bs = omega arith in
        ap₂ (λ k n. take k (drop n bs)) d e
        ∙ sym (ap (λ (b : Bool). take (cond b (row_bytes bs) 0) (drop (cond b (8 + i * row_bytes bs) 0) bs)) h)

    pub row-missing : has_row bs i ≡ false → [] ≡ row_part bs i
    unfolding row_part
    row-missing h = sym (ap (λ (b : Bool). take (cond b (row_bytes bs) 0) (drop (cond b (8 + i * row_bytes bs) 0) bs)) h)
