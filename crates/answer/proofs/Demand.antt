-- The claims of specs/Demand. Assumes nothing.
use mathlib.Core.Path.{◌≡◌, refl, ap, ◌∙◌}
use mathlib.Core.Logic.{◌≢◌, ◌↔◌}
use mathlib.Core.Bool.{Bool, true, false, ◌&&◌, cond}
use mathlib.Core.List.{List, []}
use Prim.Native.Nat.{ℕ, ◌+◌, ◌*◌, ◌≤◌, ◌<◌}
use native.Mathlib.Nat.{mul_comm, mul_assoc}
use native.Mathlib.Omega.{arith}
use borrow.Author.Tests.{leb-true, le-leb, eqb-true, eq-eqb, ltb-true, lt-ltb}
use lib.Dec.{leb, ltb, eqb}
use lib.ListN.{length, get_or, take, drop}
use Rattle.lists.proofs.Bools.{and_left, and_right, and_both}
use Rattle.meaning.specs.Record.{four_at, columns_in, row_count, row_bytes, is_record, has_row, row_refusal, row_part}
use Rattle.answer.specs.Demand.{IsRecord, Demands}

module _ (bs : List ℕ) where
  -- the bytes of all rows
  rows-bytes : row_count bs * row_bytes bs ≡ 4 * (columns_in bs * row_count bs)
  rows-bytes = mul_comm (row_count bs) (row_bytes bs) ∙ mul_assoc 4 (columns_in bs) (row_count bs)

  record_is : is_record bs ≡ true → IsRecord bs
  unfolding is_record
  record_is h₁ =
      let h₂ = and_right (leb 8 (length bs)) _ h₁ in
      let h₃ = and_right (eqb (get_or bs 4 0) 1) _ h₂ in
      let h₄ = and_right (leb 1 (columns_in bs)) _ h₃ in
      let h₅ = and_right (leb (columns_in bs) 8) _ h₄ in
      let h₆ = and_right (leb (row_count bs) 65535) _ h₅ in
      let four : four_at bs 0 ≡ row_count bs * row_bytes bs + 4 = eqb-true (four_at bs 0) (row_count bs * row_bytes bs + 4) (and_left (eqb (four_at bs 0) (row_count bs * row_bytes bs + 4)) _ h₆) in
      let there : four_at bs 0 + 4 ≤ length bs = leb-true (four_at bs 0 + 4) (length bs) (and_right (eqb (four_at bs 0) (row_count bs * row_bytes bs + 4)) _ h₆) in
      record {
        version = eqb-true (get_or bs 4 0) 1 (and_left (eqb (get_or bs 4 0) 1) _ h₂);
        columns = (leb-true 1 (columns_in bs) (and_left (leb 1 (columns_in bs)) _ h₃), leb-true (columns_in bs) 8 (and_left (leb (columns_in bs) 8) _ h₄));
        rows = leb-true (row_count bs) 65535 (and_left (leb (row_count bs) 65535) _ h₅);
        length_agrees = omega (arith, four, rows-bytes);
        whole = omega (arith, there);
      }

  is-record : IsRecord bs → is_record bs ≡ true
  unfolding is_record
  is-record R =
      and_both (leb 8 (length bs)) _ (le-leb 8 (length bs) (omega (arith, R.whole, R.length_agrees)))
      (and_both (eqb (get_or bs 4 0) 1) _ (eq-eqb (get_or bs 4 0) 1 R.version)
      (and_both (leb 1 (columns_in bs)) _ (le-leb 1 (columns_in bs) R.columns.0)
      (and_both (leb (columns_in bs) 8) _ (le-leb (columns_in bs) 8 R.columns.1)
      (and_both (leb (row_count bs) 65535) _ (le-leb (row_count bs) 65535 R.rows)
      (and_both (eqb (four_at bs 0) (row_count bs * row_bytes bs + 4)) _
      (eq-eqb (four_at bs 0) (row_count bs * row_bytes bs + 4) (omega (arith, R.length_agrees, rows-bytes)))
      (le-leb (four_at bs 0 + 4) (length bs) (omega (arith, R.whole))))))))

  abbrev number_by : Bool → ℕ
  number_by b = cond b 0 14

  -- a number of 0 comes of a row that is there
  there-zero : (b : Bool) → number_by b ≡ 0 → b ≡ true
  there-zero true e = refl
  there-zero false e = absurd (omega arith)

  pub shown-there : (i : ℕ) → (row_refusal bs i ≡ 0) ↔ (IsRecord bs × (i < row_count bs))
  unfolding has_row
  shown-there i = (
    (λ e.
        let h : (is_record bs && ltb i (row_count bs)) ≡ true = there-zero (is_record bs && ltb i (row_count bs)) e in
        (record_is (and_left (is_record bs) _ h), ltb-true i (row_count bs) (and_right (is_record bs) _ h))),
    (λ R. ap number_by (and_both (is_record bs) _ (is-record R.0) (lt-ltb i (row_count bs) R.1))),
  )

  pub shows : (i : ℕ) → row_refusal bs i ≡ 0 → row_part bs i ≡ take (4 * columns_in bs) (drop (8 + i * (4 * columns_in bs)) bs)
  unfolding row_part
  shows i e =
      ap (λ (b : Bool). take (cond b (row_bytes bs) 0) (drop (cond b (8 + i * row_bytes bs) 0) bs)) (there-zero (has_row bs i) e)

  pub shows_nothing : (i : ℕ) → row_refusal bs i ≢ 0 → (row_refusal bs i ≡ 14) × (cond (has_row bs i) (8 + i * row_bytes bs) 0 ≡ 0) × (row_part bs i ≡ [])
  unfolding row_part
  shows_nothing i = go (has_row bs i)
    where
      go : (b : Bool) → number_by b ≢ 0
          → (number_by b ≡ 14) × (cond b (8 + i * row_bytes bs) 0 ≡ 0) × (take (cond b (row_bytes bs) 0) (drop (cond b (8 + i * row_bytes bs) 0) bs) ≡ [])
      go true h = absurd (h refl)
      go false h = (refl, refl, refl)

pub demands : Demands
demands = record { shown_exactly_if = shown-there; shows_its_part = shows; refused_shows_nothing = shows_nothing }
