-- The rows at a comparison led on one by one, by the mask of those that are left. Assumes nothing.
--     mixed     of the first rows what one test says, of the others what another does
--     Going     what holds when those of the first rows have gone on
use Prim.Native.Nat.{ℕ, zero, suc, ◌+◌, ◌*◌, ◌/◌, ◌^◌, ◌≤◌, ◌<◌}
use mathlib.Core.Path.{◌≡◌, refl, sym, ap, ap₂, ◌∙◌}
use mathlib.Core.Bool.{Bool, true, false, cond}
use mathlib.Core.List.{List, [], ◌∷◌, map}
use native.Mathlib.Nat.{two-pow-succ}
use native.Mathlib.Numerals.{add-one}
use native.Mathlib.Omega.{arith}
use lib.Bits.{bit_or}
use lib.Count.{count_trailing_zeros}
use lib.Dec.{eqb}
use lib.Lanes.{mask_l}
use lib.ListN.{length, take, drop, get_or, set, length-drop}
use lib.Seq.{drop-drop, take_all}
use Rattle.std.specs.Int.Bits.{or_zero_r}
use Rattle.std.proofs.lemmas.Bool.{ne_eqb, eqb-true, eqb-false}
use Rattle.std.proofs.lemmas.List.{get_or-drop, get_or-set_same, get_or-set_other, length-set}
use Rattle.lists.specs.Lists.{keep, cons_if}
use Rattle.meaning.specs.Meaning.{Row}
use Rattle.table.specs.declared.rows.Test.{Test}
use Rattle.table.specs.Tests.{next_at}
use Rattle.table.specs.Private.Masks.{place_by, Parted}
use Rattle.table.proofs.Marked.{First, first_mark, none-left}
use Rattle.table.proofs.Parting.{or-more}

abbrev bit : Bool → ℕ
bit b = cond b 1 0

pub mixed : (Row → Bool) → (Row → Bool) → ℕ → List Row → List Bool
mixed a b zero rows = map b rows
mixed a b (suc k) [] = []
mixed a b (suc k) (r ∷ rs) = a r ∷ mixed a b k rs

module _ (a b : Row → Bool) where
  module _ (h : Row → Bool) (same : (r : Row) → h r ≡ false → a r ≡ b r) where
    none-differs : (z : ℕ) (rows : List Row) → keep h (take z rows) ≡ [] → mixed a b z rows ≡ map b rows
    unfolding mixed
    none-differs zero rows e = refl
    none-differs (suc z) [] e = refl
    none-differs (suc z) (r ∷ rs) e = go (none-differs z rs) (h r) refl e
      where
        go : (keep h (take z rs) ≡ [] → mixed a b z rs ≡ map b rs) → (c : Bool) → h r ≡ c → cons_if c r (keep h (take z rs)) ≡ [] → (a r ∷ mixed a b z rs) ≡ (b r ∷ map b rs)
        go more true q k = let n : suc (length (keep h (take z rs))) ≡ 0 = ap length k in absurd (omega arith)
        go more false q k = ap₂ (λ (x : Bool) (l : List Bool). x ∷ l) (same r q) (more k)

    -- rows that are not there are passed over
    passed-over : (k z n : ℕ) → n ≡ k + z → (rows : List Row) → keep h (take z (drop k rows)) ≡ [] → mixed a b n rows ≡ mixed a b k rows
    unfolding mixed
    passed-over zero z n e rows q = let m : n ≡ z = omega arith in ap (λ (j : ℕ). mixed a b j rows) m ∙ none-differs z rows q
    passed-over (suc k) z zero e rows q = absurd (omega arith)
    passed-over (suc k) z (suc n) e [] q = refl
    passed-over (suc k) z (suc n) e (r ∷ rs) q = ap (λ (l : List Bool). a r ∷ l) (passed-over k z n (omega arith) rs q)

  -- a row joins, or stays as it is
  hit : (n : ℕ) (rows : List Row) → n < length rows → a (get_or rows n []) ≡ true → bit_or (mask_l (mixed a b n rows)) (2 ^ n) ≡ mask_l (mixed a b (suc n) rows)
  unfolding mixed
  hit n [] h e = absurd (omega arith)
  hit zero (r ∷ rs) h e =
      let m : ℕ = mask_l (map b rs) in
      or-more (b r) true m 0 ∙ ap (λ (x : ℕ). 1 + 2 * x) (or_zero_r m) ∙ sym (ap (λ (c : Bool). bit c + 2 * m) e)
  hit (suc n) (r ∷ rs) h e =
      let m : ℕ = mask_l (mixed a b n rs) in
      let w : 2 ^ suc n ≡ 2 ^ n + 2 ^ n = two-pow-succ n in
      let twice : 2 ^ suc n ≡ bit false + 2 * 2 ^ n = omega arith in
      ap (bit_or (bit (a r) + 2 * m)) twice ∙ or-more (a r) false m (2 ^ n) ∙ ap (λ (x : ℕ). bit (a r) + 2 * x) (hit n rs (omega arith) e)

  miss : (n : ℕ) (rows : List Row) → n < length rows → a (get_or rows n []) ≡ b (get_or rows n []) → mixed a b n rows ≡ mixed a b (suc n) rows
  unfolding mixed
  miss n [] h e = absurd (omega arith)
  miss zero (r ∷ rs) h e = ap (λ (c : Bool). c ∷ map b rs) (sym e)
  miss (suc n) (r ∷ rs) h e = ap (λ (l : List Bool). a r ∷ l) (miss n rs (omega arith) e)

  all-mixed : (n : ℕ) (rows : List Row) → length rows ≤ n → mixed a b n rows ≡ map a rows
  unfolding mixed
  all-mixed zero [] h = refl
  all-mixed zero (r ∷ rs) h = absurd (omega arith)
  all-mixed (suc n) [] h = refl
  all-mixed (suc n) (r ∷ rs) h = ap (λ (l : List Bool). a r ∷ l) (all-mixed n rs (omega arith))

module _ (t : Test) (rows : List Row) (i : ℕ) where
  abbrev here : Row → Bool
  here r = eqb (place_by t i r) i

  abbrev before : ℕ → Row → Bool
  before p r = eqb (place_by t i r) p

  abbrev after : ℕ → Row → Bool
  after p r = eqb (place_by t (suc i) r) p

  elsewhere : (p : ℕ) (r : Row) → here r ≡ false → after p r ≡ before p r
  elsewhere p r e = ap (λ (c : Bool). eqb (cond c (next_at t.targets t.places t.numbers r i) (place_by t i r)) p) e

  pub record Going (at : List ℕ) (k left : ℕ) : Type 0 where
    pub long : length at ≡ 10
    pub inside : k ≤ length rows
    pub marks : left ≡ mask_l (map here (drop k rows))
    pub at_places : (p : ℕ) → i < p → p < 10 → get_or at p 0 ≡ mask_l (mixed (after p) (before p) k rows)

  pub going_start : (at : List ℕ) → i < 10 → length at ≡ 10 → Parted t rows i at → Going at 0 (get_or at i 0)
  unfolding mixed
  going_start at below size P = record { long = size; inside = omega arith; marks = P i (omega arith) below; at_places = λ p h w. P p (omega arith) w }

  pub going-done : (at : List ℕ) (k left : ℕ) → Going at k left → left ≡ 0 → Parted t rows (i + 1) at
  going-done at k left G z p h w =
      let none : keep here (drop k rows) ≡ [] = none-left here (drop k rows) (sym G.marks ∙ z) in
      let n : length (drop k rows) ≤ length rows = omega (arith, length-drop k rows) in
      let past : length rows ≤ k + length rows = omega arith in
      G.at_places p (omega arith) w
      ∙ ap mask_l (sym (passed-over (after p) (before p) here (elsewhere p) k (length rows) (k + length rows) refl rows (ap (keep here) (take_all (length rows) (drop k rows) n) ∙ none))
      ∙ all-mixed (after p) (before p) (k + length rows) rows past)
      ∙ ap (λ (j : ℕ). mask_l (map (λ (r : Row). eqb (place_by t j r) p) rows)) (sym (add-one i))

  module _ (few : length rows ≤ 64) (at : List ℕ) (k left : ℕ) (G : Going at k left) (some : 0 < left) where
    F : First here (drop k rows) (count_trailing_zeros 64 left)
    F = first_mark here (drop k rows) (omega (arith, length-drop k rows)) left G.marks some

    abbrev mark : ℕ
    mark = k + count_trailing_zeros 64 left

    pub next-inside : mark < length rows
    next-inside = omega (arith, F.inside, length-drop k rows)

    pub gone : (x : Row) → x ≡ get_or rows mark [] → (v : ℕ) → v ≡ next_at t.targets t.places t.numbers x i → (at' : List ℕ) → at' ≡ set at v (bit_or (get_or at v 0) (2 ^ mark))
        → (left' : ℕ) → left' ≡ left / 2 ^ count_trailing_zeros 64 left / 2 → Going at' (mark + 1) left'
    gone x ex v ev at' ea left' el =
        record {
          long = ap length ea ∙ length-set at v (bit_or (get_or at v 0) (2 ^ mark)) ∙ G.long;
          inside = omega (arith, next-inside);
          marks = el ∙ ap (λ (j : ℕ). j / 2 ^ z / 2) G.marks ∙ F.rest ∙ ap (λ (l : List Row). mask_l (map here l)) (drop-drop (suc z) k rows ∙ ap (λ (j : ℕ). drop j rows) turn);
          at_places = λ p h w. at_place p h w (eqb v p) refl ∙ ap (λ (j : ℕ). mask_l (mixed (after p) (before p) j rows)) (sym (add-one mark));
        }
      where
        z : ℕ
        z = count_trailing_zeros 64 left

        turn : k + suc z ≡ mark + 1
        turn = omega arith

        is-here : here x ≡ true
        is-here = ap here (ex ∙ sym (get_or-drop k rows z [])) ∙ F.met

        reach : (p : ℕ) → get_or at p 0 ≡ mask_l (mixed (after p) (before p) k rows) → get_or at p 0 ≡ mask_l (mixed (after p) (before p) mark rows)
        reach p e = e ∙ ap mask_l (sym (passed-over (after p) (before p) here (elsewhere p) k z mark refl rows F.none))

        goes-to : (p : ℕ) → after p x ≡ eqb v p
        goes-to p = ap (λ (c : Bool). eqb (cond c (next_at t.targets t.places t.numbers x i) (place_by t i x)) p) is-here ∙ ap (λ (j : ℕ). eqb j p) (sym ev)

        at_place : (p : ℕ) → i < p → p < 10 → (c : Bool) → eqb v p ≡ c → get_or at' p 0 ≡ mask_l (mixed (after p) (before p) (suc mark) rows)
        at_place p h w true q =
            let s : v ≡ p = eqb-true v p q in
            let wide : p < length at = omega (arith, G.long) in
            ap (λ (l : List ℕ). get_or l p 0) ea
            ∙ ap (λ (j : ℕ). get_or (set at j (bit_or (get_or at j 0) (2 ^ mark))) p 0) s
            ∙ get_or-set_same at p (bit_or (get_or at p 0) (2 ^ mark)) 0 wide
            ∙ ap (λ (m : ℕ). bit_or m (2 ^ mark)) (reach p (G.at_places p h w))
            ∙ hit (after p) (before p) mark rows next-inside (ap (after p) (sym ex) ∙ goes-to p ∙ q)
        at_place p h w false q =
            let s : (p ≡ v → ⊥) = λ y. eqb-false v p q (sym y) in
            let there : place_by t i x ≡ i = eqb-true (place_by t i x) i is-here in
            let was : before p x ≡ false = ne_eqb (place_by t i x) p (λ y. omega arith) in
            ap (λ (l : List ℕ). get_or l p 0) ea
            ∙ get_or-set_other at v p (bit_or (get_or at v 0) (2 ^ mark)) 0 s
            ∙ reach p (G.at_places p h w)
            ∙ ap mask_l (miss (after p) (before p) mark rows next-inside (ap (after p) (sym ex) ∙ goes-to p ∙ q ∙ sym was ∙ ap (before p) ex))
