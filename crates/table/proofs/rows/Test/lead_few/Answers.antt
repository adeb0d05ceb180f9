-- A row goes on to where its comparison leads.
use Rattle.std.proofs.Common.{◌≡◌, ℕ, suc, ◌+◌, ◌*◌, ◌%◌, ◌^◌, ◌≤◌, ◌<◌, ◌++◌, List, [], length, get_or, set, bit_or, refl, ap, ◌∙◌, arith}
use native.Mathlib.Nat.{two-pow-succ, mod-eq_of_lt}
use lib.Pow.{pow_mono}
use lib.Count.{count_trailing_zeros}
use Rattle.std.proofs.lemmas.Nat.{pow_pos}
use Rattle.meaning.specs.Meaning.{Row}
use Rattle.table.specs.declared.area.Rows.{Rows}
use Rattle.table.specs.declared.rows.Test.{Test}
use Rattle.table.specs.Private.Masks.{behind}
use Rattle.table.proofs.Masking.{behind-count, behind-at}
use Rattle.table.proofs.Singly.{Going, going_start, going-done, next-inside, gone}
use Rattle.table.proofs.rows.Test.lead_few.Goals as goal

-- the bit of a row
one-bit : (k : ℕ) → k < 64 → 1 * 2 ^ k % 2 ^ 64 ≡ 2 ^ k
one-bit k h =
    let s : suc k ≤ 64 = omega arith in
    let e : 2 ^ suc k ≡ 2 ^ k + 2 ^ k = two-pow-succ k in
    let p : 1 ≤ 2 ^ k = pow_pos k in
    let one : 1 * 2 ^ k ≡ 2 ^ k = omega arith in
    let fit : 1 * 2 ^ k < 2 ^ 64 = below (pow_mono s) e p one in
    mod-eq_of_lt fit ∙ one
  where
    below : {a b c d : ℕ} → a ≤ d → a ≡ b + b → 1 ≤ b → c ≡ b → c < d
    below h e p q = omega arith

inside : (t : Test) (front : Row) (r : Rows) (i : ℕ) → r.count ≤ 64 → (at : List ℕ) (k left : ℕ) → Going t (behind front r) i at k left → 0 < left → k + count_trailing_zeros 64 left < r.count
inside t front r i few at k left G some = let n : length (behind front r) ≤ 64 = omega (arith, behind-count front r) in omega (arith, behind-count front r, next-inside t (behind front r) i n at k left G some)

pub loop-left-init : goal.loop-left-init
loop-left-init c = (omega arith, going_start c.args.self.now (behind c.args.front.now c.args.rows.now) c.args.i c.args.at.now (omega (arith, c.requires.0)) c.requires.2 c.requires.3)

pub lying-requires : goal.lying-requires
lying-requires c =
    let a = c.args in
    let l = c.loop-left in
    inside a.self.now a.front.now a.rows.now a.i c.requires.1 l.at l.k l.left l.invariant.1 (omega (arith, c.loop-left-test.true))

pub overflow_shl-k : goal.overflow_shl-k
overflow_shl-k c =
    let a = c.args in
    let l = c.loop-left in
    omega (arith, c.requires.1, inside a.self.now a.front.now a.rows.now a.i c.requires.1 l.at l.k l.left l.invariant.1 (omega (arith, c.loop-left-test.true)))

pub loop-left-smaller : goal.loop-left-smaller
loop-left-smaller c =
    let a = c.args in
    let l = c.loop-left in
    omega (arith, inside a.self.now a.front.now a.rows.now a.i c.requires.1 l.at l.k l.left l.invariant.1 (omega (arith, c.loop-left-test.true)))

pub loop-left-preserved : goal.loop-left-preserved
loop-left-preserved c =
    let a = c.args in
    let l = c.loop-left in
    let r = a.rows.now in
    let some : 0 < l.left = omega (arith, c.loop-left-test.true) in
    let few : length (behind a.front.now r) ≤ 64 = omega (arith, c.requires.1, behind-count a.front.now r) in
    let mark = l.k + count_trailing_zeros 64 l.left in
    let k = inside a.self.now a.front.now r a.i c.requires.1 l.at l.k l.left l.invariant.1 some in
    let v = c.next.result in
    let more = gone a.self.now (behind a.front.now r) a.i few l.at l.k l.left l.invariant.1 some
    (a.front.now ++ c.lying.result.now) (behind-at a.front.now r mark c.lying.result.now k c.lying.ensures)
    v c.next.ensures
    _ (c.join.ensures ∙ ap (λ (m : ℕ). set l.at v (bit_or (get_or l.at v 0) m)) (one-bit mark (omega (arith, c.requires.1, k))))
    _ refl in
    (omega (arith, k), more)

pub returns : goal.returns
returns c =
    let a = c.args in
    let l = c.loop-left in
    going-done a.self.now (behind a.front.now a.rows.now) a.i l.at l.k l.left l.invariant.1 c.loop-left-test.false
