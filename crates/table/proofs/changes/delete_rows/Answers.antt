-- A row that goes, or stays.
use Rattle.std.proofs.Common.{◌≡◌, ℕ, ◌+◌, ◌-◌, ◌*◌, ◌/◌, ◌≤◌, List, ℤ, length, map, take, drop, sym, ap, ap₂, ◌∙◌, subst, replicate, pos, arith, not}
use borrow.Rule.Slice.PartMut.{mid_of, put_mid}
use Rattle.std.specs.Simd.Lanes.{mask_l}
use Rattle.std.proofs.lemmas.List.{take_all, length-drop, drop-drop}
use Rattle.lists.specs.Lists.{count, keep}
use Rattle.meaning.specs.Meaning.{Row}
use Rattle.meaning.specs.Cells.{stored}
use Rattle.table.specs.Rows.{meets_stored, area_rows}
use Rattle.table.specs.Private.Scanned.{passes_by}
use Rattle.table.proofs.Marked.{next-mask, is-marked, not-marked}
use Rattle.table.proofs.Masking.{behind-none}
use Rattle.table.proofs.Tested.{keep_same, rows_pass, without-same}
use Rattle.table.proofs.Parting.{met-passes}
use Rattle.table.specs.Tests.{met}
use Rattle.std.proofs.lemmas.Bool.{eqb-true}
use Rattle.table.proofs.Deleting.{Closed, closed-start, closed-all, delete-gone, delete-stay, delete-done, closed_at}
use Rattle.table.proofs.changes.delete_rows.Goals as goal
use Rattle.table.proofs.changes.delete_rows.Goals.{then-mask-eq1, else-mask-eq1, then-is_met, else-is_met}

pub loop-left-init : goal.loop-left-init
loop-left-init c =
    let a = c.args in
    let t = c.prepare-test.result in
    let p = passes_by t in
    let w = c.from-width.result in
    let inside : a.used * w ≤ length a.area.now = subst (λ (k : ℕ). a.used * k ≤ length a.area.now) (sym c.from-width.ensures) c.requires in
    elim c.if-is_met.branch [
      | then-is_met x ↦
          let from : c.if-is_met.from ≡ a.used * w = x.from-is ∙ ap (λ (k : ℕ). k * w) x.from.ensures in
          let all = met-passes t (eqb-true t.start met (sym c.is_met.ensures ∙ x.if-is_met.true)) in
          subst (λ (k : ℕ). Closed p w a.used a.area.now a.area.now k 0 c.if-is_met.left c.if-is_met.gone) (sym from)
          (subst (λ (k : ℕ). Closed p w a.used a.area.now a.area.now (a.used * w) 0 k c.if-is_met.gone) (sym x.left-is)
          (subst (λ (k : ℕ). Closed p w a.used a.area.now a.area.now (a.used * w) 0 0 k) (sym x.gone-is) (closed-all p w a.used a.area.now inside all)))
      | else-is_met x ↦
          subst (λ (k : ℕ). Closed p w a.used a.area.now a.area.now k 0 c.if-is_met.left c.if-is_met.gone) (sym x.from-is)
          (subst (λ (k : ℕ). Closed p w a.used a.area.now a.area.now 0 0 k c.if-is_met.gone) (sym x.left-is)
          (subst (λ (k : ℕ). Closed p w a.used a.area.now a.area.now 0 0 a.used k) (sym x.gone-is) (closed-start p w a.used a.area.now inside)))
    ]

pub loop-init : goal.loop-init
loop-init c =
    let l = c.loop-left in
    let p = passes_by c.prepare-test.result in
    let w = c.from-width.result in
    let z : l.left ≡ l.left - 0 = omega arith in
    let n : c.min-n.result ≡ c.min-n.result - 0 = omega arith in
    let part : take (length l.area - l.from) (drop l.from l.area) ≡ drop l.from l.area = take_all (length l.area - l.from) (drop l.from l.area) (omega (arith, length-drop l.from l.area)) in (
      subst (λ (k : ℕ). Closed p w c.args.used c.args.area.now l.area l.from l.to k l.gone) z l.invariant,
      c.mask-mask.ensures.test
          ∙ ap (λ (rs : List Row). mask_l (map p rs)) (behind-none _ ∙ c.at_start.ensures.rows)
          ∙ ap (λ (k : List ℤ). mask_l (map p (area_rows w c.min-n.result k))) (part ∙ l.invariant.ahead)
          ∙ ap (λ (k : ℕ). mask_l (map p (area_rows w k (drop l.from c.args.area.now)))) n,
    )

pub loop-preserved : goal.loop-preserved
loop-preserved c =
    let a = c.args in
    let l = c.loop in
    let L = l.invariant.0 in
    let p = passes_by c.prepare-test.result in
    let w = c.from-width.result in
    let some : 1 ≤ c.min-n.result - l.counter = omega (arith, c.loop-test.true) in
    let few : 1 ≤ c.loop-left.left - l.counter = omega (arith, c.loop-test.true, c.min-n.ensures) in
    let e : l.from + w - l.from ≡ w = omega arith in
    let here : take (l.from + w - l.from) (drop l.from l.area) ≡ take w (drop l.from a.area.now) = ap₂ (λ (k : ℕ) (x : List ℤ). take k x) e L.ahead in
    let one : c.loop-left.left - l.counter - 1 ≡ c.loop-left.left - (l.counter + 1) = omega arith in
    let two : c.min-n.result - l.counter - 1 ≡ c.min-n.result - (l.counter + 1) = omega arith in
    let next = next-mask p w (c.min-n.result - l.counter) (drop l.from a.area.now) some l.mask l.invariant.1 in
    let masked : l.mask / 2 ≡ mask_l (map p (area_rows w (c.min-n.result - (l.counter + 1)) (drop (l.from + w) a.area.now))) =
    next ∙ ap₂ (λ (k : ℕ) (x : List ℤ). mask_l (map p (area_rows w k x))) two (drop-drop w l.from a.area.now) in (
      subst (λ (k : ℕ). Closed p w a.used a.area.now c.if-mask-eq1.area (l.from + w) c.if-mask-eq1.to k c.if-mask-eq1.gone) one
          (elim c.if-mask-eq1.branch [
            | then-mask-eq1 x ↦
                let m = ap p here ∙ is-marked p w (c.min-n.result - l.counter) (drop l.from a.area.now) some l.mask l.invariant.1 x.if-mask-eq1.true in
                closed_at p w a.used a.area.now l.area c.if-mask-eq1.area (l.from + w) l.to c.if-mask-eq1.to (c.loop-left.left - l.counter - 1) (l.gone + 1) c.if-mask-eq1.gone x.area-is x.to-is x.gone-is
                (delete-gone p w a.used a.area.now l.area l.from l.to (c.loop-left.left - l.counter) l.gone few L m)
            | else-mask-eq1 x ↦
                let m = ap p here ∙ not-marked p w (c.min-n.result - l.counter) (drop l.from a.area.now) some l.mask l.invariant.1 x.if-mask-eq1.false in
                closed_at p w a.used a.area.now x.move_row.new.area c.if-mask-eq1.area (l.from + w) (l.to + w) c.if-mask-eq1.to (c.loop-left.left - l.counter - 1) l.gone c.if-mask-eq1.gone x.area-is x.to-is x.gone-is
                (delete-stay p w a.used a.area.now l.area x.move_row.new.area l.from l.to (c.loop-left.left - l.counter) l.gone few L m x.move_row.ensures)
          ]),
      masked,
    )

pub returns : goal.returns
returns c =
    let a = c.args in
    let l = c.loop-left in
    let w = c.from-width.result in
    let inside : a.used * w ≤ length a.area.now = subst (λ (k : ℕ). a.used * k ≤ length a.area.now) (sym c.from-width.ensures) c.requires in
    let t = c.prepare-test.result in
    let d = a.condition.now in
    let q = meets_stored d a.values.now in
    let same = rows_pass t.targets t.places t.numbers t.start d a.values.now c.prepare-test.ensures w a.used a.area.now (omega (arith, c.from-width.ensures)) in
    let z : c.fill.new.self ≡ replicate (length (mid_of l.to (l.from - l.to) l.area)) (pos 0) = c.fill.ensures.after (λ y e. e) in
    let done = delete-done (passes_by t) w a.used a.area.now l.area c.fill.new.self l.from l.to l.left l.gone (omega (arith, c.loop-left-test.false)) l.invariant z in
    let kept = λ (r : Row). not (q r) in
    let r : (l.gone ≡ count q (area_rows w a.used a.area.now)) × (put_mid l.to (l.from - l.to) l.area c.fill.new.self ≡ stored a.area.now (a.used * w) (keep kept (area_rows w a.used a.area.now))) = (
      done.0 ∙ ap length (keep_same (passes_by t) q same),
      done.1 ∙ ap (stored a.area.now (a.used * w)) (without-same (passes_by t) q same),
    ) in
    let e = subst (λ (k : ℕ). (l.gone ≡ count q (area_rows k a.used a.area.now)) × (put_mid l.to (l.from - l.to) l.area c.fill.new.self ≡ stored a.area.now (a.used * k) (keep kept (area_rows k a.used a.area.now)))) c.from-width.ensures r in
    record { count = e.0; cells = e.1 }
