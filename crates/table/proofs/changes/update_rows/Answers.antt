-- A row that meets the condition, and any other.
use Rattle.std.proofs.Common.{◌≡◌, refl, [], ◌∷◌, Bool, true, ℕ, zero, suc, ◌+◌, ◌-◌, ◌*◌, ◌/◌, ◌≤◌, List, ℤ, length, map, take, drop, sym, ap, ◌∙◌, subst, arith}
use borrow.Rule.Slice.PartMut.{put_mid, put_same}
use Rattle.std.specs.Simd.Lanes.{mask_l}
use Rattle.std.proofs.lemmas.List.{take_all, length-drop, length-take-le, drop-drop}
use Rattle.std.proofs.Math.Nat.{suc-mul}
use Rattle.lists.specs.Lists.{All, nil, cons, count, keep}
use Rattle.std.proofs.lemmas.Bool.{eqb-true}
use Rattle.meaning.proofs.Cells.{rows-length}
use Rattle.table.specs.Tests.{met}
use Rattle.table.proofs.Parting.{met-passes}
use Rattle.meaning.specs.Meaning.{Row, assigned}
use Rattle.meaning.specs.Cells.{stored}
use Rattle.statement.specs.declared.Setting.{Setting}
use Rattle.statement.specs.Sound.{setting_read, settings_read}
use Rattle.table.specs.Rows.{meets_stored, area_rows}
use Rattle.table.specs.Changed.{updated_if}
use Rattle.table.specs.Private.Scanned.{passes_by}
use Rattle.table.proofs.Assigning.{made, assigned-length}
use Rattle.table.proofs.Marked.{next-mask, is-marked, not-marked}
use Rattle.table.proofs.Masking.{behind-none}
use Rattle.table.proofs.Tested.{keep_same, rows_pass, settled_same}
use Rattle.table.proofs.Updating.{Left, update-set, update-stay, update-done}
use Rattle.table.proofs.Work.{put-drop}
use Rattle.table.proofs.changes.update_rows.Goals as goal
use Rattle.table.proofs.changes.update_rows.Goals.{then-mask-eq1, else-mask-eq1}

all-pass : (p q : Row → Bool) → ((r : Row) → p r ≡ true) → (rows : List Row) → All (λ (r : Row). p r ≡ q r) rows → All (λ (r : Row). true ≡ q r) rows
all-pass p q h [] nil = nil
all-pass p q h (r ∷ rs) (cons e hs) = cons (sym (h r) ∙ e) (all-pass p q h rs hs)

keep-every : (rows : List Row) → keep (λ (r : Row). true) rows ≡ rows
keep-every [] = refl
keep-every (r ∷ rs) = ap (λ (l : List Row). r ∷ l) (keep-every rs)

room-first : (w left at n : ℕ) → 1 ≤ left → at + left * w ≤ n → at + w ≤ n
room-first w zero at n h k = absurd (omega arith)
room-first w (suc m) at n h k = omega (arith, suc-mul m w)

pub loop-init : goal.loop-init
loop-init c =
    let l = c.loop-left in
    let p = passes_by c.prepare-test.result in
    let f = made c.args.values.now c.used-settings.result.now in
    let w = c.from-width.result in
    let z : l.left ≡ l.left - 0 = omega arith in
    let n : c.min-n.result ≡ c.min-n.result - 0 = omega arith in
    let part : take (length l.area - l.at) (drop l.at l.area) ≡ drop l.at l.area = take_all (length l.area - l.at) (drop l.at l.area) (omega (arith, length-drop l.at l.area)) in (
      subst (λ (k : ℕ). Left p f w c.args.used c.args.area.now l.area l.at k l.found) z l.invariant,
      c.mask-mask.ensures.test
          ∙ ap (λ (rs : List Row). mask_l (map p rs)) (behind-none _ ∙ c.at_start.ensures.rows)
          ∙ ap (λ (k : List ℤ). mask_l (map p (area_rows w c.min-n.result k))) part
          ∙ ap (λ (k : ℕ). mask_l (map p (area_rows w k (drop l.at l.area)))) n,
    )

pub loop-preserved : goal.loop-preserved
loop-preserved c =
    let a = c.args in
    let l = c.loop in
    let L = l.invariant.0 in
    let p = passes_by c.prepare-test.result in
    let ss = c.used-settings.result.now in
    let f = made a.values.now ss in
    let w = c.from-width.result in
    let keeps = λ (r : List ℤ). assigned-length (map setting_read ss) a.values.now r in
    let some : 1 ≤ c.min-n.result - l.counter = omega (arith, c.loop-test.true) in
    let few : 1 ≤ c.loop-left.left - l.counter = omega (arith, c.loop-test.true, c.min-n.ensures) in
    let e : l.at + w - l.at ≡ w = omega arith in
    let back : take w (drop l.at l.area) ≡ take (l.at + w - l.at) (drop l.at l.area) = ap (λ (k : ℕ). take k (drop l.at l.area)) (sym e) in
    let one : c.loop-left.left - l.counter - 1 ≡ c.loop-left.left - (l.counter + 1) = omega arith in
    let two : c.min-n.result - l.counter - 1 ≡ c.min-n.result - (l.counter + 1) = omega arith in
    let next = next-mask p w (c.min-n.result - l.counter) (drop l.at l.area) some l.mask l.invariant.1 in
    let masked : (o : List ℤ) → drop (l.at + w) o ≡ drop w (drop l.at l.area) → l.mask / 2 ≡ mask_l (map p (area_rows w (c.min-n.result - (l.counter + 1)) (drop (l.at + w) o))) =
    λ o q. next ∙ ap (λ (k : ℕ). mask_l (map p (area_rows w k (drop w (drop l.at l.area))))) two ∙ ap (λ (k : List ℤ). mask_l (map p (area_rows w (c.min-n.result - (l.counter + 1)) k))) (sym q) in
    elim c.if-mask-eq1.branch [
      | then-mask-eq1 x ↦
          let m = ap p (sym back) ∙ is-marked p w (c.min-n.result - l.counter) (drop l.at l.area) some l.mask l.invariant.1 x.if-mask-eq1.true in
          let room : l.at + w ≤ length l.area = room-first w (c.loop-left.left - l.counter) l.at (length l.area) few L.room in
          let wide : length x.assign.new.row ≡ w =
          ap length x.assign.ensures ∙ keeps (take (l.at + w - l.at) (drop l.at l.area)) ∙ ap (λ (k : ℕ). length (take k (drop l.at l.area))) e
          ∙ length-take-le w (drop l.at l.area) (omega (arith, length-drop l.at l.area)) in (
            subst (λ (k : ℕ). Left p f w a.used a.area.now c.if-mask-eq1.area (l.at + w) k c.if-mask-eq1.found) one
                (update-set p f w a.used a.area.now keeps l.area c.if-mask-eq1.area l.at (c.loop-left.left - l.counter) l.found c.if-mask-eq1.found x.assign.new.row few L m x.assign.ensures x.area-is x.found-is),
            masked c.if-mask-eq1.area (ap (drop (l.at + w)) (x.area-is ∙ ap (λ (k : ℕ). put_mid l.at k l.area x.assign.new.row) e) ∙ put-drop l.at w l.area x.assign.new.row (omega (arith, room)) wide),
          )
      | else-mask-eq1 x ↦
          let m = ap p (sym back) ∙ not-marked p w (c.min-n.result - l.counter) (drop l.at l.area) some l.mask l.invariant.1 x.if-mask-eq1.false in
          let same = x.area-is ∙ put_same l.at (l.at + w - l.at) l.area in (
            subst (λ (k : ℕ). Left p f w a.used a.area.now c.if-mask-eq1.area (l.at + w) k c.if-mask-eq1.found) one
                (update-stay p f w a.used a.area.now keeps l.area c.if-mask-eq1.area l.at (c.loop-left.left - l.counter) l.found c.if-mask-eq1.found few L m same x.found-is),
            masked c.if-mask-eq1.area (ap (drop (l.at + w)) same ∙ sym (drop-drop w l.at l.area)),
          )
    ]

pub returns-then-is_met : goal.returns-then-is_met
returns-then-is_met c =
    let a = c.args in
    let w = a.columns in
    let t = c.prepare-test.result in
    let d = a.update.now.condition in
    let q = meets_stored d a.values.now in
    let rows = area_rows w a.used a.area.now in
    let every = rows_pass t.targets t.places t.numbers t.start d a.values.now c.prepare-test.ensures w a.used a.area.now (omega arith) in
    let all = all-pass (passes_by t) q (met-passes t (eqb-true t.start met (sym c.is_met.ensures ∙ c.if-is_met.true))) rows every in
    let f : List Setting → Row → Row = λ (s : List Setting). made a.values.now s in
    record {
      count = sym (ap length (sym (keep_same (λ (r : Row). true) q all)) ∙ ap length (keep-every rows) ∙ rows-length w a.used a.area.now);
      cells = c.assign_all.ensures
          ∙ ap (stored a.area.now (a.used * w)) (settled_same (λ (r : Row). true) q (f c.used-settings.result.now) all ∙ ap (λ (s : List Setting). map (updated_if q (f s)) rows) c.used-settings.ensures.are);
    }

pub returns : goal.returns
returns c =
    let a = c.args in
    let l = c.loop-left in
    let w = c.from-width.result in
    let inside : a.used * w ≤ length a.area.now = subst (λ (k : ℕ). a.used * k ≤ length a.area.now) (sym c.from-width.ensures) c.requires in
    let t = c.prepare-test.result in
    let d = a.update.now.condition in
    let ss = c.used-settings.result.now in
    let f : List Setting → Row → Row = λ (s : List Setting). made a.values.now s in
    let q = meets_stored d a.values.now in
    let same = rows_pass t.targets t.places t.numbers t.start d a.values.now c.prepare-test.ensures w a.used a.area.now (omega (arith, c.from-width.ensures)) in
    let done = update-done (passes_by t) (f ss) w a.used a.area.now (λ (r : List ℤ). assigned-length (map setting_read ss) a.values.now r) l.area l.at l.left l.found
    (omega (arith, c.loop-left-test.false)) inside l.invariant in
    let r : (l.found ≡ count q (area_rows w a.used a.area.now)) × (l.area ≡ stored a.area.now (a.used * w) (map (updated_if q (assigned (settings_read a.update.now) a.values.now)) (area_rows w a.used a.area.now))) = (
      done.0 ∙ ap length (keep_same (passes_by t) q same),
      done.1 ∙ ap (stored a.area.now (a.used * w)) (settled_same (passes_by t) q (f ss) same
          ∙ ap (λ (s : List Setting). map (updated_if q (f s)) (area_rows w a.used a.area.now)) c.used-settings.ensures.are),
    ) in
    let e = subst (λ (k : ℕ). (l.found ≡ count q (area_rows k a.used a.area.now)) × (l.area ≡ stored a.area.now (a.used * k) (map (updated_if q (assigned (settings_read a.update.now) a.values.now)) (area_rows k a.used a.area.now)))) c.from-width.ensures r in
    record { count = e.0; cells = e.1 }
