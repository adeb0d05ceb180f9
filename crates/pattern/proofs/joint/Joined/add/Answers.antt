use Rattle.std.proofs.Common.{◌≡◌, ◌+◌, ◌*◌, ◌≤◌, ◌<◌, map, length, get_or, set, ℕ, refl, sym, subst, arith, rules, List}
use Prim.Native.Nat.{◌/◌}
use lib.ListN.{length-map}
use Rattle.meaning.specs.Condition as C
use Rattle.meaning.specs.Statement as M
use Rattle.statement.specs.declared.Operand.{Operand}
use Rattle.statement.specs.declared.Comparison.{Comparison}
use Rattle.statement.specs.Compiled as Compiled
use Rattle.statement.specs.Sound.{operand_read, comparison_read, setting_read}
use Rattle.pattern.specs.Private.Masks.{select}
use Rattle.pattern.specs.Private.Flat.{operand_of, Coding, Extended}
use Rattle.pattern.proofs.Mapped.{get_or-map-in}
use Rattle.pattern.proofs.Adding.{Adding, add_start, add-more, add_done}
use Rattle.pattern.proofs.joint.Joined.add.Goals as goal

pub loop-c-init : goal.loop-c-init
loop-c-init c =
    let s = c.args.self.now in
    let r = c.args.reading in
    let n : length s.codes ≡ 40 = search rules in
    let m : length s.ops ≡ 16 = search rules in
    add_start (operand_of r.role r.from (map setting_read r.settings.now)) (map comparison_read c.used-c-items.result.now) s.codes s.ops s.count c.args.mask n m

pub loop-c-preserved : goal.loop-c-preserved
loop-c-preserved c =
    let s = c.args.self.now in
    let r = c.args.reading in
    let l = c.loop-c in
    let items = c.used-c-items.result.now in
    let d : Comparison = Compiled.no_comparison in
    let x : C.Comparison M.Operand = comparison_read (get_or items l.c-index d) in
    let f = operand_of r.role r.from (map setting_read r.settings.now) in
    let few : length items ≤ 8 = c.used-c-items.ensures.few in
    let h : l.c-index < length (map comparison_read items) = omega (arith, length-map items comparison_read) in
    let e : get_or (map comparison_read items) l.c-index x ≡ x = get_or-map-in comparison_read items l.c-index d x (omega arith) in
    subst (λ (k : ℕ). Adding f (map comparison_read items) s.codes s.ops s.count c.args.mask (set (set l.self.codes (2 * l.self.count) c.operand.result) (2 * l.self.count + 1) c.operand-in-loop-c.result)
    (set l.self.ops l.self.count (get_or items l.c-index d).op) (l.self.count + k) (l.left / 2) (l.c-index + 1)) (sym c.from.ensures)
    (add-more f (map comparison_read items) s.codes s.ops s.count c.args.mask l.self.codes l.self.ops l.self.count l.left l.c-index l.invariant
    x h e c.requires (omega arith) _ _ _
    (subst (λ (o : Operand). Coding (f (operand_read o)) c.operand.result) c.left_side.ensures c.operand.ensures)
    (subst (λ (o : Operand). Coding (f (operand_read o)) c.operand-in-loop-c.result) c.right_side.ensures c.operand-in-loop-c.ensures) refl)

pub returns : goal.returns
returns c =
    let s = c.args.self.now in
    let r = c.args.reading in
    let l = c.loop-c in
    let items = c.used-c-items.result.now in
    let f = operand_of r.role r.from (map setting_read r.settings.now) in
    let few : length items ≤ 8 = c.used-c-items.ensures.few in
    subst (λ (cs : List Comparison). Extended s.codes s.ops s.count (map (C.renamed f) (select (map comparison_read cs) c.args.mask)) l.self) c.used-c-items.ensures.are
    (add_done f (map comparison_read items) s.codes s.ops s.count c.args.mask l.self.codes l.self.ops l.self.count l.left l.c-index
    (omega (arith, length-map items comparison_read)) (omega arith) l.invariant)
