-- Assumes nothing.
use mathlib.Core.Path.{◌≡◌, refl, sym, ap, ◌∙◌, subst}
use native.Mathlib.Omega.{arith}
use Prim.Native.Nat.{ℕ, ◌+◌}
use mathlib.Core.Bool.{true, false}
use lib.ListN.{get_or, set, length-set}
use Rattle.slots.proofs.Named.{Naming, naming-start, naming-more}
use Rattle.slots.proofs.names_once.Goals as goal

pub loop-x-init : goal.loop-x-init
loop-x-init c = (refl, naming-start _ 64)

pub loop-x-preserved : goal.loop-x-preserved
loop-x-preserved c =
    let l = c.loop-x in
    let e : c.from-at.result ≡ get_or c.args.places.now l.x-index 0 = c.from-at.ensures in
    let free : get_or l.seen (get_or c.args.places.now l.x-index 0) false ≡ false = ap (λ (x : ℕ). get_or l.seen x false) (sym e) ∙ c.if-seen-at.false in
    let more = naming-more _ _ _ c.loop-x-test.true l.invariant.1 (omega arith) (omega arith) free in
    (simp length-set l.invariant.0, subst (λ (x : ℕ). Naming c.args.places.now (set l.seen x true) (l.x-index + 1)) (sym e) more)
