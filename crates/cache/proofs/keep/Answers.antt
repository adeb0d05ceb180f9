-- Assumes nothing.
use mathlib.Core.Path.{sym, ap, ap₂, ◌∙◌}
use native.Mathlib.Omega.{arith}
use Prim.Native.Nat.{ℕ, ◌*◌}
use Rattle.lists.specs.Lists.{written}
use lib.ListN.{take}
use lib.Seq.{length-take-le}
use Rattle.cache.proofs.Returns.Asking.{keep-long, keep-none, keep-done, last-room}
use Rattle.cache.proofs.Returns.Copies.{copied-at}
use Rattle.cache.proofs.keep.Goals as goal

pub returns-then-most-size : goal.returns-then-most-size
returns-then-most-size c =
    let k = keep-long c.args.slots c.args.slot_bytes c.args.size c.args.bytes.now c.args.memory.now c.requires.0 _ c.nowhere.ensures (omega (arith, c.from-most.ensures)) in
    record { place = k.0; memory = k.1 }

pub returns-in_default : goal.returns-in_default
returns-in_default c =
    let k = keep-none c.args.slots c.args.slot_bytes c.args.size c.args.bytes.now c.args.memory.now c.requires.0 _ c.nowhere-in_default.ensures (sym c.take_last.ensures ∙ c.in_default.is) in
    record { place = k.0; memory = k.1 }

pub slice_bounds-copy_from_slice-end : goal.slice_bounds-copy_from_slice-end
slice_bounds-copy_from_slice-end c =
    let L = last-room c.args.slots c.args.slot_bytes c.args.size c.args.bytes.now c.args.memory.now c.requires.0 c.in-Some.taken _ c.requires.1 (sym c.take_last.ensures ∙ c.in-Some.is) (omega (arith, c.from-most.ensures)) in
    let e = ap₂ ◌*◌ c.from.ensures c.from-most.ensures in
    omega (arith, e, L.ends)

pub returns : goal.returns
returns c =
    let a = c.args in
    let t = c.in-Some.taken in
    let h = sym c.take_last.ensures ∙ c.in-Some.is in
    let r = take a.size a.bytes.now in
    let e = ap₂ ◌*◌ c.from.ensures c.from-most.ensures in
    let put = copied-at a.memory.now _ r (c.from.result * c.from-most.result) a.size (length-take-le a.size a.bytes.now c.requires.0) c.copy_from_slice.ensures.after in
    let k = keep-done a.slots a.slot_bytes a.size a.bytes.now a.memory.now c.requires.0 t _ h (omega (arith, c.from-most.ensures)) (put ∙ ap (λ (k : ℕ). written a.memory.now k r) e) in
    record { place = k.0; memory = k.1 }
