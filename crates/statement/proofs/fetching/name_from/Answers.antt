-- `name_from`: what is made of the bytes is the name.
use mathlib.Core.Path.{◌≡◌, sym, ap, ◌∙◌}
use mathlib.Core.List.{map}
use Prim.Native.Nat.{ℕ, ◌+◌, ◌-◌}
use native.Mathlib.Omega.{arith}
use lib.ListN.{take, drop}
use Rattle.meaning.specs.Tokens.{folded_byte, folded}
use Rattle.statement.specs.Compiled.{name_struct, padded}
use Rattle.statement.proofs.Values.{part_length, folded-short, name-of}
use Rattle.statement.proofs.fetching.name_from.Goals as goal

pub returns : goal.returns
returns c =
    let a = c.args in
    let n = c.min-n in
    let k = a.end - a.start in
    let d = drop a.start a.text.now in
    let e : a.start + n.result - a.start ≡ n.result = omega arith in
    name-of _ _ (folded (take n.result d)) (c.placed.ensures ∙ ap (λ (m : ℕ). padded 12 0 (map folded_byte (take m d))) e) (sym (part_length a.text.now a.start n.result k n.ensures (omega arith)))
    ∙ ap name_struct (folded-short k n.result d n.ensures)
