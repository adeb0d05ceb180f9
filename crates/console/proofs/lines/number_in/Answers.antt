use Rattle.std.proofs.Common.{◌≡◌, sym, ap, ◌∙◌, rules}
use lib.IntN.{nat_abs}
use mir.Syntax.{w32}
use mir.Val.{to_z, of_z, SFits}
use Rattle.std.specs.Prelude as P
use Rattle.console.specs.Lines.{word_number}
use Rattle.console.specs.Private.Parts.{as_option}
use Rattle.console.proofs.Constants.{number-found, number-minus, found_number, found-no, ok-is, fits-usize}
use Rattle.console.proofs.lines.number_in.Goals as goal

pub returns-then-starts_with : goal.returns-then-starts_with
returns-then-starts_with c = sym (ap as_option (number-minus c.args.word.now c.starts_with.ensures.value c.if-starts_with.true))

pub returns-in_err-value : goal.returns-in_err-value
returns-in_err-value c =
    let f = number-found c.args.word.now c.starts_with.ensures.value c.if-starts_with.false in
    c.from_residual.ensures ∙ found-no (word_number c.args.word.now) (sym c.in_err-value.was ∙ c.value_in.ensures ∙ ap as_option f)

pub returns : goal.returns
returns c =
    let f = number-found c.args.word.now c.starts_with.ensures.value c.if-starts_with.false in
    let q = found_number (word_number c.args.word.now) c.in_ok-value.value (sym c.in_ok-value.was ∙ c.value_in.ensures ∙ ap as_option f) in
    let z : to_z w32 (of_z w32 c.in_ok-value.value) ≡ c.in_ok-value.value = search rules in
    let s : SFits w32 c.in_ok-value.value = search rules in
    c.ok.ensures.value ∙ ok-is c.try_from.result _ c.try_from.ensures (rw (sym z) at (fits-usize c.in_ok-value.value q.0 q.1 s)) ∙ ap P.Some (ap nat_abs (z ∙ q.1)) ∙ sym q.2
