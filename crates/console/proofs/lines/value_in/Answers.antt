-- The first token is the word's only one, and a constant within 32 bits.
use Rattle.std.proofs.Common.{rules, arith}
use mir.Syntax.{w32}
use mir.Val.{SFits}
use mir.Facts.{to_z-of_z}
use Rattle.std.proofs.lemmas.Grind.{common_steps}
use Rattle.console.proofs.Constants.{found-value, found-later, found-short, found-other}
use Rattle.console.proofs.lines.value_in.Goals as goal

pub returns-in-Constant : goal.returns-in-Constant
returns-in-Constant c =
    let small : SFits w32 c.in-Constant.value = search rules in
    rw (to_z-of_z small) (found-value c.args.word.now c.next-t.result c.next-t.ensures c.in-Constant.value c.in-Constant.is c.if-t-eq0.true c.if-t-word.true)

pub returns-in_default : goal.returns-in_default
returns-in_default c = found-short c.args.word.now c.next-t.result c.next-t.ensures c.if-t-word.false

pub returns-in_default-2 : goal.returns-in_default-2
returns-in_default-2 c = found-later c.args.word.now c.next-t.result c.next-t.ensures c.if-t-eq0.false

pub returns-in_default-3 : goal.returns-in_default-3
returns-in_default-3 c = found-other c.args.word.now c.next-t.result c.next-t.ensures (λ z e. grind (arith, common_steps))
