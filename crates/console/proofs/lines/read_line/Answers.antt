use Rattle.std.proofs.Common.{eqb, drop, refl, sym, ap, ◌∙◌}
use lib.Pointwise.{pointwise}
use Rattle.std.specs.Prelude as P
use Rattle.console.specs.declared.Line.TheVariants.{Add, Flush, Bad}
use Rattle.console.specs.Room.{filled}
use Rattle.std.proofs.Math.Option.{none, some}
use Rattle.meaning.specs.Call.{add, flush}
use Rattle.console.specs.Lines.{command_of, line_of, values_of}
use Rattle.console.proofs.Commands.{told, long-line, add-line, other-line, flush-told, line-told}
use Rattle.console.proofs.lines.read_line.Goals as goal

pub returns-then-line-gt-BYTES-clause-result : goal.returns-then-line-gt-BYTES-clause-result
returns-then-line-gt-BYTES-clause-result c = (told (command_of c.args.line.now) none c.args.values.now Bad (long-line c.args.line.now c.if-line-gt-BYTES.true) refl refl).0

pub returns-then-starts_with-clause-result : goal.returns-then-starts_with-clause-result
returns-then-starts_with-clause-result c = (told (command_of c.args.line.now) (some (add (drop 4 c.args.line.now))) c.args.values.now Add (add-line c.args.line.now c.if-line-gt-BYTES.false c.starts_with.ensures.value c.if-starts_with.true) refl refl).0

pub returns-then-eq-clause-result : goal.returns-then-eq-clause-result
returns-then-eq-clause-result c = (told (command_of c.args.line.now) (some flush) c.args.values.now Flush (other-line c.args.line.now c.if-line-gt-BYTES.false c.starts_with.ensures.value c.if-starts_with.false ∙ flush-told c.args.line.now (c.eq.ensures ∙ ap (pointwise eqb c.args.line.now) c.as_slice.ensures) c.if-eq.true) refl refl).0

pub returns-in-None-clause-result : goal.returns-in-None-clause-result
returns-in-None-clause-result c = (told (command_of c.args.line.now) none c.args.values.now Bad (other-line c.args.line.now c.if-line-gt-BYTES.false c.starts_with.ensures.value c.if-starts_with.false ∙ line-told c.args.line.now (c.eq.ensures ∙ ap (pointwise eqb c.args.line.now) c.as_slice.ensures) c.if-eq.false P.None c.in-None.ensures) refl refl).0

pub returns-then-line-gt-BYTES-clause-values : goal.returns-then-line-gt-BYTES-clause-values
returns-then-line-gt-BYTES-clause-values c = (told (command_of c.args.line.now) none c.args.values.now Bad (long-line c.args.line.now c.if-line-gt-BYTES.true) refl refl).1

pub returns-then-starts_with-clause-values : goal.returns-then-starts_with-clause-values
returns-then-starts_with-clause-values c = (told (command_of c.args.line.now) (some (add (drop 4 c.args.line.now))) c.args.values.now Add (add-line c.args.line.now c.if-line-gt-BYTES.false c.starts_with.ensures.value c.if-starts_with.true) refl refl).1

pub returns-then-eq-clause-values : goal.returns-then-eq-clause-values
returns-then-eq-clause-values c = (told (command_of c.args.line.now) (some flush) c.args.values.now Flush (other-line c.args.line.now c.if-line-gt-BYTES.false c.starts_with.ensures.value c.if-starts_with.false ∙ flush-told c.args.line.now (c.eq.ensures ∙ ap (pointwise eqb c.args.line.now) c.as_slice.ensures) c.if-eq.true) refl refl).1

pub returns-in-None-clause-values : goal.returns-in-None-clause-values
returns-in-None-clause-values c = (told (command_of c.args.line.now) none c.args.values.now Bad (other-line c.args.line.now c.if-line-gt-BYTES.false c.starts_with.ensures.value c.if-starts_with.false ∙ line-told c.args.line.now (c.eq.ensures ∙ ap (pointwise eqb c.args.line.now) c.as_slice.ensures) c.if-eq.false P.None c.in-None.ensures) refl refl).1

pub returns-in-Some-clause-result : goal.returns-in-Some-clause-result
returns-in-Some-clause-result c = (line-told c.args.line.now (c.eq.ensures ∙ ap (pointwise eqb c.args.line.now) c.as_slice.ensures) c.if-eq.false (P.Some c.in-Some.said) c.in-Some.ensures).0 ∙ sym (ap line_of (other-line c.args.line.now c.if-line-gt-BYTES.false c.starts_with.ensures.value c.if-starts_with.false))

pub returns-in-Some-clause-values : goal.returns-in-Some-clause-values
returns-in-Some-clause-values c =
    c.put_values.ensures ∙ ap (filled c.args.values.now 0) ((line-told c.args.line.now (c.eq.ensures ∙ ap (pointwise eqb c.args.line.now) c.as_slice.ensures) c.if-eq.false (P.Some c.in-Some.said) c.in-Some.ensures).1 ∙ sym (ap values_of (other-line c.args.line.now c.if-line-gt-BYTES.false c.starts_with.ensures.value c.if-starts_with.false)))
