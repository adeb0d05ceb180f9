use Rattle.std.proofs.Common.{◌≡◌, ◌+◌, ◌-◌, take, drop, length, ℕ, sym, ap, ◌∙◌, arith, rules}
use Rattle.lists.proofs.Lists.{All-take, All-drop}
use lib.ListN.{length-take}
use Rattle.pattern.specs.Private.Flat.{failing, entries_of}
use Rattle.lists.specs.Lists.{any}
use Rattle.pattern.proofs.Labelling.{pattern-clash, pattern-fails, pattern-there, cut-clause}
use Rattle.pattern.proofs.labels.pattern_of.Goals as goal

pub returns-in_err-labels : goal.returns-in_err-labels
returns-in_err-labels c =
    let d = c.args.clause.now in
    c.from_residual.ensures ∙ pattern-clash d.codes d.ops d.count c.args.marks c.in_err-labels.ensures

pub returns-then-some_fails : goal.returns-then-some_fails
returns-then-some_fails c =
    let d = c.args.clause.now in
    let n : length d.codes ≡ 40 = search rules in
    let m : length d.ops ≡ 16 = search rules in
    let labels = c.in_ok-labels.labels in
    pattern-fails d.codes d.ops d.count c.args.marks n (omega (arith, c.requires.0.few)) labels c.in_ok-labels.ensures
    (ap (any failing) (sym (cut-clause labels d.ops d.count (omega (arith, c.requires.0.few)))) ∙ sym c.if-some_fails.ensures)

pub entries_of-requires : goal.entries_of-requires
entries_of-requires c =
    let labels = c.in_ok-labels.labels in
    (omega (arith, length-take (32 + c.args.marks - 32) (drop 32 labels)), All-take (32 + c.args.marks - 32) (All-drop 32 c.in_ok-labels.ensures.readable))

pub returns : goal.returns
returns c =
    let d = c.args.clause.now in
    let n : length d.codes ≡ 40 = search rules in
    let m : length d.ops ≡ 16 = search rules in
    let labels = c.in_ok-labels.labels in
    let k : 32 + c.args.marks - 32 ≡ c.args.marks = omega arith in
    pattern-there d.codes d.ops d.count c.args.marks n (omega (arith, c.requires.0.few)) labels c.in_ok-labels.ensures
    (ap (any failing) (sym (cut-clause labels d.ops d.count (omega (arith, c.requires.0.few)))) ∙ sym c.if-some_fails.ensures)
    c.requires.1 c.requires.0.marks_there c.entries_of.result (c.entries_of.ensures ∙ ap (λ (j : ℕ). entries_of (take j (drop 32 labels))) k)
