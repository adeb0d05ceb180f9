-- `Nested::read_comparison` meets its contract. Assumes nothing.
use mathlib.Core.Path.{refl, sym, ◌∙◌}
use Rattle.std.specs.Prelude.{Some, None}
use Rattle.statement.proofs.Comparisons.{no-left, null-reaches, tests, no_sign, no-right, compared, side-as}
use Rattle.statement.proofs.conditions.Nested.read_comparison.Goals as goal

pub returns-in_err-a : goal.returns-in_err-a
returns-in_err-a c =
    let a = c.args in
    let s = a.self.now.p.text.now in
    λ b e. no-left b s a.self.now.positive a.self.now.depth a.self.now.p.c e a.nodes.now _ _ a.first c.requires
    (side-as s a.first None a.self.now.p.c.dotted b e c.in_err-a.ensures a.self.now.p.c.at c.requires) (cc)

pub read_null-requires : goal.read_null-requires
read_null-requires c =
    let a = c.args in
    let s = a.self.now.p.text.now in
    null-reaches a.self.now.p.c.dotted s a.self.now.positive a.self.now.depth a.self.now.p.c refl a.nodes.now None a.nodes.now a.first c.requires c.in_ok-a.a (c.in_ok-a.ensures a.self.now.p.c.at c.requires) c.next-t.result c.next-t.ensures (sym c.tests_null.ensures ∙ c.if-tests_null.true)

pub returns-then-tests_null : goal.returns-then-tests_null
returns-then-tests_null c =
    let a = c.args in
    let s = a.self.now.p.text.now in
    λ b e. tests b s a.self.now.positive a.self.now.depth a.self.now.p.c e a.nodes.now _ _ a.first c.requires
    c.in_ok-a.a (side-as s a.first (Some c.in_ok-a.a) a.self.now.p.c.dotted b e c.in_ok-a.ensures a.self.now.p.c.at c.requires) c.next-t.result c.next-t.ensures (sym c.tests_null.ensures ∙ c.if-tests_null.true) c.read_null.ensures

pub returns-in_err-op : goal.returns-in_err-op
returns-in_err-op c =
    let a = c.args in
    let s = a.self.now.p.text.now in
    λ b e. no_sign b s a.self.now.positive a.self.now.depth a.self.now.p.c e a.nodes.now _ _ a.first c.requires
    c.in_ok-a.a (side-as s a.first (Some c.in_ok-a.a) a.self.now.p.c.dotted b e c.in_ok-a.ensures a.self.now.p.c.at c.requires) c.next-t.result c.next-t.ensures (sym c.tests_null.ensures ∙ c.if-tests_null.false) (sym c.in_err-op.ensures) (cc)

pub returns-in_err-b : goal.returns-in_err-b
returns-in_err-b c =
    let a = c.args in
    let s = a.self.now.p.text.now in
    λ b e. no-right b s a.self.now.positive a.self.now.depth a.self.now.p.c e a.nodes.now _ _ a.first c.requires
    c.in_ok-a.a (side-as s a.first (Some c.in_ok-a.a) a.self.now.p.c.dotted b e c.in_ok-a.ensures a.self.now.p.c.at c.requires) c.next-t.result c.next-t.ensures (sym c.tests_null.ensures ∙ c.if-tests_null.false) c.in_ok-op.op (sym c.in_ok-op.ensures)
    (side-as s c.next.result None a.self.now.p.c.dotted b e c.in_err-b.ensures c.next-t.result.next c.next.ensures) (cc)

pub returns : goal.returns
returns c =
    let a = c.args in
    let s = a.self.now.p.text.now in
    λ b e. compared b s a.self.now.positive a.self.now.depth a.self.now.p.c e a.nodes.now _ _ a.first c.requires
    c.in_ok-a.a (side-as s a.first (Some c.in_ok-a.a) a.self.now.p.c.dotted b e c.in_ok-a.ensures a.self.now.p.c.at c.requires) c.next-t.result c.next-t.ensures (sym c.tests_null.ensures ∙ c.if-tests_null.false) c.in_ok-op.op (sym c.in_ok-op.ensures)
    c.in_ok-b.b (side-as s c.next.result (Some c.in_ok-b.b) a.self.now.p.c.dotted b e c.in_ok-b.ensures c.next-t.result.next c.next.ensures) a.self.now.p.stands
    c.put_comparison.result refl c.put_comparison.ensures
