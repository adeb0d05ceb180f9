-- `Nested::read_null` meets its contract. Assumes nothing.
use Rattle.statement.proofs.Comparisons.{null-negated, null-plain}
use Rattle.statement.proofs.conditions.Nested.read_null.Goals as goal

pub returns-in-Not : goal.returns-in-Not
returns-in-Not c =
    let z = c in
    let a = z.args in
    let t = c.next-t in
    let u = c.next-u in
    λ b e x p.
    null-negated b a.self.now.p.text.now a.self.now.positive a.self.now.depth a.self.now.p.c e a.nodes.now a.a a.at a.self.now.p.stands z.requires x p _ _
    t.result t.ensures c.in-Not.is u.result u.ensures c.put_null.ensures

pub returns : goal.returns
returns c =
    let z = c in
    let a = z.args in
    let t = c.next-t in
    λ b e x p.
    null-plain b a.self.now.p.text.now a.self.now.positive a.self.now.depth a.self.now.p.c e a.nodes.now a.a a.at a.self.now.p.stands z.requires x p _ _
    t.result t.ensures c.in_default.not-Not c.put_null-2.ensures
