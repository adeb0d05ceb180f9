-- The readers of OR, AND and single conditions: each answer names a step of `Readers`, with what the calls ensure and what the tests found.
use mathlib.Core.Path.{◌≡◌, refl, sym, ap, ◌∙◌}
use Prim.Native.Nat.{◌+◌}
use native.Mathlib.Omega.{arith}
use Rattle.meaning.specs.Condition.{atom, conjunction, disjunction}
use Rattle.meaning.specs.Tokens.{keyword, lparen, NOT, AND, OR}
use Rattle.statement.specs.Private.Reading.{moved_to}
use Rattle.statement.proofs.Steps.{goes, stops, stands-past}
use Rattle.statement.proofs.Readers.{ands, ors, and_noted, or_noted, first-fails, first_alone, second-fails, second-joins, found-on, one-negates, one-empty, one-closes, one-compares}
use Rattle.statement.proofs.conditions.Nested.+read_and_read_one_read_or.Goals as goal
use Rattle.statement.proofs.conditions.Nested.+read_and_read_one_read_or.Goals.{read_and-then-self, read_and-else-self, read_or-then-self, read_or-else-self}

-- ---- `read_and`

pub read_and-returns-in_err-p : goal.read_and-returns-in_err-p
read_and-returns-in_err-p t c =
    let a = c.args in
    first-fails ands a.self.now.p.text.now a.self.now.positive a.self.now.depth a.self.now.p.c a.nodes.now c.read_one.new.nodes _ (cc) c.in_err-p.ensures

pub read_and-invariant_of-next : goal.read_and-invariant_of-next
read_and-invariant_of-next t c =
    let a = c.args in
    let p = c.in_ok-p.p in
    let on = found-on atom a.self.now.p.text.now a.self.now.positive a.self.now.depth a.self.now.p.c a.nodes.now p c.read_one.new.nodes c.in_ok-p.ensures in
    record { stands = on.0 }

pub read_and-returns-in_default : goal.read_and-returns-in_default
read_and-returns-in_default t c =
    let a = c.args in
    let p = c.in_ok-p.p in
    first_alone ands a.self.now.p.text.now a.self.now.positive a.self.now.depth a.self.now.p.c a.nodes.now c.read_one.new.nodes p c.in_ok-p.ensures (stops a.self.now.p.text.now p.at c.next-t.result c.next-t.ensures (keyword AND) c.in_default.not-And)

pub read_and-invariant_of-rest : goal.read_and-invariant_of-rest
read_and-invariant_of-rest t c =
    let a = c.args in
    let p = c.in_ok-p.p in
    let on = found-on atom a.self.now.p.text.now a.self.now.positive a.self.now.depth a.self.now.p.c a.nodes.now p c.read_one.new.nodes c.in_ok-p.ensures in
    let g = goes a.self.now.p.text.now p.at c.next-t.result c.next-t.ensures (keyword AND) refl c.in-And.is in
    record { stands = stands-past p on.0 g }

pub read_and-invariant_of-rest-2 : goal.read_and-invariant_of-rest-2
read_and-invariant_of-rest-2 t c =
    let a = c.args in
    let p = c.in_ok-p.p in
    let g = goes a.self.now.p.text.now p.at c.next-t.result c.next-t.ensures (keyword AND) refl c.in-And.is in
    let on = found-on atom a.self.now.p.text.now a.self.now.positive a.self.now.depth a.self.now.p.c a.nodes.now p c.read_one.new.nodes c.in_ok-p.ensures in
    record { few = omega (arith, a.self.now.few, on.1, g.on) }

pub read_and-read_and-requires : goal.read_and-read_and-requires
read_and-read_and-requires t c =
    let a = c.args in
    let p = c.in_ok-p.p in
    let g = goes a.self.now.p.text.now p.at c.next-t.result c.next-t.ensures (keyword AND) refl c.in-And.is in
    let on = found-on atom a.self.now.p.text.now a.self.now.positive a.self.now.depth a.self.now.p.c a.nodes.now p c.read_one.new.nodes c.in_ok-p.ensures in
    omega (arith, on.1, g.on, g.within, c.decreases)

pub read_and-returns-in_err-q : goal.read_and-returns-in_err-q
read_and-returns-in_err-q t c =
    let a = c.args in
    let p = c.in_ok-p.p in
    let g = goes a.self.now.p.text.now p.at c.next-t.result c.next-t.ensures (keyword AND) refl c.in-And.is in
    second-fails ands a.self.now.p.text.now a.self.now.positive a.self.now.depth a.self.now.p.c a.nodes.now c.read_one.new.nodes p c.in_ok-p.ensures _ g c.read_and.new.nodes _ (cc) c.in_err-q.ensures

pub read_and-invariant_of-put : goal.read_and-invariant_of-put
read_and-invariant_of-put t c =
    let a = c.args in
    record {
      stands = (found-on conjunction a.self.now.p.text.now a.self.now.positive a.self.now.depth (moved_to c.next-t.result.next c.in_ok-p.p) c.read_one.new.nodes c.in_ok-q.q c.read_and.new.nodes c.in_ok-q.ensures).0;
    }

pub read_and-returns : goal.read_and-returns
read_and-returns t c =
    let node : c.if-self.node ≡ and_noted c.args.self.now.positive =
    elim c.if-self.branch [ read_and-then-self w ↦ w.node-is ∙ sym (ap and_noted w.if-self.true) | read_and-else-self w ↦ w.node-is ∙ sym (ap and_noted w.if-self.false) ] in
    let a = c.args in
    let p = c.in_ok-p.p in
    let g = goes a.self.now.p.text.now p.at c.next-t.result c.next-t.ensures (keyword AND) refl c.in-And.is in
    second-joins ands a.self.now.p.text.now a.self.now.positive a.self.now.depth a.self.now.p.c a.nodes.now c.read_one.new.nodes p c.in_ok-p.ensures _ g c.read_and.new.nodes c.in_ok-q.q c.in_ok-q.ensures _ _ _ node c.put.ensures

-- ---- `read_or`

pub read_or-returns-in_err-p : goal.read_or-returns-in_err-p
read_or-returns-in_err-p t c =
    let a = c.args in
    first-fails ors a.self.now.p.text.now a.self.now.positive a.self.now.depth a.self.now.p.c a.nodes.now c.read_and.new.nodes _ (cc) c.in_err-p.ensures

pub read_or-invariant_of-next : goal.read_or-invariant_of-next
read_or-invariant_of-next t c =
    let a = c.args in
    let p = c.in_ok-p.p in
    let on = found-on conjunction a.self.now.p.text.now a.self.now.positive a.self.now.depth a.self.now.p.c a.nodes.now p c.read_and.new.nodes c.in_ok-p.ensures in
    record { stands = on.0 }

pub read_or-returns-in_default : goal.read_or-returns-in_default
read_or-returns-in_default t c =
    let a = c.args in
    let p = c.in_ok-p.p in
    first_alone ors a.self.now.p.text.now a.self.now.positive a.self.now.depth a.self.now.p.c a.nodes.now c.read_and.new.nodes p c.in_ok-p.ensures (stops a.self.now.p.text.now p.at c.next-t.result c.next-t.ensures (keyword OR) c.in_default.not-Or)

pub read_or-invariant_of-rest : goal.read_or-invariant_of-rest
read_or-invariant_of-rest t c =
    let a = c.args in
    let p = c.in_ok-p.p in
    let on = found-on conjunction a.self.now.p.text.now a.self.now.positive a.self.now.depth a.self.now.p.c a.nodes.now p c.read_and.new.nodes c.in_ok-p.ensures in
    let g = goes a.self.now.p.text.now p.at c.next-t.result c.next-t.ensures (keyword OR) refl c.in-Or.is in
    record { stands = stands-past p on.0 g }

pub read_or-invariant_of-rest-2 : goal.read_or-invariant_of-rest-2
read_or-invariant_of-rest-2 t c =
    let a = c.args in
    let p = c.in_ok-p.p in
    let g = goes a.self.now.p.text.now p.at c.next-t.result c.next-t.ensures (keyword OR) refl c.in-Or.is in
    let on = found-on conjunction a.self.now.p.text.now a.self.now.positive a.self.now.depth a.self.now.p.c a.nodes.now p c.read_and.new.nodes c.in_ok-p.ensures in
    record { few = omega (arith, a.self.now.few, on.1, g.on) }

pub read_or-read_or-requires : goal.read_or-read_or-requires
read_or-read_or-requires t c =
    let a = c.args in
    let p = c.in_ok-p.p in
    let g = goes a.self.now.p.text.now p.at c.next-t.result c.next-t.ensures (keyword OR) refl c.in-Or.is in
    let on = found-on conjunction a.self.now.p.text.now a.self.now.positive a.self.now.depth a.self.now.p.c a.nodes.now p c.read_and.new.nodes c.in_ok-p.ensures in
    omega (arith, on.1, g.on, g.within, c.decreases)

pub read_or-returns-in_err-q : goal.read_or-returns-in_err-q
read_or-returns-in_err-q t c =
    let a = c.args in
    let p = c.in_ok-p.p in
    let g = goes a.self.now.p.text.now p.at c.next-t.result c.next-t.ensures (keyword OR) refl c.in-Or.is in
    second-fails ors a.self.now.p.text.now a.self.now.positive a.self.now.depth a.self.now.p.c a.nodes.now c.read_and.new.nodes p c.in_ok-p.ensures _ g c.read_or.new.nodes _ (cc) c.in_err-q.ensures

pub read_or-invariant_of-put : goal.read_or-invariant_of-put
read_or-invariant_of-put t c =
    let a = c.args in
    record {
      stands = (found-on disjunction a.self.now.p.text.now a.self.now.positive a.self.now.depth (moved_to c.next-t.result.next c.in_ok-p.p) c.read_and.new.nodes c.in_ok-q.q c.read_or.new.nodes c.in_ok-q.ensures).0;
    }

pub read_or-returns : goal.read_or-returns
read_or-returns t c =
    let node : c.if-self.node ≡ or_noted c.args.self.now.positive =
    elim c.if-self.branch [ read_or-then-self w ↦ w.node-is ∙ sym (ap or_noted w.if-self.true) | read_or-else-self w ↦ w.node-is ∙ sym (ap or_noted w.if-self.false) ] in
    let a = c.args in
    let p = c.in_ok-p.p in
    let g = goes a.self.now.p.text.now p.at c.next-t.result c.next-t.ensures (keyword OR) refl c.in-Or.is in
    second-joins ors a.self.now.p.text.now a.self.now.positive a.self.now.depth a.self.now.p.c a.nodes.now c.read_and.new.nodes p c.in_ok-p.ensures _ g c.read_or.new.nodes c.in_ok-q.q c.in_ok-q.ensures _ _ _ node c.put.ensures

-- ---- `read_one`

pub read_one-invariant_of-negated : goal.read_one-invariant_of-negated
read_one-invariant_of-negated t c =
    let a = c.args in
    let g = goes a.self.now.p.text.now a.self.now.p.c.at c.next-t.result c.next-t.ensures (keyword NOT) refl c.in-Not.is in
    record { stands = stands-past a.self.now.p.c a.self.now.p.stands g }

pub read_one-invariant_of-negated-in-Not : goal.read_one-invariant_of-negated-in-Not
read_one-invariant_of-negated-in-Not t c =
    let a = c.args in
    let g = goes a.self.now.p.text.now a.self.now.p.c.at c.next-t.result c.next-t.ensures (keyword NOT) refl c.in-Not.is in
    record { few = omega (arith, a.self.now.few, g.on) }

pub read_one-read_one-requires : goal.read_one-read_one-requires
read_one-read_one-requires t c =
    let a = c.args in
    let g = goes a.self.now.p.text.now a.self.now.p.c.at c.next-t.result c.next-t.ensures (keyword NOT) refl c.in-Not.is in
    omega (arith, g.on, g.within, c.decreases)

pub read_one-returns-in-Not : goal.read_one-returns-in-Not
read_one-returns-in-Not t c =
    let a = c.args in
    let g = goes a.self.now.p.text.now a.self.now.p.c.at c.next-t.result c.next-t.ensures (keyword NOT) refl c.in-Not.is in
    one-negates a.self.now.p.text.now a.self.now.positive a.self.now.depth a.self.now.p.c a.nodes.now _ _ _ g c.read_one.ensures

pub read_one-invariant_of-inner : goal.read_one-invariant_of-inner
read_one-invariant_of-inner t c =
    let a = c.args in
    let g = goes a.self.now.p.text.now a.self.now.p.c.at c.next-t.result c.next-t.ensures lparen refl c.in-Open.is in
    record { stands = stands-past a.self.now.p.c a.self.now.p.stands g }

pub read_one-invariant_of-inner-in-Open : goal.read_one-invariant_of-inner-in-Open
read_one-invariant_of-inner-in-Open t c =
    let a = c.args in
    let g = goes a.self.now.p.text.now a.self.now.p.c.at c.next-t.result c.next-t.ensures lparen refl c.in-Open.is in
    record { few = omega (arith, a.self.now.few, g.on) }

pub read_one-read_or-requires : goal.read_one-read_or-requires
read_one-read_or-requires t c =
    let a = c.args in
    let g = goes a.self.now.p.text.now a.self.now.p.c.at c.next-t.result c.next-t.ensures lparen refl c.in-Open.is in
    omega (arith, g.on, g.within, c.decreases)

pub read_one-returns-in_err-inside-in-Open : goal.read_one-returns-in_err-inside-in-Open
read_one-returns-in_err-inside-in-Open t c =
    let a = c.args in
    let g = goes a.self.now.p.text.now a.self.now.p.c.at c.next-t.result c.next-t.ensures lparen refl c.in-Open.is in
    one-empty a.self.now.p.text.now a.self.now.positive a.self.now.depth a.self.now.p.c a.nodes.now _ _ _ (cc) g c.in_err-inside-in-Open.ensures

pub read_one-invariant_of-expect : goal.read_one-invariant_of-expect
read_one-invariant_of-expect t c =
    let a = c.args in
    record { stands = (found-on disjunction a.self.now.p.text.now a.self.now.positive (a.self.now.depth + 1) (moved_to c.next-t.result.next a.self.now.p.c) a.nodes.now c.in_ok-inside-in-Open.inside c.read_or.new.nodes c.in_ok-inside-in-Open.ensures).0 }

pub read_one-returns-in_ok-inside-in-Open : goal.read_one-returns-in_ok-inside-in-Open
read_one-returns-in_ok-inside-in-Open t c =
    let a = c.args in
    let g = goes a.self.now.p.text.now a.self.now.p.c.at c.next-t.result c.next-t.ensures lparen refl c.in-Open.is in
    one-closes a.self.now.p.text.now a.self.now.positive a.self.now.depth a.self.now.p.c a.nodes.now c.read_or.new.nodes _ c.in_ok-inside-in-Open.inside g c.in_ok-inside-in-Open.ensures c.expect.result c.expect.ensures

pub read_one-returns-in_default : goal.read_one-returns-in_default
read_one-returns-in_default t c =
    let a = c.args in
    let u = c.next-t.result in
    let e = c.next-t.ensures in
    one-compares a.self.now.p.text.now a.self.now.positive a.self.now.depth a.self.now.p.c a.nodes.now _ _ (stops a.self.now.p.text.now a.self.now.p.c.at u e (keyword NOT) c.in_default.not-Not) (stops a.self.now.p.text.now a.self.now.p.c.at u e lparen c.in_default.not-Open) c.read_comparison.ensures
