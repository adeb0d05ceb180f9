-- `Start::read_pair` meets its contract. Assumes nothing.
use mathlib.Core.Path.{◌∙◌}
use mathlib.Core.Bool.{true}
use native.Mathlib.Omega.{arith}
use Rattle.statement.proofs.SentenceReaders.{stops, goes_on}
use Rattle.statement.proofs.Paired.{dotted_from, starts-dotted, stands-dotted}
use Rattle.statement.proofs.SentenceForms.{of_pair}
use Rattle.statement.proofs.sentences.Start.read_pair.Goals as goal

pub invariant_of-read_list : goal.invariant_of-read_list
invariant_of-read_list c = let p = c.args.self.p in record { stands = stands-dotted p.text.now p.c p.stands }

pub returns-in_err-c : goal.returns-in_err-c
returns-in_err-c c n i = stops _ (c.in_err-c.ensures n (omega arith)) (cc)

pub returns-in_err-c-2 : goal.returns-in_err-c-2
returns-in_err-c-2 c n i = goes_on _ (c.in_ok-c.ensures n (omega arith)) (λ _ _ _. stops _ c.in_err-c-2.ensures (cc))

pub returns-in_err-c-3 : goal.returns-in_err-c-3
returns-in_err-c-3 c n i = goes_on _ (c.in_ok-c.ensures n (omega arith)) (λ _ _ _. goes_on _ c.in_ok-c-2.ensures (λ _ _ _. stops _ c.in_err-c-3.ensures (cc)))

pub returns-in_err-c-4 : goal.returns-in_err-c-4
returns-in_err-c-4 c n i = goes_on _ (c.in_ok-c.ensures n (omega arith)) (λ _ _ _. goes_on _ c.in_ok-c-2.ensures (λ _ _ _. goes_on _ c.in_ok-c-3.ensures (λ _ _ _. stops _ c.in_err-c-4.ensures (cc))))

pub returns-in_err-c-5 : goal.returns-in_err-c-5
returns-in_err-c-5 c n i = goes_on _ (c.in_ok-c.ensures n (omega arith)) (λ _ _ _. goes_on _ c.in_ok-c-2.ensures (λ _ _ _. goes_on _ c.in_ok-c-3.ensures (λ _ _ _. goes_on _ c.in_ok-c-4.ensures (λ _ _ _. stops _ c.in_err-c-5.ensures (cc)))))

pub returns-in_err-c-6 : goal.returns-in_err-c-6
returns-in_err-c-6 c n i = goes_on _ (c.in_ok-c.ensures n (omega arith)) (λ _ _ p. goes_on _ c.in_ok-c-2.ensures (λ _ _ q. goes_on _ c.in_ok-c-3.ensures (λ _ _ r. goes_on _ c.in_ok-c-4.ensures (λ _ _ v. goes_on _ c.in_ok-c-5.ensures (λ _ _ w. stops _ (c.in_err-c-6.ensures true (w.0.dotted ∙ v.dotted ∙ r.0.dotted ∙ q.dotted ∙ p.counts.dotted) n i) (cc))))))

pub returns : goal.returns
returns c =
    let a = c.args in
    of_pair a.self.p.text.now (dotted_from a.self.p.c) (starts-dotted a.self.p.c a.self.starts) a.items.now _ a.nodes.now _ _ _ _ _ _ _
    c.in_ok-c.ensures c.in_ok-c-2.ensures c.in_ok-c-3.ensures c.in_ok-c-4.ensures c.in_ok-c-5.ensures c.in_ok-c-6.ensures
