-- `Start::read_update` meets its contract. Assumes nothing.
use mathlib.Core.Path.{◌∙◌}
use mathlib.Core.Bool.{false}
use native.Mathlib.Omega.{arith}
use Rattle.statement.proofs.SentenceReaders.{stops, goes_on}
use Rattle.statement.proofs.SentenceForms.{of-update}
use Rattle.statement.proofs.sentences.Start.read_update.Goals as goal

pub returns-in_err-c : goal.returns-in_err-c
returns-in_err-c c n i = stops _ c.in_err-c.ensures (cc)

pub returns-in_err-c-2 : goal.returns-in_err-c-2
returns-in_err-c-2 c n i = goes_on _ c.in_ok-c.ensures (λ _ _ _. stops _ c.in_err-c-2.ensures (cc))

pub returns-in_err-c-3 : goal.returns-in_err-c-3
returns-in_err-c-3 c n i = goes_on _ c.in_ok-c.ensures (λ _ _ _. goes_on _ c.in_ok-c-2.ensures (λ _ _ _. stops _ (c.in_err-c-3.ensures n (omega arith)) (cc)))

pub returns-in_err-c-4 : goal.returns-in_err-c-4
returns-in_err-c-4 c n i = goes_on _ c.in_ok-c.ensures (λ _ _ p. goes_on _ c.in_ok-c-2.ensures (λ _ _ q. goes_on _ (c.in_ok-c-3.ensures n (omega arith)) (λ _ _ r. stops _ (c.in_err-c-4.ensures false (r.counts.dotted ∙ q.dotted ∙ p.0.dotted ∙ c.args.self.starts.dotted) n i) (cc))))

pub returns : goal.returns
returns c =
    let a = c.args in
    of-update a.self.p.text.now a.self.p.c c.args.self.starts a.items.now _ a.nodes.now _ _ _ _ _
    c.in_ok-c.ensures c.in_ok-c-2.ensures c.in_ok-c-3.ensures c.in_ok-c-4.ensures
