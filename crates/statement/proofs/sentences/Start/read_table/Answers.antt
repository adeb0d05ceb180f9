-- `Start::read_table` meets its contract. Assumes nothing.
use native.Mathlib.Omega.{arith}
use Rattle.statement.proofs.SentenceReaders.{stops, goes_on}
use Rattle.statement.proofs.SentenceForms.{of-table}
use Rattle.statement.proofs.sentences.Start.read_table.Goals as goal

pub returns-in_err-c : goal.returns-in_err-c
returns-in_err-c c ps n i = stops _ c.in_err-c.ensures (cc)

pub returns-in_err-c-2 : goal.returns-in_err-c-2
returns-in_err-c-2 c ps n i = goes_on _ c.in_ok-c.ensures (λ _ _ _. stops _ c.in_err-c-2.ensures (cc))

pub returns-in_err-c-3 : goal.returns-in_err-c-3
returns-in_err-c-3 c ps n i = goes_on _ c.in_ok-c.ensures (λ _ _ _. goes_on _ c.in_ok-c-2.ensures (λ _ _ _. stops _ (c.in_err-c-3.ensures n (omega arith)) (cc)))

pub returns-in_err-c-4 : goal.returns-in_err-c-4
returns-in_err-c-4 c ps n i = goes_on _ c.in_ok-c.ensures (λ _ _ _. goes_on _ c.in_ok-c-2.ensures (λ _ _ _. goes_on _ (c.in_ok-c-3.ensures n (omega arith)) (λ _ _ _. stops _ c.in_err-c-4.ensures (cc))))

pub returns-in_err-c-5 : goal.returns-in_err-c-5
returns-in_err-c-5 c ps n i = goes_on _ c.in_ok-c.ensures (λ _ _ _. goes_on _ c.in_ok-c-2.ensures (λ _ _ _. goes_on _ (c.in_ok-c-3.ensures n (omega arith)) (λ _ _ _. goes_on _ c.in_ok-c-4.ensures (λ _ _ _. stops _ c.in_err-c-5.ensures (cc)))))

pub returns-in_err-c-6 : goal.returns-in_err-c-6
returns-in_err-c-6 c ps n i = goes_on _ c.in_ok-c.ensures (λ _ _ _. goes_on _ c.in_ok-c-2.ensures (λ _ _ _. goes_on _ (c.in_ok-c-3.ensures n (omega arith)) (λ _ _ _. goes_on _ c.in_ok-c-4.ensures (λ _ _ _. goes_on _ c.in_ok-c-5.ensures (λ _ _ _. stops _ c.in_err-c-6.ensures (cc))))))

pub returns : goal.returns
returns c =
    let a = c.args in
    of-table a.self.p.text.now a.self.p.c c.args.self.starts a.items.now _ _ _ _ _ _ _
    c.in_ok-c.ensures c.in_ok-c-2.ensures c.in_ok-c-3.ensures c.in_ok-c-4.ensures c.in_ok-c-5.ensures c.in_ok-c-6.ensures
