-- `Start::read_delete` meets its contract. Assumes nothing.
use mathlib.Core.Path.{◌∙◌}
use mathlib.Core.Bool.{false}
use Rattle.statement.proofs.SentenceReaders.{stops, goes_on}
use Rattle.statement.proofs.SentenceForms.{of-delete}
use Rattle.statement.proofs.sentences.Start.read_delete.Goals as goal

pub returns-in_err-c : goal.returns-in_err-c
returns-in_err-c c ls n i = stops _ c.in_err-c.ensures (cc)

pub returns-in_err-c-2 : goal.returns-in_err-c-2
returns-in_err-c-2 c ls n i = goes_on _ c.in_ok-c.ensures (λ _ _ _. stops _ c.in_err-c-2.ensures (cc))

pub returns-in_err-c-3 : goal.returns-in_err-c-3
returns-in_err-c-3 c ls n i = goes_on _ c.in_ok-c.ensures (λ _ _ p. goes_on _ c.in_ok-c-2.ensures (λ _ _ q. stops _ (c.in_err-c-3.ensures false (q.0.dotted ∙ p.dotted ∙ c.args.self.starts.dotted) n i) (cc)))

pub returns : goal.returns
returns c =
    let a = c.args in
    of-delete a.self.p.text.now a.self.p.c c.args.self.starts a.nodes.now _ _ _ _
    c.in_ok-c.ensures c.in_ok-c-2.ensures c.in_ok-c-3.ensures
