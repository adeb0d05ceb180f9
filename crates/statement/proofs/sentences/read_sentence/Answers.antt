-- `sentences::read_sentence` meets its contract. Assumes nothing.
use mathlib.Core.Path.{refl}
use Rattle.statement.proofs.SentenceTexts.{no-sentence, more-follows, all_read}
use Rattle.statement.proofs.sentences.read_sentence.Goals as goal

pub returns-in_err-e : goal.returns-in_err-e
returns-in_err-e c = no-sentence c.args.text.now _ _ _ c.in_err-e.ensures (cc)

pub returns-in_default : goal.returns-in_default
returns-in_default c =
    let s = c.args.text.now in
    more-follows s _ _ c.in_ok-e.e c.in_ok-e.ensures c.next-t.result c.next-t.ensures _ c.in_default.not-End refl

pub returns-in-End : goal.returns-in-End
returns-in-End c =
    let s = c.args.text.now in
    all_read s _ _ c.in_ok-e.e c.in_ok-e.ensures c.next-t.result c.next-t.ensures c.in-End.is
