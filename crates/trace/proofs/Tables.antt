-- The plain store of document 01 keeps the laws that the whole-list theorems ask for. Assumes nothing.
use Rattle.meaning.proofs.Keeps.{add_keeps, change_keeps, note_keeps}
use Rattle.meaning.proofs.Stays.{stays_undropped}
use Rattle.meaning.proofs.WellFormed.{WellFormed, opened-well, step-well, commit-taken}
use Rattle.meaning.proofs.Within32.{Store32, opened-32, step-32}
use Rattle.trace.proofs.Laws.{TableLaws}

pub plain-laws : TableLaws
plain-laws = record {
  Good = λ p. WellFormed p × Store32 p;
  good_opened = λ o. (opened-well o, opened-32 o);
  good_step = λ lent p g c v. (step-well lent p g.0 c, step-32 lent p g.1 c v);
  add_keeps = add_keeps;
  change_keeps = λ lent p n us k g. change_keeps stays_undropped lent p n us k g.0 g.1;
  note_keeps = note_keeps;
  commit_taken = λ lent p g. commit-taken lent p g.0;
}
