use Rattle.serve.proofs.Turning.{begins}
use Rattle.serve.proofs.Server.answer_line.Goals as goal

-- the text is what is written
pub returns-clause-text : goal.returns-clause-text
returns-clause-text g c = begins c.answer_held-size.result _ _ c.answer_held-size.ensures.text c.answer_held-size.ensures.within
