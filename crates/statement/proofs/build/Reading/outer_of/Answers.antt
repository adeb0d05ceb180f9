use Rattle.statement.proofs.Assembled.{marks-few-noted}
use Rattle.statement.proofs.build.Reading.outer_of.Goals as goal

pub outer_marks-requires : goal.outer_marks-requires
outer_marks-requires c =
    let r = c.args.self.now in
    marks-few-noted r.text.now r.items.now r.nodes.now r.e r.fits
