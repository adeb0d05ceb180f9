-- Cached or worked out. Assumes nothing.
use mathlib.Core.Path.{sym, ◌∙◌}
use Rattle.slots.proofs.KeyLaws.{found_below}
use Rattle.cache.proofs.Question.answered.Goals as goal

pub cached-requires : goal.cached-requires
cached-requires c =
    let q = c.args.self.now in
    let s = q.state.now in
    (found_below s.keys s.slots q.key.now c.in-Some.p (sym c.find.ensures ∙ c.in-Some.is), c.requires)
