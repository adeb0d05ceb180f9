-- A part of the targets, or none.
use Rattle.std.proofs.Common.{ℕ, ◌-◌, ◌*◌, map, ap₂, ◌∙◌}
use borrow.Rule.Slice.PartMut.{put_mid, mid_of}
use Rattle.table.specs.Private.Linking.{led_on}
use Rattle.table.proofs.Linking.{redirect-part}
use Rattle.table.proofs.rows.redirect.Goals as goal

pub returns-then-a-b : goal.returns-then-a-b
returns-then-a-b c =
    let a = c.args in
    let t = a.targets.now in
    let m = c.lead_on.new.targets in
    redirect-part a.a a.b a.from t c.requires.2 c.requires.1 c.if-a-b.true m _
    (c.lead_on.ensures ∙ ap₂ (λ (x y : ℕ). map (led_on a.from a.b) (mid_of (4 * x) (4 * y - 4 * x) t)) c.from.ensures c.from-then-a-b.ensures)
    (ap₂ (λ (x y : ℕ). put_mid (4 * x) (4 * y - 4 * x) t m) c.from.ensures c.from-then-a-b.ensures)
