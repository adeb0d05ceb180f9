-- Assumes nothing.
use Rattle.std.proofs.Common.{ℕ, rules}
use Rattle.std.proofs.lemmas.List.FromFn.{fill_by_all}
use Rattle.slots.specs.Order.{open_of}
use Rattle.slots.proofs.SlotList.open.Goals as goal

pub returns : goal.returns
unfolding open_of
returns c =
    let made = c.from_fn.ensures.items in
    let e = fill_by_all (λ (k : ℕ). k) c.from_fn.result 64 0 made.long (λ k h. let r = made.at k 0 h in search rules) in
    λ j. record { order = e j; held = 0; count = c.args.count }
