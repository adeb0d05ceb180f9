use Rattle.std.proofs.Common.{rules, refl, ap}
use Rattle.cache.specs.Run.{Store, store_of}
use Rattle.serve.specs.Input.{beginning}
use Rattle.serve.specs.Private.Turns.{desk_start}
use Rattle.serve.proofs.Server.open.Goals as goal

pub returns : goal.returns
returns c = (
  desk_start c.filled-cells.result c.filled-memory.result,
  c.filled.result,
  record { cells = search rules; memory = search rules; slots = refl; slot_bytes = refl; answers = search rules },
  ap (λ (x : Store). beginning x c.filled.result) (ap store_of c.open-opened.ensures),
)
