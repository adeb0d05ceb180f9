-- A statement that is read has no refusal. Assumes nothing.
use Rattle.std.proofs.Common.{◌≡◌, refl, Ok}
use Rattle.statement.specs.declared.Statement.{Statement}
use Rattle.statement.specs.declared.Statement.TheVariants as V
use Rattle.statement.specs.Compiled.{compiled}

pub none-said : (s : Statement) → (compiled (Ok s)).refusal ≡ 0
none-said (V.Table t) = refl
none-said (V.Query q) = refl
none-said (V.Update u) = refl
