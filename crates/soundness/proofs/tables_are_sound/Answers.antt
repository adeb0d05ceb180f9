use Rattle.std.proofs.Common.{[], Bool, ◌&&◌, length, sym, ap, ◌∙◌}
use borrow.Author.Tests.{le-leb}
use Rattle.statement.specs.SoundTest.{sound_schemas}
use Rattle.soundness.proofs.Tables.{tables-told}
use Rattle.soundness.proofs.tables_are_sound.Goals as goal

pub returns-then-tables-le-TABLES : goal.returns-then-tables-le-TABLES
returns-then-tables-le-TABLES c =
    let ts = c.args.tables.now in
    c.are_apart.ensures ∙ tables-told ts ∙ sym (ap (λ (b : Bool). b && sound_schemas [] ts) (le-leb (length ts) 8 c.if-tables-le-TABLES.true))
