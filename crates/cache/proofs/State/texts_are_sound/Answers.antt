-- Assumes nothing.
use Rattle.std.proofs.Common.{◌≡◌, refl, true, length, take, leb, arith}
use borrow.Author.Tests.{le-leb}
use lib.ListN.{length-take}
use Rattle.cache.specs.SoundTest.{sound_tables}
use Rattle.soundness.specs.Soundness.{tables_sound, queries_sound, updates_sound}
use Rattle.cache.proofs.State.texts_are_sound.Goals as goal

pub returns : goal.returns
unfolding sound_tables tables_sound queries_sound updates_sound
returns c =
    let s = c.args.self.now in
    let few : leb (length (take s.table_count s.tables)) 8 ≡ true = le-leb _ 8 (omega (arith, length-take s.table_count s.tables, c.used_tables-used.ensures.size)) in
    rw (
      c.areas.ensures,
      c.rows_fit-rows.ensures,
      c.tables_are_sound-named.ensures,
      c.queries_are_sound-asked.ensures,
      c.updates_are_sound-changing.ensures,
      c.used_tables-used.ensures.first,
      c.used_queries-queries.ensures.first,
      c.used_updates-updates.ensures.first,
      few,
    ) refl
