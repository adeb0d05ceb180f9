-- The claims of specs/Demand about what texts compile to, and all claims together. Assumes nothing.
use mathlib.Core.Path.{◌≡◌, refl, sym, subst}
use mathlib.Core.Option.{some}
use mathlib.Core.List.{List, map}
use lib.ListN.{take}
use Rattle.meaning.specs.Condition.{mapped_in}
use Rattle.meaning.specs.Grammar as G
use Rattle.meaning.specs.Grammar.{Sentence, comparison, items}
use Rattle.meaning.specs.Reader.{sentence}
use Rattle.meaning.specs.Names.{Schema, columns_of, position, pair_place}
use Rattle.meaning.specs.Statement.{setting_marks, resolved_where, statement_of}
use Rattle.statement.specs.Compiled.{Compiled, struct_of, compiled_of}
use Rattle.statement.specs.Catalog.{schemas_of}
use Rattle.statement.specs.Sound.{AgreesCondition}
use Rattle.statement.proofs.SoundCompiled.{query-agrees, update_agrees, compiled-is}
use Rattle.table.specs.Demand.{PositionsFound, Demands}
use Rattle.table.proofs.DemandRings.{reads_oldest_first, full_ring_pushes, new_row_takes_cells, delete_lays_oldest_first, update_stays_in_place}
use Rattle.table.proofs.DemandCells.{delete_clears, other_cells_stay}
use Rattle.table.proofs.Demand.{select_reads_back, select_means, rows-read, row_test_means, select_pair_reads_back, select_pair_means, too_many_exactly_if, refused_leaves_buffer, pair_rows_read, pair_reads_at_most, pair_test_means}

pub positions_found : PositionsFound
unfolding struct_of statement_of
positions_found text tables used queries updates cells h =
    record {
      selected = λ cs t w e. subst (λ (r : Compiled). take r.query.count r.query.selected ≡ map (position (columns_of ts t)) (items cs)) (sym (is _ e)) (query-agrees ts (G.select cs t w) _ refl).selected_are;
      asked = λ cs t w e. subst (λ (r : Compiled). AgreesCondition r.query.condition (resolved_where (position (columns_of ts t)) 0 (mapped_in comparison w))) (sym (is _ e)) (query-agrees ts (G.select cs t w) _ refl).condition_is;
      pair_selected = λ cs t u w e. subst (λ (r : Compiled). take r.query.count r.query.selected ≡ map (pair_place t (columns_of ts t) u (columns_of ts u)) (items cs)) (sym (is _ e)) (query-agrees ts (G.pair cs t u w) _ refl).selected_are;
      pair_asked = λ cs t u w e. subst (λ (r : Compiled). AgreesCondition r.query.condition (resolved_where (pair_place t (columns_of ts t) u (columns_of ts u)) 0 (mapped_in comparison w))) (sym (is _ e)) (query-agrees ts (G.pair cs t u w) _ refl).condition_is;
      updated = λ t ss w e. subst (λ (r : Compiled). AgreesCondition r.update.condition (resolved_where (position (columns_of ts t)) (setting_marks (items ss)) (mapped_in comparison w))) (sym (is _ e)) (update_agrees ts (G.update t ss w) _ refl).condition_is;
      deleted = λ t w e. subst (λ (r : Compiled). AgreesCondition r.update.condition (resolved_where (position (columns_of ts t)) 0 (mapped_in comparison w))) (sym (is _ e)) (update_agrees ts (G.delete t w) _ refl).condition_is;
    }
  where
    ts : List Schema
    ts = schemas_of tables used

    is : (s : Sentence) → sentence text ≡ some s → compiled_of text tables used queries updates cells ≡ struct_of (statement_of (schemas_of tables used) s)
    is s e = compiled-is text tables used queries updates cells s e h

pub demands : Demands
demands = record {
  select_reads_back = select_reads_back;
  select_means = select_means;
  rows-read = rows-read;
  positions_found = positions_found;
  row_test_means = row_test_means;
  select_pair_reads_back = select_pair_reads_back;
  select_pair_means = select_pair_means;
  too_many_exactly_if = too_many_exactly_if;
  refused_leaves_buffer = refused_leaves_buffer;
  pair_rows_read = pair_rows_read;
  pair_reads_at_most = pair_reads_at_most;
  pair_test_means = pair_test_means;
  reads_oldest_first = reads_oldest_first;
  full_ring_pushes = full_ring_pushes;
  new_row_takes_cells = new_row_takes_cells;
  delete_lays_oldest_first = delete_lays_oldest_first;
  update_stays_in_place = update_stays_in_place;
  delete_clears = delete_clears;
  other_cells_stay = other_cells_stay;
}
