-- Assumes nothing.
use borrow.Author.Rules.{rules}
use mathlib.Core.Path.{sym, ◌∙◌}
use Rattle.cache.proofs.Invariant.TypesSay.{tables, queries, updates, keys, note}
use Rattle.cache.proofs.sealed.SealedState.of.Goals as goal

pub invariant_of-result : goal.invariant_of-result
invariant_of-result c =
    let s = c.args.state in
    let f = c.well_formed.0.1.1 in
    record {
      typed = record {
        eight_tables = search rules;
        sixteen_queries = search rules;
        sixteen_updates = search rules;
        keys-64 = search rules;
        lengths-64 = search rules;
        order-64 = search rules;
        tables_fit = tables s.tables f.0.0 f.0.1.1;
        queries_fit = queries s.queries f.1.0.0 f.1.0.1.1;
        updates_fit = updates s.updates f.1.1.0.0 f.1.1.0.1.1;
        keys_fit = keys s.keys f.1.1.1.0.0 f.1.1.1.0.1.1;
        note_fits = note s.pending.there s.pending.note (search rules);
      };
      sound = sym c.is_sound.ensures ∙ c.if-not-is_sound.false;
    }
