-- Assumes nothing.
use mathlib.Core.Path.{sym, ap}
use Rattle.std.specs.Prelude.{Ok}
use Rattle.statement.specs.declared.Statement.{Statement}
use Rattle.statement.specs.Compiled.{compiled}
use Rattle.cache.specs.Gives.{added_table, added_query, added_update}
use Rattle.cache.proofs.Returns.Adding.{added-by}
use Rattle.cache.proofs.State.put.Goals as goal

pub returns-in-Table : goal.returns-in-Table
returns-in-Table c =
    let s = c.args.self.now in
    let e = c.in-Table.is in
    let put = c.put_behind.ensures in
    added-by s (compiled (Ok c.args.statement)) _ 1 (ap (λ (x : Statement). (compiled (Ok x)).kind) e)
    (rw (put.all, put.count, put.place, c.none-self.ensures) (ap (added_table s) (sym (ap (λ (x : Statement). (compiled (Ok x)).table) e))))

pub returns-in-Query : goal.returns-in-Query
returns-in-Query c =
    let s = c.args.self.now in
    let e = c.in-Query.is in
    let put = c.put_behind-in-Query.ensures in
    added-by s (compiled (Ok c.args.statement)) _ 2 (ap (λ (x : Statement). (compiled (Ok x)).kind) e)
    (rw (put.all, put.count, put.place, c.none-self.ensures) (ap (added_query s) (sym (ap (λ (x : Statement). (compiled (Ok x)).query) e))))

pub returns-in-Update : goal.returns-in-Update
returns-in-Update c =
    let s = c.args.self.now in
    let e = c.in-Update.is in
    let put = c.put_behind-in-Update.ensures in
    added-by s (compiled (Ok c.args.statement)) _ 3 (ap (λ (x : Statement). (compiled (Ok x)).kind) e)
    (rw (put.all, put.count, put.place, c.none-self.ensures) (ap (added_update s) (sym (ap (λ (x : Statement). (compiled (Ok x)).update) e))))
