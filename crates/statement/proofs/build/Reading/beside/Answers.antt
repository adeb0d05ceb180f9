use Rattle.statement.specs.declared.Refusal.TheVariants.{Unknown}
use Rattle.statement.proofs.Assembled.{none-there, one-there, one-number, one-columns, one-name, beside-none, beside-some, beside-pair}
use Rattle.statement.proofs.Settled.{none-is}
use Rattle.statement.proofs.build.Reading.beside.Goals as goal

pub returns-in_err-found : goal.returns-in_err-found
returns-in_err-found c =
    let r = c.args.self.now in
    let b = c.args.beside.now in
    let n = c.name_at-name.ensures in
    let u = none-is Unknown c.find.result c.from_residual.result c.in_err-found.field-0.0 c.in_err-found.ensures.value c.from_residual.ensures.1 in
    beside-none r.text.now r.items.now r.nodes.now r.e _ b.queries b.updates _ (none-there r.text.now r.e.table b.tables.now _ n _ c.find.ensures u.0) u.1

pub returns-in-Pair : goal.returns-in-Pair
returns-in-Pair c =
    let r = c.args.self.now in
    let b = c.args.beside.now in
    let s = r.text.now in
    let p = r.e.table in
    let ts = b.tables.now in
    let n = c.name_at-name.ensures in
    let f = c.find.ensures in
    let x = c.in_ok-found.found in
    let k = c.in_ok-found.ensures.ok_part in
    beside-pair s r.items.now r.nodes.now r.e _ b.queries b.updates x.table.now x.number (one-there s p ts _ n _ f x k) (one-number s p ts _ n _ f x k) (one-columns s p ts _ n _ f x k) _
    c.in-Pair.second c.pair.ensures c.in-Pair.is (one-name s p ts _ n _ f x k)

pub returns-in_default : goal.returns-in_default
returns-in_default c =
    let r = c.args.self.now in
    let b = c.args.beside.now in
    let s = r.text.now in
    let p = r.e.table in
    let ts = b.tables.now in
    let n = c.name_at-name.ensures in
    let f = c.find.ensures in
    let x = c.in_ok-found.found in
    let k = c.in_ok-found.ensures.ok_part in
    beside-some s r.items.now r.nodes.now r.e _ b.queries b.updates x.table.now x.number (one-there s p ts _ n _ f x k) (one-number s p ts _ n _ f x k) (one-columns s p ts _ n _ f x k) _
    c.form.ensures c.in_default.not-Pair
