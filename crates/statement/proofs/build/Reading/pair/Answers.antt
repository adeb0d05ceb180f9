use Rattle.std.proofs.Common.{refl}
use Rattle.statement.specs.declared.Refusal.TheVariants.{Unknown}
use Rattle.statement.proofs.Assembled.{none-there, one-there, one-number, one-columns, one-name, pair-none, pair-some}
use Rattle.statement.proofs.Settled.{none-is}
use Rattle.statement.proofs.build.Reading.pair.Goals as goal

pub returns-in_err-second : goal.returns-in_err-second
returns-in_err-second c =
    let a = c.args in
    let r = a.self.now in
    let n = c.name_at-name.ensures in
    let u = none-is Unknown c.find.result c.from_residual.result c.in_err-second.field-0.0 c.in_err-second.ensures.value c.from_residual.ensures.1 in
    pair-none r.text.now r.items.now r.nodes.now r.e _ _ a.first.now.table.now a.place a.first.now.number _ (none-there r.text.now a.place a.beside.now.tables.now _ n _ c.find.ensures u.0) u.1

pub returns : goal.returns
returns c =
    let a = c.args in
    let r = a.self.now in
    let s = r.text.now in
    let p = a.place in
    let ts = a.beside.now.tables.now in
    let n = c.name_at-name.ensures in
    let f = c.find.ensures in
    let x = c.in_ok-second.second in
    let k = c.in_ok-second.ensures.ok_part in
    pair-some s r.items.now r.nodes.now r.e _ _ a.first.now.table.now p a.first.now.number _ x.table.now x.number _ c.select.ensures refl (one-there s p ts _ n _ f x k) (one-number s p ts _ n _ f x k)
    (one-columns s p ts _ n _ f x k) (one-name s p ts _ n _ f x k)
