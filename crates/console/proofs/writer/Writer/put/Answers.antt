use Rattle.std.proofs.Common.{refl}
use Rattle.console.proofs.Rooms.{filled-one}
use Rattle.console.proofs.writer.Writer.put.Goals as goal

pub returns-then-self : goal.returns-then-self
returns-then-self g c =
    let e = filled-one c.args.self.now.out.now c.args.self.now.place c.args.item c.if-self.true in
    record { same = refl; place = e.1; items = e.0 }
