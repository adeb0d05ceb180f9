use Rattle.std.proofs.Common.{sym, ap, ◌∙◌, map, arith, rules}
use Rattle.std.proofs.lemmas.Simd.{map-map}
use Rattle.statement.specs.declared.sentences.Item.{Item}
use Rattle.statement.specs.Private.Places.{column_on}
use Rattle.statement.specs.Compiled.{padded}
use Rattle.statement.specs.Private.Built.{dotted, place_in, short_column}
use Rattle.statement.proofs.build.Reading.listed_places.Goals as goal

pub placed-requires : goal.placed-requires
placed-requires c = λ k h. (search rules, (search rules, (search rules, (search rules depth 30, (omega arith, (c.args.self.now.fits.listed, (search rules, search rules)))))))

pub returns : goal.returns
returns c =
    let s = c.args.self.now.text.now in
    let items = c.args.self.now.items.now in
    let d = dotted c.args.scope.now in
    let f = place_in c.args.scope.now in
    c.placed.ensures
    ∙ ap (padded 8 0)
    (sym (ap (map f) (map-map (short_column d) (λ (i : Item). column_on d s i.name) items) ∙ map-map f (λ (i : Item). short_column d (column_on d s i.name)) items))
