use Rattle.std.proofs.Common.{sym, ap, ◌∙◌, map}
use Rattle.std.proofs.lemmas.Simd.{map-map}
use Rattle.statement.specs.declared.Name.{Name}
use Rattle.statement.specs.declared.sentences.Item.{Item}
use Rattle.statement.specs.Private.Places.{name_on}
use Rattle.statement.specs.Compiled.{padded, name_struct, no_name}
use Rattle.statement.specs.Private.Built.{short_name}
use Rattle.statement.proofs.Empty.{name-empty}
use Rattle.statement.proofs.build.Reading.listed_names.Goals as goal

pub returns : goal.returns
returns c =
    let s = c.args.self.now.text.now in
    let items = c.args.self.now.items.now in
    c.placed.ensures
    ∙ ap (λ (d : Name). padded 8 d (map (λ (i : Item). name_struct (short_name (name_on s i.name))) items)) (name-empty c.default.result c.default.ensures)
    ∙ ap (padded 8 no_name)
    (sym (ap (map name_struct) (map-map short_name (λ (i : Item). name_on s i.name) items) ∙ map-map name_struct (λ (i : Item). short_name (name_on s i.name)) items))
