use Rattle.std.proofs.Common.{◌≡◌, ◌+◌, length, arith, rules}
use Rattle.statement.specs.declared.Setting.{Setting}
use Rattle.statement.specs.Compiled.{no_setting}
use Rattle.pattern.proofs.Mapped.{map-placed}
use Rattle.pattern.proofs.relevance.columns_of.Goals as goal

pub returns : goal.returns
returns c =
    let settings = c.args.settings.now in
    let n : length settings ≡ 8 = search rules in
    let m = c.map.ensures.items in
    map-placed (λ (s : Setting). c.args.from + s.column) settings c.map.result no_setting 0 (omega (arith, m.long, n)) (λ k h. let r = m.at k no_setting 0 (omega arith) in search rules)
