-- The row, written in its place.
use Rattle.std.proofs.Common.{◌≡◌, ℕ, ◌+◌, ◌-◌, ◌*◌, ◌++◌, List, ℤ, length, take, drop, sym, ap, ap₂, ◌∙◌, arith}
use Rattle.std.proofs.lemmas.List.{drop-drop}
use borrow.Rule.Slice.PartMut.{put_mid}
use mathlib.Core.List.{append_assoc}
use Rattle.lists.specs.Lists.{written}
use Rattle.meaning.proofs.Cells.{insert-stored}
use Rattle.table.specs.Private.Changing.{row_of}
use Rattle.table.proofs.Assigning.{row-wide}
use Rattle.table.proofs.changes.insert_row.Goals as goal

placed : (at w : ℕ) (area row : List ℤ) → length row ≡ w → put_mid at (at + w - at) area row ≡ written area at row
placed at w area row e =
    let n : at + w - at ≡ length row = omega arith in
    ap (λ (k : ℕ). take at area ++ (row ++ drop k (drop at area))) n
    ∙ ap (λ (d : List ℤ). take at area ++ (row ++ d)) (drop-drop (length row) at area)
    ∙ sym (append_assoc (take at area) row (drop (at + length row) area))

pub returns : goal.returns
returns c =
    let a = c.args in
    let w = length a.settings.now in
    let row = row_of a.settings.now a.values.now in
    let wide : length row ≡ w = row-wide a.values.now a.settings.now in
    ap₂ (λ (m : ℕ) (r : List ℤ). put_mid (m * w) (m * w + w - m * w) a.area.now r) c.from.ensures c.put_values.ensures
    ∙ placed (a.n * w) w a.area.now row wide
    ∙ insert-stored w a.n a.area.now row wide c.requires
