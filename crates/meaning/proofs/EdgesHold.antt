-- Every row of the table of specs/Edges holds. Assumes nothing.
use Rattle.lists.specs.Lists.{All, nil, cons}
use Rattle.meaning.specs.Edges.{Holds, table, columns-hold, lists-hold, rows-hold, marks-hold, comparisons-hold, depths-hold, beside-hold, deepest-hold, names-hold, named-hold, constants-hold, texts-hold, words-hold, spaces-hold, others-hold, digits-hold, signs-hold, conditions-hold, forms-hold, before-hold, unknown-hold, twice-hold, counted-hold, cells-enough-hold, cells-short-hold, cells-left-hold, eighth-table-hold, ninth-table-hold, sixteenth-question-hold, seventeenth-question-hold, sixteenth-update-hold, seventeenth-update-hold, dots-hold, bare-hold, elsewhere-hold, from-two-hold, pair-limits-hold, pair-names-hold, long-names-hold, third-hold, same-table-hold, sixteenth-pair-hold, seventeenth-pair-hold, capitals-hold, exact-hold, exact-forms-hold, looked-up-hold, repeated-hold, paired-hold, ring-sizes-hold, ring-or-rows-hold, ring-words-hold, ring-forms-hold, ring-cells-hold, ring-left-hold, null-words-hold, null-tests-hold, no-null-tests-hold, null-limits-hold, null-pairs-hold}

pub all_hold : All Holds table
all_hold =
    cons columns-hold
    (cons lists-hold
    (cons rows-hold
    (cons marks-hold
    (cons comparisons-hold
    (cons depths-hold
    (cons beside-hold
    (cons deepest-hold
    (cons names-hold
    (cons named-hold
    (cons constants-hold
    (cons texts-hold
    (cons words-hold
    (cons spaces-hold
    (cons others-hold
    (cons digits-hold
    (cons signs-hold
    (cons conditions-hold
    (cons forms-hold
    (cons before-hold
    (cons unknown-hold
    (cons twice-hold
    (cons counted-hold
    (cons cells-enough-hold
    (cons cells-short-hold
    (cons cells-left-hold
    (cons eighth-table-hold
    (cons ninth-table-hold
    (cons sixteenth-question-hold
    (cons seventeenth-question-hold
    (cons sixteenth-update-hold
    (cons seventeenth-update-hold
    (cons dots-hold
    (cons bare-hold
    (cons elsewhere-hold
    (cons from-two-hold
    (cons pair-limits-hold
    (cons pair-names-hold
    (cons long-names-hold
    (cons third-hold
    (cons same-table-hold
    (cons sixteenth-pair-hold
    (cons seventeenth-pair-hold
    (cons capitals-hold
    (cons exact-hold
    (cons exact-forms-hold
    (cons looked-up-hold
    (cons repeated-hold
    (cons paired-hold
    (cons ring-sizes-hold
    (cons ring-or-rows-hold
    (cons ring-words-hold
    (cons ring-forms-hold
    (cons ring-cells-hold
    (cons ring-left-hold
    (cons null-words-hold
    (cons null-tests-hold
    (cons no-null-tests-hold
    (cons null-limits-hold
    (cons null-pairs-hold
    nil)))))))))))))))))))))))))))))))))))))))))))))))))))))))))))
