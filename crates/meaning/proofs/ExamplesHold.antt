-- Every row of the tables of specs/Examples holds. Assumes nothing.
use Rattle.lists.specs.Lists.{All, nil, cons}
use Rattle.meaning.specs.Examples.{Holds, examples, slips, starred-0, starred-1, starred-2, starred-3, starred-4, starred-5, starred-6, starred-7, starred-8, starred-9, caught-0, caught-1, caught-2, caught-3, caught-4, caught-5, caught-6, caught-7, caught-8}

pub starred : All Holds examples
starred =
    cons starred-0
    (cons starred-1
    (cons starred-2
    (cons starred-3
    (cons starred-4
    (cons starred-5
    (cons starred-6
    (cons starred-7
    (cons starred-8
    (cons starred-9
    nil)))))))))

pub caught : All Holds slips
caught = cons caught-0 (cons caught-1 (cons caught-2 (cons caught-3 (cons caught-4 (cons caught-5 (cons caught-6 (cons caught-7 (cons caught-8 nil))))))))
