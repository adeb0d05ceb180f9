-- Every row of the table of specs/Paired holds. Assumes nothing.
use Rattle.lists.specs.Lists.{All, nil, cons}
use Rattle.meaning.specs.Paired.{Holds, table, holds-0, holds-1, holds-2, holds-3, holds-4, holds-5, holds-6, holds-7, holds-8, holds-9, holds-10, holds-11}

pub all_hold : All Holds table
all_hold =
    cons holds-0
    (cons holds-1
    (cons holds-2
    (cons holds-3
    (cons holds-4
    (cons holds-5
    (cons holds-6
    (cons holds-7
    (cons holds-8
    (cons holds-9
    (cons holds-10
    (cons holds-11
    nil)))))))))))
