-- What a call gives, read as the records of `Calls`: the number of its refusal or 0, and the numbers of what it gives, 0 where it is refused. Assumes nothing: these are
-- definitions.
use Rattle.std.specs.Prelude.{Result, Ok, Err, ℕ}
use Rattle.statement.specs.declared.Refusal.{Refusal}
use Rattle.statement.specs.Refusals.{number_of, number_in}
use Rattle.statement.specs.Compiled.{of_table, of_query, of_update}
use Rattle.cache.specs.declared.Kind as K
use Rattle.cache.specs.declared.Kind.TheVariants as KV
use Rattle.cache.specs.declared.Source as S
use Rattle.cache.specs.declared.Source.TheVariants as SV
use Rattle.cache.specs.declared.Added as A
use Rattle.cache.specs.declared.Answer as N
use Rattle.cache.specs.declared.Changed as C
use Rattle.cache.specs.declared.Proposed as D
use Rattle.cache.specs.declared.State.{State}
use Rattle.cache.specs.Calls.{Opened, Added, Asked, Updated, Flushed, Proposed}

abbrev pub kind_number : K.Kind → ℕ
kind_number KV.Table = of_table
kind_number KV.Query = of_query
kind_number KV.Update = of_update

-- 1 for a cached answer
abbrev pub source_number : S.Source → ℕ
source_number SV.New = 0
source_number SV.Cached = 1

abbrev pub kind_told : Result A.Added Refusal → ℕ
kind_told (Ok a) = kind_number a.kind
kind_told (Err r) = 0

abbrev pub number_told : Result A.Added Refusal → ℕ
number_told (Ok a) = a.number
number_told (Err r) = 0

abbrev pub source_told : Result N.Answer Refusal → ℕ
source_told (Ok a) = source_number a.source
source_told (Err r) = 0

abbrev pub scanned_told : Result N.Answer Refusal → ℕ
scanned_told (Ok a) = a.scanned
scanned_told (Err r) = 0

abbrev pub size_told : Result N.Answer Refusal → ℕ
size_told (Ok a) = a.size
size_told (Err r) = 0

abbrev pub rows_told : Result C.Changed Refusal → ℕ
rows_told (Ok c) = c.rows
rows_told (Err r) = 0

abbrev pub invalidated_told : Result C.Changed Refusal → ℕ
invalidated_told (Ok c) = c.invalidated
invalidated_told (Err r) = 0

abbrev pub opened_as : Result Unit Refusal → State → Opened
opened_as r s = record { refusal = number_in r; state = s }

abbrev pub added_as : Result A.Added Refusal → State → Added
added_as r s = record { refusal = number_in r; kind = kind_told r; number = number_told r; state = s }

abbrev pub asked_as : Result N.Answer Refusal → State → Asked
asked_as r s = record { refusal = number_in r; cached = source_told r; scanned = scanned_told r; size = size_told r; state = s }

abbrev pub updated_as : Result C.Changed Refusal → State → Updated
updated_as r s = record { refusal = number_in r; rows = rows_told r; invalidated = invalidated_told r; state = s }

abbrev pub proposed_as : Result D.Proposed Refusal → State → Proposed
proposed_as (Ok p) s = record { refusal = 0; rows = p.rows; state = s }
proposed_as (Err r) s = record { refusal = number_of r; rows = 0; state = s }

abbrev pub flushed_as : Result Unit Refusal → State → Flushed
flushed_as r s = record { refusal = number_in r; state = s }
