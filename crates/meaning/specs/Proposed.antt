-- Look before you write, request A.8, by computation: what proposals, commits and withdrawals get, what leaves the note, and what removes it. Assumes nothing.
use Rattle.std.specs.Prelude.{◌≡◌, refl, List, [], ◌∷◌, ◌++◌, map, ℕ}
use Rattle.std.proofs.Math.Option.{some}
use Prim.Native.String.{String}
use Rattle.lists.specs.Lists.{bytes}
use Rattle.meaning.specs.Record.{encode}
use Rattle.meaning.specs.Plain.{Lengths, Plain, table_at, opened, Out, refused, added, answered, rows, flushed, withdrawn, table_kind, query_kind, update_kind, step, after, outs}
use Rattle.meaning.specs.Call.{Call, add, ask, change, flush, propose, commit, withdraw}
use Rattle.meaning.specs.Examples.{computing, numbers}

abbrev texts : List String
texts =
    "TABLE stage (site, level) ROWS 3"
    ∷ "TABLE last (level) RING 1"
    ∷ "INSERT INTO stage VALUES (?, ?)"
    ∷ "UPDATE stage SET level = ? WHERE site = ?"
    ∷ "DELETE FROM stage WHERE level > ?"
    ∷ "INSERT INTO last VALUES (?)"
    ∷ "SELECT level FROM stage WHERE site = ?"
    ∷ []

abbrev lent : Lengths
lent = record { cells = 8; memory = 0 }

abbrev ADD : String → Call ℕ
ADD t = add (bytes t)

abbrev ASK : ℕ → Call ℕ
ASK k = ask (record { query = 0; values = numbers (k ∷ []) }) 65536

-- the updates: INSERT of a row, UPDATE of a level at a site, DELETE of what is above, INSERT into the ring
abbrev insert : ℕ → ℕ → ℕ × List ℕ
insert a b = (0, a ∷ b ∷ [])

abbrev level : ℕ → ℕ → ℕ × List ℕ
level b a = (1, b ∷ a ∷ [])

abbrev above : ℕ → ℕ × List ℕ
above b = (2, b ∷ [])

abbrev last : ℕ → ℕ × List ℕ
last b = (3, b ∷ [])

abbrev DO : ℕ × List ℕ → Call ℕ
DO u = change u.0 (numbers u.1)

abbrev PROPOSE : ℕ × List ℕ → Call ℕ
PROPOSE u = propose u.0 (numbers u.1)

-- rows (7, 120) and (7, 121) in stage, and (5) in the ring
abbrev begun : Plain
begun =
    after lent (opened (record { lent = lent; slots = 0; slot_bytes = 8 }))
    (map ADD texts ++ (DO (insert 7 120) ∷ DO (insert 7 121) ∷ DO (last 5) ∷ []))

-- calls, and what each gets there
abbrev Gets : List (Call ℕ × Out) → Type 0
Gets xs = outs lent begun (map (λ (x : Call ℕ × Out). x.0) xs) ≡ map (λ (x : Call ℕ × Out). x.1) xs

abbrev levels : List ℕ → Out
levels ns = answered (encode 1 (map (λ (n : ℕ). numbers (n ∷ [])) ns))

-- a proposal changes no row, questions may come between, the commit does it, and does it once
pub looked : Gets ((PROPOSE (level 5 7), rows 2)
    ∷ (ASK 7, levels (120 ∷ 121 ∷ []))
    ∷ (commit, rows 2)
    ∷ (ASK 7, levels (5 ∷ 5 ∷ []))
    ∷ (commit, refused 17)
    ∷ (withdraw, refused 17)
    ∷ [])
unfolding computing
looked = refl

-- "changes nothing but the pending note": the number and the values of the proposal
pub noted :
    (step lent begun (PROPOSE (level 5 7))).0
    ≡ record begun { pending = some (record { update = 1; values = numbers (5 ∷ 7 ∷ []) }) }
unfolding computing
noted = refl

-- refused calls leave the note: proposals by 10 and 11, questions by 10 and 13, an update by 11, texts by 4 and 9
pub refused_leave : Gets ((PROPOSE (insert 8 9), rows 1)
    ∷ (PROPOSE (9, []), refused 10)
    ∷ (PROPOSE (2, []), refused 11)
    ∷ (ask (record { query = 1; values = [] }) 65536, refused 10)
    ∷ (ask (record { query = 0; values = numbers (7 ∷ []) }) 3, refused 13)
    ∷ (DO (1, 5 ∷ []), refused 11)
    ∷ (ADD "SELECT", refused 4)
    ∷ (ADD "TABLE more (a, b) ROWS 1", refused 9)
    ∷ (commit, rows 1)
    ∷ [])
unfolding computing
refused_leave = refl

-- 12: an INSERT into a full table is not proposed, and one that is refused leaves the note; the number of its values is looked at before; a DELETE counts what it would delete
pub full_table : Gets ((DO (insert 8 9), rows 1)
    ∷ (PROPOSE (above 100), rows 2)
    ∷ (PROPOSE (insert 8 9), refused 12)
    ∷ (DO (insert 8 9), refused 12)
    ∷ (PROPOSE (0, 8 ∷ []), refused 11)
    ∷ (DO (0, 8 ∷ []), refused 11)
    ∷ (commit, rows 2)
    ∷ (PROPOSE (insert 8 9), rows 1)
    ∷ [])
unfolding computing
full_table = refl

-- into a full ring it is, with one row
pub full_ring : Gets ((PROPOSE (last 6), rows 1) ∷ (commit, rows 1) ∷ (commit, refused 17) ∷ [])
    × ((table_at (after lent begun (PROPOSE (last 6) ∷ [])) 1).rows ≡ numbers (5 ∷ []) ∷ [])
    × ((table_at (after lent begun (PROPOSE (last 6) ∷ commit ∷ [])) 1).rows ≡ numbers (6 ∷ []) ∷ [])
unfolding computing
full_ring = (refl, refl, refl)

-- "A new proposal replaces the note", an equal one too
pub replaced : Gets ((PROPOSE (above 0), rows 2)
    ∷ (PROPOSE (level 5 8), rows 0)
    ∷ (PROPOSE (above 120), rows 1)
    ∷ (PROPOSE (above 120), rows 1)
    ∷ (commit, rows 1)
    ∷ (ASK 7, levels (120 ∷ []))
    ∷ (commit, refused 17)
    ∷ [])
unfolding computing
replaced = refl

-- "a withdrawal, a flush .. remove it"
pub withdrawn_or_flushed : Gets ((PROPOSE (above 0), rows 2)
    ∷ (withdraw, withdrawn)
    ∷ (withdraw, refused 17)
    ∷ (commit, refused 17)
    ∷ (PROPOSE (above 0), rows 2)
    ∷ (flush, flushed)
    ∷ (commit, refused 17)
    ∷ [])
unfolding computing
withdrawn_or_flushed = refl

-- "an accepted update", also where it changes no row
pub updated : Gets ((PROPOSE (level 5 7), rows 2)
    ∷ (DO (level 5 7), rows 2)
    ∷ (commit, refused 17)
    ∷ (PROPOSE (level 6 7), rows 2)
    ∷ (DO (above 500), rows 0)
    ∷ (commit, refused 17)
    ∷ (ASK 7, levels (5 ∷ 5 ∷ []))
    ∷ [])
unfolding computing
updated = refl

-- the rows that an UPDATE gives are those that it matches, also where they have the value already: one of the two, then both
pub matched : Gets ((PROPOSE (level 120 7), rows 2)
    ∷ (DO (level 120 7), rows 2)
    ∷ (PROPOSE (level 120 7), rows 2)
    ∷ (commit, rows 2)
    ∷ (ASK 7, levels (120 ∷ 120 ∷ []))
    ∷ [])
unfolding computing
matched = refl

-- "an accepted text of any kind": a question, an update, a table
pub text_added : Gets ((PROPOSE (above 0), rows 2)
    ∷ (ADD "SELECT site FROM stage", added query_kind 1)
    ∷ (commit, refused 17)
    ∷ (PROPOSE (above 0), rows 2)
    ∷ (ADD "DELETE FROM stage", added update_kind 4)
    ∷ (commit, refused 17)
    ∷ (PROPOSE (above 0), rows 2)
    ∷ (ADD "TABLE more (a) ROWS 1", added table_kind 2)
    ∷ (withdraw, refused 17)
    ∷ [])
unfolding computing
text_added = refl

-- 17 is "looked for after 2", and 2 leaves the note
abbrev other : Lengths
other = record { cells = 7; memory = 0 }

abbrev noting : Plain
noting = after lent begun (PROPOSE (above 0) ∷ [])

pub lengths_first :
    (outs other begun (commit ∷ withdraw ∷ PROPOSE (9, []) ∷ []) ≡ refused 2 ∷ refused 2 ∷ refused 2 ∷ [])
    × (outs other noting (commit ∷ withdraw ∷ flush ∷ []) ≡ refused 2 ∷ refused 2 ∷ refused 2 ∷ [])
    × ((after other noting (commit ∷ withdraw ∷ PROPOSE (last 6) ∷ flush ∷ [])).pending ≡ noting.pending)
unfolding computing
lengths_first = (refl, refl, refl)
