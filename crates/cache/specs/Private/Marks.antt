-- Which held slots an update invalidates, as the code marks them beside those that are marked already: each joint clause of a query and the update once, and beside it every held key of that query.
-- proofs/Returns/SlotsMatched shows that the slots marked are those whose key the update matches, and SlotsDropped that of them those are dropped whose answer it reaches. Assumes nothing: these are definitions.
use Rattle.std.specs.Prelude.{Option, Bool, true, false, ◌&&◌, cond, List, [], ◌∷◌, map, ℕ, ◌%◌, eqb, ℤ, get_or, set, replicate}
use Rattle.lists.specs.Lists.{any, from}
use Rattle.meaning.specs.Limits.{most_queries, most_slots}
use Rattle.statement.specs.declared.Table.{Table}
use Rattle.statement.specs.declared.Query.{Query}
use Rattle.statement.specs.declared.Update.{Update}
use Rattle.statement.specs.Compiled.{no_query}
use Rattle.table.specs.Changed.{removal_of}
use Rattle.pattern.specs.declared.Pattern.{Pattern}
use Rattle.pattern.specs.Stored.{clause_total, pattern_at, agrees_stored, reaches_stored}
use Rattle.pattern.specs.Private.Flat.{clause_agrees}
use Rattle.slots.specs.declared.Key.{Key}
use Rattle.slots.specs.declared.SlotList.{SlotList}
use Rattle.slots.specs.Keys.{values_of, slot_key, held_keys, held_slots}
use Rattle.slots.specs.Order.{is_marked}
use Rattle.cache.specs.Gives.{is_pushing}

-- marks with those members of a list marked that pass the test
abbrev pub marked : (ℕ → Bool) → List ℕ → List Bool → List Bool
marked p [] marks = marks
marked p (x ∷ xs) marks = marked p xs (cond (p x) (set marks x true) marks)

-- the same for each of some tests
abbrev pub marked_each : List (ℕ → Bool) → List ℕ → List Bool → List Bool
marked_each [] xs marks = marks
marked_each (p ∷ ps) xs marks = marked_each ps xs (marked p xs marks)

-- the key in the slot x is of query q and agrees with the pattern
abbrev pub agrees_at : List Key → ℕ → Pattern → ℕ → Bool
agrees_at keys q p x = eqb (slot_key keys x).query q && agrees_stored p (values_of (slot_key keys x))

-- the same of a clause: its pattern, if it has one, is filled with the update's values
abbrev pub clause_at : List Key → ℕ → List ℤ → Option Pattern → ℕ → Bool
clause_at keys q us o x = eqb (slot_key keys x).query q && clause_agrees us (values_of (slot_key keys x)) o

-- the patterns of the clauses, with the update's values
abbrev pub clause_tests : List Key → ℕ → Query → Update → List ℤ → List (ℕ → Bool)
clause_tests keys q query u us = map (λ (i : ℕ). clause_at keys q us (pattern_at query u i)) (from 0 (clause_total query u))

abbrev pub query_marks : List Key → SlotList → ℕ → Query → Update → List ℤ → List Bool → List Bool
query_marks keys s q query u us marks = marked_each (clause_tests keys q query u us) (held_slots s) marks

-- whether a query holds an answer
abbrev pub holds_answer : List Key → SlotList → ℕ → Bool
holds_answer keys s q = any (λ (k : Key). eqb k.query q) (held_keys keys s)

-- the queries of these numbers, those that hold an answer
abbrev pub marks_over : List Key → SlotList → List Query → Update → List ℤ → List ℕ → List Bool → List Bool
marks_over keys s queries u us [] marks = marks
marks_over keys s queries u us (q ∷ qs) marks =
    marks_over keys s queries u us qs (cond (holds_answer keys s q) (query_marks keys s q (get_or queries q no_query) u us marks) marks)

unfoldable pub marks_of : List Key → SlotList → List Query → ℕ → Update → List ℤ → List Bool → List Bool
marks_of keys s queries n u us marks = marks_over keys s queries u us (from 0 n) marks

-- the matches of an update of the table t, whose area starts there: its own and, where it pushes a row out, beside them those of the removal of that row
unfoldable pub marks_judged : List Key → SlotList → List Query → ℕ → Update → Table → ℕ → List ℤ → List ℤ → List Bool
marks_judged keys s queries n u t start cells us =
    let marks = marks_of keys s queries n u us (replicate most_slots false) in
    cond (is_pushing t u) (marks_of keys s queries n (removal_of u.table t start cells) us marks) marks

-- ---- A.7: of the slots matched those are dropped whose answer is reached

-- the update reaches the answer in the slot x, in a table of so many columns
abbrev pub reaches_at : List Key → List Query → ℕ → List ℤ → Update → ℕ → Bool
reaches_at keys queries width us v x =
    let k = slot_key keys x in
    reaches_stored width (get_or queries (k.query % most_queries) no_query) v us (values_of k)

-- and the slot is matched
abbrev pub reached_at : List Key → List Query → ℕ → List ℤ → Update → List Bool → ℕ → Bool
reached_at keys queries width us v matched x = is_marked matched x && reaches_at keys queries width us v x

-- the slots matched that the update reaches, or the removal where it pushes a row out
unfoldable pub marks_both : List Key → SlotList → List Query → ℕ → Update → Table → ℕ → List ℤ → List ℤ → List Bool
marks_both keys s queries n u t start cells us =
    let matched = marks_judged keys s queries n u t start cells us in
    let none = replicate most_slots false in
    let out = marked (reached_at keys queries t.count us (removal_of u.table t start cells) matched) (held_slots s) none in
    marked (reached_at keys queries t.count us u matched) (held_slots s) (cond (is_pushing t u) out none)
