-- What `Typed` says of a state holds of every value of the program: the lengths of arrays, and 32 bits of numbers. Read off what a value owns (`denote`), field by field and element by
-- element. Assumes nothing.
use mathlib.Core.Path.{◌≡◌, refl, sym, ap, ◌∙◌}
use mathlib.Core.Bool.{true}
use mathlib.Core.List.{List, [], ◌∷◌}
use Prim.Native.Nat.{ℕ, zero, suc, ◌<◌}
use native.Mathlib.Omega.{arith}
use borrow.Author.Tests.{le-leb}
use lib.IntN.{ℤ, pos, negsuc}
use lib.Signed.{mag}
use lib.Dec.{leb}
use lib.ListN.{length}
use denote.Shadow.{shadow}
use denote.Array.{each}
use mir.Val.{ValOf}
use Rattle.lists.specs.Lists.{All, nil, cons}
use Rattle.lists.proofs.Bools.{and_both}
use Rattle.meaning.specs.Limits.{is_within32}
use Rattle.statement.specs.contracts.Name as N
use Rattle.statement.specs.contracts.Table as T
use Rattle.statement.specs.contracts.Comparison as C
use Rattle.statement.specs.contracts.Condition as W
use Rattle.statement.specs.contracts.Setting as S
use Rattle.statement.specs.contracts.Query as Q
use Rattle.statement.specs.contracts.Update as U
use Rattle.slots.specs.contracts.Key as K
use Rattle.statement.specs.declared.Name.{Name}
use Rattle.statement.specs.declared.Table.{Table}
use Rattle.statement.specs.declared.Comparison.{Comparison}
use Rattle.statement.specs.declared.Condition.{Condition}
use Rattle.statement.specs.declared.Setting.{Setting}
use Rattle.statement.specs.declared.Query.{Query}
use Rattle.statement.specs.declared.Update.{Update}
use Rattle.slots.specs.declared.Key.{Key}
use Rattle.statement.specs.Compiled.{new_value}
use Rattle.std.specs.Prelude.{Option as Maybe, Some, None}
use Rattle.cache.specs.declared.Note.{Note}
use Rattle.cache.specs.Sound.{note_if}
use Rattle.statement.specs.Sound.{ValueFits, ComparisonFits, ConditionFits, QueryFits, UpdateFits, NameFits, TableStructFits}

within : (z : ℤ) → mag z < 2147483648 → is_within32 z ≡ true
within (pos n) h = le-leb n 2147483647 (omega (arith, h))
within (negsuc n) h = and_both (leb n 2147483647) true (le-leb n 2147483647 (omega (arith, h))) refl

names : (ns : List Name) (vs : List (ValOf ℕ)) → shadow (each N.the_row.Denot N.the_row.own_val ns vs) → All NameFits ns
names [] vs h = nil
names (n ∷ ns) [] h = absurd h
names (n ∷ ns) (v ∷ vs) h = cons h.0.1.1.0.1.0.1 (names ns vs h.1)

table : (t : Table) (v : ValOf ℕ) → shadow (T.the_row.own_val t (v ∷ [])) → TableStructFits t
table t v h = record { eight = h.1.1.1.0.1.0.1; name_fits = h.1.1.0.1.1.0.1.0.1; columns_fit = names t.columns h.1.1.1.0.0 h.1.1.1.0.1.1 }

pub tables : (ts : List Table) (vs : List (ValOf ℕ)) → shadow (each T.the_row.Denot T.the_row.own_val ts vs) → All TableStructFits ts
tables [] vs h = nil
tables (t ∷ ts) [] h = absurd h
tables (t ∷ ts) (v ∷ vs) h = cons (table t v h.0) (tables ts vs h.1)

comparisons : (cs : List Comparison) (vs : List (ValOf ℕ)) → shadow (each C.the_row.Denot C.the_row.own_val cs vs) → All ComparisonFits cs
comparisons [] vs h = nil
comparisons (c ∷ cs) [] h = absurd h
comparisons (c ∷ cs) (v ∷ vs) h = cons (within c.left_number h.0.1.1.1.1.1.0.1, within c.right_number h.0.1.1.1.1.1.1.0.1) (comparisons cs vs h.1)

condition : (w : Condition) (v : List (ValOf ℕ)) → shadow (W.the_row.own_val w v) → ConditionFits w
condition w v h = record { eight = h.1.1.0.1.0.1; fifteen = h.1.1.1.0.1.0.1; constants = comparisons w.comparisons h.1.1.0.0 h.1.1.0.1.1 }

settings : (ss : List Setting) (vs : List (ValOf ℕ)) → shadow (each S.the_row.Denot S.the_row.own_val ss vs) → All (λ (s : Setting). ValueFits (new_value s)) ss
settings [] vs h = nil
settings (s ∷ ss) [] h = absurd h
settings (s ∷ ss) (v ∷ vs) h = cons (within s.number h.0.1.1.1.1.0.1) (settings ss vs h.1)

pub queries : (qs : List Query) (vs : List (ValOf ℕ)) → shadow (each Q.the_row.Denot Q.the_row.own_val qs vs) → All QueryFits qs
queries [] vs h = nil
queries (q ∷ qs) [] h = absurd h
queries (q ∷ qs) (v ∷ vs) h = cons (record { eight = h.0.1.1.1.0.1.0.1; condition_fits = condition q.condition _ h.0.1.1.1.1.1.1.1.1.1.0 }) (queries qs vs h.1)

pub updates : (us : List Update) (vs : List (ValOf ℕ)) → shadow (each U.the_row.Denot U.the_row.own_val us vs) → All UpdateFits us
updates [] vs h = nil
updates (u ∷ us) [] h = absurd h
updates (u ∷ us) (v ∷ vs) h =
    let f = h.0.1.1.1.1.0 in
    cons (record { eight = f.1.0.1; constants = settings u.settings f.0 f.1.1; condition_fits = condition u.condition _ h.0.1.1.1.1.1.1.1.0 }) (updates us vs h.1)

pub keys : (ks : List Key) (vs : List (ValOf ℕ)) → shadow (each K.the_row.Denot K.the_row.own_val ks vs) → All (λ (k : Key). length k.values ≡ 8) ks
keys [] vs h = nil
keys (k ∷ ks) [] h = absurd h
keys (k ∷ ks) (v ∷ vs) h = cons h.0.1.1.1.1.0.1.0.1 (keys ks vs h.1)

-- the note, if there is one
abbrev values_noted : Maybe Note → ℕ
values_noted None = 8
values_noted (Some n) = length n.values

pub note : (there : ℕ) (m : Note) → length m.values ≡ 8 → (n : Note) → note_if there m ≡ Some n → length n.values ≡ 8
note zero m h n e = sym (ap values_noted e)
note (suc k) m h n e = sym (ap values_noted e) ∙ h
