-- The pattern of a clause in arrays is that of the joint clause: by its numbers (proofs/Least), and by the masks that select its comparisons. Assumes nothing.
use mathlib.Core.Path.{◌≡◌, refl, sym, ap, ap₂, subst, ◌∙◌}
use mathlib.Core.List.{List, ◌∷◌, ◌++◌, map}
use Prim.Native.Nat.{ℕ, zero, suc, ◌+◌, ◌-◌, ◌≤◌}
use native.Mathlib.Omega.{arith}
use lib.ListN.{length, replicate, length-replicate, replicate-append-replicate}
use Rattle.lists.specs.Lists.{All, nil, cons, from}
use Rattle.lists.proofs.Lists.{All-map, All-append, All-every, All-image, map-append}
use Rattle.meaning.specs.Condition.{sides, renamed}
use Rattle.meaning.specs.Pattern.{Joint, column, constant, asked, given, Clause, anything}
use Rattle.meaning.proofs.Postfix.{sides-append}
use Rattle.statement.specs.Compiled.{padded}
use Rattle.pattern.specs.declared.Entry.TheVariants.{Any}
use Rattle.pattern.specs.declared.Entry.{Entry}
use Rattle.pattern.specs.declared.Pattern.{Pattern}
use Rattle.pattern.specs.declared.joint.Joined.{Joined}
use Rattle.pattern.specs.Private.Least.{asked_from, code_of, Coded, coded}
use Rattle.pattern.specs.Stored.{entry_struct, pattern_struct, clause_pattern}
use Rattle.pattern.specs.Private.Flat.{clause_at, Narrow, Readable, Ready, coded_pattern, no_clause, Extended}
use Rattle.pattern.proofs.OperandCodes.{Fits}
use Rattle.pattern.proofs.Clauses.{least-pattern}

-- ---- by numbers

narrow-fits : (x : Joint) → Narrow x → Fits x
narrow-fits (column i) h = omega arith
narrow-fits (constant z) h = h
narrow-fits (asked k) h = omega arith
narrow-fits (given k) h = omega (arith, h.1)

coded-pattern : (n : ℕ) → n ≤ 8 → (cs : Clause) → All Narrow (sides cs) → coded_pattern n (coded cs) ≡ clause_pattern n cs
unfolding coded_pattern
coded-pattern n few cs h = sym (least-pattern n (omega arith) cs (All-map narrow-fits h))

-- ---- the arrays

zero-readable : Readable 0
zero-readable = record { some = λ e. omega arith; few = λ h. omega arith }

asked-readable : (k : ℕ) → Readable (asked_from + k)
asked-readable k = record { some = λ e. omega arith; few = λ h. omega arith }

zeros : (n : ℕ) → All Readable (replicate n 0)
zeros zero = nil
zeros (suc n) = cons zero-readable (zeros n)

none-readable : All Readable no_clause.codes
none-readable = All-append (zeros 32) (All-image (λ (k : ℕ). asked_from + k) (All-every asked-readable (from 1 8)))

-- a clause added to none; and another to it
module _ (a : Clause) (start r : Joined) (es : start ≡ no_clause) (E : Extended start.codes start.ops start.count a r) where
  from-none : Extended no_clause.codes no_clause.ops 0 a r
  from-none = subst (λ (s : Joined). Extended s.codes s.ops s.count a r) es E

  one-clause : clause_at r.codes r.ops r.count ≡ coded a
  one-clause = from-none.clause_is

  pub one-ready : Ready r.codes r.count
  one-ready = record { few = omega (arith, from-none.few); readable = from-none.readable none-readable; marks_there = from-none.marks_stay }

  pub one-pattern : (m : ℕ) → m ≤ 8 → coded_pattern m (clause_at r.codes r.ops r.count) ≡ clause_pattern m a
  one-pattern m h = ap (coded_pattern m) one-clause ∙ coded-pattern m h a E.narrow

  module _ (b : Clause) (s : Joined) (F : Extended r.codes r.ops r.count b s) where
    pub two-ready : Ready s.codes s.count
    two-ready = record { few = omega (arith, F.few, from-none.few); readable = F.readable (from-none.readable none-readable); marks_there = F.marks_stay ∙ from-none.marks_stay }

    pub two-pattern : (m : ℕ) → m ≤ 8 → coded_pattern m (clause_at s.codes s.ops s.count) ≡ clause_pattern m (a ++ b)
    two-pattern m h =
        ap (coded_pattern m) (F.clause_is ∙ ap (λ (l : Coded). l ++ coded b) one-clause ∙ sym (map-append (renamed code_of) a b))
        ∙ coded-pattern m h (a ++ b) (subst (All Narrow) (sym (sides-append a b)) (All-append E.narrow F.narrow))

-- ---- all any

anys : (n : ℕ) → map entry_struct (replicate n anything) ≡ replicate n Any
anys zero = refl
anys (suc n) = ap (λ (l : List Entry). Any ∷ l) (anys n)

pub any-made : (n : ℕ) → n ≤ 8 → ◌≡◌ {A = Pattern} (record { entries = replicate 8 Any; count = n }) (pattern_struct (replicate n anything))
any-made n h =
    let d : Entry = Any in
    let m : n + (8 - length (replicate n d)) ≡ 8 = omega (arith, length-replicate n d) in
    ap₂ (λ (x : List Entry) (k : ℕ). record { entries = x; count = k })
    (sym (ap (padded 8 d) (anys n) ∙ replicate-append-replicate n (8 - length (replicate n d)) d ∙ ap (λ (k : ℕ). replicate k d) m))
    (sym (length-replicate n anything))
