-- Readers of the code beside those of the grammar: one that finds nothing, one that finds something, and one after another. Assumes nothing.
use mathlib.Core.Path.{◌≡◌, refl, sym, ap, subst, ◌∙◌}
use mathlib.Core.Bool.{Bool, true, false, ◌||◌, or-false}
use mathlib.Core.Option.{Option, none, some}
use Rattle.std.specs.Prelude.{Option as Maybe, Some, None}
use mathlib.Core.List.{List}
use Prim.Native.Nat.{ℕ, ◌+◌, ◌<◌}
use native.Mathlib.Nat.{add-zero}
use native.Mathlib.Omega.{arith}
use lib.ListN.{drop}
use Rattle.meaning.specs.Tokens.{Token, tokens}
use Rattle.meaning.specs.Reader.{Reader, then}
use Rattle.statement.specs.declared.conditions.Cursor.{Cursor}
use Rattle.statement.specs.Private.Reading.{Stands, moved_to}
use Rattle.statement.specs.Private.Sentences.{Before, Agree, Takes, Counts}

-- ---- one reader: o is what the grammar's finds

module _ {A B : Type 0} {s : List ℕ} {place : B → Cursor} {Q : B → A → Type 0} where
  pub finds-none : {r : Maybe B} {o : Option (A × List Token)} → r ≡ None → o ≡ none → Takes s place Q r o
  finds-none e f = record { agrees = rw (e, f) tt }

  pub finds : {r : B} {o : Option (A × List Token)} (x : A) (more : List Token) → o ≡ some (x, more) → Before s (place r) more → Q r x → Takes s place Q (Some r) o
  finds {r} x more e b q = record { agrees = subst (Agree s place Q (Some r)) (sym e) (b, q) }

  -- where the code's found something the grammar's did
  pub found : {r : B} {o : Option (A × List Token)} → Takes s place Q (Some r) o → (x : A) × (more : List Token) × (o ≡ some (x, more)) × Before s (place r) more × Q r x
  found {r} {o} t = go o t.agrees
    where
      go : (p : Option (A × List Token)) → Agree s place Q (Some r) p → (x : A) × (more : List Token) × (p ≡ some (x, more)) × Before s (place r) more × Q r x
      go none z = absurd z
      go (some x) z = (x.0, x.1, refl, z.0, z.1)

  pub found-none : {o : Option (A × List Token)} → Takes s place Q None o → o ≡ none
  found-none {o} t = go o t.agrees
    where
      go : (p : Option (A × List Token)) → Agree s place Q None p → p ≡ none
      go none z = refl
      go (some x) z = absurd z

  -- the next one may be called
  pub stands : {r : B} {o : Option (A × List Token)} → Takes s place Q (Some r) o → Stands s (place r)
  stands t = (found t).3.stands

  -- the same of what the grammar's finds otherwise
  pub reads_as : {r : Maybe B} {o p : Option (A × List Token)} → o ≡ p → Takes s place Q r p → Takes s place Q r o
  reads_as {r} e t = subst (Takes s place Q r) (sym e) t

-- what is found is part of more, or is nothing
module _ {A B C : Type 0} {s : List ℕ} {place : B → Cursor} {Q : B → A → Type 0} {at : C → Cursor} {P : C → A → Type 0} {o : Option (A × List Token)} where
  pub found-more : {r : B} {z : C} → at z ≡ place r → ((x : A) → Q r x → P z x) → Takes s place Q (Some r) o → Takes s at P (Some z) o
  found-more e f t =
      let w = found t in
      finds w.0 w.1 w.2 (subst (λ d. Before s d w.1) (sym e) w.3) (f w.0 w.4)

  pub none-found : {z : Maybe C} → Takes s place Q None o → z ≡ None → Takes s at P z o
  none-found t e = finds-none e (found-none t)

-- ---- one after another: where the first finds nothing nothing is found, else the others go on behind it

module _ {A B C D : Type 0} {s : List ℕ} {place : B → Cursor} {P : B → A → Type 0} {at : D → Cursor} {Q : D → C → Type 0} where
  pub stops : (k : A → Reader C) {z : Maybe D} {o : Option (A × List Token)} → Takes s place P None o → z ≡ None → Takes s at Q z (then o k)
  stops k t e = finds-none e (ap (λ p. then p k) (found-none t))

  pub goes_on : (k : A → Reader C) {z : Maybe D} {r : B} {o : Option (A × List Token)} → Takes s place P (Some r) o
      → ((x : A) → Before s (place r) (tokens (drop (place r).at s)) → P r x → Takes s at Q z (k x (tokens (drop (place r).at s)))) → Takes s at Q z (then o k)
  goes_on k {z} {r} t g =
      let f = found t in
      let x = f.0 in
      reads_as (ap (λ p. then p k) f.2)
      (reads_as (ap (k x) (sym f.3.left)) (g x (record { stands = f.3.stands; left = refl }) f.4))

-- ---- cursors

-- only the place changed
pub counts-moved : (c : Cursor) (next : ℕ) → c.at < next → Counts c (moved_to next c) false 0
counts-moved c next h = record { dotted = refl; moved = h; over = sym (or-false c.over); marks_are = sym (add-zero c.marks); nodes_are = refl }

-- the same count, said otherwise
pub recount : (c r : Cursor) (p q : Bool) (a b : ℕ) → p ≡ q → a ≡ b → Counts c r p a → Counts c r q b
recount c r p q a b e f h = record { dotted = h.dotted; moved = h.moved; over = h.over ∙ ap (λ z. c.over || z) e; marks_are = h.marks_are ∙ ap (λ n. c.marks + n) f; nodes_are = h.nodes_are }

module _ {c m r : Cursor} {p q : Bool} {a b : ℕ} where
  -- one after the other
  pub counts-then : Counts c m p a → Counts m r q b → Counts c r (p || q) (a + b)
  counts-then h k =
      let i = h.moved in
      let j = k.moved in
      let x = h.marks_are in
      let y = k.marks_are in
      record {
        dotted = k.dotted ∙ h.dotted;
        moved = omega arith;
        over = k.over ∙ ap (λ z. z || q) h.over ∙ regroup c.over;
        marks_are = omega arith;
        nodes_are = k.nodes_are ∙ h.nodes_are;
      }
    where
      regroup : (z : Bool) → ((z || p) || q) ≡ (z || (p || q))
      regroup true = refl
      regroup false = refl
