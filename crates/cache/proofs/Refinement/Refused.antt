-- A call on a sound state that is refused with the number that it gets from the plain store changes nothing, as there; so calls are compared where they are not refused.
-- Assumes nothing.
use mathlib.Core.Path.{◌≡◌, refl, sym, ap, ap₂, ◌∙◌, subst}
use mathlib.Core.Bool.{Bool, true, false, not, ◌&&◌, ◌||◌}
use mathlib.Core.List.{List}
use Prim.Native.Nat.{ℕ, zero, suc}
use borrow.Author.Tests.{eqb-true}
use lib.Dec.{eqb}
use lib.IntN.{ℤ}
use Rattle.lists.proofs.Bools.{and_left, not-false}
use Rattle.meaning.specs.Plain.{Lengths, Plain, Out, refused, guard, other_lengths}
use Rattle.meaning.specs.Refusals.{or_else, settled}
use Rattle.cache.specs.declared.State.{State}
use Rattle.cache.specs.SoundTest.{sound_state}
use Rattle.cache.specs.Means.{Means}
use Rattle.cache.specs.Calls.{unfit}
use Rattle.cache.specs.Run.{Store, Seen, got_of}
use Rattle.cache.specs.Demand.{refused_with}

-- a call gets what the plain store gives, and leaves what stands for what the plain store is then
abbrev pub Same : List ℕ → Store × Seen → Plain × Out → Type 0
Same buffer r q = (r.1.got ≡ got_of buffer q.1) × Means r.0.state r.0.cells q.0

-- a call that gets the number n, and k from the plain store: refused, both change nothing
pub settled_same : {X : Type 0} (f : X → Store × Seen) (done : X) (refusal : ℕ → X) (buffer : List ℕ) (s : Store) (p : Plain) (q : Plain × Out)
    → Means s.state s.cells p → ((k : ℕ) → f (refusal k) ≡ (s, refused_with k buffer)) → (n k : ℕ) → n ≡ k → (k ≡ 0 → Same buffer (f done) q)
    → Same buffer (f (settled n done (refusal n))) (guard k p refused q)
unfolding settled
settled_same f done refusal buffer s p q m r n k e d =
    subst (λ (i : ℕ). Same buffer (f (settled i done (refusal i))) (guard k p refused q)) (sym e) (go k d)
  where
    go : (k : ℕ) → (k ≡ 0 → Same buffer (f done) q) → Same buffer (f (settled k done (refusal k))) (guard k p refused q)
    go zero d = d refl
    go (suc k) d = subst (λ (x : Store × Seen). Same buffer x (p, refused (suc k))) (sym (r (suc k))) (refl, m)

-- of two lists with the same first condition, the rest counts only where that fails
pub same-else : (n : ℕ) (a b : Bool) (x y : ℕ) → a ≡ b → (b ≡ false → x ≡ y) → or_else a n x ≡ or_else b n y
same-else n a b x y e f = ap (λ c. or_else c n x) e ∙ go b refl
  where
    go : (c : Bool) → b ≡ c → or_else c n x ≡ or_else c n y
    go true z = refl
    go false z = f z

-- 2, of a sound state, comes of the lengths alone
pub unfit-is : (s : State) (cells : List ℤ) (p : Plain) → sound_state s ≡ true → Means s cells p → (l : Lengths) → unfit s l ≡ other_lengths l p
unfolding unfit other_lengths
unfit-is s cells p h m l =
    ap (λ c. not c || not (eqb l.cells s.cells && eqb l.memory s.memory)) h
    ∙ ap₂ (λ x y. not (eqb l.cells x && eqb l.memory y)) (sym m.cells_are) (sym m.memory_is)

-- where it does not apply, the cells have the state's length
pub lengths-same : (s : State) (cells : List ℤ) (p : Plain) → Means s cells p → (lent : Lengths) → other_lengths lent p ≡ false → lent.cells ≡ s.cells
unfolding other_lengths
lengths-same s cells p m lent h =
    eqb-true lent.cells p.lengths.cells (and_left (eqb lent.cells p.lengths.cells) _ (not-false (eqb lent.cells p.lengths.cells && eqb lent.memory p.lengths.memory) h))
    ∙ m.cells_are
