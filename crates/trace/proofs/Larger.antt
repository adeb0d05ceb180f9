-- Of two numbers of slots what the smaller keeps is the beginning of what the larger keeps, after every history: each event does alike to a list and to its beginning. And the plain store with
-- another length of the kept memory has the same history. Assumes nothing.
use mathlib.Core.Path.{◌≡◌, refl, sym, ap, ◌∙◌}
use mathlib.Core.HLevel.{Discrete}
use mathlib.Core.Bool.{Bool, true, false}
use mathlib.Core.Option.{Option, none, some}
use mathlib.Core.List.{List, [], ◌∷◌, ◌++◌, map}
use Prim.Native.Nat.{ℕ, zero, suc, ◌≤◌}
use native.Mathlib.Omega.{arith}
use lib.IntN.{ℤ}
use lib.ListN.{take}
use Rattle.lists.specs.Lists.{keep}
use Rattle.lists.proofs.Lists.{keep_append, map-append}
use Rattle.meaning.specs.Key.{Key}
use Rattle.meaning.specs.Call.{Call, add, ask, change, flush, propose, commit, withdraw}
use Rattle.meaning.specs.Plain.{Plain, refused, does, guard, Note}
use Rattle.meaning.proofs.Alike.{with_memory, record-alike, drops-alike, does-alike}
use Rattle.trace.specs.History.{Event, answer_of, drop_of, fits_slot, noted, note, change_noted, commit_noted}
use Rattle.trace.proofs.Recent.{Entry, spared, other, front, recent}

-- ---- beginnings

module _ {A : Type 0} where
  abbrev pub Begins : List A → List A → Type 0
  Begins a b = (c : List A) × (a ++ c ≡ b)

  begins-take : (n m : ℕ) (a b : List A) → n ≤ m → Begins a b → Begins (take n a) (take m b)
  begins-take zero m a b le h = (take m b, refl)
  begins-take (suc n) zero a b le h = absurd (omega arith)
  begins-take (suc n) (suc m) [] b le h = (take (suc m) b, refl)
  begins-take (suc n) (suc m) (x ∷ a) b le (c, e) =
      let (c', e') = begins-take n m a (a ++ c) (omega arith) (c, refl) in
      (c', ap (λ l. x ∷ l) e' ∙ ap (take (suc m)) e)

  begins-keep : (p : A → Bool) (a b : List A) → Begins a b → Begins (keep p a) (keep p b)
  begins-keep p a b (c, e) = (keep p c, sym (keep_append p a c) ∙ ap (keep p) e)

  -- where records change and keep their places
  begins-map : (f : A → A) (a b : List A) → Begins a b → Begins (map f a) (map f b)
  begins-map f a b (c, e) = (map f c, sym (map-append f a c) ∙ ap (map f) e)

-- ---- slots

module _ {K : Type 0} (same : Discrete K) (n m size : ℕ) (le : n ≤ m) where
  begins-front : (b : Bool) (k : K) (r : List ℕ) (s l : List (Entry K)) → Begins s l → Begins (front same b n k r s) (front same b m k r l)
  begins-front false k r s l h = h
  begins-front true k r s l h =
      let (c, e) = begins-keep (other same k) s l h in
      begins-take n m ((k, r) ∷ keep (other same k) s) ((k, r) ∷ keep (other same k) l) le (c, ap (λ x. (k, r) ∷ x) e)

  pub begins : (h : List (Event K)) → Begins (recent same n size h) (recent same m size h)
  begins [] = ([], refl)
  begins (answer_of k r ∷ h) = begins-front (fits_slot size r) k r (recent same n size h) (recent same m size h) (begins h)
  begins (drop_of d ∷ h) = begins-keep (spared d) (recent same n size h) (recent same m size h) (begins h)

-- ---- the plain store with another length of the kept memory

change-alike : (n : ℕ) (p : Plain) (i : ℕ) (us : List ℤ) (h : List (Event Key)) → change_noted (with_memory n p) i us h ≡ change_noted p i us h
change-alike n p i us h = ap (λ d. drop_of d ∷ h) (drops-alike n p i us)

commit-alike : (n : ℕ) (p : Plain) (o : Option Note) (h : List (Event Key)) → commit_noted (with_memory n p) o h ≡ commit_noted p o h
commit-alike n p none h = refl
commit-alike n p (some x) h = change-alike n p x.update x.values h

noted-alike : (n : ℕ) (p : Plain) (c : Call ℕ) (h : List (Event Key)) → noted (with_memory n p) c h ≡ noted p c h
noted-alike n p (add text) h = refl
noted-alike n p (ask k b) h = ap (λ r. answer_of k r ∷ h) (record-alike n p k)
noted-alike n p (change i us) h = change-alike n p i us h
noted-alike n p flush h = refl
noted-alike n p (propose i us) h = refl
noted-alike n p commit h = commit-alike n p p.pending h
noted-alike n p withdraw h = refl

-- a call that is refused with m, or taken
pub note-alike : (m n : ℕ) (p : Plain) (c : Call ℕ) (h : List (Event Key)) → note m (with_memory n p) c h ≡ note m p c h
note-alike zero n p c h = noted-alike n p c h
note-alike (suc m) n p c h = refl

pub guard-alike : (m n : ℕ) (p : Plain) (c : Call ℕ)
    → guard m (with_memory n p) refused (does (with_memory n p) c) ≡ (with_memory n (guard m p refused (does p c)).0, (guard m p refused (does p c)).1)
guard-alike zero n p c = does-alike n p c
guard-alike (suc m) n p c = refl
