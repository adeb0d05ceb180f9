-- The loop of `held_twice`: fingerprints that are noted, with a mark for the remainder of each, and no two of them equal. Assumes nothing.
use mathlib.Core.Path.{◌≡◌, refl, sym, ap, ap₂, ◌∙◌, subst}
use mathlib.Core.Bool.{Bool, true, false, ◌&&◌, ◌||◌, and-false}
use mathlib.Core.List.{List, [], ◌∷◌, ◌++◌, map}
use Prim.Native.Nat.{ℕ, ◌+◌, ◌%◌, ◌≤◌, ◌<◌}
use native.Mathlib.Numerals.{add-one}
use native.Mathlib.Omega.{arith}
use borrow.Author.Tests.{eqb-true, eqb-false}
use lib.Dec.{eqb}
use lib.ListN.{length, take, get_or, set}
use lib.Seq.{take_all, take-suc, take-suc-set, get_or-set_same, get_or-set_other}
use Rattle.std.specs.List.{list_any}
use Rattle.lists.specs.Lists.{All, nil, cons, any, repeats}
use Rattle.lists.proofs.Bools.{clash}
use Rattle.lists.proofs.Lists.{All-map, All-append, map-append}
use Rattle.lists.proofs.Chains.{eqb-turned, any-turned, repeats-last}

-- ---- numbers, no two of them equal, with a mark for the remainder of each

abbrev Marked : List Bool → ℕ → Type 0
Marked seen h = get_or seen (h % 1024) false ≡ true

still_marked : (seen : List Bool) (k h : ℕ) → k < length seen → Marked seen h → Marked (set seen k true) h
still_marked seen k h b m = go (eqb k (h % 1024)) refl
  where
    go : (e : Bool) → eqb k (h % 1024) ≡ e → Marked (set seen k true) h
    go true e = subst (λ (j : ℕ). get_or (set seen k true) j false ≡ true) (eqb-true k (h % 1024) e) (get_or-set_same seen k true false b)
    go false e = get_or-set_other seen k (h % 1024) true false (λ q. eqb-false k (h % 1024) e (sym q)) ∙ m

-- one that stands among them has its mark
has-mark : (seen : List Bool) (h : ℕ) {l : List ℕ} → All (Marked seen) l → any (eqb h) l ≡ true → Marked seen h
has-mark seen h nil e = clash e refl
has-mark seen h (cons {x = x} {xs = l} m a) e = go (eqb h x) refl (λ k. has-mark seen h a k)
  where
    go : (b : Bool) → eqb h x ≡ b → (any (eqb h) l ≡ true → Marked seen h) → Marked seen h
    go true q f = subst (Marked seen) (sym (eqb-true h x q)) m
    go false q f = f (sym (ap (λ (b : Bool). b || any (eqb h) l) q) ∙ e)

-- one without the mark, or that was looked for and not found, does not
is-new : (seen : List Bool) (h : ℕ) (l : List ℕ) → All (Marked seen) l → (get_or seen (h % 1024) false && any (eqb h) l) ≡ false → any (eqb h) l ≡ false
is-new seen h l a e = go (any (eqb h) l) refl
  where
    go : (b : Bool) → any (eqb h) l ≡ b → b ≡ false
    go true q = sym (ap₂ ◌&&◌ (has-mark seen h a q) q) ∙ e
    go false q = refl

module _ (f : ℕ → ℕ) (l : List ℕ) where
  -- of the first i: their numbers are noted, each has its mark, and no two are equal
  pub record Noted (prints : List ℕ) (seen : List Bool) (i : ℕ) : Type 0 where
    pub within : i ≤ length l
    pub noted : take i prints ≡ map f (take i l)
    pub marked : All (Marked seen) (take i prints)
    pub apart : repeats eqb (take i prints) ≡ false

  pub noted-start : (prints : List ℕ) (seen : List Bool) → Noted prints seen 0
  noted-start prints seen = record { within = omega arith; noted = refl; marked = nil; apart = refl }

  pub noted-end : (prints : List ℕ) (seen : List Bool) (i : ℕ) → length l ≤ i → Noted prints seen i → repeats eqb (map f l) ≡ false
  noted-end prints seen i h N =
      ap (λ (r : List ℕ). repeats eqb (map f r)) (sym (take_all i l h)) ∙ ap (repeats eqb) (sym N.noted) ∙ N.apart

  module _ (prints : List ℕ) (seen : List Bool) (i h : ℕ) (lp : i < length prints) (ll : i < length l) (ls : h % 1024 < length seen) where
    noted_more : h ≡ f (get_or l i 0) → (get_or seen (h % 1024) false && any (eqb h) (take i prints)) ≡ false → Noted prints seen i
        → Noted (set prints i h) (set seen (h % 1024) true) (i + 1)
    noted_more e q N =
        let s : take (i + 1) (set prints i h) ≡ take i prints ++ (h ∷ []) = ap (λ (j : ℕ). take j (set prints i h)) (add-one i) ∙ take-suc-set prints i h lp in
        let m : map f (take (i + 1) l) ≡ map f (take i l) ++ (f (get_or l i 0) ∷ []) =
        ap (λ (j : ℕ). map f (take j l)) (add-one i) ∙ ap (map f) (take-suc l i 0 ll) ∙ map-append f (take i l) (get_or l i 0 ∷ []) in
        record {
          within = omega arith;
          noted = s ∙ ap₂ (λ (xs : List ℕ) (y : ℕ). xs ++ (y ∷ [])) N.noted e ∙ sym m;
          marked = subst (All (Marked (set seen (h % 1024) true))) (sym s)
              (All-append (All-map (λ x a. still_marked seen (h % 1024) x ls a) N.marked) (cons (get_or-set_same seen (h % 1024) true false ls) nil));
          apart = ap (repeats eqb) s ∙ repeats-last eqb eqb-turned (take i prints) h ∙ ap₂ ◌||◌ N.apart (is-new seen h (take i prints) N.marked q);
        }

    -- with no mark, or looked for and not found
    pub noted-unmarked : h ≡ f (get_or l i 0) → get_or seen (h % 1024) false ≡ false → Noted prints seen i → Noted (set prints i h) (set seen (h % 1024) true) (i + 1)
    noted-unmarked e q N = noted_more e (ap (λ (b : Bool). b && any (eqb h) (take i prints)) q) N

    pub noted-apart : h ≡ f (get_or l i 0) → list_any (λ (x : ℕ). eqb x h) (take i prints) ≡ false → Noted prints seen i → Noted (set prints i h) (set seen (h % 1024) true) (i + 1)
    noted-apart e q N =
        noted_more e (ap (λ (b : Bool). get_or seen (h % 1024) false && b) (sym (any-turned eqb eqb-turned h (take i prints)) ∙ q) ∙ and-false (get_or seen (h % 1024) false)) N
