-- A key answered, whose record fits, with no matching drop since, is kept, unless n different others, whose records fitted, were answered since: it stands
-- behind such keys only. Assumes nothing.
use mathlib.Core.Path.{◌≡◌, refl, sym, ap, ◌∙◌}
use mathlib.Core.HLevel.{Discrete}
use mathlib.Core.Logic.{◌≢◌, ◌⊎◌, inl, inr}
use mathlib.Core.Bool.{Bool, true, false, not, ◌||◌, true≢false}
use mathlib.Core.List.{List, [], ◌∷◌, ◌++◌, map}
use Prim.Native.Nat.{ℕ, ◌≤◌}
use native.Mathlib.Omega.{arith}
use lib.ListN.{length, take, length-map}
use lib.Seq.{length-take-le}
use Rattle.lists.specs.Lists.{All, nil, cons, DistinctBy, keep, any}
use Rattle.lists.proofs.Lists.{All-head, All-right, All-map, All-take, All-keep, All-image, keep_append, keep-yes, distinct-left, distinct-take, distinct-keep, distinct-image, take-mid}
use Rattle.meaning.specs.Key.{Key, same_key}
use Rattle.meaning.specs.Plain.{Lengths, Plain, record_of}
use Rattle.trace.specs.History.{Event, answer_of, drop_of, fits_slot, Answered, hits, Crowded, Fitted, Filled, unless, since, Ground, never, too_large, dropped, crowded}
use Rattle.trace.proofs.Recent.{Entry, spared, other, front, recent}
use Rattle.trace.proofs.Past.{Past, start, asks, adds, drops, valid, other-yes, all_others, apart}

module _ {K : Type 0} (size : ℕ) where
  fitted-answered : (k : K) (h : List (Event K)) → Fitted size k h → Answered k h
  fitted-answered k [] a = a
  fitted-answered k (answer_of j r ∷ h) (inl e) = inl e.0
  fitted-answered k (answer_of j r ∷ h) (inr a) = inr (fitted-answered k h a)
  fitted-answered k (drop_of d ∷ h) a = fitted-answered k h a

  filled-crowded : (n : ℕ) (k : K) (h : List (Event K)) → Filled size n k h → Crowded n k h
  filled-crowded n k h c = (c.0, c.1, c.2, All-map (λ j q. (q.0, fitted-answered j h q.1)) c.3)

module _ {K : Type 0} (same : Discrete K) (n size : ℕ) where
  abbrev key : Entry K → K
  key x = x.0

  -- k stands in l, behind keys that were answered in h with records that fit
  record Stands (k : K) (h : List (Event K)) (l : List (Entry K)) : Type 0 where
    pre : List (Entry K)
    rec : List ℕ
    post : List (Entry K)
    is : l ≡ pre ++ (k, rec) ∷ post
    before : All (λ x. (x.0 ≢ k) × Fitted size x.0 h) pre

  abbrev Still : K → List (Event K) → List (Entry K) → Type 0
  Still k h l = Filled size n k h ⊎ Stands k h l

  -- one more answer since, of another key
  later-filled : (k j : K) (r : List ℕ) (h : List (Event K)) → Filled size n k h → Filled size n k (answer_of j r ∷ h)
  later-filled k j r h c = (c.0, c.1, c.2, All-map (λ x q. (q.0, inr q.1)) c.3)

  module _ (k j : K) (r : List ℕ) (ne : j ≢ k) (h : List (Event K)) (l : List (Entry K)) (dis : DistinctBy key l) where
    others : (p : Stands k h l) → List (Entry K)
    others p = (j, r) ∷ keep (other same j) p.pre

    moved : (p : Stands k h l) → (j, r) ∷ keep (other same j) l ≡ others p ++ (k, p.rec) ∷ keep (other same j) p.post
    unfolding others
    moved p =
        ap (λ x. (j, r) ∷ keep (other same j) x) p.is
        ∙ ap (λ x. (j, r) ∷ x)
        (keep_append (other same j) p.pre ((k, p.rec) ∷ p.post)
        ∙ ap (λ x. keep (other same j) p.pre ++ x) (keep-yes (other same j) (k, p.rec) p.post (other-yes same j (k, p.rec) (λ e. ne (sym e)))))

    others-fitted : (p : Stands k h l) → fits_slot size r ≡ true → All (λ x. (x.0 ≢ k) × Fitted size x.0 (answer_of j r ∷ h)) (others p)
    unfolding others
    others-fitted p f = cons (ne, inl (refl, f)) (All-keep (other same j) (λ x q _. (q.0, inr q.1)) p.before)

    others_apart : (p : Stands k h l) → DistinctBy key (others p)
    unfolding others
    others_apart p = (
      all_others same j p.pre,
      distinct-keep key (other same j) p.pre (distinct-left key p.pre ((k, p.rec) ∷ p.post) (rw p.is at dis)),
    )

    later : (b : Bool) → fits_slot size r ≡ b → Stands k h l → Still k (answer_of j r ∷ h) (front same b n j r l)
    later false f p =
        inr (record { pre = p.pre; rec = p.rec; post = p.post; is = p.is; before = All-map (λ x q. (q.0, inr q.1)) p.before })
    later true f p = go (take-mid n (others p) (k, p.rec) (keep (other same j) p.post))
      where
        go : (n ≤ length (others p)) ⊎ ((c : List (Entry K)) × (take n (others p ++ (k, p.rec) ∷ keep (other same j) p.post) ≡ others p ++ (k, p.rec) ∷ c))
            → Still k (answer_of j r ∷ h) (front same true n j r l)
        go (inl le) =
            inl (
              map key (take n (others p)),
              length-map (take n (others p)) key ∙ length-take-le n (others p) le,
              distinct-image key (take n (others p)) (distinct-take key n (others p) (others_apart p)),
              All-image key (All-take n (others-fitted p f)),
            )
        go (inr c) = inr (record { pre = others p; rec = p.rec; post = c.0; is = ap (take n) (moved p) ∙ c.1; before = others-fitted p f })

  -- an answer of the key itself
  now : (k j : K) (r : List ℕ) (l : List (Entry K)) → j ≡ k → (b : Bool) → b ≡ true → Still k [] (front same b n j r l)
  now k j r l e false t = absurd (true≢false (sym t))
  now k j r l e true t = go (take-mid n [] (j, r) (keep (other same j) l))
    where
      go : (n ≤ 0) ⊎ ((c : List (Entry K)) × (take n ((j, r) ∷ keep (other same j) l) ≡ (j, r) ∷ c)) → Still k [] (front same true n j r l)
      go (inl le) = inl ([], omega arith, tt, nil)
      go (inr c) = inr (record { pre = []; rec = r; post = c.0; is = c.1 ∙ ap (λ x. (x, r) ∷ c.0) e; before = nil })

  -- a drop that does not match the key
  past-drop : (k : K) (h : List (Event K)) (l : List (Entry K)) (d : K → Bool) → d k ≡ false → Still k h l → Still k (drop_of d ∷ h) (keep (spared d) l)
  past-drop k h l d e (inl c) = inl c
  past-drop k h l d e (inr p) =
      inr (record {
        pre = keep (spared d) p.pre;
        rec = p.rec;
        post = keep (spared d) p.post;
        is =
            ap (keep (spared d)) p.is
            ∙ keep_append (spared d) p.pre ((k, p.rec) ∷ p.post)
            ∙ ap (λ x. keep (spared d) p.pre ++ x) (keep-yes (spared d) (k, p.rec) p.post (ap not e));
        before = All-keep (spared d) (λ x q _. q) p.before;
      })

-- whether a key was answered
module _ {K : Type 0} (same : Discrete K) where
  either : (j k : K) (h : List (Event K)) → Dec (j ≡ k) → Dec (Answered k h) → Dec ((j ≡ k) ⊎ Answered k h)
  either j k h (yes e) q = yes (inl e)
  either j k h (no f) (yes a) = yes (inr a)
  either j k h (no f) (no g) = no (λ x. elim x [ inl e ↦ f e | inr a ↦ g a ])

  dec_answered : (k : K) (h : List (Event K)) → Dec (Answered k h)
  dec_answered k [] = no (λ a. a)
  dec_answered k (answer_of j r ∷ h) = either j k h (same j k) (dec_answered k h)
  dec_answered k (drop_of d ∷ h) = dec_answered k h

module _ (lent : Lengths) (n size : ℕ) where
  still : {p : Plain} {h : List (Event Key)} → Past lent p h → (k : Key) → fits_slot size (record_of p k) ≡ true → Answered k h
      → any (hits k) (since same_key k h) ≡ false → Still same_key n size k (since same_key k h) (recent same_key n size h)
  still start k f a c = absurd a
  still (asks {p = p} {h = h} j e m s) k f a c = go (same_key j k) a c (λ a' c'. still s k f a' c')
    where
      step : j ≢ k → Still same_key n size k (since same_key k h) (recent same_key n size h)
          → Still same_key n size k (answer_of j (record_of p j) ∷ since same_key k h)
          (front same_key (fits_slot size (record_of p j)) n j (record_of p j) (recent same_key n size h))
      step ne (inl w) = inl (later-filled same_key n size k j (record_of p j) (since same_key k h) w)
      step ne (inr w) =
          later same_key n size k j (record_of p j) ne (since same_key k h) (recent same_key n size h) (apart same_key n size h)
          (fits_slot size (record_of p j)) refl w

      go : (q : Dec (j ≡ k)) → (j ≡ k) ⊎ Answered k h → any (hits k) (unless q (answer_of j (record_of p j) ∷ since same_key k h)) ≡ false
          → (Answered k h → any (hits k) (since same_key k h) ≡ false → Still same_key n size k (since same_key k h) (recent same_key n size h))
          → Still same_key n size k (unless q (answer_of j (record_of p j) ∷ since same_key k h))
          (front same_key (fits_slot size (record_of p j)) n j (record_of p j) (recent same_key n size h))
      go (yes i) b d ih = now same_key n size k j (record_of p j) (recent same_key n size h) i (fits_slot size (record_of p j)) (rw i f)
      go (no ne) (inl i) d ih = absurd (ne i)
      go (no ne) (inr b) d ih = step ne (ih b d)
  still (adds g s) k f a c = still s k (rw ((g k (valid lent s k a)).1 refl).0 at f) a c
  still (drops {p = p} {h = h} d g s) k f a c = go (d k) refl c (λ f' c'. still s k f' a c')
    where
      go : (b : Bool) → d k ≡ b → (b || any (hits k) (since same_key k h)) ≡ false
          → (fits_slot size (record_of p k) ≡ true → any (hits k) (since same_key k h) ≡ false → Still same_key n size k (since same_key k h) (recent same_key n size h))
          → Still same_key n size k (drop_of d ∷ since same_key k h) (keep (spared d) (recent same_key n size h))
      go true e c' ih = absurd (true≢false c')
      go false e c' ih = past-drop same_key n size k (since same_key k h) (recent same_key n size h) d e (ih (rw ((g k (valid lent s k a)).1 e).0 at f) c')

  -- a key that is not kept, though it was answered, fits and was not dropped: the others filled the slots
  pub filled : {p : Plain} {h : List (Event Key)} → Past lent p h → (k : Key) → All (λ x. x.0 ≢ k) (recent same_key n size h)
      → fits_slot size (record_of p k) ≡ true → Answered k h → any (hits k) (since same_key k h) ≡ false → Filled size n k (since same_key k h)
  filled {p} {h} s k miss f a c = end (still s k f a c)
    where
      end : Still same_key n size k (since same_key k h) (recent same_key n size h) → Filled size n k (since same_key k h)
      end (inl w) = w
      end (inr w) = absurd (All-head (All-right w.pre (rw w.is at miss)) refl)

  -- a key that is not kept has one of the four grounds
  pub anew : {p : Plain} {h : List (Event Key)} → Past lent p h → (k : Key) → All (λ x. x.0 ≢ k) (recent same_key n size h)
      → Ground same_key n size (record_of p k) k h
  anew {p} {h} s k miss = go (fits_slot size (record_of p k)) refl (dec_answered same_key k h) (any (hits k) (since same_key k h)) refl
    where
      go : (b : Bool) → fits_slot size (record_of p k) ≡ b → Dec (Answered k h) → (c : Bool) → any (hits k) (since same_key k h) ≡ c
          → Ground same_key n size (record_of p k) k h
      go false f q c e = too_large f
      go true f (no a) c e = never a
      go true f (yes a) true e = dropped e
      go true f (yes a) false e = crowded (filled-crowded size n k (since same_key k h) (filled s k miss f a e))
