-- A history of the plain store, and what it says of the entries kept: each record is the plain store's of now, and fits; no key stands twice. Assumes nothing.
use mathlib.Core.Path.{◌≡◌, refl, sym, ap, ◌∙◌, subst}
use mathlib.Core.HLevel.{Discrete}
use mathlib.Core.Logic.{◌≢◌, inl, inr}
use mathlib.Core.Bool.{Bool, true, false, not}
use mathlib.Core.Option.{Option, none, some}
use mathlib.Core.List.{List, [], ◌∷◌}
use Prim.Native.Nat.{ℕ, zero, suc}
use lib.IntN.{ℤ}
use lib.ListN.{length}
use Rattle.lists.specs.Lists.{All, nil, cons, DistinctBy, keep}
use Rattle.lists.specs.Tests.{is_yes}
use Rattle.lists.proofs.Bools.{not-true, is-yes, is-no, no_of}
use Rattle.lists.proofs.Lists.{All-map, All-take, All-keep, All-kept, distinct-take, distinct-keep}
use Rattle.meaning.specs.Key.{Key, same_key}
use Rattle.meaning.specs.Plain as P
use Rattle.meaning.specs.Plain.{Lengths, Plain, refusal, record_of, too_many, drops_key, refused, does, guard, Note, with_note, changed_by, committed}
use Rattle.meaning.specs.Refusals.{is_short, or_else}
use Rattle.meaning.specs.Call.{Call, add, ask, change, flush, propose, commit, withdraw}
use Rattle.trace.specs.History.{Event, answer_of, drop_of, note, fits_slot, Answered, noted, change_noted, commit_noted}
use Rattle.trace.proofs.Recent.{Entry, spared, other, front, recent}
use Rattle.trace.specs.Private.Model.{ask_refusal}
use Rattle.meaning.proofs.Keeps.{SameAnswer}
use Rattle.trace.proofs.Laws.{TableLaws, first_of, ask-refusal}

module _ {K : Type 0} (same : Discrete K) where
  -- the test for other keys
  pub other-yes : (k : K) (x : Entry K) → x.0 ≢ k → other same k x ≡ true
  other-yes k x ne = ap not (is-no (same x.0 k) ne)

  pub other-no : (k : K) (x : Entry K) → x.0 ≡ k → other same k x ≡ false
  other-no k x e = ap not (is-yes (same x.0 k) e)

  pub all_others : (k : K) (l : List (Entry K)) → All (λ x. x.0 ≢ k) (keep (other same k) l)
  all_others k l = All-map (λ x e. no_of (same x.0 k) (not-true (is_yes (same x.0 k)) e)) (All-kept (other same k) l)

  -- no key is kept twice
  pub apart : (n size : ℕ) (h : List (Event K)) → DistinctBy (λ (x : Entry K). x.0) (recent same n size h)
  apart n size [] = tt
  apart n size (answer_of k r ∷ h) = go (fits_slot size r) (apart n size h)
    where
      go : (b : Bool) → DistinctBy (λ (x : Entry K). x.0) (recent same n size h) → DistinctBy (λ (x : Entry K). x.0) (front same b n k r (recent same n size h))
      go true g =
          distinct-take (λ (x : Entry K). x.0) n ((k, r) ∷ keep (other same k) (recent same n size h))
          (all_others k (recent same n size h), distinct-keep (λ (x : Entry K). x.0) (other same k) (recent same n size h) g)
      go false g = g
  apart n size (drop_of d ∷ h) = distinct-keep (λ (x : Entry K). x.0) (spared d) (recent same n size h) (apart n size h)

module _ (lent : Lengths) where
  -- from p to q the records stay, but for the keys of d
  abbrev pub Keeps : Plain → Plain → (Key → Bool) → Type 0
  Keeps p q d = (k : Key) → ask_refusal lent p k ≡ 0 → (ask_refusal lent q k ≡ 0) × (d k ≡ false → SameAnswer q p k)

  -- the history h leads to the plain store p
  pub data Past : Plain → List (Event Key) → Type 0 where
    start : {p : Plain} → Past p []
    asks : {p : Plain} {h : List (Event Key)} (k : Key) → ask_refusal lent p k ≡ 0 → too_many p k ≡ false → Past p h → Past p (answer_of k (record_of p k) ∷ h)
    adds : {p q : Plain} {h : List (Event Key)} → Keeps p q (λ k. false) → Past p h → Past q h
    drops : {p q : Plain} {h : List (Event Key)} (d : Key → Bool) → Keeps p q d → Past p h → Past q (drop_of d ∷ h)

  -- a key once answered is no refused one
  pub valid : {p : Plain} {h : List (Event Key)} → Past p h → (k : Key) → Answered k h → ask_refusal lent p k ≡ 0
  valid start k a = absurd a
  valid (asks j e m s) k (inl q) = rw q at e
  valid (asks j e m s) k (inr a) = valid s k a
  valid (adds f s) k a = (f k (valid s k a)).0
  valid (drops d f s) k a = (f k (valid s k a)).0

  -- an entry whose record is the plain store's of now, and fits
  pub record Current (size : ℕ) (p : Plain) (x : Entry Key) : Type 0 where
    pub asked : ask_refusal lent p x.0 ≡ 0
    pub right : x.1 ≡ record_of p x.0
    pub few : too_many p x.0 ≡ false
    pub small : fits_slot size x.1 ≡ true

  pub current : (n size : ℕ) {p : Plain} {h : List (Event Key)} → Past p h → All (Current size p) (recent same_key n size h)
  current n size start = nil
  current n size (asks {p = p} {h = h} k e m s) = go (fits_slot size (record_of p k)) refl (current n size s)
    where
      go : (b : Bool) → fits_slot size (record_of p k) ≡ b → All (Current size p) (recent same_key n size h)
          → All (Current size p) (front same_key b n k (record_of p k) (recent same_key n size h))
      go true f g = All-take n (cons (record { asked = e; right = refl; few = m; small = f }) (All-keep (other same_key k) (λ x q _. q) g))
      go false f g = g
  current n size (adds f s) =
      All-map (λ x q. record {
        asked = (f x.0 q.asked).0;
        right = q.right ∙ sym ((f x.0 q.asked).1 refl).0;
        few = ((f x.0 q.asked).1 refl).1 ∙ q.few;
        small = q.small;
      }) (current n size s)
  current n size (drops d f s) =
      All-keep (spared d) (λ x q e. record {
        asked = (f x.0 q.asked).0;
        right = q.right ∙ sym ((f x.0 q.asked).1 (not-true (d x.0) e)).0;
        few = ((f x.0 q.asked).1 (not-true (d x.0) e)).1 ∙ q.few;
        small = q.small;
      }) (current n size s)

-- every call leads on
module _ (𝓛 : TableLaws) (lent : Lengths) where
  module _ {p : Plain} {h : List (Event Key)} (g : 𝓛.Good p) (s : Past lent p h) where
    -- a call that is not refused, or is
    led : (c : Call ℕ) → (refusal lent p c ≡ 0 → Past lent (does p c).0 (noted p c h)) → Past lent (P.step lent p c).0 (note (refusal lent p c) p c h)
    led c f = go (refusal lent p c) refl
      where
        go : (m : ℕ) → refusal lent p c ≡ m → Past lent (guard m p refused (does p c)).0 (note m p c h)
        go zero e = f e
        go (suc m) e = s

    -- another note, or none
    note-stays : (o : Option Note) (d : Key → Bool) → Keeps lent p (with_note p o) d
    note-stays o d k a = ((𝓛.note_keeps lent p o k a).0, λ _. (𝓛.note_keeps lent p o k a).1)

    renoted : (o : Option Note) → Past lent (with_note p o) h
    renoted o = adds (note-stays o (λ k. false)) s

    -- an update
    changes-on : (n : ℕ) (us : List ℤ) → refusal lent p (change n us) ≡ 0 → Past lent (changed_by p n us) (change_noted p n us h)
    changes-on n us e = drops (drops_key p n us) (λ k a. 𝓛.change_keeps lent p n us k g a e) s

    pub past-step : (c : Call ℕ) → Past lent (P.step lent p c).0 (note (refusal lent p c) p c h)
    past-step (add text) =
        led (add text) (λ e. adds (λ k a. ((𝓛.add_keeps lent p text k a e).0, λ _. (𝓛.add_keeps lent p text k a e).1)) s)
    past-step (ask k b) = rw (ask-refusal lent p k b) (go (ask_refusal lent p k) refl (too_many p k) refl (is_short b (length (record_of p k))))
      where
        go : (m : ℕ) → ask_refusal lent p k ≡ m → (x : Bool) → too_many p k ≡ x → (y : Bool)
            → Past lent (guard (first_of m (or_else x 16 (or_else y 13 0))) p refused (does p (ask k b))).0 (note (first_of m (or_else x 16 (or_else y 13 0))) p (ask k b) h)
        go zero e false i false = asks k e i s
        go zero e false i true = s
        go zero e true i y = s
        go (suc m) e x i y = s
    past-step (change n us) = led (change n us) (changes-on n us)
    past-step flush = led flush (λ e. drops (λ k. true) (note-stays none (λ k. true)) s)
    past-step (propose n us) = led (propose n us) (λ e. renoted (some (record { update = n; values = us })))
    past-step commit =
        led commit (λ e.
        let (x, i, t) = 𝓛.commit_taken lent p g e in
        subst (λ (o : Option Note). Past lent (committed p o).0 (commit_noted p o h)) (sym i) (changes-on x.update x.values t))
    past-step withdraw = led withdraw (λ e. renoted none)
