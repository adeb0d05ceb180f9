-- The keys answered in a list of calls are those asked; so where there are at least as many slots as different keys asked, others never fill the slots. Assumes nothing.
use mathlib.Core.Path.{◌≡◌, refl, sym, ap, ◌∙◌}
use mathlib.Core.HLevel.{Discrete}
use mathlib.Core.Logic.{◌≢◌, ◌⊎◌, inl, inr}
use mathlib.Core.Option.{Option, none, some}
use mathlib.Core.List.{List, [], ◌∷◌, ◌++◌}
use Prim.Native.Nat.{ℕ, zero, suc, ◌≤◌, zero-le}
use native.Mathlib.Omega.{arith}
use lib.ListN.{length}
use Rattle.lists.specs.Lists.{All, nil, cons, Distinct}
use Rattle.lists.proofs.Lists.{All-head, All-tail, All-map, All-both}
use Rattle.meaning.specs.Key.{Key, same_key}
use Rattle.meaning.specs.Call.{Call, add, ask, change, flush, propose, commit, withdraw}
use Rattle.meaning.specs.Plain as P
use Rattle.meaning.specs.Plain.{Lengths, Plain, refusal, Note}
use Rattle.trace.specs.History.{Event, answer_of, drop_of, OneOf, asked_by, keys_asked, Answered, Crowded, unless, since, note, commit_noted, history_on, history}

-- ---- a list of different members of another is no longer

module _ {K : Type 0} where
  -- the members but k
  without : (k : K) (ks : List K) → OneOf k ks → (rest : List K) × (length ks ≡ suc (length rest)) × ((j : K) → j ≢ k → OneOf j ks → OneOf j rest)
  without k [] o = absurd o
  without k (x ∷ ks) (inl e) = (ks, refl, λ j ne o. elim o [ inl i ↦ absurd (ne (sym i ∙ e)) | inr i ↦ i ])
  without k (x ∷ ks) (inr o) =
      let (rest, e, f) = without k ks o in
      (x ∷ rest, ap suc e, λ j ne o. elim o [ inl i ↦ inl i | inr i ↦ inr (f j ne i) ])

  no-more : (js ks : List K) → Distinct js → All (λ j. OneOf j ks) js → length js ≤ length ks
  no-more [] ks d h = zero-le
  no-more (j ∷ js) ks d h =
      let (rest, e, f) = without j ks (All-head h) in
      let le : length js ≤ length rest = no-more js rest d.1 (All-map (λ i q. f i q.0 q.1) (All-both d.0 (All-tail h))) in
      omega arith

-- ---- answered since, answered, asked

module _ {K : Type 0} (same : Discrete K) where
  since-answered : (j k : K) (h : List (Event K)) → Answered j (since same k h) → Answered j h
  since-answered j k [] a = a
  since-answered j k (drop_of d ∷ h) a = since-answered j k h a
  since-answered j k (answer_of i r ∷ h) a = go (same i k) a (since-answered j k h)
    where
      go : (q : Dec (i ≡ k)) → Answered j (unless q (answer_of i r ∷ since same k h)) → (Answered j (since same k h) → Answered j h) → Answered j (answer_of i r ∷ h)
      go (yes e) a f = absurd a
      go (no ne) (inl e) f = inl e
      go (no ne) (inr a) f = inr (f a)

module _ (j : Key) where
  commit-asked : (p : Plain) (o : Option Note) (h : List (Event Key)) → Answered j (commit_noted p o h) → Answered j h
  commit-asked p none h a = a
  commit-asked p (some x) h a = a

  note-asked : (n : ℕ) (p : Plain) (c : Call ℕ) (h : List (Event Key)) → Answered j (note n p c h) → OneOf j (asked_by c) ⊎ Answered j h
  note-asked (suc n) p c h a = inr a
  note-asked zero p (add text) h a = inr a
  note-asked zero p (ask k b) h (inl e) = inl (inl e)
  note-asked zero p (ask k b) h (inr a) = inr a
  note-asked zero p (change n us) h a = inr a
  note-asked zero p flush h a = inr a
  note-asked zero p (propose n us) h a = inr a
  note-asked zero p commit h a = inr (commit-asked p p.pending h a)
  note-asked zero p withdraw h a = inr a

  one-left : (xs ys : List Key) → OneOf j xs → OneOf j (xs ++ ys)
  one-left [] ys o = absurd o
  one-left (x ∷ xs) ys (inl e) = inl e
  one-left (x ∷ xs) ys (inr o) = inr (one-left xs ys o)

  one-right : (xs ys : List Key) → OneOf j ys → OneOf j (xs ++ ys)
  one-right [] ys o = o
  one-right (x ∷ xs) ys o = inr (one-right xs ys o)

  answered-asked : (lent : Lengths) (p : Plain) (h : List (Event Key)) (cs : List (Call ℕ)) → Answered j (history_on lent p h cs) → OneOf j (keys_asked cs) ⊎ Answered j h
  answered-asked lent p h [] a = inr a
  answered-asked lent p h (c ∷ cs) a =
      elim (answered-asked lent (P.step lent p c).0 (note (refusal lent p c) p c h) cs a) [
        | inl o ↦ inl (one-right (asked_by c) (keys_asked cs) o)
        | inr b ↦ elim (note-asked (refusal lent p c) p c h b) [ inl o ↦ inl (one-left (asked_by c) (keys_asked cs) o) | inr b ↦ inr b ]
      ]

-- n others are not among fewer
pub uncrowded : (n : ℕ) (lent : Lengths) (p : Plain) (cs : List (Call ℕ)) (k : Key) (ks : List Key) → length ks ≤ n → All (λ j. OneOf j ks) (k ∷ keys_asked cs)
    → ¬ Crowded n k (since same_key k (history lent p cs))
uncrowded n lent p cs k ks le h (js, count, once, others) =
    let all : All (λ j. OneOf j ks) js =
    All-map (λ j q. elim (answered-asked j lent p [] cs (since-answered same_key j k (history lent p cs) q.1)) [ inl o ↦ one-of j (All-tail h) o | inr a ↦ absurd a ]) others in
    let le' : length (k ∷ js) ≤ length ks = no-more (k ∷ js) ks (All-map (λ j q. q.0) others, once) (cons (All-head h) all) in
    omega arith
  where
    one-of : (j : Key) {xs : List Key} → All (λ j. OneOf j ks) xs → OneOf j xs → OneOf j ks
    one-of j nil o = absurd o
    one-of j (cons p h) (inl e) = rw (sym e) p
    one-of j (cons p h) (inr o) = one-of j h o
