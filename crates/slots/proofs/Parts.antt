-- The loop of `drop`, which parts a list: those that fail a test stand at the front of an array, those that pass it in another. Assumes nothing.
use mathlib.Core.Path.{◌≡◌, sym, ap, ap₂, ◌∙◌}
use mathlib.Core.Bool.{Bool, true, false, not}
use mathlib.Core.List.{List, [], ◌∷◌, ◌++◌, append-nil, append_assoc}
use Prim.Native.Nat.{ℕ, ◌+◌, ◌-◌, ◌≤◌, ◌<◌, min}
use native.Mathlib.Numerals.{add-one}
use native.Mathlib.Decide.{dec_le}
use native.Mathlib.Omega.{arith}
use lib.ListN.{length, take, drop, get_or, set, length-set, length-take, drop_of_length-le}
use lib.Seq.{take-suc, take-suc-set, take_all, length-take-le, drop-set-lt}
use borrow.Rule.Slice.PartMut.{put_mid}
use Rattle.std.proofs.lemmas.List.{drop-drop}
use Rattle.lists.specs.Lists.{keep}
use Rattle.lists.proofs.Lists.{keep_append, keep-yes, keep-no}
use Rattle.slots.specs.declared.SlotList.{SlotList}
use Rattle.slots.specs.Order.{is_marked, drop_of, drop_by}
use Rattle.slots.specs.Keys.{held_slots}

-- one more is kept, or is not
module _ (p : ℕ → Bool) (l : List ℕ) (i : ℕ) (h : i < length l) where
  at_more : keep p (take (i + 1) l) ≡ keep p (take i l) ++ keep p (get_or l i 0 ∷ [])
  at_more = ap (λ (k : ℕ). keep p (take k l)) (add-one i) ∙ ap (keep p) (take-suc l i 0 h) ∙ keep_append p (take i l) (get_or l i 0 ∷ [])

  kept-yes : p (get_or l i 0) ≡ true → keep p (take (i + 1) l) ≡ keep p (take i l) ++ (get_or l i 0 ∷ [])
  kept-yes e = at_more ∙ ap (λ (r : List ℕ). keep p (take i l) ++ r) (keep-yes p (get_or l i 0) [] e)

  kept-no : p (get_or l i 0) ≡ false → keep p (take (i + 1) l) ≡ keep p (take i l)
  kept-no e = at_more ∙ ap (λ (r : List ℕ). keep p (take i l) ++ r) (keep-no p (get_or l i 0) [] e) ∙ append-nil (keep p (take i l))

-- one more written behind those that stand
put-more : (out : List ℕ) (n x : ℕ) → n < length out → take (n + 1) (set out n x) ≡ take n out ++ (x ∷ [])
put-more out n x h = ap (λ (k : ℕ). take k (set out n x)) (add-one n) ∙ take-suc-set out n x h

module _ (p : ℕ → Bool) (l order₀ : List ℕ) where
  abbrev other : ℕ → Bool
  other x = not (p x)

  pub record Parting (i : ℕ) (order free : List ℕ) (kept dropped : ℕ) : Type 0 where
    pub few : length l ≤ 64
    pub long : length order ≡ 64
    pub wide : length free ≡ 64
    pub counted : kept + dropped ≡ i
    pub stay : take kept order ≡ keep other (take i l)
    pub leave : take dropped free ≡ keep p (take i l)
    pub behind : drop (length l) order ≡ drop (length l) order₀

  module _ (i : ℕ) (order free : List ℕ) (kept dropped : ℕ) (h : i < length l) (P : Parting i order free kept dropped) where
    pub parting-leave : p (get_or l i 0) ≡ true → Parting (i + 1) order (set free dropped (get_or l i 0)) kept (dropped + 1)
    parting-leave e = record {
      few = P.few;
      long = P.long;
      wide = length-set free dropped (get_or l i 0) ∙ P.wide;
      counted = omega (arith, P.counted);
      stay = P.stay ∙ sym (kept-no other l i h (ap not e));
      leave =
          put-more free dropped (get_or l i 0) (omega (arith, P.counted, P.few, P.wide))
          ∙ ap (λ (r : List ℕ). r ++ (get_or l i 0 ∷ [])) P.leave
          ∙ sym (kept-yes p l i h e);
      behind = P.behind;
    }

    pub parting-stay : p (get_or l i 0) ≡ false → Parting (i + 1) (set order kept (get_or l i 0)) free (kept + 1) dropped
    parting-stay e = record {
      few = P.few;
      long = length-set order kept (get_or l i 0) ∙ P.long;
      wide = P.wide;
      counted = omega (arith, P.counted);
      stay =
          put-more order kept (get_or l i 0) (omega (arith, P.counted, P.few, P.long))
          ∙ ap (λ (r : List ℕ). r ++ (get_or l i 0 ∷ [])) P.stay
          ∙ sym (kept-yes other l i h (ap not e));
      leave = P.leave ∙ sym (kept-no p l i h e);
      behind = drop-set-lt (length l) order kept (get_or l i 0) (omega (arith, P.counted)) ∙ P.behind;
    }

  pub parting-end : (order free : List ℕ) (i kept dropped : ℕ) → length l ≤ i → i ≤ length l → Parting i order free kept dropped
      → take kept order ++ (take dropped free ++ drop (kept + dropped) order) ≡ (keep other l ++ keep p l) ++ drop (length l) order₀
  parting-end order free i kept dropped h k P =
      let n : kept + dropped ≡ length l = omega (arith, P.counted) in
      let t : take i l ≡ l = take_all i l h in
      ap₂ (λ (a b : List ℕ). a ++ (b ++ drop (kept + dropped) order)) (P.stay ∙ ap (keep other) t) (P.leave ∙ ap (keep p) t)
      ∙ ap (λ (m : ℕ). keep other l ++ (keep p l ++ drop m order)) n
      ∙ ap (λ (r : List ℕ). keep other l ++ (keep p l ++ r)) P.behind
      ∙ sym (append_assoc (keep other l) (keep p l) (drop (length l) order₀))

-- the others put behind them
put_is : (a b : ℕ) (xs ys : List ℕ) → put_mid a ((a + b) - a) xs ys ≡ take a xs ++ (ys ++ drop (a + b) xs)
put_is a b xs ys =
    let k : (a + b) - a ≡ b = omega arith in
    ap (λ (n : ℕ). take a xs ++ (ys ++ drop n (drop a xs))) k ∙ ap (λ (r : List ℕ). take a xs ++ (ys ++ r)) (drop-drop b a xs)

-- what stands behind the held slots
behind-held : (s : SlotList) → length s.order ≡ 64 → drop (length (held_slots s)) s.order ≡ drop s.held s.order
behind-held s e = go (dec_le s.held 64)
  where
    n : length (held_slots s) ≡ min s.held 64
    n = length-take s.held s.order ∙ ap (min s.held) e

    go : Dec (s.held ≤ 64) → drop (length (held_slots s)) s.order ≡ drop s.held s.order
    go (yes h) = let z : length (held_slots s) ≡ s.held = omega (arith, n) in ap (λ (k : ℕ). drop k s.order) z
    go (no h) =
        let a : length s.order ≤ length (held_slots s) = omega (arith, n) in
        let b : length s.order ≤ s.held = omega arith in
        drop_of_length-le s.order a ∙ sym (drop_of_length-le s.order b)

pub parted : (s : SlotList) (gone : List Bool) (order free moved : List ℕ) (i kept dropped count : ℕ) → length s.order ≡ 64 → length (held_slots s) ≤ i → i ≤ length (held_slots s)
    → Parting (is_marked gone) (held_slots s) s.order i order free kept dropped → moved ≡ take dropped free → count ≡ s.count
    → record { order = put_mid kept ((kept + dropped) - kept) order moved; held = kept; count = count } ≡ drop_of s gone
unfolding drop_by
parted s gone order free moved i kept dropped count o h k P m c =
    let stays : List ℕ = keep (λ (x : ℕ). not (is_marked gone x)) (held_slots s) in
    let leaves : List ℕ = keep (is_marked gone) (held_slots s) in
    let n : kept ≡ length stays =
    sym (length-take-le kept order (omega (arith, P.counted, P.few, P.long))) ∙ ap length (P.stay ∙ ap (keep (λ (x : ℕ). not (is_marked gone x))) (take_all i (held_slots s) h)) in
    let e : put_mid kept ((kept + dropped) - kept) order moved ≡ (stays ++ leaves) ++ drop s.held s.order =
    put_is kept dropped order moved
    ∙ ap (λ (r : List ℕ). take kept order ++ (r ++ drop (kept + dropped) order)) m
    ∙ parting-end (is_marked gone) (held_slots s) s.order order free i kept dropped h k P
    ∙ ap (λ (r : List ℕ). (stays ++ leaves) ++ r) (behind-held s o) in
    λ j. record { order = e j; held = n j; count = c j }
