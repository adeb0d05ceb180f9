-- What `take_last` and `drop` return, over plain variables. Assumes nothing.
use mathlib.Core.Path.{◌≡◌, refl, sym, ap, ◌∙◌}
use mathlib.Core.Bool.{Bool, true, false, cond}
use mathlib.Core.List.{List, ◌++◌}
use Prim.Native.Nat.{ℕ, ◌+◌, ◌-◌, ◌≤◌, ◌<◌, min}
use native.Mathlib.Omega.{arith}
use borrow.Author.Tests.{leb-true, le-leb}
use lib.Dec.{leb}
use lib.ListN.{length, take, drop, get_or}
use Rattle.std.specs.Prelude.{Option, Some, None}
use Rattle.lists.proofs.Bools.{and_left, and_right, and_both}
use Rattle.lists.proofs.Places.{get_or-inside}
use Rattle.slots.specs.declared.SlotList.{SlotList}
use Rattle.slots.specs.declared.Taken.{Taken}
use Rattle.slots.proofs.Fronts.{front_turned, front-past}
use Rattle.slots.specs.Order.{front, front_of, last_taken, is_open, taken_of}

-- ---- the last slot taken

pub open_is : (s : SlotList) → is_open s ≡ true → (1 ≤ s.count) × (s.count ≤ 64)
open_is s h = (leb-true 1 s.count (and_left (leb 1 s.count) _ h), leb-true s.count 64 (and_right (leb 1 s.count) _ h))

none-some : {t : Taken} → ◌≡◌ {A = Option Taken} None (Some t) → ⊥
none-some e = cc

module _ (s : SlotList) where
  is_taken : (b : Bool) → is_open s ≡ b → taken_of s ≡ cond b (Some (last_taken s)) None
  unfolding taken_of
  is_taken b h = ap (λ (t : Bool). cond t (Some (last_taken s)) None) h

  pub taken_none : is_open s ≡ false → taken_of s ≡ None
  taken_none h = is_taken false h

  pub taken-some : is_open s ≡ true → taken_of s ≡ Some (last_taken s)
  taken-some h = is_taken true h

  pub taken_open : (t : Taken) → taken_of s ≡ Some t → (is_open s ≡ true) × (t ≡ last_taken s)
  taken_open t h = go (is_open s) refl
    where
      go : (b : Bool) → is_open s ≡ b → (is_open s ≡ true) × (t ≡ last_taken s)
      go true e = let k = taken-some e in (e, cc)
      go false e = let k = taken_none e in absurd (none-some (sym k ∙ h))

  pub not_open : taken_of s ≡ None → is_open s ≡ false
  not_open h = go (is_open s) refl
    where
      go : (b : Bool) → is_open s ≡ b → is_open s ≡ false
      go true e = let k = taken-some e in absurd (none-some (sym h ∙ k))
      go false e = e

-- ---- a slot moved to the front

pub front-turned_is : (s : SlotList) (p at : ℕ) (r : List ℕ) → at < length s.order → at ≡ p
    → (let t = take (at + 1) s.order in r ≡ drop (length t - 1) t ++ take (length t - 1) t)
    → record { order = r ++ drop (at + 1) s.order; held = s.held; count = s.count } ≡ front_of s p
unfolding front_of
front-turned_is s p at r h e t =
    ap (λ (l : List ℕ). record { order = l; held = s.held; count = s.count }) (front_turned at s.order r h t ∙ ap (λ (k : ℕ). front k s.order) e)

pub front_past_is : (s : SlotList) (p : ℕ) → length s.order ≤ p → s ≡ front_of s p
unfolding front_of
front_past_is s p h = ap (λ (l : List ℕ). record { order = l; held = s.held; count = s.count }) (sym (front-past p s.order h))

-- ---- what `take_last` returns

pub taken_past : (s : SlotList) → ((1 ≤ s.count) × (s.count ≤ 64) → ⊥) → taken_of s ≡ None
taken_past s h = go (is_open s) refl
  where
    go : (b : Bool) → is_open s ≡ b → taken_of s ≡ None
    go true e = absurd (h (open_is s e))
    go false e = taken_none s e

pub taken_last_is : (s m : SlotList) (last x h : ℕ) → last + 1 ≡ s.count → last < 64 → m ≡ front_of s last → x ≡ get_or s.order last x → last < length s.order → h ≡ min (s.held + 1) s.count
    → Some (record { slot = x; slots = record { order = m.order; held = h; count = m.count } }) ≡ taken_of s
unfolding front_of
taken_last_is s m last x h n b e g l k =
    let z : last ≡ s.count - 1 = omega arith in
    let o : is_open s ≡ true = and_both (leb 1 s.count) _ (le-leb 1 s.count (omega arith)) (le-leb s.count 64 (omega arith)) in
    let y : x ≡ get_or s.order (s.count - 1) 0 = g ∙ get_or-inside s.order last x 0 l ∙ ap (λ (i : ℕ). get_or s.order i 0) z in
    let w : m ≡ front_of s (s.count - 1) = e ∙ ap (front_of s) z in
    (λ j. Some (record { slot = y j; slots = record { order = (w j).order; held = k j; count = (w j).count } })) ∙ sym (taken-some s o)
