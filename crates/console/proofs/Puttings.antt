-- Pieces put by a writer one after another: one and then another is both at once. Assumes nothing.
use mathlib.Core.Path.{◌≡◌, refl, sym, ap₂, ◌∙◌, subst}
use mathlib.Core.List.{List, [], ◌++◌}
use Rattle.console.specs.declared.writer.Writer.{Writer}
use Rattle.console.specs.Room.{filled, filled_to}
use Rattle.console.specs.Private.Pieces.{Puts}
use Rattle.console.proofs.Rooms.{filled-nil, filled-append, filled_to-append}

module _ {A : Type 0} where
  pub puts_none : (w : Writer A) → Puts w [] w
  puts_none w =
      let e = filled-nil w.out.now w.place in
      record { same = refl; place = sym e.1; items = sym e.0 }

  pub puts-as : {w v : Writer A} {xs ys : List A} → xs ≡ ys → Puts w xs v → Puts w ys v
  puts-as {w} {v} e h = subst (λ (t : List A). Puts w t v) e h

  -- one piece, and then another behind it
  pub puts-both : {u v w : Writer A} {xs ys : List A} → Puts u xs v → Puts v ys w → Puts u (xs ++ ys) w
  puts-both {u} {v} {w} {xs} {ys} h k = record {
    same = k.same ∙ h.same;
    place = k.place ∙ ap₂ (λ (l : List A) n. filled_to l n ys) h.items h.place ∙ filled_to-append u.out.now u.place xs ys;
    items = k.items ∙ ap₂ (λ (l : List A) n. filled l n ys) h.items h.place ∙ filled-append u.out.now u.place xs ys;
  }

  -- ---- a loop that puts pieces: whatever is left of the goal to put, putting it is putting the goal

  pub record Left (goal : List A) (u : Writer A) (left : List A) (v : Writer A) : Type 0 where
    pub rest : (w : Writer A) → Puts v left w → Puts u goal w

  pub left-start : {goal left : List A} {u : Writer A} → left ≡ goal → Left goal u left u
  left-start e = record { rest = λ w h. puts-as e h }

  pub left-more : {goal : List A} {u v w : Writer A} {left : List A} (piece less : List A) → left ≡ piece ++ less → Puts v piece w → Left goal u left v → Left goal u less w
  left-more piece less e h l = record { rest = λ x k. l.rest x (puts-as (sym e) (puts-both h k)) }

  pub left_end : {goal : List A} {u v : Writer A} {left : List A} → left ≡ [] → Left goal u left v → Puts u goal v
  left_end {goal} {u} {v} e l = l.rest v (puts-as (sym e) (puts_none v))
