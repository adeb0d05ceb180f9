-- A line gathered: what stands before the newline, as far as there is room. Assumes nothing.
use mathlib.Core.Path.{◌≡◌, refl, ap, ◌∙◌}
use mathlib.Core.Bool.{Bool, true, false, not, cond}
use mathlib.Core.List.{List}
use Prim.Native.Nat.{ℕ, ◌+◌}
use mir.Val.{bool_byte}
use lib.ListN.{length, take, drop}
use Rattle.std.specs.Prelude.{is_some, position, unwrap_or}
use Rattle.lists.proofs.Runs.{take-run}
use Rattle.console.specs.Lines.{is_newline, line_from, gathered_of}
use Rattle.console.specs.Room.{filled_to}
use Rattle.console.proofs.Finding.{run-found, found-is}

one : (b : Bool) → bool_byte b ≡ cond b 1 0
one true = refl
one false = refl

module _ (input : List ℕ) (from : ℕ) (line : List ℕ) (held : ℕ) where
  abbrev left : List ℕ
  left = drop from input

  -- by the place of the line's end, or else the length of what is left
  module _ (n : ℕ) (e : n ≡ unwrap_or (position is_newline left) (length left)) where
    pub piece_is : take n left ≡ line_from input from
    piece_is = ap (λ (k : ℕ). take k left) (e ∙ run-found is_newline left) ∙ take-run (λ (b : ℕ). not (is_newline b)) left

    pub gathered : (h k : ℕ) (b : Bool) → h ≡ filled_to line held (line_from input from) → b ≡ is_some (position is_newline left) → k ≡ bool_byte b
        → record { next = from + n + k; held = h; ended = b } ≡ gathered_of input from line held
    unfolding gathered_of
    gathered h k b f g q = λ i. record {
      next = from + (e ∙ run-found is_newline left) i + (q ∙ one b ∙ ap (λ (x : Bool). cond x 1 0) (g ∙ found-is is_newline left)) i;
      held = f i;
      ended = (g ∙ found-is is_newline left) i;
    }
