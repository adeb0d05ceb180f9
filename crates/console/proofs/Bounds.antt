-- Laws for callers: what is gathered and what is printed stays within what is lent, and gathering goes on through the input. Assumes nothing.
use mathlib.Core.Bool.{Bool, true, false, not, cond}
use mathlib.Core.List.{List, [], ◌∷◌}
use Prim.Native.Nat.{ℕ, ◌+◌, ◌≤◌, ◌<◌}
use native.Mathlib.Omega.{arith}
use lib.IntN.{ℤ}
use lib.ListN.{length, drop, length-drop}
use Rattle.cache.specs.declared.State.{State}
use Rattle.lists.specs.Lists.{take_while, drop_while}
use Rattle.console.specs.Lines.{is_newline, line_from, has_newline, gathered_of}
use Rattle.console.specs.Desk.{reply_of, answered_of}
use Rattle.console.proofs.Rooms.{filled_within}

-- a byte is taken of what is left, the newline among them
moves-on : (s : List ℕ) → 0 < length s → 0 < length (take_while (λ (b : ℕ). not (is_newline b)) s) + cond (has_newline (drop_while (λ (b : ℕ). not (is_newline b)) s)) 1 0
moves-on [] h = h
moves-on (b ∷ s) h = go (is_newline b)
  where
    go : (n : Bool) → 0 < length (cond (not n) (b ∷ take_while (λ (b : ℕ). not (is_newline b)) s) []) + cond (has_newline (cond (not n) (drop_while (λ (b : ℕ). not (is_newline b)) s) (b ∷ s))) 1 0
    go true = omega arith
    go false = omega arith

pub gather-moves : (input : List ℕ) (from : ℕ) (buffer : List ℕ) (held : ℕ) → from < length input → from < (gathered_of input from buffer held).next
unfolding gathered_of
gather-moves input from buffer held h = omega (arith, moves-on (drop from input) (omega (arith, h, length-drop from input)))

pub gather-within : (input : List ℕ) (from : ℕ) (buffer : List ℕ) (held : ℕ) → held ≤ length buffer → (gathered_of input from buffer held).held ≤ length buffer
unfolding gathered_of
gather-within input from buffer held h = filled_within buffer held (line_from input from) h

pub reply-within : (s : State) (cells : List ℤ) (memory answer line out : List ℕ) → (reply_of s cells memory answer line out).result.size ≤ length out
unfolding reply_of
reply-within s cells memory answer line out = filled_within out 0 (answered_of (record { state = s; cells = cells; memory = memory }) answer line).text (omega arith)
