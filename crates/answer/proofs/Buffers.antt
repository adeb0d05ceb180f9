-- Bytes put into a buffer: what is put if it fits or not. Assumes nothing.
use mathlib.Core.Path.{◌≡◌, ap}
use mathlib.Core.Bool.{Bool, cond}
use mathlib.Core.List.{List}
use Prim.Native.Nat.{ℕ, ◌+◌, ◌≤◌, ◌<◌}
use borrow.Author.Tests.{le-leb, lt-leb}
use lib.ListN.{length}
use Rattle.lists.specs.Lists.{written}
use Rattle.answer.specs.Answer.{put}

module _ (out : List ℕ) (at : ℕ) where
  -- what is put is written if it fits, and else nothing is
  pub put-fits : (bs : List ℕ) → at + length bs ≤ length out → put out at bs ≡ written out at bs
  put-fits bs h = ap (λ (b : Bool). cond b (written out at bs) out) (le-leb (at + length bs) (length out) h)

  pub put-not : (bs : List ℕ) → length out < at + length bs → put out at bs ≡ out
  put-not bs h = ap (λ (b : Bool). cond b (written out at bs) out) (lt-leb (at + length bs) (length out) h)
