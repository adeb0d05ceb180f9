-- What `respond` owes at each of its returns: the command that the line says, on the store. Assumes nothing.
use mathlib.Core.Path.{◌≡◌, sym, ap, ap₂, ◌∙◌}
use mathlib.Core.List.{List, []}
use Prim.Native.Nat.{ℕ, ◌+◌, ◌-◌, ◌≤◌}
use native.Mathlib.Omega.{arith}
use borrow.Author.Rules.{part_to_end}
use lib.IntN.{ℤ}
use lib.ListN.{length, take, drop}
use lib.Seq.{take_all}
use Rattle.lists.specs.Lists.{written}
use Rattle.lists.proofs.Written.{length-written, written-there}
use Rattle.cache.specs.declared.State.{State}
use Rattle.meaning.specs.Call.{add, ask, change, flush}
use Rattle.console.specs.declared.Line.TheVariants.{Add, Ask, Do, Flush, Bad}
use Rattle.console.specs.Desk.{Reply}
use Rattle.console.specs.Room.{filled, filled_to}
use Rattle.console.specs.Lines.{Command, command_of, line_of, values_of}
use Rattle.console.specs.Printed.{bad_text}
use Rattle.console.specs.Desk.{commanded, answered_of, Replies, replies, replies_with, reply_of}
use Rattle.console.specs.Private.Commands.{reply_to}
use Rattle.console.proofs.Calling.{store_of}
use Rattle.console.proofs.Said.{command-says, is_ask, is-change, is-flush}

module _ (line : List ℕ) where
  -- ---- the values at the start of the room for them

  module _ (room vs : List ℤ) (long : length room ≡ 512) (f : vs ≡ filled room 0 (values_of (command_of line))) where
    abbrev said : List ℤ
    said = values_of (command_of line)

    values-fit : 0 + length said ≤ length room
    values-fit = omega (arith, (command-says line).few, long)

    values-are : vs ≡ written room 0 said
    values-are = f ∙ ap (written room 0) (take_all (length room - 0) said (omega (arith, values-fit)))

    values-inside : (k : ℕ) → k ≡ length said → k ≤ length vs
    values-inside k e = omega (arith, e, values-fit, ap length values-are, length-written room 0 said values-fit)

    values-there : (k : ℕ) → k ≡ length said → take k vs ≡ said
    values-there k e = ap₂ take e values-are ∙ written-there room 0 said values-fit

    pub asked-inside : (n k : ℕ) → Ask n k ≡ line_of (command_of line) → k ≤ length vs
    asked-inside n k h = values-inside k (is_ask _ n k (sym h)).1

    pub changed-inside : (n k : ℕ) → Do n k ≡ line_of (command_of line) → k ≤ length vs
    changed-inside n k h = values-inside k (is-change _ n k (sym h)).1

  -- ---- each command

  pub text-inside : Add ≡ line_of (command_of line) → 4 ≤ length line
  text-inside h = ((command-says line).text (sym h)).0

  module _ (s : State) (cells : List ℤ) (memory answer out : List ℕ) where
    done : (c : Command) → command_of line ≡ c → (r : Replies) → r ≡ replies_with out (commanded (store_of s cells memory) answer c) → r ≡ reply_of s cells memory answer line out
    unfolding reply_of answered_of
    done c h r k = k ∙ ap (λ (x : Command). replies_with out (commanded (store_of s cells memory) answer x)) (sym h)

    pub reply-add : (r : Reply) (new : List ℕ) → Add ≡ line_of (command_of line)
        → replies r cells memory [] new ≡ reply_to s cells memory [] (add (take (length line - 4) (drop 4 line))) out
        → replies r cells memory answer new ≡ reply_of s cells memory answer line out
    unfolding reply_to
    reply-add r new h k =
        let g : replies r cells memory [] new ≡ reply_to s cells memory [] (add (drop 4 line)) out = k ∙ ap (λ (t : List ℕ). reply_to s cells memory [] (add t) out) (part_to_end line 4) in
        done _ ((command-says line).text (sym h)).1 _ (ap (λ (x : Replies). replies x.result x.cells x.memory answer x.out) g)

    pub reply-flush : (r : Reply) (new : List ℕ) → Flush ≡ line_of (command_of line) → replies r cells memory [] new ≡ reply_to s cells memory [] flush out
        → replies r cells memory answer new ≡ reply_of s cells memory answer line out
    unfolding reply_to
    reply-flush r new h k =
        done _ (is-flush _ (sym h)) _ (ap (λ (x : Replies). replies x.result x.cells x.memory answer x.out) k)

    pub reply-bad : (n : ℕ) (new : List ℕ) → Bad ≡ line_of (command_of line) → (n ≡ filled_to out 0 bad_text) × (new ≡ filled out 0 bad_text)
        → replies (record { size = n; state = s }) cells memory answer new ≡ reply_of s cells memory answer line out
    reply-bad n new h w =
        done _ ((command-says line).bad (sym h)) _
        (λ m. replies (record { size = w.0 m; state = s }) cells memory answer (w.1 m))

    module _ (room vs : List ℤ) (long : length room ≡ 512) (f : vs ≡ filled room 0 (values_of (command_of line))) (n k : ℕ) where
      pub reply-ask : (r : Reply) (kept answered new : List ℕ) → Ask n k ≡ line_of (command_of line)
          → replies r cells kept answered new ≡ reply_to s cells memory answer (ask (record { query = n; values = take k vs }) answer) out
          → replies r cells kept answered new ≡ reply_of s cells memory answer line out
      unfolding reply_to
      reply-ask r kept answered new h g =
          let c = is_ask _ n k (sym h) in
          done _ c.0 _ (g ∙ ap (λ (zs : List ℤ). reply_to s cells memory answer (ask (record { query = n; values = zs }) answer) out) (values-there room vs long f k c.1))

      pub reply-change : (r : Reply) (after : List ℤ) (new : List ℕ) → Do n k ≡ line_of (command_of line)
          → replies r after memory [] new ≡ reply_to s cells memory [] (change n (take k vs)) out
          → replies r after memory answer new ≡ reply_of s cells memory answer line out
      unfolding reply_to
      reply-change r after new h g =
          let c = is-change _ n k (sym h) in
          let x = g ∙ ap (λ (zs : List ℤ). reply_to s cells memory [] (change n zs) out) (values-there room vs long f k c.1) in
          done _ c.0 _ (ap (λ (x : Replies). replies x.result x.cells x.memory answer x.out) x)
