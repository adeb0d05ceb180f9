-- Laws of what the input's pieces do: one after another is their join, a run of bytes is held, and what is printed in all is what the lines of the input print. Assumes
-- nothing.
use mathlib.Core.Path.{◌≡◌, refl, sym, ap, ap₂, ◌∙◌}
use mathlib.Core.Bool.{Bool, true, false}
use mathlib.Core.Option.{none}
use mathlib.Core.List.{List, [], ◌∷◌, ◌++◌, append_assoc, append-nil}
use Prim.Native.Nat.{ℕ, ◌-◌, ◌≤◌, ◌<◌}
use native.Mathlib.Decide.{dec_le}
use native.Mathlib.Omega.{arith}
use borrow.Author.Tests.{lt-leb}
use lib.ListN.{length, take}
use lib.Seq.{take_all, take-take, length-take-le}
use Rattle.lists.specs.Lists.{flat}
use Rattle.cache.specs.Run.{Store, opened}
use Rattle.console.specs.Lines.{is_newline, line_says, most_line, command_of}
use Rattle.console.specs.Desk.{Answered, commanded, answered_of, printed_for}
use Rattle.console.specs.Demand.{store_after}
use Rattle.console.proofs.Demand.{demands as of-lines}
use Rattle.console.proofs.Rooms.{take-both}
use Rattle.serve.specs.Input.{ended_in, held_after, last_line, Session, most_held, holding, answering, next_session, fed_byte, text_at, fed, printed_in, printed_last, finished, PiecesJoin, lines_of, PrintsTheLines, EndsAsTheLines, PrintsAsPlain, Demands}

-- ---- one piece after another

pub pieces-join : PiecesJoin
unfolding fed printed_in
pieces-join s [] b = (refl, refl)
pieces-join s (x ∷ a) b =
    let h = pieces-join (fed_byte s x) a b in
    (h.0, ap (λ (t : List ℕ). text_at s x ++ t) h.1 ∙ sym (append_assoc (text_at s x) (printed_in (fed_byte s x) a) (printed_in (fed (fed_byte s x) a) b)))

-- ---- the first bytes of a line

module _ {A : Type 0} where
  -- what is cut off does not come back
  pub take-held : (n : ℕ) (xs ys : List A) → take n (take n xs ++ ys) ≡ take n (xs ++ ys)
  take-held n xs ys = go (dec_le (length xs) n)
    where
      go : Dec (length xs ≤ n) → take n (take n xs ++ ys) ≡ take n (xs ++ ys)
      go (yes h) = ap (λ (x : List A). take n (x ++ ys)) (take_all n xs h)
      go (no h) =
          let l : length (take n xs) ≡ n = length-take-le n xs (omega arith) in
          let z : n - length (take n xs) ≡ n - length xs = omega (arith, l) in
          take-both n (take n xs) ys
          ∙ ap₂ (λ (x : List A) (k : ℕ). x ++ take k ys) (take-take n n xs (omega arith)) z
          ∙ sym (take-both n xs ys)

-- a line that is cut says what the line says: one of more than 512 bytes is a bad line
long-bad : (line : List ℕ) → most_line < length line → command_of line ≡ none
unfolding command_of
long-bad line h = ap (λ (b : Bool). elim b [ true ↦ line_says line | false ↦ none ]) (lt-leb (length line) most_line h)

command-held : (line : List ℕ) → command_of (take most_held line) ≡ command_of line
command-held line = go (dec_le (length line) most_held)
  where
    go : Dec (length line ≤ most_held) → command_of (take most_held line) ≡ command_of line
    go (yes h) = ap command_of (take_all most_held line h)
    go (no h) =
        let l : length (take most_held line) ≡ most_held = length-take-le most_held line (omega arith) in
        long-bad (take most_held line) (omega (arith, l)) ∙ sym (long-bad line (omega arith))

answered-held : (s : Store) (buffer line : List ℕ) → answered_of s buffer (take most_held line) ≡ answered_of s buffer line
unfolding answered_of
answered-held s buffer line = ap (commanded s buffer) (command-held line)

-- ---- the lines of the whole input

abbrev session_with : Store → List ℕ → List ℕ → Session
session_with s buffer held = record { store = s; buffer = buffer; held = take most_held held }

-- what is printed from a session on
abbrev printed_from : Session → List ℕ → List ℕ
printed_from s bs = printed_in s bs ++ printed_last (fed s bs)

abbrev lines_from : List ℕ → List ℕ → List (List ℕ)
lines_from held bs = ended_in held bs ++ last_line (held_after held bs)

last-printed : (s : Store) (buffer held : List ℕ) → printed_last (session_with s buffer held) ≡ flat (printed_for s buffer (last_line held))
last-printed s buffer [] = refl
last-printed s buffer (b ∷ held) =
    ap (λ (a : Answered). a.text) (answered-held s buffer (b ∷ held)) ∙ sym (append-nil (answered_of s buffer (b ∷ held)).text)

-- a byte, by whether it ends the line
abbrev pub fed_by : Session → ℕ → Bool → Session
fed_by s b n = elim n [ true ↦ next_session (answering s) | false ↦ holding s (b ∷ []) ]

abbrev pub text_by : Session → Bool → List ℕ
text_by s n = elim n [ true ↦ (answering s).text | false ↦ [] ]

abbrev ended_by : List ℕ → ℕ → List ℕ → Bool → List (List ℕ)
ended_by held b bs n = elim n [ true ↦ held ∷ ended_in [] bs | false ↦ ended_in (held ++ (b ∷ [])) bs ]

abbrev held_by : List ℕ → ℕ → List ℕ → Bool → List ℕ
held_by held b bs n = elim n [ true ↦ held_after [] bs | false ↦ held_after (held ++ (b ∷ [])) bs ]

from-printed : (bs : List ℕ) (s : Store) (buffer held : List ℕ) → printed_from (session_with s buffer held) bs ≡ flat (printed_for s buffer (lines_from held bs))
unfolding fed printed_in
from-printed [] s buffer held = last-printed s buffer held
from-printed (b ∷ bs) s buffer held = go (is_newline b) (from-printed bs)
  where
    go : (n : Bool) → ((s : Store) (buffer held : List ℕ) → printed_from (session_with s buffer held) bs ≡ flat (printed_for s buffer (lines_from held bs)))
        → let p = session_with s buffer held in
        (text_by p n ++ printed_in (fed_by p b n) bs) ++ printed_last (fed (fed_by p b n) bs) ≡ flat (printed_for s buffer (ended_by held b bs n ++ last_line (held_by held b bs n)))
    go true h =
        let a = answering (session_with s buffer held) in
        append_assoc a.text (printed_in (next_session a) bs) (printed_last (fed (next_session a) bs))
        ∙ ap (λ (t : List ℕ). a.text ++ t) (h a.store a.buffer [])
        ∙ ap (λ (x : Answered). x.text ++ flat (printed_for x.store x.buffer (lines_from [] bs))) (answered-held s buffer held)
    go false h =
        ap (λ (t : List ℕ). printed_from (record { store = s; buffer = buffer; held = t }) bs) (take-held most_held held (b ∷ []))
        ∙ h s buffer (held ++ (b ∷ []))

pub prints-the-lines : PrintsTheLines
prints-the-lines s buffer input = from-printed input s buffer []

-- ---- the store after them

last_stored : (s : Store) (buffer held : List ℕ) → (finished (session_with s buffer held)).store ≡ store_after s buffer (last_line held)
last_stored s buffer [] = refl
last_stored s buffer (b ∷ held) = ap (λ (a : Answered). a.store) (answered-held s buffer (b ∷ held))

from-stored : (bs : List ℕ) (s : Store) (buffer held : List ℕ) → (finished (fed (session_with s buffer held) bs)).store ≡ store_after s buffer (lines_from held bs)
unfolding fed
from-stored [] s buffer held = last_stored s buffer held
from-stored (b ∷ bs) s buffer held = go (is_newline b) (from-stored bs)
  where
    go : (n : Bool) → ((s : Store) (buffer held : List ℕ) → (finished (fed (session_with s buffer held) bs)).store ≡ store_after s buffer (lines_from held bs))
        → (finished (fed (fed_by (session_with s buffer held) b n) bs)).store ≡ store_after s buffer (ended_by held b bs n ++ last_line (held_by held b bs n))
    go true h =
        let a = answering (session_with s buffer held) in
        h a.store a.buffer []
        ∙ ap (λ (x : Answered). store_after x.store x.buffer (lines_from [] bs)) (answered-held s buffer held)
    go false h =
        ap (λ (t : List ℕ). (finished (fed (record { store = s; buffer = buffer; held = t }) bs)).store) (take-held most_held held (b ∷ []))
        ∙ h s buffer (held ++ (b ∷ []))

pub ends-as-the-lines : EndsAsTheLines
ends-as-the-lines s buffer input = from-stored input s buffer []

-- ---- the plain store

pub prints_as_plain : PrintsAsPlain
prints_as_plain o buffer input = prints-the-lines (opened o) buffer input ∙ ap flat (of-lines.prints_its_calls o buffer (lines_of input))

-- ---- all claims

pub demands : Demands
demands = record {
  pieces_join = pieces-join;
  prints_the_lines = prints-the-lines;
  ends_as_the_lines = ends-as-the-lines;
  prints_as_plain = prints_as_plain;
}
