-- A line of `desk` answered: document 01, "Examples", last paragraph. A store is the state with its lent memories; a line makes one call, or is a bad line, which the store
-- is not asked. Assumes nothing: these are definitions.
use Rattle.std.specs.Prelude.{List, [], ◌∷◌, ℕ, ℤ, take}
use Rattle.std.proofs.Math.Option.{none, some}
use Rattle.meaning.specs.Call.{Call, add, ask, change, flush, with_buffer}
use Rattle.meaning.specs.Refusals.{settled}
use Rattle.cache.specs.declared.State.{State}
use Rattle.cache.specs.Run.{Store, Seen, step}
use Rattle.console.specs.Lines.{Command, command_of}
use Rattle.console.specs.Printed.{bad_text, refused_text, added_text, updated_text, flushed_text, answer_text}
use Rattle.console.specs.Room.{filled, filled_to}

-- what is printed of a call that is taken, by what it gets: of a question, the rows of its record. No line makes a proposal, a commit or a withdrawal (Lines.words_say): of
-- these nothing is printed
abbrev pub done_text : {B : Type 0} → Call B → Seen → List ℕ
done_text (add text) s = added_text s.got.kind s.got.number
done_text (ask k b) s = answer_text s.kept s.scanned (take s.got.size s.got.answer)
done_text (change n zs) s = updated_text s.got.rows s.drops
done_text flush s = flushed_text
done_text _ s = []

abbrev pub text_of : {B : Type 0} → Call B → Seen → List ℕ
text_of c s = settled s.got.refusal (done_text c s) (refused_text s.got.refusal)

-- the answer buffer after a call
abbrev pub buffer_after : {B : Type 0} → Call B → List ℕ → Seen → List ℕ
buffer_after (ask k b) buffer s = s.got.answer
buffer_after _ buffer s = buffer

-- the store and the answer buffer after a line, and what is printed for it
pub record Answered : Type 0 where
  pub store : Store
  pub buffer : List ℕ
  pub text : List ℕ

abbrev pub called : Store → List ℕ → Call (List ℕ) → Answered
called s buffer c = record { store = (step s c).0; buffer = buffer_after c buffer (step s c).1; text = text_of c (step s c).1 }

-- the call of a line, with the answer buffer
abbrev pub lending : List ℕ → Call (Unit {0}) → Call (List ℕ)
lending buffer c = with_buffer (λ (u : Unit {0}). buffer) c

abbrev pub commanded : Store → List ℕ → Command → Answered
commanded s buffer (some c) = called s buffer (lending buffer c)
commanded s buffer none = record { store = s; buffer = buffer; text = bad_text }

unfoldable pub answered_of : Store → List ℕ → List ℕ → Answered
answered_of s buffer line = commanded s buffer (command_of line)

-- what is printed for one line after another
abbrev pub printed_for : Store → List ℕ → List (List ℕ) → List (List ℕ)
printed_for s buffer [] = []
printed_for s buffer (l ∷ ls) = (answered_of s buffer l).text ∷ printed_for (answered_of s buffer l).store (answered_of s buffer l).buffer ls

-- ---- as the program does it: the text stands at the start of a lent buffer, as far as there is room

-- how many bytes of text are at the start of the lent buffer, and the state
pub record Reply : Type 0 where
  pub size : ℕ
  pub state : State

pub record Replies : Type 0 where
  pub result : Reply
  pub cells : List ℤ
  pub memory : List ℕ
  pub answer : List ℕ
  pub out : List ℕ

abbrev pub replies : Reply → List ℤ → List ℕ → List ℕ → List ℕ → Replies
replies r cells memory answer out = record { result = r; cells = cells; memory = memory; answer = answer; out = out }

abbrev pub replies_with : List ℕ → Answered → Replies
replies_with out a =
    replies (record { size = filled_to out 0 a.text; state = a.store.state }) a.store.cells a.store.memory a.buffer (filled out 0 a.text)

unfoldable pub reply_of : State → List ℤ → List ℕ → List ℕ → List ℕ → List ℕ → Replies
reply_of s cells memory answer line out = replies_with out (answered_of (record { state = s; cells = cells; memory = memory }) answer line)
