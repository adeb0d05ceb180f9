-- Demands 1 and 3 of lines: what `desk` prints is what the same lines print on the plain store of document 01, but for what that store does not have: kept or new, rows
-- read, and drops. Each claim stands below its sentence, and is proved in proofs/Demand. Assumes nothing: these are definitions.
use Rattle.std.specs.Prelude.{◌≡◌, ◌≢◌, true, List, [], ◌∷◌, ℕ, ◌+◌, ◌*◌, ◌^◌, ◌≤◌, ◌<◌, ℤ, length, take}
use Rattle.meaning.specs.Plain as P
use Rattle.meaning.specs.Plain.{Lengths, Plain, record_of}
use Rattle.std.proofs.Math.Option.{none, some}
use Rattle.meaning.specs.Key.{Key, same_key}
use Rattle.meaning.specs.Call.{Call, ask}
use Rattle.trace.specs.History.{Ground}
use Rattle.cache.specs.Means.{tables_in}
use Rattle.cache.specs.Run.{Store, Start, opening_of, opened, Got, Seen, step, after, gets, plain_call, buffer_of, got_of, plain_after}
use Rattle.cache.specs.Demand.{slot_count, slot_size, history_of}
use Rattle.lists.specs.Lists.{all}
use Rattle.meaning.specs.Limits.{is_within32}
use Rattle.meaning.specs.Tokens.{is_digit, decimal}
use Rattle.console.specs.Room.{filled, filled_to}
use Rattle.console.specs.Lines.{word_value, Command, command_of}
use Rattle.console.specs.Printed.{decimal_text, number_text, bad_text, refused_text, answer_text}
use Rattle.console.specs.Desk.{text_of, buffer_after, lending, answered_of, printed_for}

-- ---- a bad line, and a line whose call is refused, change nothing

abbrev pub BadChangesNothing : Type 0
BadChangesNothing = (s : Store) (buffer line : List ℕ) → command_of line ≡ none → answered_of s buffer line ≡ record { store = s; buffer = buffer; text = bad_text }

-- the number that a command gets; 0 of a bad line, which makes no call
abbrev pub refusal_of : Store → List ℕ → Command → ℕ
refusal_of s buffer (some c) = (step s (lending buffer c)).1.got.refusal
refusal_of s buffer none = 0

abbrev pub RefusedChangesNothing : Type 0
RefusedChangesNothing = (s : Store) (buffer line : List ℕ) → refusal_of s buffer (command_of line) ≢ 0
    → answered_of s buffer line ≡ record { store = s; buffer = buffer; text = refused_text (refusal_of s buffer (command_of line)) }

-- ---- the same lines on the plain store

-- of a line, what the plain store does not say: 1 for kept, rows read, and drops
pub record Unsaid : Type 0 where
  pub kept : ℕ
  pub scanned : ℕ
  pub drops : ℕ

abbrev pub seen_with : Unsaid → Got → Seen
seen_with u g = record { got = g; kept = u.kept; scanned = u.scanned; drops = u.drops }

-- the plain store and the answer buffer after a line, and what is printed for it
pub record PlainAnswered : Type 0 where
  pub store : Plain
  pub buffer : List ℕ
  pub text : List ℕ

abbrev pub plain_called : Lengths → Plain → List ℕ → Unsaid → Call (List ℕ) → PlainAnswered
plain_called lent p buffer u c =
    let r = P.step lent p (plain_call c) in
    let s : Seen = seen_with u (got_of (buffer_of c) r.1) in
    record { store = r.0; buffer = buffer_after c buffer s; text = text_of c s }

abbrev pub plain_commanded : Lengths → Plain → List ℕ → Unsaid → Command → PlainAnswered
plain_commanded lent p buffer u (some c) = plain_called lent p buffer u (lending buffer c)
plain_commanded lent p buffer u none = record { store = p; buffer = buffer; text = bad_text }

-- a list of lines, each with what is not said of it
abbrev pub lines_of : List (List ℕ × Unsaid) → List (List ℕ)
lines_of [] = []
lines_of (x ∷ xs) = x.0 ∷ lines_of xs

abbrev pub plain_printed : Lengths → Plain → List ℕ → List (List ℕ × Unsaid) → List (List ℕ)
plain_printed lent p buffer [] = []
plain_printed lent p buffer (x ∷ xs) =
    let a = plain_commanded lent p buffer x.1 (command_of x.0) in
    a.text ∷ plain_printed lent a.store a.buffer xs

-- "every call gets the refusal number, the statement's kind and number, the record and the count of rows inserted, matched or deleted that the same call gets from the
-- plain store of document 01": of every opening, answer buffer and list of lines
abbrev pub PrintsAsPlain : Type 0
PrintsAsPlain = (o : Start) (buffer : List ℕ) (ls : List (List ℕ))
    → (xs : List (List ℕ × Unsaid)) × (lines_of xs ≡ ls) × (printed_for (opened o) buffer ls ≡ plain_printed (opening_of o).lent (P.opened (opening_of o)) buffer xs)

-- what stood in the answer buffer before does not matter, but its length
abbrev pub BufferDoesNotMatter : Type 0
BufferDoesNotMatter = (o : Start) (b c : List ℕ) (ls : List (List ℕ)) → length b ≡ length c → printed_for (opened o) b ls ≡ printed_for (opened o) c ls

-- ---- the calls that a list of lines makes: one each, but a bad line makes none

abbrev pub calls_by : List ℕ → Command → List (Call (List ℕ)) → List (Call (List ℕ))
calls_by buffer (some c) cs = lending buffer c ∷ cs
calls_by buffer none cs = cs

abbrev pub calls_for : Store → List ℕ → List (List ℕ) → List (Call (List ℕ))
calls_for s buffer [] = []
calls_for s buffer (l ∷ ls) = calls_by buffer (command_of l) (calls_for (answered_of s buffer l).store (answered_of s buffer l).buffer ls)

-- the store and the answer buffer after a list of lines
abbrev pub store_after : Store → List ℕ → List (List ℕ) → Store
store_after s buffer [] = s
store_after s buffer (l ∷ ls) = store_after (answered_of s buffer l).store (answered_of s buffer l).buffer ls

abbrev pub LinesMakeCalls : Type 0
LinesMakeCalls = (s : Store) (buffer : List ℕ) (ls : List (List ℕ)) → store_after s buffer ls ≡ after s (calls_for s buffer ls)

-- each line with what is not said of it, by what its call gets
abbrev pub unsaid_in : List Seen → Unsaid
unsaid_in [] = record { kept = 0; scanned = 0; drops = 0 }
unsaid_in (x ∷ xs) = record { kept = x.kept; scanned = x.scanned; drops = x.drops }

abbrev pub tail : List Seen → List Seen
tail [] = []
tail (x ∷ xs) = xs

abbrev pub unsaid_by : Command → List Seen → Unsaid
unsaid_by (some c) xs = unsaid_in xs
unsaid_by none xs = unsaid_in []

abbrev pub seen_after : Command → List Seen → List Seen
seen_after (some c) xs = tail xs
seen_after none xs = xs

abbrev pub said_of : List (List ℕ) → List Seen → List (List ℕ × Unsaid)
said_of [] xs = []
said_of (l ∷ ls) xs = (l, unsaid_by (command_of l) xs) ∷ said_of ls (seen_after (command_of l) xs)

-- kept or new, rows read and drops are those of the calls
abbrev pub plain_printed_for : Start → List ℕ → List (List ℕ) → List (List ℕ)
plain_printed_for o buffer ls =
    plain_printed (opening_of o).lent (P.opened (opening_of o)) buffer (said_of ls (gets (opened o) (calls_for (opened o) buffer ls)))

abbrev pub PrintsItsCalls : Type 0
PrintsItsCalls = (o : Start) (buffer : List ℕ) (ls : List (List ℕ)) → printed_for (opened o) buffer ls ≡ plain_printed_for o buffer ls

-- "after the list the tables hold the same rows as that store's"
abbrev pub TablesAsPlain : Type 0
TablesAsPlain = (o : Start) (buffer : List ℕ) (ls : List (List ℕ))
    → tables_in (store_after (opened o) buffer ls).state (store_after (opened o) buffer ls).cells ≡ (plain_after o (calls_for (opened o) buffer ls)).tables

-- "a question with its values is worked out anew only if ..": of a question after a list of lines
abbrev pub AnewOnlyIf : Type 0
AnewOnlyIf = (o : Start) (buffer : List ℕ) (ls : List (List ℕ)) (k : Key) (lent : List ℕ)
    → (step (store_after (opened o) buffer ls) (ask k lent)).1.got.refusal ≡ 0
    → (step (store_after (opened o) buffer ls) (ask k lent)).1.kept ≡ 0
    → Ground same_key (slot_count o) (slot_size o) (record_of (plain_after o (calls_for (opened o) buffer ls)) k) k (history_of o (calls_for (opened o) buffer ls))

-- ---- what is printed reads back, and has room

-- a number of at most 20 digits, as all of 64 bits are: its text has digits alone, and they are read as that number
abbrev pub NumberReadsBack : Type 0
NumberReadsBack = (n : ℕ) → n < 10 ^ 20 → (decimal (decimal_text n) ≡ n) × (all is_digit (decimal_text n) ≡ true)

-- a value of an answer: its text is a value of a line, and the same one
abbrev pub ValueReadsBack : Type 0
ValueReadsBack = (z : ℤ) → is_within32 z ≡ true → word_value (number_text z) ≡ some z

-- of n bytes of an answer the text has at most 3.5 n + 33; and where at most 65,536 are lent for answers, no line prints more than 262,144
abbrev pub AnswerTextShort : Type 0
AnswerTextShort = (kept scanned : ℕ) (bs : List ℕ) → 2 * length (answer_text kept scanned bs) ≤ 7 * length bs + 66

abbrev pub TextShort : Type 0
TextShort = (s : Store) (buffer line : List ℕ) → length buffer ≤ 65536 → length (answered_of s buffer line).text ≤ 262144

-- a buffer that is as long as a text holds all of it
abbrev pub AllPrinted : Type 0
AllPrinted = (out text : List ℕ) → length text ≤ length out → (filled_to out 0 text ≡ length text) × (take (length text) (filled out 0 text) ≡ text)

-- ---- all of these

pub record Demands : Type 0 where
  pub bad_changes_nothing : BadChangesNothing
  pub refused_changes_nothing : RefusedChangesNothing
  pub prints_as_plain : PrintsAsPlain
  pub buffer_does_not_matter : BufferDoesNotMatter
  pub lines_make_calls : LinesMakeCalls
  pub prints_its_calls : PrintsItsCalls
  pub tables_as_plain : TablesAsPlain
  pub anew_only_if : AnewOnlyIf
  pub number_reads_back : NumberReadsBack
  pub value_reads_back : ValueReadsBack
  pub answer_text_short : AnswerTextShort
  pub text_short : TextShort
  pub all_printed : AllPrinted
