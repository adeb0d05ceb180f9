-- The store that keeps answers, as a model: the plain store beside the slots. Each call's results and what it leaves; a list of calls. A means of proof:
-- the calls themselves have definitions of their own, on the state as the program has it. Assumes nothing: these are definitions.
use Rattle.std.specs.Prelude.{Bool, true, false, List, [], ◌∷◌, ℕ, length, replicate}
use Rattle.std.proofs.Math.Option.{Option, none, some}
use Rattle.meaning.specs.Key.{Key, same_key}
use Rattle.meaning.specs.Plain as P
use Rattle.meaning.specs.Plain.{Lengths, Plain, Opening, opening_refused, ask_conditions, refusal, record_of, too_many, rows_read, drops_key, Out, refused, answered, does, guard, Note}
use Rattle.meaning.specs.Refusals.{is_short, kept_conditions, new_conditions, lowest_of}
use Rattle.meaning.specs.Call.{Call, add, ask, change, flush, propose, commit, withdraw}
use Rattle.trace.specs.History.{fits_slot}
use Rattle.trace.specs.Private.Slots.{Held, Cache, slot_bytes, empty, find, move_to_front, put, drop_by, drop_count}

-- what a call gets: what the plain store gives, 1 for a kept answer, the rows read, and the kept answers dropped
pub record Seen : Type 0 where
  pub out : Out
  pub kept : ℕ
  pub scanned : ℕ
  pub drops : ℕ

abbrev pub plainly : Out → Seen
plainly o = record { out = o; kept = 0; scanned = 0; drops = 0 }

-- a refused call: its number, and nothing else
abbrev pub turned : ℕ → Seen
turned n = plainly (refused n)

pub record Model : Type 0 where
  pub store : Plain
  pub cache : Cache Key

-- the refusals of a question but 16 and 13
abbrev pub ask_refusal : Lengths → Plain → Key → ℕ
ask_refusal lent p k = lowest_of (ask_conditions lent p k)

-- 13, for an answer of these bytes
abbrev pub short_refusal : ℕ → List ℕ → ℕ
short_refusal buffer r = lowest_of (kept_conditions (is_short buffer (length r)))

-- 16 (A.1) or 13, for an answer worked out anew
abbrev pub new_refusal : Plain → Key → ℕ → ℕ
new_refusal p k buffer = lowest_of (new_conditions (too_many p k) (is_short buffer (length (record_of p k))))

-- a store of slots of `size` bytes, with memories of the lengths `lent`
module _ (lent : Lengths) (size : ℕ) where
  -- a question, by whether a slot holds its key: "Asking gives: 1 for kept or 0 for new; rows read (0 if kept, else the table's row count)"; over two tables
  -- as `rows_read` says
  abbrev pub asked : Model → Key → ℕ → Option (Held Key × List (Held Key)) → Model × Seen
  asked s k buffer none =
      guard (new_refusal s.store k buffer) s turned (
        record { store = s.store; cache = put size (fits_slot size (record_of s.store k)) s.cache k (record_of s.store k) },
        record { out = answered (record_of s.store k); kept = 0; scanned = rows_read s.store k; drops = 0 },
      )
  asked s k buffer (some w) =
      guard (short_refusal buffer (slot_bytes size s.cache.memory w.0)) s turned (
        record { store = s.store; cache = move_to_front s.cache w },
        record { out = answered (slot_bytes size s.cache.memory w.0); kept = 1; scanned = 0; drops = 0 },
      )

  -- a text, a proposal or a withdrawal: the kept answers stay
  abbrev pub leaving : Model → Call ℕ → Model × Seen
  leaving s c = (record { store = (does s.store c).0; cache = s.cache }, plainly (does s.store c).1)

  -- an update or a flush, that drops the keys that d matches
  abbrev pub dropping : Model → Call ℕ → (Key → Bool) → Model × Seen
  dropping s c d = (
    record { store = (does s.store c).0; cache = drop_by d s.cache },
    record { out = (does s.store c).1; kept = 0; scanned = 0; drops = drop_count d s.cache },
  )

  -- a commit, that drops what the update of its note does: A.8, "the drop count is the commit's"
  abbrev pub committing : Model → Option Note → Model × Seen
  committing s none = leaving s commit
  committing s (some x) = dropping s commit (drops_key s.store x.update x.values)

  abbrev pub step : Model → Call ℕ → Model × Seen
  step s (add text) = guard (refusal lent s.store (add text)) s turned (leaving s (add text))
  step s (ask k buffer) = guard (ask_refusal lent s.store k) s turned (asked s k buffer (find same_key k s.cache.held))
  step s (change n us) = guard (refusal lent s.store (change n us)) s turned (dropping s (change n us) (drops_key s.store n us))
  step s flush = guard (refusal lent s.store flush) s turned (dropping s flush (λ k. true))
  step s (propose n us) = guard (refusal lent s.store (propose n us)) s turned (leaving s (propose n us))
  step s commit = guard (refusal lent s.store commit) s turned (committing s s.store.pending)
  step s withdraw = guard (refusal lent s.store withdraw) s turned (leaving s withdraw)

  -- the model after a list of calls, each given what the one before it left; what each gets
  abbrev pub after : Model → List (Call ℕ) → Model
  after s [] = s
  after s (c ∷ cs) = after (step s c).0 cs

  abbrev pub outs : Model → List (Call ℕ) → List Seen
  outs s [] = []
  outs s (c ∷ cs) = (step s c).1 ∷ outs (step s c).0 cs

-- ---- opening: "Opening fills both memories with zeros"; a refused one leaves them, and has no slots, its bytes a slot 8

abbrev pub slots_opened : Bool → Opening → ℕ
slots_opened true o = 0
slots_opened false o = o.slots

abbrev pub size_opened : Bool → Opening → ℕ
size_opened true o = 8
size_opened false o = o.slot_bytes

abbrev pub memory_opened : Bool → List ℕ → List ℕ
memory_opened true memory = memory
memory_opened false memory = replicate (length memory) 0

abbrev pub slot_count : Opening → ℕ
slot_count o = slots_opened (opening_refused o) o

abbrev pub slot_size : Opening → ℕ
slot_size o = size_opened (opening_refused o) o

abbrev pub opened : Opening → List ℕ → Model
opened o memory = record { store = P.opened o; cache = empty (slot_count o) (memory_opened (opening_refused o) memory) }
