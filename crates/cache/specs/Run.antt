-- Lists of calls: each is given the state that the last one returned, and the opening's memories as it left them. What each call gets, and what the same call gets
-- from the plain store of document 01. Assumes nothing: these are definitions.
use Rattle.std.specs.Prelude.{List, [], ◌∷◌, map, ℕ, ℤ, length}
use Rattle.lists.specs.Lists.{written}
use Rattle.meaning.specs.Call.{Call, add, ask, change, flush, propose, commit, withdraw, with_buffer}
use Rattle.meaning.specs.Plain as P
use Rattle.meaning.specs.Plain.{Lengths, Plain, Opening, Kind, table_kind, query_kind, update_kind, Out, refused, added, answered, rows, flushed, withdrawn}
use Rattle.cache.specs.declared.State.{State}
use Rattle.cache.specs.Sound.{opening}
use Rattle.statement.specs.Compiled.{of_table, of_query, of_update}
use Rattle.cache.specs.Calls.{lengths_lent, Added, Flushed, Opens, Asks, Updates, Proposed}
use Rattle.cache.specs.Gives.{open_of, add_of, ask_of, update_of, flush_of, propose_of, commit_of, withdraw_of}

-- ---- the store: the state, and the memories that only it writes

pub record Store : Type 0 where
  pub state : State
  pub cells : List ℤ
  pub memory : List ℕ

-- an opening: the memories lent to it, slots, and bytes a slot
pub record Start : Type 0 where
  pub cells : List ℤ
  pub memory : List ℕ
  pub slots : ℕ
  pub slot_bytes : ℕ

abbrev pub opening_of : Start → Opening
opening_of o = opening (lengths_lent o.cells o.memory) o.slots o.slot_bytes

abbrev pub store_of : Opens → Store
store_of r = record { state = r.result.state; cells = r.cells; memory = r.memory }

abbrev pub opened_by : Start → Opens
opened_by o = open_of o.cells o.memory o.slots o.slot_bytes

abbrev pub opened : Start → Store
opened o = store_of (opened_by o)

-- ---- what a call gets

-- what a call gets, 0 where it gets no such thing: the refusal's number, kind and number of a statement, the record's length, rows inserted, matched or deleted; and the
-- answer buffer as it is then. Besides: 1 for a kept answer, rows read, and kept answers dropped
pub record Got : Type 0 where
  pub refusal : ℕ
  pub kind : ℕ
  pub number : ℕ
  pub size : ℕ
  pub rows : ℕ
  pub answer : List ℕ

pub record Seen : Type 0 where
  pub got : Got
  pub kept : ℕ
  pub scanned : ℕ
  pub drops : ℕ

abbrev pub step_add : Store → Added → Store × Seen
step_add s r = (
  record { state = r.state; cells = s.cells; memory = s.memory },
  record { got = record { refusal = r.refusal; kind = r.kind; number = r.number; size = 0; rows = 0; answer = [] }; kept = 0; scanned = 0; drops = 0 },
)

abbrev pub step_ask : Store → Asks → Store × Seen
step_ask s r = (
  record { state = r.result.state; cells = s.cells; memory = r.memory },
  record {
    got = record { refusal = r.result.refusal; kind = 0; number = 0; size = r.result.size; rows = 0; answer = r.answer };
    kept = r.result.cached;
    scanned = r.result.scanned;
    drops = 0;
  },
)

abbrev pub step_update : Store → Updates → Store × Seen
step_update s r = (
  record { state = r.result.state; cells = r.cells; memory = s.memory },
  record {
    got = record { refusal = r.result.refusal; kind = 0; number = 0; size = 0; rows = r.result.rows; answer = [] };
    kept = 0;
    scanned = 0;
    drops = r.result.invalidated;
  },
)

abbrev pub step_flush : Store → Flushed → Store × Seen
step_flush s r = (
  record { state = r.state; cells = s.cells; memory = s.memory },
  record { got = record { refusal = r.refusal; kind = 0; number = 0; size = 0; rows = 0; answer = [] }; kept = 0; scanned = 0; drops = 0 },
)

-- A.8
abbrev pub step_propose : Store → Proposed → Store × Seen
step_propose s r = (
  record { state = r.state; cells = s.cells; memory = s.memory },
  record { got = record { refusal = r.refusal; kind = 0; number = 0; size = 0; rows = r.rows; answer = [] }; kept = 0; scanned = 0; drops = 0 },
)

-- the lengths of the store's memories
abbrev pub lent_by : Store → Lengths
lent_by s = lengths_lent s.cells s.memory

unfoldable pub step : Store → Call (List ℕ) → Store × Seen
step s (add text) = step_add s (add_of s.state (lent_by s) text)
step s (ask k buffer) = step_ask s (ask_of s.state s.cells s.memory k.query k.values buffer)
step s (change n vs) = step_update s (update_of s.state s.cells s.memory n vs)
step s flush = step_flush s (flush_of s.state (lent_by s))
step s (propose n vs) = step_propose s (propose_of s.state s.cells s.memory n vs)
step s commit = step_update s (commit_of s.state s.cells s.memory)
step s withdraw = step_flush s (withdraw_of s.state (lent_by s))

-- the store after a list of calls; what each call gets
abbrev pub after : Store → List (Call (List ℕ)) → Store
after s [] = s
after s (c ∷ cs) = after (step s c).0 cs

abbrev pub gets : Store → List (Call (List ℕ)) → List Seen
gets s [] = []
gets s (c ∷ cs) = (step s c).1 ∷ gets (step s c).0 cs

-- ---- the same calls on the plain store, which "is fed only which call is made, its text or numbers, and the lengths lent"

-- of an answer buffer its length alone
abbrev pub plain_call : Call (List ℕ) → Call ℕ
plain_call c = with_buffer length c

-- the answer buffer of a call
abbrev pub buffer_of : Call (List ℕ) → List ℕ
buffer_of (add text) = []
buffer_of (ask k buffer) = buffer
buffer_of (change n vs) = []
buffer_of flush = []
buffer_of (propose n vs) = []
buffer_of commit = []
buffer_of withdraw = []

abbrev pub kind_number : Kind → ℕ
kind_number table_kind = of_table
kind_number query_kind = of_query
kind_number update_kind = of_update

-- what the plain store gives, as a call gets it: "the record at the answer buffer's start, whose later bytes stay"
abbrev pub got_of : List ℕ → Out → Got
got_of buffer (refused n) = record { refusal = n; kind = 0; number = 0; size = 0; rows = 0; answer = buffer }
got_of buffer (added k n) = record { refusal = 0; kind = kind_number k; number = n; size = 0; rows = 0; answer = buffer }
got_of buffer (answered r) = record { refusal = 0; kind = 0; number = 0; size = length r; rows = 0; answer = written buffer 0 r }
got_of buffer (rows n) = record { refusal = 0; kind = 0; number = 0; size = 0; rows = n; answer = buffer }
got_of buffer flushed = record { refusal = 0; kind = 0; number = 0; size = 0; rows = 0; answer = buffer }
got_of buffer withdrawn = record { refusal = 0; kind = 0; number = 0; size = 0; rows = 0; answer = buffer }

abbrev pub plain_after : Start → List (Call (List ℕ)) → Plain
plain_after o cs = P.after (opening_of o).lent (P.opened (opening_of o)) (map plain_call cs)

abbrev pub plain_gets : Lengths → Plain → List (Call (List ℕ)) → List Got
plain_gets lent p [] = []
plain_gets lent p (c ∷ cs) = got_of (buffer_of c) (P.step lent p (plain_call c)).1 ∷ plain_gets lent (P.step lent p (plain_call c)).0 cs
