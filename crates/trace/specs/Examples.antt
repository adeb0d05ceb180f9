-- Document 01's transcript and an eviction, and requests A.1, A.7, A.8 and A.12, on the model and on the plain store, by computation: the claims of specs/Demand speak of lists in which answers
-- are kept, dropped, evicted and refused. Assumes nothing.
use Rattle.std.specs.Prelude.{◌≡◌, refl, Bool, true, false, List, [], ◌∷◌, ◌++◌, map, ℕ, ◌*◌, pos, drop, replicate, sum_by}
use Prim.Native.String.{String}
use Rattle.lists.specs.Lists.{bytes, any}
use Rattle.meaning.specs.Tokens.{is_name_byte, is_word_byte, decimal, is_name, word, negative, token_from, first_token, scan, tokens}
use Rattle.meaning.specs.Reader.{a_condition, a_sentence, read}
use Rattle.meaning.specs.Limits.{past_limit}
use Rattle.meaning.specs.Names.{unknown_name, taken, miscounted, twice}
use Rattle.meaning.specs.Statement.{statement_of}
use Rattle.meaning.specs.Meaning.{answer, changed, rows_changed}
use Rattle.meaning.specs.Record.{body, encode}
use Rattle.meaning.specs.Pattern.{side_of, matters, joint_clauses, class, contradictory, entry, patterns, matches_two}
use Rattle.meaning.specs.Exact.{is_separate, affects, drops}
use Rattle.meaning.specs.Plain.{Opening, opening_refused, other_lengths, full, refusal, record_of, too_many, drops_key, Out, refused, added, answered, rows, flushed, withdrawn, table_kind, query_kind, update_kind, text_added, changed_by, rows_by}
use Rattle.meaning.specs.Refusals.{no_place}
use Rattle.meaning.specs.Call.{Call, add, ask, change, flush, propose, commit, withdraw}
use Rattle.meaning.specs.Key.{Key, same_key}
use Rattle.meaning.specs.Plain as P
use Rattle.trace.specs.History.{history, hits, since}
use Rattle.meaning.specs.Paired.{long, first_question}
use Rattle.trace.specs.Private.Slots.{Held}
use Rattle.trace.specs.Private.Model.{Seen, Model, step, outs, slot_size, opened}

-- what the computations open
computing : Unit {0}
unfolding is_name_byte is_word_byte decimal is_name word negative token_from first_token scan tokens a_condition a_sentence read past_limit unknown_name taken miscounted twice statement_of answer changed rows_changed body encode matters joint_clauses class contradictory entry patterns matches_two is_separate affects drops opening_refused other_lengths no_place full refusal record_of too_many side_of drops_key text_added changed_by rows_by
computing = tt

-- 4,096 cells, 256 bytes of kept memory, 4 slots of 64 bytes
abbrev desk : Opening
desk = record { lent = record { cells = 4096; memory = 256 }; slots = 4; slot_bytes = 64 }

abbrev ADD : String → Call ℕ
ADD t = add (bytes t)

abbrev ASK : ℕ → List ℕ → Call ℕ
ASK n vs = ask (record { query = n; values = map pos vs }) 65536

abbrev DO : ℕ → List ℕ → Call ℕ
DO n vs = change n (map pos vs)

-- what each call prints: what the plain store gives, kept, rows read, drops
abbrev Line : Type 0
Line = Out × ℕ × ℕ × ℕ

abbrev line_of : Seen → Line
line_of s = (s.out, s.kept, s.scanned, s.drops)

abbrev plain : Out → Line
plain o = (o, 0, 0, 0)

abbrev lines : List (Call ℕ) → List Line
lines cs = map line_of (outs desk.lent (slot_size desk) (opened desk (replicate 256 0)) cs)

-- the record of some one-column rows below 256
abbrev levels : List ℕ → List ℕ
levels [] = []
levels (n ∷ ns) = 0 ∷ 0 ∷ 0 ∷ n ∷ levels ns

abbrev texts : List (Call ℕ)
texts = ADD "TABLE stage (site, level) ROWS 3" ∷ ADD "INSERT INTO stage VALUES (?, ?)" ∷ ADD "SELECT level FROM stage WHERE site = ?" ∷ []

abbrev transcript : List (Call ℕ)
transcript =
    texts
    ++ (DO 0 (7 ∷ 120 ∷ [])
    ∷ ASK 0 (7 ∷ [])
    ∷ DO 0 (8 ∷ 95 ∷ [])
    ∷ ASK 0 (7 ∷ [])
    ∷ DO 0 (7 ∷ 121 ∷ [])
    ∷ ASK 0 (7 ∷ [])
    ∷ DO 0 (7 ∷ 122 ∷ [])
    ∷ [])

pub transcript-is : lines transcript
    ≡ plain (added table_kind 0)
    ∷ plain (added update_kind 0)
    ∷ plain (added query_kind 0)
    ∷ plain (rows 1)
    ∷ (answered (0 ∷ 0 ∷ 0 ∷ 8 ∷ 1 ∷ 1 ∷ 0 ∷ 1 ∷ levels (120 ∷ [])), 0, 1, 0)
    ∷ plain (rows 1)
    ∷ (answered (0 ∷ 0 ∷ 0 ∷ 8 ∷ 1 ∷ 1 ∷ 0 ∷ 1 ∷ levels (120 ∷ [])), 1, 0, 0)
    ∷ (rows 1, 0, 0, 1)
    ∷ (answered (0 ∷ 0 ∷ 0 ∷ 12 ∷ 1 ∷ 1 ∷ 0 ∷ 2 ∷ levels (120 ∷ 121 ∷ [])), 0, 3, 0)
    ∷ plain (refused 12)
    ∷ []
unfolding computing
transcript-is = refl

-- five keys in four slots: the first is evicted and the second is not; a flush drops the four
abbrev none_of : Line
none_of = (answered (0 ∷ 0 ∷ 0 ∷ 4 ∷ 1 ∷ 1 ∷ 0 ∷ 0 ∷ []), 0, 0, 0)

pub crowded-is : lines (texts
    ++ (ASK 0 (1 ∷ []) ∷ ASK 0 (2 ∷ []) ∷ ASK 0 (3 ∷ []) ∷ ASK 0 (4 ∷ []) ∷ ASK 0 (5 ∷ []) ∷ ASK 0 (2 ∷ []) ∷ ASK 0 (1 ∷ []) ∷ flush ∷ ASK 0 (2 ∷ []) ∷ []))
    ≡ plain (added table_kind 0)
    ∷ plain (added update_kind 0)
    ∷ plain (added query_kind 0)
    ∷ none_of
    ∷ none_of
    ∷ none_of
    ∷ none_of
    ∷ none_of
    ∷ (answered (0 ∷ 0 ∷ 0 ∷ 4 ∷ 1 ∷ 1 ∷ 0 ∷ 0 ∷ []), 1, 0, 0)
    ∷ none_of
    ∷ (flushed, 0, 0, 4)
    ∷ none_of
    ∷ []
unfolding computing
crowded-is = refl

-- "A refusal 13 that moves a slot" is a slip: with a buffer of 3 bytes the question is refused, so its slot stays last and the fifth key evicts it
pub short-is : lines (texts
    ++ (ASK 0 (1 ∷ []) ∷ ASK 0 (2 ∷ []) ∷ ASK 0 (3 ∷ []) ∷ ASK 0 (4 ∷ []) ∷ ask (record { query = 0; values = pos 1 ∷ [] }) 3 ∷ ASK 0 (5 ∷ []) ∷ ASK 0 (1 ∷ []) ∷ []))
    ≡ plain (added table_kind 0)
    ∷ plain (added update_kind 0)
    ∷ plain (added query_kind 0)
    ∷ none_of
    ∷ none_of
    ∷ none_of
    ∷ none_of
    ∷ plain (refused 13)
    ∷ none_of
    ∷ none_of
    ∷ []
unfolding computing
short-is = refl

-- ---- request A.1

-- a question over two tables: an INSERT into the second drops the answers for its site alone, and one into the first as well
abbrev paired : List (Call ℕ)
paired =
    ADD "TABLE stage (site, level) ROWS 3"
    ∷ ADD "TABLE rating (site, flow) ROWS 3"
    ∷ ADD "INSERT INTO stage VALUES (?, ?)"
    ∷ ADD "INSERT INTO rating VALUES (?, ?)"
    ∷ ADD "SELECT rating.flow FROM stage, rating WHERE stage.site = ? AND stage.site = rating.site"
    ∷ DO 0 (7 ∷ 120 ∷ [])
    ∷ DO 1 (7 ∷ 31 ∷ [])
    ∷ ASK 0 (7 ∷ [])
    ∷ DO 1 (8 ∷ 20 ∷ [])
    ∷ ASK 0 (7 ∷ [])
    ∷ DO 1 (7 ∷ 32 ∷ [])
    ∷ ASK 0 (7 ∷ [])
    ∷ DO 0 (7 ∷ 121 ∷ [])
    ∷ ASK 0 (7 ∷ [])
    ∷ []

pub paired_is : lines paired
    ≡ plain (added table_kind 0)
    ∷ plain (added table_kind 1)
    ∷ plain (added update_kind 0)
    ∷ plain (added update_kind 1)
    ∷ plain (added query_kind 0)
    ∷ plain (rows 1)
    ∷ plain (rows 1)
    ∷ (answered (0 ∷ 0 ∷ 0 ∷ 8 ∷ 1 ∷ 1 ∷ 0 ∷ 1 ∷ levels (31 ∷ [])), 0, 2, 0)
    ∷ plain (rows 1)
    ∷ (answered (0 ∷ 0 ∷ 0 ∷ 8 ∷ 1 ∷ 1 ∷ 0 ∷ 1 ∷ levels (31 ∷ [])), 1, 0, 0)
    ∷ (rows 1, 0, 0, 1)
    ∷ (answered (0 ∷ 0 ∷ 0 ∷ 12 ∷ 1 ∷ 1 ∷ 0 ∷ 2 ∷ levels (31 ∷ 32 ∷ [])), 0, 4, 0)
    ∷ (rows 1, 0, 0, 1)
    ∷ (answered (0 ∷ 0 ∷ 0 ∷ 20 ∷ 1 ∷ 1 ∷ 0 ∷ 4 ∷ levels (31 ∷ 32 ∷ 31 ∷ 32 ∷ [])), 0, 8, 0)
    ∷ []
unfolding computing
paired_is = refl

-- 16 is for an answer worked out anew: 65,536 rows with no slot, and with one that holds eight bytes for the key
abbrev asking : List (Held Key) → Seen
asking held =
    let s : Model = record { store = long 256 256; cache = record { held = held; free = []; memory = 0 ∷ 0 ∷ 0 ∷ 4 ∷ 1 ∷ 1 ∷ 0 ∷ 0 ∷ [] } } in
    (step s.store.lengths 8 s (ask (first_question []) 8)).1

pub sixteen-is : line_of (asking []) ≡ plain (refused 16)
unfolding computing
sixteen-is = refl

pub kept-is : line_of (asking (record { slot = 0; key = first_question []; len = 8 } ∷ [])) ≡ (answered (0 ∷ 0 ∷ 0 ∷ 4 ∷ 1 ∷ 1 ∷ 0 ∷ 0 ∷ []), 1, 0, 0)
unfolding computing
kept-is = refl

-- ---- request A.7

-- every INSERT has a pattern that matches the question for high water: one of a lower level leaves its answer kept, and one of a higher level drops it
pub high_is : lines (ADD "TABLE stage (site, level) ROWS 3"
    ∷ ADD "INSERT INTO stage VALUES (?, ?)"
    ∷ ADD "SELECT site FROM stage WHERE level > ?"
    ∷ DO 0 (7 ∷ 121 ∷ [])
    ∷ ASK 0 (120 ∷ [])
    ∷ DO 0 (8 ∷ 99 ∷ [])
    ∷ ASK 0 (120 ∷ [])
    ∷ DO 0 (9 ∷ 130 ∷ [])
    ∷ ASK 0 (120 ∷ [])
    ∷ [])
    ≡ plain (added table_kind 0)
    ∷ plain (added update_kind 0)
    ∷ plain (added query_kind 0)
    ∷ plain (rows 1)
    ∷ (answered (0 ∷ 0 ∷ 0 ∷ 8 ∷ 1 ∷ 1 ∷ 0 ∷ 1 ∷ levels (7 ∷ [])), 0, 1, 0)
    ∷ plain (rows 1)
    ∷ (answered (0 ∷ 0 ∷ 0 ∷ 8 ∷ 1 ∷ 1 ∷ 0 ∷ 1 ∷ levels (7 ∷ [])), 1, 0, 0)
    ∷ (rows 1, 0, 0, 1)
    ∷ (answered (0 ∷ 0 ∷ 0 ∷ 12 ∷ 1 ∷ 1 ∷ 0 ∷ 2 ∷ levels (7 ∷ 9 ∷ [])), 0, 3, 0)
    ∷ []
unfolding computing
high_is = refl

-- ---- request A.8

abbrev PROPOSE : ℕ → List ℕ → Call ℕ
PROPOSE n vs = propose n (map pos vs)

-- one row, answers for sites 7 and 8, and a proposal for site 7
abbrev looked : List (Call ℕ)
looked =
    texts
    ++ (ADD "UPDATE stage SET level = ? WHERE site = ?"
    ∷ DO 0 (7 ∷ 120 ∷ [])
    ∷ ASK 0 (7 ∷ [])
    ∷ ASK 0 (8 ∷ [])
    ∷ PROPOSE 1 (6 ∷ 7 ∷ [])
    ∷ [])

-- a proposal drops nothing, and the drop count is the commit's; a withdrawal drops nothing either
pub looked_is : lines (looked
    ++ (ASK 0 (7 ∷ [])
    ∷ commit
    ∷ ASK 0 (8 ∷ [])
    ∷ ASK 0 (7 ∷ [])
    ∷ commit
    ∷ PROPOSE 1 (5 ∷ 7 ∷ [])
    ∷ withdraw
    ∷ ASK 0 (7 ∷ [])
    ∷ []))
    ≡ plain (added table_kind 0)
    ∷ plain (added update_kind 0)
    ∷ plain (added query_kind 0)
    ∷ plain (added update_kind 1)
    ∷ plain (rows 1)
    ∷ (answered (0 ∷ 0 ∷ 0 ∷ 8 ∷ 1 ∷ 1 ∷ 0 ∷ 1 ∷ levels (120 ∷ [])), 0, 1, 0)
    ∷ (answered (0 ∷ 0 ∷ 0 ∷ 4 ∷ 1 ∷ 1 ∷ 0 ∷ 0 ∷ []), 0, 1, 0)
    ∷ plain (rows 1)
    ∷ (answered (0 ∷ 0 ∷ 0 ∷ 8 ∷ 1 ∷ 1 ∷ 0 ∷ 1 ∷ levels (120 ∷ [])), 1, 0, 0)
    ∷ (rows 1, 0, 0, 1)
    ∷ (answered (0 ∷ 0 ∷ 0 ∷ 4 ∷ 1 ∷ 1 ∷ 0 ∷ 0 ∷ []), 1, 0, 0)
    ∷ (answered (0 ∷ 0 ∷ 0 ∷ 8 ∷ 1 ∷ 1 ∷ 0 ∷ 1 ∷ levels (6 ∷ [])), 0, 1, 0)
    ∷ plain (refused 17)
    ∷ plain (rows 1)
    ∷ plain withdrawn
    ∷ (answered (0 ∷ 0 ∷ 0 ∷ 8 ∷ 1 ∷ 1 ∷ 0 ∷ 1 ∷ levels (6 ∷ [])), 1, 0, 0)
    ∷ []
unfolding computing
looked_is = refl

-- "A commit counts as an update for what is asked later": whether a matching one came since the last answer for the site
abbrev matched_since : List (Call ℕ) → ℕ → Bool
matched_since cs k =
    let key : Key = record { query = 0; values = pos k ∷ [] } in
    any (hits key) (since same_key key (history desk.lent (P.opened desk) cs))

pub commit_is_event :
    (matched_since looked 7 ≡ false)
    × (matched_since (looked ++ (commit ∷ [])) 7 ≡ true)
    × (matched_since (looked ++ (commit ∷ [])) 8 ≡ false)
    × (matched_since (looked ++ (withdraw ∷ commit ∷ [])) 7 ≡ false)
unfolding computing
commit_is_event = (refl, refl, refl, refl)

-- an update counts only where its answer would go, though a pattern matches: sites with a level over 120, asked before 99 comes in, or 130
abbrev high : List (Call ℕ)
high =
    ADD "TABLE stage (site, level) ROWS 3"
    ∷ ADD "INSERT INTO stage VALUES (?, ?)"
    ∷ ADD "SELECT site FROM stage WHERE level > ?"
    ∷ ASK 0 (120 ∷ [])
    ∷ []

pub dropping_is_event :
    (matched_since (high ++ (DO 0 (8 ∷ 99 ∷ []) ∷ [])) 120 ≡ false)
    × (matched_since (high ++ (DO 0 (9 ∷ 130 ∷ []) ∷ [])) 120 ≡ true)
unfolding computing
dropping_is_event = (refl, refl)

-- ---- more slots, and fewer

-- a gauge of n slots of 64 bytes
abbrev gauge : ℕ → Opening
gauge n = record { lent = record { cells = 4096; memory = n * 64 }; slots = n; slot_bytes = 64 }

-- what the calls behind the three texts get
abbrev seen_by : ℕ → List (Call ℕ) → List Seen
seen_by n cs = drop 3 (outs (gauge n).lent (slot_size (gauge n)) (opened (gauge n) (replicate (n * 64) 0)) (texts ++ cs))

abbrev marks : ℕ → List (Call ℕ) → List ℕ
marks n cs = map (λ s. s.kept) (seen_by n cs)

abbrev SITE : ℕ → Call ℕ
SITE k = ASK 0 (k ∷ [])

-- with a drop, a refused call and a flush
abbrev sitting : List (Call ℕ)
sitting =
    SITE 1 ∷ SITE 2 ∷ SITE 3 ∷ SITE 1 ∷ DO 0 (2 ∷ 9 ∷ []) ∷ SITE 2 ∷ SITE 1 ∷ DO 5 [] ∷ SITE 3 ∷ flush ∷ SITE 1 ∷ SITE 2 ∷ SITE 3 ∷ SITE 1 ∷ SITE 2 ∷ SITE 2 ∷ []

pub two_gauges_is :
    (marks 2 sitting ≡ 0 ∷ 0 ∷ 0 ∷ 0 ∷ 0 ∷ 0 ∷ 1 ∷ 0 ∷ 0 ∷ 0 ∷ 0 ∷ 0 ∷ 0 ∷ 0 ∷ 0 ∷ 1 ∷ [])
    × (marks 4 sitting ≡ 0 ∷ 0 ∷ 0 ∷ 1 ∷ 0 ∷ 0 ∷ 1 ∷ 0 ∷ 1 ∷ 0 ∷ 0 ∷ 0 ∷ 0 ∷ 1 ∷ 1 ∷ 1 ∷ [])
unfolding computing
two_gauges_is = (refl, refl)

pub less_read_is : (sum_by (λ s. s.scanned) (seen_by 2 sitting) ≡ 7) × (sum_by (λ s. s.scanned) (seen_by 4 sitting) ≡ 4)
unfolding computing
less_read_is = (refl, refl)

-- Belady's list, on which more slots keep less where an answer found keeps its place in the order
abbrev belady : List (Call ℕ)
belady = SITE 1 ∷ SITE 2 ∷ SITE 3 ∷ SITE 4 ∷ SITE 1 ∷ SITE 2 ∷ SITE 5 ∷ SITE 1 ∷ SITE 2 ∷ SITE 3 ∷ SITE 4 ∷ SITE 5 ∷ []

pub belady_is :
    (marks 3 belady ≡ 0 ∷ 0 ∷ 0 ∷ 0 ∷ 0 ∷ 0 ∷ 0 ∷ 1 ∷ 1 ∷ 0 ∷ 0 ∷ 0 ∷ [])
    × (marks 4 belady ≡ 0 ∷ 0 ∷ 0 ∷ 0 ∷ 1 ∷ 1 ∷ 0 ∷ 1 ∷ 1 ∷ 0 ∷ 0 ∷ 0 ∷ [])
unfolding computing
belady_is = (refl, refl)
