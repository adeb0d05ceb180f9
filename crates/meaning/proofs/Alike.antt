-- Two plain stores that differ in one number, the length of the kept memory, each lent its own length: a call is refused alike, does alike and gives the same. Assumes nothing.
use mathlib.Core.Path.{◌≡◌, refl, ap, ap₂, ◌∙◌, sym}
use mathlib.Core.Bool.{not, ◌&&◌}
use mathlib.Core.Option.{Option, none, some}
use mathlib.Core.List.{List}
use Prim.Native.Nat.{ℕ}
use lib.Dec.{eqb}
use borrow.Author.Tests.{eq-eqb}
use lib.IntN.{ℤ}
use Rattle.meaning.specs.Grammar.{Sentence}
use Rattle.meaning.specs.Reader.{sentence}
use Rattle.meaning.specs.Statement.{Statement, creates, asks, changes, statement_of}
use Rattle.meaning.specs.Key.{Key}
use Rattle.meaning.specs.Call.{Call, add, ask, change, flush, propose, commit, withdraw}
use Rattle.meaning.specs.Plain.{Lengths, Plain, Out, Note, other_lengths, record_of, too_many, full, refusal, drops_key, schemas, adding, kind_and_number, text_added, changed_by, rows_by, made, committed, does}

-- the store with another length of the kept memory
abbrev pub with_memory : ℕ → Plain → Plain
with_memory n p = record p { lengths = record { cells = p.lengths.cells; memory = n } }

-- ---- what is read on it

pub record-alike : (n : ℕ) (p : Plain) (k : Key) → record_of (with_memory n p) k ≡ record_of p k
unfolding record_of
record-alike n p k = refl

pub drops-alike : (n : ℕ) (p : Plain) (i : ℕ) (us : List ℤ) → drops_key (with_memory n p) i us ≡ drops_key p i us
unfolding drops_key
drops-alike n p i us = refl

-- lent its own length, it goes by the cells alone
lengths-alike : (lent lent' : Lengths) → lent.cells ≡ lent'.cells → (p : Plain)
    → other_lengths lent (with_memory lent.memory p) ≡ other_lengths lent' (with_memory lent'.memory p)
unfolding other_lengths
lengths-alike lent lent' e p =
    ap not
    (ap₂ ◌&&◌ (ap (λ (n : ℕ). eqb n p.lengths.cells) e)
    (eq-eqb lent.memory lent.memory refl ∙ sym (eq-eqb lent'.memory lent'.memory refl)))

pub refusal-alike : (lent lent' : Lengths) → lent.cells ≡ lent'.cells → (p : Plain) (c : Call ℕ)
    → refusal lent (with_memory lent.memory p) c ≡ refusal lent' (with_memory lent'.memory p) c
unfolding refusal record_of too_many full
refusal-alike lent lent' e p (add text) = rw (lengths-alike lent lent' e p) refl
refusal-alike lent lent' e p (ask k b) = rw (lengths-alike lent lent' e p) refl
refusal-alike lent lent' e p (change n us) = rw (lengths-alike lent lent' e p) refl
refusal-alike lent lent' e p flush = rw (lengths-alike lent lent' e p) refl
refusal-alike lent lent' e p (propose n us) = rw (lengths-alike lent lent' e p) refl
refusal-alike lent lent' e p commit = rw (lengths-alike lent lent' e p) refl
refusal-alike lent lent' e p withdraw = rw (lengths-alike lent lent' e p) refl

-- ---- what a call does

abbrev alike : ℕ → Plain × Out → Plain × Out
alike n r = (with_memory n r.0, r.1)

added-alike : (n : ℕ) (p : Plain) (s : Statement) → ◌≡◌ {A = Plain × Out} (adding (with_memory n p) s, kind_and_number (with_memory n p) s) (alike n (adding p s, kind_and_number p s))
added-alike n p (creates t) = refl
added-alike n p (asks q) = refl
added-alike n p (changes u) = refl

text-alike : (n : ℕ) (p : Plain) (o : Option Sentence) → text_added (with_memory n p) o ≡ alike n (text_added p o)
unfolding text_added
text-alike n p none = refl
text-alike n p (some s) = added-alike n p (statement_of (schemas p) s)

made-alike : (n : ℕ) (p : Plain) (i : ℕ) (us : List ℤ) → made (with_memory n p) i us ≡ alike n (made p i us)
unfolding changed_by rows_by
made-alike n p i us = refl

committed-alike : (n : ℕ) (p : Plain) (o : Option Note) → committed (with_memory n p) o ≡ alike n (committed p o)
committed-alike n p none = refl
committed-alike n p (some x) = made-alike n p x.update x.values

pub does-alike : (n : ℕ) (p : Plain) (c : Call ℕ) → does (with_memory n p) c ≡ alike n (does p c)
unfolding record_of rows_by
does-alike n p (add text) = text-alike n p (sentence text)
does-alike n p (ask k b) = refl
does-alike n p (change i us) = made-alike n p i us
does-alike n p flush = refl
does-alike n p (propose i us) = refl
does-alike n p commit = committed-alike n p p.pending
does-alike n p withdraw = refl
