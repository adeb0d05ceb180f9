-- What the proofs here use of the plain store, as a record of laws, and the refusal of a question in two parts. Assumes nothing.
use mathlib.Core.Path.{◌≡◌, refl}
use mathlib.Core.Bool.{Bool, true, false, not}
use mathlib.Core.Option.{Option, some}
use mathlib.Core.List.{List}
use Prim.Native.Nat.{ℕ, zero, suc}
use lib.ListN.{length}
use lib.Dec.{leb, eqb}
use lib.IntN.{ℤ}
use Rattle.meaning.specs.Key.{Key}
use Rattle.meaning.specs.Call.{Call32, Call, add, ask, change, commit}
use Rattle.meaning.specs.Plain as P
use Rattle.meaning.specs.Plain.{Lengths, Plain, Opening, other_lengths, query_at, refusal, drops_key, changed_by, does, Note, with_note}
use Rattle.meaning.specs.Refusals.{or_else}
use Rattle.trace.specs.Private.Model.{ask_refusal, new_refusal}
use Rattle.meaning.proofs.Keeps.{SameAnswer}

-- What the proofs here use of the plain store, and nothing else.
pub record TableLaws : Type 1 where
  -- what holds of every plain store reached from an opening, by calls whose values have 32 bits
  pub Good : Plain → Type 0
  pub good_opened : (o : Opening) → Good (P.opened o)
  pub good_step : (lent : Lengths) (p : Plain) → Good p → (c : Call ℕ) → Call32 c → Good (P.step lent p c).0
  -- a text that is not refused, and an update that is not refused, leave the questions that there are and the records of those not matched
  pub add_keeps : (lent : Lengths) (p : Plain) (text : List ℕ) (k : Key) → ask_refusal lent p k ≡ 0 → refusal lent p (add text) ≡ 0
      → (ask_refusal lent (does p (add text)).0 k ≡ 0) × SameAnswer (does p (add text)).0 p k
  pub change_keeps : (lent : Lengths) (p : Plain) (n : ℕ) (us : List ℤ) (k : Key) → Good p → ask_refusal lent p k ≡ 0 → refusal lent p (change n us) ≡ 0
      → (ask_refusal lent (changed_by p n us) k ≡ 0) × (drops_key p n us k ≡ false → SameAnswer (changed_by p n us) p k)
  -- another note, or none, leaves them all; a commit that is not refused has a note, whose update is not refused
  pub note_keeps : (lent : Lengths) (p : Plain) (o : Option Note) (k : Key) → ask_refusal lent p k ≡ 0
      → (ask_refusal lent (with_note p o) k ≡ 0) × SameAnswer (with_note p o) p k
  pub commit_taken : (lent : Lengths) (p : Plain) → Good p → refusal lent p commit ≡ 0
      → (x : Note) × (p.pending ≡ some x) × (refusal lent p (change x.update x.values) ≡ 0)

-- the first refusal of two
abbrev pub first_of : ℕ → ℕ → ℕ
first_of zero n = n
first_of (suc m) n = suc m

first-of-three : (a b c : Bool) (n : ℕ) → or_else a 2 (or_else b 10 (or_else c 11 n)) ≡ first_of (or_else a 2 (or_else b 10 (or_else c 11 0))) n
first-of-three true b c n = refl
first-of-three false true c n = refl
first-of-three false false true n = refl
first-of-three false false false n = refl

-- a question gets its refusal but 16 and 13, or else one of these
pub ask-refusal : (lent : Lengths) (p : Plain) (k : Key) (b : ℕ) → refusal lent p (ask k b) ≡ first_of (ask_refusal lent p k) (new_refusal p k b)
unfolding refusal
ask-refusal lent p k b =
    first-of-three (other_lengths lent p) (leb (length p.queries) k.query)
    (not (eqb (length k.values) (query_at p k.query).parameters)) (new_refusal p k b)
