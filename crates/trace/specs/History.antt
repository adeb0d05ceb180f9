-- What counts for the kept answers in a list of calls, read off the plain store alone, and the four grounds of demand 3, which this document quotes: document 01, "The plain store", second
-- paragraph; requests A.7 and A.8. A history has the latest event first. Assumes nothing: these are definitions.
use Rattle.std.specs.Prelude.{◌≡◌, ◌≢◌, ◌⊎◌, Bool, true, false, List, [], ◌∷◌, ◌++◌, ℕ, zero, suc, ℤ, length, leb}
use Rattle.std.proofs.Math.Option.{Option, none, some}
use mathlib.Core.HLevel.{Discrete}
use Rattle.lists.specs.Lists.{All, Distinct, any}
use Rattle.meaning.specs.Key.{Key}
use Rattle.meaning.specs.Plain.{Lengths, Plain, record_of, drops_key, refusal, step, Note}
use Rattle.meaning.specs.Call.{Call, add, ask, change, flush, propose, commit, withdraw}

-- a key answered, with its record; an update or a flush, with the keys that it matches
pub data Event (K : Type 0) : Type 0 where
  answer_of : K → List ℕ → Event K
  drop_of : (K → Bool) → Event K

-- an update, with the keys that it drops
abbrev pub change_noted : Plain → ℕ → List ℤ → List (Event Key) → List (Event Key)
change_noted p n us h = drop_of (drops_key p n us) ∷ h

-- A.8, "A commit counts as an update for what is asked later": it is the update of its note
abbrev pub commit_noted : Plain → Option Note → List (Event Key) → List (Event Key)
commit_noted p none h = h
commit_noted p (some x) h = change_noted p x.update x.values h

-- "A key is answered when it is asked and not refused. .. Its record is the plain store's at that call." A proposal and a withdrawal are no events
abbrev pub noted : Plain → Call ℕ → List (Event Key) → List (Event Key)
noted p (add text) h = h
noted p (ask k buffer) h = answer_of k (record_of p k) ∷ h
noted p (change n us) h = change_noted p n us h
noted p flush h = drop_of (λ k. true) ∷ h
noted p (propose n us) h = h
noted p commit h = commit_noted p p.pending h
noted p withdraw h = h

-- a refused call is no event
abbrev pub note : ℕ → Plain → Call ℕ → List (Event Key) → List (Event Key)
note zero p c h = noted p c h
note (suc n) p c h = h

-- the history of a list of calls, put before h
abbrev pub history_on : Lengths → Plain → List (Event Key) → List (Call ℕ) → List (Event Key)
history_on lent p h [] = h
history_on lent p h (c ∷ cs) = history_on lent (step lent p c).0 (note (refusal lent p c) p c h) cs

abbrev pub history : Lengths → Plain → List (Call ℕ) → List (Event Key)
history lent p cs = history_on lent p [] cs

-- the questions of a list, with their values, answered or refused
abbrev pub asked_by : {B : Type 0} → Call B → List Key
asked_by (ask k buffer) = k ∷ []
asked_by _ = []

abbrev pub keys_asked : {B : Type 0} → List (Call B) → List Key
keys_asked [] = []
keys_asked (c ∷ cs) = asked_by c ++ keys_asked cs

-- ".. and fits if no longer than a slot's bytes"
abbrev pub fits_slot : ℕ → List ℕ → Bool
fits_slot size r = leb (length r) size

module _ {K : Type 0} where
  -- k is one of them
  abbrev pub OneOf : K → List K → Type 0
  OneOf k [] = ⊥
  OneOf k (j ∷ js) = (j ≡ k) ⊎ OneOf k js

  -- the key was answered
  abbrev pub Answered : K → List (Event K) → Type 0
  Answered k [] = ⊥
  Answered k (answer_of j r ∷ h) = (j ≡ k) ⊎ Answered k h
  Answered k (drop_of d ∷ h) = Answered k h

  -- a matching update, or a flush
  abbrev pub hits : K → Event K → Bool
  hits k (answer_of j r) = false
  hits k (drop_of d) = d k

  -- at least n different others were answered; "Others are other keys."
  abbrev pub Crowded : ℕ → K → List (Event K) → Type 0
  Crowded n k h = (js : List K) × (length js ≡ n) × Distinct js × All (λ j. (j ≢ k) × Answered j h) js

  -- the key was answered with a record that fits; at least n different others were
  abbrev pub Fitted : ℕ → K → List (Event K) → Type 0
  Fitted size k [] = ⊥
  Fitted size k (answer_of j r ∷ h) = ((j ≡ k) × (fits_slot size r ≡ true)) ⊎ Fitted size k h
  Fitted size k (drop_of d ∷ h) = Fitted size k h

  abbrev pub Filled : ℕ → ℕ → K → List (Event K) → Type 0
  Filled size n k h = (js : List K) × (length js ≡ n) × Distinct js × All (λ j. (j ≢ k) × Fitted size j h) js

  abbrev pub unless : {P : Type 0} → Dec P → List (Event K) → List (Event K)
  unless (yes p) h = []
  unless (no q) h = h

module _ {K : Type 0} (same : Discrete K) where
  -- what came since the last answer of k
  abbrev pub since : K → List (Event K) → List (Event K)
  since k [] = []
  since k (answer_of j r ∷ h) = unless (same j k) (answer_of j r ∷ since k h)
  since k (drop_of d ∷ h) = drop_of d ∷ since k h

  -- "a question with its values is worked out anew only if it was never answered since opening, its record doesn't fit a slot, a matching update or a
  -- flush came since its last answer, or at least as many different others as there are slots were answered since": n slots of `size` bytes; k's record is r
  pub data Ground (n size : ℕ) (r : List ℕ) (k : K) (h : List (Event K)) : Type 0 where
    never : ¬ Answered k h → Ground n size r k h
    too_large : fits_slot size r ≡ false → Ground n size r k h
    dropped : any (hits k) (since k h) ≡ true → Ground n size r k h
    crowded : Crowded n k (since k h) → Ground n size r k h
