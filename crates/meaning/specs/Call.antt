-- The calls: document 01, "The store and its calls", and request A.8. What each brings besides the lent memories; the plain store and the program's store take the same calls. Assumes nothing:
-- these are definitions.
use Rattle.std.specs.Prelude.{List, ℕ, ℤ, ◌≡◌, true}
use Rattle.lists.specs.Lists.{All}
use Rattle.meaning.specs.Key.{Key}
use Rattle.meaning.specs.Limits.{is_within32}

-- a text; a question's number and values, and the answer buffer B; an update's number and values. A.8: "An update may be proposed", by its number and values; a commit makes it, and a withdrawal
-- takes the note away
pub data Call (B : Type 0) : Type 0 where
  add : List ℕ → Call B
  ask : Key → B → Call B
  change : ℕ → List ℤ → Call B
  flush : Call B
  propose : ℕ → List ℤ → Call B
  commit : Call B
  withdraw : Call B

-- the same call with another buffer: of the program's buffer the plain store is given the length alone
abbrev pub with_buffer : {A B : Type 0} → (A → B) → Call A → Call B
with_buffer f (add text) = add text
with_buffer f (ask k b) = ask k (f b)
with_buffer f (change n us) = change n us
with_buffer f flush = flush
with_buffer f (propose n us) = propose n us
with_buffer f commit = commit
with_buffer f withdraw = withdraw

-- the values of a call have 32 bits, as their type says
abbrev pub Is32 : ℤ → Type 0
Is32 z = is_within32 z ≡ true

abbrev pub Call32 : {B : Type 0} → Call B → Type 0
Call32 (add text) = Unit {0}
Call32 (ask k b) = All Is32 k.values
Call32 (change n us) = All Is32 us
Call32 flush = Unit {0}
Call32 (propose n us) = All Is32 us
Call32 commit = Unit {0}
Call32 withdraw = Unit {0}
