-- The claims of request A.8: what a proposal gives and changes, which note is held, and what a commit does and counts. Assumes nothing.
use mathlib.Core.Path.{ap₂, ◌≡◌, refl, sym, ap, subst, ◌∙◌}
use mathlib.Core.Bool.{false}
use mathlib.Core.Option.{Option, none, some}
use mathlib.Core.List.{List, [], ◌∷◌, map}
use Prim.Native.Nat.{ℕ, zero, suc}
use native.Mathlib.Omega.{arith}
use lib.IntN.{ℤ}
use Rattle.lists.proofs.Bools.{clash}
use Rattle.meaning.specs.Grammar.{Sentence}
use Rattle.meaning.specs.Reader.{sentence}
use Rattle.meaning.specs.Statement.{Statement, creates, asks, changes, statement_of}
use Rattle.meaning.specs.Call.{Call, add, ask, change, flush, propose, commit, withdraw, with_buffer}
use Rattle.meaning.specs.Refusals.{settled, is_none}
use Rattle.meaning.specs.Plain.{Lengths, Note, Plain, Opening, opened, refusal, Out, refused, rows, adding, kind_and_number, text_added, changed_by, rows_by, committed, does, guard, step, after, outs, schemas, other_lengths}
use Rattle.meaning.specs.Demand.{ProposalGivesRows, ProposalNotesOnly, Proposal, left_by, standing, refusal_in, rows_in, proposal_after, note_of, NoteHeld, CommitDoesIt, CommitAsProposed, Acceptable}
use Rattle.meaning.proofs.Accepted.{guard-done, text-taken, commit-noted, ready-taken, propose-refusal, noted-taken, update-taken, Ready}
use Rattle.meaning.proofs.WellFormed.{NoteFits, opened-well, after-well}

-- ---- a proposal

pub proposal_gives_rows : ProposalGivesRows
proposal_gives_rows lent p n us =
    ap (λ (m : ℕ). (guard m p refused (does p (propose n us))).1) (propose-refusal lent p n us) ∙ go (refusal lent p (change n us))
  where
    go : (m : ℕ) → (guard m p refused (does p (propose n us))).1 ≡ (guard m p refused (does p (change n us))).1
    go zero = refl
    go (suc m) = refl

pub proposal_notes_only : ProposalNotesOnly
proposal_notes_only lent p n us h = ap (λ (r : Plain × Out). r.0) (guard-done p refused (does p (propose n us)) (refusal lent p (propose n us)) h)

-- ---- which note is held

-- what a call that gets x leaves of the proposal that stood
abbrev next : Call ℕ → Out → Option Proposal → Option Proposal
next c x o = settled (refusal_in x) (left_by c (rows_in x) o) o

module _ (lent : Lengths) where
  -- the note is that of the proposal that stands, whose rows are those of its update now, and the lengths are right
  pub record Holds (p : Plain) (x : Proposal) : Type 0 where
    pub noted : p.pending ≡ some x.note
    pub counted : x.rows ≡ rows_by p x.note.update x.note.values
    pub lengths : other_lengths lent p ≡ false

  abbrev pub Stands : Plain → Option Proposal → Type 0
  Stands p none = p.pending ≡ none
  Stands p (some x) = Holds p x

  text-stands : (p : Plain) (text : List ℕ) (o : Option Proposal) (s : Statement) → Stands (adding p s) (next (add text) (kind_and_number p s) o)
  unfolding settled
  text-stands p text o (creates t) = refl
  text-stands p text o (asks q) = refl
  text-stands p text o (changes u) = refl

  does-stands : (p : Plain) (o : Option Proposal) → Stands p o → (c : Call ℕ) → refusal lent p c ≡ 0 → Stands (does p c).0 (next c (does p c).1 o)
  unfolding settled text_added changed_by rows_by other_lengths
  does-stands p o S (add text) h =
      let T : (s : Sentence) × (sentence text ≡ some s) × Acceptable lent p text s = text-taken lent p text h in
      subst (λ (x : Option Sentence). Stands (text_added p x).0 (next (add text) (text_added p x).1 o)) (sym T.1) (text-stands p text o (statement_of (schemas p) T.0))
  does-stands p o S (ask k b) h = S
  does-stands p o S (change n us) h = refl
  does-stands p o S flush h = refl
  does-stands p o S (propose n us) h =
      record { noted = refl; counted = refl; lengths = (update-taken lent p n us (sym (propose-refusal lent p n us) ∙ h)).0 }
  does-stands p o S commit h =
      let (x, e, l) = commit-noted lent p h in
      subst (λ (y : Option Note). Stands (committed p y).0 (next commit (committed p y).1 o)) (sym e) refl
  does-stands p o S withdraw h = refl

  step-stands : (p : Plain) (o : Option Proposal) → Stands p o → (c : Call ℕ) → Stands (step lent p c).0 (next c (step lent p c).1 o)
  unfolding settled
  step-stands p o S c = go (refusal lent p c) refl
    where
      go : (m : ℕ) → refusal lent p c ≡ m → Stands (guard m p refused (does p c)).0 (next c (guard m p refused (does p c)).1 o)
      go zero e = does-stands p o S c e
      go (suc m) e = S

  pub after-stands : (p : Plain) (o : Option Proposal) → Stands p o → (cs : List (Call ℕ)) → Stands (after lent p cs) (standing refusal_in rows_in o cs (outs lent p cs))
  after-stands p o S [] = S
  after-stands p o S (c ∷ cs) = after-stands (step lent p c).0 (next c (step lent p c).1 o) (step-stands p o S c) cs

module _ (o : Opening) (cs : List (Call ℕ)) where
  abbrev p : Plain
  p = after o.lent (opened o) cs

  pub calls-stand : (x : Option Proposal) → proposal_after o cs ≡ x → Stands o.lent p x
  calls-stand x i = subst (Stands o.lent p) i (after-stands o.lent (opened o) none refl cs)

  held : (x : Option Proposal) → proposal_after o cs ≡ x → p.pending ≡ note_of x
  held none i = calls-stand none i
  held (some x) i = (calls-stand (some x) i).noted

  -- ---- a commit

  taken : (x : Proposal) → Holds o.lent p x → refusal o.lent p commit ≡ 0
  taken x H = noted-taken o.lent p x.note H.noted H.lengths

  -- is the update of its note
  does-it : (x : Proposal) → Holds o.lent p x → step o.lent p commit ≡ step o.lent p (change x.note.update x.note.values)
  does-it x H =
      let u : ℕ = x.note.update in
      let us : List ℤ = x.note.values in
      let R : Ready p u us = subst (NoteFits p) H.noted (after-well o.lent (opened o) (opened-well o) cs).note_fits in
      guard-done p refused (does p commit) (refusal o.lent p commit) (taken x H) ∙ ap (committed p) H.noted
      ∙ sym (guard-done p refused (does p (change u us)) (refusal o.lent p (change u us)) (ready-taken o.lent p u us H.lengths R))

  counts : (x : Proposal) → Holds o.lent p x → (step o.lent p commit).1 ≡ rows x.rows
  counts x H =
      ap (λ (r : Plain × Out). r.1) (guard-done p refused (does p commit) (refusal o.lent p commit) (taken x H) ∙ ap (committed p) H.noted)
      ∙ ap rows (sym H.counted)

-- one that is refused gives no rows
unrefused : (m : ℕ) (p : Plain) (d : Plain × Out) (n : ℕ) → (guard m p refused d).1 ≡ rows n → m ≡ 0
unrefused zero p d n e = refl
unrefused (suc m) p d n e = let z : ◌≡◌ {A = ℕ} 0 1 = cc in absurd (omega arith)

pub note_held : NoteHeld
note_held o cs = held o cs (proposal_after o cs) refl

pub commit_does_it : CommitDoesIt
commit_does_it o cs x i = does-it o cs x (calls-stand o cs (some x) i)

pub commit_as_proposed : CommitAsProposed
commit_as_proposed o cs n = (
  λ e. go (proposal_after o cs) refl e,
  λ (x, i, e). counts o cs x (calls-stand o cs (some x) i) ∙ ap rows e,
)
  where
    p : Plain
    p = after o.lent (opened o) cs

    go : (y : Option Proposal) → proposal_after o cs ≡ y → (step o.lent p commit).1 ≡ rows n → (x : Proposal) × (proposal_after o cs ≡ some x) × (x.rows ≡ n)
    go none i e =
        clash (ap is_none (calls-stand o cs none i)) (ap is_none (commit-noted o.lent p (unrefused (refusal o.lent p commit) p (does p commit) n e)).1)
    go (some x) i e = (x, i, ap rows_in (sym (counts o cs x (calls-stand o cs (some x) i)) ∙ e))

-- ---- for other stores

-- the proposal that stands is the same after the same calls, with other buffers, that got the same refusals and rows
module _ {A B X Y : Type 0} (f : A → B) (m r : X → ℕ) (n s : Y → ℕ) where
  left-same : (c : Call A) (k : ℕ) (o : Option Proposal) → left_by c k o ≡ left_by (with_buffer f c) k o
  left-same (add text) k o = refl
  left-same (ask q b) k o = refl
  left-same (change i us) k o = refl
  left-same flush k o = refl
  left-same (propose i us) k o = refl
  left-same commit k o = refl
  left-same withdraw k o = refl

  pub standing-same : (o : Option Proposal) (cs : List (Call A)) (xs : List X) (ys : List Y) → map m xs ≡ map n ys → map r xs ≡ map s ys
      → standing m r o cs xs ≡ standing n s o (map (with_buffer f) cs) ys
  standing-same o [] xs ys e g = refl
  standing-same o (c ∷ cs) [] [] e g = refl
  standing-same o (c ∷ cs) [] (y ∷ ys) e g = cc
  standing-same o (c ∷ cs) (x ∷ xs) [] e g = cc
  standing-same o (c ∷ cs) (x ∷ xs) (y ∷ ys) e g =
      let k : m x ≡ n y = cc in
      let l : r x ≡ s y = cc in
      let e' : map m xs ≡ map n ys = cc in
      let g' : map r xs ≡ map s ys = cc in
      let o' : Option Proposal = settled (m x) (left_by c (r x) o) o in
      let i : o' ≡ settled (n y) (left_by (with_buffer f c) (s y) o) o =
      ap₂ (λ (k l : ℕ). settled k (left_by c l o) o) k l ∙ ap (λ (z : Option Proposal). settled (n y) z o) (left-same c (s y) o) in
      standing-same o' cs xs ys e' g' ∙ ap (λ (z : Option Proposal). standing n s z (map (with_buffer f) cs) ys) i
