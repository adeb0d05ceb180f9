-- A turn of the loop: a line is gathered on, and answered if it ends. Assumes nothing.
use mathlib.Core.Path.{◌≡◌, refl, sym, ap, ap₂, ◌∙◌, subst}
use mathlib.Core.Bool.{Bool, true, false, not, cond, true≢false}
use mathlib.Core.List.{List, [], ◌∷◌, ◌++◌, append_assoc, append-nil}
use Prim.Native.Nat.{ℕ, suc, ◌+◌, ◌-◌, ◌≤◌, ◌<◌}
use native.Mathlib.Omega.{arith}
use borrow.Author.Tests.{eqb-true}
use lib.IntN.{ℤ}
use lib.ListN.{length, take, drop, length-append, length-take, length-drop}
use lib.Seq.{take_all, take_at, length-take-le}
use Rattle.std.specs.Prelude.{Option, None, Some, Result, Ok, Err, OnErr}
use Rattle.std.specs.Io.KnownBytes.{Appends, Consumes}
use Rattle.std.proofs.lemmas.List.{take-append-drop}
use Rattle.lists.specs.Lists.{all, take_while, drop_while}
use Rattle.lists.proofs.Bools.{and_left, and_right}
use Rattle.lists.proofs.Runs.{run_length, run-all}
use Rattle.cache.specs.declared.State.{State}
use Rattle.cache.specs.Run.{Start, opened}
use Rattle.console.specs.Desk.{Reply}
use Rattle.console.specs.declared.Gathered.{Gathered}
use Rattle.console.specs.Room.{fitting, filled, filled_to}
use Rattle.console.specs.Lines.{is_newline, line_from, has_newline, line_ends, gathered_of}
use Rattle.console.specs.Desk.{Replies, replies, reply_of}
use Rattle.console.proofs.Rooms.{take-both}
use Rattle.console.proofs.Prints.{text-short, all-printed}
use Rattle.console.proofs.Bounds.{gather-moves, gather-within, reply-within}
use Rattle.serve.specs.Input.{Session, most_held, holding, answering, next_session, fed, printed_in, finished, printed_last, printed_of, beginning}
use Rattle.serve.specs.Private.Turns.{most_lent, most_printed, session_of, Feeds, Begins, Turn, Reads, ReadsPart, Runs}
use Rattle.serve.proofs.Feeding.{pieces-join, take-held, fed_by, text_by, prints-the-lines}

-- ---- bytes that are known grow and are used up, step by step

pub appends-none : (a : Option (List ℕ)) → Appends a a []
appends-none None = tt
appends-none (Some xs) = sym (append-nil xs)

pub appends-both : (a b c : Option (List ℕ)) (x y : List ℕ) → Appends a b x → Appends b c y → Appends a c (x ++ y)
appends-both None b c x y h k = tt
appends-both (Some p) None c x y h k = absurd h
appends-both (Some p) (Some q) None x y h k = absurd k
appends-both (Some p) (Some q) (Some r) x y h k = k ∙ ap (λ (z : List ℕ). z ++ y) h ∙ append_assoc p x y

pub consumes-none : (a : Option (List ℕ)) → Consumes a a []
consumes-none None = tt
consumes-none (Some xs) = refl

pub consumes-both : (a b c : Option (List ℕ)) (x y : List ℕ) → Consumes a b x → Consumes b c y → Consumes a c (x ++ y)
consumes-both None b c x y h k = tt
consumes-both (Some p) None c x y h k = absurd h
consumes-both (Some p) (Some q) None x y h k = absurd k
consumes-both (Some p) (Some q) (Some r) x y h k = h ∙ ap (λ (z : List ℕ). x ++ z) k ∙ sym (append_assoc x y r)

-- ---- a text at the start of the bytes that are lent for it

pub begins-none : (out : List ℕ) → Begins [] out
begins-none [] = refl
begins-none (b ∷ out) = refl

pub begins : (n : ℕ) (text out : List ℕ) → take n out ≡ text → n ≤ length out → Begins text out
begins n text out e h = ap (λ (k : ℕ). take k out) (sym (ap length e) ∙ length-take-le n out h) ∙ e

-- what holds at all events holds where there is an error
pub at-error : {T E P : Type 0} (r : Result T E) → P → OnErr r P
at-error (Ok x) p = tt
at-error (Err e) p = p

-- ---- what is gathered of a piece

-- the bytes of a line that were used up, its end among them
abbrev ending : Bool → List ℕ
ending ended = cond ended (10 ∷ []) []

-- are held
pub record Gathers (piece : List ℕ) (held : List ℕ) (next : ℕ) (after : List ℕ) (ended : Bool) : Type 0 where
  pub used : take next piece ≡ line_from piece 0 ++ ending ended
  pub bytes : after ≡ take most_held (held ++ line_from piece 0)

abbrev within : ℕ → Bool
within b = not (is_newline b)

run-used : (s : List ℕ)
    → take (length (take_while within s) + cond (has_newline (drop_while within s)) 1 0) s ≡ take_while within s ++ ending (has_newline (drop_while within s))
run-used [] = refl
run-used (b ∷ s) = go (is_newline b) refl (run-used s)
  where
    go : (n : Bool) → is_newline b ≡ n
        → take (length (take_while within s) + cond (has_newline (drop_while within s)) 1 0) s ≡ take_while within s ++ ending (has_newline (drop_while within s))
        → let w = cond (not n) (b ∷ take_while within s) [] in
        let e = has_newline (cond (not n) (drop_while within s) (b ∷ s)) in
        take (length w + cond e 1 0) (b ∷ s) ≡ w ++ ending e
    go true e h = ap (λ (x : ℕ). x ∷ []) (eqb-true b 10 e)
    go false e h =
        let c : ℕ = cond (has_newline (drop_while within s)) 1 0 in
        let z : suc (length (take_while within s)) + c ≡ suc (length (take_while within s) + c) = omega arith in
        ap (λ (k : ℕ). take k (b ∷ s)) z ∙ ap (λ (r : List ℕ). b ∷ r) h

some_left : (s : List ℕ) → cond (has_newline s) 1 0 ≤ length s
some_left [] = omega arith
some_left (b ∷ s) = omega arith

module _ (piece : List ℕ) (line : List ℕ) (held : ℕ) where
  abbrev next : ℕ
  next = 0 + length (line_from piece 0) + cond (line_ends piece 0) 1 0

  used : take next piece ≡ line_from piece 0 ++ ending (line_ends piece 0)
  used =
      let z : next ≡ length (line_from piece 0) + cond (line_ends piece 0) 1 0 = omega arith in
      ap (λ (k : ℕ). take k piece) z ∙ run-used piece

  inside : next ≤ length piece
  inside = omega (arith, run_length within piece, some_left (drop_while within piece))

  -- ---- the bytes that are held

  held-are : held ≤ length line → length line ≡ most_held
      → take (filled_to line held (line_from piece 0)) (filled line held (line_from piece 0)) ≡ take most_held (take held line ++ line_from piece 0)
  held-are h long =
      let w = line_from piece 0 in
      let front = take held line ++ fitting line held w in
      let a : length (take held line) ≡ held = length-take-le held line h in
      let n : length front ≡ filled_to line held w = length-append (take held line) (fitting line held w) ∙ ap (λ (k : ℕ). k + length (fitting line held w)) a in
      let z : length line - held ≡ most_held - length (take held line) = omega (arith, a, long) in
      take_at front (drop (held + length (fitting line held w)) line) (filled_to line held w) n
      ∙ ap₂ (λ (x : List ℕ) (k : ℕ). x ++ take k w) (sym (take_all most_held (take held line) (omega (arith, a, long, h)))) z
      ∙ sym (take-both most_held (take held line) w)

  module _ (g : Gathered) (new : List ℕ) (e : g ≡ gathered_of piece 0 line held) (f : new ≡ filled line held (line_from piece 0)) (h : held ≤ most_held) (long : length line ≡ most_held) where
    pub gathers-line : Gathers piece (take held line) g.next (take g.held new) g.ended
    unfolding gathered_of
    gathers-line = record {
      used = subst (λ (x : Gathered). take x.next piece ≡ line_from piece 0 ++ ending x.ended) (sym e) used;
      bytes = ap₂ take (ap (λ (x : Gathered). x.held) e) f ∙ held-are (omega (arith, h, long)) long;
    }

    pub gathers-moves : 0 < length piece → 0 < g.next
    gathers-moves k = subst (λ (x : Gathered). 0 < x.next) (sym e) (gather-moves piece 0 line held k)

    pub gathers-inside : g.next ≤ length piece
    unfolding gathered_of
    gathers-inside = subst (λ (x : Gathered). x.next ≤ length piece) (sym e) inside

    pub gathers-within : g.held ≤ most_held
    gathers-within =
        let w : g.held ≤ length line = subst (λ (x : Gathered). x.held ≤ length line) (sym e) (gather-within piece 0 line held (omega (arith, h, long))) in
        omega (arith, w, long)

-- ---- what they do

-- bytes of one line are held, and nothing is printed
run-fed : (w : List ℕ) (s : Session) → length s.held ≤ most_held → all within w ≡ true → (fed s w ≡ holding s w) × (printed_in s w ≡ [])
unfolding fed printed_in
run-fed [] s h a =
    let e : s.held ≡ take most_held (s.held ++ []) = sym (ap (take most_held) (append-nil s.held) ∙ take_all most_held s.held h) in
    (ap (λ (x : List ℕ). record { store = s.store; buffer = s.buffer; held = x }) e, refl)
run-fed (b ∷ w) s h a = go (is_newline b) (and_left (within b) (all within w) a) (λ t k. run-fed w t k (and_right (within b) (all within w) a))
  where
    go : (n : Bool) → not n ≡ true → ((t : Session) → length t.held ≤ most_held → (fed t w ≡ holding t w) × (printed_in t w ≡ []))
        → (fed (fed_by s b n) w ≡ holding s (b ∷ w)) × (text_by s n ++ printed_in (fed_by s b n) w ≡ [])
    go true e f = absurd (true≢false (sym e))
    go false e f =
        let r = f (holding s (b ∷ [])) (omega (arith, length-take most_held (s.held ++ (b ∷ [])))) in
        let j : take most_held (take most_held (s.held ++ (b ∷ [])) ++ w) ≡ take most_held (s.held ++ (b ∷ w)) =
        take-held most_held (s.held ++ (b ∷ [])) w ∙ ap (take most_held) (append_assoc s.held (b ∷ []) w) in
        (r.0 ∙ ap (λ (x : List ℕ). record { store = s.store; buffer = s.buffer; held = x }) j, r.1)

module _ (s : Session) (piece : List ℕ) (next : ℕ) (after : List ℕ) (ended : Bool) (k : length s.held ≤ most_held) (G : Gathers piece s.held next after ended) where
  abbrev gathered : Session
  gathered = record { store = s.store; buffer = s.buffer; held = after }

  run : (fed s (line_from piece 0) ≡ holding s (line_from piece 0)) × (printed_in s (line_from piece 0) ≡ [])
  run = run-fed (line_from piece 0) s k (run-all within piece)

  gathered-fed : gathered ≡ fed s (line_from piece 0)
  gathered-fed = ap (λ (x : List ℕ). record { store = s.store; buffer = s.buffer; held = x }) G.bytes ∙ sym run.0

  -- the line goes on
  pub turn_on : ended ≡ false → (before : Option (List ℕ)) → Feeds s (take next piece) gathered before before
  turn_on e before =
      let u : take next piece ≡ line_from piece 0 = G.used ∙ ap (λ (b : Bool). line_from piece 0 ++ ending b) e ∙ append-nil (line_from piece 0) in
      record {
        session = gathered-fed ∙ ap (fed s) (sym u);
        printed = subst (λ (x : List ℕ). Appends before before x) (sym (ap (printed_in s) u ∙ run.1)) (appends-none before);
      }

  module _ (e : ended ≡ true) where
    ended-used : take next piece ≡ line_from piece 0 ++ (10 ∷ [])
    ended-used = G.used ∙ ap (λ (b : Bool). line_from piece 0 ++ ending b) e

    -- the line ends, and is answered
    pub turn-fed : next_session (answering gathered) ≡ fed s (take next piece)
    unfolding fed
    turn-fed =
        ap (λ (x : Session). next_session (answering x)) gathered-fed
        ∙ sym (ap (fed s) ended-used ∙ (pieces-join s (line_from piece 0) (10 ∷ [])).0)

    pub turn-printed : (answering gathered).text ≡ printed_in s (take next piece)
    unfolding fed printed_in
    turn-printed =
        ap (λ (x : Session). (answering x).text) gathered-fed
        ∙ sym
        (ap (printed_in s) ended-used ∙ (pieces-join s (line_from piece 0) (10 ∷ [])).1
        ∙ ap (λ (x : List ℕ). x ++ ((answering (fed s (line_from piece 0))).text ++ [])) run.1
        ∙ append-nil (answering (fed s (line_from piece 0))).text)

-- ---- as the functions have it: the line of a store that stands for s is gathered on

module _ (state : State) (cells : List ℤ) (memory answer line : List ℕ) (n : ℕ) (s : Session) (v : session_of state cells memory answer (take n line) ≡ s) (piece : List ℕ)
    (g : Gathered) (new : List ℕ) (e : g ≡ gathered_of piece 0 line n) (f : new ≡ filled line n (line_from piece 0)) (h : n ≤ most_held) (long : length line ≡ most_held) where
  abbrev first : Session
  first = session_of state cells memory answer (take n line)

  abbrev second : Session
  second = session_of state cells memory answer (take g.held new)

  short : length (take n line) ≤ most_held
  short = omega (arith, length-take n line, h)

  G : Gathers piece (take n line) g.next (take g.held new) g.ended
  G = gathers-line piece line n g new e f h long

  -- it goes on
  pub line-goes_on : g.ended ≡ false → (p : Option (List ℕ)) → Feeds s (take g.next piece) second p p
  line-goes_on z p = subst (λ (x : Session). Feeds x (take g.next piece) second p p) v (turn_on first piece g.next (take g.held new) g.ended short G z p)

  -- it ends, and is answered
  module _ (z : g.ended ≡ true) (t : Session) (y : t ≡ next_session (answering second)) where
    pub line-fed : t ≡ fed s (take g.next piece)
    line-fed = y ∙ turn-fed first piece g.next (take g.held new) g.ended short G z ∙ ap (λ (x : Session). fed x (take g.next piece)) v

    pub line-ends : (p q : Option (List ℕ)) → Appends p q (answering second).text → Feeds s (take g.next piece) t p q
    line-ends p q a = record {
      session = line-fed;
      printed =
          subst (λ (x : List ℕ). Appends p q x)
          (turn-printed first piece g.next (take g.held new) g.ended short G z ∙ ap (λ (x : Session). printed_in x (take g.next piece)) v) a;
    }

  -- either is a turn: for bytes of a line that goes on nothing is printed
  module _ (m : 0 < length piece) (out : List ℕ) where
    pub turn-goes_on : g.ended ≡ false → Turn s piece second out
    turn-goes_on z =
        let F = line-goes_on z (Some []) in record {
          used = g.next;
          some = gathers-moves piece line n g new e f h long m;
          inside = gathers-inside piece line n g new e f h long;
          session = F.session;
          text = subst (λ (x : List ℕ). Begins x out) F.printed (begins-none out);
        }

    pub turn-ends : (z : g.ended ≡ true) (t : Session) → t ≡ next_session (answering second) → Begins (answering second).text out → Turn s piece t out
    turn-ends z t y b =
        let F = line-ends z t y (Some []) (Some (answering second).text) refl in record {
          used = g.next;
          some = gathers-moves piece line n g new e f h long m;
          inside = gathers-inside piece line n g new e f h long;
          session = F.session;
          text = subst (λ (x : List ℕ). Begins x out) F.printed b;
        }

-- ---- the input's end

some-finished : (s : Session) → 0 < length s.held → (next_session (answering s) ≡ finished s) × ((answering s).text ≡ printed_last s)
some-finished s h = go s.held h
  where
    go : (held : List ℕ) → 0 < length held
        → let x : Session = record { store = s.store; buffer = s.buffer; held = held } in (next_session (answering x) ≡ finished x) × ((answering x).text ≡ printed_last x)
    go [] h = absurd (omega arith)
    go (b ∷ held) h = (refl, refl)

pub held-finished : (s : Session) (n : ℕ) (line : List ℕ) → take n line ≡ s.held → 0 < n → length line ≡ most_held
    → (next_session (answering s) ≡ finished s) × ((answering s).text ≡ printed_last s)
held-finished s n line e h l = some-finished s (omega (arith, h, l, ap length e, length-take n line))

-- ---- one turn after another

pub feeds-none : (s : Session) (a : Option (List ℕ)) → Feeds s [] s a a
unfolding fed printed_in
feeds-none s a = record { session = refl; printed = appends-none a }

pub feeds-both : (s x t : Session) (a b : List ℕ) (p q r : Option (List ℕ)) → Feeds s a x p q → Feeds x b t q r → Feeds s (a ++ b) t p r
feeds-both s x t a b p q r F G =
    let j = pieces-join s a b in record {
      session = G.session ∙ ap (λ (y : Session). fed y b) F.session ∙ sym j.0;
      printed =
          subst (λ (z : List ℕ). Appends p r z) (ap (λ (y : Session). printed_in s a ++ printed_in y b) F.session ∙ sym j.1)
          (appends-both p q r (printed_in s a) (printed_in x b) F.printed G.printed);
    }

-- a part of what is left, and what is left then
pub taken-on : (n : ℕ) (rest : List ℕ) → take n rest ++ take (length rest - n) (drop n rest) ≡ rest
taken-on n rest =
    ap (λ (x : List ℕ). take n rest ++ x) (take_all (length rest - n) (drop n rest) (omega (arith, length-drop n rest))) ∙ take-append-drop n rest

pub reads_more : (s x t : Session) (bytes : List ℕ) → Reads x t → x ≡ fed s bytes → Reads s t
reads_more s x t bytes r e = (bytes ++ r.0, r.1 ∙ ap (λ (y : Session). fed y r.0) e ∙ sym (pieces-join s bytes r.0).0)

-- where a part of a piece was used up
pub part_reads : {s t : Session} {piece : List ℕ} → ReadsPart s piece t → Reads s t
part_reads {s} {t} {piece} r = (take r.used piece, r.session)

take_more : (used : List ℕ) (n : ℕ) (rest : List ℕ) → take (length used + n) (used ++ rest) ≡ used ++ take n rest
take_more used n rest =
    let e : length used + n - length used ≡ n = omega arith in
    take-both (length used + n) used rest ∙ ap₂ (λ (x : List ℕ) (k : ℕ). x ++ take k rest) (take_all (length used + n) used (omega arith)) e

pub part_more : {s x t : Session} {piece rest : List ℕ} (used : List ℕ) → piece ≡ used ++ rest → x ≡ fed s used → ReadsPart x rest t → ReadsPart s piece t
part_more {s} {x} {t} {piece} {rest} used p e r = record {
  used = length used + r.used;
  inside = omega (arith, r.inside, ap length p, length-append used rest);
  session =
      r.session ∙ ap (λ (y : Session). fed y (take r.used rest)) e ∙ sym (pieces-join s used (take r.used rest)).0
      ∙ ap (fed s) (sym (ap (take (length used + r.used)) p ∙ take_more used r.used rest));
}

-- and then the input's end
pub runs-on : (s x t : Session) (bytes : List ℕ) (p q r : Option (List ℕ)) → Feeds s bytes x p q → t ≡ finished x → Appends q r (printed_last x) → Runs s bytes t p r
runs-on s x t bytes p q r F e h = record {
  session = e ∙ ap finished F.session;
  printed = appends-both p q r (printed_in s bytes) (printed_last (fed s bytes)) F.printed (subst (λ (y : Session). Appends q r (printed_last y)) F.session h);
}

-- from the opening to the end
pub serves-lines : (o : Start) (buffer : List ℕ) (s t : Session) (input : List ℕ) (p r : Option (List ℕ)) → s ≡ beginning (opened o) buffer → Runs s input t p r
    → Appends p r (printed_of (opened o) buffer input)
serves-lines o buffer s t input p r e R =
    subst (λ (x : List ℕ). Appends p r x)
    (ap (λ (y : Session). printed_in y input ++ printed_last (fed y input)) e ∙ prints-the-lines (opened o) buffer input) R.printed

-- ---- a line answered

module _ (r : Reply) (cells' : List ℤ) (memory' answer' out' : List ℕ) (state : State) (cells : List ℤ) (memory answer line out : List ℕ)
    (e : replies r cells' memory' answer' out' ≡ reply_of state cells memory answer line out) where
  pub reply-inside : r.size ≤ length out
  reply-inside = omega (arith, ap (λ (x : Replies). x.result.size) e, reply-within state cells memory answer line out)

  pub reply-session : session_of r.state cells' memory' answer' [] ≡ next_session (answering (session_of state cells memory answer line))
  unfolding reply_of
  reply-session = ap (λ (x : Replies). session_of x.result.state x.cells x.memory x.answer []) e

  pub reply-text : length answer ≤ most_lent → most_printed ≤ length out → take r.size out' ≡ (answering (session_of state cells memory answer line)).text
  unfolding reply_of
  reply-text l h =
      let a = answering (session_of state cells memory answer line) in
      let p = all-printed out a.text (omega (arith, h, text-short (record { state = state; cells = cells; memory = memory }) answer line l)) in
      ap (λ (x : Replies). take x.result.size x.out) e ∙ ap (λ (k : ℕ). take k (filled out 0 a.text)) p.0 ∙ p.1
