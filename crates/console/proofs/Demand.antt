-- The claims of specs/Demand, from those of the store: a line makes one call or none, so a list of lines makes a list of calls. Assumes nothing.
use mathlib.Core.Path.{◌≡◌, refl, sym, ap, ap₂, ◌∙◌, subst}
use mathlib.Core.Logic.{◌≢◌}
use mathlib.Core.Option.{none, some}
use mathlib.Core.List.{List, [], ◌∷◌, map}
use Prim.Native.Nat.{ℕ, zero, suc, ◌+◌, ◌-◌}
use lib.IntN.{ℤ}
use lib.ListN.{length, take, drop}
use lib.Seq.{take_at}
use Rattle.lists.specs.Lists.{written}
use Rattle.meaning.specs.Plain as P
use Rattle.meaning.specs.Plain.{Lengths, Plain, Out, refused, added, answered, rows, flushed, withdrawn}
use Rattle.slots.specs.Keys.{Found}
use Rattle.std.specs.Prelude.{Some, None}
use Rattle.cache.specs.declared.State.{State}
use Rattle.cache.specs.Calls.{lengths_lent, Asked, Asks, found_in}
use Rattle.cache.specs.Gives.{ask_of, ask_gives, ask_refusal, cached_refusal, ask_cached, new_refusal, ask_new, ask_found}
use Rattle.meaning.specs.Refusals.{settled}
use Rattle.meaning.specs.Key.{Key}
use Rattle.meaning.specs.Call.{Call, add, ask, change, flush, propose, commit, withdraw}
use Rattle.cache.specs.Run.{Store, Start, opening_of, opened, Got, Seen, step, after, gets, plain_call, buffer_of, got_of, plain_after, plain_gets}
use Rattle.cache.specs.Means.{tables_in}
use Rattle.cache.specs.Demand.{refused_with}
use Rattle.cache.proofs.Settled.{settled-refused}
use Rattle.cache.proofs.Demand.{demands as of-store}
use Rattle.console.specs.Lines.{Command, command_of}
use Rattle.console.specs.Printed.{refused_text, answer_text}
use Rattle.console.specs.Desk.{text_of, buffer_after, Answered, called, lending, commanded, answered_of, printed_for}
use Rattle.console.proofs.Calling.{written-length}
use Rattle.console.proofs.Prints.{decimal-back, value-back, answer-short, text-short, all-printed}
use Rattle.console.proofs.Values.{calls-32}
use Rattle.console.specs.Demand.{BadChangesNothing, refusal_of, RefusedChangesNothing, Unsaid, seen_with, plain_called, plain_commanded, lines_of, plain_printed, PrintsAsPlain, BufferDoesNotMatter, calls_by, calls_for, LinesMakeCalls, unsaid_by, seen_after, said_of, PrintsItsCalls, TablesAsPlain, AnewOnlyIf, Demands}

-- ---- bad and refused lines

bad_changes_nothing : BadChangesNothing
unfolding answered_of
bad_changes_nothing s buffer line e = ap (commanded s buffer) e

module _ (s : Store) (buffer : List ℕ) where
  abbrev left : Call (List ℕ) → Store × Seen → Answered
  left c p = record { store = p.0; buffer = buffer_after c buffer p.1; text = text_of c p.1 }

  call-refused : (c : Call (List ℕ)) → ((n : ℕ) → buffer_after c buffer (refused_with n (buffer_of c)) ≡ buffer) → (step s c).1.got.refusal ≢ 0
      → called s buffer c ≡ record { store = s; buffer = buffer; text = refused_text (step s c).1.got.refusal }
  call-refused c b h =
      let n = (step s c).1.got.refusal in
      ap (left c) (of-store.refused_changes_nothing s c h)
      ∙ ap₂ (λ (x y : List ℕ). record { store = s; buffer = x; text = y }) (b n) (sym (settled-refused n _ _ h))

  -- a refused call gives back the buffer that it was lent
  buffer-back : (c : Call (Unit {0})) (n : ℕ) → let d = lending buffer c in buffer_after d buffer (refused_with n (buffer_of d)) ≡ buffer
  buffer-back (ask k b) n = refl
  buffer-back _ n = refl

  command-refused : (c : Command) → refusal_of s buffer c ≢ 0 → commanded s buffer c ≡ record { store = s; buffer = buffer; text = refused_text (refusal_of s buffer c) }
  command-refused (some c) h = call-refused (lending buffer c) (buffer-back c) h
  command-refused none h = absurd (h refl)

refused_changes_nothing : RefusedChangesNothing
unfolding answered_of
refused_changes_nothing s buffer line h = command-refused s buffer (command_of line) h

-- ---- the calls of a list of lines

abbrev gots_of : Store → List (Call (List ℕ)) → List Got
gots_of s cs = map (λ (x : Seen). x.got) (gets s cs)

abbrev head_or : Got → List Got → Got
head_or g [] = g
head_or g (x ∷ xs) = x

abbrev tail_of : List Got → List Got
tail_of [] = []
tail_of (x ∷ xs) = xs

module _ (lent : Lengths) where
  abbrev Same : Store → Plain → List (Call (List ℕ)) → Type 0
  Same s p cs = gots_of s cs ≡ plain_gets lent p cs

  -- a line on both stores, and the calls after it
  record Line (s : Store) (p : Plain) (buffer : List ℕ) (c : Command) (cs : List (Call (List ℕ))) : Type 0 where
    unsaid : Unsaid
    text : (commanded s buffer c).text ≡ (plain_commanded lent p buffer unsaid c).text
    buffers : (commanded s buffer c).buffer ≡ (plain_commanded lent p buffer unsaid c).buffer
    rest : Same (commanded s buffer c).store (plain_commanded lent p buffer unsaid c).store cs

  module _ (s : Store) (p : Plain) (buffer : List ℕ) where
    abbrev unsaid_of : Call (List ℕ) → Unsaid
    unsaid_of c = let x = (step s c).1 in record { kept = x.kept; scanned = x.scanned; drops = x.drops }

    head-same : (c : Call (List ℕ)) (cs : List (Call (List ℕ))) → Same s p (c ∷ cs) → (step s c).1.got ≡ got_of (buffer_of c) (P.step lent p (plain_call c)).1
    head-same c cs h = ap (head_or (step s c).1.got) h

    tail-same : (c : Call (List ℕ)) (cs : List (Call (List ℕ))) → Same s p (c ∷ cs) → Same (step s c).0 (P.step lent p (plain_call c)).0 cs
    tail-same c cs h = ap tail_of h

    text_same : (c : Call (List ℕ)) (cs : List (Call (List ℕ))) → Same s p (c ∷ cs) → (called s buffer c).text ≡ (plain_called lent p buffer (unsaid_of c) c).text
    text_same c cs h = ap (λ (g : Got). text_of c (seen_with (unsaid_of c) g)) (head-same c cs h)

    buffer-same : (c : Call (List ℕ)) (cs : List (Call (List ℕ))) → Same s p (c ∷ cs) → (called s buffer c).buffer ≡ (plain_called lent p buffer (unsaid_of c) c).buffer
    buffer-same c cs h = ap (λ (g : Got). buffer_after c buffer (seen_with (unsaid_of c) g)) (head-same c cs h)

    line_same : (c : Command) (cs : List (Call (List ℕ))) → Same s p (calls_by buffer c cs) → Line s p buffer c cs
    line_same (some x) cs h =
        let c = lending buffer x in
        record { unsaid = unsaid_of c; text = text_same c cs h; buffers = buffer-same c cs h; rest = tail-same c cs h }
    line_same none cs h = record { unsaid = record { kept = 0; scanned = 0; drops = 0 }; text = refl; buffers = refl; rest = h }

  printed-same : (s : Store) (p : Plain) (buffer : List ℕ) (ls : List (List ℕ)) → Same s p (calls_for s buffer ls)
      → (xs : List (List ℕ × Unsaid)) × (lines_of xs ≡ ls) × (printed_for s buffer ls ≡ plain_printed lent p buffer xs)
  unfolding answered_of
  printed-same s p buffer [] h = ([], refl, refl)
  printed-same s p buffer (l ∷ ls) h =
      let a = answered_of s buffer l in
      let k = line_same s p buffer (command_of l) (calls_for a.store a.buffer ls) h in
      let b = plain_commanded lent p buffer k.unsaid (command_of l) in
      let r = printed-same a.store b.store a.buffer ls k.rest in (
        (l, k.unsaid) ∷ r.0,
        ap (λ (t : List (List ℕ)). l ∷ t) r.1,
        ap₂ (λ (t : List ℕ) (u : List (List ℕ)). t ∷ u) k.text (r.2 ∙ ap (λ (x : List ℕ). plain_printed lent b.store x r.0) k.buffers),
      )

  -- what is not said of a line is what its call gets
  line-said : (s : Store) (p : Plain) (buffer : List ℕ) (c : Command) (cs : List (Call (List ℕ))) (h : Same s p (calls_by buffer c cs))
      → ((line_same s p buffer c cs h).unsaid ≡ unsaid_by c (gets s (calls_by buffer c cs))) × (gets (commanded s buffer c).store cs ≡ seen_after c (gets s (calls_by buffer c cs)))
  unfolding line_same
  line-said s p buffer (some c) cs h = (refl, refl)
  line-said s p buffer none cs h = (refl, refl)

  printed-said : (s : Store) (p : Plain) (buffer : List ℕ) (ls : List (List ℕ)) → Same s p (calls_for s buffer ls)
      → printed_for s buffer ls ≡ plain_printed lent p buffer (said_of ls (gets s (calls_for s buffer ls)))
  unfolding answered_of
  printed-said s p buffer [] h = refl
  printed-said s p buffer (l ∷ ls) h =
      let a = answered_of s buffer l in
      let cs = calls_for a.store a.buffer ls in
      let k = line_same s p buffer (command_of l) cs h in
      let q = line-said s p buffer (command_of l) cs h in
      let b = plain_commanded lent p buffer k.unsaid (command_of l) in
      let xs = said_of ls (gets a.store cs) in
      ap₂ (λ (t : List ℕ) (u : List (List ℕ)). t ∷ u) k.text
      (printed-said a.store b.store a.buffer ls k.rest ∙ ap (λ (x : List ℕ). plain_printed lent b.store x xs) k.buffers)
      ∙ ap₂ (λ (u : Unsaid) (x : List Seen). plain_printed lent p buffer ((l, u) ∷ said_of ls x)) q.0 q.1

-- the calls of a list of lines, from an opening on: their values have 32 bits
same_as_plain : (o : Start) (buffer : List ℕ) (ls : List (List ℕ))
    → Same (opening_of o).lent (opened o) (P.opened (opening_of o)) (calls_for (opened o) buffer ls)
    × (tables_in (after (opened o) (calls_for (opened o) buffer ls)).state (after (opened o) (calls_for (opened o) buffer ls)).cells
    ≡ (plain_after o (calls_for (opened o) buffer ls)).tables)
same_as_plain o buffer ls = of-store.same_as_plain o (calls_for (opened o) buffer ls) (calls-32 (opened o) buffer ls)

prints_as_plain : PrintsAsPlain
prints_as_plain o buffer ls =
    printed-same (opening_of o).lent (opened o) (P.opened (opening_of o)) buffer ls (same_as_plain o buffer ls).0

-- ---- the calls that the lines make

prints_its_calls : PrintsItsCalls
prints_its_calls o buffer ls =
    printed-said (opening_of o).lent (opened o) (P.opened (opening_of o)) buffer ls (same_as_plain o buffer ls).0

command-after : (s : Store) (buffer : List ℕ) (c : Command) (cs : List (Call (List ℕ))) → after s (calls_by buffer c cs) ≡ after (commanded s buffer c).store cs
command-after s buffer (some c) cs = refl
command-after s buffer none cs = refl

lines_make_calls : LinesMakeCalls
unfolding answered_of
lines_make_calls s buffer [] = refl
lines_make_calls s buffer (l ∷ ls) =
    let a = answered_of s buffer l in
    lines_make_calls a.store a.buffer ls ∙ sym (command-after s buffer (command_of l) (calls_for a.store a.buffer ls))

tables_as_plain : TablesAsPlain
tables_as_plain o buffer ls =
    ap (λ (s : Store). tables_in s.state s.cells) (lines_make_calls (opened o) buffer ls) ∙ (same_as_plain o buffer ls).1

anew_only_if : AnewOnlyIf
anew_only_if o buffer ls k lent h g =
    let cs = calls_for (opened o) buffer ls in
    let e = lines_make_calls (opened o) buffer ls in
    of-store.anew_only_if o cs (calls-32 (opened o) buffer ls) k lent
    (subst (λ (s : Store). (step s (ask k lent)).1.got.refusal ≡ 0) e h)
    (subst (λ (s : Store). (step s (ask k lent)).1.kept ≡ 0) e g)

-- ---- an answer buffer of the same length

-- the record and the numbers that a question gets, and what it keeps, go by the buffer's length alone
record Alike (a b : Asks) : Type 0 where
  results : a.result ≡ b.result
  memories : a.memory ≡ b.memory

module _ (s : State) (cells : List ℤ) (memory : List ℕ) (n : ℕ) (zs : List ℤ) (b c : List ℕ) (e : length b ≡ length c) where
  settled-alike : (k : ℕ) (d : Asks) (f : Asks) → Alike d f → (r : Asked) → Alike (settled k d (ask_gives r memory b)) (settled k f (ask_gives r memory c))
  unfolding settled
  settled-alike zero d f a r = a
  settled-alike (suc k) d f a r = record { results = refl; memories = refl }

  found_alike : (f : Found) → Alike (ask_found f s cells memory b n zs) (ask_found f s cells memory c n zs)
  unfolding ask_cached ask_new
  found_alike (Some p) = rw (← e) (settled-alike (cached_refusal s (length b) p) _ _ (record { results = refl; memories = refl }) _)
  found_alike None = rw (← e) (settled-alike (new_refusal s cells (length b) n zs) _ _ (record { results = refl; memories = refl }) _)

  ask-alike : Alike (ask_of s cells memory n zs b) (ask_of s cells memory n zs c)
  unfolding ask_of
  ask-alike = settled-alike (ask_refusal s (lengths_lent cells memory) n (length zs)) _ _ (found_alike (found_in s n zs)) _

-- of what the plain store gives, the text and the buffer's length
record Shown (q : Key) (u : Unsaid) (b c : List ℕ) (o : Out) : Type 0 where
  texts : text_of (ask q b) (seen_with u (got_of b o)) ≡ text_of (ask q c) (seen_with u (got_of c o))
  lengths : length (got_of b o).answer ≡ length (got_of c o).answer

shown : (q : Key) (u : Unsaid) (b c : List ℕ) → length b ≡ length c → (o : Out) → Shown q u b c o
shown q u b c e (refused k) = record { texts = refl; lengths = e }
shown q u b c e (added k m) = record { texts = refl; lengths = e }
shown q u b c e (answered r) =
    let first : (x : List ℕ) → take (length r) (written x 0 r) ≡ r = λ x. take_at r (drop (0 + length r) x) (length r) refl in
    record {
      texts = ap (λ (x : List ℕ). settled 0 (answer_text u.kept u.scanned x) (refused_text 0)) (first b ∙ sym (first c));
      lengths = written-length b r ∙ ap (λ (k : ℕ). length r + (k - (0 + length r))) e ∙ sym (written-length c r);
    }
shown q u b c e (rows k) = record { texts = refl; lengths = e }
shown q u b c e flushed = record { texts = refl; lengths = e }
shown q u b c e withdrawn = record { texts = refl; lengths = e }

module _ (lent : Lengths) where
  -- a line with each of two buffers, and the calls after it
  record Next (s : Store) (p : Plain) (b c : List ℕ) (x : Command) (cs ds : List (Call (List ℕ))) : Type 0 where
    text : (commanded s b x).text ≡ (commanded s c x).text
    stores : (commanded s b x).store ≡ (commanded s c x).store
    lengths : length (commanded s b x).buffer ≡ length (commanded s c x).buffer
    plain : Plain
    first : Same lent (commanded s b x).store plain cs
    second : Same lent (commanded s c x).store plain ds

  module _ (s : Store) (p : Plain) (b c : List ℕ) (e : length b ≡ length c) where
    module _ (q : Key) (cs ds : List (Call (List ℕ))) (h : Same lent s p (ask q b ∷ cs)) (k : Same lent s p (ask q c ∷ ds)) where
      abbrev plainly : ℕ → Plain × Out
      plainly l = P.step lent p (ask q l)

      alike : Alike (ask_of s.state s.cells s.memory q.query q.values b) (ask_of s.state s.cells s.memory q.query q.values c)
      alike = ask-alike s.state s.cells s.memory q.query q.values b c e

      stores_same : (step s (ask q b)).0 ≡ (step s (ask q c)).0
      unfolding step
      stores_same i = record { state = (alike.results i).state; cells = s.cells; memory = alike.memories i }

      unsaid-same : unsaid_of lent s p b (ask q b) ≡ unsaid_of lent s p c (ask q c)
      unfolding step
      unsaid-same i = record { kept = (alike.results i).cached; scanned = (alike.results i).scanned; drops = 0 }

      shown-same : Shown q (unsaid_of lent s p b (ask q b)) b c (plainly (length b)).1
      shown-same = shown q (unsaid_of lent s p b (ask q b)) b c e (plainly (length b)).1

      texts-same : (called s b (ask q b)).text ≡ (called s c (ask q c)).text
      texts-same =
          text_same lent s p b (ask q b) cs h ∙ shown-same.texts
          ∙ (λ i. text_of (ask q c) (seen_with (unsaid-same i) (got_of c (plainly (e i)).1)))
          ∙ sym (text_same lent s p c (ask q c) ds k)

      buffers-same : length (called s b (ask q b)).buffer ≡ length (called s c (ask q c)).buffer
      buffers-same =
          ap length (buffer-same lent s p b (ask q b) cs h) ∙ shown-same.lengths
          ∙ (λ i. length (got_of c (plainly (e i)).1).answer)
          ∙ sym (ap length (buffer-same lent s p c (ask q c) ds k))

      ask-next : Next s p b c (some (ask q tt)) cs ds
      ask-next = record {
        text = texts-same;
        stores = stores_same;
        lengths = buffers-same;
        plain = (plainly (length b)).0;
        first = tail-same lent s p b (ask q b) cs h;
        second = subst (λ (l : ℕ). Same lent (step s (ask q c)).0 (plainly l).0 ds) (sym e) (tail-same lent s p c (ask q c) ds k);
      }

    line-next : (x : Command) (cs ds : List (Call (List ℕ))) → Same lent s p (calls_by b x cs) → Same lent s p (calls_by c x ds) → Next s p b c x cs ds
    line-next (some (add text)) cs ds h k = record { text = refl; stores = refl; lengths = e; plain = _; first = tail-same lent s p b (add text) cs h; second = tail-same lent s p c (add text) ds k }
    line-next (some (ask q u)) cs ds h k = ask-next q cs ds h k
    line-next (some (change n zs)) cs ds h k = record { text = refl; stores = refl; lengths = e; plain = _; first = tail-same lent s p b (change n zs) cs h; second = tail-same lent s p c (change n zs) ds k }
    line-next (some flush) cs ds h k = record { text = refl; stores = refl; lengths = e; plain = _; first = tail-same lent s p b flush cs h; second = tail-same lent s p c flush ds k }
    line-next (some (propose n zs)) cs ds h k = record { text = refl; stores = refl; lengths = e; plain = _; first = tail-same lent s p b (propose n zs) cs h; second = tail-same lent s p c (propose n zs) ds k }
    line-next (some commit) cs ds h k = record { text = refl; stores = refl; lengths = e; plain = _; first = tail-same lent s p b commit cs h; second = tail-same lent s p c commit ds k }
    line-next (some withdraw) cs ds h k = record { text = refl; stores = refl; lengths = e; plain = _; first = tail-same lent s p b withdraw cs h; second = tail-same lent s p c withdraw ds k }
    line-next none cs ds h k = record { text = refl; stores = refl; lengths = e; plain = p; first = h; second = k }

  buffers-alike : (s : Store) (p : Plain) (b c : List ℕ) (ls : List (List ℕ)) → length b ≡ length c → Same lent s p (calls_for s b ls) → Same lent s p (calls_for s c ls)
      → printed_for s b ls ≡ printed_for s c ls
  unfolding answered_of
  buffers-alike s p b c [] e h k = refl
  buffers-alike s p b c (l ∷ ls) e h k =
      let x = answered_of s b l in
      let y = answered_of s c l in
      let n = line-next s p b c e (command_of l) (calls_for x.store x.buffer ls) (calls_for y.store y.buffer ls) h k in
      let g = subst (λ (t : Store). Same lent t n.plain (calls_for t y.buffer ls)) (sym n.stores) n.second in
      ap₂ (λ (t : List ℕ) (u : List (List ℕ)). t ∷ u) n.text
      (buffers-alike x.store n.plain x.buffer y.buffer ls n.lengths n.first g ∙ ap (λ (t : Store). printed_for t y.buffer ls) n.stores)

buffer_does_not_matter : BufferDoesNotMatter
buffer_does_not_matter o b c ls e =
    let same : (x : List ℕ) → Same (opening_of o).lent (opened o) (P.opened (opening_of o)) (calls_for (opened o) x ls) = λ x. (same_as_plain o x ls).0 in
    buffers-alike (opening_of o).lent (opened o) (P.opened (opening_of o)) b c ls e (same b) (same c)

-- ---- all claims

pub demands : Demands
demands = record {
  bad_changes_nothing = bad_changes_nothing;
  refused_changes_nothing = refused_changes_nothing;
  prints_as_plain = prints_as_plain;
  buffer_does_not_matter = buffer_does_not_matter;
  lines_make_calls = lines_make_calls;
  prints_its_calls = prints_its_calls;
  tables_as_plain = tables_as_plain;
  anew_only_if = anew_only_if;
  number_reads_back = decimal-back;
  value_reads_back = value-back;
  answer_text_short = answer-short;
  text_short = text-short;
  all_printed = all-printed;
}
