-- The labels of a clause in arrays, comparison by comparison, and what is read off them. Assumes nothing.
use Rattle.std.specs.Prelude.{Option, Some, None}
use mathlib.Core.Path.{◌≡◌, refl, sym, ap, ap₂, subst, ◌∙◌}
use mathlib.Core.Bool.{Bool, true, false, cond, ◌||◌}
use mathlib.Core.List.{List, [], ◌∷◌, ◌++◌, map, map-map}
use Prim.Native.Nat.{ℕ, ◌+◌, ◌-◌, ◌*◌, ◌≤◌, ◌<◌, min, max}
use native.Mathlib.Numerals.{add-one}
use native.Mathlib.Omega.{arith}
use lib.Dec.{eqb, leb}
use borrow.Author.Tests.{leb-true, leb-false}
use lib.ListN.{length, get_or, take, drop, set, replicate, length-map, drop_of_length-le}
use lib.Seq.{drop-cons, get_or-take, paste, length-take-le}
use Rattle.lists.specs.Lists.{All, any, from}
use Rattle.lists.proofs.Bools.{or_assoc}
use Rattle.lists.proofs.Lists.{map-drop, All-map, All-image, any-map, map-take, map_same}
use Rattle.lists.proofs.Places.{All-at}
use Rattle.lists.proofs.Moved.{take-from, from-count, from-below}
use Rattle.meaning.specs.Operator.{eq, ne, lt, le, gt, ge, Predicate, by, is-null, is-not-null}
use Rattle.meaning.specs.Condition.{Comparison, renamed}
use Rattle.statement.specs.Compiled.{padded}
use Rattle.statement.specs.Operators.{predicate_at}
use Rattle.pattern.specs.declared.Entry.TheVariants.{Any}
use Rattle.pattern.specs.declared.Entry.{Entry}
use Rattle.pattern.specs.declared.Pattern.{Pattern}
use Rattle.pattern.specs.Private.Least.{asked_from, Coded, join_least, least_on, least, clashes, clashes_on, fails, contradicts, entry_of_code, least_entry}
use Rattle.pattern.specs.Stored.{entry_struct, pattern_struct}
use Rattle.pattern.specs.Private.Flat.{comparison_at, clause_at, failing, Readable, LabelsOf, entries_of, coded_pattern}
use Rattle.pattern.proofs.Searching.{fill_more, fill_done}
use Rattle.pattern.proofs.Mapped.{get_or-map-in, drop-replicate, from_at}

-- ---- the comparisons of a clause

module _ (codes ops : List ℕ) (n : ℕ) where
  abbrev cs : Coded
  cs = clause_at codes ops n

  pub clause-length : length cs ≡ n
  clause-length = length-map (from 0 n) (comparison_at codes ops) ∙ from-count 0 n

  pub clause-at : (i : ℕ) (d : Comparison ℕ) → i < n → get_or cs i d ≡ comparison_at codes ops i
  clause-at i d h =
      let l : i < length (from 0 n) = omega (arith, from-count 0 n) in
      let z : 0 + i ≡ i = omega arith in
      get_or-map-in (comparison_at codes ops) (from 0 n) i 0 d l ∙ ap (comparison_at codes ops) (from_at 0 n i 0 h ∙ z)

  pub clause-next : (i : ℕ) → i < n → drop i cs ≡ comparison_at codes ops i ∷ drop (i + 1) cs
  clause-next i h =
      drop-cons cs i (comparison_at codes ops i) (omega (arith, clause-length))
      ∙ ap₂ (λ (c : Comparison ℕ) (k : ℕ). c ∷ drop k cs) (clause-at i (comparison_at codes ops i) h) (sym (add-one i))

  pub clause-none : (i : ℕ) → n ≤ i → drop i cs ≡ []
  clause-none i h = let l : length cs ≤ i = omega (arith, clause-length) in drop_of_length-le cs l

-- the operators in use
pub cut-clause : (codes ops : List ℕ) (n : ℕ) → n ≤ length ops → clause_at codes (take n ops) (length (take n ops)) ≡ clause_at codes ops n
cut-clause codes ops n h =
    ap (clause_at codes (take n ops)) (length-take-le n ops h)
    ∙ map_same (comparison_at codes ops) (All-map (λ k l. at k (omega arith)) (from-below 0 n))
  where
    at : (k : ℕ) → k < n → comparison_at codes (take n ops) k ≡ comparison_at codes ops k
    at k l = ap (λ (o : ℕ). record { left = get_or codes (2 * k) 0; op = predicate_at o; right = get_or codes (2 * k + 1) 0 }) (get_or-take n ops k 0 l)

-- ---- numbers that can be read stay so

min-readable : (a b : ℕ) → Readable a → Readable b → Readable (min a b)
min-readable a b r s = go (leb a b) refl
  where
    go : (t : Bool) → leb a b ≡ t → Readable (min a b)
    go true e = let l = leb-true a b e in let m : a ≡ min a b = omega arith in subst Readable m r
    go false e = let l = leb-false a b e in let m : b ≡ min a b = omega arith in subst Readable m s

join-readable : (p : Predicate) (a b x : ℕ) → Readable a → Readable b → Readable x → Readable (join_least p a b x)
join-readable (by eq) a b x r s t = go (eqb x (max a b))
  where
    go : (e : Bool) → Readable (cond e (min a b) x)
    go true = min-readable a b r s
    go false = t
join-readable (by ne) a b x r s t = t
join-readable (by lt) a b x r s t = t
join-readable (by le) a b x r s t = t
join-readable (by gt) a b x r s t = t
join-readable (by ge) a b x r s t = t
join-readable is-null a b x r s t = t
join-readable is-not-null a b x r s t = t

-- ---- labels

module _ (codes ops : List ℕ) (n : ℕ) where
  -- the first i comparisons are done: f is what they make of an operand
  pub record Labelling (labels : List ℕ) (clash : Bool) (i : ℕ) : Type 0 where
    pub f : ℕ → ℕ
    pub labels_are : labels ≡ map f codes
    pub least_left : least_on f (drop i (clause_at codes ops n)) ≡ least (clause_at codes ops n)
    pub clash_left : (clash || clashes_on f (drop i (clause_at codes ops n))) ≡ clashes_on (λ x. x) (clause_at codes ops n)
    pub readable : All Readable labels

  map-id : (l : List ℕ) → l ≡ map (λ (x : ℕ). x) l
  map-id [] = refl
  map-id (x ∷ l) = ap (λ (r : List ℕ). x ∷ r) (map-id l)

  pub label-start : All Readable codes → Labelling codes false 0
  label-start r = record { f = λ x. x; labels_are = map-id codes; least_left = refl; clash_left = refl; readable = r }

  module _ (long : length codes ≡ 40) (few : n ≤ 16) (labels : List ℕ) (clash : Bool) (i : ℕ) (L : Labelling labels clash i) (h : i < n) where
    abbrev left : ℕ
    left = get_or labels (2 * i) 0

    abbrev right : ℕ
    right = get_or labels (2 * i + 1) 0

    abbrev op : Predicate
    op = predicate_at (get_or ops i 0)

    side : (k : ℕ) → k < 40 → get_or labels k 0 ≡ L.f (get_or codes k 0)
    side k l = ap (λ (x : List ℕ). get_or x k 0) L.labels_are ∙ get_or-map-in L.f codes k 0 0 (omega arith)

    labels-long : length labels ≡ 40
    labels-long = ap length L.labels_are ∙ length-map codes L.f ∙ long

    pub label-more : (labels' : List ℕ) (clash' : Bool) → labels' ≡ map (join_least op left right) labels → clash' ≡ (clash || clashes op left right)
        → Labelling labels' clash' (i + 1)
    label-more labels' clash' el ec =
        let c = comparison_at codes ops i in
        let sl : left ≡ L.f c.left = side (2 * i) (omega arith) in
        let sr : right ≡ L.f c.right = side (2 * i + 1) (omega arith) in
        let g : ℕ → ℕ = λ x. join_least op (L.f c.left) (L.f c.right) (L.f x) in
        let next = clause-next codes ops n i h in
        let rl : Readable left = All-at (2 * i) 0 (omega (arith, labels-long)) L.readable in
        let rr : Readable right = All-at (2 * i + 1) 0 (omega (arith, labels-long)) L.readable in
        record {
          f = g;
          labels_are = el
              ∙ ap₂ (λ (x : ℕ) (y : ℕ). map (join_least op x y) labels) sl sr
              ∙ ap (map (join_least op (L.f c.left) (L.f c.right))) L.labels_are
              ∙ map-map (join_least op (L.f c.left) (L.f c.right)) L.f codes;
          least_left = sym (ap (least_on L.f) next) ∙ L.least_left;
          clash_left = ap (λ (b : Bool). b || clashes_on g (drop (i + 1) (clause_at codes ops n))) (ec ∙ ap₂ (λ (x : ℕ) (y : ℕ). clash || clashes op x y) sl sr)
              ∙ sym (or_assoc clash (clashes op (L.f c.left) (L.f c.right)) (clashes_on g (drop (i + 1) (clause_at codes ops n))))
              ∙ sym (ap (λ (l : Coded). clash || clashes_on L.f l) next) ∙ L.clash_left;
          readable = subst (All Readable) (sym el) (All-image (join_least op left right) (All-map (λ x t. join-readable op left right x rl rr t) L.readable));
        }

  pub label-clash : (labels : List ℕ) (i : ℕ) → Labelling labels true i → clashes_on (λ x. x) (clause_at codes ops n) ≡ true
  label-clash labels i L = sym L.clash_left

  pub label-done : (labels : List ℕ) (i : ℕ) → n ≤ i → Labelling labels false i → LabelsOf codes ops n labels
  label-done labels i h L =
      let none = clause-none codes ops n i h in
      let e : L.f ≡ least (clause_at codes ops n) = sym (ap (least_on L.f) none) ∙ L.least_left in
      record {
        labels_are = L.labels_are ∙ ap (λ (g : ℕ → ℕ). map g codes) e;
        no_clash = sym L.clash_left ∙ ap (clashes_on L.f) none;
        readable = L.readable;
      }

-- ---- entries

abbrev pub entry_at : ℕ → Entry
entry_at x = entry_struct (entry_of_code x)

module _ (labels : List ℕ) (few : length labels ≤ 8) where
  pub entries-more : (k : ℕ) (out : List Entry) (e : Entry) → k < length labels → e ≡ entry_at (get_or labels k 0) → out ≡ paste (replicate 8 Any) 0 (map entry_at labels) k
      → set out k e ≡ paste (replicate 8 Any) 0 (map entry_at labels) (k + 1)
  entries-more k out e h q inv = fill_more entry_at labels (replicate 8 Any) few k out e 0 h q inv

  pub entries-done : (k : ℕ) (out : List Entry) → k ≡ length labels → out ≡ paste (replicate 8 Any) 0 (map entry_at labels) k → out ≡ entries_of labels
  unfolding entries_of
  entries-done k out e inv =
      let z : length labels ≡ length (map entry_at labels) = sym (length-map labels entry_at) in
      fill_done entry_at labels (replicate 8 Any) few k out e inv
      ∙ ap (λ (x : List Entry). map entry_at labels ++ x) (drop-replicate (length labels) 8 Any ∙ ap (λ (m : ℕ). replicate (8 - m) Any) z)

-- ---- the pattern

-- the comparisons of operands that are renamed
module _ (f : ℕ → ℕ) (codes ops : List ℕ) where
  renamed-at : (k : ℕ) → 2 * k + 1 < length codes → comparison_at (map f codes) ops k ≡ renamed f (comparison_at codes ops k)
  renamed-at k h =
      ap₂ (λ (a b : ℕ). record { left = a; op = predicate_at (get_or ops k 0); right = b })
      (get_or-map-in f codes (2 * k) 0 0 (omega arith)) (get_or-map-in f codes (2 * k + 1) 0 0 h)

  renamed-clause : (n : ℕ) → 2 * n ≤ length codes → clause_at (map f codes) ops n ≡ map (renamed f) (clause_at codes ops n)
  renamed-clause n h =
      map_same (λ (k : ℕ). renamed f (comparison_at codes ops k)) (All-map (λ k l. renamed-at k (omega arith)) (from-below 0 n))
      ∙ sym (map-map (renamed f) (comparison_at codes ops) (from 0 n))

module _ (codes ops : List ℕ) (n marks : ℕ) where
  abbrev whole : Coded
  whole = clause_at codes ops n

  abbrev broken : Comparison ℕ → Bool
  broken c = fails c.op (least whole c.left) (least whole c.right)

  abbrev wanted : Option Pattern
  wanted = Some (pattern_struct (map (least_entry whole) (from 1 marks)))

  pub pattern-clash : clashes_on (λ x. x) whole ≡ true → None ≡ coded_pattern marks whole
  unfolding coded_pattern contradicts
  pattern-clash e = sym (ap (λ (b : Bool). cond (b || any broken whole) None wanted) e)

  module _ (long : length codes ≡ 40) (few : n ≤ 16) (labels : List ℕ) (L : LabelsOf codes ops n labels) where
    fails-are : any failing (clause_at labels ops n) ≡ any broken whole
    fails-are =
        ap (λ (x : List ℕ). any failing (clause_at x ops n)) L.labels_are
        ∙ ap (any failing) (renamed-clause (least whole) codes ops n (omega arith))
        ∙ any-map (renamed (least whole)) failing whole

    entries-are : marks ≤ 8 → drop 32 codes ≡ map (λ (k : ℕ). asked_from + k) (from 1 8) → map entry_at (take marks (drop 32 labels)) ≡ map entry_struct (map (least_entry whole) (from 1 marks))
    unfolding least_entry
    entries-are h e =
        let m : take marks (drop 32 labels) ≡ map (least whole) (map (λ (k : ℕ). asked_from + k) (from 1 marks)) =
        ap (λ (x : List ℕ). take marks (drop 32 x)) L.labels_are
        ∙ ap (take marks) (sym (map-drop (least whole) 32 codes) ∙ ap (map (least whole)) e)
        ∙ sym (map-take (least whole) marks (map (λ (k : ℕ). asked_from + k) (from 1 8)))
        ∙ ap (map (least whole)) (sym (map-take (λ (k : ℕ). asked_from + k) marks (from 1 8)) ∙ ap (map (λ (k : ℕ). asked_from + k)) (take-from 1 marks 8 h)) in
        ap (map entry_at) (m ∙ map-map (least whole) (λ (k : ℕ). asked_from + k) (from 1 marks))
        ∙ map-map entry_at (λ (k : ℕ). least whole (asked_from + k)) (from 1 marks)
        ∙ sym (map-map entry_struct (least_entry whole) (from 1 marks))

    pub pattern-fails : any failing (clause_at labels ops n) ≡ true → None ≡ coded_pattern marks whole
    unfolding coded_pattern contradicts
    pattern-fails q = sym (ap₂ (λ (b t : Bool). cond (b || t) None wanted) L.no_clash (sym fails-are ∙ q))

    pub pattern-there : any failing (clause_at labels ops n) ≡ false → marks ≤ 8 → drop 32 codes ≡ map (λ (k : ℕ). asked_from + k) (from 1 8)
        → (entries : List Entry) → entries ≡ entries_of (take marks (drop 32 labels)) → ◌≡◌ {A = Option Pattern} (Some (record { entries = entries; count = marks })) (coded_pattern marks whole)
    unfolding coded_pattern contradicts entries_of
    pattern-there q h d entries ep =
        let count : marks ≡ length (map (least_entry whole) (from 1 marks)) = sym (length-map (from 1 marks) (least_entry whole) ∙ from-count 1 marks) in
        ap₂ (λ (x : List Entry) (k : ℕ). Some (record { entries = x; count = k })) (ep ∙ ap (padded 8 Any) (entries-are h d)) count
        ∙ sym (ap₂ (λ (b t : Bool). cond (b || t) None wanted) L.no_clash (sym fails-are ∙ q))
