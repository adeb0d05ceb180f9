-- The list of patterns, clause by clause: a pattern that is not there yet goes behind the others. Assumes nothing.
use Rattle.std.specs.Prelude.{Option, Some, None}
use mathlib.Core.Path.{◌≡◌, refl, sym, ap, ap₂, subst, ◌∙◌}
use mathlib.Core.Bool.{Bool, true, false, cond, not, ◌&&◌, ◌||◌}
use mathlib.Core.List.{List, [], ◌∷◌, ◌++◌, map, append-nil}
use Prim.Native.Nat.{ℕ, zero, suc, ◌+◌, ◌-◌, ◌≤◌, ◌<◌}
use native.Mathlib.Numerals.{add-one}
use native.Mathlib.Omega.{arith}
use lib.ListN.{length, take, get_or, set, replicate, length-map, length-append, length-replicate}
use lib.Seq.{set_at, append_snoc}
use Rattle.std.proofs.Common.{Decides}
use Rattle.std.specs.Cmp.Lexicographic.{pointwise}
use Rattle.lists.specs.Lists.{any, All, nil, cons, cons_if, keep, distinct, flat, from}
use Rattle.lists.specs.Tests.{is_yes, dec_n, dec_z, eq_list}
use Rattle.lists.proofs.Bools.{is-yes, yes_of}
use Rattle.lists.proofs.Lists.{keep_append, map-append, All-append, All-get_or}
use Rattle.lists.proofs.Places.{flat_append}
use Rattle.lists.proofs.Changed.{any-distinct, eq_list-true}
use Rattle.meaning.specs.Pattern as P
use Rattle.meaning.specs.Pattern.{Clause, contradictory, pattern, number, mark, anything, Entry-discrete, same_entry, chosen}
use Rattle.statement.specs.declared.Query.{Query}
use Rattle.statement.specs.declared.Update.{Update}
use Rattle.statement.specs.Compiled.{padded}
use Rattle.pattern.specs.declared.Entry.{Entry}
use Rattle.pattern.specs.declared.Entry.TheVariants.{Constant, Parameter, Any}
use Rattle.pattern.specs.declared.Pattern.{Pattern}
use Rattle.pattern.specs.declared.Patterns.{Patterns}
use Rattle.pattern.specs.Stored.{relevant, joint, all_any, entry_count, clause_total, entry_struct, pattern_struct, blank, pattern_at, patterns_stored, pattern_list, entry_read}
use Rattle.pattern.specs.Private.Flat.{with_pattern, same_struct}
use Rattle.pattern.proofs.Laws.{CountedEntry, joint-counted, pattern-counted, any-counted, pattern-length}
use Rattle.statement.proofs.Assembled.{take-padded}
use Rattle.pattern.proofs.Agreeing.{total-few, at-many, at-worked}
use Rattle.pattern.proofs.Mapped.{from_last}

-- ---- equal entries

-- a test that holds exactly of equal entries
by_equal : (e f : P.Entry) (t : Bool) → (t ≡ true → e ≡ f) → (e ≡ f → t ≡ true) → t ≡ same_entry e f
by_equal e f t g h = go (Entry-discrete dec_z dec_n e f) t g h
  where
    go : (d : Dec (e ≡ f)) (t : Bool) → (t ≡ true → e ≡ f) → (e ≡ f → t ≡ true) → t ≡ is_yes d
    go (yes p) t g h = h p
    go (no n) true g h = absurd (n (g refl))
    go (no n) false g h = refl

-- what is read of an entry tells it
entry-back : (a : Entry) → entry_struct (entry_read a) ≡ a
entry-back (Constant z) = refl
entry-back (Parameter k) = refl
entry-back Any = refl

same_read : (a b : Entry) (t : Bool) → Decides t (a ≡ b) → t ≡ same_entry (entry_read a) (entry_read b)
same_read a b t d =
    by_equal (entry_read a) (entry_read b) t (λ e. ap entry_read (d.0 e)) (λ e. d.1 (sym (entry-back a) ∙ ap entry_struct e ∙ entry-back b))

pub same-read : (E : Entry → Entry → Bool) → ((a b : Entry) → Decides (E a b) (a ≡ b)) → (xs ys : List Entry)
    → pointwise E xs ys ≡ eq_list same_entry (map entry_read xs) (map entry_read ys)
same-read E d [] [] = refl
same-read E d [] (y ∷ ys) = refl
same-read E d (x ∷ xs) [] = refl
same-read E d (x ∷ xs) (y ∷ ys) = ap₂ ◌&&◌ (same_read x y (E x y) (d x y)) (same-read E d xs ys)

-- ---- equal patterns

abbrev pub same_pattern : P.Pattern → P.Pattern → Bool
same_pattern = eq_list same_entry

same_self : (e : P.Entry) → same_entry e e ≡ true
same_self e = is-yes (Entry-discrete dec_z dec_n e e) refl

same-is : (e f : P.Entry) → same_entry e f ≡ true → e ≡ f
same-is e f h = yes_of (Entry-discrete dec_z dec_n e f) h

pub pattern-is : (x y : P.Pattern) → same_pattern x y ≡ true → x ≡ y
pattern-is = eq_list-true same_entry same-is

-- the same behind both
same-behind : (xs ys rest : P.Pattern) → length xs ≡ length ys → same_pattern (xs ++ rest) (ys ++ rest) ≡ same_pattern xs ys
same-behind [] [] rest e = go rest
  where
    go : (l : P.Pattern) → same_pattern l l ≡ true
    go [] = refl
    go (x ∷ l) = ap₂ ◌&&◌ (same_self x) (go l)
same-behind [] (y ∷ ys) rest e = absurd (omega arith)
same-behind (x ∷ xs) [] rest e = absurd (omega arith)
same-behind (x ∷ xs) (y ∷ ys) rest e = ap (λ (b : Bool). same_entry x y && b) (same-behind xs ys rest (omega arith))

read_back : {es : P.Pattern} → All CountedEntry es → map entry_read (map entry_struct es) ≡ es
read_back nil = refl
read_back (cons {x = e} p h) = ap₂ ◌∷◌ (go e p) (read_back h)
  where
    go : (e : P.Entry) → CountedEntry e → entry_read (entry_struct e) ≡ e
    go (number z) q = refl
    go (mark zero) q = absurd (omega arith)
    go (mark (suc k)) q = refl
    go anything q = refl

-- a pattern of a query with n parameters
pub record Regular (n : ℕ) (es : P.Pattern) : Type 0 where
  pub counted : All CountedEntry es
  pub long : length es ≡ n

struct-read : (n : ℕ) (es : P.Pattern) → Regular n es → map entry_read (pattern_struct es).entries ≡ es ++ map entry_read (replicate (8 - n) Any)
struct-read n es R =
    let m : 8 - length (map entry_struct es) ≡ 8 - n = ap (λ (k : ℕ). 8 - k) (length-map es entry_struct ∙ R.long) in
    map-append entry_read (map entry_struct es) (replicate (8 - length (map entry_struct es)) Any)
    ∙ ap₂ (λ (x : P.Pattern) (k : ℕ). x ++ map entry_read (replicate k Any)) (read_back R.counted) m

struct-same : (n : ℕ) (x y : P.Pattern) → Regular n x → Regular n y → same_struct (pattern_struct x) (pattern_struct y) ≡ same_pattern x y
struct-same n x y R S =
    ap₂ same_pattern (struct-read n x R) (struct-read n y S) ∙ same-behind x y (map entry_read (replicate (8 - n) Any)) (R.long ∙ sym S.long)

any-struct : (n : ℕ) {l : List P.Pattern} (y : P.Pattern) → All (Regular n) l → Regular n y
    → any (λ (x : Pattern). same_struct x (pattern_struct y)) (map pattern_struct l) ≡ any (λ (x : P.Pattern). same_pattern x y) l
any-struct n y nil S = refl
any-struct n y (cons {x = x} R h) S = ap₂ ◌||◌ (struct-same n x y R S) (any-struct n y h S)

-- ---- one more, if it is not there yet

module _ {A : Type 0} (same : A → A → Bool) where
  distinct-last : (xs : List A) (y : A) → distinct same (xs ++ (y ∷ [])) ≡ cond (any (λ (x : A). same x y) xs) (distinct same xs) (distinct same xs ++ (y ∷ []))
  distinct-last [] y = refl
  distinct-last (x ∷ xs) y =
      ap (λ (l : List A). x ∷ keep (λ (z : A). not (same x z)) l) (distinct-last xs y) ∙ go (same x y) refl (any (λ (z : A). same z y) xs)
    where
      kept : List A
      kept = keep (λ (z : A). not (same x z)) (distinct same xs)

      go : (a : Bool) → same x y ≡ a → (b : Bool)
          → x ∷ keep (λ (z : A). not (same x z)) (cond b (distinct same xs) (distinct same xs ++ (y ∷ []))) ≡ cond (a || b) (x ∷ kept) ((x ∷ kept) ++ (y ∷ []))
      go true e true = refl
      go false e true = refl
      go true e false =
          ap (λ (l : List A). x ∷ l)
          (keep_append (λ (z : A). not (same x z)) (distinct same xs) (y ∷ []) ∙ ap (λ (b : Bool). kept ++ cons_if (not b) y []) e ∙ append-nil kept)
      go false e false =
          ap (λ (l : List A). x ∷ l) (keep_append (λ (z : A). not (same x z)) (distinct same xs) (y ∷ []) ∙ ap (λ (b : Bool). kept ++ cons_if (not b) y []) e)

-- ---- what each clause offers: its pattern, or nothing

module _ {A B : Type 0} where
  -- a list place by place
  map-places : (f : A → B) (l : List A) (d : A) (i : ℕ) (g : ℕ → B) → ((k : ℕ) → k < length l → g (i + k) ≡ f (get_or l k d)) → map g (from i (length l)) ≡ map f l
  map-places f [] d i g h = refl
  map-places f (x ∷ l) d i g h =
      let z : i ≡ i + 0 = omega arith in
      ap₂ ◌∷◌ (ap g z ∙ h 0 (omega arith)) (map-places f l d (suc i) g (λ k l. let e : suc i + k ≡ i + suc k = omega arith in ap g e ∙ h (suc k) (omega arith)))

abbrev if_not : Bool → P.Pattern → List P.Pattern
if_not b p = cond b [] (p ∷ [])

kept-patterns : (n : ℕ) (cs : List Clause) → flat (map (λ (c : Clause). if_not (contradictory c) (pattern n c)) cs) ≡ map (pattern n) (keep (λ (c : Clause). not (contradictory c)) cs)
kept-patterns n [] = refl
kept-patterns n (c ∷ cs) = go (contradictory c) (kept-patterns n cs)
  where
    go : (b : Bool) → flat (map (λ (c : Clause). if_not (contradictory c) (pattern n c)) cs) ≡ map (pattern n) (keep (λ (c : Clause). not (contradictory c)) cs)
        → if_not b (pattern n c) ++ flat (map (λ (c : Clause). if_not (contradictory c) (pattern n c)) cs) ≡ map (pattern n) (cons_if (not b) c (keep (λ (c : Clause). not (contradictory c)) cs))
    go true h = h
    go false h = ap (λ (l : List P.Pattern). pattern n c ∷ l) h

-- a struct and what it offers
pub data Offers (n : ℕ) (p : Option Pattern) : List P.Pattern → Type 0 where
  nothing : p ≡ None → Offers n p []
  one : (es : P.Pattern) → p ≡ Some (pattern_struct es) → Regular n es → Offers n p (es ∷ [])

module _ (q : Query) (u : Update) where
  abbrev n : ℕ
  n = entry_count q

  abbrev worked : ℕ → List P.Pattern
  worked i = if_not (contradictory (get_or (joint q u) i [])) (pattern n (get_or (joint q u) i []))

  abbrev pub offered : ℕ → List P.Pattern
  offered i = cond (all_any q u) (replicate n anything ∷ []) (worked i)

  -- the list after the first i clauses
  abbrev pub listed : ℕ → List P.Pattern
  listed i = distinct same_pattern (flat (map offered (from 0 i)))

  pub listed-all : listed (clause_total q u) ≡ patterns_stored q u
  unfolding patterns_stored clause_total
  listed-all = go (relevant q u) (all_any q u)
    where
      go : (r b : Bool) → distinct same_pattern (flat (map (λ (i : ℕ). cond b (replicate n anything ∷ []) (worked i)) (from 0 (cond r (cond b 1 (length (joint q u))) 0)))) ≡ chosen r b n (joint q u)
      go false b = refl
      go true true = refl
      go true false =
          ap (λ (l : List (List P.Pattern)). distinct same_pattern (flat l))
          (map-places (λ (c : Clause). if_not (contradictory c) (pattern n c)) (joint q u) [] 0 worked (λ k h. let e : 0 + k ≡ k = omega arith in ap worked e))
          ∙ ap (distinct same_pattern) (kept-patterns n (joint q u))

  offers : (i : ℕ) → i < clause_total q u → Offers n (pattern_at q u i) (offered i)
  offers i h = go (all_any q u) refl
    where
      c : Clause
      c = get_or (joint q u) i []

      regular : Regular n (pattern n c)
      regular = record { counted = pattern-counted n c (All-get_or i [] nil (joint-counted q u)); long = pattern-length n c }

      by-clause : (b : Bool) → pattern_at q u i ≡ cond b None (Some (pattern_struct (pattern n c))) → Offers n (pattern_at q u i) (if_not b (pattern n c))
      by-clause true e = nothing e
      by-clause false e = one (pattern n c) e regular

      go : (b : Bool) → all_any q u ≡ b → Offers n (pattern_at q u i) (cond b (replicate n anything ∷ []) (worked i))
      go true e = one (replicate n anything) (sym (at-many q u i (total-few q u i h) e)) (record { counted = any-counted n; long = length-replicate n anything })
      go false e = by-clause (contradictory c) (sym (at-worked q u i (total-few q u i h) e))

  -- ---- the array

  pub record Listing (items : List Pattern) (count i : ℕ) : Type 0 where
    pub items_are : items ≡ padded 64 blank (map pattern_struct (listed i))
    pub count_is : count ≡ length (listed i)
    pub regular : All (Regular n) (listed i)
    pub few : count ≤ i

  pub list-start : Listing (replicate 64 blank) 0 0
  list-start = record { items_are = refl; count_is = refl; regular = nil; few = omega arith }

  module _ (items : List Pattern) (count i : ℕ) (L : Listing items count i) where
    abbrev before : List P.Pattern
    before = flat (map offered (from 0 i))

    found-are : take count items ≡ map pattern_struct (listed i)
    found-are = ap (take count) L.items_are ∙ take-padded 64 blank (map pattern_struct (listed i)) count (length-map (listed i) pattern_struct ∙ sym L.count_is)

    next-listed : listed (i + 1) ≡ distinct same_pattern (before ++ offered i)
    next-listed =
        let z : 0 + i ≡ i = omega arith in
        ap (λ (k : ℕ). distinct same_pattern (flat (map offered (from 0 k)))) (add-one i)
        ∙ ap (λ (l : List ℕ). distinct same_pattern (flat (map offered l))) (from_last 0 i)
        ∙ ap (λ (l : List (List P.Pattern)). distinct same_pattern (flat l)) (map-append offered (from 0 i) ((0 + i) ∷ []))
        ∙ ap (distinct same_pattern) (flat_append (map offered (from 0 i)) (offered (0 + i) ∷ []))
        ∙ ap (λ (k : ℕ). distinct same_pattern (before ++ (offered k ++ []))) z
        ∙ ap (λ (l : List P.Pattern). distinct same_pattern (before ++ l)) (append-nil (offered i))

    -- the list stays
    stays : listed (i + 1) ≡ listed i → Listing items count (i + 1)
    stays e = record {
      items_are = L.items_are ∙ ap (λ (l : List P.Pattern). padded 64 blank (map pattern_struct l)) (sym e);
      count_is = L.count_is ∙ ap length (sym e);
      regular = subst (All (Regular n)) (sym e) L.regular;
      few = omega (arith, L.few);
    }

    -- or has one more
    grows : (p : Pattern) (es : P.Pattern) → i < 64 → p ≡ pattern_struct es → Regular n es → listed (i + 1) ≡ listed i ++ (es ∷ []) → Listing (set items count p) (count + 1) (i + 1)
    grows p es h ep R e =
        let xs : List Pattern = map pattern_struct (listed i) in
        let m : length xs ≡ count = length-map (listed i) pattern_struct ∙ sym L.count_is in
        let k : 64 - length xs ≡ suc (63 - count) = omega (arith, L.few) in
        let ys : List Pattern = map pattern_struct (listed i ++ (es ∷ [])) in
        let en : ys ≡ xs ++ (pattern_struct es ∷ []) = map-append pattern_struct (listed i) (es ∷ []) in
        let l : length ys ≡ suc count = ap length en ∙ length-append xs (pattern_struct es ∷ []) ∙ omega arith in
        let r : 63 - count ≡ 64 - length ys = omega arith in
        record {
          items_are = ap₂ (λ (x : List Pattern) (y : Pattern). set x count y) (L.items_are ∙ ap (λ (j : ℕ). xs ++ replicate j blank) k) ep
              ∙ set_at xs blank (replicate (63 - count) blank) (pattern_struct es) count m
              ∙ sym (append_snoc xs (pattern_struct es) (replicate (63 - count) blank))
              ∙ ap₂ (λ (x : List Pattern) (j : ℕ). x ++ replicate j blank) (sym en) r
              ∙ ap (λ (x : List P.Pattern). padded 64 blank (map pattern_struct x)) (sym e);
          count_is = omega (arith, L.count_is, length-append (listed i) (es ∷ []), ap length e);
          regular = subst (All (Regular n)) (sym e) (All-append L.regular (cons R nil));
          few = omega (arith, L.few);
        }

    seen-is : (p : Pattern) (es : P.Pattern) (seen : Bool) → p ≡ pattern_struct es → Regular n es → seen ≡ any (λ (x : Pattern). same_struct x p) (take count items)
        → seen ≡ any (λ (x : P.Pattern). same_pattern x es) before
    seen-is p es seen ep R e =
        e
        ∙ ap₂ (λ (l : List Pattern) (y : Pattern). any (λ (x : Pattern). same_struct x y) l) found-are ep
        ∙ any-struct n es L.regular R
        ∙ any-distinct same_pattern pattern-is (λ (x : P.Pattern). same_pattern x es) before

    -- a clause with no pattern
    pub list-stays : i < clause_total q u → pattern_at q u i ≡ None → Listing items count (i + 1)
    list-stays h en = go (offers i h) next-listed
      where
        go : {o : List P.Pattern} → Offers n (pattern_at q u i) o → listed (i + 1) ≡ distinct same_pattern (before ++ o) → Listing items count (i + 1)
        go (nothing e) k = stays (k ∙ ap (distinct same_pattern) (append-nil before))
        go (one x e R) k = let f : None ≡ Some (pattern_struct x) = sym en ∙ e in cc

    -- one with a pattern, which was seen or not
    abbrev seen : Pattern → Bool
    seen p = any (λ (x : Pattern). same_struct x p) (take count items)

    abbrev here : Patterns
    here = record { items = items; count = count }

    abbrev Next : Patterns → Type 0
    Next l = Listing l.items l.count (i + 1)

    next_one : (p : Pattern) (es : P.Pattern) (b : Bool) → i < 64 → p ≡ pattern_struct es → Regular n es → listed (i + 1) ≡ cond b (listed i) (listed i ++ (es ∷ []))
        → Next (cond b here (with_pattern here p))
    next_one p es true h e R d = stays d
    next_one p es false h e R d = grows p es h e R d

    pub list-more : (p : Pattern) → i < clause_total q u → i < 64 → pattern_at q u i ≡ Some p → Next (cond (seen p) here (with_pattern here p))
    list-more p h few ep = go (offers i h) next-listed
      where
        go : {o : List P.Pattern} → Offers n (pattern_at q u i) o → listed (i + 1) ≡ distinct same_pattern (before ++ o) → Next (cond (seen p) here (with_pattern here p))
        go (nothing e) k = let f : Some p ≡ None = sym ep ∙ e in cc
        go (one x e R) k =
            let es : p ≡ pattern_struct x = let f : Some p ≡ Some (pattern_struct x) = sym ep ∙ e in cc in
            next_one p x (seen p) few es R (k ∙ distinct-last same_pattern before x ∙ ap (λ (b : Bool). cond b (listed i) (listed i ++ (x ∷ []))) (sym (seen-is p x (seen p) es R refl)))

  pub list_done : (items : List Pattern) (count i : ℕ) → i ≡ clause_total q u → Listing items count i → ◌≡◌ {A = Patterns} (record { items = items; count = count }) (pattern_list q u)
  unfolding pattern_list
  list_done items count i e L =
      let a : listed i ≡ patterns_stored q u = ap listed e ∙ listed-all in
      ap₂ (λ (x : List Pattern) (k : ℕ). record { items = x; count = k })
      (L.items_are ∙ ap (λ (l : List P.Pattern). padded 64 blank (map pattern_struct l)) a) (L.count_is ∙ ap length a)
