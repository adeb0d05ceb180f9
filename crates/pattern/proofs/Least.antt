-- Labels by the least code are those of rules 6 and 7: two operands have one label exactly if the `=` comparisons of the clause link them, the label is the least
-- code in the class, so it is that of the class's constant, else of its lowest update mark; it is 0 exactly if the class holds the null constant. Assumes nothing.
use mathlib.Core.Path.{◌≡◌, refl, sym, ap, ap₂, subst, ◌∙◌}
use mathlib.Core.Logic.{◌⊎◌, inl, inr}
use mathlib.Core.Bool.{Bool, true, false, not, ◌&&◌, ◌||◌, cond}
use mathlib.Core.List.Memᴰ.{head, not-nil, tail}
use mathlib.Core.List.{List, [], ◌∷◌, Memᴰ as Member}
use Prim.Native.Nat.{ℕ, ◌+◌, ◌≤◌, ◌<◌, min, max}
use native.Mathlib.Decide.{dec_le}
use native.Mathlib.Omega.{arith}
use lib.IntN.{ℤ}
use lib.Dec.{eqb, ltb}
use borrow.Author.Tests.{ltb-true, ltb-false, eqb-true, eqb-false, lt-ltb, le-ltb, eq-eqb}
use Rattle.lists.specs.Lists.{any, All, nil, cons}
use Rattle.lists.specs.Tests.{dec_n, dec_z, eq_z}
use Rattle.lists.proofs.Bools.{or_left, or_right, not-false, iff, clash, eq_z-true, yes_of, is-yes}
use Rattle.lists.proofs.Lists.{All-head, All-tail, All-map, All-every, All-keep, All-source, any-map, any_none, any_false, any_same}
use Rattle.lists.proofs.Changed.{member-has, members-have, member-keep}
use Rattle.meaning.specs.Operator.{eq, ne, lt, le, gt, ge, null, is_null, Predicate, by, is-null, is-not-null, truth}
use Rattle.meaning.specs.Condition.{Comparison, sides, renamed}
use Rattle.meaning.specs.Limits.{is_within32}
use Rattle.meaning.specs.Pattern.{Joint, Joint-discrete, column, constant, asked, given, Clause, same, label, class, constants, update_marks, differ, strict, never_of, false_of, broken, contradictory, mark, lowest, mark_entry, class_entry, entry}
use Rattle.meaning.specs.Demand.{Linked, itself, joined, reversed, through}
use Rattle.meaning.proofs.Classes.{linked-back, Joins, clause-joins, labels-linked, constants-have, marks-have, differ-none}
use Rattle.pattern.specs.Private.Least.{marks_from, code_of, is_constant, constant_code, code_constant, Coded, coded, rename_code, join_least, least_on, least, clashes, clashes_on, never_code, fails, contradicts, entry_of_code, least_entry}
use Rattle.pattern.proofs.OperandCodes.{Fits, constant-below, code-constant, same_code, operand_entry, entry-of-code, below-constant}

-- ---- labels only fall, and `=` joins them

rename-falls : (a b n : ℕ) → rename_code (max a b) (min a b) n ≤ n
rename-falls a b n = go (eqb n (max a b)) refl
  where
    go : (t : Bool) → eqb n (max a b) ≡ t → cond t (min a b) n ≤ n
    go true e = let h = eqb-true n (max a b) e in omega arith
    go false e = omega arith

join-falls : (p : Predicate) (a b n : ℕ) → join_least p a b n ≤ n
join-falls (by eq) a b n = rename-falls a b n
join-falls (by ne) a b n = omega arith
join-falls (by lt) a b n = omega arith
join-falls (by le) a b n = omega arith
join-falls (by gt) a b n = omega arith
join-falls (by ge) a b n = omega arith
join-falls is-null a b n = omega arith
join-falls is-not-null a b n = omega arith

least-falls : (f : ℕ → ℕ) → ((n : ℕ) → f n ≤ n) → (cs : Coded) (n : ℕ) → least_on f cs n ≤ n
least-falls f h [] n = h n
least-falls f h (c ∷ cs) n =
    least-falls (λ m. join_least c.op (f c.left) (f c.right) (f m)) (λ m. let a = join-falls c.op (f c.left) (f c.right) (f m) in let b = h m in omega arith) cs n

least_kept : (f : ℕ → ℕ) (cs : Coded) (m n : ℕ) → f m ≡ f n → least_on f cs m ≡ least_on f cs n
least_kept f [] m n e = e
least_kept f (c ∷ cs) m n e =
    least_kept (λ k. join_least c.op (f c.left) (f c.right) (f k)) cs m n (ap (join_least c.op (f c.left) (f c.right)) e)

joins-least : (p : Predicate) (a b : ℕ) → p ≡ by eq → join_least p a b a ≡ join_least p a b b
joins-least p a b e = rw e (go (eqb a (max a b)) (eqb b (max a b)) refl refl)
  where
    go : (s t : Bool) → eqb a (max a b) ≡ s → eqb b (max a b) ≡ t → cond s (min a b) a ≡ cond t (min a b) b
    go true true f g = refl
    go true false f g = let h = eqb-true a (max a b) f in omega arith
    go false true f g = let h = eqb-true b (max a b) g in omega arith
    go false false f g = let h = eqb-false a (max a b) f in let k = eqb-false b (max a b) g in omega arith

-- what `=` joins has one label
least-joins : (f : ℕ → ℕ) (cs : Coded) → All (λ (c : Comparison ℕ). c.op ≡ by eq → least_on f cs c.left ≡ least_on f cs c.right) cs
least-joins f [] = nil
least-joins f (c ∷ cs) = cons here (least-joins (λ k. join_least c.op (f c.left) (f c.right) (f k)) cs)
  where
    here : c.op ≡ by eq → least_on f (c ∷ cs) c.left ≡ least_on f (c ∷ cs) c.right
    here e = least_kept (λ k. join_least c.op (f c.left) (f c.right) (f k)) cs c.left c.right (joins-least c.op (f c.left) (f c.right) e)

-- the label of an operand
abbrev least_of : Clause → Joint → ℕ
least_of cs x = least (coded cs) (code_of x)

linked-least : {cs : Clause} {x y : Joint} → Linked cs x y → least_of cs x ≡ least_of cs y
linked-least itself = refl
linked-least {cs} (joined m) = member-has (All-source (renamed code_of) cs (least-joins (λ n. n) (coded cs))) m refl
linked-least {cs} (reversed m) = sym (member-has (All-source (renamed code_of) cs (least-joins (λ n. n) (coded cs))) m refl)
linked-least (through h k) = linked-least h ∙ linked-least k

-- ---- a label is the code of an operand of the class

pub record Stands (cs : Clause) (x : Joint) (n : ℕ) : Type 0 where
  pub operand : Joint
  pub fits : Fits operand
  pub linked : Linked cs x operand
  pub is_code : n ≡ code_of operand

module _ {cs : Clause} where
  stands-through : {x y : Joint} {n : ℕ} → Linked cs x y → Stands cs y n → Stands cs x n
  stands-through h s = record { operand = s.operand; fits = s.fits; linked = through h s.linked; is_code = s.is_code }

  -- operands of one label are linked
  stands-meet : {x y : Joint} {m n : ℕ} → Stands cs x m → Stands cs y n → m ≡ n → Linked cs x y
  stands-meet s t e =
      through s.linked
      (linked-back (subst (Linked cs _) (same_code t.operand s.operand t.fits s.fits (sym t.is_code ∙ sym e ∙ s.is_code)) t.linked))

  module _ {l r x : Joint} {a b n : ℕ} (link : Linked cs l r) (sa : Stands cs l a) (sb : Stands cs r b) (sn : Stands cs x n) where
    rename-stands : Stands cs x (rename_code (max a b) (min a b) n)
    rename-stands = go (eqb n (max a b)) refl (dec_le a b)
      where
        go : (t : Bool) → eqb n (max a b) ≡ t → Dec (a ≤ b) → Stands cs x (cond t (min a b) n)
        go true e (yes h) =
            let p : n ≡ b = omega (arith, eqb-true n (max a b) e) in
            let q : min a b ≡ a = omega arith in
            rw q (stands-through (through (stands-meet sn sb p) (linked-back link)) sa)
        go true e (no h) =
            let p : n ≡ a = omega (arith, eqb-true n (max a b) e) in
            let q : min a b ≡ b = omega arith in
            rw q (stands-through (through (stands-meet sn sa p) link) sb)
        go false e d = sn

module _ {cs : Clause} where
  join_stands : (p : Predicate) {l r x : Joint} {a b n : ℕ} → (p ≡ by eq → Linked cs l r) → Stands cs l a → Stands cs r b → Stands cs x n → Stands cs x (join_least p a b n)
  join_stands (by eq) link sa sb sn = rename-stands (link refl) sa sb sn
  join_stands (by ne) link sa sb sn = sn
  join_stands (by lt) link sa sb sn = sn
  join_stands (by le) link sa sb sn = sn
  join_stands (by gt) link sa sb sn = sn
  join_stands (by ge) link sa sb sn = sn
  join_stands is-null link sa sb sn = sn
  join_stands is-not-null link sa sb sn = sn

module _ (cs : Clause) where
  -- labels that stand for operands of their classes
  abbrev Standing : (ℕ → ℕ) → Type 0
  Standing f = (x : Joint) → Fits x → Stands cs x (f (code_of x))

  -- a part of the clause whose comparisons join what is linked
  pub record Part (ds : Clause) : Type 0 where
    pub joins : All (Joins (Linked cs)) ds
    pub sides_fit : All Fits (sides ds)

  rest : {d : Comparison Joint} {ds : Clause} → Part (d ∷ ds) → Part ds
  rest p = record { joins = All-tail p.joins; sides_fit = All-tail (All-tail p.sides_fit) }

  module _ (f : ℕ → ℕ) (s : Standing f) {d : Comparison Joint} {ds : Clause} (p : Part (d ∷ ds)) where
    left-stands : Stands cs d.left (f (code_of d.left))
    left-stands = s d.left (All-head p.sides_fit)

    right-stands : Stands cs d.right (f (code_of d.right))
    right-stands = s d.right (All-head (All-tail p.sides_fit))

    after-stands : Standing (λ n. join_least d.op (f (code_of d.left)) (f (code_of d.right)) (f n))
    after-stands x h = join_stands d.op (All-head p.joins) left-stands right-stands (s x h)

  least-stands : (f : ℕ → ℕ) → Standing f → (ds : Clause) → Part ds → Standing (least_on f (coded ds))
  least-stands f s [] p = s
  least-stands f s (d ∷ ds) p =
      least-stands (λ n. join_least d.op (f (code_of d.left)) (f (code_of d.right)) (f n)) (after-stands f s p) ds (rest p)

  -- ---- one constant a class

  -- constants that are linked are equal
  abbrev Single : Type 0
  Single = (y z : ℤ) → is_within32 y ≡ true → is_within32 z ≡ true → Linked cs (constant y) (constant z) → y ≡ z

  module _ (single : Single) where
    one-constant : {l r : Joint} {a b : ℕ} → Linked cs l r → Stands cs l a → Stands cs r b → a < marks_from → b < marks_from → a ≡ b
    one-constant link sa sb h k =
        let y = below-constant sa.operand (subst (λ (n : ℕ). n < marks_from) sa.is_code h) in
        let z = below-constant sb.operand (subst (λ (n : ℕ). n < marks_from) sb.is_code k) in
        let back = linked-back (subst (Linked cs _) y.1 sa.linked) in
        let forth = through link (subst (Linked cs _) z.1 sb.linked) in
        let same-z = single y.0 z.0 (subst Fits y.1 sa.fits) (subst Fits z.1 sb.fits) (through back forth) in
        sa.is_code ∙ ap code_of y.1 ∙ ap constant_code same-z ∙ sym (sb.is_code ∙ ap code_of z.1)

    no-clash : (p : Predicate) {l r : Joint} {a b : ℕ} → (p ≡ by eq → Linked cs l r) → Stands cs l a → Stands cs r b → clashes p a b ≡ false
    no-clash (by eq) {a = a} {b = b} link sa sb = go (is_constant (max a b)) refl
      where
        go : (t : Bool) → is_constant (max a b) ≡ t → (t && not (eqb a b)) ≡ false
        go true e =
            let h = ltb-true (max a b) marks_from e in
            ap not (eq-eqb a b (one-constant (link refl) sa sb (omega arith) (omega arith)))
        go false e = refl
    no-clash (by ne) link sa sb = refl
    no-clash (by lt) link sa sb = refl
    no-clash (by le) link sa sb = refl
    no-clash (by gt) link sa sb = refl
    no-clash (by ge) link sa sb = refl
    no-clash is-null link sa sb = refl
    no-clash is-not-null link sa sb = refl

    no-clashes : (f : ℕ → ℕ) → Standing f → (ds : Clause) → Part ds → clashes_on f (coded ds) ≡ false
    no-clashes f s [] p = refl
    no-clashes f s (d ∷ ds) p =
        ap₂ ◌||◌ (no-clash d.op (All-head p.joins) (left-stands f s p) (right-stands f s p))
        (no-clashes (λ n. join_least d.op (f (code_of d.left)) (f (code_of d.right)) (f n)) (after-stands f s p) ds (rest p))

-- where no constants clash each keeps its own label
rename-fixed : (a b n : ℕ) → clashes (by eq) a b ≡ false → n < marks_from → rename_code (max a b) (min a b) n ≡ n
rename-fixed a b n h k = go (eqb n (max a b)) refl
  where
    go : (t : Bool) → eqb n (max a b) ≡ t → cond t (min a b) n ≡ n
    go true e =
        let p = eqb-true n (max a b) e in
        let q = not-false (eqb a b) (sym (ap (λ (t : Bool). t && not (eqb a b)) (lt-ltb (max a b) marks_from (omega arith))) ∙ h) in
        omega (arith, eqb-true a b q)
    go false e = refl

join-fixed : (p : Predicate) (a b n : ℕ) → clashes p a b ≡ false → n < marks_from → join_least p a b n ≡ n
join-fixed (by eq) a b n h k = rename-fixed a b n h k
join-fixed (by ne) a b n h k = refl
join-fixed (by lt) a b n h k = refl
join-fixed (by le) a b n h k = refl
join-fixed (by gt) a b n h k = refl
join-fixed (by ge) a b n h k = refl
join-fixed is-null a b n h k = refl
join-fixed is-not-null a b n h k = refl

least-fixed : (f : ℕ → ℕ) → ((n : ℕ) → n < marks_from → f n ≡ n) → (cs : Coded) → clashes_on f cs ≡ false → (n : ℕ) → n < marks_from → least_on f cs n ≡ n
least-fixed f fixed [] h n k = fixed n k
least-fixed f fixed (c ∷ cs) h n k =
    least-fixed (λ m. join_least c.op (f c.left) (f c.right) (f m)) step cs (or_right (clashes c.op (f c.left) (f c.right)) _ h) n k
  where
    step : (m : ℕ) → m < marks_from → join_least c.op (f c.left) (f c.right) (f m) ≡ m
    step m j =
        ap (join_least c.op (f c.left) (f c.right)) (fixed m j)
        ∙ join-fixed c.op (f c.left) (f c.right) m (or_left (clashes c.op (f c.left) (f c.right)) _ h) j

-- ---- classes

sides-of : {c : Comparison Joint} {cs : Clause} → Member c cs → Member c.left (sides cs) × Member c.right (sides cs)
sides-of {cs = []} m = elim m [ ]
sides-of {cs = d ∷ cs} (head e) = (head (ap (λ (c : Comparison Joint). c.left) e), tail (head (ap (λ (c : Comparison Joint). c.right) e)))
sides-of {cs = d ∷ cs} (tail m) = let s = sides-of m in (tail (tail s.0), tail (tail s.1))

-- what is linked is the same, or an operand of the clause
linked-side : {cs : Clause} {x y : Joint} → Linked cs x y → (x ≡ y) ⊎ Member y (sides cs)
linked-side itself = inl refl
linked-side (joined m) = inr (sides-of m).1
linked-side (reversed m) = inr (sides-of m).0
linked-side {cs} {x} {y = z} (through h k) = go (linked-side h) (linked-side k)
  where
    go : {y : Joint} → (x ≡ y) ⊎ Member y (sides cs) → (y ≡ z) ⊎ Member z (sides cs) → (x ≡ z) ⊎ Member z (sides cs)
    go (inl p) (inl q) = inl (p ∙ q)
    go (inr m) (inl q) = inr (subst (λ (y : Joint). Member y (sides cs)) q m)
    go e (inr m) = inr m

member-constants : {z : ℤ} {xs : List Joint} → Member (constant z) xs → Member z (constants xs)
member-constants {z} {xs = []} m = elim m [ ]
member-constants {z} {xs = y ∷ xs} (head e) = subst (λ (x : Joint). Member z (constants (x ∷ xs))) e (head refl)
member-constants {z} {xs = column i ∷ xs} (tail m) = member-constants m
member-constants {z} {xs = constant y ∷ xs} (tail m) = tail (member-constants m)
member-constants {z} {xs = asked k ∷ xs} (tail m) = member-constants m
member-constants {z} {xs = given k ∷ xs} (tail m) = member-constants m

member-marks : {k : ℕ} {xs : List Joint} → Member (given k) xs → Member k (update_marks xs)
member-marks {k} {xs = []} m = elim m [ ]
member-marks {k} {xs = y ∷ xs} (head e) = subst (λ (x : Joint). Member k (update_marks (x ∷ xs))) e (head refl)
member-marks {k} {xs = column i ∷ xs} (tail m) = member-marks m
member-marks {k} {xs = constant y ∷ xs} (tail m) = member-marks m
member-marks {k} {xs = asked j ∷ xs} (tail m) = member-marks m
member-marks {k} {xs = given j ∷ xs} (tail m) = tail (member-marks m)

module _ (cs : Clause) (x : Joint) where
  -- the class has what is linked to x, where x itself stands in the clause or is another operand
  class-has : {y : Joint} → (x ≡ y → Member x (sides cs)) → Linked cs x y → Member y (class cs x)
  unfolding class
  class-has {y} own h = go (linked-side h)
    where
      kept : Member y (sides cs) → Member y (class cs x)
      kept =
          member-keep (λ (y : Joint). same (label cs y) (label cs x))
          (is-yes (Joint-discrete dec_n dec_z (label cs y) (label cs x)) ((labels-linked cs y x).1 (linked-back h)))

      go : (x ≡ y) ⊎ Member y (sides cs) → Member y (class cs x)
      go (inl e) = kept (subst (λ (z : Joint). Member z (sides cs)) e (own e))
      go (inr m) = kept m

  class-linked : All Fits (sides cs) → All (λ (y : Joint). Linked cs x y × Fits y) (class cs x)
  unfolding class
  class-linked fit =
      All-keep (λ (y : Joint). same (label cs y) (label cs x))
      (λ y h e. (linked-back ((labels-linked cs y x).0 (yes_of (Joint-discrete dec_n dec_z (label cs y) (label cs x)) e)), h)) fit

-- ---- rule 6: two different constants

all_first : (w : ℤ) (zs : List ℤ) → differ (w ∷ zs) ≡ false → All (λ (z : ℤ). w ≡ z) zs
all_first w zs h = All-map (λ z e. eq_z-true w z (not-false (eq_z w z) e)) (any_false (λ (z : ℤ). not (eq_z w z)) zs h)

differ-not : {y z : ℤ} {zs : List ℤ} → differ zs ≡ false → Member y zs → Member z zs → y ≡ z
differ-not {zs = []} h m _ = elim m [ ]
differ-not {zs = w ∷ zs} h (head p) (head q) = p ∙ sym q
differ-not {zs = w ∷ zs} h (head p) (tail n) = p ∙ member-has (all_first w zs h) n
differ-not {zs = w ∷ zs} h (tail m) (head q) = sym (q ∙ member-has (all_first w zs h) m)
differ-not {zs = w ∷ zs} h (tail m) (tail n) = sym (member-has (all_first w zs h) m) ∙ member-has (all_first w zs h) n

differ_same : {P : ℤ → Type 0} {zs : List ℤ} → ((y z : ℤ) → P y → P z → y ≡ z) → All P zs → differ zs ≡ false
differ_same f nil = refl
differ_same f (cons {x = w} {xs = zs} p h) = differ-none w (w ∷ zs) (cons refl (All-map (λ z q. f z w q p) h))

module _ (cs : Clause) (fit : All Fits (sides cs)) where
  whole : Part cs cs
  whole = record { joins = clause-joins cs; sides_fit = fit }

  own : Standing cs (λ n. n)
  own x h = record { operand = x; fits = h; linked = itself; is_code = refl }

  stands : Standing cs (least (coded cs))
  stands = least-stands cs (λ n. n) own cs whole

  -- no two constants clash exactly where no class has two different ones

  single_of : any (λ (x : Joint). differ (constants (class cs x))) (sides cs) ≡ false → Single cs
  single_of h y z p q link = go (linked-side (linked-back link))
    where
      go : (constant z ≡ constant y) ⊎ Member (constant y) (sides cs) → y ≡ z
      go (inl e) = cc
      go (inr m) =
          differ-not (member-has (any_false (λ (x : Joint). differ (constants (class cs x))) (sides cs) h) m)
          (member-constants (class-has cs (constant y) (λ e. m) itself)) (member-constants (class-has cs (constant y) (λ e. m) link))

  undiffering : Single cs → any (λ (x : Joint). differ (constants (class cs x))) (sides cs) ≡ false
  undiffering single =
      any_none (λ (x : Joint). differ (constants (class cs x)))
      (All-every (λ x. differ_same (λ y z p q. single y z p.1 q.1 (through (linked-back p.0) q.0)) (constants-have (class-linked cs x fit))) (sides cs))

  fixed-constant : clashes_on (λ n. n) (coded cs) ≡ false → (z : ℤ) → is_within32 z ≡ true → least_of cs (constant z) ≡ constant_code z
  fixed-constant h z p = least-fixed (λ n. n) (λ n k. refl) (coded cs) h (constant_code z) (constant-below z p)

  single-unclashed : clashes_on (λ n. n) (coded cs) ≡ false → Single cs
  single-unclashed h y z p q link =
      cc (same_code (constant y) (constant z) p q (sym (fixed-constant h y p) ∙ linked-least link ∙ fixed-constant h z q))

  unclashed : Single cs → clashes_on (λ n. n) (coded cs) ≡ false
  unclashed single = no-clashes cs single (λ n. n) own cs whole

  clash-differ : clashes_on (λ n. n) (coded cs) ≡ any (λ (x : Joint). differ (constants (class cs x))) (sides cs)
  clash-differ = go (clashes_on (λ n. n) (coded cs)) (any (λ (x : Joint). differ (constants (class cs x))) (sides cs)) refl refl
    where
      go : (a b : Bool) → clashes_on (λ n. n) (coded cs) ≡ a → any (λ (x : Joint). differ (constants (class cs x))) (sides cs) ≡ b → a ≡ b
      go true true e f = refl
      go true false e f = sym e ∙ unclashed (single_of f)
      go false true e f = sym (undiffering (single-unclashed e)) ∙ f
      go false false e f = refl

  -- ---- rule 6: comparisons

  -- labels are equal exactly where those of the clause are
  same-label : (x y : Joint) → Fits x → Fits y → eqb (least_of cs x) (least_of cs y) ≡ same (label cs x) (label cs y)
  same-label x y h k =
      iff (eqb (least_of cs x) (least_of cs y)) (same (label cs x) (label cs y))
      (λ e. is-yes (Joint-discrete dec_n dec_z (label cs x) (label cs y))
      ((labels-linked cs x y).1 (stands-meet (stands x h) (stands y k) (eqb-true (least_of cs x) (least_of cs y) e))))
      (λ e. eq-eqb (least_of cs x) (least_of cs y) (linked-least ((labels-linked cs x y).0 (yes_of (Joint-discrete dec_n dec_z (label cs x) (label cs y)) e))))

  -- A.5: a class holds the null constant exactly if its label is that constant's code, the least of all; also where constants clash

  module _ (x : Joint) (h : Fits x) (m : (z : ℤ) → x ≡ constant z → Member x (sides cs)) where
    null-there : least_of cs x ≡ 0 → any is_null (constants (class cs x)) ≡ true
    null-there e = go (any is_null (constants (class cs x))) refl
      where
        s : Stands cs x (least_of cs x)
        s = stands x h

        is-null-constant : s.operand ≡ constant null
        is-null-constant = same_code s.operand (constant null) s.fits refl (sym s.is_code ∙ e)

        member : Member null (constants (class cs x))
        member = member-constants (class-has cs x (m null) (subst (Linked cs x) is-null-constant s.linked))

        go : (b : Bool) → any is_null (constants (class cs x)) ≡ b → b ≡ true
        go true f = refl
        go false f = clash refl (member-has (any_false is_null (constants (class cs x)) f) member)

    null-absent : (least_of cs x ≡ 0 → ⊥) → any is_null (constants (class cs x)) ≡ false
    null-absent n = any_none is_null (All-map (λ z p. go z p.0 (is_null z) refl) (constants-have (class-linked cs x fit)))
      where
        go : (z : ℤ) → Linked cs x (constant z) → (b : Bool) → is_null z ≡ b → b ≡ false
        go z link true e =
            let f = least-falls (λ n. n) (λ n. omega arith) (coded cs) (constant_code z) in
            let k : constant_code z ≡ 0 = ap constant_code (eq_z-true z null e) in
            absurd (n (omega (arith, linked-least link)))
        go z link false e = refl

    null-label : any is_null (constants (class cs x)) ≡ eqb (least_of cs x) 0
    null-label = go (eqb (least_of cs x) 0) refl
      where
        go : (b : Bool) → eqb (least_of cs x) 0 ≡ b → any is_null (constants (class cs x)) ≡ b
        go true e = null-there (eqb-true (least_of cs x) 0 e)
        go false e = null-absent (eqb-false (least_of cs x) 0 e)

  never-label : (p : Predicate) (x : Joint) → Fits x → ((z : ℤ) → x ≡ constant z → Member x (sides cs))
      → never_code p (least_of cs x) ≡ never_of p (constants (class cs x))
  never-label (by o) x h m = sym (null-label x h m)
  never-label is-null x h m = refl
  never-label is-not-null x h m = refl

-- a label, and the constants of its class
abbrev Numbered : ℕ → List ℤ → Type 0
Numbered n [] = marks_from ≤ n
Numbered n (z ∷ zs) = (n ≡ constant_code z) × (is_within32 z ≡ true)

-- a comparison of labels that are constants is that of the classes' constants
numbered-false : (p : Predicate) (a b : ℕ) (ys zs : List ℤ) → Numbered a ys → Numbered b zs
    → (is_constant (max a b) && not (truth p (code_constant a) (code_constant b))) ≡ false_of p ys zs
numbered-false p a b [] zs h k = rw (le-ltb (max a b) marks_from (omega arith))
numbered-false p a b (y ∷ ys) [] h k = rw (le-ltb (max a b) marks_from (omega arith))
numbered-false p a b (y ∷ ys) (z ∷ zs) h k =
    let below-y = constant-below y h.1 in
    let below-z = constant-below z k.1 in
    rw (h.0, k.0, lt-ltb (max (constant_code y) (constant_code z)) marks_from (omega arith)) (ap not (ap₂ (truth p) (code-constant y h.1) (code-constant z k.1)))

module _ (cs : Clause) (fit : All Fits (sides cs)) (single : Single cs) where
  -- of an operand that is no constant, or stands in the clause
  numbered : (x : Joint) → Fits x → ((z : ℤ) → x ≡ constant z → Member x (sides cs)) → Numbered (least_of cs x) (constants (class cs x))
  numbered x h m = go (constants (class cs x)) refl
    where
      go : (zs : List ℤ) → constants (class cs x) ≡ zs → Numbered (least_of cs x) zs
      go [] e = no_constant (ltb (least_of cs x) marks_from) refl
        where
          no_constant : (t : Bool) → ltb (least_of cs x) marks_from ≡ t → marks_from ≤ least_of cs x
          no_constant true k =
              let s = stands cs fit x h in
              let z = below-constant s.operand (subst (λ (n : ℕ). n < marks_from) s.is_code (ltb-true (least_of cs x) marks_from k)) in
              absurd (not-nil (subst (Member z.0) e (member-constants (class-has cs x (m z.0) (subst (Linked cs x) z.1 s.linked)))))
          no_constant false k = ltb-false (least_of cs x) marks_from k
      go (z ∷ zs) e =
          let p = All-head (subst (All (λ (z : ℤ). Linked cs x (constant z) × Fits (constant z))) e (constants-have (class-linked cs x fit))) in
          (linked-least p.0 ∙ fixed-constant cs fit (unclashed cs fit single) z p.1, p.1)

  fails-broken : (c : Comparison Joint) → Member c cs → fails c.op (least_of cs c.left) (least_of cs c.right) ≡ broken cs c
  fails-broken c m =
      ap₂ ◌||◌ (ap (λ (t : Bool). strict c.op && t) (same-label cs fit c.left c.right left-fits right-fits))
      (ap₂ ◌||◌
      (ap₂ ◌||◌ (never-label cs fit c.op c.left left-fits (λ z e. (sides-of m).0)) (never-label cs fit c.op c.right right-fits (λ z e. (sides-of m).1)))
      (numbered-false c.op (least_of cs c.left) (least_of cs c.right) (constants (class cs c.left)) (constants (class cs c.right))
      (numbered c.left left-fits (λ z e. (sides-of m).0)) (numbered c.right right-fits (λ z e. (sides-of m).1))))
    where
      left-fits : Fits c.left
      left-fits = member-has fit (sides-of m).0

      right-fits : Fits c.right
      right-fits = member-has fit (sides-of m).1

-- rule 6
pub least-contradicts : (cs : Clause) → All Fits (sides cs) → contradicts (coded cs) ≡ contradictory cs
unfolding contradicts contradictory
least-contradicts cs fit = go (any (λ (x : Joint). differ (constants (class cs x))) (sides cs)) refl
  where
    go : (b : Bool) → any (λ (x : Joint). differ (constants (class cs x))) (sides cs) ≡ b
        → (clashes_on (λ n. n) (coded cs) || any (λ (c : Comparison ℕ). fails c.op (least (coded cs) c.left) (least (coded cs) c.right)) (coded cs)) ≡ (b || any (broken cs) cs)
    go true e = rw (clash-differ cs fit ∙ e)
    go false e =
        rw (clash-differ cs fit ∙ e)
        (any-map (renamed code_of) (λ (c : Comparison ℕ). fails c.op (least (coded cs) c.left) (least (coded cs) c.right)) cs
        ∙ any_same (members-have cs (fails-broken cs fit (single_of cs fit e))))

-- ---- rule 7

pub lowest-within : (j k : ℕ) (ks : List ℕ) → All (λ (m : ℕ). j ≤ m) (k ∷ ks) → j ≤ lowest k ks
lowest-within j k [] h = All-head h
lowest-within j k (m ∷ ms) h = let a = All-head h in let b = lowest-within j m ms (All-tail h) in omega arith

lowest-is : {j : ℕ} (k : ℕ) (ks : List ℕ) → Member j (k ∷ ks) → All (λ (m : ℕ). j ≤ m) (k ∷ ks) → lowest k ks ≡ j
lowest-is k [] (head e) h = sym e
lowest-is k [] (tail n) h = elim n [ ]
lowest-is k (m ∷ ms) (head e) h = let a = lowest-within _ m ms (All-tail h) in omega arith
lowest-is k (m ∷ ms) (tail n) h = let a = All-head h in let b = lowest-is m ms n (All-tail h) in omega arith

asked-given : {k j : ℕ} → asked k ≡ given j → ⊥
asked-given e = let z : ◌≡◌ {A = ℕ} 0 1 = cc in omega arith

asked-constant : {k : ℕ} {z : ℤ} → asked k ≡ constant z → ⊥
asked-constant e = let z : ◌≡◌ {A = ℕ} 0 1 = cc in omega arith

module _ (cs : Clause) (fit : All Fits (sides cs)) (single : Single cs) (k : ℕ) (room : k < 65536) where
  -- the label is at most the code of each update mark of the class
  marks-after : All (λ (m : ℕ). (least_of cs (asked k) ≤ marks_from + m) × (m < 65536)) (update_marks (class cs (asked k)))
  marks-after =
      All-map (λ m p. (let e = linked-least p.0 in let h = least-falls (λ n. n) (λ n. omega arith) (coded cs) (marks_from + m) in omega arith, p.1))
      (marks-have (class-linked cs (asked k) fit))

  -- by the operand that the label stands for, where the class has no constant
  marked : (y : Joint) → Fits y → Linked cs (asked k) y → least_of cs (asked k) ≡ code_of y → marks_from ≤ least_of cs (asked k)
      → operand_entry y ≡ mark_entry (update_marks (class cs (asked k)))
  marked y h link e above = go y h link e (update_marks (class cs (asked k))) refl marks-after
    where
      go : (y : Joint) → Fits y → Linked cs (asked k) y → least_of cs (asked k) ≡ code_of y
          → (ms : List ℕ) → update_marks (class cs (asked k)) ≡ ms → All (λ (m : ℕ). (least_of cs (asked k) ≤ marks_from + m) × (m < 65536)) ms → operand_entry y ≡ mark_entry ms
      go (column i) h link e [] p a = refl
      go (column i) h link e (m ∷ ms) p a = let b = All-head a in absurd (omega arith)
      go (constant z) h link e ms p a = let b = constant-below z h in absurd (omega arith)
      go (asked j) h link e [] p a = refl
      go (asked j) h link e (m ∷ ms) p a = let b = All-head a in absurd (omega arith)
      go (given j) h link e ms p a = least-mark ms (subst (Member j) p (member-marks (class-has cs (asked k) (λ q. absurd (asked-given q)) link))) a
        where
          least-mark : (ms : List ℕ) → Member j ms → All (λ (m : ℕ). (least_of cs (asked k) ≤ marks_from + m) × (m < 65536)) ms → mark j ≡ mark_entry ms
          least-mark [] n a = elim n [ ]
          least-mark (m ∷ ms) n a = ap mark (sym (lowest-is m ms n (All-map (λ i b. let c : marks_from + j ≤ marks_from + i = subst (λ (n : ℕ). n ≤ marks_from + i) e b.0 in omega arith) a)))

  entry-least : entry_of_code (least_of cs (asked k)) ≡ class_entry (constants (class cs (asked k))) (update_marks (class cs (asked k)))
  entry-least = go (constants (class cs (asked k))) (numbered cs fit single (asked k) room (λ z e. absurd (asked-constant e)))
    where
      go : (zs : List ℤ) → Numbered (least_of cs (asked k)) zs → entry_of_code (least_of cs (asked k)) ≡ class_entry zs (update_marks (class cs (asked k)))
      go [] above =
          let s = stands cs fit (asked k) room in
          ap entry_of_code s.is_code ∙ entry-of-code s.operand s.fits ∙ marked s.operand s.fits s.linked s.is_code above
      go (z ∷ zs) p = ap entry_of_code p.0 ∙ entry-of-code (constant z) p.1

-- the entry of a question mark of the query, in a clause that does not go
pub least-entry : (cs : Clause) → All Fits (sides cs) → (k : ℕ) → k < 65536 → contradictory cs ≡ false → least_entry (coded cs) k ≡ entry cs k
unfolding least_entry entry contradictory
least-entry cs fit k room h = entry-least cs fit (single_of cs fit (or_left _ (any (broken cs) cs) h)) k room
