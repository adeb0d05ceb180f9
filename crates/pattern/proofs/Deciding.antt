-- Clauses of literals beside others: what the functions of modules `filled` and `affected` find is what `decided` says. Assumes nothing.
use mathlib.Core.Path.{◌≡◌, refl, sym, ap, ap₂, subst, ◌∙◌}
use mathlib.Core.Bool.{Bool, true, false, not, ◌&&◌, ◌||◌, cond}
use mathlib.Core.List.{List, [], ◌∷◌, ◌++◌, map, map-map, append_assoc, append-nil}
use Prim.Native.Nat.{ℕ, zero, suc, ◌+◌, ◌/◌, ◌%◌, ◌≤◌, ◌<◌}
use native.Mathlib.Numerals.{add-one}
use native.Mathlib.Omega.{arith}
use lib.Dec.{eqb, ltb}
use lib.IntN.{ℤ}
use lib.ListN.{length, take, get_or}
use lib.Seq.{take-suc, take_all}
use Rattle.lists.specs.Lists.{All, nil, cons, any, keep, cons_if}
use Rattle.lists.proofs.Bools.{or_assoc, iff}
use Rattle.lists.proofs.Lists.{All-map, All-every, All-both, All-append, All-image, All-source, All-keep, any_same, any-map, any_append, keep_append, map-append}
use Rattle.statement.specs.declared.Setting.{Setting}
use Rattle.meaning.specs.Operator.{eq, is_null, by, is-null}
use Rattle.meaning.specs.Condition.{Comparison, renamed}
use Rattle.meaning.specs.Statement as M
use Rattle.meaning.specs.Statement.{Operand, column, value, constant}
use Rattle.meaning.specs.Exact.{with_columns}
use Rattle.statement.specs.declared.Condition.{Condition}
use Rattle.statement.specs.declared.Query.{Query}
use Rattle.statement.specs.declared.Update.{Update}
use Rattle.statement.specs.Sound.{setting_read, settings_read}
use Rattle.pattern.specs.declared.joint.Role.{Role}
use Rattle.pattern.specs.declared.joint.Role.TheVariants.{Given, Asked, Inserted, Set}
use Rattle.pattern.specs.declared.masks.Clauses.{Clauses}
use Rattle.pattern.specs.declared.labels.Compared.{Compared}
use Rattle.pattern.specs.declared.filled.Filled.{Filled}
use Rattle.pattern.specs.Private.Deciding as Deciding
use Rattle.pattern.specs.Private.Masks.{select, comparisons_read, Masked}
use Rattle.pattern.specs.Stored.{separate_stored, affects_stored, reaches_stored}
use Rattle.pattern.specs.Private.Literals.{Literal, wanted, trues, falses, possible, role_operand, set_operand, holds_number, alterations_of, alterations, where_clauses, not_clauses, NotMasked, some_possible, decided}
use Rattle.pattern.specs.Private.Deciding.{literal, tests_in, masks_in, clause_in, clauses_in, possible_code, some_beside, some_pair, changed_by, test_read, literal_read, Sides, Reads, FilledAs, altered_tests, IsApart, Sound, Stands, Each}
use Rattle.pattern.proofs.Adding.{all-select}
use Rattle.pattern.proofs.Relevant.{any-or}
use Rattle.pattern.proofs.Plain.{apart-renamed, role-tame}
use Rattle.pattern.proofs.Altering.{Constant, settings-constant}
use Rattle.pattern.proofs.Conjunctions.{decided-exactly}
use Rattle.pattern.proofs.Reached.{affects-stored}
use Rattle.pattern.proofs.Trying.{possible-read}

-- ---- comparisons one after another

pub filled-none : (l : Filled) → l.count ≡ 0 → FilledAs [] l
filled-none l e = record {
  sides = subst (λ (k : ℕ). All Sides (take k l.tests)) (sym e) nil;
  read_are = ap (λ (k : ℕ). map test_read (take k l.tests)) e;
}

pub filled-push : (cs : List (Comparison Operand)) (c : Comparison Operand) (l r : Filled) (x : Compared) → FilledAs cs l → Reads c x → tests_in r ≡ tests_in l ++ (x ∷ [])
    → FilledAs (cs ++ (c ∷ [])) r
filled-push cs c l r x F R e = record {
  sides = subst (All Sides) (sym e) (All-append F.sides (cons (R.left, R.right) nil));
  read_are = ap (map test_read) e ∙ map-append test_read (tests_in l) (x ∷ [])
      ∙ ap₂ (λ (a : List (Comparison Operand)) (y : Comparison Operand). a ++ (y ∷ [])) F.read_are R.test_is;
}

-- the first members of a list and one more
first-more : {A : Type 0} (xs : List A) (i : ℕ) (d : A) → i < length xs → take (i + 1) xs ≡ take i xs ++ (get_or xs i d ∷ [])
first-more xs i d h = ap (λ (k : ℕ). take k xs) (add-one i) ∙ take-suc xs i d h

module _ {A : Type 0} (g : A → Comparison Operand) (xs : List A) (i : ℕ) (d : A) (h : i < length xs) (l r : Filled) (x : Compared) (F : FilledAs (map g (take i xs)) l)
    (R : Reads (g (get_or xs i d)) x) (e : tests_in r ≡ tests_in l ++ (x ∷ [])) where
  pub fill-more : FilledAs (map g (take (i + 1) xs)) r
  fill-more =
      subst (λ (cs : List (Comparison Operand)). FilledAs cs r)
      (sym (ap (map g) (first-more xs i d h) ∙ map-append g (take i xs) (get_or xs i d ∷ [])))
      (filled-push (map g (take i xs)) (g (get_or xs i d)) l r x F R e)

pub fill-done : {A : Type 0} (g : A → Comparison Operand) (xs : List A) (i : ℕ) (l : Filled) → length xs ≤ i → FilledAs (map g (take i xs)) l → FilledAs (map g xs) l
fill-done g xs i l h F = subst (λ (ys : List _). FilledAs (map g ys) l) (take_all i xs h) F

-- those that pass a test
module _ {A B : Type 0} (f : A → B) (p : B → Bool) (g : B → Comparison Operand) (xs : List A) where
  abbrev pub Kept : ℕ → Filled → Type 0
  Kept i l = FilledAs (map g (keep p (map f (take i xs)))) l

  module _ (i : ℕ) (d : A) (h : i < length xs) (l : Filled) (F : Kept i l) where
    keep-more : (b : Bool) → p (f (get_or xs i d)) ≡ b → map g (keep p (map f (take (i + 1) xs))) ≡ map g (keep p (map f (take i xs))) ++ map g (cons_if b (f (get_or xs i d)) [])
    keep-more b e =
        ap (λ (ys : List A). map g (keep p (map f ys))) (first-more xs i d h)
        ∙ ap (λ (ys : List B). map g (keep p ys)) (map-append f (take i xs) (get_or xs i d ∷ []))
        ∙ ap (map g) (keep_append p (map f (take i xs)) (f (get_or xs i d) ∷ []))
        ∙ map-append g (keep p (map f (take i xs))) (cons_if (p (f (get_or xs i d))) (f (get_or xs i d)) [])
        ∙ ap (λ (t : Bool). map g (keep p (map f (take i xs))) ++ map g (cons_if t (f (get_or xs i d)) [])) e

    pub keep-push : (r : Filled) (x : Compared) → p (f (get_or xs i d)) ≡ true → Reads (g (f (get_or xs i d))) x → tests_in r ≡ tests_in l ++ (x ∷ []) → Kept (i + 1) r
    keep-push r x e R q =
        subst (λ (cs : List (Comparison Operand)). FilledAs cs r) (sym (keep-more true e)) (filled-push (map g (keep p (map f (take i xs)))) (g (f (get_or xs i d))) l r x F R q)

    pub keep-not : p (f (get_or xs i d)) ≡ false → Kept (i + 1) l
    keep-not e = subst (λ (cs : List (Comparison Operand)). FilledAs cs l) (sym (keep-more false e ∙ append-nil (map g (keep p (map f (take i xs)))))) F

  pub keep-done : (i : ℕ) (l : Filled) → length xs ≤ i → Kept i l → FilledAs (map g (keep p (map f xs))) l
  keep-done i l h F = subst (λ (ys : List A). FilledAs (map g (keep p (map f ys))) l) (take_all i xs h) F

-- ---- literals are sound

abbrev Apart : Comparison Operand → Type 0
Apart c = with_columns c ≡ false

abbrev Good : Compared → Type 0
Good c = Sides c × Apart (test_read c)

filled-good : (cs : List (Comparison Operand)) (l : Filled) → FilledAs cs l → All Apart cs → All Good (tests_in l)
filled-good cs l F h = All-both F.sides (All-source test_read (tests_in l) (subst (All Apart) (sym F.read_are) h))

all-sound : (want : Bool) {cs : List Compared} → All Good cs → All Sound (map (literal want) cs)
all-sound want h = All-image (literal want) (All-map (λ x p. record { sides = p.0; apart = p.1 }) h)

all-chosen : (want : Bool) (l : Filled) (m : Clauses) → All Good (tests_in l) → All (All Sound) (clauses_in want l m)
all-chosen want l m h = All-image (clause_in want l) (All-every (λ k. all-sound want (all-select k h)) (masks_in m))

-- ---- clauses by masks are those of the conditions

map-if : {A B : Type 0} (f : A → B) (b : Bool) (x : A) (xs : List A) → map f (cons_if b x xs) ≡ cons_if b (f x) (map f xs)
map-if f true x xs = refl
map-if f false x xs = refl

select-map : {A B : Type 0} (f : A → B) (xs : List A) (m : ℕ) → map f (select xs m) ≡ select (map f xs) m
select-map f [] m = refl
select-map f (x ∷ xs) m = map-if f (eqb (m % 2) 1) x (select xs (m / 2)) ∙ ap (cons_if (eqb (m % 2) 1) (f x)) (select-map f xs (m / 2))

-- comparisons by their numbers, and as they are said
clause-read : (want : Bool) (cs : List Compared) → map literal_read (map (literal want) cs) ≡ map (wanted want) (map test_read cs)
clause-read want [] = refl
clause-read want (c ∷ cs) = ap (λ (r : List Literal). wanted want (test_read c) ∷ r) (clause-read want cs)

module _ (want : Bool) (f : Operand → Operand) (cs : List (Comparison Operand)) (l : Filled) (F : FilledAs (map (renamed f) cs) l) where
  chosen-read : (ms : List ℕ) → map (map literal_read) (map (clause_in want l) ms) ≡ map (map (wanted want)) (map (map (renamed f)) (map (select cs) ms))
  chosen-read [] = refl
  chosen-read (m ∷ ms) =
      ap₂ (λ (a : List Literal) (r : List (List Literal)). a ∷ r)
      (clause-read want (select (tests_in l) m)
      ∙ ap (map (wanted want))
      (select-map test_read (tests_in l) m ∙ ap (λ (x : List (Comparison Operand)). select x m) F.read_are ∙ sym (select-map (renamed f) cs m)))
      (chosen-read ms)

module _ (role : Role) (ss : List (ℕ × M.Value)) (us qs : List ℤ) (c : Condition) (I : IsApart c) (l : Filled)
    (F : FilledAs (map (renamed (role_operand role ss us qs)) (comparisons_read c)) l) (m : Clauses) where
  abbrev f : Operand → Operand
  f = role_operand role ss us qs

  good : All Good (tests_in l)
  good = filled-good (map (renamed f) (comparisons_read c)) l F (All-image (renamed f) (All-map (λ k h. apart-renamed (role-tame role ss us qs) k h) I.apart))

  pub stands-met : Masked c m → Stands (map trues (where_clauses f c)) (clauses_in true l m)
  stands-met K = record {
    sound = all-chosen true l m good;
    read_are = chosen-read true f (comparisons_read c) l F (masks_in m) ∙ ap (λ (css : List (List (Comparison Operand))). map trues (map (map (renamed f)) css)) (sym K.clauses_are);
  }

  pub stands-unmet : NotMasked c m → Stands (map falses (not_clauses f c)) (clauses_in false l m)
  stands-unmet K = record {
    sound = all-chosen false l m good;
    read_are = chosen-read false f (comparisons_read c) l F (masks_in m) ∙ ap (λ (css : List (List (Comparison Operand))). map falses (map (map (renamed f)) css)) (sym K.clauses_are);
  }

-- ---- each by itself

abbrev powers : List ℕ
powers = 1 ∷ 2 ∷ 4 ∷ 8 ∷ 16 ∷ 32 ∷ 64 ∷ 128 ∷ 0 ∷ 0 ∷ 0 ∷ 0 ∷ 0 ∷ 0 ∷ 0 ∷ 0 ∷ 0 ∷ 0 ∷ []

abbrev lone : {A : Type 0} → A → List A
lone x = x ∷ []

singles : {A : Type 0} (cs : List A) → length cs ≤ 8 → map (select cs) (take (length cs) powers) ≡ map lone cs
singles [] h = refl
singles (a ∷ []) h = refl
singles (a ∷ b ∷ []) h = refl
singles (a ∷ b ∷ c ∷ []) h = refl
singles (a ∷ b ∷ c ∷ d ∷ []) h = refl
singles (a ∷ b ∷ c ∷ d ∷ e ∷ []) h = refl
singles (a ∷ b ∷ c ∷ d ∷ e ∷ f ∷ []) h = refl
singles (a ∷ b ∷ c ∷ d ∷ e ∷ f ∷ g ∷ []) h = refl
singles (a ∷ b ∷ c ∷ d ∷ e ∷ f ∷ g ∷ i ∷ []) h = refl
singles (a ∷ b ∷ c ∷ d ∷ e ∷ f ∷ g ∷ i ∷ j ∷ l) h = absurd (omega arith)

pub each-one : (n : ℕ) → n ≤ 8 → Each n (record { masks = powers; count = n })
each-one n h = record {
  each = λ cs e. ap (λ (k : ℕ). map (select cs) (take k powers)) (sym e) ∙ singles cs (subst (λ (k : ℕ). k ≤ 8) (sym e) h);
}

module _ (n : ℕ) (selected : List ℕ) (ss : List (ℕ × M.Value)) (us qs : List ℤ) where
  abbrev g : ℕ × M.Value → Comparison Operand
  g s = holds_number s.0 (role_operand Set ss us qs (column s.0))

  abbrev kept : List (ℕ × M.Value)
  kept = keep (λ (s : ℕ × M.Value). ltb s.0 n && any (eqb s.0) selected) ss

  number-apart : (i : ℕ) (o : Operand) → Constant o → Apart (holds_number i o)
  number-apart i o (z, e) = subst (λ (x : Operand). Apart (holds_number i x)) (sym e) (go (is_null z))
    where
      go : (t : Bool) → Apart (record { left = column i; op = cond t is-null (by eq); right = value (constant z) })
      go true = refl
      go false = refl

  altered-apart : All Apart (altered_tests n selected ss (role_operand Set ss us qs))
  altered-apart =
      All-image g (All-keep (λ (s : ℕ × M.Value). ltb s.0 n && any (eqb s.0) selected) (λ s c t. number-apart s.0 (set_operand ss us s.0 (column s.0)) (c (column s.0))) (settings-constant ss us))

  pub stands-altered : (l : Filled) (m : Clauses) (k : ℕ) → FilledAs (altered_tests n selected ss (role_operand Set ss us qs)) l → k ≡ length (tests_in l) → Each k m
      → Stands (alterations_of n selected ss us) (clauses_in false l m)
  stands-altered l m k F e E = record {
    sound = all-chosen false l m (filled-good (altered_tests n selected ss (role_operand Set ss us qs)) l F altered-apart);
    read_are = ap (map (map literal_read)) (sym (map-map (map (literal false)) (select (tests_in l)) (masks_in m)) ∙ ap (map (map (literal false))) (E.each (tests_in l) (sym e)))
        ∙ lones (tests_in l) ∙ ap (map (λ (c : Comparison Operand). falses (c ∷ []))) F.read_are
        ∙ map-map (λ (c : Comparison Operand). falses (c ∷ [])) g kept;
  }
    where
      lones : (cs : List Compared) → map (map literal_read) (map (map (literal false)) (map lone cs)) ≡ map (λ (c : Comparison Operand). falses (c ∷ [])) (map test_read cs)
      lones [] = refl
      lones (c ∷ cs) = ap (λ (r : List (List Literal)). falses (test_read c ∷ []) ∷ r) (lones cs)

-- ---- clauses beside others

module _ (w : ℕ) where
  three : (a b ls : List Deciding.Literal) → All Sound a → All Sound b → All Sound ls
      → possible_code w (a ++ (b ++ ls)) ≡ possible w ((map literal_read a ++ map literal_read b) ++ map literal_read ls)
  three a b ls ha hb hl =
      possible-read w (a ++ (b ++ ls)) (All-append ha (All-append hb hl))
      ∙ ap (possible w)
      (map-append literal_read a (b ++ ls) ∙ ap (λ (r : List Literal). map literal_read a ++ r) (map-append literal_read b ls)
      ∙ sym (append_assoc (map literal_read a) (map literal_read b) (map literal_read ls)))

  -- one of several, tried as it stands for others
  any-on : (lss : List (List Literal)) (A : List (List Deciding.Literal)) → Stands lss A → (p : List Deciding.Literal → Bool) (q : List Literal → Bool)
      → ((ls : List Deciding.Literal) → All Sound ls → p ls ≡ q (map literal_read ls)) → any p A ≡ any q lss
  any-on lss A S p q h =
      any_same (All-map (λ ls k. h ls k) S.sound) ∙ sym (any-map (map literal_read) q A) ∙ ap (any q) S.read_are

  beside-is : (lss : List (List Literal)) (A : List (List Deciding.Literal)) → Stands lss A → (a b : List Deciding.Literal) → All Sound a → All Sound b
      → some_beside w a b A ≡ some_possible w (map literal_read a ++ map literal_read b) lss
  beside-is lss A S a b ha hb =
      any-on lss A S (λ (ls : List Deciding.Literal). possible_code w (a ++ (b ++ ls))) (λ (ms : List Literal). possible w ((map literal_read a ++ map literal_read b) ++ ms))
      (λ ls k. three a b ls ha hb k)

  pair-is : (css : List (List (Comparison Operand))) (lss : List (List Literal)) (B A : List (List Deciding.Literal)) → Stands (map trues css) B → Stands lss A → (a : List Deciding.Literal) → All Sound a
      → some_pair w a B A ≡ any (λ (cs : List (Comparison Operand)). some_possible w (map literal_read a ++ trues cs) lss) css
  pair-is css lss B A T S a ha =
      any-on (map trues css) B T (λ (ls : List Deciding.Literal). some_beside w a ls A) (λ (ms : List Literal). some_possible w (map literal_read a ++ ms) lss)
      (λ ls k. beside-is lss A S a ls ha k)
      ∙ any-map trues (λ (ms : List Literal). some_possible w (map literal_read a ++ ms) lss) css

-- ---- by the update's form

-- operands that are read the same way
pub read-same : (P : (Operand → Operand) → Type 0) (r r' : Role) (xs xs' : List Setting) (us us' qs qs' : List ℤ) → r ≡ r' → xs ≡ xs' → us ≡ us' → qs ≡ qs'
    → P (role_operand r (map setting_read xs) us qs) → P (role_operand r' (map setting_read xs') us' qs')
read-same P r r' xs xs' us us' qs qs' er ex eu ea p =
    subst (λ (a : Role). P (role_operand a (map setting_read xs') us' qs')) er
    (subst (λ (a : List Setting). P (role_operand r (map setting_read a) us' qs')) ex
    (subst (λ (a : List ℤ). P (role_operand r (map setting_read xs) a qs')) eu (subst (λ (a : List ℤ). P (role_operand r (map setting_read xs) us a)) ea p)))

module _ (w : ℕ) (q : Query) (u : Update) (us qs : List ℤ) where
  abbrev ss : List (ℕ × M.Value)
  ss = settings_read u

  abbrev F : Role → List (List (Comparison Operand))
  F r = where_clauses (role_operand r ss us qs) q.condition

  abbrev not_F : Role → List (List (Comparison Operand))
  not_F r = not_clauses (role_operand r ss us qs) q.condition

  pub insert-decided : (A : List (List Deciding.Literal)) → Stands (map trues (F Inserted)) A → some_beside w [] [] A ≡ decided 0 w q qs u us
  unfolding decided
  insert-decided A S = beside-is w (map trues (F Inserted)) A S [] [] nil nil

  module _ (G : List (List Deciding.Literal)) (T : Stands (map trues (where_clauses (role_operand Given ss us qs) u.condition)) G) where
    pub delete-decided : (A : List (List Deciding.Literal)) → Stands (map trues (F Asked)) A → some_pair w [] G A ≡ decided 2 w q qs u us
    unfolding decided
    delete-decided A S = pair-is w (where_clauses (role_operand Given ss us qs) u.condition) (map trues (F Asked)) G A T S [] nil

    module _ {b a nb na d : List (List Deciding.Literal)} (B : Stands (map trues (F Asked)) b) (A : Stands (map trues (F Set)) a) (NB : Stands (map falses (not_F Asked)) nb)
        (NA : Stands (map falses (not_F Set)) na) (C : Stands (alterations w q u us) d) where
      abbrev beside : List (Comparison Operand) → List (Comparison Operand) → List (List Literal) → Bool
      beside g f lss = some_possible w (trues g ++ trues f) lss

      abbrev said : List Literal → Bool
      said ms =
          any (λ (f : List (Comparison Operand)). some_possible w (ms ++ trues f) (alterations w q u us ++ map falses (not_F Set))) (F Asked)
          || any (λ (f : List (Comparison Operand)). some_possible w (ms ++ trues f) (map falses (not_F Asked))) (F Set)

      two : (ms : List Literal) → any (λ (f : List (Comparison Operand)). some_possible w (ms ++ trues f) (alterations w q u us ++ map falses (not_F Set))) (F Asked)
          ≡ (any (λ (f : List (Comparison Operand)). some_possible w (ms ++ trues f) (alterations w q u us)) (F Asked)
          || any (λ (f : List (Comparison Operand)). some_possible w (ms ++ trues f) (map falses (not_F Set))) (F Asked))
      two ms =
          any_same (All-every (λ f. any_append (λ (ns : List Literal). possible w ((ms ++ trues f) ++ ns)) (alterations w q u us) (map falses (not_F Set))) (F Asked))
          ∙ any-or (λ (f : List (Comparison Operand)). some_possible w (ms ++ trues f) (alterations w q u us))
          (λ (f : List (Comparison Operand)). some_possible w (ms ++ trues f) (map falses (not_F Set))) (F Asked)

      change-is : (ls : List Deciding.Literal) → All Sound ls → changed_by w b a nb na d ls ≡ said (map literal_read ls)
      change-is ls k =
          let ms = map literal_read ls in
          let x = any (λ (f : List (Comparison Operand)). some_possible w (ms ++ trues f) (alterations w q u us)) (F Asked) in
          let y = any (λ (f : List (Comparison Operand)). some_possible w (ms ++ trues f) (map falses (not_F Set))) (F Asked) in
          let z = any (λ (f : List (Comparison Operand)). some_possible w (ms ++ trues f) (map falses (not_F Asked))) (F Set) in
          ap₂ ◌||◌ (pair-is w (F Asked) (alterations w q u us) b d B C ls k)
          (ap₂ ◌||◌ (pair-is w (F Asked) (map falses (not_F Set)) b na B NA ls k) (pair-is w (F Set) (map falses (not_F Asked)) a nb A NB ls k))
          ∙ or_assoc x y z ∙ sym (ap (λ (t : Bool). t || z) (two ms))

      pub update-decided : any (changed_by w b a nb na d) G ≡ decided 1 w q qs u us
      unfolding decided
      update-decided =
          any-on w (map trues (where_clauses (role_operand Given ss us qs) u.condition)) G T (changed_by w b a nb na d) said (λ ls k. change-is ls k)
          ∙ any-map trues said (where_clauses (role_operand Given ss us qs) u.condition)

-- any other form is a DELETE
pub decided-delete : (form width : ℕ) (q : Query) (qs : List ℤ) (u : Update) (us : List ℤ) → (form ≡ 0 → ⊥) → (form ≡ 1 → ⊥) → decided 2 width q qs u us ≡ decided form width q qs u us
unfolding decided
decided-delete zero width q qs u us a b = absurd (a refl)
decided-delete (suc zero) width q qs u us a b = absurd (b refl)
decided-delete (suc (suc f)) width q qs u us a b = refl

-- ---- `reaches`

module _ (width : ℕ) (q : Query) (u : Update) (us qs : List ℤ) where
  pub reach-other : separate_stored width q u ≡ false → true ≡ reaches_stored width q u us qs
  unfolding reaches_stored
  reach-other h = sym (ap (λ (b : Bool). not b || affects_stored width q qs u us) h)

  pub reach-decided : separate_stored width q u ≡ true → decided u.form width q qs u us ≡ reaches_stored width q u us qs
  unfolding reaches_stored
  reach-decided h =
      let d = decided-exactly width q qs u us h in
      let a = affects-stored width q qs u us h in
      iff (decided u.form width q qs u us) (affects_stored width q qs u us) (λ e. a.1 (d.0 e)) (λ e. d.1 (a.0 e))
      ∙ sym (ap (λ (b : Bool). not b || affects_stored width q qs u us) h)
