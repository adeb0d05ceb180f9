-- Comparisons added to a clause in arrays: those that a mask selects, one after another. Each is written behind the clause, and the clause grows by it where its bit
-- is set. Assumes nothing.
use mathlib.Core.Path.{◌≡◌, refl, sym, ap, ap₂, subst, ◌∙◌}
use mathlib.Core.Bool.{Bool, true, false}
use mathlib.Core.List.{List, [], ◌∷◌, ◌++◌, map, append_assoc, append-nil}
use Prim.Native.Nat.{ℕ, suc, ◌+◌, ◌*◌, ◌/◌, ◌%◌, ◌≤◌, ◌<◌}
use native.Mathlib.Numerals.{add-one}
use native.Mathlib.Omega.{arith}
use lib.Dec.{eqb}
use borrow.Author.Tests.{eqb-true, eqb-false}
use lib.ListN.{length, take, drop, get_or, set, length-set, drop_of_length-le}
use lib.Seq.{drop-cons, take-suc, take_all, get_or-set_same, get_or-set_other, drop-set-lt}
use Rattle.lists.specs.Lists.{All, nil, cons, cons_if, from}
use Rattle.lists.proofs.Lists.{All-map, All-append, map-append, map_same}
use Rattle.lists.proofs.Places.{All-set}
use Rattle.lists.proofs.Moved.{from-below}
use Rattle.meaning.specs.Condition as C
use Rattle.meaning.specs.Condition.{renamed, sides}
use Rattle.meaning.specs.Statement as M
use Rattle.meaning.specs.Pattern.{Joint}
use Rattle.statement.specs.Operators.{predicate_at}
use Rattle.pattern.specs.Private.Least.{Coded, code_of, coded}
use Rattle.pattern.specs.Private.Masks.{select}
use Rattle.pattern.specs.Private.Flat.{comparison_at, clause_at, Narrow, Readable, Coding, Extended}
use Rattle.pattern.proofs.Mapped.{from_last}
use Rattle.pattern.proofs.Numbering.{coding-readable}

-- ---- one comparison behind the first n

module _ (codes ops : List ℕ) (n a b o : ℕ) (long : 2 * n + 1 < length codes) (room : n < length ops) where
  abbrev codes' : List ℕ
  codes' = set (set codes (2 * n) a) (2 * n + 1) b

  abbrev ops' : List ℕ
  ops' = set ops n o

  kept_at : (k : ℕ) → k < n → comparison_at codes' ops' k ≡ comparison_at codes ops k
  kept_at k h =
      let l : get_or codes' (2 * k) 0 ≡ get_or codes (2 * k) 0 =
      get_or-set_other (set codes (2 * n) a) (2 * n + 1) (2 * k) b 0 (λ e. omega arith) ∙ get_or-set_other codes (2 * n) (2 * k) a 0 (λ e. omega arith) in
      let r : get_or codes' (2 * k + 1) 0 ≡ get_or codes (2 * k + 1) 0 =
      get_or-set_other (set codes (2 * n) a) (2 * n + 1) (2 * k + 1) b 0 (λ e. omega arith) ∙ get_or-set_other codes (2 * n) (2 * k + 1) a 0 (λ e. omega arith) in
      let q : get_or ops' k 0 ≡ get_or ops k 0 = get_or-set_other ops n k o 0 (λ e. omega arith) in
      rw (l, r, q)

  pub kept : clause_at codes' ops' n ≡ clause_at codes ops n
  kept = map_same (comparison_at codes ops) (All-map (λ k h. kept_at k (omega arith)) (from-below 0 n))

  last-at : comparison_at codes' ops' n ≡ record { left = a; op = predicate_at o; right = b }
  last-at =
      let l : get_or codes' (2 * n) 0 ≡ a =
      get_or-set_other (set codes (2 * n) a) (2 * n + 1) (2 * n) b 0 (λ e. omega arith) ∙ get_or-set_same codes (2 * n) a 0 (omega arith) in
      let r : get_or codes' (2 * n + 1) 0 ≡ b = get_or-set_same (set codes (2 * n) a) (2 * n + 1) b 0 (simp length-set long) in
      let q : get_or ops' n 0 ≡ o = get_or-set_same ops n o 0 room in
      rw (l, r, q)

  pub grown : clause_at codes' ops' (suc n) ≡ clause_at codes ops n ++ (record { left = a; op = predicate_at o; right = b } ∷ [])
  grown =
      let z : 0 + n ≡ n = omega arith in
      ap (map (comparison_at codes' ops')) (from_last 0 n)
      ∙ map-append (comparison_at codes' ops') (from 0 n) ((0 + n) ∷ [])
      ∙ ap₂ (λ (l : Coded) (c : C.Comparison ℕ). l ++ (c ∷ [])) kept (ap (comparison_at codes' ops') z ∙ last-at)

-- ---- the comparisons that a mask selects

module _ {A : Type 0} where
  pub all-select : {P : A → Type 0} {l : List A} (m : ℕ) → All P l → All P (select l m)
  all-select m nil = nil
  all-select {P} m (cons {x = x} {xs = xs} p h) = go (eqb (m % 2) 1) (all-select (m / 2) h)
    where
      go : (b : Bool) → All P (select xs (m / 2)) → All P (cons_if b x (select xs (m / 2)))
      go true r = cons p r
      go false r = r

module _ (g : M.Operand → Joint) where
  abbrev pub Sides : C.Comparison M.Operand → Type 0
  Sides x = Narrow (g x.left) × Narrow (g x.right)

  sides-narrow : {l : List (C.Comparison M.Operand)} → All Sides l → All Narrow (sides (map (renamed g) l))
  sides-narrow nil = nil
  sides-narrow (cons (p, q) h) = cons p (cons q (sides-narrow h))

  module _ (cs : List (C.Comparison M.Operand)) (codes₀ ops₀ : List ℕ) (n₀ mask : ℕ) where
    abbrev total : Coded
    total = clause_at codes₀ ops₀ n₀ ++ coded (map (renamed g) (select cs mask))

    -- i comparisons are looked at, and `left` is the mask of the others
    pub record Adding (codes ops : List ℕ) (at left i : ℕ) : Type 0 where
      pub codes_long : length codes ≡ 40
      pub ops_long : length ops ≡ 16
      pub few : at ≤ n₀ + i
      pub sum : clause_at codes ops at ++ coded (map (renamed g) (select (drop i cs) left)) ≡ total
      pub narrow : All Sides (take i cs)
      pub readable : All Readable codes₀ → All Readable codes
      pub marks_stay : drop 32 codes ≡ drop 32 codes₀

    pub add_start : length codes₀ ≡ 40 → length ops₀ ≡ 16 → Adding codes₀ ops₀ n₀ mask 0
    add_start h l = record { codes_long = h; ops_long = l; few = omega arith; sum = refl; narrow = nil; readable = λ r. r; marks_stay = refl }

    module _ (codes ops : List ℕ) (at left i : ℕ) (A : Adding codes ops at left i) (x : C.Comparison M.Operand) (h : i < length cs) (hx : get_or cs i x ≡ x) (n-few : n₀ ≤ 8) (i-few : i < 8)
        (a b o : ℕ) (ca : Coding (g x.left) a) (cb : Coding (g x.right) b) (eo : predicate_at o ≡ x.op) where
      next-is : drop i cs ≡ x ∷ drop (i + 1) cs
      next-is = drop-cons cs i x h ∙ ap₂ (λ (y : C.Comparison M.Operand) (k : ℕ). y ∷ drop k cs) hx (sym (add-one i))

      long : 2 * at + 1 < length codes
      long = omega (arith, A.few, A.codes_long)

      room : at < length ops
      room = omega (arith, A.few, A.ops_long)

      abbrev new : C.Comparison ℕ
      new = renamed code_of (renamed g x)

      new_is : ◌≡◌ {A = C.Comparison ℕ} (record { left = a; op = predicate_at o; right = b }) new
      new_is = λ j. record { left = ca.is j; op = eo j; right = cb.is j }

      abbrev rest : Coded
      rest = coded (map (renamed g) (select (drop (i + 1) cs) (left / 2)))

      grows : (t : Bool) (k : ℕ) → eqb k 1 ≡ t → k < 2
          → clause_at (codes' codes ops at a b o long room) (ops' codes ops at a b o long room) (at + k) ++ rest
          ≡ clause_at codes ops at ++ coded (map (renamed g) (cons_if t x (select (drop (i + 1) cs) (left / 2))))
      grows true k e l =
          let n : at + k ≡ suc at = omega (arith, eqb-true k 1 e) in
          ap (λ (m : ℕ). clause_at (codes' codes ops at a b o long room) (ops' codes ops at a b o long room) m ++ rest) n
          ∙ ap (λ (c : Coded). c ++ rest) (grown codes ops at a b o long room ∙ ap (λ (y : C.Comparison ℕ). clause_at codes ops at ++ (y ∷ [])) new_is)
          ∙ append_assoc (clause_at codes ops at) (new ∷ []) rest
      grows false k e l =
          let ne : k ≡ 1 → ⊥ = eqb-false k 1 e in
          let n : at + k ≡ at = omega arith in
          ap (λ (m : ℕ). clause_at (codes' codes ops at a b o long room) (ops' codes ops at a b o long room) m ++ rest) n
          ∙ ap (λ (c : Coded). c ++ rest) (kept codes ops at a b o long room)

      pub add-more : Adding (set (set codes (2 * at) a) (2 * at + 1) b) (set ops at o) (at + left % 2) (left / 2) (i + 1)
      add-more = record {
        codes_long = simp length-set A.codes_long;
        ops_long = simp length-set A.ops_long;
        few = omega (arith, A.few);
        sum = grows (eqb (left % 2) 1) (left % 2) refl (omega arith)
            ∙ sym (ap (λ (l : List (C.Comparison M.Operand)). clause_at codes ops at ++ coded (map (renamed g) (select l left))) next-is) ∙ A.sum;
        narrow = subst (All Sides) (sym (ap (λ (k : ℕ). take k cs) (add-one i) ∙ take-suc cs i x h ∙ ap (λ (y : C.Comparison M.Operand). take i cs ++ (y ∷ [])) hx))
            (All-append A.narrow (cons (ca.narrow, cb.narrow) nil));
        readable = λ r. All-set (2 * at + 1) b (coding-readable (g x.right) b cb) (All-set (2 * at) a (coding-readable (g x.left) a ca) (A.readable r));
        marks_stay = drop-set-lt 32 (set codes (2 * at) a) (2 * at + 1) b (omega (arith, A.few)) ∙ drop-set-lt 32 codes (2 * at) a (omega (arith, A.few)) ∙ A.marks_stay;
      }

    pub add_done : (codes ops : List ℕ) (at left i : ℕ) → length cs ≤ i → i ≤ 8 → Adding codes ops at left i
        → Extended codes₀ ops₀ n₀ (map (renamed g) (select cs mask)) (record { codes = codes; ops = ops; count = at })
    add_done codes ops at left i h l A =
        let none : drop i cs ≡ [] = drop_of_length-le cs h in
        record {
          clause_is = sym (append-nil (clause_at codes ops at))
              ∙ sym (ap (λ (y : List (C.Comparison M.Operand)). clause_at codes ops at ++ coded (map (renamed g) (select y left))) none) ∙ A.sum;
          narrow = sides-narrow (all-select mask (subst (All Sides) (take_all i cs h) A.narrow));
          few = omega (arith, A.few);
          readable = A.readable;
          marks_stay = A.marks_stay;
        }
