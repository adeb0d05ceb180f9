-- A stack of lists of masks in arrays: what the arrays hold, what a step makes of it, and that there is room for it. Assumes nothing.
use mathlib.Core.Path.{◌≡◌, refl, sym, ap, ap₂, subst, ◌∙◌}
use mathlib.Core.List.{List, [], ◌∷◌, ◌++◌, append_assoc}
use Prim.Native.Nat.{ℕ, suc, ◌+◌, ◌-◌, ◌*◌, ◌^◌, ◌≤◌, ◌<◌}
use native.Mathlib.Nat.{pow-succ', mul-le-mul}
use native.Mathlib.Numerals.{add-one}
use native.Mathlib.Omega.{arith}
use lib.Pow.{pow_mono}
use lib.ListN.{length-drop, length, take, drop, get_or, set, length-append, length-set, take-append-drop}
use lib.Seq.{take_at, drop_at, take-suc-set, take-take, get_or-take, get_or_at, length-take-le, append_snoc}
use Rattle.lists.specs.Lists.{All, nil, cons}
use Rattle.lists.proofs.Written.{length-written}
use Rattle.pattern.specs.declared.masks.Stack.{Stack}
use Rattle.pattern.specs.Private.Masks.{sums, pushed_of, either_of, both_of, right_of, left_of, mask_start, lefts, rights, Pushes, Joins}
use Rattle.pattern.proofs.Sums.{sums-length}
use Rattle.pattern.proofs.Selecting.{Within, all_either, all_both, sums_fit, most, most-18, most-both}

-- the masks of a stack, the top last; and the lengths of its lists
abbrev pub masks_in : List (List ℕ) → List ℕ
masks_in [] = []
masks_in (ms ∷ st) = masks_in st ++ ms

abbrev pub lengths_in : List (List ℕ) → List ℕ
lengths_in [] = []
lengths_in (ms ∷ st) = lengths_in st ++ (length ms ∷ [])

lengths-count : (st : List (List ℕ)) → length (lengths_in st) ≡ length st
lengths-count [] = refl
lengths-count (ms ∷ st) = omega (arith, length-append (lengths_in st) (length ms ∷ []), lengths-count st)

-- ---- the bits of its masks: each list has those of the comparisons from `base` on, up to where the next list begins; q comparisons in all

pub record Segment (q : ℕ) (ms : List ℕ) : Type 0 where
  pub base : ℕ
  pub size : ℕ
  pub ends : base + size ≡ q
  pub few : length ms ≤ most size
  pub bits : All (Within base size) ms

abbrev pub Stacked : ℕ → List (List ℕ) → Type 0
Stacked q [] = q ≡ 0
Stacked q (ms ∷ st) = (s : Segment q ms) × Stacked s.base st

pub stacked-few : (q : ℕ) (st : List (List ℕ)) → q ≤ 8 → Stacked q st → length (masks_in st) ≤ most q
stacked-few q [] h e = omega arith
stacked-few q (ms ∷ st) h (s, r) =
    let l : length (masks_in st) ≤ most s.base = stacked-few s.base st (omega (arith, s.ends)) r in
    let m : most s.base + most s.size ≤ most (s.base + s.size) = (most-both s.base s.size (omega (arith, s.ends))).0 in
    let k : most (s.base + s.size) ≡ most q = ap most s.ends in
    omega (arith, length-append (masks_in st) ms, s.few)

pub stacked-push : (q : ℕ) (st : List (List ℕ)) → Stacked q st → Stacked (q + 1) ((2 ^ q ∷ []) ∷ st)
stacked-push q st r =
    let one : 2 ^ q ≡ 2 ^ q * 1 = omega arith in
    (record { base = q; size = 1; ends = refl; few = omega arith; bits = cons (record { high = 1; is = one; small = omega arith }) nil }, r)

-- the two on top joined
module _ (q : ℕ) (rs ls : List ℕ) (st : List (List ℕ)) (h : q ≤ 8) (S : Stacked q (rs ∷ ls ∷ st)) where
  abbrev right : Segment q rs
  right = S.0

  abbrev left : Segment right.base ls
  left = S.1.0

  whole : left.base + (left.size + right.size) ≡ q
  whole = omega (arith, left.ends, right.ends)

  pub upper : All (Within (left.base + left.size) right.size) rs
  upper = subst (λ (p : ℕ). All (Within p right.size) rs) (sym left.ends) right.bits

  table : (most left.size + most right.size ≤ most (left.size + right.size)) × (most left.size * most right.size ≤ most (left.size + right.size))
  table = most-both left.size right.size (omega (arith, whole))

  pub stacked-either : Stacked q ((ls ++ rs) ∷ st)
  stacked-either = (
    record {
      base = left.base;
      size = left.size + right.size;
      ends = whole;
      few = omega (arith, length-append ls rs, left.few, right.few, table.0);
      bits = all_either left.base left.size right.size ls rs left.bits upper;
    },
    S.1.1,
  )

  pub stacked-both : Stacked q (sums ls rs ∷ st)
  stacked-both = (
    record {
      base = left.base;
      size = left.size + right.size;
      ends = whole;
      few = omega (arith, sums-length ls rs, mul-le-mul left.few right.few, table.1);
      bits = all_both left.base left.size right.size ls rs left.bits upper;
    },
    S.1.1,
  )

  pub stacked-fit : All (λ (a : ℕ). All (λ (b : ℕ). a + b < 256) rs) ls
  stacked-fit = sums_fit left.base left.size right.size ls rs (omega (arith, whole)) left.bits upper

-- ---- the arrays

pub record Holds (s : Stack) (q : ℕ) (st : List (List ℕ)) : Type 0 where
  pub masks_long : length s.masks ≡ 18
  pub lengths_long : length s.lengths ≡ 8
  pub masks_are : take s.total s.masks ≡ masks_in st
  pub total_is : s.total ≡ length (masks_in st)
  pub lengths_are : take s.depth s.lengths ≡ lengths_in st
  pub depth_is : s.depth ≡ length st
  pub bit_is : s.bit ≡ 2 ^ q

module _ (s : Stack) (q : ℕ) (st : List (List ℕ)) (H : Holds s q st) (S : Stacked q st) (h : q < 8) (d : s.depth < 8) where
  total-room : s.total < 18
  total-room =
      let k : q + 1 ≤ 8 = omega arith in
      omega (arith, H.total_is, length-append (masks_in st) (2 ^ q ∷ []), stacked-few (q + 1) ((2 ^ q ∷ []) ∷ st) k (stacked-push q st S), most-18 (q + 1) k)

  pub pushes : Pushes s
  pushes =
      let k : q ≤ 7 = omega arith in
      record { masks_room = total-room; depth_room = d; bit_fits = omega (arith, H.bit_is, pow_mono k) }

  pub push-holds : Holds (pushed_of s) (q + 1) ((2 ^ q ∷ []) ∷ st)
  push-holds =
      let t : s.total < length s.masks = omega (arith, total-room, H.masks_long) in
      let e : s.depth < length s.lengths = omega (arith, H.lengths_long) in
      record {
        masks_long = length-set s.masks s.total s.bit ∙ H.masks_long;
        lengths_long = length-set s.lengths s.depth 1 ∙ H.lengths_long;
        masks_are = ap (λ (n : ℕ). take n (set s.masks s.total s.bit)) (add-one s.total)
            ∙ take-suc-set s.masks s.total s.bit t
            ∙ ap₂ (λ (l : List ℕ) (m : ℕ). l ++ (m ∷ [])) H.masks_are H.bit_is;
        total_is = omega (arith, H.total_is, length-append (masks_in st) (2 ^ q ∷ []));
        lengths_are = ap (λ (n : ℕ). take n (set s.lengths s.depth 1)) (add-one s.depth)
            ∙ take-suc-set s.lengths s.depth 1 e
            ∙ ap (λ (l : List ℕ). l ++ (1 ∷ [])) H.lengths_are;
        depth_is = omega (arith, H.depth_is);
        bit_is = let p : 2 ^ suc q ≡ 2 * 2 ^ q = pow-succ' 2 q in let a : 2 ^ (q + 1) ≡ 2 ^ suc q = ap (λ (n : ℕ). 2 ^ n) (add-one q) in omega (arith, H.bit_is);
      }

module _ (s : Stack) (q : ℕ) (rs ls : List ℕ) (st : List (List ℕ)) (H : Holds s q (rs ∷ ls ∷ st)) (S : Stacked q (rs ∷ ls ∷ st)) (h : q ≤ 8) (d : s.depth ≤ 8) where
  -- the lengths
  deep : s.depth ≡ suc (suc (length (lengths_in st)))
  deep = omega (arith, H.depth_is, lengths-count st)

  right_is : right_of s ≡ length rs
  right_is =
      let n : length (lengths_in st ++ (length ls ∷ [])) ≡ s.depth - 1 = omega (arith, deep, length-append (lengths_in st) (length ls ∷ [])) in
      sym (get_or-take s.depth s.lengths (s.depth - 1) 0 (omega (arith, deep)))
      ∙ ap (λ (l : List ℕ). get_or l (s.depth - 1) 0) H.lengths_are
      ∙ get_or_at (lengths_in st ++ (length ls ∷ [])) (length rs) [] 0 (s.depth - 1) n

  left_is : left_of s ≡ length ls
  left_is =
      let n : length (lengths_in st) ≡ s.depth - 2 = omega (arith, deep) in
      sym (get_or-take s.depth s.lengths (s.depth - 2) 0 (omega (arith, deep)))
      ∙ ap (λ (l : List ℕ). get_or l (s.depth - 2) 0) (H.lengths_are ∙ append_snoc (lengths_in st) (length ls) (length rs ∷ []))
      ∙ get_or_at (lengths_in st) (length ls) (length rs ∷ []) 0 (s.depth - 2) n

  below-is : take (s.depth - 2) s.lengths ≡ lengths_in st
  below-is =
      let n : length (lengths_in st) ≡ s.depth - 2 = omega (arith, deep) in
      sym (take-take (s.depth - 2) s.depth s.lengths (omega arith))
      ∙ ap (take (s.depth - 2)) (H.lengths_are ∙ append_snoc (lengths_in st) (length ls) (length rs ∷ []))
      ∙ take_at (lengths_in st) (length ls ∷ length rs ∷ []) (s.depth - 2) n

  -- the lengths with the two on top joined
  joined-lengths : (n : ℕ) → take (s.depth - 1) (set s.lengths (s.depth - 2) n) ≡ lengths_in st ++ (n ∷ [])
  joined-lengths n =
      let k : s.depth - 1 ≡ suc (s.depth - 2) = omega (arith, deep) in
      ap (λ (j : ℕ). take j (set s.lengths (s.depth - 2) n)) k
      ∙ take-suc-set s.lengths (s.depth - 2) n (omega (arith, deep, H.lengths_long))
      ∙ ap (λ (l : List ℕ). l ++ (n ∷ [])) below-is

  -- the masks
  in_all : length (masks_in (rs ∷ ls ∷ st)) ≡ length (masks_in st) + length ls + length rs
  in_all = omega (arith, length-append (masks_in st ++ ls) rs, length-append (masks_in st) ls)

  start_is : mask_start s ≡ length (masks_in st)
  start_is = omega (arith, in_all, H.total_is, left_is, right_is)

  abbrev rest : List ℕ
  rest = drop s.total s.masks

  parts : s.masks ≡ masks_in st ++ (ls ++ (rs ++ rest))
  parts =
      sym (take-append-drop s.total s.masks)
      ∙ ap (λ (l : List ℕ). l ++ rest) H.masks_are
      ∙ append_assoc (masks_in st ++ ls) rs rest
      ∙ append_assoc (masks_in st) ls (rs ++ rest)

  pub lefts-are : lefts s ≡ ls
  lefts-are =
      ap₂ (λ (n : ℕ) (l : List ℕ). take n (drop (mask_start s) l)) left_is parts
      ∙ ap (take (length ls)) (drop_at (masks_in st) (ls ++ (rs ++ rest)) (mask_start s) (sym start_is))
      ∙ take_at ls (rs ++ rest) (length ls) refl

  pub rights-are : rights s ≡ rs
  rights-are =
      let n : length (masks_in st ++ ls) ≡ mask_start s + left_of s = omega (arith, start_is, left_is, length-append (masks_in st) ls) in
      ap₂ (λ (k : ℕ) (l : List ℕ). take k (drop (mask_start s + left_of s) l)) right_is (parts ∙ sym (append_assoc (masks_in st) ls (rs ++ rest)))
      ∙ ap (take (length rs)) (drop_at (masks_in st ++ ls) (rs ++ rest) (mask_start s + left_of s) n)
      ∙ take_at rs rest (length rs) refl

  below-masks : take (mask_start s) s.masks ≡ masks_in st
  below-masks = ap (take (mask_start s)) parts ∙ take_at (masks_in st) (ls ++ (rs ++ rest)) (mask_start s) (sym start_is)

  product_is : left_of s * right_of s ≡ length (sums ls rs)
  product_is = ap₂ ◌*◌ left_is right_is ∙ sym (sums-length ls rs)

  both-few : length (masks_in (sums ls rs ∷ st)) ≤ 18
  both-few = omega (arith, stacked-few q (sums ls rs ∷ st) h (stacked-both q rs ls st h S), most-18 q h)

  pub joins : Joins s
  joins = record {
    two = omega (arith, deep);
    few = d;
    inside = omega (arith, in_all, H.total_is, left_is, right_is);
    within = omega (arith, H.total_is, stacked-few q (rs ∷ ls ∷ st) h S, most-18 q h);
    sums_room = omega (arith, product_is, start_is, both-few, length-append (masks_in st) (sums ls rs));
    sums_fit = subst (λ (x : List ℕ). All (λ (a : ℕ). All (λ (b : ℕ). a + b < 256) (rights s)) x) (sym lefts-are)
        (subst (λ (y : List ℕ). All (λ (a : ℕ). All (λ (b : ℕ). a + b < 256) y) ls) (sym rights-are) (stacked-fit q rs ls st h S));
  }

  pub either-holds : Holds (either_of s) q ((ls ++ rs) ∷ st)
  either-holds = record {
    masks_long = H.masks_long;
    lengths_long = length-set s.lengths (s.depth - 2) (left_of s + right_of s) ∙ H.lengths_long;
    masks_are = H.masks_are ∙ append_assoc (masks_in st) ls rs;
    total_is = H.total_is ∙ ap length (append_assoc (masks_in st) ls rs);
    lengths_are = joined-lengths (left_of s + right_of s) ∙ ap (λ (n : ℕ). lengths_in st ++ (n ∷ [])) (ap₂ ◌+◌ left_is right_is ∙ sym (length-append ls rs));
    depth_is = omega (arith, H.depth_is);
    bit_is = H.bit_is;
  }

  pub both-holds : Holds (both_of s) q (sums ls rs ∷ st)
  both-holds =
      let xs : List ℕ = sums (lefts s) (rights s) in
      let same : xs ≡ sums ls rs = ap₂ sums lefts-are rights-are in
      let n : length xs ≡ left_of s * right_of s = ap length same ∙ sym product_is in
      let room : mask_start s + length xs ≤ length s.masks = omega (arith, joins.sums_room, H.masks_long) in
      let front : length (take (mask_start s) s.masks ++ xs) ≡ mask_start s + left_of s * right_of s =
      length-append (take (mask_start s) s.masks) xs ∙ ap₂ ◌+◌ (length-take-le (mask_start s) s.masks (omega arith)) n in
      record {
        masks_long = length-written s.masks (mask_start s) xs room ∙ H.masks_long;
        lengths_long = length-set s.lengths (s.depth - 2) (left_of s * right_of s) ∙ H.lengths_long;
        masks_are = take_at (take (mask_start s) s.masks ++ xs) (drop (mask_start s + length xs) s.masks) (mask_start s + left_of s * right_of s) front
            ∙ ap₂ ◌++◌ below-masks same;
        total_is = omega (arith, start_is, product_is, length-append (masks_in st) (sums ls rs));
        lengths_are = joined-lengths (left_of s * right_of s) ∙ ap (λ (n : ℕ). lengths_in st ++ (n ∷ [])) product_is;
        depth_is = omega (arith, H.depth_is);
        bit_is = H.bit_is;
      }

-- ---- a step, by its number

-- the stack with other masks
-- what AND asks for, as the code finds the two lists
module _ (s : Stack) (long : length s.masks ≡ 18) (J : Joins s) (l r start : ℕ) (el : l ≡ left_of s) (er : r ≡ right_of s) (es : start ≡ s.total - (l + r)) where
  lefts-there : take (start + l - start) (drop start s.masks) ≡ lefts s
  lefts-there =
      let n : start + l - start ≡ left_of s = omega arith in
      let k : start ≡ mask_start s = omega arith in
      ap₂ (λ (m at : ℕ). take m (drop at s.masks)) n k

  rights-there : take (start + l + r - (start + l)) (drop (start + l) s.masks) ≡ rights s
  rights-there =
      let n : start + l + r - (start + l) ≡ right_of s = omega arith in
      let k : start + l ≡ mask_start s + left_of s = omega arith in
      ap₂ (λ (m at : ℕ). take m (drop at s.masks)) n k

  abbrev Fitting : List ℕ → List ℕ → Type 0
  Fitting ls rs = (start + length ls * length rs ≤ 18) × (length s.masks ≡ 18) × All (λ (a : ℕ). All (λ (b : ℕ). a + b < 256) rs) ls

  pub products-fit : Fitting (take (start + l - start) (drop start s.masks)) (take (start + l + r - (start + l)) (drop (start + l) s.masks))
  products-fit =
      let nl : length (lefts s) ≡ left_of s = length-take-le (left_of s) (drop (mask_start s) s.masks) (simp length-drop (omega (arith, J.inside, J.within))) in
      let nr : length (rights s) ≡ right_of s = length-take-le (right_of s) (drop (mask_start s + left_of s) s.masks) (simp length-drop (omega (arith, J.inside, J.within))) in
      let k : start ≡ mask_start s = omega arith in
      subst (λ (x : List ℕ). Fitting x (take (start + l + r - (start + l)) (drop (start + l) s.masks))) (sym lefts-there)
      (subst (Fitting (lefts s)) (sym rights-there)
      (subst (λ (n : ℕ). n ≤ 18) (ap₂ ◌+◌ (sym k) (sym (ap₂ ◌*◌ nl nr))) J.sums_room, long, J.sums_fit))
