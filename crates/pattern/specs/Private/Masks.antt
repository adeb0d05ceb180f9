-- The clauses of a stored condition as masks: bit j of a mask says that comparison j, in the text's order, is in the clause. What the code of module `masks` holds
-- and does; proofs/Running shows that these are the clauses of rule 4. Assumes nothing: these are definitions.
use Rattle.std.specs.Prelude.{Option, Some, None, ◌≡◌, Bool, true, false, List, [], ◌∷◌, ◌++◌, map, ℕ, zero, suc, ◌+◌, ◌-◌, ◌*◌, ◌/◌, ◌%◌, ◌≤◌, ◌<◌, eqb, length, take, drop, get_or, set, replicate}
use Rattle.lists.specs.Lists.{All, cons_if, written}
use Rattle.meaning.specs.Condition as C
use Rattle.meaning.specs.Statement as M
use Rattle.statement.specs.declared.Condition.{Condition}
use Rattle.statement.specs.Sound.{comparison_read, used_comparisons}
use Rattle.pattern.specs.Stored.{clauses_read, is_formed}
use Rattle.pattern.specs.declared.masks.Clauses.{Clauses}
use Rattle.pattern.specs.declared.masks.Stack.{Stack}

-- the members whose bits are set
abbrev pub select : {A : Type 0} → List A → ℕ → List A
select [] m = []
select (x ∷ xs) m = cons_if (eqb (m % 2) 1) x (select xs (m / 2))

-- each of the first and each of the second, the first outer
abbrev pub sums : List ℕ → List ℕ → List ℕ
sums [] bs = []
sums (a ∷ xs) bs = map (λ (b : ℕ). a + b) bs ++ sums xs bs

-- ---- steps alone: each join finds two values, and one value is left; k values are on the stack

abbrev pub balanced : ℕ → List ℕ → Bool
balanced zero [] = false
balanced (suc zero) [] = true
balanced (suc (suc k)) [] = false
balanced k (zero ∷ ss) = balanced (suc k) ss
balanced zero (suc j ∷ ss) = false
balanced (suc zero) (suc j ∷ ss) = false
balanced (suc (suc k)) (suc j ∷ ss) = balanced (suc k) ss

-- ---- the stack: `depth` lists of masks, one after another, and their lengths, the top last; `total` masks in all; the bit of the next comparison

abbrev pub no_stack : Stack
no_stack = record { masks = replicate 18 0; lengths = replicate 8 0; depth = 0; total = 0; bit = 1 }

-- the next comparison alone is pushed
abbrev pub pushed_of : Stack → Stack
pushed_of s = record {
  masks = set s.masks s.total s.bit;
  lengths = set s.lengths s.depth 1;
  depth = s.depth + 1;
  total = s.total + 1;
  bit = s.bit * 2;
}

-- the lengths of the two lists on top, the right one being the top, and where they start
abbrev pub right_of : Stack → ℕ
right_of s = get_or s.lengths (s.depth - 1) 0

abbrev pub left_of : Stack → ℕ
left_of s = get_or s.lengths (s.depth - 2) 0

abbrev pub mask_start : Stack → ℕ
mask_start s = s.total - (left_of s + right_of s)

abbrev pub lefts : Stack → List ℕ
lefts s = take (left_of s) (drop (mask_start s) s.masks)

abbrev pub rights : Stack → List ℕ
rights s = take (right_of s) (drop (mask_start s + left_of s) s.masks)

-- OR: the two lists are one; AND: each of the left with each of the right
abbrev pub either_of : Stack → Stack
either_of s = record {
  masks = s.masks;
  lengths = set s.lengths (s.depth - 2) (left_of s + right_of s);
  depth = s.depth - 1;
  total = s.total;
  bit = s.bit;
}

abbrev pub both_of : Stack → Stack
both_of s = record {
  masks = written s.masks (mask_start s) (sums (lefts s) (rights s));
  lengths = set s.lengths (s.depth - 2) (left_of s * right_of s);
  depth = s.depth - 1;
  total = mask_start s + left_of s * right_of s;
  bit = s.bit;
}

abbrev pub stepped_of : ℕ → Stack → Stack
stepped_of zero s = pushed_of s
stepped_of (suc zero) s = both_of s
stepped_of (suc (suc k)) s = either_of s

-- what each needs of the stack
pub record Pushes (s : Stack) : Type 0 where
  pub masks_room : s.total < 18
  pub depth_room : s.depth < 8
  pub bit_fits : s.bit < 256

pub record Joins (s : Stack) : Type 0 where
  pub two : 2 ≤ s.depth
  pub few : s.depth ≤ 8
  pub inside : left_of s + right_of s ≤ s.total
  pub within : s.total ≤ 18
  pub sums_room : mask_start s + left_of s * right_of s ≤ 18
  pub sums_fit : All (λ (a : ℕ). All (λ (b : ℕ). a + b < 256) (rights s)) (lefts s)

abbrev pub Steps : ℕ → Stack → Type 0
Steps zero s = Pushes s
Steps (suc k) s = Joins s

-- ---- the clauses

abbrev pub comparisons_read : Condition → List (C.Comparison M.Operand)
comparisons_read c = map comparison_read (used_comparisons c)

-- the first `count` masks are the clauses of c, at most 18
pub record Masked (c : Condition) (r : Clauses) : Type 0 where
  pub few : r.count ≤ 18
  pub long : length r.masks ≡ 18
  pub counted : length (clauses_read c) ≡ r.count
  pub clauses_are : clauses_read c ≡ map (select (comparisons_read c)) (take r.count r.masks)

-- there are none, where no text compiles to the condition
abbrev pub MasksOf : Condition → Option Clauses → Type 0
MasksOf c None = is_formed c ≡ false
MasksOf c (Some r) = (is_formed c ≡ true) × Masked c r
