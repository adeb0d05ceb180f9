-- Comparisons and their truth: document 01, "Statement texts", "A comparison has two operands .."; rule 4's fixed table of opposites; request A.5, null and the
-- three values of ISO/IEC 9075. Assumes nothing: these are definitions.
use Rattle.std.specs.Prelude.{Bool, true, false, not, ◌||◌, cond, ℤ, pos, neg_ℤ}
use Rattle.std.specs.Int.Signed.{lt_z, le_z}
use Rattle.lists.specs.Tests.{eq_z}

-- = <> < <= > >=
pub data Operator : Type 0 where
  eq ne lt le gt ge : Operator
  deriving Discrete as Operator-discrete

-- whether two numbers stand so to each other
abbrev pub related : Operator → ℤ → ℤ → Bool
related eq a b = eq_z a b
related ne a b = not (eq_z a b)
related lt a b = lt_z a b
related le a b = le_z a b
related gt a b = lt_z b a
related ge a b = le_z b a

-- the operator that relates exactly the numbers that the other does not
abbrev pub complement : Operator → Operator
complement eq = ne
complement ne = eq
complement lt = ge
complement le = gt
complement gt = le
complement ge = lt

-- ---- A.5: "From now on -2147483648 is the null of ISO/IEC 9075."

abbrev pub null : ℤ
null = neg_ℤ (pos 2147483648)

abbrev pub is_null : ℤ → Bool
is_null z = eq_z z null

-- ---- "AND, OR and NOT follow that standard's three values": its truth values and its tables

pub data Truth : Type 0 where
  known : Bool → Truth
  unknown : Truth

abbrev pub not₃ : Truth → Truth
not₃ (known true) = known false
not₃ (known false) = known true
not₃ unknown = unknown

abbrev pub and₃ : Truth → Truth → Truth
and₃ (known true) t = t
and₃ (known false) t = known false
and₃ unknown (known true) = unknown
and₃ unknown (known false) = known false
and₃ unknown unknown = unknown

abbrev pub or₃ : Truth → Truth → Truth
or₃ (known true) t = known true
or₃ (known false) t = t
or₃ unknown (known true) = known true
or₃ unknown (known false) = unknown
or₃ unknown unknown = unknown

-- "WHERE takes only rows whose condition is true": not those for which it is unknown
abbrev pub is_true : Truth → Bool
is_true (known b) = b
is_true unknown = false

-- ---- comparisons: two numbers by one of the six operators; "`level IS NULL` and `level IS NOT NULL` .. count as comparisons"

pub data Predicate : Type 0 where
  by : Operator → Predicate
  is-null is-not-null : Predicate

-- "A comparison with it is unknown"; a null test looks at its left side (the right side is the same column: `Grammar.comparison`)
abbrev pub compared : Predicate → ℤ → ℤ → Truth
compared (by o) a b = cond (is_null a || is_null b) unknown (known (related o a b))
compared is-null a b = known (is_null a)
compared is-not-null a b = known (not (is_null a))

-- whether it is true
abbrev pub truth : Predicate → ℤ → ℤ → Bool
truth p a b = is_true (compared p a b)

-- rule 4's table of opposites; IS NULL and IS NOT NULL are "each the opposite of the other"
abbrev pub opposite : Predicate → Predicate
opposite (by o) = by (complement o)
opposite is-null = is-not-null
opposite is-not-null = is-null
