-- Laws of Boolean tests. Assumes nothing.
use mathlib.Core.Path.{◌≡◌, refl, sym, ap, ◌∙◌}
use mathlib.Core.Bool.{Bool, true, false, not, ◌&&◌, ◌||◌, true≢false, false≢true}
use Prim.Native.Nat.{ℕ, zero, suc}
use lib.Dec.{T, leb, leb-zero, leb-suc-zero, leb-suc-suc}
use lib.IntN.{ℤ, pos, negsuc}
use lib.Signed.{lt_z, le_z}
use Rattle.lists.specs.Tests.{is_yes, eq_z, eq_z→eq, eq_z-refl}

pub not-not : (b : Bool) → not (not b) ≡ b
not-not true = refl
not-not false = refl

pub and-or : (a b c : Bool) → ((a && b) || (a && c)) ≡ (a && (b || c))
and-or true b c = refl
and-or false b c = refl

pub or_self : (b : Bool) → (b || b) ≡ b
or_self true = refl
or_self false = refl

pub or-and : (a b c : Bool) → ((a && c) || (b && c)) ≡ ((a || b) && c)
or-and true true c = or_self c
or-and true false true = refl
or-and true false false = refl
or-and false b c = refl

pub and_assoc : (a b c : Bool) → (a && (b && c)) ≡ ((a && b) && c)
and_assoc true b c = refl
and_assoc false b c = refl

pub or_assoc : (a b c : Bool) → (a || (b || c)) ≡ ((a || b) || c)
or_assoc true b c = refl
or_assoc false b c = refl

pub not-and : (a b : Bool) → (not a || not b) ≡ not (a && b)
not-and true b = refl
not-and false b = refl

pub not-or : (a b : Bool) → (not a && not b) ≡ not (a || b)
not-or true b = refl
not-or false b = refl

pub and_left : (a b : Bool) → (a && b) ≡ true → a ≡ true
and_left true b h = refl
and_left false b h = h

pub and_right : (a b : Bool) → (a && b) ≡ true → b ≡ true
and_right true b h = h
and_right false b h = absurd (false≢true h)

pub and_both : (a b : Bool) → a ≡ true → b ≡ true → (a && b) ≡ true
and_both a b h k = ap (λ (x : Bool). x && b) h ∙ k

pub or_left : (a b : Bool) → (a || b) ≡ false → a ≡ false
or_left true b h = h
or_left false b h = refl

pub or_right : (a b : Bool) → (a || b) ≡ false → b ≡ false
or_right true b h = absurd (true≢false h)
or_right false b h = h

pub not-false : (b : Bool) → not b ≡ false → b ≡ true
not-false true h = refl
not-false false h = absurd (true≢false h)

pub not-true : (b : Bool) → not b ≡ true → b ≡ false
not-true true h = absurd (false≢true h)
not-true false h = refl

-- a test that implies one that fails
pub contra : (a b : Bool) → (a ≡ true → b ≡ true) → b ≡ false → a ≡ false
contra true b f h = absurd (true≢false (sym (f refl) ∙ h))
contra false b f h = refl

-- two tests that imply each other
pub iff : (a b : Bool) → (a ≡ true → b ≡ true) → (b ≡ true → a ≡ true) → a ≡ b
iff true b f g = sym (f refl)
iff false true f g = g refl
iff false false f g = refl

-- a test that is both true and false
pub clash : {X : Type 0} {b : Bool} → b ≡ true → b ≡ false → X
clash h k = absurd (true≢false (sym h ∙ k))

pub T→true : (b : Bool) → T b → b ≡ true
T→true true t = refl
T→true false t = absurd t

pub true→T : (b : Bool) → b ≡ true → T b
true→T true h = tt
true→T false h = false≢true h

-- a decided statement, by what the test says
pub yes_of : {P : Type 0} (d : Dec P) → is_yes d ≡ true → P
yes_of (yes p) h = p
yes_of (no n) h = absurd (false≢true h)

pub is-yes : {P : Type 0} (d : Dec P) → P → is_yes d ≡ true
is-yes (yes p) q = refl
is-yes (no n) q = absurd (n q)

pub is-no : {P : Type 0} (d : Dec P) → ¬ P → is_yes d ≡ false
is-no (yes p) n = absurd (n p)
is-no (no q) n = refl

pub no_of : {P : Type 0} (d : Dec P) → is_yes d ≡ false → ¬ P
no_of (yes p) h = absurd (true≢false h)
no_of (no n) h = n

-- ---- tests of numbers

pub eq_z-same : (a : ℤ) → eq_z a a ≡ true
eq_z-same a = T→true (eq_z a a) (eq_z-refl a)

pub eq_z-true : (a b : ℤ) → eq_z a b ≡ true → a ≡ b
eq_z-true a b h = eq_z→eq a b (true→T (eq_z a b) h)

pub leb-not : (a b : ℕ) → leb a b ≡ not (leb (suc b) a)
leb-not zero b = leb-zero b ∙ ap not (sym (leb-suc-zero b))
leb-not (suc a) zero = leb-suc-zero a ∙ ap not (sym (leb-suc-suc zero a ∙ leb-zero a))
leb-not (suc a) (suc b) = leb-suc-suc a b ∙ leb-not a b ∙ ap not (sym (leb-suc-suc (suc b) a))

pub le_z-not : (a b : ℤ) → le_z a b ≡ not (lt_z b a)
le_z-not (pos a) (pos b) = leb-not a b
le_z-not (pos a) (negsuc b) = refl
le_z-not (negsuc a) (pos b) = refl
le_z-not (negsuc a) (negsuc b) = leb-not b a
