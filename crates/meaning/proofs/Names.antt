-- Names and their positions: a name that is there has a place inside the list, and what stands there is that name. Assumes nothing.
use mathlib.Core.Path.{◌≡◌, refl, sym}
use mathlib.Core.Bool.{Bool, true, false, not, ◌||◌, cond, false≢true}
use mathlib.Core.List.{List, [], ◌∷◌}
use Prim.Native.Nat.{suc, ◌<◌, zero-le, suc-le-suc}
use lib.Dec.{eqb, eqb→eq}
use lib.ListN.{length, get_or}
use Rattle.lists.specs.Lists.{All, any}
use Rattle.lists.specs.Tests.{eq_list→eq}
use Rattle.lists.proofs.Bools.{true→T, not-false}
use Rattle.lists.proofs.Lists.{All-map, any_false}
use Rattle.meaning.specs.Tokens.{Name}
use Rattle.meaning.specs.Names.{same_name, has, position}

-- names that the test takes for the same are equal
pub same-is : (m n : Name) → same_name m n ≡ true → m ≡ n
same-is m n h = eq_list→eq eqb eqb→eq m n (true→T (same_name m n) h)

-- a name that is there has a place inside the list
pub has-position : (ns : List Name) (n : Name) → has ns n ≡ true → position ns n < length ns
has-position [] n h = absurd (false≢true h)
has-position (m ∷ ns) n h = go (same_name n m) (has-position ns n) h
  where
    go : (b : Bool) → (has ns n ≡ true → position ns n < length ns) → (b || has ns n) ≡ true → cond b 0 (suc (position ns n)) < suc (length ns)
    go true ih h = suc-le-suc zero-le
    go false ih h = suc-le-suc (ih h)

-- and what stands there is that name
pub position-is : (ns : List Name) (n d : Name) → has ns n ≡ true → get_or ns (position ns n) d ≡ n
position-is [] n d h = absurd (false≢true h)
position-is (m ∷ ns) n d h = go (same_name n m) refl (position-is ns n d) h
  where
    go : (b : Bool) → same_name n m ≡ b → (has ns n ≡ true → get_or ns (position ns n) d ≡ n) → (b || has ns n) ≡ true
        → get_or (m ∷ ns) (cond b 0 (suc (position ns n))) d ≡ n
    go true e ih h = sym (same-is n m e)
    go false e ih h = ih h

-- names of which none is missing have their places inside the list
pub all_known : (ns cs : List Name) → any (λ (c : Name). not (has ns c)) cs ≡ false → All (λ c. position ns c < length ns) cs
all_known ns cs h = All-map (λ c e. has-position ns c (not-false (has ns c) e)) (any_false (λ (c : Name). not (has ns c)) cs h)
