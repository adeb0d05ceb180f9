-- The test whether two keys are the same is an equality: it answers by what is read of them. Assumes nothing.
use Rattle.std.specs.Prelude.{◌≡◌, Bool, true, false}
use Rattle.std.proofs.Common.{refl, sym, ap, ◌∙◌}
use Rattle.std.specs.Cmp.{IsPartialEquivalence}
use Rattle.lists.proofs.Bools.{T→true, true→T, clash}
use Rattle.meaning.specs.Key as M
use Rattle.slots.specs.declared.Key.{Key}
use Rattle.slots.specs.Keys.{key_read, same_key}

pub same_read : (a b : Key) → same_key a b ≡ true → key_read a ≡ key_read b
unfolding same_key
same_read a b h = M.is_key→eq (key_read a) (key_read b) (true→T (M.is_key (key_read a) (key_read b)) h)

pub read_same : (a b : Key) → key_read a ≡ key_read b → same_key a b ≡ true
unfolding same_key
read_same a b e = ap (M.is_key (key_read a)) (sym e) ∙ T→true (M.is_key (key_read a) (key_read a)) (M.is_key-refl (key_read a))

-- the same both ways
turned : (a b : Key) → same_key a b ≡ true → same_key b a ≡ true
turned a b h = read_same b a (sym (same_read a b h))

same_turned : (a b : Key) → same_key a b ≡ same_key b a
same_turned a b = go (same_key a b) (same_key b a) refl refl
  where
    go : (s t : Bool) → same_key a b ≡ s → same_key b a ≡ t → s ≡ t
    go true t e q = sym (turned a b e) ∙ q
    go false true e q = clash (turned b a q) e
    go false false e q = refl

pub same_laws : IsPartialEquivalence same_key
same_laws = record {
  symm = same_turned;
  trans = λ a b c p q. read_same a c (same_read a b p ∙ same_read b c q);
}
