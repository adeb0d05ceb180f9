-- Fingerprints: numbers of 32 bits by which keys that differ are mostly told apart. Assumes nothing: these are definitions.
use Rattle.std.specs.Prelude.{List, [], ◌∷◌, ℕ, suc, ◌+◌, ◌-◌, ◌*◌, ◌%◌, ◌^◌, ℤ, pos, negsuc, length}
use Rattle.meaning.specs.Key as M
use Rattle.slots.specs.declared.Key.{Key}
use Rattle.slots.specs.Keys.{key_read, slot_key}

-- a signed number of 32 bits, counted from the lowest
abbrev pub raised : ℤ → ℕ
raised (pos n) = n + 2 ^ 31
raised (negsuc n) = 2 ^ 31 - suc n

-- one more value, by multiplicative hashing: the factor is 2 to the 32 divided by the golden ratio
abbrev pub mixed : ℕ → ℤ → ℕ
mixed h z = (h * 2654435761 + raised z) % 4294967296

abbrev pub mixed_all : ℕ → List ℤ → ℕ
mixed_all h [] = h
mixed_all h (z ∷ zs) = mixed_all (mixed h z) zs

-- of the number, how many values there are, and the values
unfoldable pub fingerprint : M.Key → ℕ
fingerprint k = mixed_all (k.query * 16 + length k.values) k.values

abbrev pub slot_print : List Key → ℕ → ℕ
slot_print keys x = fingerprint (key_read (slot_key keys x))
