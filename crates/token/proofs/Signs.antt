-- The sign at a byte that starts no word: the longest that fits. Assumes nothing.
use mathlib.Core.Path.{◌≡◌, refl, ap, ◌∙◌}
use mathlib.Core.Bool.{Bool, true, false, cond, ◌&&◌}
use mathlib.Core.Option.{Option, none, some}
use mathlib.Core.List.{List, [], ◌∷◌}
use Prim.Native.Nat.{ℕ, ◌+◌}
use Prim.Native.String.{String}
use native.Mathlib.Omega.{arith}
use lib.Dec.{eqb}
use lib.ListN.{length, get_or, drop}
use Rattle.lists.specs.Lists.{bytes}
use Rattle.meaning.specs.Operator.{eq, ne, lt, le, gt, ge}
use Rattle.meaning.specs.Tokens as M
use Rattle.meaning.specs.Tokens.{operator, mark, comma, lparen, rparen, dot, signs, behind_prefix, sign_in}
use Rattle.meaning.proofs.Stream.{sign-here, sign-later}
use Rattle.token.specs.declared.Kind.{Kind}
use Rattle.token.specs.Tokens.{kind_of}
use Rattle.token.specs.Private.Parts.{sign_of}

-- the kind and the length of what was read of a text of so many bytes
pub record Read (k : Kind × ℕ) (size : ℕ) (x : M.Token × List ℕ) : Type 0 where
  pub kind : kind_of x.0 ≡ k.0
  pub left : length x.1 + k.1 ≡ size

either : (y : Bool) (k l : Kind × ℕ) (size : ℕ) (x z : M.Token × List ℕ) → Read k size x → Read l size z → Read (cond y k l) size (cond y x z)
either true k l size x z r q = r
either false k l size x z r q = q

module _ (x : String) (t : M.Token) (xs : List (String × M.Token)) (b : ℕ) where
  -- by what follows the sign in the text, if the text begins with it
  tried : (u w : List ℕ) (o : Option (List ℕ)) → bytes x ≡ w → behind_prefix w (b ∷ u) ≡ o → behind_prefix (bytes x) (b ∷ u) ≡ o
  tried u w o e q = ap (λ v. behind_prefix v (b ∷ u)) e ∙ q

  one : (c : ℕ) (u : List ℕ) → bytes x ≡ c ∷ [] → sign_in ((x, t) ∷ xs) b u ≡ cond (eqb c b) (t, u) (sign_in xs b u)
  one c u e = go (eqb c b) refl
    where
      go : (y : Bool) → eqb c b ≡ y → sign_in ((x, t) ∷ xs) b u ≡ cond y (t, u) (sign_in xs b u)
      go true q = sign-here (x, t) xs b u u (tried u (c ∷ []) (some u) e (rw q))
      go false q = sign-later (x, t) xs b u (tried u (c ∷ []) none e (rw q))

  two : (c d n : ℕ) (u : List ℕ) → bytes x ≡ c ∷ d ∷ [] → sign_in ((x, t) ∷ xs) b (n ∷ u) ≡ cond (eqb d n && eqb c b) (t, u) (sign_in xs b (n ∷ u))
  two c d n u e = go (eqb c b) (eqb d n) refl refl
    where
      go : (y z : Bool) → eqb c b ≡ y → eqb d n ≡ z → sign_in ((x, t) ∷ xs) b (n ∷ u) ≡ cond (z && y) (t, u) (sign_in xs b (n ∷ u))
      go true true q r = sign-here (x, t) xs b (n ∷ u) u (tried (n ∷ u) (c ∷ d ∷ []) (some u) e (rw (q, r)))
      go true false q r = sign-later (x, t) xs b (n ∷ u) (tried (n ∷ u) (c ∷ d ∷ []) none e (rw (q, r)))
      go false true q r = sign-later (x, t) xs b (n ∷ u) (tried (n ∷ u) (c ∷ d ∷ []) none e (rw q))
      go false false q r = sign-later (x, t) xs b (n ∷ u) (tried (n ∷ u) (c ∷ d ∷ []) none e (rw q))

  two-last : (c d : ℕ) → bytes x ≡ c ∷ d ∷ [] → sign_in ((x, t) ∷ xs) b [] ≡ sign_in xs b []
  two-last c d e = sign-later (x, t) xs b [] (tried [] (c ∷ d ∷ []) none e (go (eqb c b)))
    where
      go : (y : Bool) → cond y (behind_prefix (d ∷ []) []) none ≡ none
      go true = refl
      go false = refl

  -- one sign in front of others
  one_read : (l : Kind × ℕ) (c : ℕ) (u : List ℕ) → bytes x ≡ c ∷ [] → Read l (length u + 1) (sign_in xs b u)
      → Read (cond (eqb c b) (kind_of t, 1) l) (length u + 1) (sign_in ((x, t) ∷ xs) b u)
  one_read l c u e h = rw (one c u e) (either (eqb c b) (kind_of t, 1) l (length u + 1) (t, u) (sign_in xs b u) (record { kind = refl; left = refl }) h)

  two_read : (l : Kind × ℕ) (c d n : ℕ) (u : List ℕ) → bytes x ≡ c ∷ d ∷ [] → Read l (length u + 2) (sign_in xs b (n ∷ u))
      → Read (cond (eqb d n && eqb c b) (kind_of t, 2) l) (length u + 2) (sign_in ((x, t) ∷ xs) b (n ∷ u))
  two_read l c d n u e h =
      rw (two c d n u e) (either (eqb d n && eqb c b) (kind_of t, 2) l (length u + 2) (t, u) (sign_in xs b (n ∷ u)) (record { kind = refl; left = refl }) h)

-- the signs of one byte
ones : (b : ℕ) (u : List ℕ) → Read (sign_of b 0) (length u + 1) (sign_in (drop 3 signs) b u)
ones b u =
    one_read "=" (operator eq) (drop 4 signs) b _ 61 u refl
    (one_read "<" (operator lt) (drop 5 signs) b _ 60 u refl
    (one_read ">" (operator gt) (drop 6 signs) b _ 62 u refl
    (one_read "?" mark (drop 7 signs) b _ 63 u refl
    (one_read "," comma (drop 8 signs) b _ 44 u refl
    (one_read "(" lparen (drop 9 signs) b _ 40 u refl
    (one_read ")" rparen (drop 10 signs) b _ 41 u refl
    (one_read "." dot [] b _ 46 u refl
    (record { kind = refl; left = refl }))))))))

sign-last : (b : ℕ) → Read (sign_of b 0) 1 (sign_in signs b [])
sign-last b = rw (two-last "<>" (operator ne) (drop 1 signs) b 60 62 refl ∙ two-last "<=" (operator le) (drop 2 signs) b 60 61 refl ∙ two-last ">=" (operator ge) (drop 3 signs) b 62 61 refl) (ones b [])

sign-more : (b n : ℕ) (u : List ℕ) → Read (sign_of b n) (length u + 2) (sign_in signs b (n ∷ u))
sign-more b n u =
    two_read "<>" (operator ne) (drop 1 signs) b _ 60 62 n u refl
    (two_read "<=" (operator le) (drop 2 signs) b _ 60 61 n u refl
    (two_read ">=" (operator ge) (drop 3 signs) b _ 62 61 n u refl
    (let r = ones b (n ∷ u) in record { kind = r.kind; left = omega (arith, r.left) })))

-- the sign at the front
pub sign-at : (b : ℕ) (w : List ℕ) → Read (sign_of b (get_or w 0 0)) (length w + 1) (sign_in signs b w)
sign-at b [] = sign-last b
sign-at b (n ∷ u) = let r = sign-more b n u in record { kind = r.kind; left = omega (arith, r.left) }
