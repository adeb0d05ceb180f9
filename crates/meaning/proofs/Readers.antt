-- Laws of the readers' combinators of specs/Grammar: what each does at a token, what it read where it succeeds, and soundness put together from that
-- of its parts. Assumes nothing.
use mathlib.Core.Path.{◌≡◌, refl, sym, ap, subst, ◌∙◌}
use mathlib.Core.Logic.{◌≢◌}
use mathlib.Core.Bool.{Bool, true, false}
use mathlib.Core.Option.{Option, none, some}
use mathlib.Core.List.{List, [], ◌∷◌}
use Prim.Native.Nat.{ℕ}
use native.Mathlib.Omega.{arith}
use Rattle.lists.specs.Tests.{dec_bytes, dec_z}
use Rattle.lists.proofs.Bools.{yes_of, is-yes, is-no}
use Rattle.meaning.specs.Operator.{Operator-discrete}
use Rattle.meaning.specs.Tokens.{Token, Token-discrete, Keyword-discrete, same_token}
use Rattle.meaning.specs.Reader.{Reader, then, ◌>>=◌, ◌>>◌, done, fails, passing, either_of, a_token, expect}

-- ---- equality of tokens

pub same_self : (t : Token) → same_token t t ≡ true
same_self t = is-yes (Token-discrete Keyword-discrete dec_bytes dec_z Operator-discrete t t) refl

pub same-is : (u t : Token) → same_token u t ≡ true → u ≡ t
same-is u t e = yes_of (Token-discrete Keyword-discrete dec_bytes dec_z Operator-discrete u t) e

pub same_not : (u t : Token) → u ≢ t → same_token u t ≡ false
same_not u t n = is-no (Token-discrete Keyword-discrete dec_bytes dec_z Operator-discrete u t) n

-- ---- something is not nothing, and is itself alone

pub some-none : {A X : Type 0} {x : A} → some x ≡ none → X
some-none e = absurd (let z : ◌≡◌ {A = ℕ} 0 1 = cc in omega arith)

pub some_same : {A : Type 0} {x y : A} → some x ≡ some y → x ≡ y
some_same e = cc

-- ---- at a token

-- some tokens begin with t
abbrev pub begins : Token → List Token → Bool
begins t [] = false
begins t (u ∷ us) = same_token u t

module _ {A : Type 0} where
  module _ (t : Token) (on off : Reader A) where
    pub passing-yes : (ts : List Token) → passing t on off (t ∷ ts) ≡ on ts
    passing-yes ts = rw (same_self t, passing)

    pub passing-other : (u : Token) (ts : List Token) → same_token u t ≡ false → passing t on off (u ∷ ts) ≡ off (u ∷ ts)
    passing-other u ts e = rw (e, passing)

    pub passing-stops : (ts : List Token) → begins t ts ≡ false → passing t on off ts ≡ off ts
    passing-stops [] e = refl
    passing-stops (u ∷ us) e = passing-other u us e

  module _ (f : Token → Option A) where
    pub a_token-some : (t : Token) (ts : List Token) (x : A) → f t ≡ some x → a_token f (t ∷ ts) ≡ some (x, ts)
    a_token-some t ts x e = rw (e, a_token)

    pub a_token-none : (t : Token) (ts : List Token) → f t ≡ none → a_token f (t ∷ ts) ≡ none
    a_token-none t ts e = rw (e, a_token)

    -- the token that was read
    pub a_token-read : (ts : List Token) (x : A) (more : List Token) → a_token f ts ≡ some (x, more) → (t : Token) × (ts ≡ t ∷ more) × (f t ≡ some x)
    a_token-read [] x more e = some-none (sym e)
    a_token-read (t ∷ ts) x more e = go (f t) refl
      where
        go : (o : Option A) → f t ≡ o → (u : Token) × (t ∷ ts ≡ u ∷ more) × (f u ≡ some x)
        go none q = some-none (sym e ∙ a_token-none t ts q)
        go (some y) q =
            let p : ◌≡◌ {A = A × List Token} (y, ts) (x, more) = some_same (sym (a_token-some t ts y q) ∙ e) in
            (t, ap (λ r. t ∷ r.1) p, q ∙ ap (λ r. some r.0) p)

  module _ (r q : Reader A) (ts : List Token) where
    pub either_first : (x : A × List Token) → r ts ≡ some x → either_of r q ts ≡ some x
    either_first x e = rw (e, either_of)

    pub either_second : r ts ≡ none → either_of r q ts ≡ q ts
    either_second e = rw (e, either_of)

pub expect-here : (t : Token) (ts : List Token) → expect t (t ∷ ts) ≡ some (tt, ts)
expect-here t ts = passing-yes t (done tt) fails ts

-- ---- one reader after another

module _ {A B : Type 0} (k : A → Reader B) where
  pub then_some : {o : Option (A × List Token)} {x : A} {more : List Token} → o ≡ some (x, more) → then o k ≡ k x more
  then_some e = ap (λ o. then o k) e

  pub then-none : {o : Option (A × List Token)} → o ≡ none → then o k ≡ none
  then-none e = ap (λ o. then o k) e

-- ---- soundness: what is read from some tokens is spelled by them

abbrev pub Spelled : {A : Type 0} → (A → List Token → List Token) → Option (A × List Token) → List Token → Type 0
Spelled sp none ts = Unit {0}
Spelled sp (some x) ts = ts ≡ sp x.0 x.1

-- what r reads, with the tokens of `before` in front of it, is spelled so
pub record Sound {A : Type 0} (before : List Token → List Token) (sp : A → List Token → List Token) (r : Reader A) : Type 0 where
  pub finds : (ts : List Token) → Spelled sp (r ts) (before ts)

module _ {A : Type 0} {before : List Token → List Token} {sp : A → List Token → List Token} where
  pub sound-read : {r : Reader A} → Sound before sp r → (ts : List Token) (x : A) (more : List Token) → r ts ≡ some (x, more) → before ts ≡ sp x more
  sound-read s ts x more e = subst (λ o. Spelled sp o (before ts)) e (s.finds ts)

  pub fails-sound : Sound before sp fails
  fails-sound = record { finds = λ ts. tt }

  pub done-sound : (x : A) → ((ts : List Token) → before ts ≡ sp x ts) → Sound before sp (done x)
  done-sound x e = record { finds = e }

  pub passing-sound : {t : Token} {on off : Reader A} → Sound (λ ts. before (t ∷ ts)) sp on → Sound before sp off → Sound before sp (passing t on off)
  passing-sound {t} {on} {off} s q = record { finds = here }
    where
      at : (u : Token) (ts : List Token) (b : Bool) → same_token u t ≡ b → Spelled sp (passing t on off (u ∷ ts)) (before (u ∷ ts))
      at u ts true e =
          subst (λ v. Spelled sp (passing t on off (v ∷ ts)) (before (v ∷ ts))) (sym (same-is u t e))
          (subst (λ o. Spelled sp o (before (t ∷ ts))) (sym (passing-yes t on off ts)) (s.finds ts))
      at u ts false e = subst (λ o. Spelled sp o (before (u ∷ ts))) (sym (passing-other t on off u ts e)) (q.finds (u ∷ ts))

      here : (ts : List Token) → Spelled sp (passing t on off ts) (before ts)
      here [] = q.finds []
      here (u ∷ ts) = at u ts (same_token u t) refl

  pub either-sound : {r q : Reader A} → Sound before sp r → Sound before sp q → Sound before sp (either_of r q)
  either-sound {r} {q} s z = record { finds = λ ts. at ts (r ts) refl }
    where
      at : (ts : List Token) (o : Option (A × List Token)) → r ts ≡ o → Spelled sp (either_of r q ts) (before ts)
      at ts none e = subst (λ x. Spelled sp x (before ts)) (sym (either_second r q ts e)) (z.finds ts)
      at ts (some x) e = subst (λ x. Spelled sp x (before ts)) (sym (either_first r q ts x e)) (subst (λ x. Spelled sp x (before ts)) e (s.finds ts))

  pub tested-sound : (f : List Token → Bool) {r q : Reader A} → Sound before sp r → Sound before sp q → Sound before sp (λ ts. elim (f ts) [ true ↦ r ts | false ↦ q ts ])
  tested-sound f {r} {q} s z = record { finds = λ ts. at ts (f ts) }
    where
      at : (ts : List Token) (b : Bool) → Spelled sp (elim b [ true ↦ r ts | false ↦ q ts ]) (before ts)
      at ts true = s.finds ts
      at ts false = z.finds ts

  pub bind-sound : {C : Type 0} {sc : C → List Token → List Token} {r : Reader C} {k : C → Reader A} → Sound (λ ts. ts) sc r
      → ((c : C) → Sound (λ ts. before (sc c ts)) sp (k c)) → Sound before sp (r >>= k)
  bind-sound {C} {sc} {r} {k} s q = record { finds = λ ts. at ts (r ts) (s.finds ts) }
    where
      at : (ts : List Token) (o : Option (C × List Token)) → Spelled sc o ts → Spelled sp (then o k) (before ts)
      at ts none h = tt
      at ts (some x) h = subst (λ us. Spelled sp (k x.0 x.1) (before us)) (sym h) ((q x.0).finds x.1)

-- what r reads, made into something else that is spelled the same
pub made-sound : {A B : Type 0} {before : List Token → List Token} {sp : A → List Token → List Token} {sq : B → List Token → List Token} {r : Reader A} (f : A → B)
    → ((x : A) (ts : List Token) → sp x ts ≡ sq (f x) ts) → Sound before sp r → Sound before sq (r >>= λ x. done (f x))
made-sound {A} {B} {before} {sp} {sq} {r} f e s = record { finds = λ ts. at ts (r ts) (s.finds ts) }
  where
    at : (ts : List Token) (o : Option (A × List Token)) → Spelled sp o (before ts) → Spelled sq (then o (λ x. done (f x))) (before ts)
    at ts none h = tt
    at ts (some x) h = h ∙ e x.0 x.1

-- one token, which f takes only where it spells what f makes of it
pub a_token-sound : {A : Type 0} (f : Token → Option A) (g : A → Token) → ((t : Token) (x : A) → f t ≡ some x → t ≡ g x) → Sound (λ ts. ts) (λ x ts. g x ∷ ts) (a_token f)
a_token-sound f g h = record { finds = λ ts. at ts (a_token f ts) refl }
  where
    at : (ts : List Token) (o : Option (_ × List Token)) → a_token f ts ≡ o → Spelled (λ x ts. g x ∷ ts) o ts
    at ts none e = tt
    at ts (some x) e =
        let z = a_token-read f ts x.0 x.1 e in
        z.1 ∙ ap (λ u. u ∷ x.1) (h z.0 x.0 z.2)

-- the token t, then what r reads
pub expect-sound : {A : Type 0} {before : List Token → List Token} {sp : A → List Token → List Token} {t : Token} {r : Reader A}
    → Sound (λ ts. before (t ∷ ts)) sp r → Sound before sp (expect t >> r)
expect-sound {t = t} s =
    let here : Sound (λ ts. ts) (λ u ts. t ∷ ts) (expect t) = passing-sound (done-sound tt (λ ts. refl)) fails-sound in
    bind-sound here (λ u. s)
