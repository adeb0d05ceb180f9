-- What a token's kind says of it, by cases on the kind: a name, a constant, a question mark, one of the six operators. Assumes nothing.
use mathlib.Core.Path.{◌≡◌, refl, sym}
use mathlib.Core.Bool.{true, false}
use mathlib.Core.Option.{some}
use lib.IntN.{ℤ}
use Rattle.meaning.specs.Operator.{eq, ne, lt, le, gt, ge}
use Rattle.meaning.specs.Tokens as T
use Rattle.meaning.specs.Tokens.{name, constant, operator, mark}
use Rattle.meaning.specs.Limits.{is_within32}
use Rattle.token.specs.declared.Kind.{Kind}
use Rattle.token.specs.declared.Kind.TheVariants.{Name, Constant, Big, Mark, Comma, Open, Close, From, Into, Values, Set, Eq, Ne, Lt, Le, Gt, Ge}
use Rattle.token.specs.contracts.KindPartialEq.TheImpl.{ghosts}
use Rattle.token.specs.Tokens.{kind_of}
use Rattle.lists.proofs.Bools.{clash}
use Rattle.meaning.proofs.Readers.{some-none}
use Rattle.statement.specs.Private.Sentences.{asked}
use Rattle.token.proofs.TokenKinds.{is_fixed, kind-name, kind-within, kind-big, kind-fixed}

abbrev pub Told : T.Token → Kind → Type 0
Told t Name = (n : T.Name) × (t ≡ name n)
Told t (Constant z) = (t ≡ constant z) × (is_within32 z ≡ true)
Told t Big = (z : ℤ) × (t ≡ constant z) × (is_within32 z ≡ false)
Told t Mark = t ≡ mark
Told t Eq = t ≡ operator eq
Told t Ne = t ≡ operator ne
Told t Lt = t ≡ operator lt
Told t Le = t ≡ operator le
Told t Gt = t ≡ operator gt
Told t Ge = t ≡ operator ge
Told t _ = Unit {0}

pub told : (t : T.Token) → Told t (kind_of t)
told t = go (kind_of t) refl
  where
    go : (k : Kind) → kind_of t ≡ k → Told t k
    go Name e = kind-name t e
    go (Constant z) e = kind-within t z e
    go Big e = kind-big t e
    go Mark e = kind-fixed t mark refl e
    go Eq e = kind-fixed t (operator eq) refl e
    go Ne e = kind-fixed t (operator ne) refl e
    go Lt e = kind-fixed t (operator lt) refl e
    go Le e = kind-fixed t (operator le) refl e
    go Gt e = kind-fixed t (operator gt) refl e
    go Ge e = kind-fixed t (operator ge) refl e
    go _ e = tt

-- the tokens that a form asks for hold nothing
pub asked_fixed : (k : Kind) (t : T.Token) → asked k ≡ some t → (kind_of t ≡ k) × (is_fixed (kind_of t) ≡ true)
asked_fixed Comma t e = (cc, cc)
asked_fixed Open t e = (cc, cc)
asked_fixed Close t e = (cc, cc)
asked_fixed Eq t e = (cc, cc)
asked_fixed From t e = (cc, cc)
asked_fixed Into t e = (cc, cc)
asked_fixed Values t e = (cc, cc)
asked_fixed Set t e = (cc, cc)
asked_fixed _ t e = some-none (sym e)

-- where `==` says so of one of them, it is that one
is-Comma : (a : Kind) → ghosts.eq a Comma ≡ true → a ≡ Comma
is-Comma Comma e = refl
is-Comma _ e = clash e refl

is-Open : (a : Kind) → ghosts.eq a Open ≡ true → a ≡ Open
is-Open Open e = refl
is-Open _ e = clash e refl

is-Close : (a : Kind) → ghosts.eq a Close ≡ true → a ≡ Close
is-Close Close e = refl
is-Close _ e = clash e refl

is-Eq : (a : Kind) → ghosts.eq a Eq ≡ true → a ≡ Eq
is-Eq Eq e = refl
is-Eq _ e = clash e refl

is-From : (a : Kind) → ghosts.eq a From ≡ true → a ≡ From
is-From From e = refl
is-From _ e = clash e refl

is-Into : (a : Kind) → ghosts.eq a Into ≡ true → a ≡ Into
is-Into Into e = refl
is-Into _ e = clash e refl

is-Values : (a : Kind) → ghosts.eq a Values ≡ true → a ≡ Values
is-Values Values e = refl
is-Values _ e = clash e refl

is-Set : (a : Kind) → ghosts.eq a Set ≡ true → a ≡ Set
is-Set Set e = refl
is-Set _ e = clash e refl

pub asked-same : (a k : Kind) (t : T.Token) → asked k ≡ some t → ghosts.eq a k ≡ true → a ≡ k
asked-same a Comma t f e = is-Comma a e
asked-same a Open t f e = is-Open a e
asked-same a Close t f e = is-Close a e
asked-same a Eq t f e = is-Eq a e
asked-same a From t f e = is-From a e
asked-same a Into t f e = is-Into a e
asked-same a Values t f e = is-Values a e
asked-same a Set t f e = is-Set a e
asked-same a _ t f e = some-none (sym f)
