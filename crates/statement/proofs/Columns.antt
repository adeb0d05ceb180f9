-- An operand from its tokens: a dotted column (A.1) is three, any other operand one. Assumes nothing.
use mathlib.Core.Path.{◌≡◌, refl, sym, ap, subst, ◌∙◌}
use mathlib.Core.Bool.{Bool, true, false, ◌||◌}
use mathlib.Core.Option.{Option, none, some}
use Rattle.std.specs.Prelude.{Option as Maybe, Some, None}
use mathlib.Core.List.{List, [], ◌∷◌}
use Prim.Native.Nat.{ℕ, ◌-◌, ◌≤◌, ◌<◌}
use native.Mathlib.Omega.{arith}
use lib.Dec.{ltb}
use lib.ListN.{length, drop}
use Rattle.lists.proofs.Bools.{clash}
use Rattle.meaning.specs.Tokens as T
use Rattle.meaning.specs.Tokens.{Name, name, dot, first_token, tokens}
use Rattle.meaning.specs.Grammar.{Term, column, given, Dotted}
use Rattle.meaning.specs.Reader.{Reader, ◌>>=◌, done, fails, expect, a_name, a_dotted, a_given, a_term, name_of}
use Rattle.meaning.specs.Limits.{most_name}
use Rattle.meaning.proofs.Readers.{a_token-some, a_token-none, passing-stops, expect-here, either_first, either_second, then_some, then-none}
use Rattle.meaning.proofs.Stream.{tokens_none, tokens-some}
use Rattle.token.specs.declared.Token.{Token}
use Rattle.token.specs.declared.Kind.{Kind}
use Rattle.token.specs.declared.Kind.TheVariants.{Name as Named, Dot}
use Rattle.token.specs.Tokens.{kind_of, token_at}
use Rattle.token.proofs.Laws.{Reads, token-again}
use Rattle.token.proofs.TokenKinds.{kind-name}
use Rattle.statement.specs.declared.sides.Side.{Side}
use Rattle.statement.specs.Private.Places.{first, token_on, or_empty, name_on, given_on, behind_dot, column_on, or_given}
use Rattle.statement.specs.Private.Reading.{token_past, tokens_past, is_operand, is_name, marks_at, a_column, IsDotted, IsOperand, Sides}
use Rattle.statement.proofs.Operands.{term_of, Single, term-reader, no-term, term-none, is-term}
use Rattle.statement.proofs.Steps.{Look, ended, seen, look, stands-there, name_length, goes, stops}
use Rattle.statement.proofs.SentenceTokens.{no_name_lem, token-none, token-found}

-- ---- a name

pub name-is : (k : Kind) → is_name k ≡ true → k ≡ Named
name-is Named e = refl
name-is _ e = cc

-- the name n stands first, as the token u
pub record NameHere (s : List ℕ) (at : ℕ) (u : Token) (n : Name) : Type 0 where
  pub on : at < u.next
  pub within : u.next ≤ length s
  pub begun : u.start < u.next
  pub begins_so : tokens (drop at s) ≡ name n ∷ tokens (drop u.next s)
  pub reads : a_name (tokens (drop at s)) ≡ some (n, tokens (drop u.next s))
  pub there : name_of (token_on s at) ≡ some n
  pub here : name_of (token_on s u.start) ≡ some n
  pub long : tokens_past u ≡ ltb most_name (length n)

never : {t : T.Token} {ts : List T.Token} → [] ≡ t ∷ ts → ⊥
never q = let r : ◌≡◌ {A = ℕ} 0 1 = cc in omega arith

same_head : {t u : T.Token} {ts us : List T.Token} → t ∷ ts ≡ u ∷ us → t ≡ u
same_head q = cc

-- spaces before it do not matter
there-too : (s : List ℕ) (at : ℕ) (u : Token) (v : Reads s at u) → token_on s at ≡ v.token
unfolding token_on
there-too s at u v = go (first_token (drop at s)) refl
  where
    go : (o : Option (T.Token × List ℕ)) → first_token (drop at s) ≡ o → first o ≡ v.token
    go none e = absurd (never (sym (tokens_none (drop at s) e) ∙ v.left))
    go (some x) e = same_head (sym (tokens-some (drop at s) x.0 x.1 e) ∙ v.left)

module _ (s : List ℕ) (at : ℕ) (u : Token) (e : u ≡ token_at s at) where
  pub name-not : (u.kind ≡ Named → ⊥) → a_name (tokens (drop at s)) ≡ none
  name-not h = token-none name_of s at u (look s at u e) (λ t q. no_name_lem t (λ z. h (sym q ∙ z)))

  long-is : (n : Name) → u.kind ≡ Named → u.next - u.start ≡ length n → tokens_past u ≡ ltb most_name (length n)
  unfolding token_past
  long-is n h l = rw (h, l)

  pub name-at : u.kind ≡ Named → (n : Name) × NameHere s at u n
  name-at h = go (look s at u e)
    where
      go : Look s at u → (n : Name) × NameHere s at u n
      go (ended z q) = absurd (cc)
      go (seen v) =
          let i = kind-name v.token (v.kind ∙ h) in
          let n = i.0 in (
            n,
            record {
              on = omega (arith, v.from, v.moves);
              within = v.inside;
              begun = v.moves;
              begins_so = v.left ∙ ap (λ t. t ∷ tokens (drop u.next s)) i.1;
              reads = token-found name_of s at u v n (ap name_of i.1);
              there = ap name_of (there-too s at u v ∙ i.1);
              here = ap name_of (stands-there v ∙ i.1);
              long = long-is n h (name_length v n i.1);
            },
          )

-- ---- a dotted column

module _ (s : List ℕ) (at : ℕ) (u : Token) (e : u ≡ token_at s at) where
  misses : a_dotted (tokens (drop at s)) ≡ none → Sides s at None (IsDotted s) (a_dotted (tokens (drop at s)))
  misses q = subst (Sides s at None (IsDotted s)) (sym q) tt

  pub no_table_lem : (u.kind ≡ Named → ⊥) → Sides s at None (IsDotted s) (a_dotted (tokens (drop at s)))
  no_table_lem h = misses (then-none _ (name-not s at u e h))

  module _ (h₁ : u.kind ≡ Named) (v : Token) (e₂ : v ≡ token_at s u.next) where
    pub no-dot : (v.kind ≡ Dot → ⊥) → Sides s at None (IsDotted s) (a_dotted (tokens (drop at s)))
    no-dot h =
        let n = name-at s at u e h₁ in
        misses (then_some _ n.1.reads ∙ then-none _ (passing-stops dot (done tt) fails (tokens (drop u.next s)) (stops s u.next v e₂ dot h)))

    module _ (h₂ : v.kind ≡ Dot) (w : Token) (e₃ : w ≡ token_at s v.next) where
      pub no_column : (w.kind ≡ Named → ⊥) → Sides s at None (IsDotted s) (a_dotted (tokens (drop at s)))
      no_column h =
          let n = name-at s at u e h₁ in
          let g = goes s u.next v e₂ dot refl h₂ in
          misses (then_some _ n.1.reads ∙ then_some _ (ap (expect dot) g.after ∙ expect-here dot (tokens (drop v.next s))) ∙ then-none _ (name-not s v.next w e₃ h))

  module _ (h₁ : u.kind ≡ Named) (v : Token) (e₂ : v ≡ token_at s u.next) (h₂ : v.kind ≡ Dot) (w : Token) (e₃ : w ≡ token_at s v.next) (h₃ : w.kind ≡ Named) where
    -- reading on from the first name's place leads behind the dot
    dot-there : behind_dot s u.start ≡ v.next
    dot-there =
        let q : token_at s u.start ≡ u = ap (λ (x : Token). token_at s x.start) e ∙ token-again s at ∙ sym e in
        ap (λ (x : Token). (token_at s x.next).next) q ∙ ap (λ (x : Token). x.next) (sym e₂)

    pub dotted-found : (p q : Bool) (f : 0 ≤ 1) → p ≡ tokens_past u → q ≡ tokens_past w
        → Sides s at (Some (record { over = p || q; marks = 0; start = u.start; next = w.next; few = f })) (IsDotted s) (a_dotted (tokens (drop at s)))
    dotted-found p q f ep eq =
        let n = name-at s at u e h₁ in
        let g = goes s u.next v e₂ dot refl h₂ in
        let m = name-at s v.next w e₃ h₃ in
        let a = n.1 in
        let b = m.1 in
        subst (Sides s at (Some r) (IsDotted s))
        (sym (then_some _ a.reads ∙ then_some _ (ap (expect dot) g.after ∙ expect-here dot (tokens (drop v.next s))) ∙ then_some _ b.reads)) (
          record { on = omega (arith, a.on, g.on, b.on); within = b.within; begun = omega (arith, a.begun, g.on, b.on); left = refl },
          record {
            here = λ i. (ap or_empty a.here i, (ap (name_on s) dot-there ∙ ap or_empty b.there) i);
            named = a.here;
            over = λ i. (ep ∙ a.long) i || (eq ∙ b.long) i;
            marks = refl;
          },
        )
      where
        r : Side
        r = record { over = p || q; marks = 0; start = u.start; next = w.next; few = f }

-- ---- an operand

abbrev columns : Reader (Term Dotted)
columns = a_dotted >>= λ c. done (column c)

abbrev values : Reader (Term Dotted)
values = a_given >>= λ v. done (given v)

module _ (s : List ℕ) (at : ℕ) (u : Token) (e : u ≡ token_at s at) where
  -- a name is no constant and no question mark
  pub dotted-operand : u.kind ≡ Named → (r : Maybe Side) → Sides s at r (IsDotted s) (a_dotted (tokens (drop at s))) → Sides s at r (IsOperand true s) (a_term a_dotted (tokens (drop at s)))
  dotted-operand h r k = go (a_dotted (tokens (drop at s))) r refl k
    where
      n : (n : Name) × NameHere s at u n
      n = name-at s at u e h

      go : (o : Option (Dotted × List T.Token)) (r : Maybe Side) → a_dotted (tokens (drop at s)) ≡ o → Sides s at r (IsDotted s) o → Sides s at r (IsOperand true s) (a_term a_dotted (tokens (drop at s)))
      go none None q z =
          let y : values (tokens (drop at s)) ≡ none = then-none (λ v. done (given v)) (ap a_given n.1.begins_so) in
          subst (Sides s at None (IsOperand true s)) (sym (either_second columns values (tokens (drop at s)) (then-none (λ c. done (column c)) q) ∙ y)) tt
      go none (Some d) q z = absurd z
      go (some x) None q z = absurd z
      go (some x) (Some d) q z =
          subst (Sides s at (Some d) (IsOperand true s)) (sym (either_first columns values (tokens (drop at s)) (column x.0, x.1) (then_some (λ c. done (column c)) q))) (
            z.0,
            record {
              here = ap (or_given (given_on s d.start) (column_on true s d.start)) z.1.named ∙ ap column z.1.here;
              over = z.1.over;
              marks = z.1.marks;
            },
          )

  alone-is : (b : Bool) (t : T.Token) → (b ≡ true → kind_of t ≡ Named → ⊥) → Single b t
  alone-is false t h = tt
  alone-is true t h = no_name_lem t (h refl)

  -- one token, or none
  pub no-single : (b : Bool) → (b ≡ true → u.kind ≡ Named → ⊥) → is_operand u.kind ≡ false → Sides s at None (IsOperand b s) (a_term (a_column b) (tokens (drop at s)))
  no-single b h q = go (look s at u e)
    where
      go : Look s at u → Sides s at None (IsOperand b s) (a_term (a_column b) (tokens (drop at s)))
      go (ended z k) = subst (Sides s at None (IsOperand b s)) (sym (ap (a_term (a_column b)) k ∙ no-term b)) tt
      go (seen v) =
          let t = v.token in
          let i = alone-is b t (λ x y. h x (sym v.kind ∙ y)) in
          subst (Sides s at None (IsOperand b s))
          (sym (ap (a_term (a_column b)) v.left ∙ term-reader b t _ i ∙ a_token-none (term_of b) t _ (term-none b t (ap is_operand v.kind ∙ q)))) tt

  pub single-side : (b : Bool) → (b ≡ true → u.kind ≡ Named → ⊥) → is_operand u.kind ≡ true → (r : Side) → r.over ≡ tokens_past u → r.marks ≡ marks_at u.kind → r.start ≡ u.start → r.next ≡ u.next
      → Sides s at (Some r) (IsOperand b s) (a_term (a_column b) (tokens (drop at s)))
  single-side b h q r ep em es en = go (look s at u e)
    where
      go : Look s at u → Sides s at (Some r) (IsOperand b s) (a_term (a_column b) (tokens (drop at s)))
      go (ended z k) = clash q (ap is_operand z)
      go (seen v) =
          let t = v.token in
          let i = alone-is b t (λ x y. h x (sym v.kind ∙ y)) in
          let m = is-term b t u.start u.next (name_length v) i (ap is_operand v.kind ∙ q) in
          let k = m.1 in
          subst (Sides s at (Some r) (IsOperand b s))
          (sym (ap (a_term (a_column b)) v.left ∙ term-reader b t _ i ∙ a_token-some (term_of b) t _ _ k.term)) (
            record {
              on = omega (arith, v.from, v.moves, en);
              within = omega (arith, v.inside, en);
              begun = omega (arith, v.moves, es, en);
              left = ap (λ n. tokens (drop n s)) en;
            },
            record {
              here = k.here s r.start (ap (token_on s) es ∙ stands-there v);
              over = ep ∙ ap (λ n. token_past n u.start u.next) (sym v.kind) ∙ k.over;
              marks = em ∙ ap marks_at (sym v.kind) ∙ k.marks;
            },
          )
