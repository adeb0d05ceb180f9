-- Whether a question is over two tables (A.1): what `is_paired` sees of the tokens up to FROM and behind it. Assumes nothing.
use mathlib.Core.Path.{◌≡◌, refl, sym, ap, subst, ◌∙◌}
use mathlib.Core.Bool.{Bool, true, false, ◌&&◌}
use mathlib.Core.Option.{Option, none, some}
use Rattle.std.specs.Prelude.{Option as Maybe}
use mathlib.Core.List.{List, [], ◌∷◌}
use Prim.Native.Nat.{ℕ, ◌+◌, ◌-◌, ◌≤◌, ◌<◌}
use native.Mathlib.Nat.{le_refl}
use native.Mathlib.Omega.{arith}
use lib.ListN.{length, drop}
use Rattle.lists.proofs.Bools.{clash}
use Rattle.meaning.specs.Tokens as T
use Rattle.meaning.specs.Tokens.{keyword, comma, FROM, same_token, first_token, tokens}
use Rattle.meaning.specs.Reader.{comma_second, is_paired, a_single, a_pair, a_select}
use Rattle.meaning.proofs.Readers.{same_self, same_not}
use Rattle.meaning.proofs.Stream.{tokens-some}
use Rattle.token.specs.declared.Kind.{Kind}
use Rattle.token.specs.declared.Kind.TheVariants.{End, Comma, From}
use Rattle.token.specs.declared.Token.{Token}
use Rattle.token.specs.Tokens.{kind_of, token_at}
use Rattle.token.proofs.Cases.{none_is, past_end}
use Rattle.token.proofs.Laws.{next-from}
use Rattle.token.proofs.TokenKinds.{kind-some, kind-fixed}
use Rattle.statement.specs.declared.conditions.Cursor.{Cursor}
use Rattle.statement.specs.declared.conditions.Node.{Node}
use Rattle.statement.specs.declared.sentences.Item.{Item}
use Rattle.statement.specs.declared.sentences.Entry.{Entry}
use Rattle.statement.specs.Private.Reading.{Stands}
use Rattle.statement.specs.Private.Sentences.{is_from, is_comma, ends_list, is_comma_second, Starts, ReadsForm}
use Rattle.statement.proofs.Steps.{Look, ended, seen, look, goes}
use Rattle.statement.proofs.SentenceReaders.{reads_as}

-- ---- behind FROM

never : {t : T.Token} {ts : List T.Token} → [] ≡ t ∷ ts → ⊥
never q = let r : ◌≡◌ {A = ℕ} 0 1 = cc in omega arith

-- at the end of the text every token is its end
module _ (s : List ℕ) (p : ℕ) where
  ended-next : tokens (drop p s) ≡ [] → (token_at s p).next ≡ length s
  ended-next k = go (first_token (drop p s)) refl
    where
      go : (o : Option (T.Token × List ℕ)) → first_token (drop p s) ≡ o → (token_at s p).next ≡ length s
      go none e = ap (λ (t : Token). t.next) (none_is s p e)
      go (some x) e = absurd (never (sym k ∙ tokens-some (drop p s) x.0 x.1 e))

comma-is : (k : Kind) → is_comma k ≡ true → k ≡ Comma
comma-is Comma e = refl
comma-is _ e = cc

same-comma : (t : T.Token) → same_token t comma ≡ is_comma (kind_of t)
same-comma t = go (is_comma (kind_of t)) refl
  where
    go : (b : Bool) → is_comma (kind_of t) ≡ b → same_token t comma ≡ is_comma (kind_of t)
    go true e = ap (λ u. same_token u comma) (kind-fixed t comma refl (comma-is (kind_of t) e)) ∙ same_self comma ∙ sym e
    go false e = same_not t comma (λ q. clash (ap (λ (u : T.Token). is_comma (kind_of u)) q) e) ∙ sym e

comma-second : (s : List ℕ) (p : ℕ) → is_comma (token_at s (token_at s p).next).kind ≡ comma_second (tokens (drop p s))
comma-second s p = one (look s p u refl)
  where
    u : Token
    u = token_at s p

    w : Token
    w = token_at s (token_at s p).next

    two : (t : T.Token) → tokens (drop p s) ≡ t ∷ tokens (drop u.next s) → Look s u.next w → is_comma w.kind ≡ comma_second (tokens (drop p s))
    two t l (ended z q) = ap is_comma z ∙ sym (ap comma_second (l ∙ ap (λ ts. t ∷ ts) q))
    two t l (seen v) = ap is_comma (sym v.kind) ∙ sym (same-comma v.token) ∙ sym (ap comma_second (l ∙ ap (λ ts. t ∷ ts) v.left))

    one : Look s p u → is_comma w.kind ≡ comma_second (tokens (drop p s))
    one (ended z q) = ap (λ n. is_comma (token_at s n).kind) (ended-next s p q) ∙ sym (ap (λ (t : Token). is_comma t.kind) (past_end s (length s) (le_refl (length s)))) ∙ sym (ap comma_second q)
    one (seen v) = two v.token v.left (look s u.next w refl)

-- ---- up to FROM

-- t is a token of the text, and what stands from it on tells
pub record Looks (s : List ℕ) (at : ℕ) (t : Token) : Type 0 where
  pub from : ℕ
  pub here : t ≡ token_at s from
  pub same : is_paired (tokens (drop from s)) ≡ is_paired (tokens (drop at s))

pub looks-start : (s : List ℕ) (at : ℕ) (t : Token) → t ≡ token_at s at → Looks s at t
looks-start s at t e = record { from = at; here = e; same = refl }

-- what is left of the text, and whether a token is
abbrev pub here_left : Kind → ℕ
here_left End = 0
here_left _ = 1

abbrev pub left_of : List ℕ → Token → ℕ
left_of s t = length s - t.next + here_left t.kind

paired-not : (t : T.Token) (ts : List T.Token) → same_token t (keyword FROM) ≡ false → is_paired (t ∷ ts) ≡ is_paired ts
paired-not t ts e = rw (e, is_paired)

paired-from : (ts : List T.Token) → is_paired (keyword FROM ∷ ts) ≡ comma_second ts
paired-from ts = refl

module _ (s : List ℕ) (at : ℕ) (t : Token) (k : Looks s at t) where
  module _ (h : ends_list t.kind ≡ false) (u : Token) (e : u ≡ token_at s t.next) where
    -- neither the end nor FROM
    other : (t.kind ≡ End → ⊥) × (t.kind ≡ From → ⊥)
    other = (λ z. clash (ap ends_list z) h, λ z. clash (ap ends_list z) h)

    pub looks-more : Looks s at u
    looks-more = go (look s k.from t k.here)
      where
        go : Look s k.from t → Looks s at u
        go (ended z q) = absurd (other.0 z)
        go (seen v) =
            record {
              from = t.next;
              here = e;
              same =
                  sym (ap is_paired v.left ∙ paired-not v.token (tokens (drop t.next s)) (same_not v.token (keyword FROM) (λ q. other.1 (sym v.kind ∙ ap kind_of q)))) ∙ k.same;
            }

    pub looks-less : left_of s u < left_of s t
    looks-less = go (look s t.next u e) (look s k.from t k.here)
      where
        behind : t.next ≤ length s → t.next ≤ u.next
        behind l = subst (λ (x : Token). t.next ≤ x.next) (sym e) (next-from s t.next l)

        one : here_left t.kind ≡ 1
        one = by t.kind other.0
          where
            by : (k : Kind) → (k ≡ End → ⊥) → here_left k ≡ 1
            by End n = absurd (n refl)
            by _ n = refl

        few : (k : Kind) → here_left k ≤ 1
        few End = omega arith
        few _ = omega arith

        go : Look s t.next u → Look s k.from t → left_of s u < left_of s t
        go l (ended z q) = absurd (other.0 z)
        go (ended z q) (seen v) =
            let n : here_left u.kind ≡ 0 = ap here_left z in
            omega (arith, n, one, behind v.inside)
        go (seen w) (seen v) = omega (arith, one, few u.kind, w.from, w.moves, w.inside, v.inside)

  pub looks-end : ends_list t.kind ≡ true → is_comma_second s t ≡ is_paired (tokens (drop at s))
  looks-end h = go t.kind refl h
    where
      go : (l : Kind) → t.kind ≡ l → ends_list l ≡ true → is_comma_second s t ≡ is_paired (tokens (drop at s))
      go From e q =
          let g = goes s k.from t k.here (keyword FROM) refl e in
          ap (λ l. is_from l && is_comma (token_at s (token_at s t.next).next).kind) e ∙ comma-second s t.next ∙ sym (ap is_paired g.after ∙ paired-from (tokens (drop t.next s))) ∙ k.same
      go End e q = last (look s k.from t k.here)
        where
          last : Look s k.from t → is_comma_second s t ≡ is_paired (tokens (drop at s))
          last (ended z l) = ap (λ l. is_from l && is_comma (token_at s (token_at s t.next).next).kind) e ∙ sym (ap is_paired l) ∙ k.same
          last (seen v) = absurd (kind-some v.token (v.kind ∙ e))
      go _ e q = absurd (cc)

-- ---- SELECT, by what stands behind FROM

module _ (s : List ℕ) (c : Cursor) (ls : List Item) (ps : List Node) (r : Maybe Entry) where
  pub of-pair-form : is_paired (tokens (drop c.at s)) ≡ true → ReadsForm a_pair s c ls ps r → ReadsForm a_select s c ls ps r
  of-pair-form h f n l = reads_as (ap (λ b. elim b [ true ↦ a_pair n (tokens (drop c.at s)) | false ↦ a_single n (tokens (drop c.at s)) ]) h) (f n l)

  pub of-single-form : is_paired (tokens (drop c.at s)) ≡ false → ReadsForm a_single s c ls ps r → ReadsForm a_select s c ls ps r
  of-single-form h f n l = reads_as (ap (λ b. elim b [ true ↦ a_pair n (tokens (drop c.at s)) | false ↦ a_single n (tokens (drop c.at s)) ]) h) (f n l)

abbrev pub dotted_from : Cursor → Cursor
dotted_from c = record { over = c.over; dotted = true; nodes = c.nodes; marks = c.marks; at = c.at }

pub starts-dotted : (c : Cursor) → Starts false c → Starts true (dotted_from c)
starts-dotted c st = record { dotted = refl; over = st.over; nodes = st.nodes; marks = st.marks }

-- it stands where that one does
pub stands-dotted : (s : List ℕ) (c : Cursor) → Stands s c → Stands s (dotted_from c)
stands-dotted s c st = record { short = st.short; inside = st.inside; few_nodes = st.few_nodes; few_marks = st.few_marks }
