-- A sentence from its first word, and to the end of the text. Assumes nothing.
use mathlib.Core.Path.{◌≡◌, refl, sym, ap, subst, ◌∙◌}
use mathlib.Core.Bool.{false}
use mathlib.Core.Option.{Option, none, some}
use Rattle.std.specs.Prelude.{Option as Maybe, Some, None}
use mathlib.Core.List.{List, [], ◌∷◌}
use Prim.Native.Nat.{ℕ, ◌+◌, ◌*◌, ◌≤◌}
use native.Mathlib.Omega.{arith}
use lib.ListN.{length, drop}
use Rattle.meaning.specs.Tokens.{Token, Keyword, keyword, TABLE, SELECT, INSERT, UPDATE, DELETE, tokens}
use Rattle.meaning.specs.Grammar.{Sentence}
use Rattle.meaning.specs.Reader.{Reader, a_table, a_select, an_insert, an_update, a_delete, a_sentence, passing, fails, whole, read, sentence}
use Rattle.meaning.proofs.Readers.{some-none, begins, passing-stops}
use Rattle.meaning.proofs.Decides.{decides, decides-from}
use Rattle.token.specs.declared.Token.{Token as Read}
use Rattle.token.specs.declared.Kind.TheVariants.{End}
use Rattle.token.specs.Tokens.{token_at}
use Rattle.token.proofs.Laws.{token_end, token-ended}
use Rattle.statement.specs.declared.conditions.Cursor.{Cursor}
use Rattle.statement.specs.declared.conditions.Node.{Node}
use Rattle.statement.specs.declared.sentences.Item.{Item}
use Rattle.statement.specs.declared.sentences.Entry.{Entry}
use Rattle.statement.specs.Private.Reading.{Stands}
use Rattle.statement.specs.Private.Sentences.{Before, calls, Entered, Noted, ReadsForm, ReadsAny}
use Rattle.statement.proofs.Steps.{Goes}
use Rattle.statement.proofs.SentenceReaders.{finds-none, reads_as, found, found-none}

-- ---- the first word

-- nothing is counted behind it
abbrev pub fresh : ℕ → Cursor
fresh next = record { over = false; dotted = false; nodes = 0; marks = 0; at = next }

pub stands-here : (s : List ℕ) (next : ℕ) → length s ≤ 256 → next ≤ length s → Stands s (fresh next)
stands-here s next h l = record { short = h; inside = l; few_nodes = omega arith; few_marks = omega arith }

module _ (n : ℕ) (ts : List Token) where
  pub first-table : a_sentence n (keyword TABLE ∷ ts) ≡ a_table n ts
  unfolding a_sentence
  first-table = refl

  pub first-select : a_sentence n (keyword SELECT ∷ ts) ≡ a_select n ts
  unfolding a_sentence
  first-select = refl

  pub first-insert : a_sentence n (keyword INSERT ∷ ts) ≡ an_insert n ts
  unfolding a_sentence
  first-insert = refl

  pub first-update : a_sentence n (keyword UPDATE ∷ ts) ≡ an_update n ts
  unfolding a_sentence
  first-update = refl

  pub first-delete : a_sentence n (keyword DELETE ∷ ts) ≡ a_delete n ts
  unfolding a_sentence
  first-delete = refl

module _ (s : List ℕ) (ls : List Item) (ps : List Node) (r : Maybe Entry) where
  -- a form, behind its word
  pub starts_with : (k : Keyword) (reader : ℕ → Reader Sentence) → ((n : ℕ) (ts : List Token) → a_sentence n (keyword k ∷ ts) ≡ reader n ts)
      → (next : ℕ) → Goes s 0 next (keyword k) → ReadsForm reader s (fresh next) ls ps r → ReadsAny s ls ps r
  starts_with k reader f next g h n l =
      reads_as (ap (a_sentence n) g.after ∙ f n (tokens (drop next s))) (h n l)

  -- no form's word
  pub starts-not : begins (keyword TABLE) (tokens s) ≡ false → begins (keyword SELECT) (tokens s) ≡ false → begins (keyword INSERT) (tokens s) ≡ false
      → begins (keyword UPDATE) (tokens s) ≡ false → begins (keyword DELETE) (tokens s) ≡ false → r ≡ None → ReadsAny s ls ps r
  unfolding a_sentence
  starts-not h₁ h₂ h₃ h₄ h₅ f n l =
      finds-none f (
      passing-stops (keyword TABLE) (a_table n) from-select (tokens s) h₁
      ∙ passing-stops (keyword SELECT) (a_select n) from-insert (tokens s) h₂
      ∙ passing-stops (keyword INSERT) (an_insert n) from-update (tokens s) h₃
      ∙ passing-stops (keyword UPDATE) (an_update n) from-delete (tokens s) h₄
      ∙ passing-stops (keyword DELETE) (a_delete n) fails (tokens s) h₅)
    where
      from-delete : Reader Sentence
      from-delete = passing (keyword DELETE) (a_delete n) fails

      from-update : Reader Sentence
      from-update = passing (keyword UPDATE) (an_update n) from-delete

      from-insert : Reader Sentence
      from-insert = passing (keyword INSERT) (an_insert n) from-update

      from-select : Reader Sentence
      from-select = passing (keyword SELECT) (a_select n) from-insert

-- ---- the end of the text

-- what is read with calls enough is what the grammar reads
read-with : (n : ℕ) (ts : List Token) → 3 * length ts ≤ n → whole (a_sentence n ts) ≡ read ts
read-with n ts h = go (read ts) (whole (a_sentence n ts)) refl refl
  where
    go : (o q : Option Sentence) → read ts ≡ o → whole (a_sentence n ts) ≡ q → q ≡ o
    go none none e f = refl
    go none (some x) e f = some-none (sym ((decides ts x).1 ((decides-from n ts x h).0 f)) ∙ e)
    go (some x) q e f = sym f ∙ (decides-from n ts x h).1 ((decides ts x).0 e)

noted-none : (s : List ℕ) (ls : List Item) (ps : List Node) (r : Maybe Entry) (o : Option Sentence) → r ≡ None → o ≡ none → Noted s ls ps r o
noted-none s ls ps r o e f = rw (e, f) tt

module _ (s : List ℕ) (ls : List Item) (ps : List Node) where
  enough : ℕ
  enough = calls s + 3 * length (tokens s)

  read-enough : whole (a_sentence enough (tokens s)) ≡ sentence s
  unfolding enough
  read-enough = read-with enough (tokens s) (omega arith)

  pub no-sentence : (r : Maybe Entry) → ReadsAny s ls ps None → r ≡ None → Noted s ls ps r (sentence s)
  unfolding enough
  no-sentence r m f = noted-none s ls ps r (sentence s) f (sym read-enough ∙ ap whole (found-none (m enough (omega arith))))

  -- a sentence was read, and the token u follows
  module _ (e : Entry) (m : ReadsAny s ls ps (Some e)) (u : Read) (h : u ≡ token_at s e.c.at) where
    read-found : (x : Sentence) × (more : List Token) × (a_sentence enough (tokens s) ≡ some (x, more)) × Before s e.c more × Entered s ls ps e x
    unfolding enough
    read-found = found (m enough (omega arith))

    is_read : whole (some (read-found.0, tokens (drop e.c.at s))) ≡ sentence s
    is_read = let f = read-found in ap (λ ts. whole (some (f.0, ts))) f.3.left ∙ sym (ap whole f.2) ∙ read-enough

    pub more-follows : (r : Maybe Entry) → (u.kind ≡ End → ⊥) → r ≡ None → Noted s ls ps r (sentence s)
    more-follows r k f = noted-none s ls ps r (sentence s) f (sym is_read ∙ by (tokens (drop e.c.at s)) refl)
      where
        by : (ts : List Token) → tokens (drop e.c.at s) ≡ ts → whole (some (read-found.0, ts)) ≡ none
        by [] z = absurd (k (ap (λ (v : Read). v.kind) h ∙ token-ended s e.c.at z))
        by (t ∷ ts) z = refl

    pub all_read : u.kind ≡ End → Noted s ls ps (Some e) (sentence s)
    all_read k =
        let nothing : tokens (drop e.c.at s) ≡ [] = token_end s e.c.at (sym (ap (λ (v : Read). v.kind) h) ∙ k) in
        subst (Noted s ls ps (Some e)) (ap (λ ts. whole (some (read-found.0, ts))) (sym nothing) ∙ is_read) read-found.4
