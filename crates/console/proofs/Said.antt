-- What a line says: the text of ADD is the line from byte 4 on, and there are no more values than bytes. Assumes nothing.
use mathlib.Core.Path.{◌≡◌, refl, sym, ap}
use mathlib.Core.Logic.{◌≢◌}
use mathlib.Core.Bool.{Bool, true, false, cond}
use mathlib.Core.Option.{Option, none, some}
use mathlib.Core.List.{List, [], ◌∷◌}
use Prim.Native.Nat.{ℕ, suc, ◌+◌, ◌-◌, ◌≤◌}
use native.Mathlib.Omega.{arith}
use borrow.Author.Tests.{leb-true}
use lib.Dec.{leb, eqb}
use lib.IntN.{ℤ}
use lib.ListN.{length, drop}
use Rattle.lists.specs.Lists.{bytes}
use Rattle.meaning.specs.Tokens.{is_space, behind_prefix}
use Rattle.meaning.proofs.Readers.{some-none, some_same}
use Rattle.meaning.proofs.Stream.{prefix-length}
use Rattle.console.specs.declared.Line.TheVariants.{Add, Ask, Do, Flush, Bad}
use Rattle.meaning.specs.Call.{add, ask, change, flush}
use Rattle.console.specs.Lines.{on_first, words, is_word, word_number, word_value, and_value, word_values, Command, numbered, words_say, line_says, most_line, command_of, line_of, values_of}

-- ---- no more values than bytes

first_count : (b : ℕ) (ws : List (List ℕ)) → length (on_first b ws) ≤ suc (length ws)
first_count b [] = omega arith
first_count b (w ∷ ws) = omega arith

pub words_count : (s : List ℕ) → length (words s) ≤ suc (length s)
words_count [] = omega arith
words_count (b ∷ s) = go (is_space b) (words_count s)
  where
    go : (t : Bool) → length (words s) ≤ suc (length s) → length {A = List ℕ} (elim t [ true ↦ [] ∷ words s | false ↦ on_first b (words s) ]) ≤ suc (suc (length s))
    go true h = omega (arith, h)
    go false h = omega (arith, first_count b (words s), h)

abbrev size : Option (List ℤ) → ℕ
size none = 0
size (some zs) = length zs

and-size : (o : Option ℤ) (p : Option (List ℤ)) → size (and_value o p) ≤ suc (size p)
and-size (some z) (some zs) = omega arith
and-size (some z) none = omega arith
and-size none p = omega arith

values-size : (ws : List (List ℕ)) → size (word_values ws) ≤ length ws
unfolding word_values
values-size [] = omega arith
values-size (w ∷ ws) = omega (arith, and-size (word_value w) (word_values ws), values-size ws)

-- words say no text, few values, and a call that a line makes or none
record Words (n : ℕ) (c : Command) : Type 0 where
  few : length (values_of c) ≤ n
  text : line_of c ≢ Add
  bad : line_of c ≡ Bad → c ≡ none

no-words : (n : ℕ) → Words n none
no-words n = record { few = omega arith; text = λ e. let q : ⊥ = cc in q; bad = λ e. refl }

-- a word and a number say ASK, DO or nothing
numbered-size : (w : List ℕ) (o : Option ℕ) (p : Option (List ℤ)) → Words (size p) (numbered w o p)
numbered-size w (some n) none = no-words 0
numbered-size w none p = no-words (size p)
numbered-size w (some n) (some zs) = go (is_word "ASK" w) (is_word "DO" w)
  where
    go : (a b : Bool) → Words (length zs) (cond a (some (ask (record { query = n; values = zs }) tt)) (cond b (some (change n zs)) none))
    go true b = record { few = omega arith; text = λ e. let q : ⊥ = cc in q; bad = λ e. absurd (let q : ⊥ = cc in q) }
    go false true = record { few = omega arith; text = λ e. let q : ⊥ = cc in q; bad = λ e. absurd (let q : ⊥ = cc in q) }
    go false false = no-words (length zs)

words_size : (ws : List (List ℕ)) → Words (length ws - 1) (words_say ws)
words_size [] = no-words 0
words_size (w ∷ []) = go (is_word "FLUSH" w)
  where
    go : (t : Bool) → Words 0 (cond t (some flush) none)
    go true = record { few = omega arith; text = λ e. let q : ⊥ = cc in q; bad = λ e. absurd (let q : ⊥ = cc in q) }
    go false = no-words 0
words_size (w ∷ n ∷ vs) =
    let h = numbered-size w (word_number n) (word_values vs) in
    record { few = omega (arith, h.few, values-size vs); text = h.text; bad = h.bad }

-- ---- the text of ADD

prefix-drop : (p s left : List ℕ) → behind_prefix p s ≡ some left → left ≡ drop (length p) s
prefix-drop [] s left e = sym (some_same e)
prefix-drop (b ∷ p) [] left e = some-none (sym e)
prefix-drop (b ∷ p) (c ∷ s) left e = go (eqb b c) e (prefix-drop p s left)
  where
    go : (t : Bool) → cond t (behind_prefix p s) none ≡ some left → (behind_prefix p s ≡ some left → left ≡ drop (length p) s) → left ≡ drop (length p) s
    go true f h = h f
    go false f h = some-none (sym f)

-- what is known of what a line says
pub record Says (line : List ℕ) (c : Command) : Type 0 where
  pub few : length (values_of c) ≤ most_line
  pub text : line_of c ≡ Add → (4 ≤ length line) × (c ≡ some (add (drop 4 line)))
  pub bad : line_of c ≡ Bad → c ≡ none

line-says : (line : List ℕ) → length line ≤ most_line → Says line (line_says line)
line-says line h = go (behind_prefix (bytes "ADD ") line) refl
  where
    go : (o : Option (List ℕ)) → behind_prefix (bytes "ADD ") line ≡ o → Says line (elim o [ some text ↦ some (add text) | none ↦ words_say (words line) ])
    go (some text) e =
        let l : 4 + length text ≡ length line = prefix-length (bytes "ADD ") line text e in
        record {
          few = omega arith;
          text = λ _. (omega (arith, l), ap (λ t. some (add t)) (prefix-drop (bytes "ADD ") line text e));
          bad = λ f. absurd (let q : ⊥ = cc in q);
        }
    go none e =
        let w = words_size (words line) in
        record { few = omega (arith, w.few, words_count line, h); text = λ f. absurd (w.text f); bad = w.bad }

pub command-says : (line : List ℕ) → Says line (command_of line)
unfolding command_of
command-says line = go (leb (length line) most_line) refl
  where
    go : (t : Bool) → leb (length line) most_line ≡ t → Says line (elim t [ true ↦ line_says line | false ↦ none ])
    go true e = line-says line (leb-true (length line) most_line e)
    go false e = record { few = omega arith; text = λ f. absurd (let q : ⊥ = cc in q); bad = λ _. refl }

-- ---- the other commands

pub is_ask : (c : Command) (n k : ℕ) → line_of c ≡ Ask n k → (c ≡ some (ask (record { query = n; values = values_of c }) tt)) × (k ≡ length (values_of c))
is_ask (some (ask m b)) n k e = let q : m.query ≡ n = cc in let r : k ≡ length m.values = cc in (ap (λ (i : ℕ). some (ask (record { query = i; values = m.values }) tt)) q, r)
is_ask (some _) n k e = absurd (let q : ⊥ = cc in q)
is_ask none n k e = absurd (let q : ⊥ = cc in q)

pub is-change : (c : Command) (n k : ℕ) → line_of c ≡ Do n k → (c ≡ some (change n (values_of c))) × (k ≡ length (values_of c))
is-change (some (change m zs)) n k e = let q : m ≡ n = cc in let r : k ≡ length zs = cc in (ap (λ (i : ℕ). some (change i zs)) q, r)
is-change (some _) n k e = absurd (let q : ⊥ = cc in q)
is-change none n k e = absurd (let q : ⊥ = cc in q)

pub is-flush : (c : Command) → line_of c ≡ Flush → c ≡ some flush
is-flush (some flush) e = refl
is-flush (some _) e = absurd (let q : ⊥ = cc in q)
is-flush none e = absurd (let q : ⊥ = cc in q)
