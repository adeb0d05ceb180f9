-- Values counted and put one after another, and what a command, a number and values say together. Assumes nothing.
use mathlib.Core.Path.{◌≡◌, refl, sym, ap, subst, ◌∙◌}
use mathlib.Core.Bool.{Bool, true, false, cond}
use mathlib.Core.Option.{Option, none, some}
use mathlib.Core.List.{List, [], ◌∷◌}
use Prim.Native.Nat.{ℕ, suc, ◌+◌, ◌≤◌, ◌<◌}
use native.Mathlib.Nat.{zero-add}
use native.Mathlib.Omega.{arith}
use borrow.Author.Tests.{le-leb, lt-leb, eqb-true}
use lib.Dec.{eqb}
use lib.Pointwise.{pointwise}
use lib.IntN.{ℤ, pos}
use lib.ListN.{length, take, drop, get_or, drop_of_length-le}
use Rattle.lists.specs.Lists.{bytes}
use Rattle.lists.proofs.Changed.{eq_list-true}
use Rattle.meaning.specs.Tokens.{behind_prefix}
use Rattle.console.specs.declared.Line.{Line}
use Rattle.console.specs.declared.Line.TheVariants.{Ask, Do}
use Rattle.std.specs.Prelude as P
use Rattle.std.specs.Prelude.{MatchOption, unwrap_or}
use Rattle.std.proofs.lemmas.List.{drop_more}
use Rattle.console.specs.Room.{filled}
use Rattle.meaning.specs.Call.{add, ask, change, flush}
use Rattle.console.specs.Lines.{is_word, word_number, word_value, and_value, word_values, Command, numbered, words, words_say, line_says, command_of, line_of, values_of}
use Rattle.console.specs.Private.Parts.{as_option, values_at, count_on, counted_line, numbered_line}
use Rattle.console.proofs.Rooms.{filled-nil}
use Rattle.console.proofs.Words.{one_word, same_words, begins, behind-prefix}

-- a word, and those behind it
pub word_here : (ws : List (List ℕ)) (i : ℕ) (w : List ℕ) → i < length ws → w ≡ get_or ws i w → drop i ws ≡ w ∷ drop (i + 1) ws
word_here ws i w h e = drop_more ws i w h ∙ ap (λ (v : List ℕ). v ∷ drop (i + 1) ws) (sym e)

-- one value more
count-good : (o : Option ℤ) (r : Option (List ℤ)) (n : ℕ) (z : ℤ) → P.Some z ≡ as_option o → count_on (n + 1) r ≡ count_on n (and_value o r)
count-good none r n y h = absurd (let q : ⊥ = cc in q)
count-good (some z) none n y h = refl
count-good (some z) (some zs) n y h =
    let e : n + 1 + length zs ≡ n + suc (length zs) = omega arith in
    ap P.Some e

count-bad : (o : Option ℤ) (r : Option (List ℤ)) (n : ℕ) → P.None ≡ as_option o → P.None ≡ count_on n (and_value o r)
count-bad none r n h = refl
count-bad (some z) r n h = absurd (let q : ⊥ = cc in q)

-- words one after another: the count so far and that of the values left make the whole count
module _ (ws : List (List ℕ)) where
  pub record Counting (count i : ℕ) : Type 0 where
    pub few : count ≤ i
    pub left : count_on count (word_values (drop i ws)) ≡ count_on 0 (word_values ws)

  module _ (count i : ℕ) (G : Counting count i) where
    pub counting-end : i ≡ length ws → P.Some count ≡ count_on 0 (word_values ws)
    unfolding word_values
    counting-end h =
        let d : drop i ws ≡ [] = drop_of_length-le ws (omega (arith, h)) in
        let z : count + 0 ≡ count = omega arith in
        sym (ap P.Some z) ∙ sym (ap (λ (vs : List (List ℕ)). count_on count (word_values vs)) d) ∙ G.left

    module _ (w : List ℕ) (h : i < length ws) (e : w ≡ get_or ws i w) where
      next : count_on count (and_value (word_value w) (word_values (drop (i + 1) ws))) ≡ count_on 0 (word_values ws)
      unfolding word_values
      next = sym (ap (λ (vs : List (List ℕ)). count_on count (word_values vs)) (word_here ws i w h e)) ∙ G.left

      pub counting_more : (z : ℤ) → P.Some z ≡ as_option (word_value w) → Counting (count + 1) (i + 1)
      counting_more z k = record {
        few = omega (arith, G.few);
        left = count-good (word_value w) (word_values (drop (i + 1) ws)) count z k ∙ next;
      }

      pub counting-stop : P.None ≡ as_option (word_value w) → P.None ≡ count_on 0 (word_values ws)
      counting-stop k = count-bad (word_value w) (word_values (drop (i + 1) ws)) count k ∙ next

-- ---- values put

-- good values are those that are put
pub values-are : (ws : List (List ℕ)) (zs : List ℤ) → word_values ws ≡ some zs → values_at ws ≡ zs
unfolding word_values
values-are [] zs h = let e : [] ≡ zs = cc in e
values-are (w ∷ ws) zs h = go (word_value w) (word_values ws) (values-are ws) h
  where
    go : (o : Option ℤ) (r : Option (List ℤ)) → ((ys : List ℤ) → r ≡ some ys → values_at ws ≡ ys) → and_value o r ≡ some zs → unwrap_or (as_option o) (pos 0) ∷ values_at ws ≡ zs
    go none r f k = absurd (let q : ◌≡◌ {A = ℕ} 0 1 = cc in omega arith)
    go (some z) none f k = absurd (let q : ◌≡◌ {A = ℕ} 0 1 = cc in omega arith)
    go (some z) (some ys) f k =
        let e : z ∷ ys ≡ zs = cc in
        ap (λ (r : List ℤ). z ∷ r) (f ys refl) ∙ e

-- ---- what words say

-- ASK or DO is said with its values
told-by : (w : List ℕ) (o : Option ℕ) (r : Option (List ℤ)) (ys : List ℤ) → ((zs : List ℤ) → r ≡ some zs → ys ≡ zs)
    → MatchOption (counted_line w (as_option o) (count_on 0 r)) (numbered w o r ≡ none) (λ l. (l ≡ line_of (numbered w o r)) × (ys ≡ values_of (numbered w o r)))
told-by w none r ys f = refl
told-by w (some n) none ys f = refl
told-by w (some n) (some zs) ys f = go (is_word "ASK" w) (is_word "DO" w)
  where
    go : (a b : Bool) → let c = cond a (some (ask (record { query = n; values = zs }) tt)) (cond b (some (change n zs)) none) in
        MatchOption (cond a (P.Some (Ask n (0 + length zs))) (cond b (P.Some (Do n (0 + length zs))) P.None)) (c ≡ none) (λ l. (l ≡ line_of c) × (ys ≡ values_of c))
    go true b = (ap (Ask n) (zero-add (length zs)), f zs refl)
    go false true = (ap (Do n) (zero-add (length zs)), f zs refl)
    go false false = refl

-- by whether the line is FLUSH
module _ (text : List ℕ) {b : Bool} (k : b ≡ pointwise eqb text (bytes "FLUSH")) where
  flush-is : is_word "FLUSH" text ≡ b
  flush-is = sym (k ∙ same_words text (bytes "FLUSH"))

  pub flush-told : b ≡ true → words_say (words text) ≡ some flush
  flush-told h = ap (λ (s : List ℕ). words_say (words s)) (eq_list-true eqb eqb-true text (bytes "FLUSH") (flush-is ∙ h))

  -- what the words of another line say
  pub line-told : b ≡ false → (r : P.Option Line) → r ≡ numbered_line (words text)
      → MatchOption r (words_say (words text) ≡ none) (λ l. (l ≡ line_of (words_say (words text))) × (values_at (drop 2 (words text)) ≡ values_of (words_say (words text))))
  line-told h r q =
      subst (λ (x : P.Option Line). MatchOption x (words_say (words text) ≡ none) (λ l. (l ≡ line_of (words_say (words text))) × (values_at (drop 2 (words text)) ≡ values_of (words_say (words text)))))
      (sym q) (go (words text) refl)
    where
      go : (ws : List (List ℕ)) → words text ≡ ws → MatchOption (numbered_line ws) (words_say ws ≡ none) (λ l. (l ≡ line_of (words_say ws)) × (values_at (drop 2 ws) ≡ values_of (words_say ws)))
      go [] e = refl
      go (w ∷ []) e = ap (λ (x : Bool). cond x (some flush) none) (ap (is_word "FLUSH") (one_word text w e) ∙ flush-is ∙ h)
      go (w ∷ n ∷ vs) e = told-by w (word_number n) (word_values vs) (values_at vs) (values-are vs)

-- a command without values
pub told : (k c : Command) (values : List ℤ) (r : Line) → k ≡ c → values_of c ≡ [] → r ≡ line_of c → (r ≡ line_of k) × (values ≡ filled values 0 (values_of k))
told k c values r e n f = (f ∙ sym (ap line_of e), sym (ap (filled values 0) (ap values_of e ∙ n) ∙ (filled-nil values 0).0))

-- ---- a line

module _ (text : List ℕ) where
  pub long-line : 512 < length text → command_of text ≡ none
  unfolding command_of
  long-line h = rw (lt-leb (length text) 512 h, command_of)

  short-line : length text ≤ 512 → command_of text ≡ line_says text
  unfolding command_of
  short-line h = rw (le-leb (length text) 512 h, command_of)

  module _ (h : length text ≤ 512) {b : Bool} (k : b ≡ pointwise eqb (bytes "ADD ") (take 4 text)) where
    prefix-is : behind_prefix (bytes "ADD ") text ≡ cond b (some (drop 4 text)) none
    prefix-is = behind-prefix (bytes "ADD ") text ∙ ap (λ (x : Bool). cond x (some (drop 4 text)) none) (sym (k ∙ begins (bytes "ADD ") text))

    pub add-line : b ≡ true → command_of text ≡ some (add (drop 4 text))
    add-line e = short-line h ∙ rw (prefix-is ∙ ap (λ (x : Bool). cond x (some (drop 4 text)) none) e, line_says)

    pub other-line : b ≡ false → command_of text ≡ words_say (words text)
    other-line e = short-line h ∙ rw (prefix-is ∙ ap (λ (x : Bool). cond x (some (drop 4 text)) none) e, line_says)
