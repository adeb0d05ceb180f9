-- The reader of specs/Grammar finds exactly the sentences that the grammar spells: what it finds is spelled by the tokens that it was given
-- (soundness), and with calls enough it finds each condition, WHERE, list and sentence in its spelling (completeness). So it decides whether some tokens
-- are a sentence's (`decides`, `no-sentence`), and two sentences with one spelling are one (`unique`). Assumes nothing.
use mathlib.Core.Path.{◌≡◌, refl, sym, ap, subst, ◌∙◌}
use mathlib.Core.Logic.{◌↔◌}
use mathlib.Core.Bool.{Bool, true, false}
use mathlib.Core.Option.{Option, none, some}
use mathlib.Core.List.{List, [], ◌∷◌}
use Prim.Native.Nat.{ℕ, zero, suc, ◌+◌, ◌*◌, ◌≤◌, ◌<◌}
use native.Mathlib.Nat.{le_refl}
use native.Mathlib.Omega.{arith}
use lib.IntN.{ℤ}
use lib.ListN.{length}
use Rattle.meaning.specs.Operator.{Operator}
use Rattle.meaning.specs.Condition.{Level, atom, conjunction, disjunction, Tree, compare, negate, group, alone, both, single, either, Optional, always, under}
use Rattle.meaning.specs.Tokens as T
use Rattle.meaning.specs.Tokens.{Name, Token, keyword, name, operator, comma, lparen, rparen, dot, other, TABLE, SELECT, FROM, WHERE, INSERT, INTO, VALUES, UPDATE, SET, DELETE, AND, OR, NOT, IS, NULL}
use Rattle.meaning.specs.Grammar.{Given, constant, mark, Term, column, given, Test, compares, tests_null, tests-not-null, Listed, last, next, Sentence, table, select, insert, update, delete, given_token, spell_name, spell_given, spell_setting, spell_list, spell_test, spell_condition, spell_where, size_word, spell, spell_dotted, spell_term, pair}
use Rattle.meaning.specs.Reader.{Reader, then, ◌>>=◌, ◌>>◌, done, passing, expect, name_of, constant_of, operator_of, a_name, a_given, a_term, a_dotted, comma_second, is_paired, a_single, a_pair, a_setting, a_list, a_null, a_rest, a_test, a_comparison, a_condition, a_where, a_size_word, a_sentence, whole, read}
use Rattle.meaning.proofs.Readers.{some-none, some_same, either_first, either_second, tested-sound, passing-stops, begins, then_some, Sound, sound-read, fails-sound, done-sound, passing-sound, either-sound, bind-sound, made-sound, a_token-sound, expect-sound}

-- ---- soundness

pub name_is : (t : Token) (n : Name) → name_of t ≡ some n → t ≡ name n
name_is (keyword k) n e = some-none (sym e)
name_is (name m) n e = ap name (some_same e)
name_is (T.constant z) n e = some-none (sym e)
name_is (operator o) n e = some-none (sym e)
name_is T.mark n e = some-none (sym e)
name_is comma n e = some-none (sym e)
name_is lparen n e = some-none (sym e)
name_is rparen n e = some-none (sym e)
name_is dot n e = some-none (sym e)
name_is other n e = some-none (sym e)

pub constant-is : (t : Token) (z : ℤ) → constant_of t ≡ some z → t ≡ T.constant z
constant-is (keyword k) z e = some-none (sym e)
constant-is (name m) z e = some-none (sym e)
constant-is (T.constant y) z e = ap T.constant (some_same e)
constant-is (operator o) z e = some-none (sym e)
constant-is T.mark z e = some-none (sym e)
constant-is comma z e = some-none (sym e)
constant-is lparen z e = some-none (sym e)
constant-is rparen z e = some-none (sym e)
constant-is dot z e = some-none (sym e)
constant-is other z e = some-none (sym e)

pub operator-is : (t : Token) (o : Operator) → operator_of t ≡ some o → t ≡ operator o
operator-is (keyword k) o e = some-none (sym e)
operator-is (name m) o e = some-none (sym e)
operator-is (T.constant z) o e = some-none (sym e)
operator-is (operator p) o e = ap operator (some_same e)
operator-is T.mark o e = some-none (sym e)
operator-is comma o e = some-none (sym e)
operator-is lparen o e = some-none (sym e)
operator-is rparen o e = some-none (sym e)
operator-is dot o e = some-none (sym e)
operator-is other o e = some-none (sym e)

-- a reader finds only what the grammar spells
abbrev pub Exact : {A : Type 0} → (A → List Token → List Token) → Reader A → Type 0
Exact sp r = Sound (λ ts. ts) sp r

pub name_sound : Exact spell_name a_name
name_sound = a_token-sound name_of name name_is

pub given-sound : Exact spell_given a_given
given-sound = passing-sound (done-sound mark (λ ts. refl)) (bind-sound (a_token-sound constant_of T.constant constant-is) (λ z. done-sound _ (λ ts. refl)))

pub dotted-sound : Exact spell_dotted a_dotted
dotted-sound = bind-sound name_sound (λ t. expect-sound (bind-sound name_sound (λ c. done-sound _ (λ ts. refl))))

pub term-sound : {C : Type 0} {col : C → List Token → List Token} {a_column : Reader C} → Exact col a_column → Exact (spell_term col) (a_term a_column)
term-sound s = either-sound (bind-sound s (λ n. done-sound _ (λ ts. refl))) (bind-sound given-sound (λ v. done-sound _ (λ ts. refl)))

pub setting-sound : Exact spell_setting a_setting
setting-sound = bind-sound name_sound (λ n. expect-sound (bind-sound given-sound (λ v. done-sound _ (λ ts. refl))))

pub list-sound : {A : Type 0} {item : Reader A} {sp : A → List Token → List Token} → Exact sp item → (n : ℕ) → Exact (spell_list sp) (a_list item n)
list-sound s zero = fails-sound
list-sound s (suc n) = bind-sound s (λ x. passing-sound (bind-sound (list-sound s n) (λ xs. done-sound _ (λ ts. refl))) (done-sound _ (λ ts. refl)))

module _ {C : Type 0} {col : C → List Token → List Token} {a_column : Reader C} (s : Exact col a_column) where
  null-sound : (c : C) → Sound (λ ts. col c (keyword IS ∷ ts)) (spell_test col) (a_null a_column c)
  null-sound c = passing-sound (expect-sound (done-sound (tests-not-null c) (λ ts. refl))) (expect-sound (done-sound (tests_null c) (λ ts. refl)))

  rest-sound : (a : Term C) → Sound (spell_term col a) (spell_test col) (a_rest a_column a)
  rest-sound a = bind-sound (a_token-sound operator_of operator operator-is) (λ o. bind-sound (term-sound s) (λ b. done-sound (compares a o b) (λ ts. refl)))

  behind-sound : (a : Term C) → Sound (spell_term col a) (spell_test col) (a_test a_column a)
  behind-sound (column c) = passing-sound (null-sound c) (rest-sound (column c))
  behind-sound (given v) = rest-sound (given v)

  pub comparison-sound : Exact (spell_condition col) (a_comparison a_column)
  comparison-sound = bind-sound (term-sound s) (λ a. made-sound compare (λ c ts. refl) (behind-sound a))

  pub condition_sound : (n : ℕ) (l : Level) → Exact (spell_condition col {l = l}) (a_condition a_column n l)
  unfolding a_condition
  condition_sound zero l = fails-sound
  condition_sound (suc n) atom =
      passing-sound (bind-sound (condition_sound n atom) (λ c. done-sound _ (λ ts. refl)))
      (passing-sound (bind-sound (condition_sound n disjunction) (λ c. expect-sound (done-sound _ (λ ts. refl)))) comparison-sound)
  condition_sound (suc n) conjunction =
      bind-sound (condition_sound n atom) (λ c.
      passing-sound (bind-sound (condition_sound n conjunction) (λ d. done-sound _ (λ ts. refl))) (done-sound _ (λ ts. refl)))
  condition_sound (suc n) disjunction =
      bind-sound (condition_sound n conjunction) (λ c.
      passing-sound (bind-sound (condition_sound n disjunction) (λ d. done-sound _ (λ ts. refl))) (done-sound _ (λ ts. refl)))

-- ROWS or RING
abbrev pub spell_size : Bool → List Token → List Token
spell_size ring more = keyword (size_word ring) ∷ more

pub size-sound : Exact spell_size a_size_word
size-sound = passing-sound (done-sound false (λ ts. refl)) (expect-sound (done-sound true (λ ts. refl)))

pub size-complete : (ring : Bool) (more : List Token) → a_size_word (spell_size ring more) ≡ some (ring, more)
size-complete false more = refl
size-complete true more = refl

-- a WHERE and a sentence, with more tokens after them
abbrev pub spell_where_to : {C : Type 0} → (C → List Token → List Token) → Optional (Test C) → List Token → List Token
spell_where_to col always more = more
spell_where_to col (under c) more = keyword WHERE ∷ spell_condition col c more

abbrev pub spell_to : Sentence → List Token → List Token
spell_to (table t cs ring z) more = keyword TABLE ∷ name t ∷ lparen ∷ spell_list spell_name cs (rparen ∷ keyword (size_word ring) ∷ T.constant z ∷ more)
spell_to (select cs t w) more = keyword SELECT ∷ spell_list spell_name cs (keyword FROM ∷ name t ∷ spell_where_to spell_name w more)
spell_to (pair cs t u w) more = keyword SELECT ∷ spell_list spell_dotted cs (keyword FROM ∷ name t ∷ comma ∷ name u ∷ spell_where_to spell_dotted w more)
spell_to (insert t vs) more = keyword INSERT ∷ keyword INTO ∷ name t ∷ keyword VALUES ∷ lparen ∷ spell_list spell_given vs (rparen ∷ more)
spell_to (update t ss w) more = keyword UPDATE ∷ name t ∷ keyword SET ∷ spell_list spell_setting ss (spell_where_to spell_name w more)
spell_to (delete t w) more = keyword DELETE ∷ keyword FROM ∷ name t ∷ spell_where_to spell_name w more

pub where-ends : {C : Type 0} (col : C → List Token → List Token) (w : Optional (Test C)) → spell_where_to col w [] ≡ spell_where col w
where-ends col always = refl
where-ends col (under c) = refl

pub spell-ends : (s : Sentence) → spell_to s [] ≡ spell s
unfolding spell
spell-ends (table t cs ring z) = refl
spell-ends (select cs t w) = ap (λ us. keyword SELECT ∷ spell_list spell_name cs (keyword FROM ∷ name t ∷ us)) (where-ends spell_name w)
spell-ends (pair cs t u w) = ap (λ us. keyword SELECT ∷ spell_list spell_dotted cs (keyword FROM ∷ name t ∷ comma ∷ name u ∷ us)) (where-ends spell_dotted w)
spell-ends (insert t vs) = refl
spell-ends (update t ss w) = ap (λ us. keyword UPDATE ∷ name t ∷ keyword SET ∷ spell_list spell_setting ss us) (where-ends spell_name w)
spell-ends (delete t w) = ap (λ us. keyword DELETE ∷ keyword FROM ∷ name t ∷ us) (where-ends spell_name w)

pub where-sound : {C : Type 0} {col : C → List Token → List Token} {a_column : Reader C} → Exact col a_column → (n : ℕ) → Exact (spell_where_to col) (a_where a_column n)
where-sound s n = passing-sound (bind-sound (condition_sound s n disjunction) (λ c. done-sound _ (λ ts. refl))) (done-sound _ (λ ts. refl))

pub sentence-sound : (n : ℕ) → Exact spell_to (a_sentence n)
unfolding a_sentence
sentence-sound n =
    passing-sound
    (bind-sound name_sound (λ t. expect-sound (bind-sound (list-sound name_sound n) (λ cs. expect-sound (bind-sound size-sound (λ ring.
    bind-sound (a_token-sound constant_of T.constant constant-is) (λ z. done-sound (table t cs ring z) (λ ts. refl))))))))
    (passing-sound
    (tested-sound is_paired
    (bind-sound (list-sound dotted-sound n) (λ cs. expect-sound (bind-sound name_sound (λ t. expect-sound (bind-sound name_sound (λ u.
    bind-sound (where-sound dotted-sound n) (λ w. done-sound (pair cs t u w) (λ ts. refl))))))))
    (bind-sound (list-sound name_sound n) (λ cs. expect-sound (bind-sound name_sound (λ t.
    bind-sound (where-sound name_sound n) (λ w. done-sound (select cs t w) (λ ts. refl)))))))
    (passing-sound
    (expect-sound (bind-sound name_sound (λ t. expect-sound (expect-sound (bind-sound (list-sound given-sound n) (λ vs. expect-sound (done-sound (insert t vs) (λ ts. refl))))))))
    (passing-sound
    (bind-sound name_sound (λ t. expect-sound (bind-sound (list-sound setting-sound n) (λ ss.
    bind-sound (where-sound name_sound n) (λ w. done-sound (update t ss w) (λ ts. refl))))))
    (passing-sound
    (expect-sound (bind-sound name_sound (λ t. bind-sound (where-sound name_sound n) (λ w. done-sound (delete t w) (λ ts. refl)))))
    fails-sound))))

pub sound-sentence : (n : ℕ) (ts : List Token) (s : Sentence) (more : List Token) → a_sentence n ts ≡ some (s, more) → ts ≡ spell_to s more
sound-sentence n = sound-read (sentence-sound n)

-- ---- a condition at its first token, one call deep

module _ {C : Type 0} (a_column : Reader C) (n : ℕ) (ts : List Token) where
  pub reads-not : a_condition a_column (suc n) atom (keyword NOT ∷ ts) ≡ then (a_condition a_column n atom ts) (λ c. done (negate c))
  unfolding a_condition
  reads-not = refl

  pub reads-open : a_condition a_column (suc n) atom (lparen ∷ ts) ≡ then (a_condition a_column n disjunction ts) (λ c. expect rparen >> done (group c))
  unfolding a_condition
  reads-open = refl

  pub reads-compare : begins (keyword NOT) ts ≡ false → begins lparen ts ≡ false → a_condition a_column (suc n) atom ts ≡ a_comparison a_column ts
  unfolding a_condition
  reads-compare i j =
      passing-stops (keyword NOT) (a_condition a_column n atom >>= λ c. done (negate c))
      (passing lparen (a_condition a_column n disjunction >>= λ c. expect rparen >> done (group c)) (a_comparison a_column)) ts i
      ∙ passing-stops lparen (a_condition a_column n disjunction >>= λ c. expect rparen >> done (group c)) (a_comparison a_column) ts j

  pub reads-and : a_condition a_column (suc n) conjunction ts
      ≡ then (a_condition a_column n atom ts) (λ c. passing (keyword AND) (a_condition a_column n conjunction >>= λ d. done (both c d)) (done (alone c)))
  unfolding a_condition
  reads-and = refl

  pub reads-or : a_condition a_column (suc n) disjunction ts
      ≡ then (a_condition a_column n conjunction ts) (λ c. passing (keyword OR) (a_condition a_column n disjunction >>= λ d. done (either c d)) (done (single c)))
  unfolding a_condition
  reads-or = refl

-- ---- completeness

-- what may follow a condition of a level: nothing that would go on with it
abbrev pub Stops : Level → List Token → Type 0
Stops atom more = Unit {0}
Stops conjunction more = begins (keyword AND) more ≡ false
Stops disjunction more = (begins (keyword AND) more ≡ false) × (begins (keyword OR) more ≡ false)

-- how many calls deep a condition is read, at most
abbrev pub height : {A : Type 0} {l : Level} → Tree A l → ℕ
height (compare c) = 1
height (negate c) = suc (height c)
height (group c) = suc (height c)
height (alone c) = suc (height c)
height (both c d) = suc (height c + height d)
height (single c) = suc (height c)
height (either c d) = suc (height c + height d)

pub given-complete : (v : Given) (more : List Token) → a_given (given_token v ∷ more) ≡ some (v, more)
given-complete (constant z) more = refl
given-complete mark more = refl

-- a column is found in its spelling, which begins with a name
pub record Column {C : Type 0} (col : C → List Token → List Token) (a_column : Reader C) : Type 0 where
  pub back : (x : C) (more : List Token) → a_column (col x more) ≡ some (x, more)
  pub starts : (x : C) (more : List Token) → (n : Name) × (ts : List Token) × (col x more ≡ name n ∷ ts)
  pub long : (x : C) (more : List Token) → length more < length (col x more)
  pub no_column : (v : Given) (more : List Token) → a_column (given_token v ∷ more) ≡ none

module _ {C : Type 0} {col : C → List Token → List Token} {a_column : Reader C} (k : Column col a_column) where
  columns : Reader (Term C)
  columns = a_column >>= λ (n : C). done (column n)

  values : Reader (Term C)
  values = a_given >>= λ (v : Given). done (given v)

  pub term-complete : (x : Term C) (more : List Token) → a_term a_column (spell_term col x more) ≡ some (x, more)
  unfolding columns values
  term-complete (column n) more = either_first columns values (col n more) (column n, more) (then_some (λ (n : C). done (column n)) (k.back n more))
  term-complete (given v) more =
      either_second columns values (given_token v ∷ more) (ap (λ o. then o (λ (n : C). done (column n))) (k.no_column v more))
      ∙ then_some (λ (v : Given). done (given v)) (given-complete v more)

  -- an operand begins a comparison
  pub begins-comparison : (n : ℕ) (x : Term C) (more : List Token) → a_condition a_column (suc n) atom (spell_term col x more) ≡ a_comparison a_column (spell_term col x more)
  unfolding a_condition
  begins-comparison n (column m) more =
      let e = (k.starts m more).2 in
      subst (λ ts. a_condition a_column (suc n) atom ts ≡ a_comparison a_column ts) (sym e) refl
  begins-comparison n (given (constant z)) more = refl
  begins-comparison n (given mark) more = refl

  -- the first operand of a test, and what stands behind it
  abbrev first_term : Test C → Term C
  first_term (compares a o b) = a
  first_term (tests_null c) = column c
  first_term (tests-not-null c) = column c

  abbrev spell_rest : Test C → List Token → List Token
  spell_rest (compares a o b) more = operator o ∷ spell_term col b more
  spell_rest (tests_null c) more = keyword IS ∷ keyword NULL ∷ more
  spell_rest (tests-not-null c) more = keyword IS ∷ keyword NOT ∷ keyword NULL ∷ more

  spell-first : (c : Test C) (more : List Token) → spell_test col c more ≡ spell_term col (first_term c) (spell_rest c more)
  spell-first (compares a o b) more = refl
  spell-first (tests_null c) more = refl
  spell-first (tests-not-null c) more = refl

  rest-complete : (c : Test C) (more : List Token) → a_test a_column (first_term c) (spell_rest c more) ≡ some (c, more)
  rest-complete (compares (column n) o b) more = then_some _ (term-complete b more)
  rest-complete (compares (given v) o b) more = then_some _ (term-complete b more)
  rest-complete (tests_null c) more = refl
  rest-complete (tests-not-null c) more = refl

  pub comparison-complete : (c : Test C) (more : List Token) → a_comparison a_column (spell_test col c more) ≡ some (compare c, more)
  comparison-complete c more =
      ap (a_comparison a_column) (spell-first c more)
      ∙ then_some _ (term-complete (first_term c) (spell_rest c more))
      ∙ then_some _ (rest-complete c more)

  -- with calls enough the reader finds each condition in its spelling
  pub complete-condition : {l : Level} (c : Tree (Test C) l) (more : List Token) (n : ℕ) → height c ≤ n → Stops l more
      → a_condition a_column n l (spell_condition col c more) ≡ some (c, more)
  unfolding a_condition
  complete-condition (compare c) more zero h s = absurd (omega arith)
  complete-condition (compare c) more (suc n) h s =
      subst (λ ts. a_condition a_column (suc n) atom ts ≡ a_comparison a_column ts) (sym (spell-first c more)) (begins-comparison n (first_term c) (spell_rest c more))
      ∙ comparison-complete c more
  complete-condition (negate c) more zero h s = absurd (omega arith)
  complete-condition (negate c) more (suc n) h s = then_some _ (complete-condition c more n (omega arith) tt)
  complete-condition (group c) more zero h s = absurd (omega arith)
  complete-condition (group c) more (suc n) h s = then_some _ (complete-condition c (rparen ∷ more) n (omega arith) (refl, refl))
  complete-condition (alone c) more zero h s = absurd (omega arith)
  complete-condition (alone c) more (suc n) h s = then_some _ (complete-condition c more n (omega arith) tt)
      ∙ passing-stops (keyword AND) (a_condition a_column n conjunction >>= λ d. done (both c d)) (done (alone c)) more s
  complete-condition (both c d) more zero h s = absurd (omega arith)
  complete-condition (both c d) more (suc n) h s =
      then_some _ (complete-condition c (keyword AND ∷ spell_condition col d more) n (omega arith) tt)
      ∙ then_some _ (complete-condition d more n (omega arith) s)
  complete-condition (single c) more zero h s = absurd (omega arith)
  complete-condition (single c) more (suc n) h s = then_some _ (complete-condition c more n (omega arith) s.0)
      ∙ passing-stops (keyword OR) (a_condition a_column n disjunction >>= λ d. done (either c d)) (done (single c)) more s.1
  complete-condition (either c d) more zero h s = absurd (omega arith)
  complete-condition (either c d) more (suc n) h s =
      then_some _ (complete-condition c (keyword OR ∷ spell_condition col d more) n (omega arith) refl)
      ∙ then_some _ (complete-condition d more n (omega arith) s)

  -- a spelling has enough tokens that three calls for each are enough
  abbrev pub spare : Level → ℕ
  spare atom = 2
  spare conjunction = 1
  spare disjunction = 0

  term-long : (x : Term C) (more : List Token) → length more < length (spell_term col x more)
  term-long (column n) more = k.long n more
  term-long (given v) more = le_refl (suc (length more))

  -- a test has three tokens or more
  test-long : (c : Test C) (more : List Token) → 3 + length more ≤ length (spell_test col c more)
  test-long (compares a o b) more = omega (arith, term-long a (operator o ∷ spell_term col b more), term-long b more)
  test-long (tests_null c) more = omega (arith, k.long c (keyword IS ∷ keyword NULL ∷ more))
  test-long (tests-not-null c) more = omega (arith, k.long c (keyword IS ∷ keyword NOT ∷ keyword NULL ∷ more))

  pub high : {l : Level} (c : Tree (Test C) l) (more : List Token) → height c + 3 * length more + spare l ≤ 3 * length (spell_condition col c more)
  high (compare c) more = omega (arith, test-long c more)
  high (negate c) more = omega (arith, high c more)
  high (group c) more = omega (arith, high c (rparen ∷ more))
  high (alone c) more = omega (arith, high c more)
  high (both c d) more = omega (arith, high c (keyword AND ∷ spell_condition col d more), high d more)
  high (single c) more = omega (arith, high c more)
  high (either c d) more = omega (arith, high c (keyword OR ∷ spell_condition col d more), high d more)

-- a WHERE
abbrev pub height_in : {A : Type 0} → Optional A → ℕ
height_in always = 0
height_in (under c) = height c

abbrev pub StopsWhere : List Token → Type 0
StopsWhere more = (begins (keyword WHERE) more ≡ false) × Stops disjunction more

module _ {C : Type 0} {col : C → List Token → List Token} {a_column : Reader C} (k : Column col a_column) where
  pub complete-where : (w : Optional (Test C)) (more : List Token) (n : ℕ) → height_in w ≤ n → StopsWhere more → a_where a_column n (spell_where_to col w more) ≡ some (w, more)
  complete-where always more n h s = passing-stops (keyword WHERE) (a_condition a_column n disjunction >>= λ c. done (under c)) (done always) more s.0
  complete-where (under c) more n h s = then_some _ (complete-condition k c more n h s.1)

  pub high-where : (w : Optional (Test C)) (more : List Token) → height_in w + 3 * length more ≤ 3 * length (spell_where_to col w more)
  high-where always more = omega arith
  high-where (under c) more = omega (arith, high k c more)

pub bare : Column spell_name a_name
bare = record {
  back = λ x more. refl;
  starts = λ x more. (x, more, refl);
  long = λ x more. le_refl (suc (length more));
  no_column = λ v more. bare-none v more;
}
  where
    bare-none : (v : Given) (more : List Token) → a_name (given_token v ∷ more) ≡ none
    bare-none (constant z) more = refl
    bare-none mark more = refl

pub dotted : Column spell_dotted a_dotted
dotted = record {
  back = λ x more. refl;
  starts = λ x more. (x.0, dot ∷ name x.1 ∷ more, refl);
  long = λ x more. omega arith;
  no_column = λ v more. dotted-none v more;
}
  where
    dotted-none : (v : Given) (more : List Token) → a_dotted (given_token v ∷ more) ≡ none
    dotted-none (constant z) more = refl
    dotted-none mark more = refl

-- a reader that finds each item in its spelling, of a token or more
pub record Complete {A : Type 0} (sp : A → List Token → List Token) (item : Reader A) : Type 0 where
  pub back : (x : A) (more : List Token) → item (sp x more) ≡ some (x, more)
  pub long : (x : A) (more : List Token) → length more < length (sp x more)

abbrev pub size : {A : Type 0} → Listed A → ℕ
size (last x) = 1
size (next x xs) = suc (size xs)

module _ {A : Type 0} {sp : A → List Token → List Token} {item : Reader A} where
  pub complete-list : Complete sp item → (xs : Listed A) (more : List Token) (n : ℕ) → size xs ≤ n → begins comma more ≡ false
      → a_list item n (spell_list sp xs more) ≡ some (xs, more)
  complete-list f (last x) more zero h s = absurd (omega arith)
  complete-list f (last x) more (suc n) h s = then_some _ (f.back x more) ∙ passing-stops comma (a_list item n >>= λ xs. done (next x xs)) (done (last x)) more s
  complete-list f (next x xs) more zero h s = absurd (omega arith)
  complete-list f (next x xs) more (suc n) h s =
      then_some _ (f.back x (comma ∷ spell_list sp xs more)) ∙ then_some _ (complete-list f xs more n (omega arith) s)

  pub high-list : Complete sp item → (xs : Listed A) (more : List Token) → size xs + length more ≤ length (spell_list sp xs more)
  high-list f (last x) more = omega (arith, f.long x more)
  high-list f (next x xs) more = omega (arith, f.long x (comma ∷ spell_list sp xs more), high-list f xs more)

pub names : Complete spell_name a_name
names = record { back = λ x more. refl; long = λ x more. le_refl (suc (length more)) }

pub dots : Complete spell_dotted a_dotted
dots = record { back = λ x more. refl; long = λ x more. omega arith }

pub givens : Complete spell_given a_given
givens = record { back = given-complete; long = λ x more. le_refl (suc (length more)) }

pub settings : Complete spell_setting a_setting
settings = record { back = λ x more. then_some _ (given-complete x.1 more); long = λ x more. omega arith }

-- behind a selection, none of whose tokens is FROM, stands what tells one table from two
pub behind-list : {A : Type 0} (sp : A → List Token → List Token) → ((x : A) (more : List Token) → is_paired (sp x more) ≡ is_paired more)
    → (xs : Listed A) (more : List Token) → is_paired (spell_list sp xs (keyword FROM ∷ more)) ≡ comma_second more
behind-list sp f (last x) more = f x (keyword FROM ∷ more)
behind-list sp f (next x xs) more = f x (comma ∷ spell_list sp xs (keyword FROM ∷ more)) ∙ behind-list sp f xs more

complete-to : (s : Sentence) (n : ℕ) → 3 * length (spell_to s []) ≤ n → a_sentence n (spell_to s []) ≡ some (s, [])
unfolding a_sentence
complete-to (table t cs ring z) n h =
    let more = rparen ∷ keyword (size_word ring) ∷ T.constant z ∷ [] in
    then_some _ (complete-list names cs more n (omega (arith, high-list names cs more)) refl)
    ∙ then_some _ (size-complete ring (T.constant z ∷ []))
complete-to (pair cs t u w) n h =
    let more = keyword FROM ∷ name t ∷ comma ∷ name u ∷ spell_where_to spell_dotted w [] in
    ap (λ (b : Bool). elim b [ true ↦ a_pair n (spell_list spell_dotted cs more) | false ↦ a_single n (spell_list spell_dotted cs more) ])
    (behind-list spell_dotted (λ x more. refl) cs _)
    ∙ then_some _ (complete-list dots cs more n (omega (arith, high-list dots cs more)) refl)
    ∙ then_some _ (complete-where dotted w [] n (omega (arith, high-where dotted w [], high-list dots cs more)) (refl, (refl, refl)))
complete-to (select cs t w) n h =
    let more = keyword FROM ∷ name t ∷ spell_where_to spell_name w [] in
    ap (λ (b : Bool). elim b [ true ↦ a_pair n (spell_list spell_name cs more) | false ↦ a_single n (spell_list spell_name cs more) ])
    (behind-list spell_name (λ x more. refl) cs _ ∙ no-comma w)
    ∙ then_some _ (complete-list names cs more n (omega (arith, high-list names cs more)) refl)
    ∙ then_some _ (complete-where bare w [] n (omega (arith, high-where bare w [], high-list names cs more)) (refl, (refl, refl)))
  where
    no-comma : (w : Optional (Test Name)) → comma_second (name t ∷ spell_where_to spell_name w []) ≡ false
    no-comma always = refl
    no-comma (under c) = refl
complete-to (insert t vs) n h = then_some _ (complete-list givens vs (rparen ∷ []) n (omega (arith, high-list givens vs (rparen ∷ []))) refl)
complete-to (update t ss w) n h =
    then_some _ (complete-list settings ss (spell_where_to spell_name w []) n (omega (arith, high-list settings ss (spell_where_to spell_name w []))) (stops w))
    ∙ then_some _ (complete-where bare w [] n (omega (arith, high-where bare w [], high-list settings ss (spell_where_to spell_name w []))) (refl, (refl, refl)))
  where
    stops : (w : Optional (Test Name)) → begins comma (spell_where_to spell_name w []) ≡ false
    stops always = refl
    stops (under c) = refl
complete-to (delete t w) n h = then_some _ (complete-where bare w [] n (omega (arith, high-where bare w [])) (refl, (refl, refl)))

-- with calls enough the reader finds each sentence in its spelling
pub complete-sentence : (s : Sentence) (n : ℕ) → 3 * length (spell s) ≤ n → a_sentence n (spell s) ≡ some (s, [])
complete-sentence s n h =
    subst (λ us. a_sentence n us ≡ some (s, [])) (spell-ends s) (complete-to s n (omega (arith, ap length (spell-ends s))))

-- ---- the reader decides

-- what is read with nothing after it
pub whole-read : {A : Type 0} (o : Option (A × List Token)) (x : A) → whole o ≡ some x → o ≡ some (x, [])
whole-read none x e = some-none (sym e)
whole-read {A} (some r) x e = go r.0 r.1 e
  where
    go : (y : A) (ts : List Token) → whole (some (y, ts)) ≡ some x → ◌≡◌ {A = Option (A × List Token)} (some (y, ts)) (some (x, []))
    go y [] q = ap (λ z. some (z, [])) (some_same q)
    go y (t ∷ ts) q = some-none (sym q)

-- with any calls from three a token on, some tokens are read as a sentence exactly if they are its spelling
pub decides-from : (n : ℕ) (ts : List Token) (s : Sentence) → 3 * length ts ≤ n → (whole (a_sentence n ts) ≡ some s) ↔ (ts ≡ spell s)
decides-from n ts s h = (
  (λ e. sound-sentence n ts s [] (whole-read (a_sentence n ts) s e) ∙ spell-ends s),
  (λ e. subst (λ us. whole (a_sentence n us) ≡ some s) (sym e) (ap whole (complete-sentence s n (omega (arith, ap length e))))),
)

-- some tokens are read as a sentence exactly if they are its spelling
pub decides : (ts : List Token) (s : Sentence) → (read ts ≡ some s) ↔ (ts ≡ spell s)
unfolding read
decides ts s = decides-from (3 * length ts) ts s (le_refl (3 * length ts))

-- one spelling, one sentence
pub unique : (s t : Sentence) → spell s ≡ spell t → s ≡ t
unique s t e = some_same (sym ((decides (spell s) s).1 refl) ∙ (decides (spell s) t).1 e)

-- some tokens are read as nothing exactly if they spell no sentence
pub no-sentence : (ts : List Token) → (read ts ≡ none) ↔ ((s : Sentence) → ts ≡ spell s → ⊥)
no-sentence ts = (
  (λ e s q. some-none (sym ((decides ts s).1 q) ∙ e)),
  (λ f. go f (read ts) refl),
)
  where
    go : ((s : Sentence) → ts ≡ spell s → ⊥) → (o : Option Sentence) → read ts ≡ o → read ts ≡ none
    go f none e = e
    go f (some s) e = absurd (f s ((decides ts s).0 e))
