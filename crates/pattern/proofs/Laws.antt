-- Laws of the patterns of stored statements, for callers: they may be judged one clause at a time; of statements that sentences compile to they are the patterns of
-- the sentences, with those of a row that a ring pushes out, so that where none agrees the answer stays; and there are few. Assumes nothing.
use Rattle.std.specs.Prelude.{Option, Some, None}
use mathlib.Core.Path.{◌≡◌, refl, sym, ap, ap₂, ◌∙◌}
use mathlib.Core.Bool.{Bool, true, false, not, ◌&&◌, ◌||◌, cond}
use mathlib.Core.List.{List, [], ◌∷◌, ◌++◌, map}
use Prim.Native.Nat.{ℕ, zero, suc, ◌≤◌}
use native.Mathlib.Nat.{min-eq_left, le_trans}
use native.Mathlib.Omega.{arith}
use lib.IntN.{ℤ}
use lib.Dec.{eqb, leb, ltb}
use lib.ListN.{length, get_or, replicate, length-map, length-replicate}
use borrow.Author.Tests.{lt-ltb, le-leb, ltb-false}
use Rattle.lists.specs.Lists.{any, All, nil, cons, keep, pairs, from}
use Rattle.lists.specs.Tests.{eq_list}
use Rattle.lists.proofs.Bools.{and_both}
use Rattle.lists.proofs.Lists.{All-every, All-keep, All-image, any_same, any-map, map-take}
use Rattle.lists.proofs.Places.{All-at, length-keep}
use Rattle.lists.proofs.Moved.{from-count}
use Rattle.lists.proofs.Changed.{any-places, All-distinct, length-distinct}
use Rattle.meaning.specs.Condition.{Where, sides, renamed, clauses_of}
use Rattle.meaning.specs.Postfix.{leaves, is_postfix}
use Rattle.meaning.specs.Resolve.{parameter_count}
use Rattle.meaning.specs.Limits.{most_marks, most_comparisons}
use Rattle.meaning.specs.Names.{Schema}
use Rattle.meaning.specs.Statement as M
use Rattle.meaning.specs.Statement.{insert, delete, update}
use Rattle.meaning.specs.Meaning.{Row, answer, changed}
use Rattle.meaning.specs.Pattern as P
use Rattle.meaning.specs.Pattern.{Side, neither, first, second, side_of, is_side, start_of, same_table, Joint, column, constant, asked, given, of_value, of_update, of_query, moved, placed_from, replacing, operand_columns, Clause, same, label, class, contradictory, constants, update_marks, number, mark, anything, class_entry, entry, pattern, same_entry, clause_patterns, chosen, joint_count, most_clauses, agrees_at, agrees, removal, matches_two}
use Rattle.meaning.specs.Demand.{ChangesWithin, StandsBeside, rows_beside}
use Rattle.meaning.proofs.Classes.{marks-have}
use Rattle.meaning.proofs.Clauses.{clauses_of-replaced, joint-length}
use Rattle.meaning.proofs.Postfix.{sides-in, postfix-where}
use Rattle.meaning.proofs.Weakening.{any-clause, matches-two, answer_stays}
use Rattle.statement.specs.Compiled.{padded, left_side, right_side, new_value, form_of_change, settings_of_change, where_of_change, update_struct}
use Rattle.statement.specs.Sound.{value_read, operand_read, used_comparisons, used_settings, second_read, settings_read, condition_nodes, AgreesCondition, AgreesQuery, AgreesUpdate}
use Rattle.statement.specs.SoundTest.{setting_operands, columns_at, sound_query, sound_update}
use Rattle.statement.proofs.Assembled.{take-padded}
use Rattle.statement.proofs.SoundSettings.{placed-values}
use Rattle.statement.proofs.SoundCondition.{agrees-clauses, condition-parts}
use Rattle.statement.proofs.SoundQuery.{query-parts}
use Rattle.statement.proofs.SoundUpdate.{update-parts}
use Rattle.statement.specs.declared.Operand.{Operand}
use Rattle.statement.proofs.ByKind.{by_kind, by-kind-value}
use Rattle.statement.specs.declared.Condition.{Condition}
use Rattle.statement.specs.declared.Query.{Query}
use Rattle.statement.specs.declared.Value.{Value}
use Rattle.statement.specs.declared.Update.{Update}
use Rattle.table.specs.Rows.{answer_stored}
use Rattle.table.proofs.Means.{answer-means}
use Rattle.pattern.specs.declared.Pattern.{Pattern}
use Rattle.pattern.specs.declared.Entry.TheVariants.{Any}
use Rattle.pattern.specs.Stored.{is_read, side_by, side_read, start_by, start_read, columns_used, touches, relevant, clauses_read, query_clauses, both_clauses, joint_clauses, joint, is_formed, all_any, entry_count, patterns_stored, matches_stored, clause_total, entry_struct, pattern_struct, clause_pattern, pattern_at, filled_entry, filled_of, entry_read, agrees_stored}
use Rattle.pattern.specs.Private.Flat.{clause_agrees}
use Rattle.pattern.proofs.Least.{lowest-within}
use Rattle.pattern.proofs.Clauses.{joint-have}
use Rattle.pattern.proofs.Removal.{removal-agrees}
use Rattle.pattern.proofs.Relevant.{other-table}
use Rattle.pattern.proofs.Agreeing.{total-none}

-- ---- question marks are numbered from 1

abbrev pub Counted : Joint → Type 0
Counted (column i) = Unit {0}
Counted (constant z) = Unit {0}
Counted (asked k) = Unit {0}
Counted (given k) = 1 ≤ k

abbrev pub CountedEntry : P.Entry → Type 0
CountedEntry (number z) = Unit {0}
CountedEntry (mark k) = 1 ≤ k
CountedEntry anything = Unit {0}

query-counted : (o : Operand) → Counted (of_query column (operand_read o))
query-counted o = by_kind o (λ (p : M.Operand). Counted (of_query column p)) tt tt tt

update-counted : (k : ℕ) (o : Operand) → Counted (of_update k (operand_read o))
update-counted k o = by_kind o (λ (p : M.Operand). Counted (of_update k p)) tt (omega arith) tt

value-counted : (v : Value) → Counted (of_value (value_read v))
value-counted v = by-kind-value v (λ (w : M.Value). Counted (of_value w)) tt (λ k e. omega arith)

pub joint-counted : (q : Query) (u : Update) → All (λ (cs : Clause). All Counted (sides cs)) (joint q u)
joint-counted q u =
    joint-have Counted tt q u (start_read q u)
    (All-every (λ c. (query-counted (left_side c), query-counted (right_side c))) (used_comparisons q.condition))
    (All-every (λ c. (update-counted (start_read q u) (left_side c), update-counted (start_read q u) (right_side c))) (used_comparisons u.condition))
    (All-every (λ s. value-counted (new_value s)) (used_settings u))

entry-counted : (cs : Clause) → All Counted (sides cs) → (k : ℕ) → CountedEntry (entry cs k)
unfolding entry class
entry-counted cs h k =
    go (constants (class cs (asked k))) (update_marks (class cs (asked k)))
    (marks-have (All-keep (λ (y : Joint). same (label cs y) (label cs (asked k))) (λ y p e. p) h))
  where
    go : (zs : List ℤ) (ks : List ℕ) → All (λ (k : ℕ). 1 ≤ k) ks → CountedEntry (class_entry zs ks)
    go [] [] a = tt
    go [] (m ∷ ms) a = lowest-within 1 m ms a
    go (z ∷ zs) ks a = tt

pub pattern-counted : (n : ℕ) (cs : Clause) → All Counted (sides cs) → All CountedEntry (pattern n cs)
pattern-counted n cs h = All-image (entry cs) (All-every (entry-counted cs h) (from 1 n))

pub any-counted : (n : ℕ) → All CountedEntry (replicate n anything)
any-counted zero = nil
any-counted (suc n) = cons tt (any-counted n)

-- ---- one clause at a time

module _ (us : List ℤ) where
  -- an entry filled in agrees with a value where the entry does
  filled_at : (e : P.Entry) → CountedEntry e → (z : ℤ) → agrees_at [] (entry_read (filled_entry us (entry_struct e))) z ≡ agrees_at us e z
  filled_at (number y) h z = refl
  filled_at (mark zero) h z = absurd (omega arith)
  filled_at (mark (suc k)) h z = refl
  filled_at anything h z = refl

  filled-agrees : (zs : List ℤ) {es : P.Pattern} → All CountedEntry es → agrees [] zs (map entry_read (map (filled_entry us) (map entry_struct es))) ≡ agrees us zs es
  filled-agrees [] nil = refl
  filled-agrees [] (cons p h) = refl
  filled-agrees (z ∷ zs) nil = refl
  filled-agrees (z ∷ zs) (cons {x = e} p h) = ap₂ ◌&&◌ (filled_at e p z) (filled-agrees zs h)

  struct-agrees : (zs : List ℤ) (es : P.Pattern) → All CountedEntry es → agrees_stored (filled_of us (pattern_struct es)) zs ≡ agrees us zs es
  unfolding agrees_stored filled_of
  struct-agrees zs es h =
      ap (λ l. agrees [] zs (map entry_read l))
      (sym (map-take (filled_entry us) (length es) (padded 8 Any (map entry_struct es)))
      ∙ ap (map (filled_entry us)) (take-padded 8 Any (map entry_struct es) (length es) (length-map es entry_struct)))
      ∙ filled-agrees zs h

  clause-agrees : (zs : List ℤ) (n : ℕ) (cs : Clause) → All Counted (sides cs)
      → clause_agrees us zs (clause_pattern n cs) ≡ (not (contradictory cs) && agrees us zs (pattern n cs))
  unfolding agrees_stored filled_of
  clause-agrees zs n cs h = go (contradictory cs)
    where
      go : (b : Bool) → clause_agrees us zs (cond b None (Some (pattern_struct (pattern n cs)))) ≡ (not b && agrees us zs (pattern n cs))
      go true = refl
      go false = struct-agrees zs (pattern n cs) (pattern-counted n cs h)

-- a pattern agrees exactly where that of some clause does
pub matches-one-by-one : (q : Query) (u : Update) (us zs : List ℤ)
    → any (λ (i : ℕ). clause_agrees us zs (pattern_at q u i)) (from 0 (clause_total q u)) ≡ matches_stored q u us zs
unfolding clause_total pattern_at matches_stored patterns_stored
matches-one-by-one q u us zs = go (relevant q u) (all_any q u)
  where
    n : ℕ
    n = entry_count q

    total : Bool → Bool → ℕ
    total r b = cond r (cond b 1 (length (joint q u))) 0

    at : Bool → Bool → ℕ → Option Pattern
    at r b i = cond (ltb i (cond b 1 (length (joint q u)))) (cond b (Some (pattern_struct (replicate n anything))) (clause_pattern n (get_or (joint q u) i []))) None

    go : (r b : Bool) → any (λ (i : ℕ). clause_agrees us zs (at r b i)) (from 0 (total r b)) ≡ any (agrees us zs) (chosen r b n (joint q u))
    go false b = refl
    go true true = ap (λ (b : Bool). b || false) (struct-agrees us zs (replicate n anything) (any-counted n))
    go true false =
        any-places (λ (i : ℕ). clause_agrees us zs (at true false i)) (λ (c : Clause). not (contradictory c) && agrees us zs (pattern n c)) (joint q u) []
        (λ i h. ap (λ (b : Bool). clause_agrees us zs (cond b (clause_pattern n (get_or (joint q u) i [])) None)) (lt-ltb i (length (joint q u)) h)
        ∙ clause-agrees us zs n (get_or (joint q u) i []) (All-at i [] h (joint-counted q u)))
        ∙ sym (any-clause us zs n (joint q u))

-- ---- statements that sentences compile to

-- no more parameters and comparisons than the limits allow
pub record Few (q : Query) (u : Update) : Type 0 where
  pub parameters : q.parameters ≤ most_marks
  pub query_comparisons : q.condition.count ≤ most_comparisons
  pub update_comparisons : u.condition.count ≤ most_comparisons

pub sound-few : (ts : List Schema) (q : Query) (u : Update) → sound_query ts q ≡ true → sound_update ts u ≡ true → Few q u
sound-few ts q u h k =
    let a = query-parts ts q h in
    let b = update-parts ts u k in
    record {
      parameters = a.few_parameters;
      query_comparisons = (condition-parts _ 0 q.condition a.condition_sound).few;
      update_comparisons = (condition-parts (columns_at ts u.table) (parameter_count (setting_operands u)) u.condition b.condition_sound).few;
    }

module _ (c : Condition) (w : Where M.Operand) (A : AgreesCondition c w) where
  clauses_are : clauses_read c ≡ clauses_of w
  unfolding clauses_read
  clauses_are = agrees-clauses c w A

  formed : c.count ≤ most_comparisons → is_formed c ≡ true
  unfolding is_formed
  formed h = and_both (leb c.count 8) (is_postfix (condition_nodes c)) (le-leb c.count 8 h) (ap is_postfix A.nodes_are ∙ postfix-where w)

module _ (q : Query) (r : M.Query) (A : AgreesQuery q r) where
  columns_are : columns_used q ≡ P.columns_used r
  columns_are =
      ap₂ (λ (is : List ℕ) (os : List M.Operand). is ++ operand_columns os) A.selected_are
      (ap (λ ns. sides (leaves ns)) A.condition_is.nodes_are ∙ sides-in r.condition)

  query-clauses : (f : ℕ → Joint) → query_clauses f q ≡ P.query_clauses f r
  query-clauses f =
      ap (map (map (renamed (of_query f)))) (clauses_are q.condition r.condition A.condition_is)
      ∙ sym (clauses_of-replaced (of_query f) r.condition)

  -- where k columns stand before those of the updated table
  module _ (u : Update) (k : ℕ) where
    touches-is : (ch : M.Change) → u.form ≡ form_of_change ch → settings_read u ≡ settings_of_change ch → touches k u.form q u ≡ P.touches k r ch
    touches-is (insert os) f s = ap (λ (n : ℕ). touches k n q u) f
    touches-is (delete g) f s = ap (λ (n : ℕ). touches k n q u) f
    touches-is (update ss g) f s =
        ap (λ (n : ℕ). touches k n q u) f
        ∙ ap₂ (λ (l : List (ℕ × M.Value)) (is : List ℕ). any (λ (s : ℕ × M.Value). any (eqb s.0) is) (moved k l)) s columns_are

    both-clauses : (g : Where M.Operand) → AgreesCondition u.condition g → (f : ℕ → Joint) → both_clauses k u f q ≡ P.both_clauses k g f r
    both-clauses g B f = ap₂ pairs (ap (map (map (renamed (of_update k)))) (clauses_are u.condition g B) ∙ sym (clauses_of-replaced (of_update k) g)) (query-clauses f)

    joint-clauses : (ch : M.Change) → u.form ≡ form_of_change ch → settings_read u ≡ settings_of_change ch → AgreesCondition u.condition (where_of_change ch)
        → joint_clauses k u.form q u ≡ P.joint_clauses k r ch
    unfolding joint_clauses P.joint_clauses
    joint-clauses (insert os) f s B =
        ap (λ (n : ℕ). joint_clauses k n q u) f
        ∙ ap (λ (vs : List M.Value). query_clauses (replacing (placed_from k vs)) q) (ap (map (λ (p : ℕ × M.Value). p.1)) s ∙ placed-values 0 os)
        ∙ query-clauses (replacing (placed_from k os))
    joint-clauses (delete g) f s B = ap (λ (n : ℕ). joint_clauses k n q u) f ∙ both-clauses g B column
    joint-clauses (update ss g) f s B =
        ap (λ (n : ℕ). joint_clauses k n q u) f
        ∙ ap₂ ◌++◌ (both-clauses g B column)
        (ap (λ (l : List (ℕ × M.Value)). both_clauses k u (replacing (moved k l)) q) s ∙ both-clauses g B (replacing (moved k ss)))

module _ (q : Query) (r : M.Query) (A : AgreesQuery q r) (u : Update) (s : M.Update) (B : AgreesUpdate u s) (few : Few q u) where
  -- A.1: the same table of the query is updated, and as many columns stand before its own
  pub side-is : side_read q u ≡ side_of r s
  unfolding side_of
  side-is = λ i. side_by (A.table_is i) (A.second_is i) (B.table_is i)

  abbrev start : ℕ
  start = start_of r (side_of r s)

  start_is : start_read q u ≡ start
  unfolding start_read
  start_is = (λ i. start_by (A.second_is i) (side-is i)) ∙ go (side_of r s)
    where
      go : (x : Side) → start_by r.second x ≡ start_of r x
      go neither = refl
      go first = refl
      go second = refl

  relevant-is : relevant q u ≡ (same_table r s && P.touches start r s.change)
  unfolding relevant
  relevant-is =
      ap₂ ◌&&◌ (ap is_side side-is) (ap (λ (k : ℕ). touches k u.form q u) start_is ∙ touches-is q r A u start s.change B.form_is B.settings_are)

  joint-is : joint q u ≡ P.joint_clauses start r s.change
  joint-is =
      ap (λ (k : ℕ). joint_clauses k u.form q u) start_is ∙ joint-clauses q r A u start s.change B.form_is B.settings_are B.condition_is

  any-is : all_any q u ≡ ltb most_clauses (joint_count r s.change)
  unfolding all_any
  any-is =
      ap₂ (λ (b : Bool) (n : ℕ). not b || ltb most_clauses n)
      (and_both (is_formed q.condition) (is_formed u.condition) (formed q.condition r.condition A.condition_is few.query_comparisons)
      (formed u.condition (where_of_change s.change) B.condition_is few.update_comparisons))
      (ap length joint-is ∙ joint-length r start s.change)

  -- the patterns of stored statements are those of their sentences
  pub patterns-mean : patterns_stored q u ≡ P.patterns r s
  unfolding patterns_stored P.patterns
  patterns-mean = λ i. chosen (relevant-is i) (any-is i) ((min-eq_left few.parameters ∙ A.parameters_are) i) (joint-is i)

  pub matches-mean : (us qs : List ℤ) → matches_stored q u us qs ≡ P.matches r s us qs
  unfolding matches_stored P.matches
  matches-mean us qs = ap (any (agrees us qs)) patterns-mean

-- ---- A.4: the update, and the removal of each row that it pushes out

abbrev pub judged_stored : Update → List Row → List Update
judged_stored u out = u ∷ map (λ (x : Row). update_struct (removal u.table x)) out

module _ (q : Query) (r : M.Query) (A : AgreesQuery q r) (u : Update) (s : M.Update) (B : AgreesUpdate u s) (few : Few q u) where
  removal-means : (us qs : List ℤ) (x : Row) → matches_stored q (update_struct (removal u.table x)) us qs ≡ P.matches r (removal s.table x) us qs
  removal-means us qs x =
      matches-mean q r A (update_struct (removal u.table x)) (removal u.table x) (removal-agrees u.table x)
      (record { parameters = few.parameters; query_comparisons = few.query_comparisons; update_comparisons = omega arith }) us qs
      ∙ ap (λ (k : ℕ). P.matches r (removal k x) us qs) B.table_is

  -- they match as those of the sentences
  pub judged-mean : (out : List Row) (us qs : List ℤ) → any (λ (v : Update). matches_stored q v us qs) (judged_stored u out) ≡ matches_two r s out us qs
  judged-mean out us qs =
      ap₂ ◌||◌ (matches-mean q r A u s B few us qs)
      (any-map (λ (x : Row). update_struct (removal u.table x)) (λ (v : Update). matches_stored q v us qs) out
      ∙ any_same (All-every (removal-means us qs) out)
      ∙ sym (any-map (removal s.table) (λ (v : M.Update). P.matches r v us qs) out))
      ∙ sym (matches-two r s out us qs)

  -- where none agrees, the answer is the same before the update and after it; the rows pushed out stood before those that it finds
  pub unmatched-stays : (qs us : List ℤ) (out rows others : List Row) → length qs ≡ r.parameters → All (ChangesWithin s.change) rows
      → All (StandsBeside r (side_of r s)) others → same_table r s ≡ true → any (λ (v : Update). matches_stored q v us qs) (judged_stored u out) ≡ false
      → answer r qs (rows_beside r.second (side_of r s) (changed s.change us rows) others) ≡ answer r qs (rows_beside r.second (side_of r s) (out ++ rows) others)
  unmatched-stays qs us out rows others n w b t h = answer_stays r qs s us out rows others n w b t (sym (judged-mean out us qs) ∙ h)

  -- and so on stored statements
  pub stored-stays : (qs us : List ℤ) (out rows others : List Row) → length qs ≡ q.parameters → All (ChangesWithin s.change) rows
      → All (StandsBeside r (side_of r s)) others → is_side (side_read q u) ≡ true → any (λ (v : Update). matches_stored q v us qs) (judged_stored u out) ≡ false
      → answer_stored q qs (rows_beside (second_read q) (side_read q u) (changed s.change us rows) others) ≡ answer_stored q qs (rows_beside (second_read q) (side_read q u) (out ++ rows) others)
  stored-stays qs us out rows others n w b t h =
      let side : side_read q u ≡ side_of r s = side-is q r A u s B few in
      answer-means q r A qs (rows_beside (second_read q) (side_read q u) (changed s.change us rows) others)
      ∙ (λ i. answer r qs (rows_beside (A.second_is i) (side i) (changed s.change us rows) others))
      ∙ unmatched-stays qs us out rows others (n ∙ A.parameters_are) w b (sym (ap is_side side) ∙ t) h
      ∙ sym ((λ i. answer r qs (rows_beside (A.second_is i) (side i) (out ++ rows) others)))
      ∙ sym (answer-means q r A qs (rows_beside (second_read q) (side_read q u) (out ++ rows) others))

-- ---- a query of other tables has none (rule 1)

pub none_elsewhere : (q : Query) (u : Update) → is_read q.table q.second u.table ≡ false → clause_total q u ≡ 0
none_elsewhere q u e = sym (total-none q u (other-table q u e))

-- ---- how many patterns, and how long

pub pattern-length : (n : ℕ) (cs : Clause) → length (pattern n cs) ≡ n
pattern-length n cs = length-map (from 1 n) (entry cs) ∙ from-count 1 n

-- every pattern has an entry for each parameter
pub patterns-long : (q : Query) (u : Update) → All (λ (p : P.Pattern). length p ≡ entry_count q) (patterns_stored q u)
unfolding patterns_stored
patterns-long q u = go (relevant q u) (all_any q u)
  where
    n : ℕ
    n = entry_count q

    go : (r b : Bool) → All (λ (p : P.Pattern). length p ≡ n) (chosen r b n (joint q u))
    go false b = nil
    go true true = cons (length-replicate n anything) nil
    go true false = All-distinct (eq_list same_entry) (All-image (pattern n) (All-every (pattern-length n) (keep (λ (c : Clause). not (contradictory c)) (joint q u))))

-- there are at most 64 clauses to look at, and no more patterns
pub total-few : (q : Query) (u : Update) → clause_total q u ≤ most_clauses
unfolding clause_total all_any
total-few q u = go (relevant q u) (not (is_formed q.condition && is_formed u.condition)) (ltb most_clauses (length (joint q u))) refl
  where
    go : (r a b : Bool) → ltb most_clauses (length (joint q u)) ≡ b → cond r (cond (a || b) 1 (length (joint q u))) 0 ≤ most_clauses
    go false a b e = omega arith
    go true true b e = omega arith
    go true false true e = omega arith
    go true false false e = ltb-false most_clauses (length (joint q u)) e

clause-patterns-few : (n : ℕ) (cs : List Clause) → length (clause_patterns n cs) ≤ length cs
clause-patterns-few n cs =
    let a = length-distinct (eq_list same_entry) (map (pattern n) (keep (λ (c : Clause). not (contradictory c)) cs)) in
    let b = length-map (keep (λ (c : Clause). not (contradictory c)) cs) (pattern n) in
    let c = length-keep (λ (c : Clause). not (contradictory c)) cs in
    omega arith

pub patterns-total : (q : Query) (u : Update) → length (patterns_stored q u) ≤ clause_total q u
unfolding patterns_stored clause_total
patterns-total q u = go (relevant q u) (all_any q u)
  where
    go : (r b : Bool) → length (chosen r b (entry_count q) (joint q u)) ≤ cond r (cond b 1 (length (joint q u))) 0
    go false b = omega arith
    go true true = omega arith
    go true false = clause-patterns-few (entry_count q) (joint q u)

pub patterns-few : (q : Query) (u : Update) → length (patterns_stored q u) ≤ most_clauses
patterns-few q u = le_trans (patterns-total q u) (total-few q u)
