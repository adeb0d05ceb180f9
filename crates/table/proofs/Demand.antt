-- The claims of specs/Demand, all proved.
--     listed-rows     the rows that a stored question lists have its columns and 32 bits
--     put-reads-back  a buffer into which their record was put shows them
--     sound-askable   what the claims ask of a question holds in a sound state; of one over two tables: sound-pair-askable
--     paired-rows     a sound table's rows in a pair are all its rows
--     paired-means    what a stored question over two tables lists of the first-table rows that pass (A.6) is what Meaning lists of all pairs
--     pair-says-means, pair-leaves-means     for callers: what `select_pair` promises, by Meaning
-- Assumes nothing.
use mathlib.Core.Path.{◌≡◌, refl, sym, ap, ap₂, ◌∙◌, subst}
use mathlib.Core.Logic.{◌≢◌, ◌↔◌}
use mathlib.Core.Bool.{Bool, true, false, not, cond}
use mathlib.Core.Option.{some}
use mathlib.Core.List.{List, [], ◌++◌, map}
use Prim.Native.Nat.{ℕ, zero, suc, ◌+◌, ◌*◌, ◌≤◌, ◌<◌}
use native.Mathlib.Nat.{mul-le-mul}
use native.Mathlib.Omega.{arith}
use borrow.Author.Tests.{leb-true, le-leb, ltb-true, ltb-false, lt-ltb}
use lib.Dec.{leb}
use lib.IntN.{ℤ, pos}
use lib.ListN.{length, take, drop, length-map, length-append}
use lib.Seq.{length-take-le}
use Rattle.lists.specs.Lists.{All, nil, cons, keep, count, all, repeats, pairs, turned}
use Rattle.lists.proofs.Bools.{and_left, and_right}
use Rattle.lists.proofs.Lists.{All-take, All-drop, All-every, All-get_or, All-keep, All-image}
use Rattle.lists.proofs.Places.{length-keep}
use Rattle.lists.proofs.Turned.{All-turned, length-turned}
use Rattle.meaning.specs.Exact.{IsRow}
use Rattle.meaning.specs.Record.{ReadsBack, encode}
use Rattle.meaning.specs.Call.{Is32}
use Rattle.meaning.specs.Limits.{most_items, most_rows, most_listed}
use Rattle.meaning.specs.Refusals.{is_short, is_many, kept_conditions, lowest_of}
use Rattle.meaning.specs.Meaning.{Row, cell, answer}
use Rattle.meaning.specs.Cells.{rows_in}
use Rattle.meaning.specs.Names.{Schema, same_name, has, table_names}
use Rattle.meaning.specs.Plain.{passes_first}
use Rattle.meaning.specs.Statement as M
use Rattle.meaning.proofs.Cells.{rows-length}
use Rattle.meaning.proofs.Outer.{skipped-pairs}
use Rattle.meaning.proofs.Within32.{Row32, pairs-32}
use Rattle.answer.specs.Answer.{put}
use Rattle.answer.proofs.Buffers.{put-fits, put-not}
use Rattle.answer.proofs.Laws.{buffer-reads-back}
use Rattle.statement.specs.declared.Query.{Query}
use Rattle.statement.specs.declared.Table.{Table}
use Rattle.statement.specs.Catalog.{name_of_struct}
use Rattle.statement.proofs.SoundQuery.{query-parts}
use Rattle.statement.specs.Sound.{AgreesQuery, QueryFits, used_columns}
use Rattle.statement.specs.SoundTest.{sound_name, sound_query, sound_table}
use Rattle.table.specs.Demand.{leaves, Askable, SelectReadsBack, SelectMeans, RowsRead, RowTestMeans, PairAskable, SelectPairReadsBack, SelectPairMeans, TooManyExactlyIf, RefusedLeavesBuffer, PairRowsRead, PairReadsAtMost, PairTestMeans}
use Rattle.table.specs.Evaluated.{selected_in, rows_paired, pairs_used, pairs_read, said_by, paired_in, paired_put, pair_says, pair_leaves}
use Rattle.table.specs.Rows.{meets_stored, row_cells, rows_used, selected_stored, answer_stored, record_stored, passes_stored}
use Rattle.table.proofs.Recording.{refused_by, refusal_of}
use Rattle.table.proofs.Means.{meets-where, answer-means}
use Rattle.table.proofs.Outer.{passes-means, used-wide}

-- ---- the rows of a table in cells of 32 bits

rows-32 : (c n : ℕ) (cells : List ℤ) → All Is32 cells → All Row32 (rows_in c n cells)
rows-32 c zero cells h = nil
rows-32 c (suc n) cells h = cons (All-take c h) (rows-32 c n (drop c cells) (All-drop c h))

module _ (t : Table) (start : ℕ) (cells : List ℤ) where
  used-32 : All Is32 cells → All Row32 (rows_used t start cells)
  used-32 h = go (leb (start + row_cells t) (length cells))
    where
      go : (b : Bool) → All Row32 (cond b (turned t.oldest (rows_in t.count t.rows (drop start cells))) [])
      go true = All-turned t.oldest (rows-32 t.count t.rows (drop start cells) (All-drop start h))
      go false = nil

  used-few : length (rows_used t start cells) ≤ t.rows
  used-few = go (leb (start + row_cells t) (length cells))
    where
      go : (b : Bool) → length (cond b (turned t.oldest (rows_in t.count t.rows (drop start cells))) []) ≤ t.rows
      go true = omega (arith, length-turned t.oldest (rows_in t.count t.rows (drop start cells)), rows-length t.count t.rows (drop start cells))
      go false = omega arith

  -- where they lie inside the cells, they are all that the table has
  pub used_all : start + row_cells t ≤ length cells → length (rows_used t start cells) ≡ t.rows
  used_all h =
      ap (λ (b : Bool). length (cond b (turned t.oldest (rows_in t.count t.rows (drop start cells))) [])) (le-leb (start + row_cells t) (length cells) h)
      ∙ length-turned t.oldest (rows_in t.count t.rows (drop start cells))
      ∙ rows-length t.count t.rows (drop start cells)

-- ---- the buffer

-- a record that is not refused fits, and the rows were read
taken : (out : List ℕ) (rows : List Row) (bs : List ℕ) → (selected_in out rows bs).refusal ≡ 0 → (length bs ≤ length out) × ((selected_in out rows bs).scanned ≡ length rows)
taken out rows bs e = go (is_short (length out) (length bs)) refl e
  where
    go : (b : Bool) → is_short (length out) (length bs) ≡ b → (said_by (lowest_of (kept_conditions b)) (length rows) (length bs)).refusal ≡ 0
        → (length bs ≤ length out) × ((said_by (lowest_of (kept_conditions b)) (length rows) (length bs)).scanned ≡ length rows)
    go true k z = absurd (omega arith)
    go false k z = (ltb-false (length out) (length bs) k, refl)

module _ (q : Query) (vs : List ℤ) (rows : List Row) where
  pub listed-rows : All Row32 rows → All (IsRow (length (take q.count q.selected))) (answer_stored q vs rows)
  unfolding answer_stored
  listed-rows h =
      let cs : List ℕ = take q.count q.selected in
      All-image (selected_stored q)
      (All-keep (meets_stored q.condition vs) (λ r e m. (length-map cs (cell r), All-image (cell r) (All-every (λ i. All-get_or i (pos 0) refl e) cs))) h)

  listed-few : length (answer_stored q vs rows) ≤ length rows
  unfolding answer_stored
  listed-few = omega (arith, length-map (keep (meets_stored q.condition vs) rows) (selected_stored q), length-keep (meets_stored q.condition vs) rows)

  pub put-reads-back : (out : List ℕ) → 1 ≤ length (take q.count q.selected) → length (take q.count q.selected) ≤ most_items → length rows ≤ most_rows → All Row32 rows
      → length (record_stored q vs rows) ≤ length out
      → ReadsBack (put out 0 (record_stored q vs rows)) (length (take q.count q.selected)) (answer_stored q vs rows)
  put-reads-back out least few most h fits =
      subst (λ (bs : List ℕ). ReadsBack bs (length (take q.count q.selected)) (answer_stored q vs rows)) (sym (put-fits out 0 (record_stored q vs rows) (omega arith)))
      (buffer-reads-back out (length (take q.count q.selected)) (answer_stored q vs rows) least few (omega (arith, listed-few)) (listed-rows h))

-- ---- the claims

pub select_reads_back : SelectReadsBack
select_reads_back q t start cells vs out A e =
    let rows : List Row = rows_used t start cells in
    let n : length (take q.count q.selected) ≡ q.count = length-take-le q.count q.selected (omega (arith, A.array, A.few_selected)) in
    subst (λ (k : ℕ). ReadsBack (leaves q t start cells vs out) k (answer_stored q vs rows)) n
    (put-reads-back q vs rows out (omega (arith, A.some_selected)) (omega (arith, A.few_selected)) (omega (arith, used-few t start cells, A.few_rows)) (used-32 t start cells A.narrow)
    (taken out rows (record_stored q vs rows) e).0)

pub select_means : SelectMeans
select_means q q' M t start cells vs out A e =
    subst (λ (k : ℕ). ReadsBack (leaves q t start cells vs out) k (answer q' vs (rows_used t start cells))) M.count_is
    (subst (λ (rs : List Row). ReadsBack (leaves q t start cells vs out) q.count rs) (answer-means q q' M vs (rows_used t start cells)) (select_reads_back q t start cells vs out A e))

-- a sound question on a sound table is askable
pub sound-askable : (q : Query) (t : Table) (ts others : List Schema) (cells : List ℤ) → QueryFits q → sound_query ts q ≡ true → sound_table others t ≡ true → t.rows ≤ t.capacity
    → All Is32 cells → Askable q t cells
unfolding sound_table
sound-askable q t ts others cells Q s k h narrow =
    let a = query-parts ts q s in
    let b = and_right (leb 1 t.capacity) (leb t.capacity most_rows) (and_right (not (has (table_names others) (name_of_struct t.name))) _ (and_right (not (repeats same_name (map name_of_struct (used_columns t)))) _ (and_right (all sound_name (used_columns t)) _ (and_right (sound_name t.name) _ (and_right (leb t.count most_items) _ (and_right (leb 1 t.count) _ k)))))) in
    record {
      array = Q.eight;
      some_selected = a.some_selected;
      few_selected = a.few_selected;
      few_rows = omega (arith, leb-true t.capacity most_rows b);
      narrow = narrow;
    }

pub rows-read : RowsRead
rows-read q t start cells vs out h e = (taken out (rows_used t start cells) (record_stored q vs (rows_used t start cells)) e).1 ∙ used_all t start cells h

-- ---- request A.3

pub row_test_means : RowTestMeans
row_test_means c vs targets places numbers start P w A row short = P.says row short ∙ meets-where c w A vs row

-- ---- request A.1

module _ (t : Table) (start : ℕ) (cells : List ℤ) where
  -- the rows of a table of a pair are those of the table
  pub paired-rows : t.count ≤ most_items → rows_paired t start cells ≡ rows_used t start cells
  paired-rows h = ap (λ (b : Bool). cond b (rows_used t start cells) []) (le-leb t.count most_items h)

  paired-few : length (rows_paired t start cells) ≤ t.rows
  paired-few = go (leb t.count most_items)
    where
      go : (b : Bool) → length (cond b (rows_used t start cells) []) ≤ t.rows
      go true = used-few t start cells
      go false = omega arith

-- what is said of a paired question, by whether it is refused
module _ (out : List ℕ) (scanned n : ℕ) (rows : List Row) where
  pair-taken : (paired_in out scanned n rows).refusal ≡ 0
      → (length rows ≤ most_listed) × (length (encode n rows) ≤ length out) × ((paired_in out scanned n rows).scanned ≡ scanned) × (paired_put out n rows ≡ put out 0 (encode n rows))
  pair-taken e = go (is_many (length rows)) (is_short (length out) (length (encode n rows))) refl refl e
    where
      go : (b f : Bool) → is_many (length rows) ≡ b → is_short (length out) (length (encode n rows)) ≡ f → (said_by (refused_by b f) scanned (length (encode n rows))).refusal ≡ 0
          → (length rows ≤ most_listed) × (length (encode n rows) ≤ length out) × ((said_by (refused_by b f) scanned (length (encode n rows))).scanned ≡ scanned)
          × (cond b out (put out 0 (encode n rows)) ≡ put out 0 (encode n rows))
      go true f eb ef z = absurd (omega arith)
      go false true eb ef z = absurd (omega arith)
      go false false eb ef z = (ltb-false most_listed (length rows) eb, ltb-false (length out) (length (encode n rows)) ef, refl, refl)

  pair-many : ((paired_in out scanned n rows).refusal ≡ 16) ↔ (most_listed < length rows)
  pair-many = (go (is_many (length rows)) (is_short (length out) (length (encode n rows))) refl, back)
    where
      go : (b f : Bool) → is_many (length rows) ≡ b → (said_by (refused_by b f) scanned (length (encode n rows))).refusal ≡ 16 → most_listed < length rows
      go true f eb z = ltb-true most_listed (length rows) eb
      go false true eb z = absurd (omega arith)
      go false false eb z = absurd (omega arith)

      back : most_listed < length rows → (paired_in out scanned n rows).refusal ≡ 16
      back h = ap (λ (b : Bool). (said_by (refused_by b (is_short (length out) (length (encode n rows)))) scanned (length (encode n rows))).refusal) (lt-ltb most_listed (length rows) h)

  pair-kept : (paired_in out scanned n rows).refusal ≢ 0 → paired_put out n rows ≡ out
  pair-kept h = go (is_many (length rows)) (is_short (length out) (length (encode n rows))) refl h
    where
      go : (b f : Bool) → is_short (length out) (length (encode n rows)) ≡ f → (said_by (refused_by b f) scanned (length (encode n rows))).refusal ≢ 0
          → cond b out (put out 0 (encode n rows)) ≡ out
      go true f ef z = refl
      go false true ef z = put-not out 0 (encode n rows) (omega (arith, ltb-true (length out) (length (encode n rows)) ef))
      go false false ef z = absurd (z refl)

  pair-scanned : (paired_in out scanned n rows).scanned ≤ scanned
  pair-scanned = go (refusal_of (length rows) (length (encode n rows)) (length out))
    where
      go : (k : ℕ) → (said_by k scanned (length (encode n rows))).scanned ≤ scanned
      go zero = omega arith
      go (suc k) = omega arith

-- how many rows are read, by the stored question
abbrev read_by : Query → List ℤ → List Row → List Row → ℕ
read_by q vs rows others = pairs_read (passes_stored q vs) rows others

pub select_pair_reads_back : SelectPairReadsBack
select_pair_reads_back q t start u beside cells vs out A e =
    let k : ℕ = length (take q.count q.selected) in
    let rows : List Row = pairs_used q vs t start u beside cells in
    let n : k ≡ q.count = length-take-le q.count q.selected (omega (arith, A.array, A.few_selected)) in
    let h = pair-taken out (read_by q vs (rows_paired t start cells) (rows_paired u beside cells)) k (answer_stored q vs rows) e in
    let same : rows ≡ pairs (keep (passes_stored q vs) (rows_used t start cells)) (rows_used u beside cells) =
    ap₂ (λ (rs os : List Row). pairs (keep (passes_stored q vs) rs) os) (paired-rows t start cells A.few_columns) (paired-rows u beside cells A.few_others) in
    let narrow : All Row32 rows =
    subst (All Row32) (sym same)
    (pairs-32 (keep (passes_stored q vs) (rows_used t start cells)) (rows_used u beside cells) (All-keep (passes_stored q vs) (λ r k m. k) (used-32 t start cells A.narrow)) (used-32 u beside cells A.narrow)) in
    subst (λ (rs : List Row). ReadsBack (pair_leaves q t start u beside cells vs out) q.count (answer_stored q vs rs)) same
    (subst (λ (j : ℕ). ReadsBack (pair_leaves q t start u beside cells vs out) j (answer_stored q vs rows)) n
    (subst (λ (bs : List ℕ). ReadsBack bs k (answer_stored q vs rows)) (sym (h.3 ∙ put-fits out 0 (record_stored q vs rows) (omega (arith, h.1))))
    (buffer-reads-back out k (answer_stored q vs rows) (omega (arith, A.some_selected)) (omega (arith, A.few_selected)) h.0 (listed-rows q vs rows narrow))))

-- the first-table rows that are paired, and what is listed of them, by Meaning (A.6): what is listed of all pairs
module _ (q : Query) (q' : M.Query) (s : M.Second) (A : AgreesQuery q q') (e : q'.second ≡ some s) (vs : List ℤ) where
  keep-means : (rows : List Row) → keep (passes_stored q vs) rows ≡ keep (passes_first q' s vs) rows
  keep-means rows = (λ i. keep (λ (r : Row). passes-means q q' A s e vs r i) rows)

  pub paired-means : (t : Table) → s.start ≡ t.count → (start : ℕ) (cells : List ℤ) (others : List Row)
      → answer_stored q vs (pairs (keep (passes_stored q vs) (rows_used t start cells)) others) ≡ answer q' vs (pairs (rows_used t start cells) others)
  paired-means t w start cells others =
      let rows : List Row = rows_used t start cells in
      answer-means q q' A vs (pairs (keep (passes_stored q vs) rows) others)
      ∙ ap (λ (rs : List Row). answer q' vs (pairs rs others)) (keep-means rows)
      ∙ skipped-pairs q' s vs rows others (subst (λ (n : ℕ). All (λ (r : Row). length r ≡ n) rows) (sym w) (used-wide t start cells))

pub select_pair_means : SelectPairMeans
select_pair_means q q' s M i t start u beside cells vs out A w e =
    let rows : List Row = pairs (rows_used t start cells) (rows_used u beside cells) in
    subst (λ (k : ℕ). ReadsBack (pair_leaves q t start u beside cells vs out) k (answer q' vs rows)) M.count_is
    (subst (λ (rs : List Row). ReadsBack (pair_leaves q t start u beside cells vs out) q.count rs) (paired-means q q' s M i vs t w start cells (rows_used u beside cells))
    (select_pair_reads_back q t start u beside cells vs out A e))

pub too_many_exactly_if : TooManyExactlyIf
too_many_exactly_if q t start u beside cells vs out =
    pair-many out (read_by q vs (rows_paired t start cells) (rows_paired u beside cells)) (length (take q.count q.selected)) (answer_stored q vs (pairs_used q vs t start u beside cells))

pub refused_leaves_buffer : RefusedLeavesBuffer
refused_leaves_buffer q t start u beside cells vs out =
    pair-kept out (read_by q vs (rows_paired t start cells) (rows_paired u beside cells)) (length (take q.count q.selected)) (answer_stored q vs (pairs_used q vs t start u beside cells))

pub pair_rows_read : PairRowsRead
pair_rows_read q q' s A i t start u beside cells vs out ht hu kt ku e =
    let first : rows_paired t start cells ≡ rows_used t start cells = paired-rows t start cells ht in
    let rows : length (rows_paired t start cells) ≡ t.rows = ap length first ∙ used_all t start cells kt in
    let others : length (rows_paired u beside cells) ≡ u.rows = ap length (paired-rows u beside cells hu) ∙ used_all u beside cells ku in
    let kept : keep (passes_stored q vs) (rows_paired t start cells) ≡ keep (passes_first q' s vs) (rows_used t start cells) =
    ap (keep (passes_stored q vs)) first ∙ keep-means q q' s A i vs (rows_used t start cells) in
    (pair-taken out (read_by q vs (rows_paired t start cells) (rows_paired u beside cells)) (length (take q.count q.selected)) (answer_stored q vs (pairs_used q vs t start u beside cells)) e).2
    ∙ (λ j. rows j + length (kept j) * others j)

pub pair_reads_at_most : PairReadsAtMost
pair_reads_at_most q t start u beside cells vs out =
    let rows : List Row = rows_paired t start cells in
    let m : count (passes_stored q vs) rows ≤ t.rows = omega (arith, length-keep (passes_stored q vs) rows, paired-few t start cells) in
    omega (arith, pair-scanned out (read_by q vs rows (rows_paired u beside cells)) (length (take q.count q.selected)) (answer_stored q vs (pairs_used q vs t start u beside cells)), paired-few t start cells, mul-le-mul m (paired-few u beside cells))

pub pair_test_means : PairTestMeans
pair_test_means c vs targets places numbers start P w A row other h k = row_test_means c vs targets places numbers start P w A (row ++ other) (omega (arith, length-append row other))

-- a sound question on two sound tables is askable
pub sound-pair-askable : (q : Query) (t u : Table) (ts others more : List Schema) (cells : List ℤ) → QueryFits q → sound_query ts q ≡ true → sound_table others t ≡ true → sound_table more u ≡ true
    → All Is32 cells → PairAskable q t u cells
unfolding sound_table
sound-pair-askable q t u ts others more cells Q s k l narrow =
    let p = query-parts ts q s in
    record {
      array = Q.eight;
      some_selected = p.some_selected;
      few_selected = p.few_selected;
      few_columns = sound-narrow t others k;
      few_others = sound-narrow u more l;
      narrow = narrow;
    }
  where
    sound-narrow : (t : Table) (others : List Schema) → sound_table others t ≡ true → t.count ≤ most_items
    sound-narrow t others k = leb-true t.count most_items (and_left (leb t.count most_items) _ (and_right (leb 1 t.count) _ k))

-- what is said of a question over two tables of at most 8 columns, and what the buffer holds, by the rows that Meaning lists for its sentence
module _ (q : Query) (q' : M.Query) (s : M.Second) (A : AgreesQuery q q') (e : q'.second ≡ some s) (t : Table) (start : ℕ) (u : Table) (beside : ℕ) (cells vs : List ℤ) (out : List ℕ)
    (h : t.count ≤ most_items) (k : u.count ≤ most_items) (w : s.start ≡ t.count) where
  pub pair-says-means : pair_says q t start u beside cells vs out
      ≡ paired_in out (pairs_read (passes_first q' s vs) (rows_used t start cells) (rows_used u beside cells)) (length q'.selected) (answer q' vs (pairs (rows_used t start cells) (rows_used u beside cells)))
  pair-says-means =
      ap₂ (λ (rs os : List Row). paired_in out (read_by q vs rs os) (length (take q.count q.selected)) (answer_stored q vs (pairs (keep (passes_stored q vs) rs) os))) (paired-rows t start cells h) (paired-rows u beside cells k)
      ∙ (λ i. paired_in out (length (rows_used t start cells) + length (keep-means q q' s A e vs (rows_used t start cells) i) * length (rows_used u beside cells)) (length (A.selected_are i)) (paired-means q q' s A e vs t w start cells (rows_used u beside cells) i))

  pub pair-leaves-means : pair_leaves q t start u beside cells vs out
      ≡ paired_put out (length q'.selected) (answer q' vs (pairs (rows_used t start cells) (rows_used u beside cells)))
  pair-leaves-means =
      ap₂ (λ (rs os : List Row). paired_put out (length (take q.count q.selected)) (answer_stored q vs (pairs (keep (passes_stored q vs) rs) os))) (paired-rows t start cells h) (paired-rows u beside cells k)
      ∙ ap₂ (paired_put out) (ap length A.selected_are) (paired-means q q' s A e vs t w start cells (rows_used u beside cells))
