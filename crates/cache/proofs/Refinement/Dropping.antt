-- An update drops exactly the kept answers that it drops on the plain store. What crate `pattern` states of stored statements is the parameter `mean`.
-- Assumes nothing.
use mathlib.Core.Path.{◌≡◌, refl, sym, ap, ap₂, ◌∙◌}
use mathlib.Core.Bool.{Bool, true, false, not, ◌&&◌, cond}
use mathlib.Core.List.{List, [], ◌∷◌, map}
use Prim.Native.Nat.{ℕ, zero, suc, ◌<◌}
use native.Mathlib.Omega.{arith}
use borrow.Author.Tests.{eqb-true}
use lib.Dec.{eqb}
use lib.IntN.{ℤ}
use lib.ListN.{length, take, get_or, length-map, get_or-map}
use Rattle.lists.specs.Lists.{All, nil, any, keep, count}
use Rattle.lists.proofs.Bools.{and_left, and_right}
use Rattle.lists.proofs.Lists.{All-map, All-take, keep-map}
use Rattle.meaning.specs.Key.{Key}
use Rattle.meaning.specs.Names.{Schema, no_schema}
use Rattle.meaning.specs.Meaning.{Row}
use Rattle.meaning.specs.Exact.{drops}
use Rattle.meaning.specs.Statement as M
use Rattle.meaning.specs.Plain as P
use Rattle.meaning.specs.Call.{change}
use Rattle.meaning.specs.Plain.{Plain, drops_key, refusal}
use Rattle.statement.specs.declared.Table.{Table}
use Rattle.statement.specs.declared.Query.{Query}
use Rattle.statement.specs.declared.Update.{Update}
use Rattle.statement.specs.Sound.{AgreesQuery, AgreesUpdate}
use Rattle.statement.specs.SoundTest.{sound_query, sound_update}
use Rattle.table.proofs.Outer.{used-wide}
use Rattle.pattern.specs.Stored.{matches_stored, reaches_stored}
use Rattle.pattern.proofs.Laws.{judged_stored}
use Rattle.slots.specs.Keys.{key_read, slot_key, held_keys, values_of, held_slots}
use Rattle.slots.specs.Order.{drop_by}
use Rattle.slots.proofs.Laws.{drop-held}
use Rattle.cache.specs.declared.State.{State}
use Rattle.cache.specs.Sound.{query_at, schemas_in, table_at, update_at}
use Rattle.cache.specs.Means.{Means, Typed}
use Rattle.cache.specs.Calls.{area_start, rows_at}
use Rattle.cache.specs.Gives.{update_of, update_gives, update_refusal, is_pushing, pushed_by, is_dropped, with_change, update_refused, update_done}
use Rattle.meaning.specs.Refusals.{settled}
use Rattle.cache.specs.Run.{Store, Seen, lent_by, step_update, step}
use Rattle.cache.specs.Demand.{keys_held, DropsExactlyMatched}
use Rattle.cache.proofs.Invariant.Sound.{Sound, sound-is, query-at, update-at}
use Rattle.cache.proofs.Refinement.Standing.{update-table, columns-at}
use Rattle.cache.proofs.Refinement.StoodFor.{schemas-mean, query-agrees, update_agrees}
use Rattle.cache.proofs.Refinement.Updating.{pushed-is, update-number, update-there, update-long}
use Rattle.cache.proofs.Lists.{keep_same}

-- ---- an update on a state that stands for the plain store

-- of sound stored statements, with the rows that the update pushes out, some pattern matches and some row is reached where their sentences say so; rows pushed out are an
-- INSERT's, and as wide as the table
abbrev pub DropsMean : Type 0
DropsMean = (ts : List Schema) (q : Query) (r : M.Query) → AgreesQuery q r → (u : Update) (s : M.Update) → AgreesUpdate u s → sound_query ts q ≡ true
    → sound_update ts u ≡ true → (n : ℕ) → n ≡ length (get_or ts u.table no_schema).columns → (out : List Row) → All (λ (x : Row). (length x ≡ n) × (u.form ≡ 0)) out
    → (us qs : List ℤ)
    → (any (λ (v : Update). matches_stored q v us qs) (judged_stored u out) && any (λ (v : Update). reaches_stored n q v us qs) (judged_stored u out)) ≡ drops n r s out us qs

module _ (mean : DropsMean) (s : State) (T : Typed s) (S : Sound s) (cells : List ℤ) (p : Plain) (m : Means s cells p) (n : ℕ)
    (there : n < s.update_count) (long : length cells ≡ s.cells) (us : List ℤ) where
  abbrev u : Update
  u = update_at s n

  abbrev t : Table
  t = table_at s u.table

  table-there : u.table < s.table_count
  table-there = update-table s T S n there

  -- the rows that it pushes out
  out-wide : All (λ (x : Row). (length x ≡ t.count) × (u.form ≡ 0)) (pushed_by s cells u)
  out-wide = go (is_pushing t u) refl
    where
      go : (b : Bool) → is_pushing t u ≡ b → All (λ (x : Row). (length x ≡ t.count) × (u.form ≡ 0)) (cond b (take 1 (rows_at s cells u.table)) [])
      go true e =
          let z : u.form ≡ 0 = eqb-true u.form 0 (and_left (eqb u.form 0) _ (and_right t.ring _ e)) in
          All-map (λ x w. (w, z)) (All-take 1 (used-wide t (area_start s u.table) cells))
      go false e = nil

  -- the columns of its table
  width_is : t.count ≡ length (P.table_at p (P.update_at p n).table).schema.columns
  width_is =
      sym (columns-at s T S u.table table-there)
      ∙ ap (λ (ts : List Schema). length (get_or ts u.table no_schema).columns) (sym (schemas-mean s T S cells p m))
      ∙ ap (λ (t : Schema). length t.columns) (get_or-map (λ (t : P.Table). t.schema) p.tables u.table P.no_table)
      ∙ ap (λ (i : ℕ). length (P.table_at p i).schema.columns) (update_agrees s T S cells p m n there).table_is

  -- an answer under a key is dropped
  abbrev dropped : ℕ → List ℤ → Bool
  dropped q qs = drops (length (P.table_at p (P.update_at p n).table).schema.columns) (P.query_at p q) (P.update_at p n) (P.pushed_by p n) us qs

  dropped-is : All (λ (x : ℕ). is_dropped s cells u us x ≡ dropped (slot_key s.keys x).query (values_of (slot_key s.keys x))) (held_slots s.slots)
  unfolding is_dropped
  dropped-is =
      All-map
      (λ x k.
      let q : ℕ = (slot_key s.keys x).query in
      let qs : List ℤ = values_of (slot_key s.keys x) in
      mean (schemas_in s) (query_at s q) (P.query_at p q) (query-agrees s T S cells p m q k.there) u (P.update_at p n) (update_agrees s T S cells p m n there)
      (query-at s T S q k.there) (update-at s T S n there) t.count (sym (columns-at s T S u.table table-there)) (pushed_by s cells u) out-wide us qs
      ∙ ap₂ (λ (c : ℕ) (out : List Row). drops c (P.query_at p q) (P.update_at p n) out us qs) width_is (pushed-is s T S cells p m n there long))
      S.keys

  -- a held slot is dropped exactly if its key is
  pub matched-is : All (λ (x : ℕ). is_dropped s cells u us x ≡ drops_key p n us (key_read (slot_key s.keys x))) (held_slots s.slots)
  unfolding drops_key
  matched-is = dropped-is

  abbrev test : ℕ → Bool
  test = is_dropped s cells u us

  abbrev match : Key → Bool
  match = drops_key p n us

  abbrev key_at : ℕ → Key
  key_at x = key_read (slot_key s.keys x)

  keys_of : (l : List ℕ) → map key_read (map (slot_key s.keys) l) ≡ map key_at l
  keys_of [] = refl
  keys_of (x ∷ l) = ap (λ r. key_at x ∷ r) (keys_of l)

  -- the keys held after it
  keys-stay : map key_read (held_keys s.keys (drop_by test s.slots)) ≡ keep (λ (k : Key). not (match k)) (map key_read (held_keys s.keys s.slots))
  keys-stay =
      ap (λ l. map key_read (map (slot_key s.keys) l))
      (drop-held s.slots test ∙ keep_same (λ x. not (test x)) (λ x. not (match (key_at x))) (All-map (λ x e. ap not e) matched-is))
      ∙ keys_of (keep (λ x. not (match (key_at x))) (held_slots s.slots))
      ∙ keep-map key_at (λ (k : Key). not (match k)) (held_slots s.slots)
      ∙ ap (keep (λ (k : Key). not (match k))) (sym (keys_of (held_slots s.slots)))

  -- and how many it drops
  keys-drop : count test (held_slots s.slots) ≡ count match (map key_read (held_keys s.keys s.slots))
  keys-drop =
      ap length (keep_same test (λ x. match (key_at x)) matched-is)
      ∙ sym (length-map (keep (λ x. match (key_at x)) (held_slots s.slots)) key_at)
      ∙ ap length (keep-map key_at match (held_slots s.slots) ∙ ap (keep match) (sym (keys_of (held_slots s.slots))))

pub drops_exactly_matched : DropsMean → DropsExactlyMatched
unfolding step update_of settled update_done with_change
drops_exactly_matched mean s n us p T h m = go (update_refusal s.state (lent_by s) n (length us)) refl
  where
    after : ℕ → Store × Seen
    after k =
        step_update s (settled k (update_done s.state s.cells (update_at s.state n) us) (update_gives (update_refused s.state k) s.cells))

    go : (k : ℕ) → update_refusal s.state (lent_by s) n (length us) ≡ k → (after k).1.got.refusal ≡ 0
        → (keys_held (after k).0 ≡ keep (λ (k : Key). not (drops_key p n us k)) (keys_held s)) × ((after k).1.drops ≡ count (drops_key p n us) (keys_held s))
    go zero e z =
        let S : Sound s.state = sound-is s.state h in
        let r : refusal (lent_by s) p (change n us) ≡ 0 = sym (update-number s p T h m n us) ∙ e in
        let there : n < s.state.update_count = update-there s p T h m n us r in
        let long : length s.cells ≡ s.state.cells = update-long s p T h m n us r in (
          keys-stay mean s.state T S s.cells p m n there long us,
          keys-drop mean s.state T S s.cells p m n there long us,
        )
    go (suc k) e z = absurd (omega arith)
