-- The joint clauses by their places: clause k of two lists of clauses, the clauses that masks select, and how many they are. Assumes nothing.
use Rattle.std.specs.Prelude.{Some}
use mathlib.Core.Path.{◌≡◌, refl, sym, ap, ap₂, subst, ◌∙◌}
use mathlib.Core.Bool.{Bool, true, false, not, ◌&&◌, ◌||◌}
use mathlib.Core.List.{List, [], ◌∷◌, ◌++◌, map}
use Prim.Native.Nat.{ℕ, zero, suc, ◌+◌, ◌-◌, ◌*◌, ◌/◌, ◌%◌, ◌≤◌, ◌<◌}
use native.Mathlib.Nat.{zero-mul, suc-mul, mul-zero, div-eq_of_lt, mod-eq_of_lt, div-eq-sub-div, mod-eq-sub-mod, div-lt_iff_lt-mul, mod-lt}
use native.Mathlib.Numerals.{add-one}
use native.Mathlib.Decide.{dec_lt}
use native.Mathlib.Omega.{arith}
use lib.Dec.{ltb}
use borrow.Author.Tests.{lt-ltb, le-ltb}
use lib.ListN.{length, take, get_or, length-append, length-map, length-take, get_or-append}
use lib.Seq.{get_or-append-add, get_or-take}
use Rattle.lists.specs.Lists.{pairs}
use Rattle.lists.proofs.Lists.{length_pairs}
use Rattle.meaning.specs.Condition.{renamed}
use Rattle.meaning.specs.Statement as M
use Rattle.meaning.specs.Pattern.{Joint, Clause, of_update, of_query}
use Rattle.statement.specs.declared.Condition.{Condition}
use Rattle.statement.specs.declared.Query.{Query}
use Rattle.statement.specs.declared.Update.{Update}
use Rattle.statement.specs.Sound.{settings_read}
use Rattle.pattern.specs.declared.masks.Clauses.{Clauses}
use Rattle.pattern.specs.Stored.{start_read, clauses_read, query_clauses, update_clauses, both_clauses, joint_clauses, joint, is_formed, all_any}
use Rattle.pattern.specs.Private.Masks.{select, comparisons_read, Masked}
use Rattle.pattern.specs.Private.Flat.{column_of, operand_of, chosen_of}
use Rattle.pattern.specs.Private.Pairs.{total_of, role_clauses, pair_at, Worked, Paired}
use Rattle.pattern.specs.declared.joint.Role.{Role}
use Rattle.pattern.specs.declared.joint.Role.TheVariants.{Given, Asked, Inserted, Set}
use Rattle.pattern.specs.declared.pairing.Pairing.{Pairing}
use Rattle.pattern.proofs.Mapped.{get_or-map-in}

-- ---- clause k of each with each

pub factor-some : (m n k : ℕ) → k < m * n → 0 < n
factor-some m zero k h = absurd (omega (arith, mul-zero m))
factor-some m (suc n) k h = omega arith

pub get_or-pairs : {A : Type 0} (gs fs : List (List A)) (k : ℕ) → k < length gs * length fs
    → get_or (pairs gs fs) k [] ≡ get_or gs (k / length fs) [] ++ get_or fs (k % length fs) []
get_or-pairs [] fs k h = absurd (omega (arith, zero-mul (length fs)))
get_or-pairs (g ∷ gs) fs k h = go (dec_lt k (length fs)) (get_or-pairs gs fs (k - length fs))
  where
    row-length : length (map (λ d. g ++ d) fs) ≡ length fs
    row-length = length-map fs (λ d. g ++ d)

    go : Dec (k < length fs) → (k - length fs < length gs * length fs → get_or (pairs gs fs) (k - length fs) [] ≡ get_or gs ((k - length fs) / length fs) [] ++ get_or fs ((k - length fs) % length fs) [])
        → get_or (map (λ d. g ++ d) fs ++ pairs gs fs) k [] ≡ get_or (g ∷ gs) (k / length fs) [] ++ get_or fs (k % length fs) []
    go (yes l) ih =
        get_or-append (map (λ d. g ++ d) fs) (pairs gs fs) [] k (omega (arith, row-length))
        ∙ get_or-map-in (λ d. g ++ d) fs k [] [] l
        ∙ sym (ap₂ (λ (i j : ℕ). get_or (g ∷ gs) i [] ++ get_or fs j []) (div-eq_of_lt l) (mod-eq_of_lt l))
    go (no n) ih =
        let e : k ≡ length (map (λ d. g ++ d) fs) + (k - length fs) = omega (arith, row-length) in
        let some : 0 < length fs = factor-some (length (g ∷ gs)) (length fs) k h in
        let le : length fs ≤ k = omega arith in
        let less : k - length fs < length gs * length fs = omega (arith, suc-mul (length gs) (length fs)) in
        let d : k / length fs ≡ suc ((k - length fs) / length fs) = div-eq-sub-div some le ∙ add-one ((k - length fs) / length fs) in
        ap (λ (i : ℕ). get_or (map (λ d. g ++ d) fs ++ pairs gs fs) i []) e
        ∙ get_or-append-add (map (λ d. g ++ d) fs) (pairs gs fs) (k - length fs) []
        ∙ ih less
        ∙ sym (ap₂ (λ (i j : ℕ). get_or (g ∷ gs) i [] ++ get_or fs j []) d (mod-eq-sub-mod le))

-- ---- the clauses that masks select

module _ (c : Condition) (r : Clauses) (K : Masked c r) (role : Role) (start : ℕ) (ss : List (ℕ × M.Value)) where
  pub chosen_at : (j : ℕ) → j < r.count → get_or (map (map (renamed (operand_of role start ss))) (clauses_read c)) j [] ≡ chosen_of role start ss c (get_or r.masks j 0)
  chosen_at j h =
      let n : length (take r.count r.masks) ≡ r.count = length-take r.count r.masks ∙ omega (arith, K.few, K.long) in
      get_or-map-in (map (renamed (operand_of role start ss))) (clauses_read c) j [] [] (omega (arith, K.counted))
      ∙ ap (λ (l : List _). map (renamed (operand_of role start ss)) (get_or l j [])) K.clauses_are
      ∙ ap (map (renamed (operand_of role start ss))) (get_or-map-in (select (comparisons_read c)) (take r.count r.masks) j 0 [] (omega arith))
      ∙ ap (chosen_of role start ss c) (get_or-take r.count r.masks j 0 h)

-- ---- the operands in their roles

update-role : (start : ℕ) (ss : List (ℕ × M.Value)) → operand_of Given start ss ≡ of_update start
update-role start ss = λ i o. go o i
  where
    go : (o : M.Operand) → operand_of Given start ss o ≡ of_update start o
    go (M.column i) = refl
    go (M.value (M.constant z)) = refl
    go (M.value (M.parameter k)) = refl

query-role : (r : Role) → (r ≡ Given → ⊥) → (start : ℕ) (ss : List (ℕ × M.Value)) → operand_of r start ss ≡ of_query (column_of r start ss)
query-role r ne start ss = λ i o. go r ne o i
  where
    go : (r : Role) → (r ≡ Given → ⊥) → (o : M.Operand) → operand_of r start ss o ≡ of_query (column_of r start ss) o
    go r ne (M.column i) = refl
    go r ne (M.value (M.constant z)) = refl
    go Given ne (M.value (M.parameter k)) = absurd (ne refl)
    go Asked ne (M.value (M.parameter k)) = refl
    go Inserted ne (M.value (M.parameter k)) = refl
    go Set ne (M.value (M.parameter k)) = refl

-- `start` columns of the query stand before those of the updated table
module _ (q : Query) (u : Update) (start : ℕ) where
  abbrev clauses : List Clause
  clauses = joint_clauses start u.form q u

  pub update-clauses : map (map (renamed (operand_of Given start (settings_read u)))) (clauses_read u.condition) ≡ update_clauses start u
  update-clauses = ap (λ (g : M.Operand → Joint). map (map (renamed g)) (clauses_read u.condition)) (update-role start (settings_read u))

  role-clauses : (r : Role) → (r ≡ Given → ⊥) → role_clauses r start q u ≡ query_clauses (column_of r start (settings_read u)) q
  role-clauses r ne = ap (λ (g : M.Operand → Joint). map (map (renamed g)) (clauses_read q.condition)) (query-role r ne start (settings_read u))

  role-pairs : (r : Role) → (r ≡ Given → ⊥) → pairs (update_clauses start u) (role_clauses r start q u) ≡ both_clauses start u (column_of r start (settings_read u)) q
  role-pairs r ne = ap (pairs (update_clauses start u)) (role-clauses r ne)

  -- ---- by the form of the update

  abbrev before : List Clause
  before = pairs (update_clauses start u) (role_clauses Asked start q u)

  abbrev after : List Clause
  after = pairs (update_clauses start u) (role_clauses Set start q u)

  pub insert-clauses : u.form ≡ 0 → clauses ≡ role_clauses Inserted start q u
  unfolding joint_clauses
  insert-clauses e = ap (λ (k : ℕ). joint_clauses start k q u) e ∙ sym (role-clauses Inserted (λ e. cc))

  update-both : u.form ≡ 1 → clauses ≡ before ++ after
  unfolding joint_clauses
  update-both e = ap (λ (k : ℕ). joint_clauses start k q u) e ∙ sym (ap₂ ◌++◌ (role-pairs Asked (λ e. cc)) (role-pairs Set (λ e. cc)))

  delete-both : (k : ℕ) → u.form ≡ suc (suc k) → clauses ≡ before
  unfolding joint_clauses
  delete-both k e = ap (λ (k : ℕ). joint_clauses start k q u) e ∙ sym (role-pairs Asked (λ e. cc))

  module _ (f g : ℕ) (ef : length (clauses_read q.condition) ≡ f) (eg : length (clauses_read u.condition) ≡ g) where
    pairs-length : (r : Role) → length (pairs (update_clauses start u) (role_clauses r start q u)) ≡ g * f
    pairs-length r =
        length_pairs (update_clauses start u) (role_clauses r start q u)
        ∙ ap₂ ◌*◌ (length-map (clauses_read u.condition) (map (renamed (of_update start))) ∙ eg) (length-map (clauses_read q.condition) (map (renamed (operand_of r start (settings_read u)))) ∙ ef)

    pub joint-total : (k : ℕ) → u.form ≡ k → total_of k f g ≡ length clauses
    joint-total zero e = sym (ap length (insert-clauses e) ∙ length-map (clauses_read q.condition) (map (renamed (operand_of Inserted start (settings_read u)))) ∙ ef)
    joint-total (suc zero) e = sym (ap length (update-both e) ∙ length-append before after ∙ ap₂ ◌+◌ (pairs-length Asked) (pairs-length Set))
    joint-total (suc (suc k)) e = sym (ap length (delete-both k e) ∙ pairs-length Asked)

    -- the first are pairs with the query's clauses as they are
    pub first-at : (k : ℕ) → u.form ≡ k → (k ≡ 0 → ⊥) → (i : ℕ) → i < g * f → get_or clauses i [] ≡ pair_at Asked start q u i
    first-at zero e ne i h = absurd (ne refl)
    first-at (suc zero) e ne i h = ap (λ (l : List Clause). get_or l i []) (update-both e) ∙ get_or-append before after [] i (omega (arith, pairs-length Asked))
    first-at (suc (suc k)) e ne i h = ap (λ (l : List Clause). get_or l i []) (delete-both k e)

    -- those behind them with set columns replaced
    pub second_at : (k : ℕ) → u.form ≡ k → (k ≡ 0 → ⊥) → (i : ℕ) → i < total_of k f g → g * f ≤ i
        → (get_or clauses i [] ≡ pair_at Set start q u (i - g * f)) × (i - g * f < g * f)
    second_at zero e ne i h l = absurd (ne refl)
    second_at (suc zero) e ne i h l =
        let n : i ≡ length before + (i - g * f) = omega (arith, pairs-length Asked) in
        (ap (λ (l : List Clause). get_or l i []) (update-both e) ∙ ap (λ (j : ℕ). get_or (before ++ after) j []) n ∙ get_or-append-add before after (i - g * f) [], omega arith)
    second_at (suc (suc k)) e ne i h l = absurd (omega arith)

-- ---- pair k by masks

module _ (q : Query) (u : Update) (p : Pairing) (W : Worked q u p) (k : ℕ) (h : k < p.update.count * p.query.count) where
  pub size-some : 0 < p.query.count
  size-some = factor-some p.update.count p.query.count k h

  pub left_below : k / p.query.count < p.update.count
  left_below = (div-lt_iff_lt-mul size-some).1 h

  pub right-below : k % p.query.count < p.query.count
  right-below = mod-lt k size-some

  pub pair-chosen : (role : Role) (start : ℕ) → chosen_of Given start (settings_read u) u.condition (get_or p.update.masks (k / p.query.count) 0)
      ++ chosen_of role start (settings_read u) q.condition (get_or p.query.masks (k % p.query.count) 0) ≡ pair_at role start q u k
  pair-chosen role start =
      let fs = role_clauses role start q u in
      let gs = update_clauses start u in
      let nf : length fs ≡ p.query.count = length-map (clauses_read q.condition) (map (renamed (operand_of role start (settings_read u)))) ∙ W.query_masked.counted in
      let ng : length gs ≡ p.update.count = length-map (clauses_read u.condition) (map (renamed (of_update start))) ∙ W.update_masked.counted in
      let l : k < length gs * length fs = subst (λ (m : ℕ). k < m) (sym (ap₂ ◌*◌ ng nf)) h in
      sym (get_or-pairs gs fs k l
      ∙ ap (λ (n : ℕ). get_or gs (k / n) [] ++ get_or fs (k % n) []) nf
      ∙ ap₂ ◌++◌
      (ap (λ (x : List Clause). get_or x (k / p.query.count) []) (sym (update-clauses q u start)) ∙ chosen_at u.condition p.update W.update_masked Given start (settings_read u) (k / p.query.count) left_below)
      (chosen_at q.condition p.query W.query_masked role start (settings_read u) (k % p.query.count) right-below))

-- ---- clause i, by the form

module _ (q : Query) (u : Update) (p : Pairing) (W : Worked q u p) (i : ℕ) (h : i < p.total) (start : ℕ) (es : start ≡ start_read q u) where
  total_is : p.total ≡ total_of u.form p.query.count p.update.count
  total_is = W.total_is ∙ sym (joint-total q u (start_read q u) p.query.count p.update.count W.query_masked.counted W.update_masked.counted u.form refl)

  at-start : get_or (clauses q u start) i [] ≡ get_or (joint q u) i []
  at-start = ap (λ (n : ℕ). get_or (joint_clauses n u.form q u) i []) es

  module _ (e : u.form ≡ 0) where
    pub insert-below : i < p.query.count
    insert-below = subst (λ (n : ℕ). i < n) (total_is ∙ ap (λ (k : ℕ). total_of k p.query.count p.update.count) e) h

    pub insert-chosen : chosen_of Inserted start (settings_read u) q.condition (get_or p.query.masks i 0) ≡ get_or (joint q u) i []
    insert-chosen =
        sym (ap (λ (l : List Clause). get_or l i []) (insert-clauses q u start e) ∙ chosen_at q.condition p.query W.query_masked Inserted start (settings_read u) i insert-below)
        ∙ at-start

  module _ (ne : u.form ≡ 0 → ⊥) where
    pub first-chosen : i < p.update.count * p.query.count → pair_at Asked start q u i ≡ get_or (joint q u) i []
    first-chosen l = sym (first-at q u start p.query.count p.update.count W.query_masked.counted W.update_masked.counted u.form refl ne i l) ∙ at-start

    pub second-chosen : p.update.count * p.query.count ≤ i
        → (get_or (joint q u) i [] ≡ pair_at Set start q u (i - p.update.count * p.query.count)) × (i - p.update.count * p.query.count < p.update.count * p.query.count)
    second-chosen l =
        let r = second_at q u start p.query.count p.update.count W.query_masked.counted W.update_masked.counted u.form refl ne i (subst (λ (n : ℕ). i < n) total_is h) l in
        (sym at-start ∙ r.0, r.1)

-- ---- rule 5

module _ (q : Query) (u : Update) where
  pub query-unformed : is_formed q.condition ≡ false → all_any q u ≡ true
  unfolding all_any
  query-unformed e = ap (λ (b : Bool). not (b && is_formed u.condition) || ltb 64 (length (joint q u))) e

  pub update-unformed : is_formed q.condition ≡ true → is_formed u.condition ≡ false → all_any q u ≡ true
  unfolding all_any
  update-unformed e f = ap₂ (λ (b t : Bool). not (b && t) || ltb 64 (length (joint q u))) e f

  both-formed : is_formed q.condition ≡ true → is_formed u.condition ≡ true → all_any q u ≡ ltb 64 (length (joint q u))
  unfolding all_any
  both-formed e f = ap₂ (λ (b t : Bool). not (b && t) || ltb 64 (length (joint q u))) e f

  module _ (f g : Clauses) (total : ℕ) (ef : is_formed q.condition ≡ true) (eg : is_formed u.condition ≡ true) (K : Masked q.condition f) (L : Masked u.condition g)
      (e : total ≡ total_of u.form f.count g.count) where
    total_joint : total ≡ length (joint q u)
    total_joint = e ∙ joint-total q u (start_read q u) f.count g.count K.counted L.counted u.form refl

    pub too-many : 64 < total → all_any q u ≡ true
    too-many h = both-formed ef eg ∙ sym (ap (ltb 64) total_joint) ∙ lt-ltb 64 total h

    pub now-paired : total ≤ 64 → Paired q u (Some (record { query = f; update = g; total = total }))
    now-paired h = (
      both-formed ef eg ∙ sym (ap (ltb 64) total_joint) ∙ le-ltb 64 total h,
      record {
        query_masked = K;
        update_masked = L;
        total_is = total_joint;
        few = h;
      },
    )
