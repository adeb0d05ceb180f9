-- The slots dropped by their marks are those that a test says, where the marks say the same of the held slots; and so the slots of an update: those that it matches and
-- reaches. Assumes nothing.
use mathlib.Core.Path.{◌≡◌, refl, sym, ap, ap₂, ◌∙◌}
use mathlib.Core.Bool.{Bool, true, false, not, ◌&&◌, ◌||◌, cond, or-false}
use mathlib.Core.List.{List, [], ◌∷◌, ◌++◌, map, Memᴰ as Member}
use Prim.Native.Nat.{ℕ, ◌+◌, ◌-◌, ◌≤◌, ◌<◌}
use native.Mathlib.Nat.{mod-eq_of_lt}
use native.Mathlib.Omega.{arith}
use lib.IntN.{ℤ}
use lib.ListN.{length, get_or, take, drop, replicate}
use lib.Seq.{length-take-le}
use Rattle.lists.specs.Lists.{All, any, keep, count}
use Rattle.lists.proofs.Lists.{All-map}
use Rattle.lists.proofs.Changed.{member-has, members-have}
use Rattle.lists.proofs.Moved.{parted-length}
use Rattle.meaning.specs.Meaning.{Row}
use Rattle.meaning.specs.Pattern.{removal}
use Rattle.statement.specs.declared.Table.{Table}
use Rattle.statement.specs.declared.Update.{Update}
use Rattle.statement.specs.Compiled.{no_query, update_struct}
use Rattle.table.specs.Changed.{oldest_row, removal_of}
use Rattle.pattern.specs.Stored.{matches_stored, reaches_stored}
use Rattle.slots.specs.Keys.{slot_key, values_of, held_slots}
use Rattle.slots.specs.declared.SlotList.{SlotList}
use Rattle.slots.specs.Order.{is_marked, drop_by, drop_of}
use Rattle.slots.proofs.Laws.{held_below}
use Rattle.cache.specs.declared.State.{State}
use Rattle.cache.specs.Sound.{query_at, table_at}
use Rattle.cache.specs.Private.Marks.{marked, marks_of, marks_judged, reaches_at, reached_at, marks_both}
use Rattle.cache.specs.Calls.{area_start, rows_at}
use Rattle.cache.specs.Gives.{is_pushing, judged, is_dropped}
use Rattle.cache.proofs.Invariant.Sound.{Sound}
use Rattle.cache.proofs.Returns.SlotsMatched.{no-mark, length_marked, marked-one, marks-length, marks-match}
use Rattle.cache.proofs.Lists.{keep_same}

module _ (p : ℕ → Bool) (s : SlotList) (gone : List Bool) (h : All (λ x. is_marked gone x ≡ p x) (held_slots s)) where
  left-same : keep (λ (x : ℕ). not (is_marked gone x)) (held_slots s) ≡ keep (λ (x : ℕ). not (p x)) (held_slots s)
  left-same = keep_same (λ x. not (is_marked gone x)) (λ x. not (p x)) (All-map (λ x e. ap not e) h)

  pub drop-marked : drop_of s gone ≡ drop_by p s
  unfolding drop_by
  drop-marked = ap₂
      (λ (l g : List ℕ). record { order = l ++ g ++ drop s.held s.order; held = length l; count = s.count })
      left-same (keep_same (is_marked gone) p h)

  module _ (long : s.held ≤ length s.order) where
    held-parted : (drop_of s gone).held + count p (held_slots s) ≡ s.held
    unfolding drop_by
    held-parted = ap (λ (l : List ℕ). length l + count p (held_slots s)) left-same ∙ parted-length p (held_slots s) ∙ length-take-le s.held s.order long

    -- no more are held, and as many fewer as pass the test
    pub drop-fewer : (drop_of s gone).held ≤ s.held
    drop-fewer = omega (arith, held-parted)

    pub drop-count : s.held - (drop_of s gone).held ≡ count p (held_slots s)
    drop-count = omega (arith, held-parted)

-- the slots that an update of a table marks, by itself and by the row that it pushes out
module _ (s : State) (S : Sound s) (u : Update) (cells us : List ℤ) where
  abbrev t : Table
  t = table_at s u.table

  abbrev start : ℕ
  start = area_start s u.table

  -- its own marks, and the removal
  abbrev own : List Bool
  own = marks_of s.keys s.slots s.queries s.query_count u us (replicate 64 false)

  abbrev gone : Update
  gone = update_struct (removal u.table (oldest_row t start cells))

  below : All (λ x. x < 64) (held_slots s.slots)
  below = All-map (λ x b. omega (arith, S.slots.few)) (held_below s.slots S.slots)

  module _ (first : is_pushing t u ≡ true → take 1 (rows_at s cells u.table) ≡ oldest_row t start cells ∷ []) (x : ℕ) (m : Member x (held_slots s.slots)) where
    abbrev match : Update → Bool
    match v = matches_stored (query_at s (slot_key s.keys x).query) v us (values_of (slot_key s.keys x))

    own_at : is_marked own x ≡ match u
    own_at =
        marks-match s.keys s.slots s.queries u us 64 below x m s.query_count (member-has S.keys m).there (replicate 64 false) refl
        ∙ ap (λ (b : Bool). b || match u) (no-mark 64 x)

    own-long : length own ≡ 64
    own-long = marks-length s.keys s.slots s.queries u us 64 below x m s.query_count (replicate 64 false)

    both_at : (b : Bool) → is_pushing t u ≡ b
        → is_marked (cond b (marks_of s.keys s.slots s.queries s.query_count gone us own) own) x
        ≡ any match (u ∷ map (λ (r : Row). update_struct (removal u.table r)) (cond b (take 1 (rows_at s cells u.table)) []))
    both_at true e =
        marks-match s.keys s.slots s.queries gone us 64 below x m s.query_count (member-has S.keys m).there own own-long
        ∙ ap₂ ◌||◌ own_at (sym (or-false (match gone)))
        ∙ ap (λ (l : List Row). any match (u ∷ map (λ (r : Row). update_struct (removal u.table r)) l)) (sym (first e))
    both_at false e = own_at ∙ sym (or-false (match u))

    -- A.7: one that is judged reaches the answer
    abbrev reach : Update → Bool
    reach v = reaches_stored t.count (query_at s (slot_key s.keys x).query) v us (values_of (slot_key s.keys x))

    reach-at : (v : Update) → reaches_at s.keys s.queries t.count us v x ≡ reach v
    reach-at v =
        ap (λ (i : ℕ). reaches_stored t.count (get_or s.queries i no_query) v us (values_of (slot_key s.keys x)))
        (mod-eq_of_lt (omega (arith, (member-has S.keys m).there, S.few_queries)))

    -- of slots matched those that are reached
    module _ (matched : List Bool) where
      abbrev hit : Update → ℕ → Bool
      hit v = reached_at s.keys s.queries t.count us v matched

      one_at : (v : Update) (marks : List Bool) → length marks ≡ 64
          → is_marked (marked (hit v) (held_slots s.slots) marks) x ≡ (is_marked marks x || (is_marked matched x && reach v))
      one_at v marks l =
          marked-one 64 (held_slots s.slots) below x m (hit v) marks l
          ∙ ap (λ (b : Bool). is_marked marks x || (is_marked matched x && b)) (reach-at v)

      abbrev out : List Bool
      out = marked (hit gone) (held_slots s.slots) (replicate 64 false)

      reached_by : (b : Bool) → is_pushing t u ≡ b
          → is_marked (marked (hit u) (held_slots s.slots) (cond b out (replicate 64 false))) x
          ≡ (is_marked matched x && any reach (u ∷ map (λ (r : Row). update_struct (removal u.table r)) (cond b (take 1 (rows_at s cells u.table)) [])))
      reached_by true e =
          one_at u out (length_marked (hit gone) (held_slots s.slots) (replicate 64 false))
          ∙ ap (λ (b : Bool). b || (is_marked matched x && reach u))
          (one_at gone (replicate 64 false) refl ∙ ap (λ (b : Bool). b || (is_marked matched x && reach gone)) (no-mark 64 x))
          ∙ both (is_marked matched x) (reach u) (reach gone)
          ∙ ap (λ (l : List Row). is_marked matched x && any reach (u ∷ map (λ (r : Row). update_struct (removal u.table r)) l)) (sym (first e))
        where
          both : (m a b : Bool) → ((m && b) || (m && a)) ≡ (m && (a || (b || false)))
          both true true true = refl
          both true true false = refl
          both true false true = refl
          both true false false = refl
          both false a b = refl
      reached_by false e =
          one_at u (replicate 64 false) refl
          ∙ ap (λ (b : Bool). b || (is_marked matched x && reach u)) (no-mark 64 x)
          ∙ ap (λ (b : Bool). is_marked matched x && b) (sym (or-false (reach u)))

    both-dropped : is_marked (marks_both s.keys s.slots s.queries s.query_count u t start cells us) x ≡ is_dropped s cells u us x
    unfolding is_dropped marks_both marks_judged removal_of
    both-dropped =
        reached_by (marks_judged s.keys s.slots s.queries s.query_count u t start cells us) (is_pushing t u) refl
        ∙ ap (λ (b : Bool). b && any reach (judged s cells u)) (both_at (is_pushing t u) refl)

  pub marks-matched : (is_pushing t u ≡ true → take 1 (rows_at s cells u.table) ≡ oldest_row t start cells ∷ [])
      → All (λ x. is_marked (marks_both s.keys s.slots s.queries s.query_count u t start cells us) x ≡ is_dropped s cells u us x) (held_slots s.slots)
  marks-matched first = members-have (held_slots s.slots) (λ x m. both-dropped first x m)
