-- The test of a state, part by part, as the code computes it: sizes, counts, areas of tables, held slots, and what one part says of the whole. Assumes nothing.
use mathlib.Core.Path.{◌≡◌, refl, sym, ap, ap₂, ◌∙◌}
use mathlib.Core.Bool.{Bool, true, false, not, ◌&&◌, ◌||◌, and-true, and-false}
use mathlib.Core.List.{List, [], ◌∷◌}
use Prim.Native.Nat.{ℕ, ◌*◌, ◌≤◌}
use native.Mathlib.Omega.{arith}
use borrow.Author.Tests.{leb-true, ltb-true}
use lib.Dec.{eqb, leb, ltb}
use lib.ListN.{length, take, get_or}
use lib.Seq.{length-take-le, get_or-take}
use Rattle.lists.specs.Lists.{all}
use Rattle.lists.proofs.Bools.{and_left, and_right, leb-not}
use Rattle.meaning.specs.Plain.{opening_refused}
use Rattle.statement.proofs.Stored.{all_map}
use Rattle.statement.specs.declared.Query.{Query}
use Rattle.statement.specs.Compiled.{no_query}
use Rattle.slots.specs.declared.Key.{Key}
use Rattle.slots.specs.Keys.{slot_key, held_keys, held_twice, held_slots}
use Rattle.slots.specs.Order.{sound_slots}
use Rattle.cache.specs.declared.State.{State}
use Rattle.cache.specs.Sound.{lengths, opening, length_at}
use Rattle.cache.specs.SoundTest.{sound_state, sound_sizes, sound_counts, length_fits, sound_lengths, sound_key, sound_keys, sound_tables, sound_answers, sound_note}
use Rattle.cache.specs.Private.Outcomes.{key_fits, slot_fits}

-- ---- sizes

-- none of six tests holds
none_of : (a b c d e f : Bool) → (((((not a && not b) && not c) && not d) && not e) && not f) ≡ not (a || (b || (c || (d || (e || f)))))
none_of true b c d e f = refl
none_of false true c d e f = refl
none_of false false true d e f = refl
none_of false false false true e f = refl
none_of false false false false true f = refl
none_of false false false false false f = refl

module _ (cells memory slots bytes : ℕ) where
  abbrev few : Bool
  few = (leb cells 32768 && leb memory 262144) && leb slots 64

  abbrev within : Bool
  within = (few && leb 8 bytes) && leb bytes 4096

  sizes-are : (within && leb (slots * bytes) memory) ≡ not (opening_refused (opening (lengths cells memory) slots bytes))
  unfolding opening_refused
  sizes-are =
      rw (leb-not cells 32768, leb-not memory 262144, leb-not slots 64, leb-not 8 bytes, leb-not bytes 4096, leb-not (slots * bytes) memory)
      (none_of (ltb 32768 cells) (ltb 262144 memory) (ltb 64 slots) (ltb bytes 8) (ltb 4096 bytes) (ltb memory (slots * bytes)))

  pub sizes-tested : within ≡ true → leb (slots * bytes) memory ≡ not (opening_refused (opening (lengths cells memory) slots bytes))
  sizes-tested h = sym (ap (λ (b : Bool). b && leb (slots * bytes) memory) h) ∙ sizes-are

  pub sizes-past : within ≡ false → false ≡ not (opening_refused (opening (lengths cells memory) slots bytes))
  sizes-past h = sym (ap (λ (b : Bool). b && leb (slots * bytes) memory) h) ∙ sizes-are

-- ---- the answers: each held slot by itself, then all

module _ {A : Type 0} (p q : A → Bool) where
  -- two tests of each member
  all_both : (l : List A) → all (λ (x : A). p x && q x) l ≡ (all p l && all q l)
  all_both [] = refl
  all_both (x ∷ l) = ap (λ (b : Bool). (p x && q x) && b) (all_both l) ∙ apart (p x) (q x) (all p l) (all q l)
    where
      apart : (a b c d : Bool) → ((a && b) && (c && d)) ≡ ((a && c) && (b && d))
      apart true true c d = refl
      apart true false c d = sym (and-false c)
      apart false b c d = refl

-- a key by the queries in use
module _ (s : State) (queries : List Query) (long : length s.queries ≡ 16) (few : s.query_count ≤ 16) (used : queries ≡ take s.query_count s.queries) where
  key-fit : (k : Key) → key_fits queries k ≡ sound_key s k
  key-fit k = go (ltb k.query s.query_count) refl
    where
      count : length queries ≡ s.query_count
      count = ap length used ∙ length-take-le s.query_count s.queries (omega (arith, long))

      go : (b : Bool) → ltb k.query s.query_count ≡ b → key_fits queries k ≡ sound_key s k
      go true h =
          ap₂ (λ (a : ℕ) (q : Query). ltb k.query a && eqb k.count q.parameters) count
          (ap (λ (l : List Query). get_or l k.query no_query) used ∙ get_or-take s.query_count s.queries k.query no_query (ltb-true k.query s.query_count h))
      go false h = rw (count, h)

  pub all-fit : (l : List ℕ) → all (λ (x : ℕ). length_fits (length_at s x) s.slot_bytes && key_fits queries (slot_key s.keys x)) l ≡ all (slot_fits s) l
  all-fit [] = refl
  all-fit (x ∷ l) = ap₂ ◌&&◌ (ap (λ (b : Bool). length_fits (length_at s x) s.slot_bytes && b) (key-fit (slot_key s.keys x))) (all-fit l)

module _ (s : State) where
  answers-are : (k l t : Bool) → sound_slots s.slots ≡ true → ((l && k) && not t) ≡ (l && ((k && not t) && sound_slots s.slots))
  answers-are k l t e = rw e (go k l (not t))
    where
      go : (k l t : Bool) → ((l && k) && t) ≡ (l && ((k && t) && true))
      go k false t = refl
      go true true t = sym (and-true t)
      go false true t = refl

  pub answers-tested : (fit twice : Bool) → sound_slots s.slots ≡ true → fit ≡ all (slot_fits s) (held_slots s.slots) → twice ≡ held_twice s.keys s.slots
      → (fit && not twice) ≡ sound_answers s
  unfolding sound_answers
  answers-tested fit twice e f t =
      let keys : ℕ → Bool = λ (x : ℕ). sound_key s (slot_key s.keys x) in
      let lengths : ℕ → Bool = λ (x : ℕ). length_fits (length_at s x) s.slot_bytes in
      ap₂ (λ (a b : Bool). a && not b)
      (f ∙ all_both lengths keys (held_slots s.slots) ∙ ap (λ (b : Bool). all lengths (held_slots s.slots) && b) (sym (all_map (slot_key s.keys) (sound_key s) (held_slots s.slots))))
      t
      ∙ answers-are (all (sound_key s) (held_keys s.keys s.slots)) (all lengths (held_slots s.slots)) (held_twice s.keys s.slots) e

  pub answers-past : sound_slots s.slots ≡ false → false ≡ sound_answers s
  unfolding sound_answers
  answers-past e = rw e (sym (ap (λ (b : Bool). sound_lengths s && b) (and-false (sound_keys s)) ∙ and-false (sound_lengths s)))

  -- ---- the whole

  pub counts-few : sound_counts s ≡ true → (s.table_count ≤ 8) × (s.query_count ≤ 16) × (s.update_count ≤ 16)
  counts-few h =
      let r = and_right (leb s.table_count 8) _ h in (
        leb-true s.table_count 8 (and_left (leb s.table_count 8) _ h),
        leb-true s.query_count 16 (and_left (leb s.query_count 16) _ r),
        leb-true s.update_count 16 (and_right (leb s.query_count 16) _ r),
      )

  pub counts_of : sound_state s ≡ true → sound_counts s ≡ true
  unfolding sound_state
  counts_of h = and_left (sound_counts s) _ (and_right (sound_sizes s) _ h)

  pub tables_of : sound_state s ≡ true → sound_tables s ≡ true
  unfolding sound_state
  tables_of h = and_left (sound_tables s) _ (and_right (sound_counts s) _ (and_right (sound_sizes s) _ h))

  module _ (sizes counts : Bool) (z : sizes ≡ sound_sizes s) (c : counts ≡ sound_counts s) where
    pub sound-fails : (sizes && counts) ≡ false → false ≡ sound_state s
    unfolding sound_state
    sound-fails h = go (sound_sizes s) (sound_counts s) (sound_tables s && (sound_answers s && sound_note s)) (ap₂ (λ (a b : Bool). a && b) (sym z) (sym c) ∙ h)
      where
        go : (a b r : Bool) → (a && b) ≡ false → false ≡ (a && (b && r))
        go true b r e = rw e
        go false b r e = refl

    pub counts-hold : (sizes && counts) ≡ true → sound_counts s ≡ true
    counts-hold h = sym c ∙ and_right sizes counts h

    pub sound-rest : (sizes && counts) ≡ true → (sound_tables s && (sound_answers s && sound_note s)) ≡ sound_state s
    unfolding sound_state
    sound-rest h = sym (rw (sym z ∙ and_left sizes counts h, counts-hold h))
