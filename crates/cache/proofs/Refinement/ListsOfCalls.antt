-- A list of calls from an opening on the state follows the model of crate `trace`, call by call: what the state and its cells stand for is the model's plain store, its
-- slots are the model's cache, and every call gets what it gets there. Assumes nothing.
use mathlib.Core.Path.{◌≡◌, refl, sym, ap, ap₂, ◌∙◌, subst}
use mathlib.Core.Bool.{Bool, true, false, cond}
use mathlib.Core.Option.{none}
use mathlib.Core.List.{List, [], ◌∷◌, map}
use Prim.Native.Nat.{ℕ, ◌+◌, ◌≤◌, zero-le}
use lib.IntN.{ℤ, pos}
use lib.ListN.{length, replicate, length-replicate}
use Rattle.std.specs.Prelude.{fold}
use Rattle.meaning.specs.Limits.{most_slots}
use Rattle.meaning.specs.Plain as P
use Rattle.meaning.specs.Plain.{Lengths, Plain, Opening, opening_refused, Out}
use Rattle.trace.specs.Private.Slots.{empty}
use Rattle.trace.specs.Private.Model as T
use Rattle.trace.specs.Private.Model.{Model}
use Rattle.slots.specs.Keys.{no_key}
use Rattle.slots.proofs.Laws.{open-held, open_free}
use Rattle.cache.specs.Sound.{lengths, opening}
use Rattle.cache.specs.SoundTest.{sound_state}
use Rattle.cache.specs.Means.{Means, Typed}
use Rattle.cache.specs.Means as L
use Rattle.cache.specs.Gives.{open_of, empty_state, open_gives}
use Rattle.cache.specs.Run.{Store, Start, opening_of, store_of, opened, lent_by, Got, Seen, step, after, gets, plain_call, buffer_of, got_of, plain_gets}
use Rattle.meaning.specs.Call.{Call}
use Rattle.cache.proofs.Invariant.Sound.{sizes-fit}
use Rattle.cache.proofs.Invariant.Typed.{opened-typed, step_typed}
use Rattle.cache.proofs.Invariant.Stays.{opens_sound, stays_sound}
use Rattle.cache.proofs.Refinement.SlotsAsCache.{held_in, cache_of}
use Rattle.cache.proofs.Refinement.CallsOfModel.{Meets, step-meets}

-- ---- what holds between the calls

pub record Follows (lent : Lengths) (size : ℕ) (s : Store) (m : Model) : Type 0 where
  pub typed : Typed s.state
  pub sound : sound_state s.state ≡ true
  pub means : Means s.state s.cells m.store
  pub cached : m.cache ≡ cache_of s.state s.memory
  pub lent_is : lent_by s ≡ lent
  pub size_is : s.state.slot_bytes ≡ size

-- ---- an opening, taken or refused

-- an empty state stands for a plain store without tables and statements, and keeps no answer
module _ (o : Opening) where
  empty-means : (cells : List ℤ) → Means (empty_state o) cells (record { lengths = o.lent; tables = []; queries = []; updates = []; pending = none })
  unfolding empty_state
  empty-means cells = record { cells_are = refl; memory_is = refl; tables_are = refl; queries_are = L.nil; updates_are = L.nil; note_is = refl }

  empty-cache : (memory : List ℕ) → o.slots ≤ most_slots → empty o.slots memory ≡ cache_of (empty_state o) memory
  unfolding empty_state
  empty-cache memory h =
      ap₂ (λ (h f : List ℕ). record { held = map (held_in (replicate 64 no_key) (replicate 64 0)) h; free = f; memory = memory })
      (sym (open-held o.slots)) (sym (open_free o.slots h))

  empty-bytes : (empty_state o).slot_bytes ≡ o.slot_bytes
  unfolding empty_state
  empty-bytes = refl

module _ (o : Start) where
  abbrev opened_by : Bool → Store
  opened_by b =
      store_of
      (cond b (open_gives (record { refusal = 1; state = empty_state (opening (lengths 0 0) 0 8) }) o.cells o.memory)
      (open_gives (record { refusal = 0; state = empty_state (opening_of o) }) (replicate (length o.cells) (pos 0)) (replicate (length o.memory) 0)))

  abbrev model_by : Bool → Model
  model_by b = record {
    store = record { lengths = P.lengths_of b (opening_of o).lent; tables = []; queries = []; updates = []; pending = none };
    cache = empty (T.slots_opened b (opening_of o)) (T.memory_opened b o.memory);
  }

  follows_by : (b : Bool) → opening_refused (opening_of o) ≡ b → Typed (opened_by b).state → sound_state (opened_by b).state ≡ true
      → Follows (opening_of o).lent (T.size_opened b (opening_of o)) (opened_by b) (model_by b)
  follows_by true e t h = record {
    typed = t;
    sound = h;
    means = empty-means (opening (lengths 0 0) 0 8) o.cells;
    cached = empty-cache (opening (lengths 0 0) 0 8) o.memory zero-le;
    lent_is = refl;
    size_is = empty-bytes (opening (lengths 0 0) 0 8);
  }
  follows_by false e t h = record {
    typed = t;
    sound = h;
    means = empty-means (opening_of o) (replicate (length o.cells) (pos 0));
    cached = empty-cache (opening_of o) (replicate (length o.memory) 0) (sizes-fit (opening_of o) e).few_slots;
    lent_is =
        ap₂ (λ (a b : ℕ). record { cells = a; memory = b }) (length-replicate (length o.cells) (pos 0)) (length-replicate (length o.memory) 0);
    size_is = empty-bytes (opening_of o);
  }

  pub follows-opened : Follows (opening_of o).lent (T.slot_size (opening_of o)) (opened o) (T.opened (opening_of o) o.memory)
  unfolding open_of
  follows-opened = follows_by (opening_refused (opening_of o)) refl (opened-typed o) (opens_sound o)

-- ---- each call keeps it so

-- what the calls get, by what the model gives
abbrev pub gots_of : List (Call (List ℕ)) → List Out → List Got
gots_of [] os = []
gots_of (c ∷ cs) [] = []
gots_of (c ∷ cs) (o ∷ os) = got_of (buffer_of c) o ∷ gots_of cs os

pub plain-gets : (lent : Lengths) (p : Plain) (cs : List (Call (List ℕ))) → gots_of cs (P.outs lent p (map plain_call cs)) ≡ plain_gets lent p cs
plain-gets lent p [] = refl
plain-gets lent p (c ∷ cs) =
    ap (λ (l : List Got). got_of (buffer_of c) (P.step lent p (plain_call c)).1 ∷ l) (plain-gets lent (P.step lent p (plain_call c)).0 cs)

module _ {lent : Lengths} {size : ℕ} where
  pub meets : {s : Store} {m : Model} → Follows lent size s m → (c : Call (List ℕ)) → Meets s (buffer_of c) (step s c) (T.step lent size m (plain_call c))
  meets {s} {m} F c =
      let M = step-meets s m.store F.typed F.sound F.means c in
      let M₁ = subst (λ (x : Model). Meets s (buffer_of c) (step s c) (T.step (lent_by s) s.state.slot_bytes x (plain_call c)))
      (ap (λ k. record { store = m.store; cache = k }) (sym F.cached)) M in
      let M₂ = subst (λ (n : ℕ). Meets s (buffer_of c) (step s c) (T.step (lent_by s) n m (plain_call c))) F.size_is M₁ in
      subst (λ (n : Lengths). Meets s (buffer_of c) (step s c) (T.step n size m (plain_call c))) F.lent_is M₂

  follows-step : {s : Store} {m : Model} → Follows lent size s m → (c : Call (List ℕ)) → Follows lent size (step s c).0 (T.step lent size m (plain_call c)).0
  follows-step {s} {m} F c =
      let M = meets F c in
      record {
        typed = step_typed s c F.typed;
        sound = stays_sound s c F.typed F.sound;
        means = M.means;
        cached = M.cached;
        lent_is = ap₂ (λ (a b : ℕ). record { cells = a; memory = b }) M.cells_long M.memory_long ∙ F.lent_is;
        size_is = M.bytes_same ∙ F.size_is;
      }

  pub follows-after : {s : Store} {m : Model} → Follows lent size s m → (cs : List (Call (List ℕ))) → Follows lent size (after s cs) (T.after lent size m (map plain_call cs))
  follows-after F [] = F
  follows-after {s = s} {m = m} F (c ∷ cs) = follows-after {s = (step s c).0} {m = (T.step lent size m (plain_call c)).0} (follows-step F c) cs

  pub follows-gets : {s : Store} {m : Model} → Follows lent size s m → (cs : List (Call (List ℕ)))
      → map (λ (x : Seen). x.got) (gets s cs) ≡ gots_of cs (map (λ (x : T.Seen). x.out) (T.outs lent size m (map plain_call cs)))
  follows-gets F [] = refl
  follows-gets {s = s} {m = m} F (c ∷ cs) =
      ap₂ (λ (g : Got) (l : List Got). g ∷ l) (meets F c).got
      (follows-gets {s = (step s c).0} {m = (T.step lent size m (plain_call c)).0} (follows-step F c) cs)

  -- a sum over what the calls get, of a number that is the model's
  pub follows-sum : (f : Seen → ℕ) (g : T.Seen → ℕ) → ((s : Store) (b : List ℕ) (r : Store × Seen) (q : Model × T.Seen) → Meets s b r q → f r.1 ≡ g q.1)
      → (s : Store) (m : Model) → Follows lent size s m → (cs : List (Call (List ℕ))) (n : ℕ)
      → fold (λ (a : ℕ) (x : Seen). a + f x) n (gets s cs) ≡ fold (λ (a : ℕ) (x : T.Seen). a + g x) n (T.outs lent size m (map plain_call cs))
  follows-sum f g same s m F [] n = refl
  follows-sum f g same s m F (c ∷ cs) n =
      follows-sum f g same (step s c).0 (T.step lent size m (plain_call c)).0 (follows-step F c) cs (n + f (step s c).1)
      ∙ ap (λ (i : ℕ). fold (λ (a : ℕ) (x : T.Seen). a + g x) (n + i) (T.outs lent size (T.step lent size m (plain_call c)).0 (map plain_call cs))) (same s (buffer_of c) _ _ (meets F c))
