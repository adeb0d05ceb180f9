-- Comparisons joined by the steps of their condition: each part of it is a run of comparisons that one enters at its start and leaves for `met` or `unmet` by its truth.
-- A step leads the left part on to the right one. Assumes nothing.
use Prim.Native.Nat.{ℕ, zero, suc, ◌+◌, ◌-◌, ◌*◌, ◌≤◌, ◌<◌}
use mathlib.Core.Path.{◌≡◌, refl, sym, ap, ap₂, ◌∙◌, subst}
use mathlib.Core.Logic.{◌≢◌}
use mathlib.Core.Bool.{Bool, true, false, cond, ◌&&◌, ◌||◌}
use mathlib.Core.List.{List, [], ◌∷◌, ◌++◌, map}
use native.Mathlib.Omega.{arith}
use borrow.Author.Tests.{eq-eqb, ne_eqb, lt-ltb, le-ltb, le-leb, lt-leb, leb-true, leb-false, ltb-true, ltb-false, eqb-true, eqb-false}
use lib.Dec.{eqb, ltb, leb}
use lib.ListN.{length, get_or, set, take, drop, replicate, length-drop, length-map, length-append, length-set, length-replicate, get_or-replicate, get_or-append, drop_of_length-le, get_or-eq_default}
use lib.Seq.{drop-cons, take-suc, length-take-le, append_snoc, set_at, get_or_at, get_or-take, get_or-drop, get_or-append_right, get_or-set_same, get_or-set_other}
use borrow.Rule.Slice.PartMut.{put_mid, mid_of}
use native.Mathlib.Numerals.{add-one}
use Rattle.lists.proofs.Lists.{map-append}
use Rattle.std.proofs.lemmas.List.{get_or-map as get_or-map-in}
use mir.Val.{bool_byte}
use Rattle.meaning.specs.Postfix.{top, joined}
use Rattle.table.specs.Evaluated.{if_so}
use Rattle.table.specs.Tests.{met, arrives, Forward}
use Rattle.table.specs.Private.Testing.{unmet}
use Rattle.table.specs.Private.Linking.{exit, run_at, held_of, entry_of, exit_of, led_on, Redirects, Links, pushed, emptied, joins, Starts, Linked, Unlinked}

-- ---- where one arrives

-- from place i, through comparisons below b, one leaves for x
pub data Ends (f : ℕ → ℕ) (b : ℕ) : ℕ → ℕ → Type 0 where
  there : {i : ℕ} → met ≤ i → Ends f b i i
  via : {i x : ℕ} → i < b → b ≤ met → i < f i → Ends f b (f i) x → Ends f b i x

module _ (f : ℕ → ℕ) where
  pub ends-arrives : {b i x : ℕ} → Ends f b i x → (k : ℕ) → met ≤ k + i → arrives f k i ≡ x
  ends-arrives (there {i} h) zero m = refl
  ends-arrives (there {i} h) (suc k) m = ap (λ (t : Bool). cond t (arrives f k (f i)) i) (le-ltb i met h)
  ends-arrives (via {i} {x} l e g r) zero m = absurd (omega arith)
  ends-arrives (via {i} {x} l e g r) (suc k) m =
      ap (λ (t : Bool). cond t (arrives f k (f i)) i) (lt-ltb i met (omega arith)) ∙ ends-arrives r k (omega arith)

  pub ends-wider : {b c i x : ℕ} → b ≤ c → c ≤ met → Ends f b i x → Ends f c i x
  ends-wider h m (there p) = there p
  ends-wider h m (via {i} l e g r) = via {i = i} (omega arith) m g (ends-wider h m r)

  pub ends-out : {b i x : ℕ} → Ends f b i x → met ≤ i → i ≡ x
  ends-out (there p) h = refl
  ends-out (via l e g r) h = absurd (omega arith)

-- the same comparisons lead the same way
module _ (f g : ℕ → ℕ) (lo hi : ℕ) (same : (i : ℕ) → lo ≤ i → i < hi → g i ≡ f i) where
  pub ends_same : {i x : ℕ} → lo ≤ i → Ends f hi i x → Ends g hi i x
  ends_same h (there p) = there p
  ends_same {x = x} h (via {i} l e m r) =
      let q : g i ≡ f i = same i h l in
      via l e (subst (λ (t : ℕ). i < t) (sym q) m) (subst (λ (t : ℕ). Ends g hi t x) (sym q) (ends_same (omega arith) r))

-- ---- two parts joined

-- the left part, entered at a, left for x; what led to `from` leads to b, where the right part begins, which is left for y
module _ (f g : ℕ → ℕ) (a b e from : ℕ) (out : met ≤ from) (be : b ≤ e) (em : e ≤ met)
    (turned : (i : ℕ) → a ≤ i → i < b → g i ≡ cond (eqb (f i) from) b (f i)) (y : ℕ) (right : Ends g e b y) where
  ends_on : {i x : ℕ} → a ≤ i → i < b → Ends f b i x → Ends g e i (cond (eqb x from) y x)
  ends_on {i} {x} h l (there p) = absurd (omega arith)
  ends_on {i} {x} h l (via q _ m r) = go (λ (k : f i < b). ends_on (omega arith) k r) (eqb (f i) from) refl (ltb (f i) met) refl
    where
      below : {j z : ℕ} → Ends f b j z → j < met → j < b
      below (there p) n = absurd (omega arith)
      below (via p _ _ _) n = p

      go : (f i < b → Ends g e (f i) (cond (eqb x from) y x)) → (s : Bool) → eqb (f i) from ≡ s → (t : Bool) → ltb (f i) met ≡ t → Ends g e i (cond (eqb x from) y x)
      go on true u t v =
          let k : f i ≡ from = eqb-true (f i) from u in
          let w : g i ≡ b = turned i h l ∙ ap (λ (s : Bool). cond s b (f i)) u in
          let z : eqb x from ≡ true = eq-eqb x from (sym (ends-out f r (omega arith)) ∙ k) in
          subst (λ (s : Bool). Ends g e i (cond s y x)) (sym z)
          (via {i = i} (omega arith) em (subst (λ (t : ℕ). i < t) (sym w) l) (subst (λ (t : ℕ). Ends g e t y) (sym w) right))
      go on false u false v =
          let k : met ≤ f i = ltb-false (f i) met v in
          let w : g i ≡ f i = turned i h l ∙ ap (λ (s : Bool). cond s b (f i)) u in
          let o : f i ≡ x = ends-out f r k in
          let z : eqb x from ≡ false = sym (ap (λ (t : ℕ). eqb t from) o) ∙ u in
          subst (λ (s : Bool). Ends g e i (cond s y x)) (sym z)
          (via {i = i} (omega arith) em (subst (λ (t : ℕ). i < t) (sym w) m) (subst (λ (t : ℕ). Ends g e t x) (sym w) (subst (λ (t : ℕ). Ends g e (f i) t) o (there k))))
      go on false u true v =
          let k : f i < met = ltb-true (f i) met v in
          let w : g i ≡ f i = turned i h l ∙ ap (λ (s : Bool). cond s b (f i)) u in
          via {i = i} (omega arith) em (subst (λ (t : ℕ). i < t) (sym w) m)
          (subst (λ (t : ℕ). Ends g e t (cond (eqb x from) y x)) (sym w) (on (below r k)))

  -- the same where the left part has no comparison
  pub ends-joined : {x : ℕ} → a ≤ b → Ends f b a x → Ends g e a (cond (eqb x from) y x)
  ends-joined {x} h r = go (ltb a b) refl
    where
      nothing : {z : ℕ} → Ends f b a z → b ≤ a → met ≤ a
      nothing (there p) k = p
      nothing (via p _ _ _) k = absurd (omega arith)

      either : met ≤ a → (s : Bool) → a ≡ x → a ≡ y → Ends g e a (cond s y x)
      either m true p q = subst (λ (t : ℕ). Ends g e a t) q (there m)
      either m false p q = subst (λ (t : ℕ). Ends g e a t) p (there m)

      go : (s : Bool) → ltb a b ≡ s → Ends g e a (cond (eqb x from) y x)
      go true t = ends_on (omega arith) (ltb-true a b t) r
      go false t =
          let k : b ≤ a = ltb-false a b t in
          let m : met ≤ a = nothing r k in
          let n : met ≤ b = omega arith in
          let ab : a ≡ b = omega arith in
          either m (eqb x from) (ends-out f r m) (ab ∙ ends-out g right n)

-- ---- the parts on the stack

-- where they begin, the top first
abbrev entries : List ℕ → ℕ → List ℕ
entries starts zero = []
entries starts (suc k) = get_or starts k 0 ∷ entries starts k

entries-set : (starts : List ℕ) (d x k : ℕ) → k ≤ d → entries (set starts d x) k ≡ entries starts k
entries-set starts d x zero h = refl
entries-set starts d x (suc k) h = ap₂ (λ (a : ℕ) (l : List ℕ). a ∷ l) (get_or-set_other starts d k x 0 (λ e. omega arith)) (entries-set starts d x k (omega arith))

-- each begins before the one above it, the top one before e
abbrev Chain : ℕ → List ℕ → Type 0
Chain e [] = ℕ
Chain e (a ∷ ps) = (a ≤ e) × Chain a ps

-- each is left by its truth, through comparisons before the one above it
data Parts (f : ℕ → ℕ) : ℕ → List ℕ → List Bool → Type 0 where
  none : {e : ℕ} → Parts f e [] []
  some : {e a : ℕ} {ps : List ℕ} {v : Bool} {vs : List Bool} → Ends f e a (exit v) → Parts f a ps vs → Parts f e (a ∷ ps) (v ∷ vs)

chain-wider : {e c : ℕ} (ps : List ℕ) → e ≤ c → Chain e ps → Chain c ps
chain-wider [] h m = m
chain-wider (a ∷ ps) h m = (omega (arith, m.0), m.1)

parts-wider : {f : ℕ → ℕ} {e c : ℕ} {ps : List ℕ} {vs : List Bool} → e ≤ c → c ≤ met → Parts f e ps vs → Parts f c ps vs
parts-wider h m none = none
parts-wider {f} h m (some r p) = some (ends-wider f h m r) p

parts_same : (f g : ℕ → ℕ) {e : ℕ} {ps : List ℕ} {vs : List Bool} → Chain e ps → ((i : ℕ) → i < e → g i ≡ f i) → Parts f e ps vs → Parts g e ps vs
parts_same f g m same none = none
parts_same f g {e} m same (some {a = a} r p) = some (ends_same f g 0 e (λ i _ l. same i l) (omega arith) r) (parts_same f g m.1 (λ i l. same i (omega (arith, m.0))) p)

pub exit_out : (b : Bool) → met ≤ exit b
exit_out true = omega arith
exit_out false = omega arith

-- the next comparison
parts_next : (f : ℕ → ℕ) {e : ℕ} {ps : List ℕ} {vs : List Bool} (v : Bool) → e < met → f e ≡ exit v → Parts f e ps vs → Parts f (suc e) (e ∷ ps) (v ∷ vs)
parts_next f {e} v h q p =
    let o : met ≤ exit v = exit_out v in
    let m : met ≤ f e = subst (λ (t : ℕ). met ≤ t) (sym q) o in
    some {e = suc e} (via {i = e} (omega arith) (omega arith) (omega arith) (subst (λ (t : ℕ). Ends f (suc e) (f e) t) q (there m))) p

-- what a step makes of two truths
abbrev join_of : ℕ → Bool → Bool → Bool
join_of step a b = cond (eqb step 1) (a && b) (a || b)

exit-join : (t : Bool) (x y : Bool) → cond (eqb (exit x) (cond t met unmet)) (exit y) (exit x) ≡ exit (cond t (x && y) (x || y))
exit-join true true y = refl
exit-join true false y = refl
exit-join false true y = refl
exit-join false false y = refl

out_of : (t : Bool) → met ≤ cond t met unmet
out_of true = omega arith
out_of false = omega arith

module _ (ord : ℕ → ℕ) (four : (i : ℕ) → ord i ≤ 3) where
  abbrev leads : List ℕ → ℕ → ℕ
  leads t i = get_or t (4 * i + ord i) 0

  module _ (a b from : ℕ) (t r : List ℕ) (len : length t ≡ 32) (R : Redirects a b from t r) where
    turned-at : (i : ℕ) → i < met → leads r i ≡ cond (leb (4 * a) (4 * i + ord i) && (ltb (4 * i + ord i) (4 * b) && eqb (leads t i) from)) b (leads t i)
    turned-at i h = R.1 (4 * i + ord i) (omega (arith, four i, len))

    turned-in : (i : ℕ) → i < met → a ≤ i → i < b → leads r i ≡ cond (eqb (leads t i) from) b (leads t i)
    turned-in i h l m =
        turned-at i h
        ∙ ap₂ (λ (p q : Bool). cond (p && (q && eqb (leads t i) from)) b (leads t i)) (le-leb (4 * a) (4 * i + ord i) (omega arith)) (lt-ltb (4 * i + ord i) (4 * b) (omega (arith, four i)))

    turned-before : (i : ℕ) → i < met → i < a → leads r i ≡ leads t i
    turned-before i h l = turned-at i h ∙ ap (λ (p : Bool). cond (p && (ltb (4 * i + ord i) (4 * b) && eqb (leads t i) from)) b (leads t i)) (lt-leb (4 * a) (4 * i + ord i) (omega (arith, four i)))

    turned-behind : (i : ℕ) → i < met → b ≤ i → leads r i ≡ leads t i
    turned-behind i h l = turned-at i h ∙ behind (leb (4 * a) (4 * i + ord i)) (ltb (4 * i + ord i) (4 * b)) (le-ltb (4 * i + ord i) (4 * b) (omega arith))
      where
        behind : (p q : Bool) → q ≡ false → cond (p && (q && eqb (leads t i) from)) b (leads t i) ≡ leads t i
        behind true q e = ap (λ (s : Bool). cond (s && eqb (leads t i) from) b (leads t i)) e
        behind false q e = refl

  parts_join : (step e a b : ℕ) (ps : List ℕ) (va vb : Bool) (vs : List Bool) (t r : List ℕ) → length t ≡ 32 → e ≤ met → Chain e (b ∷ a ∷ ps)
      → Redirects a b (exit_of step) t r → Parts (leads t) e (b ∷ a ∷ ps) (vb ∷ va ∷ vs) → Parts (leads r) e (a ∷ ps) (join_of step va vb ∷ vs)
  parts_join step e a b ps va vb vs t r len em C R (some right (some left p)) =
      let be : b ≤ e = C.0 in
      let ab : a ≤ b = C.1.0 in
      let right' : Ends (leads r) e b (exit vb) = ends_same (leads t) (leads r) b e (λ i l h. turned-behind a b (exit_of step) t r len R i (omega arith) l) (omega arith) right in
      some (subst (λ (x : ℕ). Ends (leads r) e a x) (exit-join (eqb step 1) va vb)
      (ends-joined (leads t) (leads r) a b e (exit_of step) (out_of (eqb step 1)) be em (λ i l h. turned-in a b (exit_of step) t r len R i (omega arith) l h) (exit vb) right' ab left))
      (parts_same (leads t) (leads r) C.1.1 (λ i l. turned-before a b (exit_of step) t r len R i (omega arith) l) p)

-- ---- the loop

-- a flag as a number
pub one-of : (b : Bool) → bool_byte b ≡ if_so b 1
one-of true = refl
one-of false = refl

-- of the steps in use, for each order of the comparisons' sides: the parts on the stack, and the steps left give what all of them give
record Standing (steps : List ℕ) (n : ℕ) (ord : ℕ → ℕ) (h : ℕ → Bool) (starts targets : List ℕ) (depth next i : ℕ) : Type 0 where
  stack : List Bool
  parts : Parts (λ (k : ℕ). get_or targets (4 * k + ord k) 0) (entry_of n next) (entries starts depth) stack
  runs : run_at (held_of n h) next (drop i steps) stack ≡ run_at (held_of n h) 0 steps []

pub record Linking (steps : List ℕ) (n : ℕ) (t starts targets : List ℕ) (depth next i : ℕ) : Type 0 where
  pub targets-32 : length targets ≡ 32
  pub starts-15 : length starts ≡ 15
  pub starts_in : Starts starts
  pub few : depth ≤ i
  pub read : next ≤ i
  pub within : i ≤ 15
  pub forward : Forward targets
  pub fresh : (j : ℕ) → 4 * next ≤ j → j < 4 * n → get_or targets j 0 ≡ get_or t j 0
  chain : Chain (entry_of n next) (entries starts depth)
  standing : (ord : ℕ → ℕ) (h : ℕ → Bool) → ((k : ℕ) → ord k ≤ 3) → ((k : ℕ) → k < n → get_or t (4 * k + ord k) 0 ≡ exit (h k)) → Standing steps n ord h starts targets depth next i

entry_in : (n next : ℕ) → n ≤ 8 → entry_of n next ≤ met
entry_in n next h = go (ltb next n) refl
  where
    go : (b : Bool) → ltb next n ≡ b → cond b next met ≤ met
    go true e = let l : next < n = ltb-true next n e in omega arith
    go false e = omega arith

entry-inside : (n next : ℕ) → next < n → entry_of n next ≡ next
entry-inside n next h = ap (λ (b : Bool). cond b next met) (lt-ltb next n h)

entry_past : (n next : ℕ) → n ≤ next → entry_of n next ≡ met
entry_past n next h = ap (λ (b : Bool). cond b next met) (le-ltb next n h)

-- the next comparison begins no earlier
entry_next : (n next : ℕ) → n ≤ 8 → entry_of n next ≤ entry_of n (next + 1)
entry_next n next n8 = go (ltb next n) refl
  where
    inside : next < n → (b : Bool) → ltb (next + 1) n ≡ b → next ≤ cond b (next + 1) met
    inside l true e = omega arith
    inside l false e = omega arith

    go : (b : Bool) → ltb next n ≡ b → cond b next met ≤ entry_of n (next + 1)
    go true e = inside (ltb-true next n e) (ltb (next + 1) n) refl
    go false e =
        let h : n ≤ next = ltb-false next n e in
        subst (λ (k : ℕ). met ≤ k) (sym (entry_past n (next + 1) (omega arith))) (omega arith)

-- the next comparison, there or missing, on the stack
parts-pushed : (f : ℕ → ℕ) (h : ℕ → Bool) (n next : ℕ) {ps : List ℕ} {vs : List Bool} → n ≤ 8 → (next < n → f next ≡ exit (h next)) → Parts f (entry_of n next) ps vs
    → Parts f (entry_of n (next + 1)) (entry_of n next ∷ ps) (held_of n h next ∷ vs)
parts-pushed f h n next {ps} {vs} n8 q p = go (ltb next n) refl
  where
    go : (b : Bool) → ltb next n ≡ b → Parts f (entry_of n (next + 1)) (entry_of n next ∷ ps) (held_of n h next ∷ vs)
    go true e =
        let l : next < n = ltb-true next n e in
        let s : suc next ≤ entry_of n (next + 1) = step (ltb (next + 1) n) l in
        subst (λ (v : Bool). Parts f (entry_of n (next + 1)) (entry_of n next ∷ ps) (v ∷ vs)) (sym (ap (λ (b : Bool). cond b (h next) true) e))
        (subst (λ (a : ℕ). Parts f (entry_of n (next + 1)) (a ∷ ps) (h next ∷ vs)) (sym (entry-inside n next l))
        (parts-wider s (entry_in n (next + 1) n8) (parts_next f (h next) (omega arith) (q l) (subst (λ (a : ℕ). Parts f a ps vs) (entry-inside n next l) p))))
      where
        step : (b : Bool) → next < n → suc next ≤ cond b (next + 1) met
        step true l = omega arith
        step false l = omega arith
    go false e =
        let m : n ≤ next = ltb-false next n e in
        subst (λ (v : Bool). Parts f (entry_of n (next + 1)) (entry_of n next ∷ ps) (v ∷ vs)) (sym (ap (λ (b : Bool). cond b (h next) true) e))
        (subst (λ (a : ℕ). Parts f (entry_of n (next + 1)) (a ∷ ps) (true ∷ vs)) (sym (entry_past n next m))
        (some (there (omega arith)) (subst (λ (a : ℕ). Parts f a ps vs) (entry_past n next m) p)))

-- what a step that is no comparison does to the stack
run_join : (h : ℕ → Bool) (next step : ℕ) (ss : List ℕ) (st : List Bool) → step ≢ 0 → run_at h next (step ∷ ss) st ≡ run_at h next ss (joined (join_of step) st)
run_join h next zero ss st z = absurd (z refl)
run_join h next (suc zero) ss st z = refl
run_join h next (suc (suc k)) ss st z = ap (λ (b : Bool). run_at h next ss (joined (λ (x y : Bool). cond b (x && y) (x || y)) st)) (sym (ne_eqb (suc (suc k)) 1 (λ e. omega arith)))

run-emptied : (h : ℕ → Bool) (next step : ℕ) (ss : List ℕ) {f : ℕ → ℕ} {e : ℕ} {st : List Bool} (starts : List ℕ) (depth : ℕ) → depth < 2 → Parts f e (entries starts depth) st → step ≢ 0
    → run_at h next (step ∷ ss) st ≡ run_at h next ss []
run-emptied h next step ss starts zero few none z = run_join h next step ss [] z
run-emptied h next step ss starts (suc zero) few (some {v = v} r none) z = run_join h next step ss (v ∷ []) z
run-emptied h next step ss starts (suc (suc d)) few p z = absurd (omega arith)

module _ (steps : List ℕ) (n : ℕ) (t : List ℕ) (n8 : n ≤ 8) (few15 : length steps ≤ 15) where
  pub link_start : (starts : List ℕ) → length starts ≡ 15 → Starts starts → Unlinked t → Linking steps n t starts t 0 0 0
  link_start starts l s U =
      record {
        targets-32 = U.0;
        starts-15 = l;
        starts_in = s;
        few = omega arith;
        read = omega arith;
        within = omega arith;
        forward = λ i k h m. omega (arith, U.1 (4 * i + k) (omega arith));
        fresh = λ j _ _. refl;
        chain = 0;
        standing = λ ord h _ _. record { stack = []; parts = none; runs = refl };
      }

  module _ (starts targets : List ℕ) (depth next i : ℕ) (L : Linking steps n t starts targets depth next i) where
    step_is : i < length steps → drop i steps ≡ get_or steps i 0 ∷ drop (i + 1) steps
    step_is lt =
        let s : suc i ≡ i + 1 = omega arith in
        drop-cons steps i 0 lt ∙ ap (λ (j : ℕ). get_or steps i 0 ∷ drop j steps) s

    -- the next comparison begins a part
    link-pushed : i < length steps → (starts' : List ℕ) → get_or steps i 0 ≡ 0 → starts' ≡ set starts depth (entry_of n next)
        → Linking steps n t starts' targets (suc depth) (next + 1) (i + 1)
    link-pushed lt starts' z es = subst (λ (l : List ℕ). Linking steps n t l targets (suc depth) (next + 1) (i + 1)) (sym es)
        (record {
          targets-32 = L.targets-32;
          starts-15 = simp length-set L.starts-15;
          starts_in = starts-below;
          few = omega (arith, L.few);
          read = omega (arith, L.read);
          within = omega arith;
          forward = L.forward;
          fresh = λ j a b. L.fresh j (omega arith) b;
          chain = chained;
          standing = stood;
        })
      where
        room : depth < length starts
        room = omega (arith, L.few, L.starts-15)

        x : ℕ
        x = entry_of n next

        starts-below : (j : ℕ) → get_or (set starts depth x) j 0 ≤ met
        starts-below j = go (eqb j depth) refl
          where
            go : (b : Bool) → eqb j depth ≡ b → get_or (set starts depth x) j 0 ≤ met
            go true e =
                let q : j ≡ depth = eqb-true j depth e in
                subst (λ (k : ℕ). get_or (set starts depth x) k 0 ≤ met) (sym q) (subst (λ (k : ℕ). k ≤ met) (sym (get_or-set_same starts depth x 0 room)) (entry_in n next n8))
            go false e = subst (λ (k : ℕ). k ≤ met) (sym (get_or-set_other starts depth j x 0 (λ q. eqb-false j depth e q))) (L.starts_in j)

        now : entries (set starts depth x) (suc depth) ≡ x ∷ entries starts depth
        now = ap₂ (λ (a : ℕ) (l : List ℕ). a ∷ l) (get_or-set_same starts depth x 0 room) (entries-set starts depth x depth (omega arith))

        chained : Chain (entry_of n (next + 1)) (entries (set starts depth x) (suc depth))
        chained = subst (λ (l : List ℕ). Chain (entry_of n (next + 1)) l) (sym now) (entry_next n next n8, L.chain)

        stood : (ord : ℕ → ℕ) (h : ℕ → Bool) → ((k : ℕ) → ord k ≤ 3) → ((k : ℕ) → k < n → get_or t (4 * k + ord k) 0 ≡ exit (h k))
            → Standing steps n ord h (set starts depth x) targets (suc depth) (next + 1) (i + 1)
        stood ord h four each =
            let S : Standing steps n ord h starts targets depth next i = L.standing ord h four each in
            let f : ℕ → ℕ = λ (k : ℕ). get_or targets (4 * k + ord k) 0 in
            record {
              stack = held_of n h next ∷ S.stack;
              parts = subst (λ (l : List ℕ). Parts f (entry_of n (next + 1)) l (held_of n h next ∷ S.stack)) (sym now)
                  (parts-pushed f h n next n8 (λ l. L.fresh (4 * next + ord next) (omega arith) (omega (arith, four next)) ∙ each next l) S.parts);
              runs =
                  let s : next + 1 ≡ suc next = omega arith in
                  ap (λ (m : ℕ). run_at (held_of n h) m (drop (i + 1) steps) (held_of n h next ∷ S.stack)) s
                  ∙ ap (λ (k : ℕ). run_at (held_of n h) next (k ∷ drop (i + 1) steps) S.stack) (sym z)
                  ∙ ap (λ (ss : List ℕ). run_at (held_of n h) next ss S.stack) (sym (step_is lt))
                  ∙ S.runs;
            }

    -- too few parts for a step: none is left
    link-emptied : i < length steps → get_or steps i 0 ≢ 0 → depth < 2 → Linking steps n t starts targets 0 (next + 0) (i + 1)
    link-emptied lt z few =
        record {
          targets-32 = L.targets-32;
          starts-15 = L.starts-15;
          starts_in = L.starts_in;
          few = omega arith;
          read = omega (arith, L.read);
          within = omega arith;
          forward = L.forward;
          fresh = λ j a b. L.fresh j (omega arith) b;
          chain = 0;
          standing = λ ord h four each.
              let S : Standing steps n ord h starts targets depth next i = L.standing ord h four each in
              record {
                stack = [];
                parts = none;
                runs =
                    let s : next + 0 ≡ next = omega arith in
                    ap (λ (m : ℕ). run_at (held_of n h) m (drop (i + 1) steps) []) s
                    ∙ sym (run-emptied (held_of n h) next (get_or steps i 0) (drop (i + 1) steps) starts depth few S.parts z)
                    ∙ ap (λ (ss : List ℕ). run_at (held_of n h) next ss S.stack) (sym (step_is lt))
                    ∙ S.runs;
              };
        }

    -- the two parts on top joined
    link-joined : i < length steps → (depth' : ℕ) (targets' : List ℕ) → get_or steps i 0 ≢ 0 → 2 ≤ depth → suc depth' ≡ depth
        → Redirects (get_or starts (depth - 2) 0) (get_or starts (depth - 1) 0) (exit_of (get_or steps i 0)) targets targets' → Linking steps n t starts targets' depth' (next + 0) (i + 1)
    link-joined lt depth' targets' z two ed R = go depth' refl
      where
        step : ℕ
        step = get_or steps i 0

        go : (d : ℕ) → depth' ≡ d → Linking steps n t starts targets' depth' (next + 0) (i + 1)
        go zero e = absurd (omega arith)
        go (suc d) e = subst (λ (k : ℕ). Linking steps n t starts targets' k (next + 0) (i + 1)) (sym e)
            (record {
              targets-32 = R.0 ∙ L.targets-32;
              starts-15 = L.starts-15;
              starts_in = L.starts_in;
              few = omega (arith, L.few);
              read = omega (arith, L.read);
              within = omega arith;
              forward = forward';
              fresh = fresh';
              chain = subst (λ (k : ℕ). Chain (entry_of n k) (entries starts (suc d))) (sym s) (chain-wider (entries starts (suc d)) C.0 C.1);
              standing = stood;
            })
          where
            s : next + 0 ≡ next
            s = omega arith

            a : ℕ
            a = get_or starts d 0

            b : ℕ
            b = get_or starts (suc d) 0

            deep : depth ≡ suc (suc d)
            deep = omega arith

            R' : Redirects a b (exit_of step) targets targets'
            R' =
                let p : depth - 2 ≡ d = omega arith in
                let q : depth - 1 ≡ suc d = omega arith in
                subst (λ (k : ℕ). Redirects (get_or starts d 0) (get_or starts k 0) (exit_of step) targets targets') q
                (subst (λ (k : ℕ). Redirects (get_or starts k 0) (get_or starts (depth - 1) 0) (exit_of step) targets targets') p R)

            C : Chain (entry_of n next) (b ∷ a ∷ entries starts d)
            C = subst (λ (k : ℕ). Chain (entry_of n next) (entries starts k)) deep L.chain

            forward' : Forward targets'
            forward' k m h few4 = subst (λ (x : ℕ). k < x) (sym (R'.1 (4 * k + m) (omega (arith, L.targets-32))))
                (pick (leb (4 * a) (4 * k + m)) (ltb (4 * k + m) (4 * b)) refl (eqb (get_or targets (4 * k + m) 0) (exit_of step)))
              where
                old : k < get_or targets (4 * k + m) 0
                old = L.forward k m h few4

                pick : (x y : Bool) → ltb (4 * k + m) (4 * b) ≡ y → (w : Bool) → k < cond (x && (y && w)) b (get_or targets (4 * k + m) 0)
                pick false y f w = old
                pick true false f w = old
                pick true true f false = old
                pick true true f true = let g : 4 * k + m < 4 * b = ltb-true (4 * k + m) (4 * b) f in omega arith

            -- behind the parts nothing changed
            fresh' : (j : ℕ) → 4 * (next + 0) ≤ j → j < 4 * n → get_or targets' j 0 ≡ get_or t j 0
            fresh' j h l =
                let inside : next < n = omega arith in
                let below : b ≤ next = subst (λ (k : ℕ). b ≤ k) (entry-inside n next inside) C.0 in
                R'.1 j (omega (arith, L.targets-32)) ∙ behind (leb (4 * a) j) (ltb j (4 * b)) (le-ltb j (4 * b) (omega arith)) ∙ L.fresh j (omega arith) l
              where
                behind : (x y : Bool) → y ≡ false → cond (x && (y && eqb (get_or targets j 0) (exit_of step))) b (get_or targets j 0) ≡ get_or targets j 0
                behind true y f = ap (λ (w : Bool). cond (w && eqb (get_or targets j 0) (exit_of step)) b (get_or targets j 0)) f
                behind false y f = refl

            stood : (ord : ℕ → ℕ) (h : ℕ → Bool) → ((k : ℕ) → ord k ≤ 3) → ((k : ℕ) → k < n → get_or t (4 * k + ord k) 0 ≡ exit (h k))
                → Standing steps n ord h starts targets' (suc d) (next + 0) (i + 1)
            stood ord h four each = taken S.stack (subst (λ (k : ℕ). Parts f (entry_of n next) (entries starts k) S.stack) deep S.parts) S.runs
              where
                S : Standing steps n ord h starts targets depth next i
                S = L.standing ord h four each

                f : ℕ → ℕ
                f = λ (k : ℕ). get_or targets (4 * k + ord k) 0

                taken : (st : List Bool) → Parts f (entry_of n next) (b ∷ a ∷ entries starts d) st
                    → run_at (held_of n h) next (drop i steps) st ≡ run_at (held_of n h) 0 steps []
                    → Standing steps n ord h starts targets' (suc d) (next + 0) (i + 1)
                taken _ (some {v = vb} rb (some {v = va} {vs = vs} ra p)) runs =
                    record {
                      stack = join_of step va vb ∷ vs;
                      parts = subst (λ (k : ℕ). Parts (λ (j : ℕ). get_or targets' (4 * j + ord j) 0) (entry_of n k) (entries starts (suc d)) (join_of step va vb ∷ vs)) (sym s)
                          (parts_join ord four step (entry_of n next) a b (entries starts d) va vb vs targets targets' L.targets-32 (entry_in n next n8) C R' (some rb (some ra p)));
                      runs =
                          ap (λ (m : ℕ). run_at (held_of n h) m (drop (i + 1) steps) (join_of step va vb ∷ vs)) s
                          ∙ sym (run_join (held_of n h) next step (drop (i + 1) steps) (vb ∷ va ∷ vs) z)
                          ∙ ap (λ (ss : List ℕ). run_at (held_of n h) next ss (vb ∷ va ∷ vs)) (sym (step_is lt))
                          ∙ runs;
                    }

    -- one step
    pub link-more : i < length steps → (depth' : ℕ) (starts' targets' : List ℕ) (more : ℕ) → more ≡ if_so (eqb (get_or steps i 0) 0) 1
        → Links n (get_or steps i 0) next depth starts targets depth' starts' targets' → Linking steps n t starts' targets' depth' (next + more) (i + 1)
    link-more lt depth' starts' targets' more em (pushed z ed es et) =
        let one : more ≡ 1 = em ∙ ap (λ (b : Bool). if_so b 1) (eq-eqb (get_or steps i 0) 0 z) in
        subst (λ (d : ℕ). Linking steps n t starts' targets' d (next + more) (i + 1)) (sym ed)
        (subst (λ (l : List ℕ). Linking steps n t starts' l (suc depth) (next + more) (i + 1)) (sym et)
        (subst (λ (m : ℕ). Linking steps n t starts' targets (suc depth) (next + m) (i + 1)) (sym one) (link-pushed lt starts' z es)))
    link-more lt depth' starts' targets' more em (emptied z few ed es et) =
        let none' : more ≡ 0 = em ∙ ap (λ (b : Bool). if_so b 1) (ne_eqb (get_or steps i 0) 0 z) in
        subst (λ (d : ℕ). Linking steps n t starts' targets' d (next + more) (i + 1)) (sym ed)
        (subst (λ (l : List ℕ). Linking steps n t starts' l 0 (next + more) (i + 1)) (sym et)
        (subst (λ (l : List ℕ). Linking steps n t l targets 0 (next + more) (i + 1)) (sym es)
        (subst (λ (m : ℕ). Linking steps n t starts targets 0 (next + m) (i + 1)) (sym none') (link-emptied lt z few))))
    link-more lt depth' starts' targets' more em (joins z two ed es R) =
        let none' : more ≡ 0 = em ∙ ap (λ (b : Bool). if_so b 1) (ne_eqb (get_or steps i 0) 0 z) in
        subst (λ (l : List ℕ). Linking steps n t l targets' depth' (next + more) (i + 1)) (sym es)
        (subst (λ (m : ℕ). Linking steps n t starts targets' depth' (next + m) (i + 1)) (sym none') (link-joined lt depth' targets' z two ed R))

    -- the same of a step s
    pub link-step : (s : ℕ) → s ≡ get_or steps i 0 → i < length steps → (depth' : ℕ) (starts' targets' : List ℕ) (more : ℕ) → more ≡ bool_byte (eqb s 0)
        → Links n s next depth starts targets depth' starts' targets' → Linking steps n t starts' targets' depth' (next + more) (i + 1)
    link-step s q h depth' starts' targets' more e K =
        link-more h depth' starts' targets' more (e ∙ one-of (eqb s 0) ∙ ap (λ (k : ℕ). if_so (eqb k 0) 1) q) (subst (λ (k : ℕ). Links n k next depth starts targets depth' starts' targets') q K)

    -- all steps are done
    pub link-done : length steps ≤ i → Linked steps n t targets (cond (eqb depth 0) met (get_or starts (depth - 1) 0))
    link-done lt =
        record {
          forward = L.forward;
          arrives_at = λ ord h four each. ended ord h (L.standing ord h four each);
        }
      where
        over : drop i steps ≡ []
        over = drop_of_length-le steps lt

        top-ends : (f : ℕ → ℕ) (d : ℕ) (st : List Bool) → Parts f (entry_of n next) (entries starts d) st
            → arrives f met (cond (eqb d 0) met (get_or starts (d - 1) 0)) ≡ exit (top true st)
        top-ends f zero _ none = ends-arrives f {b = met} (there (omega arith)) met (omega arith)
        top-ends f (suc d) _ (some {v = v} r p) =
            let z : eqb (suc d) 0 ≡ false = ne_eqb (suc d) 0 (λ e. omega arith) in
            let q : suc d - 1 ≡ d = omega arith in
            ap₂ (λ (b : Bool) (k : ℕ). arrives f met (cond b met (get_or starts k 0))) z q ∙ ends-arrives f r met (omega arith)

        ended : (ord : ℕ → ℕ) (h : ℕ → Bool) → Standing steps n ord h starts targets depth next i
            → arrives (λ (k : ℕ). get_or targets (4 * k + ord k) 0) met (cond (eqb depth 0) met (get_or starts (depth - 1) 0)) ≡ exit (top true (run_at (held_of n h) 0 steps []))
        ended ord h S =
            top-ends (λ (k : ℕ). get_or targets (4 * k + ord k) 0) depth S.stack S.parts
            ∙ ap (λ (st : List Bool). exit (top true st)) (ap (λ (ss : List ℕ). run_at (held_of n h) next ss S.stack) (sym over) ∙ S.runs)

-- ---- to begin with

pub none-linked : (t : List ℕ) → t ≡ replicate 32 unmet → Unlinked t
none-linked t e = subst Unlinked (sym e) (length-replicate 32 unmet, λ j h. subst (λ (k : ℕ). met ≤ k) (sym (get_or-replicate 32 j unmet 0 h)) (omega arith))

pub no-starts : (s : List ℕ) → s ≡ replicate 15 met → (length s ≡ 15) × Starts s
no-starts s e = subst (λ (l : List ℕ). (length l ≡ 15) × Starts l) (sym e) (length-replicate 15 met, at)
  where
    at : (j : ℕ) → get_or (replicate 15 met) j 0 ≤ met
    at j = go (ltb j 15) refl
      where
        go : (b : Bool) → ltb j 15 ≡ b → get_or (replicate 15 met) j 0 ≤ met
        go true f = subst (λ (k : ℕ). k ≤ met) (sym (get_or-replicate 15 j met 0 (ltb-true j 15 f))) (omega arith)
        go false f =
            let l : 15 ≤ j = ltb-false j 15 f in
            let m : length (replicate 15 met) ≤ j = simp length-replicate l in
            subst (λ (k : ℕ). k ≤ met) (sym (get_or-eq_default (replicate 15 met) 0 m)) (omega arith)

-- ---- targets led on

-- the first i of them are led on
abbrev pub led : ℕ → ℕ → List ℕ → ℕ → List ℕ
led from b t i = map (led_on from b) (take i t) ++ drop i t

module _ (from b : ℕ) where
  led-long : (t : List ℕ) (i : ℕ) → i < length t → length (map (led_on from b) (take i t)) ≡ i
  led-long t i h = length-map (take i t) (led_on from b) ∙ length-take-le i t (omega arith)

  pub led-here : (t r : List ℕ) (i : ℕ) → i < length t → r ≡ led from b t i → get_or r i 0 ≡ get_or t i 0
  led-here t r i h e = ap (λ (l : List ℕ). get_or l i 0) e ∙ rw (drop-cons t i 0 h) (get_or_at (map (led_on from b) (take i t)) (get_or t i 0) (drop (suc i) t) 0 i (led-long t i h))

  -- one more target, which is now x
  led-next : (t : List ℕ) (i : ℕ) → i < length t → led from b t (i + 1) ≡ map (led_on from b) (take i t) ++ led_on from b (get_or t i 0) ∷ drop (suc i) t
  led-next t i h = rw (add-one, take-suc t i 0 h) (rw (map-append (led_on from b) (take i t) (get_or t i 0 ∷ [])) (append_snoc (map (led_on from b) (take i t)) (led_on from b (get_or t i 0)) (drop (suc i) t)))

  pub led-met : (t r : List ℕ) (i : ℕ) → i < length t → r ≡ led from b t i → get_or r i 0 ≡ from → set r i b ≡ led from b t (i + 1)
  led-met t r i h e m =
      let x : led_on from b (get_or t i 0) ≡ b = ap (λ (y : Bool). cond y b (get_or t i 0)) (eq-eqb (get_or t i 0) from (sym (led-here t r i h e) ∙ m)) in
      ap (λ (l : List ℕ). set l i b) e
      ∙ rw (drop-cons t i 0 h) (set_at (map (led_on from b) (take i t)) (get_or t i 0) (drop (suc i) t) b i (led-long t i h))
      ∙ ap (λ (y : ℕ). map (led_on from b) (take i t) ++ y ∷ drop (suc i) t) (sym x)
      ∙ sym (led-next t i h)

  pub led-stay : (t r : List ℕ) (i : ℕ) → i < length t → r ≡ led from b t i → get_or r i 0 ≢ from → r ≡ led from b t (i + 1)
  led-stay t r i h e m =
      let x : led_on from b (get_or t i 0) ≡ get_or t i 0 = ap (λ (y : Bool). cond y b (get_or t i 0)) (ne_eqb (get_or t i 0) from (λ q. m (led-here t r i h e ∙ q))) in
      e ∙ ap (λ (l : List ℕ). map (led_on from b) (take i t) ++ l) (drop-cons t i 0 h)
      ∙ ap (λ (y : ℕ). map (led_on from b) (take i t) ++ y ∷ drop (suc i) t) (sym x)
      ∙ sym (led-next t i h)

-- a part of the targets led on
module _ (a b from : ℕ) (t : List ℕ) (len : length t ≡ 32) (b8 : b ≤ 8) where
  pub redirect-part : a < b → (m r : List ℕ) → m ≡ map (led_on from b) (mid_of (4 * a) (4 * b - 4 * a) t) → r ≡ put_mid (4 * a) (4 * b - 4 * a) t m → Redirects a b from t r
  redirect-part h m r em er = (ap length er ∙ long, λ j l. ap (λ (x : List ℕ). get_or x j 0) er ∙ go j (omega (arith, len)) (leb (4 * a) j) refl (ltb j (4 * b)) refl)
    where
      n : ℕ
      n = 4 * b - 4 * a

      front : List ℕ
      front = take (4 * a) t

      back : List ℕ
      back = drop n (drop (4 * a) t)

      front-long : length front ≡ 4 * a
      front-long = length-take-le (4 * a) t (omega arith)

      mid-long : length m ≡ n
      mid-long = ap length em ∙ length-map (take n (drop (4 * a) t)) (led_on from b) ∙ length-take-le n (drop (4 * a) t) (omega (arith, length-drop (4 * a) t))

      long : length (front ++ (m ++ back)) ≡ length t
      long = length-append front (m ++ back) ∙ ap (λ (k : ℕ). length front + k) (length-append m back) ∙ omega (arith, front-long, mid-long, length-drop n (drop (4 * a) t), length-drop (4 * a) t)

      go : (j : ℕ) → j < 32 → (p : Bool) → leb (4 * a) j ≡ p → (q : Bool) → ltb j (4 * b) ≡ q
          → get_or (front ++ (m ++ back)) j 0 ≡ cond (p && (q && eqb (get_or t j 0) from)) b (get_or t j 0)
      go j l false e q f =
          let k : j < 4 * a = leb-false (4 * a) j e in
          get_or-append front (m ++ back) 0 j (omega (arith, front-long)) ∙ get_or-take (4 * a) t j 0 k
      go j l true e true f =
          let k : 4 * a ≤ j = leb-true (4 * a) j e in
          let u : j < 4 * b = ltb-true j (4 * b) f in
          let at : 4 * a + (j - length front) ≡ j = omega (arith, front-long) in
          let in-n : j - length front < n = omega (arith, front-long) in
          get_or-append_right front (m ++ back) j 0 (omega (arith, front-long))
          ∙ get_or-append m back 0 (j - length front) (omega (arith, mid-long))
          ∙ ap (λ (x : List ℕ). get_or x (j - length front) 0) em
          ∙ get_or-map-in (led_on from b) (take n (drop (4 * a) t)) (j - length front) 0 0 (omega (arith, mid-long, ap length em, length-map (take n (drop (4 * a) t)) (led_on from b)))
          ∙ ap (led_on from b) (get_or-take n (drop (4 * a) t) (j - length front) 0 in-n ∙ get_or-drop (4 * a) t (j - length front) 0 ∙ ap (λ (i : ℕ). get_or t i 0) at)
      go j l true e false f =
          let k : 4 * a ≤ j = leb-true (4 * a) j e in
          let u : 4 * b ≤ j = ltb-false j (4 * b) f in
          let at : 4 * a + (n + (j - length front - length m)) ≡ j = omega (arith, front-long, mid-long) in
          get_or-append_right front (m ++ back) j 0 (omega (arith, front-long))
          ∙ get_or-append_right m back (j - length front) 0 (omega (arith, front-long, mid-long))
          ∙ get_or-drop n (drop (4 * a) t) (j - length front - length m) 0
          ∙ get_or-drop (4 * a) t (n + (j - length front - length m)) 0
          ∙ ap (λ (i : ℕ). get_or t i 0) at
