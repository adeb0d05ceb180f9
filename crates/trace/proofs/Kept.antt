-- The slots keep what `recent` says of the history: after a kept answer found, a new record put into the last slot, and answers dropped. Assumes nothing.
use mathlib.Core.Path.{◌≡◌, refl, sym, ap, ap₂, ◌∙◌}
use mathlib.Core.HLevel.{Discrete}
use mathlib.Core.Logic.{◌≢◌}
use mathlib.Core.Bool.{Bool, true, false, not}
use mathlib.Core.Option.{Option, none, some}
use mathlib.Core.List.{List, [], ◌∷◌, ◌++◌, map, append-nil, append_assoc}
use Prim.Native.Nat.{ℕ, suc, ◌*◌, ◌≤◌}
use native.Mathlib.Omega.{arith}
use lib.ListN.{length, take, length-append, length-map}
use lib.Seq.{take_all, take_at}
use borrow.Author.Tests.{leb-true}
use Rattle.lists.specs.Lists.{All, nil, cons, DistinctBy, keep, unsnoc, written}
use Rattle.lists.proofs.Lists.{All-head, All-left, All-right, All-mid, All-map, All-both, All-take, All-keep, All-image, All-source, Unsnoc, unsnoc-is, map-append, map-take, map_same, keep-map, keep_all, keep-yes, keep-no}
use Rattle.lists.proofs.Moved.{moved_front, moved-last, moved-drop}
use Rattle.lists.proofs.Written.{slot_same, slot-written, slot-other}
use Rattle.trace.specs.History.{Event, answer_of, drop_of, fits_slot}
use Rattle.trace.proofs.Recent.{Entry, spared, other, front, recent}
use Rattle.trace.specs.Private.Slots.{Names, Held, Cache, slots_of, slot_bytes, found, find, last_held, last_free, take_last, put_in, put, drop_by}
use Rattle.trace.proofs.Past.{other-yes, other-no, apart}
use Rattle.trace.proofs.Order.{names-moved}

module _ {K : Type 0} where
  -- the key and the record of a slot
  abbrev pub entry : ℕ → List ℕ → Held K → Entry K
  entry size memory e = (e.key, slot_bytes size memory e)

  -- ---- what `find` and `take_last` give

  abbrev pub Found : K → List (Held K) → Option (Held K × List (Held K)) → Type 0
  Found k l none = All (λ e. e.key ≢ k) l
  Found k l (some c) = (a b : List (Held K)) × (l ≡ a ++ c.0 ∷ b) × (c.1 ≡ a ++ b) × (c.0.key ≡ k)

  pub find-is : (same : Discrete K) (k : K) (l : List (Held K)) → Found k l (find same k l)
  find-is same k [] = nil
  find-is same k (e ∷ l) = go (same e.key k) (find same k l) (find-is same k l)
    where
      go : (q : Dec (e.key ≡ k)) (o : Option (Held K × List (Held K))) → Found k l o → Found k (e ∷ l) (found q e l o)
      go (yes p) o h = ([], l, refl, refl, p)
      go (no p) none h = cons p h
      go (no p) (some c) h = (e ∷ h.0, h.1, ap (λ r. e ∷ r) h.2, ap (λ r. e ∷ r) h.3, h.4)

  -- the last slot of the order, and the held and the free ones before it
  abbrev Last : List (Held K) → List ℕ → Option (ℕ × List (Held K) × List ℕ) → Type 0
  Last l fs none = (l ≡ []) × (fs ≡ [])
  Last l fs (some c) = (slots_of l ++ fs ≡ (slots_of c.1 ++ c.2) ++ c.0 ∷ []) × (take (length (slots_of c.1 ++ c.2)) l ≡ c.1)

  last-is : (l : List (Held K)) (fs : List ℕ) → Last l fs (last_free l (unsnoc fs))
  last-is l fs = go_f (unsnoc fs) (unsnoc-is fs)
    where
      go_h : fs ≡ [] → (o : Option (List (Held K) × Held K)) → Unsnoc l o → Last l fs (last_held o)
      go_h e none i = (i, e)
      go_h e (some c) i = (
        rw (e, i) (simp (append-nil, map-append)),
        ap (λ x. take (length (slots_of c.0 ++ [])) x) i
            ∙ take_at c.0 (c.1 ∷ []) (length (slots_of c.0 ++ [])) (simp (append-nil, length-map)),
      )

      go_f : (o : Option (List ℕ × ℕ)) → Unsnoc fs o → Last l fs (last_free l o)
      go_f none e = go_h e (unsnoc l) (unsnoc-is l)
      go_f (some c) e = (
        ap (λ x. slots_of l ++ x) e ∙ sym (append_assoc (slots_of l) c.0 (c.1 ∷ [])),
        take_all (length (slots_of l ++ c.0)) l (simp (length-append, length-map) (omega arith)),
      )

module _ {K : Type 0} (same : Discrete K) (n size : ℕ) where
  -- what holds between the calls: the order names each slot once, each length fits, the memory has room, and the keys and records held are those of `recent`
  pub record Sound (c : Cache K) (h : List (Event K)) : Type 0 where
    pub names : Names n (slots_of c.held ++ c.free)
    pub lens : All (λ e. e.len ≤ size) c.held
    pub room : n * size ≤ length c.memory
    pub view : map (entry size c.memory) c.held ≡ recent same n size h

  module _ (memory free : List ℕ) (h : List (Event K)) where
    abbrev cache : List (Held K) → Cache K
    cache held = record { held = held; free = free; memory = memory }

    -- ---- a kept answer found

    others_stay : (k : K) (a : List (Held K)) (e : Held K) (b : List (Held K)) → e.key ≡ k
        → DistinctBy (λ (x : Entry K). x.0) (map (entry size memory) (a ++ e ∷ b))
        → keep (other same k) (map (entry size memory) (a ++ e ∷ b)) ≡ map (entry size memory) (a ++ b)
    others_stay k [] e b i d =
        keep-no (other same k) (entry size memory e) (map (entry size memory) b) (other-no same k (entry size memory e) i)
        ∙ keep_all (other same k) (All-map (λ x ne. other-yes same k x (λ q. ne (q ∙ sym i))) d.0)
    others_stay k (y ∷ a) e b i d =
        keep-yes (other same k) (entry size memory y) (map (entry size memory) (a ++ e ∷ b))
        (other-yes same k (entry size memory y) (λ q. All-head (All-right a (All-source (entry size memory) (a ++ e ∷ b) d.0)) (i ∙ sym q)))
        ∙ ap (λ r. entry size memory y ∷ r) (others_stay k a e b i d.1)

    fewer : (i : ℕ) (l : List (Held K)) → Names n (i ∷ (slots_of l ++ free)) → suc (length (map (entry size memory) l)) ≤ n
    fewer i l s = simp length-map (omega (arith, simp (length-append, length-map) at s.count))

    pub hit : (k : K) (r : List ℕ) (a : List (Held K)) (e : Held K) (b : List (Held K)) → e.key ≡ k
        → slot_bytes size memory e ≡ r → fits_slot size r ≡ true → Sound (cache (a ++ e ∷ b)) h → Sound (cache (e ∷ a ++ b)) (answer_of k r ∷ h)
    hit k r a e b i j f s =
        let names' : Names n (slots_of (e ∷ a ++ b) ++ free) = names-moved (moved_front (λ (x : Held K). x.slot) free a e b) s.names in
        record {
          names = names';
          lens = All-mid a e b s.lens;
          room = s.room;
          view =
              sym
              (ap (λ x. front same x n k r (recent same n size h)) f
              ∙ ap (λ x. take n ((k, r) ∷ keep (other same k) x)) (sym s.view)
              ∙ ap (λ x. take n ((k, r) ∷ x)) (others_stay k a e b i (rw s.view (apart same n size h)))
              ∙ take_all n ((k, r) ∷ map (entry size memory) (a ++ b)) (fewer e.slot (a ++ b) names')
              ∙ ap₂ (λ x y. (x, y) ∷ map (entry size memory) (a ++ b)) (sym i) (sym j));
        }

    -- ---- a new record put into the last slot

    put-none : (k : K) (r : List ℕ) (held : List (Held K)) → Last held free none → fits_slot size r ≡ true
        → Sound (cache held) h → Sound (cache held) (answer_of k r ∷ h)
    put-none k r held l f s =
        let z : 0 ≡ n = rw (l.0, l.1) at s.names.count in
        record {
          names = s.names;
          lens = s.lens;
          room = s.room;
          view =
              ap (map (entry size memory)) l.0
              ∙ ap (λ x. take x ((k, r) ∷ keep (other same k) (recent same n size h))) z
              ∙ ap (λ x. front same x n k r (recent same n size h)) (sym f);
        }

    module _ (k : K) (r : List ℕ) (held : List (Held K)) (i : ℕ) (hs : List (Held K)) (fs : List ℕ) (l : Last held free (some (i, hs, fs)))
        (f : fits_slot size r ≡ true) (s : Sound (cache held) h) where
      put-names : Names n (i ∷ (slots_of hs ++ fs))
      put-names = names-moved (moved-last (slots_of hs ++ fs) i) (rw l.0 at s.names)

      put-lens : All (λ e. e.len ≤ size) hs
      put-lens = rw l.1 at (All-take (length (slots_of hs ++ fs)) s.lens)

      put_small : length r ≤ size
      put_small = leb-true (length r) size f

      -- the bytes that are written, and those of the other slots
      put-bytes : map (entry size (written memory (i * size) r)) (record { slot = i; key = k; len = length r } ∷ hs) ≡ (k, r) ∷ map (entry size memory) hs
      put-bytes =
          ap₂ (λ x y. (k, x) ∷ y)
          (slot_same n size i r memory (All-head put-names.below) s.room put_small)
          (map_same (entry size memory)
          (All-map (λ e q.
          ap (λ x. (e.key, x)) (slot-other n size i r memory (All-head put-names.below) s.room put_small e.slot e.len q.0 q.1))
          (All-both (All-source (λ (x : Held K). x.slot) hs (All-left (slots_of hs) fs put-names.once.0)) put-lens)))

      -- what `recent` has: all but the last of the order
      put-recent : All (λ e. e.key ≢ k) held → recent same n size (answer_of k r ∷ h) ≡ (k, r) ∷ map (entry size memory) hs
      put-recent miss =
          ap (λ x. front same x n k r (recent same n size h)) f
          ∙ ap (λ x. take n ((k, r) ∷ keep (other same k) x)) (sym s.view)
          ∙ ap (λ x. take n ((k, r) ∷ x)) (keep_all (other same k) (All-image (entry size memory) (All-map (λ e ne. other-yes same k (entry size memory e) ne) miss)))
          ∙ ap (λ x. take x ((k, r) ∷ map (entry size memory) held)) (sym put-names.count)
          ∙ ap (λ x. (k, r) ∷ x) (sym (map-take (entry size memory) (length (slots_of hs ++ fs)) held) ∙ ap (map (entry size memory)) l.1)

      put_some : All (λ e. e.key ≢ k) held
          → Sound (record { held = record { slot = i; key = k; len = length r } ∷ hs; free = fs; memory = written memory (i * size) r }) (answer_of k r ∷ h)
      put_some miss = record {
        names = put-names;
        lens = cons put_small put-lens;
        room = rw (slot-written n size i r memory (All-head put-names.below) s.room put_small) s.room;
        view = put-bytes ∙ sym (put-recent miss);
      }

  pub put-sound : (c : Cache K) (h : List (Event K)) (k : K) (r : List ℕ) → All (λ e. e.key ≢ k) c.held → Sound c h
      → (b : Bool) → fits_slot size r ≡ b → Sound (put size b c k r) (answer_of k r ∷ h)
  put-sound c h k r miss ok false f = record {
    names = ok.names;
    lens = ok.lens;
    room = ok.room;
    view = ok.view ∙ ap (λ x. front same x n k r (recent same n size h)) (sym f);
  }
  put-sound c h k r miss ok true f = go (take_last c) (last-is c.held c.free)
    where
      go : (o : Option (ℕ × List (Held K) × List ℕ)) → Last c.held c.free o → Sound (put_in size c k r o) (answer_of k r ∷ h)
      go none l = put-none c.memory c.free h k r c.held l f ok
      go (some w) l = put_some c.memory c.free h k r c.held w.0 w.1 w.2 l f ok miss

  -- ---- answers dropped

  pub drop-sound : (c : Cache K) (h : List (Event K)) (d : K → Bool) → Sound c h → Sound (drop_by d c) (drop_of d ∷ h)
  drop-sound c h d s = record {
    names = names-moved (moved-drop (λ (x : Held K). x.slot) c.free (λ e. d e.key) c.held) s.names;
    lens = All-keep (λ e. not (d e.key)) (λ x q _. q) s.lens;
    room = s.room;
    view = keep-map (entry size c.memory) (spared d) c.held ∙ ap (keep (spared d)) s.view;
  }
