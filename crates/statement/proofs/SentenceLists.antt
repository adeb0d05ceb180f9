-- Items and lists: what is left where an item is put, and the steps of the readers. Assumes nothing.
use mathlib.Core.Path.{◌≡◌, refl, sym, ap, subst, ◌∙◌}
use mathlib.Core.Bool.{Bool, true, false, ◌||◌, or-false}
use Rattle.std.specs.Prelude.{Option as Maybe, Some, None}
use mathlib.Core.List.{List, [], ◌∷◌, ◌++◌, map, map-append, append_assoc}
use Prim.Native.Nat.{ℕ, zero, suc, ◌+◌, ◌-◌, ◌≤◌, ◌<◌}
use native.Mathlib.Omega.{arith}
use lib.ListN.{length, take, drop}
use Rattle.lists.specs.Lists.{any}
use Rattle.meaning.specs.Tokens.{Name, comma, tokens}
use Rattle.meaning.specs.Grammar.{Given, Dotted, Listed, last, next, items}
use Rattle.meaning.specs.Reader.{Reader, ◌>>=◌, done, passing, a_list}
use Rattle.meaning.specs.Limits.{outside32, mark_count}
use Rattle.meaning.proofs.Readers.{begins, passing-stops, passing-yes}
use Rattle.token.specs.declared.Kind.TheVariants.{Eq}
use Rattle.statement.specs.declared.conditions.Cursor.{Cursor}
use Rattle.statement.specs.declared.sentences.Item.{Item}
use Rattle.statement.specs.declared.sentences.Contents.{Contents}
use Rattle.statement.specs.declared.sentences.Contents.TheVariants.{Names as names, Values as values, Settings as settings, Columns as columns}
use Rattle.statement.specs.Private.Reading.{Stands, moved_to}
use Rattle.statement.specs.Private.Sentences.{Takes, Counts, Expects, is_long_name, Names, Columns, Gives, Content, item_reader, item_on, parts_of, columns_in, values_in, list_past, PutsItem, CountsItems, Holds, ReadsItem, ReadsList}
use Rattle.statement.proofs.Steps.{Goes, stands-past}
use Rattle.statement.proofs.SentenceLimits.{sorted}
use Rattle.statement.proofs.SentenceReaders.{finds, found, stands, found-more, reads_as, stops, goes_on, recount, counts-moved, counts-then}

-- ---- an item

abbrev pub item : ℕ → ℕ → Item
item name value = record { name = name; value = value }

module _ (s : List ℕ) (c d : Cursor) (p : ℕ) where
  pub name-item : Names s c (Some (d, p)) → ReadsItem names s c (Some (d, item p 0))
  name-item = found-more refl (λ x q. (recount c d _ _ 0 0 (sym (or-false _ ∙ or-false _)) refl q.0, q.1))

  two-names : (x : Dotted) → (is_long_name x.0 || is_long_name x.1) ≡ list_past (parts_of (x ∷ [])) []
  two-names x = go (is_long_name x.0) (is_long_name x.1)
    where
      go : (a b : Bool) → (a || b) ≡ ((a || (b || false)) || false)
      go true b = refl
      go false b = sym (or-false (b || false) ∙ or-false b)

  pub column-item : Columns s c (Some (d, p)) → ReadsItem columns s c (Some (d, item p 0))
  column-item = found-more refl (λ x q. (recount c d _ _ 0 0 (two-names x) refl q.0, q.1))

  pub value-item : Gives s c (Some (d, p)) → ReadsItem values s c (Some (d, item 0 p))
  value-item = found-more refl (λ x q. (recount c d _ _ _ _ (sym (or-false _)) refl q.0, q.1))

pub setting-item : (s : List ℕ) (c m n d : Cursor) (p v : ℕ) → Names s c (Some (m, p)) → Expects s Eq m (Some n) → Gives s n (Some (d, v))
    → ReadsItem settings s c (Some (d, item p v))
setting-item s c m n d p v h i j =
    goes_on _ h (λ x bx qx. goes_on _ i (λ u bu qu. goes_on _ j (λ y by qy. finds (x, y) _ refl by (both x y qx.0 qu qy.0, λ i. (qx.1 i, qy.1 i)))))
  where
    both : (x : Name) (y : Given) → Counts c m (is_long_name x) 0 → Counts m n false 0 → Counts n d (outside32 y) (mark_count (y ∷ []))
        → CountsItems settings c d ((x, y) ∷ [])
    both x y a b g =
        recount c d _ _ _ _ (sym (ap (λ z. (is_long_name x || false) || z) (or-false (outside32 y)))) (omega arith)
        (counts-then (counts-then a b) g)

-- an item of one kind is one of the kind that is the same
pub of-kind : (k j : Contents) (s : List ℕ) (c : Cursor) (r : Maybe (Cursor × Item)) → j ≡ k → ReadsItem k s c r → ReadsItem j s c r
of-kind k j s c r e h = subst (λ i. ReadsItem i s c r) (sym e) h

-- ---- a list

regroup : (a b p q : Bool) → (((a || false) || (b || false)) || (p || q)) ≡ ((a || p) || (b || q))
regroup a b p q = simp sorted

regroup-two : (a b p : Bool) → (((a || (b || false)) || false) || (p || false)) ≡ ((a || (b || p)) || false)
regroup-two true b p = refl
regroup-two false true p = refl
regroup-two false false p = refl

-- one item, and those behind it
past_more : (k : Contents) (x : Content k) (us : List (Content k))
    → (list_past (columns_in k (x ∷ [])) (values_in k (x ∷ [])) || list_past (columns_in k us) (values_in k us)) ≡ list_past (columns_in k (x ∷ us)) (values_in k (x ∷ us))
past_more names x us = regroup (is_long_name x) false (any is_long_name us) false
past_more values x us = regroup false (outside32 x) false (any outside32 us)
past_more settings x us = regroup (is_long_name x.0) (outside32 x.1) (any is_long_name (columns_in settings us)) (any outside32 (values_in settings us))
past_more columns x us = regroup-two (is_long_name x.0) (is_long_name x.1) (any is_long_name (parts_of us))

marks-more : (k : Contents) (x : Content k) (us : List (Content k)) → mark_count (values_in k (x ∷ [])) + mark_count (values_in k us) ≡ mark_count (values_in k (x ∷ us))
marks-more names x us = refl
marks-more values x us = omega arith
marks-more settings x us = omega arith
marks-more columns x us = refl

-- the item i was read up to d and put behind l others
module _ (k : Contents) (s : List ℕ) (xs : List Item) (c : Cursor) (l : ℕ) (ys : List Item) (d : Cursor) (i : Item) (m : ℕ) (e : m ≡ l + 1) (p : PutsItem xs l i ys) where
  holds-one : (x : Content k) → CountsItems k c d (x ∷ []) × (item_on k s i ≡ x) → Holds k s xs c l ys d m (x ∷ [])
  holds-one x q =
      record {
        counts = q.0;
        listed_are = e;
        noted = λ h.
            ap (λ n. map (item_on k s) (take n ys)) e
            ∙ ap (map (item_on k s)) (p (omega arith))
            ∙ map-append (item_on k s) (take l xs) (i ∷ [])
            ∙ ap (λ z. map (item_on k s) (take l xs) ++ (z ∷ [])) q.1;
      }

  -- a comma, and the items behind it
  holds_more : (at : ℕ) (zs : List Item) (r : Cursor) (n : ℕ) → d.at < at → (x : Content k) (us : List (Content k)) → Holds k s xs c l ys d m (x ∷ [])
      → Holds k s ys (moved_to at d) m zs r n us → Holds k s xs c l zs r n (x ∷ us)
  holds_more at zs r n h x us v q =
      let f = q.listed_are in
      record {
        counts =
            recount c r _ _ _ _ (ap (λ b. b || list_past (columns_in k us) (values_in k us)) (or-false (list_past (columns_in k (x ∷ [])) (values_in k (x ∷ [])))) ∙ past_more k x us) (omega (arith, marks-more k x us))
            (counts-then (counts-then v.counts (counts-moved d at h)) q.counts);
        listed_are = omega arith;
        noted = λ h. q.noted h ∙ ap (λ ns. ns ++ us) (v.noted (omega arith)) ∙ append_assoc (map (item_on k s) (take l xs)) (x ∷ []) us;
      }

  module _ (g : ReadsItem k s c (Some (d, i))) where
    pub list-ends : begins comma (tokens (drop d.at s)) ≡ false → ReadsList k s xs c l ys (Some (d, m))
    list-ends h zero o = absurd (omega arith)
    list-ends h (suc n) o =
        goes_on _ g (λ x b q.
        reads_as (passing-stops comma (a_list (item_reader k) n >>= λ ws. done (next x ws)) (done (last x)) (tokens (drop d.at s)) h)
        (finds (last x) _ refl b (holds-one x q)))

    pub list-goes : (at : ℕ) (zs : List Item) (r : Maybe (Cursor × ℕ)) → Goes s d.at at comma → ReadsList k s ys (moved_to at d) m zs r → ReadsList k s xs c l zs r
    list-goes at zs r v w zero o = absurd (omega arith)
    list-goes at zs r v w (suc n) o =
        goes_on _ g (λ x b q.
        reads_as (ap (passing comma (on x) (done (last x))) v.after ∙ passing-yes comma (on x) (done (last x)) (tokens (drop at s)))
        (behind x q r (w n (left q.0.moved))))
      where
        on : Content k → Reader (Listed (Content k))
        on x = a_list (item_reader k) n >>= λ us. done (next x us)

        here : Cursor
        here = d

        left : c.at < d.at → length s - at < n
        left h = omega (arith, v.on, v.within)

        behind : (x : Content k) → CountsItems k c d (x ∷ []) × (item_on k s i ≡ x) → (r : Maybe (Cursor × ℕ))
            → Takes s (λ (d : Cursor × ℕ). d.0) (λ (d : Cursor × ℕ) us. Holds k s ys (moved_to at here) m zs d.0 d.1 (items us)) r (a_list (item_reader k) n (tokens (drop at s)))
            → Takes s (λ (d : Cursor × ℕ). d.0) (λ (d : Cursor × ℕ) us. Holds k s xs c l zs d.0 d.1 (items us)) r (on x (tokens (drop at s)))
        behind x q None t = stops _ t refl
        behind x q (Some r) t = goes_on _ t (λ us b w. finds (next x us) _ refl b (holds_more at zs r.0 r.1 v.on x (items us) (holds-one x q) w))

    -- behind an item and a comma the list is read on, and less of the text is left
    pub list-asks : (at : ℕ) → l ≤ c.at → Goes s d.at at comma → (length s - at < length s - c.at) × (Stands s (moved_to at d)) × (m ≤ at)
    list-asks at h v =
        let f = found g in
        let st = f.3.stands in
        let q = f.4.0.moved in
        let on = v.on in
        let within = v.within in
        (omega arith, stands-past d st v, omega arith)

-- where there is no item there is no list
pub no_list : (k : Contents) (s : List ℕ) (xs : List Item) (c : Cursor) (l : ℕ) (ys : List Item) (r : Maybe (Cursor × ℕ)) → ReadsItem k s c None → r ≡ None → ReadsList k s xs c l ys r
no_list k s xs c l ys r g e zero o = absurd (omega arith)
no_list k s xs c l ys r g e (suc n) o = stops _ g e

-- the next one may be called behind a list
pub stands_behind : {k : Contents} {s : List ℕ} {xs ys : List Item} {c : Cursor} {l : ℕ} {r : Cursor × ℕ} → ReadsList k s xs c l ys (Some r) → Stands s r.0
stands_behind {s = s} h = stands (h (suc (length s)) (omega arith))
