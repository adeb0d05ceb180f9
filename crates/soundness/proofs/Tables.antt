-- Tables: what the tests of single tables and of the numbers of their names say together. Assumes nothing.
use mathlib.Core.Path.{◌≡◌, refl, sym, ap, ap₂, ◌∙◌}
use mathlib.Core.Bool.{Bool, true, false, not, ◌&&◌, ◌||◌, and-true, and_comm}
use mathlib.Core.List.{List, [], ◌∷◌, ◌++◌, map}
use Prim.Native.Nat.{ℕ}
use lib.Dec.{eqb, leb}
use Rattle.lists.specs.Lists.{All, nil, cons, any, all, repeats}
use Rattle.lists.proofs.Bools.{and_left, not-or}
use Rattle.lists.proofs.Lists.{all_true, any_append, map-append}
use Rattle.meaning.specs.Limits.{most_items, most_rows}
use Rattle.meaning.specs.Names.{Schema, same_name, has, table_names}
use Rattle.statement.specs.Catalog.{name_of_struct, schema_of}
use Rattle.statement.specs.Sound.{used_columns}
use Rattle.statement.specs.SoundTest.{sound_name, sound_table, sound_schemas}
use Rattle.statement.specs.declared.Name.{Name}
use Rattle.statement.specs.declared.Table.{Table}
use Rattle.lists.proofs.Chains.{shuffled}
use Rattle.statement.specs.Same.{same-sym}
use Rattle.soundness.specs.Private.Parts.{name_number, columns_on, table_on, single}
use Rattle.soundness.proofs.Packed.{number_same}

-- ---- names by their numbers

repeats-same : {A B C : Type 0} {P : A → Type 0} (f : A → B) (g : A → C) (same : B → B → Bool) (same' : C → C → Bool)
    → ((x y : A) → P x → P y → same (f x) (f y) ≡ same' (g x) (g y))
    → {l : List A} → All P l → repeats same (map f l) ≡ repeats same' (map g l)
repeats-same f g same same' k nil = refl
repeats-same {P} f g same same' k (cons {x = x} {xs = l} p a) = ap₂ ◌||◌ (later a) (repeats-same f g same same' k a)
  where
    later : {r : List _} → All P r → any (same (f x)) (map f r) ≡ any (same' (g x)) (map g r)
    later nil = refl
    later (cons {x = y} {xs = r} q b) = ap₂ ◌||◌ (k x y p q) (later b)

-- members told apart by their numbers
apart : {A : Type 0} (p : A → Bool) (f : A → ℕ) (g : A → List ℕ) → ((x y : A) → p x ≡ true → p y ≡ true → eqb (f x) (f y) ≡ same_name (g x) (g y))
    → (xs : List A) → (all p xs && not (repeats eqb (map f xs))) ≡ (all p xs && not (repeats same_name (map g xs)))
apart p f g k xs = go (all p xs) refl
  where
    go : (b : Bool) → all p xs ≡ b → (b && not (repeats eqb (map f xs))) ≡ (b && not (repeats same_name (map g xs)))
    go true h = ap not (repeats-same f g eqb same_name k (all_true p xs h))
    go false h = refl

pub columns-told : (ns : List Name) → (all sound_name ns && not (repeats eqb (map name_number ns))) ≡ columns_on ns
unfolding columns_on
columns-told ns = apart sound_name name_number name_of_struct (λ m n p q. number_same m n p q) ns

-- ---- tables

abbrev pub table_name : Table → List ℕ
table_name t = name_of_struct t.name

abbrev pub table_number : Table → ℕ
table_number t = name_number t.name

module _ (before : List Schema) where
  parted : (a b s l r h c : Bool) → (a && (b && (s && (l && (r && (h && c)))))) ≡ ((s && (a && (b && ((l && r) && c)))) && h)
  parted false b true l r h c = refl
  parted false b false l r h c = refl
  parted true false true l r h c = refl
  parted true false false l r h c = refl
  parted true true false l r h c = refl
  parted true true true false r h c = refl
  parted true true true true false h c = refl
  parted true true true true true h c = and_comm h c

  table-apart : (t : Table) → sound_table before t ≡ (single t && not (has (table_names before) (table_name t)))
  unfolding sound_table table_on columns_on
  table-apart t =
      parted (leb 1 t.count) (leb t.count most_items) (sound_name t.name) (all sound_name (used_columns t))
      (not (repeats same_name (map name_of_struct (used_columns t)))) (not (has (table_names before) (table_name t)))
      (leb 1 t.capacity && leb t.capacity most_rows)

-- one of the tables has a name that stands before
abbrev met : List Schema → List Table → Bool
met before ts = any (λ (t : Table). has (table_names before) (table_name t)) ts

-- a name more before
met-more : (before : List Schema) (t : Table) (ts : List Table) → met (before ++ (schema_of t ∷ [])) ts ≡ (met before ts || any (same_name (table_name t)) (map table_name ts))
met-more before t [] = refl
met-more before t (u ∷ ts) =
    ap₂ ◌||◌
    (ap (any (same_name (table_name u))) (map-append (λ (s : Schema). s.name) before (schema_of t ∷ []))
    ∙ any_append (same_name (table_name u)) (table_names before) (table_name t ∷ [])
    ∙ ap (λ (b : Bool). has (table_names before) (table_name u) || (b || false)) (same-sym (table_name u) (table_name t)))
    (met-more before t ts)
    ∙ shuffled (has (table_names before) (table_name u)) (same_name (table_name t) (table_name u)) (met before ts) (any (same_name (table_name t)) (map table_name ts))

tables-apart : (before : List Schema) (ts : List Table)
    → sound_schemas before ts ≡ ((all single ts && not (met before ts)) && not (repeats same_name (map table_name ts)))
tables-apart before [] = refl
tables-apart before (t ∷ ts) =
    ap₂ ◌&&◌ (table-apart before t)
    (tables-apart (before ++ (schema_of t ∷ [])) ts
    ∙ ap (λ (b : Bool). (all single ts && not b) && not (repeats same_name (map table_name ts))) (met-more before t ts))
    ∙ regroup (single t) (has (table_names before) (table_name t)) (all single ts) (met before ts) (any (same_name (table_name t)) (map table_name ts)) (repeats same_name (map table_name ts))
  where
    regroup : (s h a x y r : Bool) → ((s && not h) && ((a && not (x || y)) && not r)) ≡ (((s && a) && not (h || x)) && not (y || r))
    regroup false h a x y r = refl
    regroup true true true x y r = refl
    regroup true true false x y r = refl
    regroup true false false x y r = refl
    regroup true false true true y r = refl
    regroup true false true false y r = not-or y r

none-met : (ts : List Table) → met [] ts ≡ false
none-met [] = refl
none-met (t ∷ ts) = none-met ts

sound-tables : (ts : List Table) → sound_schemas [] ts ≡ (all single ts && not (repeats same_name (map table_name ts)))
sound-tables ts =
    tables-apart [] ts
    ∙ ap (λ (b : Bool). (all single ts && not b) && not (repeats same_name (map table_name ts))) (none-met ts)
    ∙ ap (λ (b : Bool). b && not (repeats same_name (map table_name ts))) (and-true (all single ts))

pub tables-told : (ts : List Table) → (all single ts && not (repeats eqb (map table_number ts))) ≡ sound_schemas [] ts
tables-told ts =
    apart single table_number table_name (λ t u p q. number_same t.name u.name (and_left (sound_name t.name) _ p) (and_left (sound_name u.name) _ q)) ts ∙ sym (sound-tables ts)
