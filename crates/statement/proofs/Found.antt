-- Names looked up: where a name stands, whether it stands there, whether one stands twice; and the areas of tables. Assumes nothing.
use mathlib.Core.Path.{◌≡◌, refl, sym, ap, ap₂, ◌∙◌}
use mathlib.Core.Bool.{Bool, true, false, ◌&&◌, ◌||◌, cond}
use mathlib.Core.List.{List, [], ◌∷◌, map}
use Prim.Native.Nat.{ℕ, suc, ◌+◌, ◌≤◌, ◌<◌}
use native.Mathlib.Omega.{arith}
use borrow.Author.Tests.{lt-ltb, le-ltb, ltb-false}
use lib.Dec.{ltb, leb-suc-suc, leb-suc-zero}
use lib.ListN.{length, take, length-map}
use Rattle.lists.specs.Lists.{repeats}
use Rattle.lists.proofs.Bools.{clash}
use Rattle.lists.proofs.Chains as C
use Rattle.lists.proofs.Chains.{any-turned, repeats-map}
use Rattle.meaning.specs.Grammar.{Dotted}
use Rattle.meaning.specs.Names.{same_name, has, position, table_names, is_of, pair_place}
use Rattle.statement.specs.Same.{same-sym}
use Rattle.statement.specs.declared.Name.{Name}
use Rattle.statement.specs.declared.Table.{Table}
use Rattle.statement.specs.Catalog.{name_of_struct, schema_of}
use Rattle.statement.specs.Private.Built.{place_of, table_number, Finds}
use Rattle.statement.specs.declared.names.Found.{Found}
use Rattle.statement.proofs.Chains.{number-is}
use Rattle.std.proofs.Common.{Option as Maybe, Some, None}
use Rattle.std.specs.List.{position_or_len, list_any, enumerate_from}
use Rattle.std.specs.Option.{is_some}
use Rattle.statement.proofs.ByKind.{position-most}

-- ---- a name that is there has a place inside the list

pub has-ltb : (ns : List (List ℕ)) (n : List ℕ) → ltb (position ns n) (length ns) ≡ has ns n
has-ltb [] n = leb-suc-zero 0
has-ltb (m ∷ ns) n = go (same_name n m) (has-ltb ns n)
  where
    go : (b : Bool) → ltb (position ns n) (length ns) ≡ has ns n → ltb (cond b 0 (suc (position ns n))) (suc (length ns)) ≡ (b || has ns n)
    go true e = lt-ltb 0 (suc (length ns)) (omega arith)
    go false e = leb-suc-suc (suc (position ns n)) (length ns) ∙ e

-- ---- a dotted column: looked for in the first table, and then in the second

module _ (t : List ℕ) (cs : List (List ℕ)) (c : Dotted) where
  of-place : ltb (place_of t cs c) (length cs) ≡ is_of t cs c
  of-place = go (same_name c.0 t)
    where
      go : (b : Bool) → ltb (cond b (position cs c.1) (length cs)) (length cs) ≡ (b && has cs c.1)
      go true = has-ltb cs c.1
      go false = le-ltb (length cs) (length cs) (omega arith)

  place-there : is_of t cs c ≡ true → place_of t cs c ≡ position cs c.1
  place-there h = go (same_name c.0 t) h
    where
      go : (b : Bool) → (b && has cs c.1) ≡ true → cond b (position cs c.1) (length cs) ≡ position cs c.1
      go true e = refl
      go false e = clash e refl

  place-past : is_of t cs c ≡ false → place_of t cs c ≡ length cs
  place-past h = go (same_name c.0 t) h
    where
      go : (b : Bool) → (b && has cs c.1) ≡ false → cond b (position cs c.1) (length cs) ≡ length cs
      go true e = let k : length cs ≤ position cs c.1 = ltb-false (position cs c.1) (length cs) (has-ltb cs c.1 ∙ e) in omega (arith, position-most cs c.1)
      go false e = refl

module _ (t : List ℕ) (cs : List (List ℕ)) (u : List ℕ) (ds : List (List ℕ)) (c : Dotted) where
  pub pair-first : place_of t cs c < length cs → place_of t cs c ≡ pair_place t cs u ds c
  pair-first h =
      let e : is_of t cs c ≡ true = sym (of-place t cs c) ∙ lt-ltb (place_of t cs c) (length cs) h in
      place-there t cs c e ∙ ap (λ (b : Bool). cond b (position cs c.1) (cond (is_of u ds c) (length cs + position ds c.1) (length cs + length ds))) (sym e)

  pub pair-second : length cs ≤ place_of t cs c → length cs + place_of u ds c ≡ pair_place t cs u ds c
  pair-second h =
      let e : is_of t cs c ≡ false = sym (of-place t cs c) ∙ le-ltb (place_of t cs c) (length cs) h in
      go (is_of u ds c) refl ∙ ap (λ (b : Bool). cond b (position cs c.1) (cond (is_of u ds c) (length cs + position ds c.1) (length cs + length ds))) (sym e)
    where
      go : (b : Bool) → is_of u ds c ≡ b → length cs + place_of u ds c ≡ cond b (length cs + position ds c.1) (length cs + length ds)
      go true f = ap (λ (k : ℕ). length cs + k) (place-there u ds c f)
      go false f = ap (λ (k : ℕ). length cs + k) (place-past u ds c f)

-- ---- a name that stands twice

-- as the list is gone through: each name is looked for among those before it
module _ (all : List Name) where
  abbrev same : Name → Name → Bool
  same m n = same_name (name_of_struct m) (name_of_struct n)

  same-turned : (m n : Name) → same m n ≡ same n m
  same-turned m n = same-sym (name_of_struct m) (name_of_struct n)

  abbrev pub before : ℕ × Name → Bool
  before e = list_any (λ (y : Name). same_name (name_of_struct y) (name_of_struct e.1)) (take e.0 all)

  pub repeats-is : list_any before (enumerate_from 0 all) ≡ repeats same_name (map name_of_struct all)
  repeats-is = C.repeats-is same same-turned before all (λ i x. any-turned same same-turned x (take i all)) ∙ sym (repeats-map same_name name_of_struct all)

-- ---- tables

pub table-names : (ts : List Table) → table_names (map schema_of ts) ≡ map (λ (t : Table). name_of_struct t.name) ts
table-names [] = refl
table-names (t ∷ ts) = ap (λ (ns : List (List ℕ)). name_of_struct t.name ∷ ns) (table-names ts)

-- the number of a table by its name
pub number-of : (n : List ℕ) (ts : List Table) (r : Maybe ℕ)
    → r ≡ cond (ltb (position_or_len (λ (t : Table). same_name n (name_of_struct t.name)) ts) (length ts)) (Some (position_or_len (λ (t : Table). same_name n (name_of_struct t.name)) ts)) None
    → r ≡ table_number (map schema_of ts) n
number-of n ts r e =
    number-is (λ (t : Table). name_of_struct t.name) n ts r e
    ∙ ap₂ (λ (ns : List (List ℕ)) (l : ℕ). cond (ltb (position ns n) l) (Some (position ns n)) None) (sym (table-names ts)) (sym (length-map ts schema_of))

-- what is returned where there is none
pub none-found : (n : List ℕ) (ts : List Table) (o : Maybe Found) → o ≡ None → table_number (map schema_of ts) n ≡ None → Finds ts n o
none-found n ts None e h = h
none-found n ts (Some f) e h = absurd (cc)

pub has-number : (ts : List Table) (n : List ℕ) (o : Maybe Found) → Finds ts n o → is_some o ≡ has (table_names (map schema_of ts)) n
has-number ts n o h =
    let e : length (table_names (map schema_of ts)) ≡ length (map schema_of ts) = length-map (map schema_of ts) _ in
    some o h
    ∙ go (ltb (position (table_names (map schema_of ts)) n) (length (map schema_of ts)))
    ∙ ap (ltb (position (table_names (map schema_of ts)) n)) (sym e)
    ∙ has-ltb (table_names (map schema_of ts)) n
  where
    some : (o : Maybe Found) → Finds ts n o → is_some o ≡ is_some (table_number (map schema_of ts) n)
    some None h = ap is_some (sym h)
    some (Some f) h = ap is_some (sym h.0)

    go : (b : Bool) → is_some (cond b (Some (position (table_names (map schema_of ts)) n)) None) ≡ b
    go true = refl
    go false = refl
