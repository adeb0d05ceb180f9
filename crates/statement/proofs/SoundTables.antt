-- Stored tables, each sound beside those before it: then each is sound beside all others, and together they are tables as statements are compiled beside.
-- Assumes nothing.
use mathlib.Core.Path.{◌≡◌, refl, sym, ap, ◌∙◌, subst}
use mathlib.Core.Logic.{◌↔◌}
use mathlib.Core.Bool.{true, false, ◌||◌, or-true}
use mathlib.Core.List.{List, [], ◌∷◌, ◌++◌, map, append_assoc, append-nil}
use Rattle.lists.specs.Lists.{All, nil, cons, any, repeats}
use Rattle.lists.proofs.Bools.{and_left, and_right, and_both, or_left, or_right, contra}
use Rattle.lists.proofs.Lists.{All-head, All-tail, All-append, any_append, map-append}
use Rattle.meaning.specs.Tokens as T
use Rattle.meaning.specs.Names.{Schema, same_name, has, table_names}
use Rattle.meaning.proofs.Names.{same-is}
use Rattle.meaning.proofs.Resolve.{same-name, same-swap}
use Rattle.statement.specs.Catalog.{name_of_struct, schema_of}
use Rattle.statement.specs.Sound.{TableStructFits}
use Rattle.statement.specs.SoundTest.{sound_table, sound_schemas, TablesFit}
use Rattle.statement.specs.declared.Table.{Table}
use Rattle.statement.proofs.SoundNames.{or-none}
use Rattle.statement.proofs.SoundTable.{Parts, table-parts, parts-table, sound-fits}

-- ---- names of tables

names-append : (ts us : List Schema) → table_names (ts ++ us) ≡ table_names ts ++ table_names us
names-append ts us = map-append (λ (t : Schema). t.name) ts us

has-append : (ts us : List Schema) (n : T.Name) → has (table_names (ts ++ us)) n ≡ (has (table_names ts) n || has (table_names us) n)
has-append ts us n = ap (any (same_name n)) (names-append ts us) ∙ any_append (same_name n) (table_names ts) (table_names us)

-- one more name that is not there
repeats-more : (ns : List T.Name) (n : T.Name) → repeats same_name ns ≡ false → has ns n ≡ false → repeats same_name (ns ++ (n ∷ [])) ≡ false
repeats-more [] n r h = refl
repeats-more (m ∷ ns) n r h =
    or-none (any (same_name m) (ns ++ (n ∷ []))) _
    (any_append (same_name m) ns (n ∷ [])
    ∙ or-none _ _ (or_left (any (same_name m) ns) _ r) (or-none (same_name m n) false (same-swap n m (or_left (same_name n m) _ h)) refl))
    (repeats-more ns n (or_right (any (same_name m) ns) _ r) (or_right (same_name n m) _ h))

-- ---- together they are tables that there are

one-fits : (before : List Schema) (t : Table) → TableStructFits t → sound_table before t ≡ true → TablesFit before → TablesFit (before ++ (schema_of t ∷ []))
one-fits before t F h B =
    let P : Parts before t = table-parts before t h in
    record {
      different = ap (repeats same_name) (names-append before (schema_of t ∷ []))
          ∙ repeats-more (table_names before) (name_of_struct t.name) B.different P.fresh;
      each = All-append B.each (cons (sound-fits before t F P) nil);
    }

more-fit : (before : List Schema) (ts : List Table) → All TableStructFits ts → sound_schemas before ts ≡ true → TablesFit before → TablesFit (before ++ map schema_of ts)
more-fit before [] F h B = subst TablesFit (sym (append-nil before)) B
more-fit before (t ∷ ts) F h B =
    subst TablesFit (append_assoc before (schema_of t ∷ []) (map schema_of ts))
    (more-fit (before ++ (schema_of t ∷ [])) ts (All-tail F) (and_right (sound_table before t) _ h)
    (one-fits before t (All-head F) (and_left (sound_table before t) _ h) B))

-- sound tables are such that statements can be compiled beside them
pub tables_fit : (ts : List Table) → All TableStructFits ts → sound_schemas [] ts ≡ true → TablesFit (map schema_of ts)
tables_fit ts F h = more-fit [] ts F h (record { different = refl; each = nil })

-- ---- each beside all others

-- what is sound beside some is sound beside others that do not have its name
beside : (ts us : List Schema) (t : Table) → sound_table ts t ≡ true → has (table_names us) (name_of_struct t.name) ≡ false → sound_table us t ≡ true
beside ts us t h k =
    let P : Parts ts t = table-parts ts t h in
    parts-table us t (record {
      some_columns = P.some_columns;
      few_columns = P.few_columns;
      name_sound = P.name_sound;
      columns_sound = P.columns_sound;
      different = P.different;
      fresh = k;
      some_rows = P.some_rows;
      few_rows = P.few_rows;
    })

-- a name that is there before is none of the tables that follow
later-fresh : (n : T.Name) (before : List Schema) (ts : List Table) → has (table_names before) n ≡ true → sound_schemas before ts ≡ true
    → has (table_names (map schema_of ts)) n ≡ false
later-fresh n before [] there h = refl
later-fresh n before (t ∷ ts) there h =
    let P : Parts before t = table-parts before t (and_left (sound_table before t) _ h) in
    or-none (same_name n (name_of_struct t.name)) _
    (contra (same_name n (name_of_struct t.name)) (has (table_names before) (name_of_struct t.name))
    (λ e. subst (λ m. has (table_names before) m ≡ true) (same-is n (name_of_struct t.name) e) there) P.fresh)
    (later-fresh n (before ++ (schema_of t ∷ [])) ts (has-append before (schema_of t ∷ []) n ∙ ap (λ b. b || (same_name n (name_of_struct t.name) || false)) there)
    (and_right (sound_table before t) _ h))

here : (before : List Schema) (t : Table) → has (table_names (before ++ (schema_of t ∷ []))) (name_of_struct t.name) ≡ true
here before t =
    has-append before (schema_of t ∷ []) (name_of_struct t.name)
    ∙ ap (λ b. has (table_names before) (name_of_struct t.name) || (b || false)) (same-name (name_of_struct t.name))
    ∙ or-true (has (table_names before) (name_of_struct t.name))

each_of : (before : List Schema) (ls : List Table) (t : Table) (rs : List Table) → sound_schemas before (ls ++ t ∷ rs) ≡ true
    → sound_table (before ++ map schema_of (ls ++ rs)) t ≡ true
each_of before [] t rs h =
    let s : sound_table before t ≡ true = and_left (sound_table before t) _ h in
    beside before (before ++ map schema_of rs) t s
    (has-append before (map schema_of rs) (name_of_struct t.name)
    ∙ or-none _ _ (table-parts before t s).fresh
    (later-fresh (name_of_struct t.name) (before ++ (schema_of t ∷ [])) rs (here before t) (and_right (sound_table before t) _ h)))
each_of before (a ∷ ls) t rs h =
    subst (λ us. sound_table us t ≡ true) (append_assoc before (schema_of a ∷ []) (map schema_of (ls ++ rs)))
    (each_of (before ++ (schema_of a ∷ [])) ls t rs (and_right (sound_table before a) _ h))

-- each of the tables is sound beside the rest
abbrev pub EachBeside : List Table → Type 0
EachBeside ts = (ls : List Table) (t : Table) (rs : List Table) → ts ≡ ls ++ t ∷ rs → sound_table (map schema_of (ls ++ rs)) t ≡ true

of-each : (ls ts : List Table) → EachBeside (ls ++ ts) → sound_schemas (map schema_of ls) ts ≡ true
of-each ls [] E = refl
of-each ls (t ∷ ts) E =
    let s : sound_table (map schema_of (ls ++ ts)) t ≡ true = E ls t ts refl in
    let split : has (table_names (map schema_of ls ++ map schema_of ts)) (name_of_struct t.name) ≡ false =
    ap (λ us. has (table_names us) (name_of_struct t.name)) (sym (map-append schema_of ls ts)) ∙ (table-parts (map schema_of (ls ++ ts)) t s).fresh in
    and_both (sound_table (map schema_of ls) t) _
    (beside (map schema_of (ls ++ ts)) (map schema_of ls) t s
    (or_left (has (table_names (map schema_of ls)) (name_of_struct t.name)) _ (sym (has-append (map schema_of ls) (map schema_of ts) (name_of_struct t.name)) ∙ split)))
    (subst (λ us. sound_schemas us ts ≡ true) (map-append schema_of ls (t ∷ []))
    (of-each (ls ++ (t ∷ [])) ts (subst EachBeside (sym (append_assoc ls (t ∷ []) ts)) E)))

pub tables-sound : (ts : List Table) → (sound_schemas [] ts ≡ true) ↔ EachBeside ts
tables-sound ts =
    ((λ h ls t rs e. each_of [] ls t rs (subst (λ us. sound_schemas [] us ≡ true) e h)), of-each [] ts)
