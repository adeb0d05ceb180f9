use Rattle.std.proofs.Common.{◌≡◌, ◌∙◌, List, map, take, ℕ, min, length, sym, ap, subst, refl, Option as Maybe}
use Rattle.meaning.specs.Reader.{sentence}
use Rattle.statement.specs.declared.Refusal.TheVariants.{Sentence}
use Rattle.statement.specs.declared.sentences.Item.{Item}
use Rattle.statement.specs.declared.sentences.Entry.{Entry}
use Rattle.statement.specs.declared.conditions.Node.{Node}
use Rattle.statement.specs.Catalog.{schema_of}
use Rattle.statement.specs.Private.Sentences.{Noted}
use Rattle.statement.specs.Private.Built.{table_on, beside_on}
use Rattle.statement.proofs.Settled.{none-is}
use Rattle.statement.proofs.Compiles.{compiled-long, compiled-none, compiled-over, compiled-reads, compiled-table, compiled-beside}
use Rattle.statement.proofs.Statement.compile.Goals as goal

-- what was read, at what is known of it
noted-as : (s : List ℕ) (ls : List Item) (ps : List Node) (o r : Maybe Entry) → o ≡ r → Noted s ls ps o (sentence s) → Noted s ls ps r (sentence s)
noted-as s ls ps o r e N = subst (λ (x : Maybe Entry). Noted s ls ps x (sentence s)) e N

pub returns-then-text-gt-TEXT : goal.returns-then-text-gt-TEXT
returns-then-text-gt-TEXT c =
    let a = c.args in
    let ts = a.tables.now in
    compiled-long a.text.now ts (min (length ts) 8) a.queries a.updates a.cells _ c.if-text-gt-TEXT.true refl

pub returns-in_err-e : goal.returns-in_err-e
returns-in_err-e c =
    let a = c.args in
    let s = a.text.now in
    let ts = a.tables.now in
    let r = c.read_sentence in
    let u = none-is Sentence r.result c.from_residual.result c.in_err-e.field-0.0 c.in_err-e.ensures.value c.from_residual.ensures.1 in
    compiled-none s r.new.items r.new.nodes ts (min (length ts) 8) a.queries a.updates a.cells c.if-text-gt-TEXT.false (noted-as s _ _ _ _ u.0 r.ensures) _ u.1

pub returns-then-is_over : goal.returns-then-is_over
returns-then-is_over c =
    let a = c.args in
    let s = a.text.now in
    let ts = a.tables.now in
    let r = c.read_sentence in
    compiled-over s r.new.items r.new.nodes ts (min (length ts) 8) a.queries a.updates a.cells c.if-text-gt-TEXT.false c.in_ok-e.e (noted-as s _ _ _ _ c.in_ok-e.ensures.ok_part r.ensures) _
    (sym c.is_over.ensures ∙ c.if-is_over.true) refl

pub invariant_of-reading : goal.invariant_of-reading
invariant_of-reading c =
    let a = c.args in
    let ts = a.tables.now in
    let r = c.read_sentence in
    record {
      fits = compiled-reads a.text.now r.new.items r.new.nodes ts (min (length ts) 8) a.queries a.updates a.cells c.if-text-gt-TEXT.false c.in_ok-e.e (noted-as _ _ _ _ _ c.in_ok-e.ensures.ok_part r.ensures)
          (sym c.is_over.ensures ∙ c.if-is_over.false) _ _ c.in_use.ensures.first (c.in_use-2.ensures.first ∙ ap (λ (k : ℕ). take k r.new.nodes) c.from.ensures);
    }

pub invariant_of-reading-in_default : goal.invariant_of-reading-in_default
invariant_of-reading-in_default c =
    let a = c.args in
    let ts = a.tables.now in
    let r = c.read_sentence in
    record {
      fits = compiled-reads a.text.now r.new.items r.new.nodes ts (min (length ts) 8) a.queries a.updates a.cells c.if-text-gt-TEXT.false c.in_ok-e.e (noted-as _ _ _ _ _ c.in_ok-e.ensures.ok_part r.ensures)
          (sym c.is_over.ensures ∙ c.if-is_over.false) _ _ c.in_use.ensures.first (c.in_use-2.ensures.first ∙ ap (λ (k : ℕ). take k r.new.nodes) c.from.ensures);
    }

pub returns-in-Table : goal.returns-in-Table
returns-in-Table c =
    let a = c.args in
    let s = a.text.now in
    let ts = a.tables.now in
    let r = c.read_sentence in
    let e = c.in_ok-e.e in
    let t = c.in-Table in
    let ls : c.in_use.result.now ≡ take e.listed r.new.items = c.in_use.ensures.first in
    compiled-table s r.new.items r.new.nodes ts (min (length ts) 8) a.queries a.updates a.cells c.if-text-gt-TEXT.false e (noted-as s _ _ _ _ c.in_ok-e.ensures.ok_part r.ensures) (sym c.is_over.ensures ∙ c.if-is_over.false) _
    t.rows t.ring t.is (c.table.ensures ∙ λ j. table_on s (ls j) e.table t.rows t.ring (map schema_of (take (c.min.ensures j) ts)) a.cells)

pub returns-in_default : goal.returns-in_default
returns-in_default c =
    let a = c.args in
    let s = a.text.now in
    let ts = a.tables.now in
    let r = c.read_sentence in
    let e = c.in_ok-e.e in
    let ls : c.in_use.result.now ≡ take e.listed r.new.items = c.in_use.ensures.first in
    let ps : c.in_use-2.result.now ≡ take e.c.nodes r.new.nodes = c.in_use-2.ensures.first ∙ ap (λ (k : ℕ). take k r.new.nodes) c.from.ensures in
    compiled-beside s r.new.items r.new.nodes ts (min (length ts) 8) a.queries a.updates a.cells c.if-text-gt-TEXT.false e (noted-as s _ _ _ _ c.in_ok-e.ensures.ok_part r.ensures) (sym c.is_over.ensures ∙ c.if-is_over.false) _
    c.in_default.not-Table (c.beside.ensures ∙ λ j. beside_on s (ls j) (ps j) e (map schema_of (take (c.min.ensures j) ts)) a.queries a.updates)
