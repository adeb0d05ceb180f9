-- `sentences::read_form` meets its contract.
-- Assumes nothing.
use mathlib.Core.Path.{refl}
use Rattle.meaning.specs.Reader.{a_table, a_select, an_insert, an_update, a_delete}
use Rattle.meaning.specs.Tokens.{keyword, TABLE, SELECT, INSERT, UPDATE, DELETE}
use Rattle.statement.proofs.Steps.{goes, stops}
use Rattle.statement.proofs.SentenceTexts.{stands-here, starts_with, starts-not, first-table, first-select, first-insert, first-update, first-delete}
use Rattle.statement.proofs.SentenceTokens.{stays}
use Rattle.statement.proofs.sentences.read_form.Goals as goal

pub invariant_of-start : goal.invariant_of-start
invariant_of-start c =
    let a = c.args in
    record { stands = stands-here a.text.now c.next-t.result.next c.requires (stays a.text.now 0 c.next-t.result c.next-t.ensures) }

pub returns-in-Table : goal.returns-in-Table
returns-in-Table c =
    let a = c.args in
    starts_with a.text.now _ _ _ TABLE a_table first-table _ (goes a.text.now 0 c.next-t.result c.next-t.ensures (keyword TABLE) refl c.in-Table.is) (c.read_table.ensures _)

pub returns-in-Select : goal.returns-in-Select
returns-in-Select c =
    let a = c.args in
    starts_with a.text.now _ _ _ SELECT a_select first-select _ (goes a.text.now 0 c.next-t.result c.next-t.ensures (keyword SELECT) refl c.in-Select.is) c.read_select.ensures

pub returns-in-Insert : goal.returns-in-Insert
returns-in-Insert c =
    let a = c.args in
    starts_with a.text.now _ _ _ INSERT an_insert first-insert _ (goes a.text.now 0 c.next-t.result c.next-t.ensures (keyword INSERT) refl c.in-Insert.is) (c.read_insert.ensures _)

pub returns-in-Update : goal.returns-in-Update
returns-in-Update c =
    let a = c.args in
    starts_with a.text.now _ _ _ UPDATE an_update first-update _ (goes a.text.now 0 c.next-t.result c.next-t.ensures (keyword UPDATE) refl c.in-Update.is) c.read_update.ensures

pub returns-in-Delete : goal.returns-in-Delete
returns-in-Delete c =
    let a = c.args in
    starts_with a.text.now _ _ _ DELETE a_delete first-delete _ (goes a.text.now 0 c.next-t.result c.next-t.ensures (keyword DELETE) refl c.in-Delete.is) (c.read_delete.ensures _)

pub returns-in_default : goal.returns-in_default
returns-in_default c =
    let a = c.args in
    starts-not a.text.now _ _ _ (stops a.text.now 0 c.next-t.result c.next-t.ensures (keyword TABLE) c.in_default.not-Table) (stops a.text.now 0 c.next-t.result c.next-t.ensures (keyword SELECT) c.in_default.not-Select) (stops a.text.now 0 c.next-t.result c.next-t.ensures (keyword INSERT) c.in_default.not-Insert)
    (stops a.text.now 0 c.next-t.result c.next-t.ensures (keyword UPDATE) c.in_default.not-Update) (stops a.text.now 0 c.next-t.result c.next-t.ensures (keyword DELETE) c.in_default.not-Delete) refl
