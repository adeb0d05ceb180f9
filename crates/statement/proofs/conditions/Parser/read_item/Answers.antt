-- `Parser::read_item` meets its contract. Assumes nothing.
use Rattle.statement.specs.declared.sentences.Contents.TheVariants.{Names as names, Values as values, Settings as settings, Columns as columns}
use Rattle.statement.proofs.SentenceReaders.{none-found, stops, goes_on}
use Rattle.statement.proofs.SentenceLists.{of-kind, name-item, value-item, setting-item, column-item}
use Rattle.statement.proofs.conditions.Parser.read_item.Goals as goal

pub returns-in_err-c-in-Names : goal.returns-in_err-c-in-Names
returns-in_err-c-in-Names c = let a = c.args in of-kind names a.holds a.self.text.now a.self.c _ c.in-Names.is (none-found c.in_err-c-in-Names.ensures (cc))

pub returns-in_ok-c-in-Names : goal.returns-in_ok-c-in-Names
returns-in_ok-c-in-Names c = let a = c.args in of-kind names a.holds a.self.text.now a.self.c _ c.in-Names.is (name-item a.self.text.now a.self.c _ _ c.in_ok-c-in-Names.ensures)

pub returns-in_err-c-in-Values : goal.returns-in_err-c-in-Values
returns-in_err-c-in-Values c = let a = c.args in of-kind values a.holds a.self.text.now a.self.c _ c.in-Values.is (none-found c.in_err-c-in-Values.ensures (cc))

pub returns-in_ok-c-in-Values : goal.returns-in_ok-c-in-Values
returns-in_ok-c-in-Values c = let a = c.args in of-kind values a.holds a.self.text.now a.self.c _ c.in-Values.is (value-item a.self.text.now a.self.c _ _ c.in_ok-c-in-Values.ensures)

pub returns-in_err-c-in-Settings : goal.returns-in_err-c-in-Settings
returns-in_err-c-in-Settings c = let a = c.args in of-kind settings a.holds a.self.text.now a.self.c _ c.in-Settings.is (stops _ c.in_err-c-in-Settings.ensures (cc))

pub returns-in_err-c-in-Settings-2 : goal.returns-in_err-c-in-Settings-2
returns-in_err-c-in-Settings-2 c =
    let a = c.args in
    of-kind settings a.holds a.self.text.now a.self.c _ c.in-Settings.is
    (goes_on _ c.in_ok-c-in-Settings.ensures (λ x b q. stops _ c.in_err-c-in-Settings-2.ensures (cc)))

pub returns-in_err-c-in-Settings-3 : goal.returns-in_err-c-in-Settings-3
returns-in_err-c-in-Settings-3 c =
    let a = c.args in
    of-kind settings a.holds a.self.text.now a.self.c _ c.in-Settings.is
    (goes_on _ c.in_ok-c-in-Settings.ensures (λ x b q. goes_on _ c.in_ok-c-in-Settings-2.ensures (λ u b q. stops _ c.in_err-c-in-Settings-3.ensures (cc))))

pub returns-in_ok-c-in-Settings-3 : goal.returns-in_ok-c-in-Settings-3
returns-in_ok-c-in-Settings-3 c =
    let a = c.args in
    of-kind settings a.holds a.self.text.now a.self.c _ c.in-Settings.is
    (setting-item a.self.text.now a.self.c _ _ _ _ _ c.in_ok-c-in-Settings.ensures c.in_ok-c-in-Settings-2.ensures c.in_ok-c-in-Settings-3.ensures)

pub returns-in_err-c-in-Columns : goal.returns-in_err-c-in-Columns
returns-in_err-c-in-Columns c = let a = c.args in of-kind columns a.holds a.self.text.now a.self.c _ c.in-Columns.is (none-found c.in_err-c-in-Columns.ensures (cc))

pub returns-in_ok-c-in-Columns : goal.returns-in_ok-c-in-Columns
returns-in_ok-c-in-Columns c = let a = c.args in of-kind columns a.holds a.self.text.now a.self.c _ c.in-Columns.is (column-item a.self.text.now a.self.c _ _ c.in_ok-c-in-Columns.ensures)
