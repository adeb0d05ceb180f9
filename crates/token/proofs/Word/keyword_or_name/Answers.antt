-- A keyword of six bytes is told by its length and its bytes.
use Rattle.std.proofs.Common.{rules, arith}
use Rattle.lists.specs.Lists.{bytes}
use Rattle.token.proofs.Words.{spelled}
use Rattle.token.proofs.Word.keyword_or_name.Goals as goal

pub returns-in-SELECT : goal.returns-in-SELECT
returns-in-SELECT c = spelled c.args.self.now.bytes.now (bytes "SELECT") (omega arith) (search rules)

pub returns-in-INSERT : goal.returns-in-INSERT
returns-in-INSERT c = spelled c.args.self.now.bytes.now (bytes "INSERT") (omega arith) (search rules)

pub returns-in-VALUES : goal.returns-in-VALUES
returns-in-VALUES c = spelled c.args.self.now.bytes.now (bytes "VALUES") (omega arith) (search rules)

pub returns-in-UPDATE : goal.returns-in-UPDATE
returns-in-UPDATE c = spelled c.args.self.now.bytes.now (bytes "UPDATE") (omega arith) (search rules)

pub returns-in-DELETE : goal.returns-in-DELETE
returns-in-DELETE c = spelled c.args.self.now.bytes.now (bytes "DELETE") (omega arith) (search rules)
