-- `read_list`: an item, and behind a comma those that follow.
use mathlib.Core.Path.{refl}
use native.Mathlib.Omega.{arith}
use borrow.Author.Rules.{rules}
use Rattle.meaning.specs.Tokens.{comma}
use Rattle.statement.proofs.Steps.{goes, stops}
use Rattle.statement.proofs.Filled.{put-noted}
use Rattle.statement.proofs.SentenceLists.{no_list, list-ends, list-goes, list-asks}
use Rattle.statement.proofs.conditions.Parser.+read_list.Goals as goal

pub returns-in_err-c : goal.returns-in_err-c
returns-in_err-c t c = let a = c.args in no_list a.holds a.self.text.now a.items.now a.self.c a.listed _ _ c.in_err-c.ensures (cc)

pub returns-in_default : goal.returns-in_default
returns-in_default t c =
    let a = c.args in
    let s = a.self.text.now in
    list-ends a.holds s a.items.now a.self.c a.listed _ _ _ _ refl (λ h. put-noted a.items.now _ a.listed 8 _ (search rules) c.put.ensures h) c.in_ok-c.ensures
    (stops s _ c.next-t.result c.next-t.ensures comma c.in_default.not-Comma)

pub read_list-requires : goal.read_list-requires
read_list-requires t c =
    let a = c.args in
    let s = a.self.text.now in
    let p = goes s _ c.next-t.result c.next-t.ensures comma refl c.in-Comma.is in
    let w = list-asks a.holds s a.items.now a.self.c a.listed _ _ _ _ refl (λ h. put-noted a.items.now _ a.listed 8 _ (search rules) c.put.ensures h) c.in_ok-c.ensures _ c.requires p in
    (omega (arith, w.0, c.decreases), w.2)

pub invariant_of-read_list : goal.invariant_of-read_list
invariant_of-read_list t c =
    let a = c.args in
    let s = a.self.text.now in
    let p = goes s _ c.next-t.result c.next-t.ensures comma refl c.in-Comma.is in
    record { stands = (list-asks a.holds s a.items.now a.self.c a.listed _ _ _ _ refl (λ h. put-noted a.items.now _ a.listed 8 _ (search rules) c.put.ensures h) c.in_ok-c.ensures _ c.requires p).1 }

pub returns : goal.returns
returns t c =
    let a = c.args in
    let s = a.self.text.now in
    let p = goes s _ c.next-t.result c.next-t.ensures comma refl c.in-Comma.is in
    list-goes a.holds s a.items.now a.self.c a.listed _ _ _ _ refl (λ h. put-noted a.items.now _ a.listed 8 _ (search rules) c.put.ensures h) c.in_ok-c.ensures _ _ _ p c.read_list.ensures
