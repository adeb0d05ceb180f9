-- A word, a minus and the word after it, or a sign.
use Rattle.std.proofs.Common.{◌≡◌, ap, sym, ◌∙◌, ◌-◌, length, get_or, take, drop, arith}
use borrow.Author.Tests.{ne_eqb}
use Rattle.std.proofs.lemmas.Grind.{common_steps}
use Rattle.token.specs.Tokens.{made}
use Rattle.token.specs.Private.Parts.{sign_of}
use Rattle.token.proofs.Runs.{drop_here}
use Rattle.token.proofs.Cases.{word-bytes, word-reads, minus-reads, sign-reads}
use Rattle.token.proofs.token_here.Goals as goal

pub invariant_of-kind : goal.invariant_of-kind
invariant_of-kind c =
    let w = word-bytes c.args.text.now c.args.start c.requires c.run_end-next.result (sym c.is_word_byte.ensures ∙ c.if-is_word_byte.true) c.run_end-next.ensures.0 in
    record { some = w.0; of_word = w.1 }

pub returns-then-is_word_byte : goal.returns-then-is_word_byte
returns-then-is_word_byte c =
    ap (λ k. made k c.args.start c.run_end-next.result) c.kind.ensures
    ∙ word-reads c.args.text.now c.args.start c.requires c.run_end-next.result (sym c.is_word_byte.ensures ∙ c.if-is_word_byte.true) c.run_end-next.ensures.0

pub returns-then-b-eq45 : goal.returns-then-b-eq45
returns-then-b-eq45 c =
    let end = c.run_end-next-then-b-eq45 in
    ap (λ k. made k c.args.start end.result) c.negative.ensures
    ∙ minus-reads c.args.text.now c.args.start c.requires end.result c.if-b-eq45.true end.ensures.0

pub returns : goal.returns
returns c =
    let s = c.args.text.now in
    let start = c.args.start in
    let r : take (length s - start) (drop start s) ≡ drop start s = grind (arith, common_steps) in
    let k = c.sign-kind.ensures ∙ ap (λ v. sign_of (get_or v 0 0) (get_or v 1 0)) (r ∙ drop_here s start c.requires) in
    sign-reads s start c.requires c.sign-kind.result k (sym c.is_word_byte.ensures ∙ c.if-is_word_byte.false) (ne_eqb _ _ c.if-b-eq45.false)
