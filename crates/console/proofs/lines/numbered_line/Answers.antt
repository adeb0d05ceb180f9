use Rattle.std.proofs.Common.{sym, ap, ap₂, drop, ◌∙◌, rules, tests, List, ℕ}
use Rattle.std.specs.Prelude as P
use Rattle.console.specs.Lines.{word_values}
use Rattle.console.specs.Private.Parts.{count_on, counted_line, numbered_line}
use Rattle.console.proofs.Words.{two_words, lone_word}
use Rattle.console.proofs.lines.numbered_line.Goals as goal

pub returns-in_err-word : goal.returns-in_err-word
returns-in_err-word c =
    c.from_residual-in_err-word.ensures ∙ sym (ap numbered_line (lone_word c.split-words.result c.args.line.now c.split-words.ensures.rest c.split-words.ensures.done c.split-words.ensures.closure c.in_ok-command.command c.next.new.self c.next-2.new.self c.in_ok-command.ensures.steps c.in_err-word.ensures.steps (λ x b q k. search (rules, tests))))

pub returns-in_err-number : goal.returns-in_err-number
returns-in_err-number c =
    let q = two_words c.split-words.result c.args.line.now c.split-words.ensures.rest c.split-words.ensures.done c.split-words.ensures.closure c.in_ok-command.command c.in_ok-word.word c.next.new.self c.next-2.new.self c.in_ok-command.ensures.steps c.in_ok-word.ensures.steps (λ x b q k. search (rules, tests)) in
    c.from_residual-in_err-number.ensures
    ∙ ap (λ (o : P.Option ℕ). counted_line c.in_ok-command.command.now o (count_on 0 (word_values q.0))) (sym c.in_err-number.was ∙ c.number_in.ensures) ∙ sym (ap numbered_line q.1)

pub returns : goal.returns
returns c =
    let q = two_words c.split-words.result c.args.line.now c.split-words.ensures.rest c.split-words.ensures.done c.split-words.ensures.closure c.in_ok-command.command c.in_ok-word.word c.next.new.self c.next-2.new.self c.in_ok-command.ensures.steps c.in_ok-word.ensures.steps (λ x b q k. search (rules, tests)) in
    c.named_line.ensures
    ∙ ap₂ (counted_line c.in_ok-command.command.now) (sym c.in_ok-number.was ∙ c.number_in.ensures)
    (sym c.in_ok-count.was ∙ c.count_values.ensures ∙ ap (λ (ws : List (List ℕ)). count_on 0 (word_values (drop 2 ws))) q.1)
    ∙ sym (ap numbered_line q.1)
