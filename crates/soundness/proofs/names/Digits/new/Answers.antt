use Rattle.std.proofs.Common.{ℕ, ◌+◌, ◌∙◌, rules}
use Rattle.std.proofs.lemmas.List.FromFn.{fill_by_all}
use Rattle.soundness.proofs.Packed.{table-made}
use Rattle.soundness.proofs.names.Digits.new.Goals as goal

pub invariant_of-result : goal.invariant_of-result
invariant_of-result c =
    let letters = c.from_fn-letters.ensures.items in
    let numerals = c.from_fn-numerals.ensures.items in
    let e = fill_by_all (λ (k : ℕ). k + 1) c.from_fn-letters.result 26 0 letters.long (λ k h. let r = letters.at k 0 h in search rules) in
    let f = fill_by_all (λ (k : ℕ). k + 27) c.from_fn-numerals.result 10 0 numerals.long (λ k h. let r = numerals.at k 0 h in search rules) in
    record {
      numbered = table-made _ _ _ _ _ _ _ c.from.ensures c.from-2.ensures c.from-3.ensures c.from-4.ensures c.from-5.ensures
          (c.copy_from_slice.ensures.after ∙ e) (c.copy_from_slice-2.ensures.after ∙ f);
    }

pub returns : goal.returns
returns c = (invariant_of-result c.before).numbered
