use Rattle.std.proofs.Common.{◌≡◌, sym, ◌∙◌}
use Rattle.pattern.specs.Stored.{separate_stored}
use Rattle.pattern.proofs.FilledCodes.{separate-other, separate-query, separate-both, separate-found, none-found}
use Rattle.pattern.proofs.filled.is_separate.Goals as goal

pub returns-then-plain_condition : goal.returns-then-plain_condition
returns-then-plain_condition c =
    let q = c.args.query.now in
    let u = c.args.update.now in
    let e : c.plain_condition-then-plain_condition.result ≡ separate_stored c.args.width q u =
    c.plain_condition-then-plain_condition.ensures.plain
    ∙ sym (separate-both c.args.width q u (sym c.is_alike.ensures ∙ c.if-is_alike.true) (sym c.plain_condition.ensures.plain ∙ c.if-plain_condition.true)) in
    record {
      separate = e;
      separated = λ h. separate-found c.args.width q u _ e (c.plain_condition.ensures.apart c.if-plain_condition.true) (c.plain_condition-then-plain_condition.ensures.apart h) h;
    }

pub returns-else-plain_condition : goal.returns-else-plain_condition
returns-else-plain_condition c =
    record {
      separate = c.if-plain_condition.false
          ∙ sym (separate-query c.args.width c.args.query.now c.args.update.now (sym c.is_alike.ensures ∙ c.if-is_alike.true) (sym c.plain_condition.ensures.plain ∙ c.if-plain_condition.false));
      separated = none-found _ c.if-plain_condition.false;
    }

pub returns-else-is_alike : goal.returns-else-is_alike
returns-else-is_alike c =
    record {
      separate = c.if-is_alike.false ∙ sym (separate-other c.args.width c.args.query.now c.args.update.now (sym c.is_alike.ensures ∙ c.if-is_alike.false));
      separated = none-found _ c.if-is_alike.false;
    }
