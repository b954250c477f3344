use Rattle.std.proofs.lemmas.Result.{IfOk-weaker}
use Rattle.collate_rules.proofs.parts.first_breach.Goals as goal

pub returns : goal.returns
returns g c =
    IfOk-weaker c.first_breach_from.result _ _
    (λ found first rule clear tells. first rule (c.in_ok-count.ensures.clear rule tells.same clear) tells)
    c.first_breach_from.ensures
