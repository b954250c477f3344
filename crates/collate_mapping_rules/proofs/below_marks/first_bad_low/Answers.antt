use Rattle.std.proofs.Common.{rules, subst}
use Rattle.std.proofs.lemmas.Result.{IfOk-weaker}
use Rattle.collate_lines.specs.declared.rule.Rule.TheVariants.{C7}
use Rattle.collate_rules.specs.declared.canonical_parts.CanonicalParts.{CanonicalParts}
use Rattle.collate_rules.specs.Breaches.{AnswersBreach, AnswersClear}
use Rattle.collate_rules.proofs.lists.LowLemmas.{HasBadLow-same, HasBadLow-none}
use Rattle.collate_mapping_rules.proofs.below_marks.first_bad_low.Goals as goal

pub returns : goal.returns
returns c =
    IfOk-weaker c.first_breach.result _ _
    (λ found first. first C7
    (record { tells = λ parts answer k. subst (λ (p : CanonicalParts). AnswersClear C7 p.list.items answer) k.shows (search rules) })
    (record { tells = λ parts answer k. subst (λ (p : CanonicalParts). AnswersBreach C7 p.list.items answer) k.shows (search rules); same = HasBadLow-same; none = HasBadLow-none }))
    c.first_breach.ensures
