use Rattle.std.proofs.Common.{rules, subst}
use Rattle.std.proofs.lemmas.Result.{IfOk-weaker}
use Rattle.collate_lines.specs.declared.rule.Rule.TheVariants.{C4}
use Rattle.collate_rules.specs.declared.canonical_parts.CanonicalParts.{CanonicalParts}
use Rattle.collate_rules.specs.Breaches.{AnswersBreach, AnswersClear}
use Rattle.collate_rules.proofs.lists.BadListLemmas.{HasBadList-same, HasBadList-none}
use Rattle.collate_mapping_rules.proofs.full_lists.first_bad_list.Goals as goal

pub returns : goal.returns
returns c =
    IfOk-weaker c.first_breach.result _ _
    (λ found first. first C4
    (record { tells = λ parts answer k. subst (λ (p : CanonicalParts). AnswersClear C4 p.list.items answer) k.shows (search rules) })
    (record { tells = λ parts answer k. subst (λ (p : CanonicalParts). AnswersBreach C4 p.list.items answer) k.shows (search rules); same = HasBadList-same; none = HasBadList-none }))
    c.first_breach.ensures
