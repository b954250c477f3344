use Rattle.std.proofs.Common.{rules, subst}
use Rattle.std.proofs.lemmas.Result.{IfOk-weaker}
use Rattle.collate_lines.specs.declared.rule.Rule.TheVariants.{C2}
use Rattle.collate_rules.specs.declared.canonical_parts.CanonicalParts.{CanonicalParts}
use Rattle.collate_rules.specs.Breaches.{AnswersBreach, AnswersClear}
use Rattle.collate_rules.proofs.mappings.LoopPartLemmas.{HasLoop-same, HasLoop-none}
use Rattle.collate_mapping_rules.proofs.loops.first_loop.Goals as goal

pub returns : goal.returns
returns c =
    IfOk-weaker c.first_breach.result _ _
    (λ found first. first C2
    (record { tells = λ parts answer k. subst (λ (p : CanonicalParts). AnswersClear C2 p.list.items answer) k.shows (search rules) })
    (record { tells = λ parts answer k. subst (λ (p : CanonicalParts). AnswersBreach C2 p.list.items answer) k.shows (search rules); same = HasLoop-same; none = HasLoop-none }))
    c.first_breach.ensures
