use Rattle.std.proofs.Common.{List, map, sym, ◌∙◌, subst}
use Rattle.std.proofs.lemmas.Result.{IfOk-weaker}
use Rattle.collate_rules.specs.declared.canonical_part.CanonicalPart.{CanonicalPart}
use Rattle.collate_rules.specs.Rules.{HasLoop}
use Rattle.collate_rules.specs.CanonicalParts.{in_full}
use Rattle.collate_rules.proofs.offenders.PartRuleLemmas.{earlier_push}
use Rattle.collate_mapping_rules.proofs.mappings.NamedLoopLemmas.{loop_walked}
use Rattle.collate_mapping_rules.proofs.loops.end_in_loop.Goals as goal

pub returns-in-Some : goal.returns-in-Some
returns-in-Some c = λ unbroken.
    let pushed = sym c.as_slice.ensures ∙ c.in-Some.ensures.cases.0 in
    IfOk-weaker c.lead_in_loop.result _ _
    (λ b walked.
    loop_walked c.in-Some.field-0-1.now c.args.parts.now.list.items c.in-Some.part.now c.character.result b pushed c.character.ensures walked
    (subst (λ (l : List CanonicalPart). HasLoop (map in_full l) → ⊥) (earlier_push c.in-Some.field-0-1.now c.args.parts.now.list.items c.in-Some.part.now pushed) unbroken))
    c.lead_in_loop.ensures
