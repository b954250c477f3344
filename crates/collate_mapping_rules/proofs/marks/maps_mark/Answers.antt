use Rattle.std.proofs.Common.{◌∙◌, List, map, subst, sym}
use Rattle.collate_rules.specs.declared.canonical_part.CanonicalPart.{CanonicalPart}
use Rattle.collate_rules.specs.Rules.{MapsMark}
use Rattle.collate_rules.specs.CanonicalParts.{in_full}
use Rattle.collate_rules.proofs.offenders.MappedMarkLemmas.{mark_tells}
use Rattle.collate_rules.proofs.offenders.PartRuleLemmas.{earlier_push}
use Rattle.collate_mapping_rules.proofs.marks.maps_mark.Goals as goal

pub returns-in-Some : goal.returns-in-Some
returns-in-Some c = λ unbroken.
    mark_tells c.in-Some.field-0-1.now c.args.parts.now.list.items c.in-Some.part.now c.character.result c.is_mapped_mark.result (sym c.as_slice.ensures ∙ c.in-Some.ensures.cases.0)
    c.character.ensures c.is_mapped_mark.ensures
    (subst (λ (l : List CanonicalPart). MapsMark (map in_full l) → ⊥) (earlier_push c.in-Some.field-0-1.now c.args.parts.now.list.items c.in-Some.part.now (sym c.as_slice.ensures ∙ c.in-Some.ensures.cases.0)) unbroken)
