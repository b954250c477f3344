use Rattle.std.proofs.Common.{◌≤◌, List, length, map, take, refl, ap, subst, ◌∙◌}
use Rattle.std.specs.List.{All}
use Rattle.collate_rules.specs.declared.canonical_part.CanonicalPart.{CanonicalPart}
use Rattle.std.proofs.lemmas.Bool.{false≢true}
use Rattle.collate_rules.specs.CanonicalParts.{in_full, subject_of}
use Rattle.collate_rules.specs.Rules.{IsMappedMark}
use Rattle.collate_rules.proofs.lists.BadListLemmas.{mapped_in_parts}
use Rattle.collate_rules.proofs.mappings.CanonicalPartLemmas.{none_of_all, none_of_more}
use Rattle.collate_mapping_rules.proofs.marks.map_any_mark.Goals as goal

pub loop-part-preserved : goal.loop-part-preserved
loop-part-preserved c =
    none_of_more (λ n. IsMappedMark (map in_full c.args.parts.now.list.items) n) c.deref-part-items.result.now c.loop-part.part-index c.part-item.result
    c.character.result c.is_mapped_mark.result c.loop-part-test.true c.loop-part.invariant
    (c.character.ensures ∙ ap subject_of c.part-item.is) c.is_mapped_mark.ensures.1 c.if-is_mapped_mark.false

pub returns-then-is_mapped_mark : goal.returns-then-is_mapped_mark
returns-then-is_mapped_mark c = (
  λ t. (c.character.result, c.is_mapped_mark.ensures.0 c.if-is_mapped_mark.true),
  λ maps. refl,
)

pub returns : goal.returns
returns c =
    let is = c.deref-part-items.ensures.value in (
      λ t. absurd (false≢true t),
      λ maps. absurd (mapped_in_parts c.args.parts.now.list.items maps.0 maps.1.0
          (none_of_all (λ n. IsMappedMark (map in_full c.args.parts.now.list.items) n) c.args.parts.now.list.items c.loop-part.part-index
          (subst (λ (l : List CanonicalPart). length l ≤ c.loop-part.part-index) is c.loop-part-test.false)
          (subst (λ (l : List CanonicalPart). All (λ part. IsMappedMark (map in_full c.args.parts.now.list.items) (subject_of part) → ⊥) (take c.loop-part.part-index l)) is c.loop-part.invariant)
          maps.0 maps.1)),
    )
