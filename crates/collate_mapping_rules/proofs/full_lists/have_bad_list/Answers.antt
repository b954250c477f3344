use Rattle.std.proofs.Common.{◌≤◌, List, length, map, take, refl, ap, subst, ◌∙◌}
use Rattle.std.specs.List.{All}
use Rattle.collate_rules.specs.declared.canonical_part.CanonicalPart.{CanonicalPart}
use Rattle.std.proofs.lemmas.Bool.{false≢true}
use Rattle.collate_rules.specs.CanonicalParts.{in_full, subject_of}
use Rattle.collate_rules.specs.Rules.{IsBadlyMapped}
use Rattle.collate_rules.proofs.lists.BadListLemmas.{bad_none}
use Rattle.collate_rules.proofs.mappings.CanonicalPartLemmas.{none_of_more}
use Rattle.collate_mapping_rules.proofs.full_lists.have_bad_list.Goals as goal

pub loop-part-preserved : goal.loop-part-preserved
loop-part-preserved c =
    none_of_more (λ n. IsBadlyMapped (map in_full c.args.parts.now.list.items) n) c.deref-part-items.result.now c.loop-part.part-index c.part-item.result
    c.character.result c.in_ok-is_bad.is_bad c.loop-part-test.true c.loop-part.invariant
    (c.character.ensures ∙ ap subject_of c.part-item.is) c.in_ok-is_bad.ensures.1 c.if-is_bad.false

pub returns-then-is_bad : goal.returns-then-is_bad
returns-then-is_bad c = (
  λ t. (c.character.result, c.in_ok-is_bad.ensures.0 c.if-is_bad.true),
  λ bad. refl,
)

pub returns : goal.returns
returns c =
    let is = c.deref-part-items.ensures.value in (
      λ t. absurd (false≢true t),
      λ bad. absurd (bad_none c.args.parts.now.list.items c.loop-part.part-index
          (subst (λ (l : List CanonicalPart). length l ≤ c.loop-part.part-index) is c.loop-part-test.false)
          (subst (λ (l : List CanonicalPart). All (λ part. IsBadlyMapped (map in_full c.args.parts.now.list.items) (subject_of part) → ⊥) (take c.loop-part.part-index l)) is c.loop-part.invariant)
          bad),
    )
