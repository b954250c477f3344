use Rattle.std.proofs.lemmas.Bool.{false≢true}
use Rattle.std.proofs.Common.{◌≤◌, List, ap, length, map, subst, take, ◌∙◌}
use Rattle.collate_rules.proofs.lists.LowLemmas.{low_none}
use Rattle.collate_mapping_rules.proofs.below_marks.has_bad_low.Goals as goal
use Rattle.std.specs.List.{All}
use Rattle.collate_rules.specs.declared.canonical_part.CanonicalPart.{CanonicalPart}
use Rattle.collate_rules.specs.CanonicalParts.{in_full, subject_of}
use Rattle.collate_rules.specs.Rules.{IsBadlyLow}
use Rattle.collate_rules.proofs.mappings.CanonicalPartLemmas.{none_of_more}

pub loop-part-preserved : goal.loop-part-preserved
loop-part-preserved c =
    none_of_more (λ n. IsBadlyLow (map in_full c.args.parts.now.list.items) n) c.deref-part-items.result.now c.loop-part.part-index c.part-item.result c.character.result c.in_ok-is_bad.is_bad c.loop-part-test.true c.loop-part.invariant
    (c.character.ensures ∙ ap subject_of c.part-item.is) c.in_ok-is_bad.ensures.1 c.if-is_bad.false

pub returns : goal.returns
returns c = (
  λ e. absurd (false≢true e),
  λ bad. absurd (low_none c.args.parts.now.list.items c.loop-part.part-index
      (subst (λ (l : List CanonicalPart). length l ≤ c.loop-part.part-index) c.deref-part-items.ensures.value c.loop-part-test.false)
      (subst (λ (l : List CanonicalPart). All (λ part. IsBadlyLow (map in_full c.args.parts.now.list.items) (subject_of part) → ⊥) (take c.loop-part.part-index l)) c.deref-part-items.ensures.value c.loop-part.invariant) bad),
)
