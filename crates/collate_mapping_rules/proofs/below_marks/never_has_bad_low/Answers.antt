use Rattle.std.proofs.Common.{◌≤◌, ℕ, List, ap, length, subst, take, ◌∙◌}
use Rattle.std.specs.List.{All}
use Rattle.std.proofs.lemmas.List.Elements.{All-more}
use Rattle.collate_rules.specs.declared.canonical_part.CanonicalPart.{CanonicalPart}
use Rattle.collate_rules.specs.CanonicalParts.{subject_of}
use Rattle.collate_rules.specs.LowParts.{IsNeverBadlyLow}
use Rattle.collate_mapping_rules.proofs.mappings.LowChainLemmas.{never_none}
use Rattle.collate_mapping_rules.proofs.below_marks.never_has_bad_low.Goals as goal

pub loop-part-preserved : goal.loop-part-preserved
loop-part-preserved c =
    All-more (λ part. IsNeverBadlyLow c.args.parts.now.list.items (subject_of part)) c.deref-part-items.result.now c.loop-part.part-index c.part-item.result c.loop-part-test.true c.loop-part.invariant
    (subst (λ (n : ℕ). IsNeverBadlyLow c.args.parts.now.list.items n) (c.character.ensures ∙ ap subject_of c.part-item.is) (c.is_never_badly_low.ensures c.if-not-is_never_badly_low.false))

pub returns : goal.returns
returns c = λ set.
    let is = c.deref-part-items.ensures.value in
    never_none c.args.parts.now.list.items c.loop-part.part-index
    (subst (λ (l : List CanonicalPart). length l ≤ c.loop-part.part-index) is c.loop-part-test.false)
    (subst (λ (l : List CanonicalPart). All (λ part. IsNeverBadlyLow c.args.parts.now.list.items (subject_of part)) (take c.loop-part.part-index l)) is c.loop-part.invariant)
