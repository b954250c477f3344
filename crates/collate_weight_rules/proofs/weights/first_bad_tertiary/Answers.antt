use Rattle.std.proofs.Common.{rules}
use Rattle.std.proofs.lemmas.Iterator.{IsFirst-from_position, YieldsList-from_slice}
use Rattle.collate_lines.specs.Record.{said}
use Rattle.collate_rules.specs.GivenWeights.{HasRefused, has_sound_tertiary}
use Rattle.collate_rules.proofs.offenders.LineRuleLemmas.{first_by_test}
use Rattle.collate_weight_rules.proofs.weights.first_bad_tertiary.Goals as goal

pub returns : goal.returns
returns c =
    first_by_test (HasRefused has_sound_tertiary) c.args.records.now c.position.result
    (IsFirst-from_position _ _ c.position.result (λ x. HasRefused has_sound_tertiary (said x)) (λ x. HasRefused has_sound_tertiary (said x) → ⊥) c.position.ensures.ran
    (YieldsList-from_slice c.args.records.now c.iter.ensures.rest) (λ x q k. search rules) (λ x q k. search rules))
