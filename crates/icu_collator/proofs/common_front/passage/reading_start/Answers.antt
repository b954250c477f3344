use Rattle.std.proofs.Common.{subst}
use Rattle.icu_normalizer_core.specs.Canonical.{IsDecomposing}
use Rattle.icu_normalizer_core.specs.CanonicalMeaning.{meaning}
use Rattle.icu_collator.specs.Collators.{source_collation}
use Rattle.icu_collator.proofs.boundaries.ReadingStartLemmas.{beginning, found_index}
use Rattle.icu_collator.proofs.common_front.passage.reading_start.Goals as goal

pub returns : goal.returns
returns g c =
    let collation = source_collation c.args.checked.now in
    let text = g.T.Characters.characters c.args.text in
    let decomposing : IsDecomposing (meaning c.args.checked.now.canonical) = subst (λ tables. IsDecomposing (meaning tables)) c.canonical.ensures c.keep_promise.ensures.decomposing in
    let may = c.if-not-may_skip.false in
    found_index collation c.args.options.now text c.args.common c.index_near_or_far.result decomposing
    (record {
      forward = c.may_skip.ensures.forward may;
      undotted = c.may_skip.ensures.undotted may;
      unshifted = c.may_skip.ensures.unshifted may;
      unnumbered = c.may_skip.ensures.unnumbered may;
    })
    c.index_near_or_far.ensures

pub returns-then-not-may_skip : goal.returns-then-not-may_skip
returns-then-not-may_skip g c = beginning (source_collation c.args.checked.now) c.args.options.now (g.T.Characters.characters c.args.text) c.args.common
