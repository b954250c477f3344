use Rattle.std.proofs.Common.{◌≡◌, ◌∷◌, subst}
use Rattle.std.proofs.lemmas.Bool.{ne_eqb}
use Rattle.icu_normalizer_core.specs.CanonicalMeaning.{meaning}
use Rattle.icu_collator.proofs.boundaries.ReadingStartLemmas.{open_passage}
use Rattle.icu_collator.proofs.common_front.passage.is_passage.Goals as goal

pub returns-then-first-ne771 : goal.returns-then-first-ne771
returns-then-first-ne771 c = λ safe on.
    let first = c.in-Some.first in
    let others = c.in-Some.ensures.0 in
    let full = subst (λ tables. (meaning tables).full c.args.c ≡ first ∷ others) c.canonical.ensures c.in-Some.ensures.1 in
    open_passage c.args.checked.now c.args.c first others c.is_safe.ensures.decomposing (c.is_safe.ensures.safe safe) full (ne_eqb first 0x303 c.if-first-ne771.true) on
