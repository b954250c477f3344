use Rattle.std.proofs.Common.{◌≡◌, ◌∷◌, subst}
use Rattle.std.proofs.lemmas.Bool.{ne_eqb}
use Rattle.icu_normalizer_core.specs.CanonicalMeaning.{meaning}
use Rattle.icu_collator.proofs.boundaries.SafeCharacterLemmas.{safe_plain}
use Rattle.icu_collator.proofs.common_front.next.find_plain_element.Goals as goal

pub returns : goal.returns
returns c =
    let first = c.in_ok-first.first in
    let others = c.in_ok-first.ensures.0 in
    let full = subst (λ tables. (meaning tables).full c.args.c ≡ first ∷ others) c.canonical.ensures c.in_ok-first.ensures.1 in
    safe_plain c.args.checked.now c.args.c c.in_ok-element.element first others c.is_safe.ensures.decomposing (c.is_safe.ensures.safe c.if-not-is_safe.false)
    full (ne_eqb first 0x303 c.if-first-eq771.false) c.in_ok-element.ensures
