use Rattle.std.proofs.Common.{ℕ, Option, Some, subst}
use Rattle.icu_collator.specs.Fronts.{PartAt}
use Rattle.icu_collator.proofs.boundaries.SyllableLemmas.{spelled_part}
use Rattle.icu_collator.proofs.common_front.syllables.by_letters.Goals as goal

pub returns-in-Some : goal.returns-in-Some
returns-in-Some c = λ canonical a b decomposing h g part.
    let difference = c.args.difference in
    let left = c.in-Some-Some.left in
    let right = c.in-Some-Some.right in
    let first : PartAt a b difference.common (Some left) difference.right = subst (λ (o : Option ℕ). PartAt a b difference.common o difference.right) c.in-Some-Some.is-0 part in
    let both : PartAt a b difference.common (Some left) (Some right) = subst (λ (o : Option ℕ). PartAt a b difference.common (Some left) o) c.in-Some-Some.is-1 first in
    spelled_part canonical decomposing a b difference.common left right c.in-Some.left c.in-Some.right h g both c.in-Some.ensures
