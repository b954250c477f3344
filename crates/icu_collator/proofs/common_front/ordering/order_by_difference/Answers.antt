use Rattle.std.proofs.Common.{◌∙◌, subst}
use Rattle.icu_normalizer_core.specs.Canonical.{IsDecomposing}
use Rattle.icu_normalizer_core.specs.CanonicalMeaning.{meaning}
use Rattle.icu_collator.specs.Collators.{source_collation}
use Rattle.icu_collator.proofs.equivalence.NormalisingLemmas.{first_replaced, second_replaced}
use Rattle.icu_collator.proofs.common_front.ordering.order_by_difference.Goals as goal

pub returns : goal.returns
returns c = λ a b h g part.
    let spelled = c.by_letters-spelled.result in
    let options = c.args.options.now in
    let collation = source_collation c.args.checked.now in
    let decomposing : IsDecomposing (meaning c.args.checked.now.canonical) = subst (λ tables. IsDecomposing (meaning tables)) c.canonical.ensures c.keep_promise.ensures.decomposing in
    let same = c.by_letters-spelled.ensures collation.canonical a b decomposing h g part in
    c.in_ok-order.ensures options c.variable_end.ensures same.left_text same.right_text spelled.common spelled.left spelled.right decomposing
    same.left_scalars same.right_scalars same.part c.next_character-left.ensures c.next_character-right.ensures
    ∙ first_replaced collation options a same.left_text same.right_text same.left_same
    ∙ second_replaced collation options a b same.right_text same.right_same
