use Rattle.std.proofs.Common.{[], ◌∷◌, ◌++◌, sym, ap, ◌∙◌, arith, append_assoc}
use Rattle.icu_normalizer_core.proofs.decomposed_lists.DecomposedLemmas.{all_append}
use Rattle.icu_normalizer.proofs.composing.lone_mark.has_classes_up_to.Goals as goal

pub loop-d-preserved : goal.loop-d-preserved
loop-d-preserved c =
    let now = c.loop-d.invariant in (
      all_append _ c.loop-d.yielded (c.in-Some.d ∷ []) now.0 (omega arith, tt),
      append_assoc c.loop-d.yielded (c.in-Some.d ∷ []) c.next.new.self ∙ ap (λ l. c.loop-d.yielded ++ l) (sym c.in-Some.ensures.steps) ∙ now.1,
    )
