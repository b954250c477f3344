use Rattle.std.proofs.Common.{[], ◌∷◌}
use Rattle.icu_normalizer_core.specs.BorrowedMeaning.{borrowed_meaning}
use Rattle.icu_collator_core.proofs.readings.DecomposingLemmas.{both_appended}
use Rattle.icu_collator_core.proofs.reading.decomposing.push_two.Goals as goal

pub returns : goal.returns
returns c =
    both_appended (borrowed_meaning c.args.canonical).class _ _ (c.args.first ∷ []) _ _ (c.args.second ∷ []) _ _ c.in_ok-between.ensures c.in_ok-next.ensures
