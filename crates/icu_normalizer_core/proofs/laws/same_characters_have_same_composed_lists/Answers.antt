use Rattle.icu_normalizer_core.proofs.building.AcceptedMapsSameLemmas.{composed_same}
use Rattle.icu_normalizer_core.proofs.laws.same_characters_have_same_composed_lists.Goals as goal

pub returns : goal.returns
returns c =
    λ a b text same ok scalars.
    composed_same a b (record { class = same.same.class; pair = same.pair; scalars = ok.composing.scalars }) text same.same ok.decomposing scalars
