use Rattle.icu_normalizer_core.proofs.decomposed_lists.DecomposedLemmas.{decomposed_same}
use Rattle.icu_collator_core.proofs.laws.same.same_characters_have_same_decomposed_lists.Goals as goal

pub returns : goal.returns
returns c = decomposed_same
