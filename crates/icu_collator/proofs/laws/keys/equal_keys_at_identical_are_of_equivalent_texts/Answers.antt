use Rattle.icu_collator.proofs.keys.TextKeyLemmas.{identical_text_keys}
use Rattle.icu_collator.proofs.laws.keys.equal_keys_at_identical_are_of_equivalent_texts.Goals as goal

pub returns : goal.returns
returns c = identical_text_keys
