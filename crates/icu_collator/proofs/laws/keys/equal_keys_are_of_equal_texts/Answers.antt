use Rattle.icu_collator.proofs.keys.TextKeyLemmas.{equal_text_keys}
use Rattle.icu_collator.proofs.laws.keys.equal_keys_are_of_equal_texts.Goals as goal

pub returns : goal.returns
returns c = equal_text_keys
