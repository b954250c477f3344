use Rattle.icu_collator.proofs.keys.TextKeyLemmas.{text_keys_order}
use Rattle.icu_collator.proofs.laws.keys.keys_order_as_texts.Goals as goal

pub returns : goal.returns
returns c = text_keys_order
