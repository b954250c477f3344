use Rattle.icu_collator.proofs.numbers.NumberKeyLemmas.{lower_key_first, equal_value_keys}
use Rattle.icu_collator.proofs.laws.numbers.number_keys_order_by_value.Goals as goal

pub returns-clause-lower : goal.returns-clause-lower
returns-clause-lower c = lower_key_first

pub returns-clause-equal : goal.returns-clause-equal
returns-clause-equal c = equal_value_keys
