use Rattle.icu_collator.proofs.CollatorLawLemmas.{equal_number_keys, lower_number_key}
use Rattle.icu_collator.proofs.laws.collators.number_keys_order_by_value.Goals as goal

pub returns-clause-lower : goal.returns-clause-lower
returns-clause-lower c = lower_number_key c.args.collator.now c.keep_promise.ensures.accepted c.keep_promise.ensures.canonical

pub returns-clause-equal : goal.returns-clause-equal
returns-clause-equal c = equal_number_keys c.args.collator.now c.keep_promise.ensures.accepted c.keep_promise.ensures.canonical
