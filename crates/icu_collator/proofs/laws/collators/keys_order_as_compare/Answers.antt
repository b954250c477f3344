use Rattle.icu_collator.proofs.CollatorLawLemmas.{keys_equal, keys_order, keys_order_bytes}
use Rattle.icu_collator.proofs.laws.collators.keys_order_as_compare.Goals as goal

pub returns-clause-order : goal.returns-clause-order
returns-clause-order c = keys_order c.args.collator.now c.keep_promise.ensures.accepted c.keep_promise.ensures.canonical

pub returns-clause-equal : goal.returns-clause-equal
returns-clause-equal c = keys_equal c.args.collator.now c.keep_promise.ensures.accepted c.keep_promise.ensures.canonical

pub returns-clause-bytes : goal.returns-clause-bytes
returns-clause-bytes c = keys_order_bytes c.args.collator.now c.keep_promise.ensures.accepted c.keep_promise.ensures.canonical
