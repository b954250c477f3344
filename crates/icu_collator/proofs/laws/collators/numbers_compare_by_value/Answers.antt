use Rattle.icu_collator.proofs.CollatorLawLemmas.{equal_numbers, higher_number, lower_number}
use Rattle.icu_collator.proofs.laws.collators.numbers_compare_by_value.Goals as goal

pub returns-clause-lower : goal.returns-clause-lower
returns-clause-lower c = lower_number c.args.collator.now c.keep_promise.ensures.accepted c.keep_promise.ensures.canonical

pub returns-clause-higher : goal.returns-clause-higher
returns-clause-higher c = higher_number c.args.collator.now c.keep_promise.ensures.accepted c.keep_promise.ensures.canonical

pub returns-clause-equal : goal.returns-clause-equal
returns-clause-equal c = equal_numbers c.args.collator.now c.keep_promise.ensures.accepted c.keep_promise.ensures.canonical
