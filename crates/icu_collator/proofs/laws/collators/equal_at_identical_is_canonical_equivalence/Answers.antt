use Rattle.icu_collator.proofs.CollatorLawLemmas.{equivalent_alike, equivalent_keys, identical_alike, identical_bytes, identical_keys}
use Rattle.icu_collator.proofs.laws.collators.equal_at_identical_is_canonical_equivalence.Goals as goal

pub returns-clause-equal : goal.returns-clause-equal
returns-clause-equal c = equivalent_alike c.args.collator.now c.keep_promise.ensures.canonical

pub returns-clause-one_key : goal.returns-clause-one_key
returns-clause-one_key c = equivalent_keys c.args.collator.now c.keep_promise.ensures.canonical

pub returns-clause-identical : goal.returns-clause-identical
returns-clause-identical c = identical_alike c.args.collator.now c.keep_promise.ensures.canonical

pub returns-clause-bytes : goal.returns-clause-bytes
returns-clause-bytes c = identical_bytes c.args.collator.now c.keep_promise.ensures.canonical

pub returns-clause-keys : goal.returns-clause-keys
returns-clause-keys c = identical_keys c.args.collator.now c.keep_promise.ensures.accepted c.keep_promise.ensures.canonical
