use Rattle.icu_collator.proofs.CollatorLawLemmas.{composed_key, decomposed_key}
use Rattle.icu_collator.proofs.laws.collators.normalising_first_changes_no_key.Goals as goal

pub returns-clause-decomposed : goal.returns-clause-decomposed
returns-clause-decomposed c = decomposed_key c.args.collator.now c.keep_promise.ensures.canonical

pub returns-clause-composed : goal.returns-clause-composed
returns-clause-composed c = composed_key c.args.collator.now c.keep_promise.ensures.canonical
