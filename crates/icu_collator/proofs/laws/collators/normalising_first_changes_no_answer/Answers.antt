use Rattle.icu_collator.proofs.CollatorLawLemmas.{composed_left, composed_right, decomposed_left, decomposed_right}
use Rattle.icu_collator.proofs.laws.collators.normalising_first_changes_no_answer.Goals as goal

pub returns-clause-decomposed_left : goal.returns-clause-decomposed_left
returns-clause-decomposed_left c = decomposed_left c.args.collator.now c.keep_promise.ensures.canonical

pub returns-clause-decomposed_right : goal.returns-clause-decomposed_right
returns-clause-decomposed_right c = decomposed_right c.args.collator.now c.keep_promise.ensures.canonical

pub returns-clause-composed_left : goal.returns-clause-composed_left
returns-clause-composed_left c = composed_left c.args.collator.now c.keep_promise.ensures.canonical

pub returns-clause-composed_right : goal.returns-clause-composed_right
returns-clause-composed_right c = composed_right c.args.collator.now c.keep_promise.ensures.canonical
