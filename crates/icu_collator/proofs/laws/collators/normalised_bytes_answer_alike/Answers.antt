use Rattle.icu_collator.proofs.CollatorFormLemmas.{composed_bytes_key, composed_bytes_left, composed_bytes_right, decomposed_bytes_key, decomposed_bytes_left, decomposed_bytes_right}
use Rattle.icu_collator.proofs.laws.collators.normalised_bytes_answer_alike.Goals as goal

pub returns-clause-decomposed_left : goal.returns-clause-decomposed_left
returns-clause-decomposed_left c = decomposed_bytes_left c.args.collator.now c.keep_promise.ensures.canonical

pub returns-clause-decomposed_right : goal.returns-clause-decomposed_right
returns-clause-decomposed_right c = decomposed_bytes_right c.args.collator.now c.keep_promise.ensures.canonical

pub returns-clause-decomposed_key : goal.returns-clause-decomposed_key
returns-clause-decomposed_key c = decomposed_bytes_key c.args.collator.now c.keep_promise.ensures.canonical

pub returns-clause-composed_left : goal.returns-clause-composed_left
returns-clause-composed_left c = composed_bytes_left c.args.collator.now c.keep_promise.ensures.canonical

pub returns-clause-composed_right : goal.returns-clause-composed_right
returns-clause-composed_right c = composed_bytes_right c.args.collator.now c.keep_promise.ensures.canonical

pub returns-clause-composed_key : goal.returns-clause-composed_key
returns-clause-composed_key c = composed_bytes_key c.args.collator.now c.keep_promise.ensures.canonical
