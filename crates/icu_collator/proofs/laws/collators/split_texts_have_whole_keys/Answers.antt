use Rattle.icu_collator.proofs.CollatorFormLemmas.{split_composed, split_composed_bytes, split_composed_units, split_decomposed, split_decomposed_bytes, split_decomposed_units}
use Rattle.icu_collator.proofs.laws.collators.split_texts_have_whole_keys.Goals as goal

pub returns-clause-decomposed : goal.returns-clause-decomposed
returns-clause-decomposed c = split_decomposed c.args.collator.now c.keep_promise.ensures.canonical

pub returns-clause-composed : goal.returns-clause-composed
returns-clause-composed c = split_composed c.args.collator.now c.keep_promise.ensures.canonical

pub returns-clause-decomposed_utf8 : goal.returns-clause-decomposed_utf8
returns-clause-decomposed_utf8 c = split_decomposed_bytes c.args.collator.now c.keep_promise.ensures.canonical

pub returns-clause-composed_utf8 : goal.returns-clause-composed_utf8
returns-clause-composed_utf8 c = split_composed_bytes c.args.collator.now c.keep_promise.ensures.canonical

pub returns-clause-decomposed_utf16 : goal.returns-clause-decomposed_utf16
returns-clause-decomposed_utf16 c = split_decomposed_units c.args.collator.now c.keep_promise.ensures.canonical

pub returns-clause-composed_utf16 : goal.returns-clause-composed_utf16
returns-clause-composed_utf16 c = split_composed_units c.args.collator.now c.keep_promise.ensures.canonical
