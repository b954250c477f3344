use Rattle.std.proofs.Common.{None, ◌∙◌, rules, sym}
use Rattle.icu_collator_core.proofs.readings.AloneReadLemmas.{not_some}
use Rattle.icu_collator_core.proofs.notes.found_pairs.is_uncounted.Goals as goal

pub returns : goal.returns
returns c = λ none. (c.checked_word.ensures None).digit ∙ sym c.digit.ensures ∙ not_some c.digit.result (search rules)
