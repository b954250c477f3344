use Rattle.icu_collator_core.specs.ReadWords.{table_word}
use Rattle.icu_collator_core.proofs.lookups.MarksLeftLemmas.{none_taken}
use Rattle.icu_collator_core.proofs.reading.mark_runs.joined_word.Goals as goal

pub returns-in-None-clause-left : goal.returns-in-None-clause-left
returns-in-None-clause-left c = none_taken (table_word c.args.entry) c.args.classes.now c.in-None.ensures
