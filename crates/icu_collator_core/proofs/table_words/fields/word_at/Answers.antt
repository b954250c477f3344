use Rattle.std.proofs.Common.{sym}
use Rattle.icu_collator_core.proofs.checks.CheckedListLemmas.{none_index}
use Rattle.icu_collator_core.proofs.table_words.fields.word_at.Goals as goal

pub returns-in-None : goal.returns-in-None
returns-in-None c = none_index c.args.ce32s.now c.args.index (sym c.in-None.ensures.item)
