use Rattle.icu_normalizer_core.specs.BorrowedMeaning.{borrowed_meaning}
use Rattle.icu_collator_core.proofs.lookups.MarksLeftLemmas.{class_none}
use Rattle.icu_collator_core.proofs.reading.mark_runs.class_end.Goals as goal

pub loop-i-init : goal.loop-i-init
loop-i-init c = class_none (borrowed_meaning c.args.canonical).class c.args.class c.args.index c.args.list.now c.requires.inside
