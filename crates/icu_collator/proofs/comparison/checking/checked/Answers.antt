use Rattle.icu_collator.proofs.MakingLemmas.{tables_checked}
use Rattle.icu_collator.proofs.comparison.checking.checked.Goals as goal

pub returns-in-Ok : goal.returns-in-Ok
returns-in-Ok c = tables_checked c.args.source c.in-Ok.canonical c.checked_tables.result c.in-Ok.ensures c.checked_tables.ensures
