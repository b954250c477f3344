use Rattle.icu_collator_core.proofs.checked.CheckedTables.push_letter.Goals as goal

pub returns-clause-pushed : goal.returns-clause-pushed
returns-clause-pushed g c = c.in_ok-class.ensures c.args.self.now c.args.c c.in_ok-note.ensures
