use Rattle.icu_collator_core.proofs.checked.CheckedTables.boundary_element.Goals as goal

pub returns-clause-plain : goal.returns-clause-plain
returns-clause-plain c = (c.in_ok-element.ensures c.args.self.now c.args.c c.in_ok-note.ensures).plain

pub returns-clause-unaccented : goal.returns-clause-unaccented
returns-clause-unaccented c = (c.in_ok-element.ensures c.args.self.now c.args.c c.in_ok-note.ensures).unaccented

pub returns-clause-flat : goal.returns-clause-flat
returns-clause-flat c = (c.in_ok-element.ensures c.args.self.now c.args.c c.in_ok-note.ensures).flat
