use Rattle.icu_collator_core.proofs.checked.CheckedTables.push_boundary.Goals as goal

pub returns : goal.returns
returns g c = c.in_ok-trail.ensures c.args.self.now c.args.c c.requires
