use Rattle.std.proofs.Common.{rules}
use Rattle.icu_collator_core.proofs.readings.FlatNoteLemmas.{boundary_noted}
use Rattle.icu_collator_core.proofs.notes.boundaries.boundary_element.Goals as goal

pub returns : goal.returns
returns c =
    boundary_noted c.args.sound.now c.args.c c.in_ok-element.element (search rules) (search rules) (search rules) c.in_ok-element.ensures
