use Rattle.std.proofs.Common.{sym, ◌∙◌}
use Rattle.icu_collator_core.proofs.readings.FlatNoteLemmas.{boundary_told}
use Rattle.icu_collator_core.proofs.notes.boundaries.is_boundary.Goals as goal

pub returns : goal.returns
returns c = λ safe.
    boundary_told c.args.sound.now c.args.c c.is_unsafe_itself.result c.is_unsafe_itself.ensures safe (sym c.is_accent.ensures ∙ c.if-is_accent.false)
