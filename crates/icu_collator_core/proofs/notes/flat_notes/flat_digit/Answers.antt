use Rattle.std.proofs.Common.{rules, sym, ◌∙◌, None}
use Rattle.icu_collator_core.specs.ReadSources.{weights_by}
use Rattle.icu_collator_core.proofs.readings.FlatNoteLemmas.{digit_flat}
use Rattle.icu_collator_core.proofs.notes.flat_notes.flat_digit.Goals as goal

pub returns : goal.returns
returns c =
    digit_flat c.args.sound.now c.args.c c.in_ok-element.element (search rules) (sym c.is_kept_apart.ensures ∙ c.if-is_kept_apart.false)
    (c.in_ok-element.ensures (weights_by None c.args.sound.now) c.args.c (c.checked_word.ensures None))
