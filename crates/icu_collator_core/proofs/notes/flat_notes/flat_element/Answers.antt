use Rattle.std.proofs.Common.{rules, sym, ◌∙◌}
use Rattle.icu_collator_core.specs.ReadSources.{weights_by}
use Rattle.icu_collator_core.proofs.readings.FlatNoteLemmas.{alone_flat}
use Rattle.icu_collator_core.proofs.notes.flat_notes.flat_element.Goals as goal

pub returns : goal.returns
returns c =
    alone_flat c.args.sound.now c.args.c c.in_ok-element.element (search rules) (sym c.is_kept_apart.ensures ∙ c.if-is_kept_apart.false)
    (λ numeric. c.in_ok-element.ensures (weights_by numeric c.args.sound.now) (c.checked_word.ensures numeric))
