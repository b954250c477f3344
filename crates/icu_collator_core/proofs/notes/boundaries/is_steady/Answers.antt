use Rattle.std.proofs.Common.{None, ap, not, sym, ◌∙◌}
use Rattle.icu_collator_core.specs.ReadSources.{weights_by}
use Rattle.icu_collator_core.proofs.readings.AloneReadLemmas.{not_some}
use Rattle.icu_collator_core.proofs.notes.boundaries.is_steady.Goals as goal

pub returns : goal.returns
returns c = λ told.
    let said = c.checked_word-word.ensures None in
    record {
      unprefixed = c.is_unprefixed.ensures c.if-not-is_unprefixed.false (weights_by None c.args.sound.now) c.args.c said;
      uncounted = said.digit ∙ sym c.digit.ensures ∙ not_some c.digit.result (c.is_none.ensures ∙ ap not told);
    }
