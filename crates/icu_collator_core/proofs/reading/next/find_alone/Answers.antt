use Rattle.std.proofs.Common.{◌∙◌, sym}
use Rattle.std.proofs.lemmas.Bool.{ne_eqb}
use Rattle.icu_collator_core.specs.ReadSources.{weights_by}
use Rattle.icu_collator_core.proofs.readings.AloneReadLemmas.{not_some}
use Rattle.icu_collator_core.proofs.reading.next.find_alone.Goals as goal

pub returns : goal.returns
returns c =
    record {
      ordinary = sym c.special_primary.ensures ∙ not_some c.special_primary.result (sym c.is_some.ensures ∙ c.if-is_some.false);
      undotted = ne_eqb c.args.c 0x307 c.if-c-eq775.false;
      alone = λ numeric. c.in_ok-element.ensures (weights_by numeric c.args.sound.now) (c.checked_word.ensures numeric);
    }
