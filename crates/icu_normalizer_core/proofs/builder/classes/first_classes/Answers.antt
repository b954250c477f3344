use Rattle.std.proofs.Common.{refl}
use Rattle.icu_normalizer_core.proofs.building.FirstClassLemmas.{class_noted}
use Rattle.icu_normalizer_core.proofs.builder.classes.first_classes.Goals as goal

pub loop-given-preserved : goal.loop-given-preserved
loop-given-preserved c =
    class_noted c.args.classes.now c.loop-given.given-index _ _ c.loop-given.firsts c.note_class.new.firsts c.loop-given-test.true refl c.loop-given.invariant
    c.in_ok-note_class.ensures
