use Rattle.std.proofs.Common.{take}
use Rattle.icu_normalizer_core.specs.FirstClasses.{HasFirstClasses}
use Rattle.icu_normalizer_core.proofs.builder.classes.first_classes.Given as goal

abbrev pub invariant-loop-given : goal.invariant-loop-given
invariant-loop-given l = HasFirstClasses (take l.given-index l.classes) l.firsts
