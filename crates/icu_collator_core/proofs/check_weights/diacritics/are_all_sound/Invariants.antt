use Rattle.std.proofs.Common.{◌≡◌, true, take}
use Rattle.std.specs.List.{list_all}
use Rattle.icu_collator_core.specs.WeightFaults.{is_sound_diacritic}
use Rattle.icu_collator_core.proofs.check_weights.diacritics.are_all_sound.Given as goal

abbrev pub invariant-loop-index : goal.invariant-loop-index
invariant-loop-index l = list_all is_sound_diacritic (take l.index l.secondaries) ≡ true
