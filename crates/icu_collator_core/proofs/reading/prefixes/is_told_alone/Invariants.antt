use Rattle.std.proofs.Common.{ℕ, Option, ◌<◌, get_or}
use Rattle.icu_collator_core.specs.AlikeLists.{IsToldAt}
use Rattle.icu_collator_core.specs.ReadSources.{weights_by}
use Rattle.icu_collator_core.proofs.reading.prefixes.is_told_alone.Given as goal

abbrev pub invariant-loop-index : goal.invariant-loop-index
invariant-loop-index l = (numeric : Option ℕ) (k : ℕ) → k < l.index → IsToldAt (weights_by numeric l.sound) l.list k (get_or l.list k 0)
