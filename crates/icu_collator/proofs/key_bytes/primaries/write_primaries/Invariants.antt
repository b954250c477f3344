use Rattle.std.proofs.Common.{◌≡◌, ◌≤◌, ◌-◌, ◌++◌, drop, length}
use Rattle.icu_collator.specs.Collators.{source_collation}
use Rattle.icu_collator.specs.KeyBytes.{codes_from, primary_code, primary_level, primary_run, was_compressible}
use Rattle.icu_collator.specs.KeyCodes.{IsRun}
use Rattle.icu_collator.specs.LevelLists.{counted_list, primaries_by}
use Rattle.icu_collator.proofs.key_bytes.primaries.write_primaries.Given as goal

abbrev pub invariant-elements : goal.invariant-elements
invariant-elements l = record {
  within : l.index ≤ length l.elements;
  run : IsRun (was_compressible (source_collation l.checked)) l.run;
  level : l.key.items ++ codes_from primary_code (primary_run (was_compressible (source_collation l.checked))) l.run
      (primaries_by (source_collation l.checked) (counted_list l.variable_end (drop l.index l.elements)))
      ≡ l.initial.key.items ++ primary_level (source_collation l.checked) (primaries_by (source_collation l.checked) (counted_list l.variable_end l.elements));
}

abbrev pub decreases-elements : goal.decreases-elements
decreases-elements l = length l.elements - l.index
