use Rattle.std.proofs.Common.{◌≡◌, ◌++◌}
use Rattle.icu_collator_core.specs.ReadSources.{canonical_by}
use Rattle.icu_collator_core.proofs.readings.FlatPartLemmas.{ArePushed}
use Rattle.icu_collator_core.proofs.checked.CheckedTables.push_listed.Given as goal

abbrev pub invariant-loop-part : goal.invariant-loop-part
invariant-loop-part g l =
    record {
      pushed : ArePushed l.self l.numeric l.before l.fn.elements.items l.yielded l.last l.elements.items;
      left : l.yielded ++ l.part-iterator ≡ (canonical_by l.self).full l.fn.c;
    }
