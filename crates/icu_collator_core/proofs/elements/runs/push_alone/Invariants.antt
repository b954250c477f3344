use Rattle.std.proofs.Common.{ℕ, Option}
use Rattle.std.specs.Option.{is_some}
use Rattle.icu_collator_core.specs.ElementLists.{unpacked}
use Rattle.icu_collator_core.specs.ReadSources.{canonical_by, weights_by}
use Rattle.icu_collator_core.specs.ReadSteps.{IsRead}
use Rattle.icu_collator_core.proofs.elements.runs.push_alone.Given as goal

abbrev pub invariant-loop-i : goal.invariant-loop-i
invariant-loop-i l =
    (numeric : Option ℕ) → IsRead (canonical_by l.checked) (weights_by numeric l.checked) (is_some numeric) l.list l.index (unpacked l.initial.elements.items) l.list l.i (unpacked l.elements.items)
