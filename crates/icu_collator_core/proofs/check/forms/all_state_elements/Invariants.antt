use Rattle.std.proofs.Common.{◌≡◌, ◌+◌, ◌-◌}
use Rattle.std.specs.List.{list_all}
use Rattle.icu_normalizer_core.specs.CanonicalWords.{items_at}
use Rattle.icu_collator_core.specs.WordForms.{states_element}
use Rattle.icu_collator_core.proofs.check.forms.all_state_elements.Given as goal

abbrev pub invariant-loop-i : goal.invariant-loop-i
invariant-loop-i l =
    list_all states_element (items_at l.ce32s l.index l.count)
    ≡ list_all states_element (items_at l.ce32s l.i (l.index + l.count - l.i))
