use Rattle.std.proofs.Common.{◌≡◌, ◌++◌, drop, take}
use Rattle.icu_collator_types.specs.declared.options.ResolvedCollatorOptions.{ResolvedCollatorOptions}
use Rattle.icu_collator_core.specs.Collation.{Collation}
use Rattle.icu_collator_core.specs.ElementLists.{unpacked}
use Rattle.icu_collator.specs.LevelLists.{counted_list, variable_end_of}
use Rattle.icu_collator.specs.Shifted.{counted, counted_behind}
use Rattle.icu_collator.proofs.levels.counted_elements.do_all_count.Given as goal

abbrev pub invariant-loop-element : goal.invariant-loop-element
invariant-loop-element l =
    (collation : Collation) (options : ResolvedCollatorOptions) → l.variable_end ≡ variable_end_of collation options
    → counted_list l.variable_end (take l.element-index l.elements) ++ counted_behind collation options l.is_behind (unpacked (drop l.element-index l.elements))
    ≡ counted collation options (unpacked l.elements)
