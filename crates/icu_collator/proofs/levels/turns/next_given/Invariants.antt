use Rattle.std.proofs.Common.{◌≡◌, ℕ, Option, drop, filter_map}
use Rattle.icu_collator.specs.LevelLists.{counted_list, counted_of}
use Rattle.icu_collator.specs.Shifted.{Counted}
use Rattle.icu_collator.specs.declared.levels.counted_elements.CountedElement.{CountedElement}
use Rattle.icu_collator.proofs.levels.turns.next_given.Given as goal

abbrev pub invariant-loop-index : goal.invariant-loop-index
invariant-loop-index g l =
    (at : Counted → Option ℕ) → ((e : CountedElement) (w : Option ℕ) → goal.F-post g l.given e w → w ≡ at (counted_of e))
    → filter_map at (counted_list l.variable_end (drop l.from l.elements)) ≡ filter_map at (counted_list l.variable_end (drop l.index l.elements))
