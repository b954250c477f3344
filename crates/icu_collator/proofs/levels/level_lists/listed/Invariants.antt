use Rattle.std.proofs.Common.{◌≡◌, Bool, Option, filter_map, take, true}
use Rattle.std.specs.List.{list_all}
use Rattle.std.specs.Prelude.{IfSome}
use Rattle.icu_collator.specs.declared.levels.counted_elements.CountedElement.{CountedElement}
use Rattle.icu_collator.specs.LevelLists.{counted_list, counted_of}
use Rattle.icu_collator.specs.Shifted.{Counted}
use Rattle.icu_collator.proofs.levels.level_lists.listed.Given as goal

abbrev pub invariant-loop-element : goal.invariant-loop-element
invariant-loop-element g l = record {
  list : (at : Counted → Option _) → ((e : CountedElement) (w : Option _) → goal.F-post g l.given e w → w ≡ at (counted_of e))
      → l.list.items ≡ filter_map at (counted_list l.variable_end (take l.element-index l.elements));
  each : (test : _ → Bool) → ((e : CountedElement) (w : Option _) → goal.F-post g l.given e w → IfSome w (λ weight. test weight ≡ true))
      → list_all test l.list.items ≡ true;
  holds : (holds : Counted → Bool) → ((e : CountedElement) (w : Option _) → goal.F-post g l.given e w → holds (counted_of e) ≡ true)
      → list_all holds (counted_list l.variable_end (take l.element-index l.elements)) ≡ true;
}
