use Rattle.std.proofs.Common.{◌≡◌, ◌-◌, ◌≤◌, ◌++◌, true}
use Rattle.std.specs.Option.{is_some}
use lib.Utf8.{scalars}
use Rattle.smallvec.specs.SmallVec.{small_vec_len}
use Rattle.icu_collator_core.specs.ElementLists.{unpacked}
use Rattle.icu_collator_core.specs.Elements.{elements_of_list}
use Rattle.icu_collator_core.specs.ReadSources.{canonical_by, weights_by}
use Rattle.icu_collator_core.specs.ReadSteps.{elements_from}
use Rattle.icu_collator_core.proofs.reading.lists.push_all.Given as goal

abbrev pub invariant-reading : goal.invariant-reading
invariant-reading l =
    record {
      within : l.index ≤ small_vec_len l.list;
      characters : scalars l.list.items ≡ true;
      whole : unpacked l.elements.items ++ elements_from (canonical_by l.sound) (weights_by l.numeric l.sound) (is_some l.numeric) l.list.items l.index
          ≡ elements_of_list (canonical_by l.sound) (weights_by l.numeric l.sound) (is_some l.numeric) l.fn.list.items;
    }

abbrev pub decreases-reading : goal.decreases-reading
decreases-reading l = small_vec_len l.list - l.index
