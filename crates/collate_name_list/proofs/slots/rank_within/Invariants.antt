use Rattle.std.proofs.Common.{◌-◌, ◌≤◌}
use Rattle.collate_lists.proofs.NameSearchLemmas.{IsNarrowed}
use Rattle.collate_lists.specs.Windows.{shows}
use Rattle.collate_name_list.specs.Slots.{compared, slots_of}
use Rattle.collate_name_list.proofs.slots.rank_within.Given as goal

abbrev pub invariant-halves : goal.invariant-halves
invariant-halves l = record {
  narrowed : IsNarrowed (compared l.slots l.sought) l.past_equal (slots_of l.ranked) l.initial.count l.low l.high l.count;
  from : l.start ≤ l.low;
  grown : l.initial.count ≤ l.count;
  shown : shows l.ranked l.window.start l.window.slots.now;
}

abbrev pub decreases-halves : goal.decreases-halves
decreases-halves l = l.high - l.low
