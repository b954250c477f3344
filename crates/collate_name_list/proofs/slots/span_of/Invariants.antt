use Rattle.std.proofs.Common.{◌≡◌, ◌-◌, ◌<◌, ◌≤◌, false, true, length}
use Rattle.std.specs.List.{AllWithin}
use Rattle.collate_lists.specs.Search.{stands_before}
use Rattle.collate_lists.proofs.NameSearchLemmas.{IsNarrowed}
use Rattle.collate_lists.specs.Windows.{shows}
use Rattle.collate_name_list.specs.Slots.{compared, slots_of}
use Rattle.collate_name_list.proofs.slots.span_of.Given as goal

abbrev pub invariant-halves : goal.invariant-halves
invariant-halves l = record {
  narrowed : IsNarrowed (compared l.slots l.sought) false (slots_of l.ranked) l.initial.count l.span.low l.high l.count;
  above : AllWithin (λ slot. stands_before true (compared l.slots l.sought slot) ≡ false) (slots_of l.ranked) l.span.high (length (slots_of l.ranked));
  upto : l.high ≤ l.span.high;
  bound : l.span.high ≤ length (slots_of l.ranked);
  begun : l.high - l.span.low < length (slots_of l.ranked) → 0 < l.count;
  grown : l.initial.count ≤ l.count;
  shown : shows l.ranked l.window.start l.window.slots.now;
}

abbrev pub decreases-halves : goal.decreases-halves
decreases-halves l = l.high - l.span.low
