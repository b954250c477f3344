use Rattle.collate_index.proofs.reloading.KnownLemmas.{none_known}
use Rattle.collate_index.proofs.changes.Changes.new.Goals as goal

pub invariant_of-result : goal.invariant_of-result
invariant_of-result c = record {
  known = none_known c.in_ok-differences.differences c.in_ok-known.known.items c.in_ok-known.ensures.nothing;
  room = c.in_ok-known.ensures.room;
}
