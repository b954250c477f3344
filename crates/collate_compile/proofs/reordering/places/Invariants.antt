use Rattle.std.proofs.Common.{◌≡◌, ℕ, ◌<◌, get_or, length}
use Rattle.collate_rules.specs.Meaning.{place_among}
use Rattle.collate_compile.proofs.reordering.places.Given as goal

abbrev pub invariant-loop-lead : goal.invariant-loop-lead
invariant-loop-lead l = record {
  count : length l.bytes.items ≡ l.lead;
  places : (k : ℕ) → k < l.lead → get_or l.bytes.items k 0 ≡ place_among l.pairs k;
}
