use Rattle.std.proofs.Common.{◌≡◌, ◌≤◌, Bool, Option, None, length}
use Rattle.std.specs.List.{All}
use Rattle.collate_index.proofs.changes.nothing_known.Given as goal

abbrev pub invariant-characters : goal.invariant-characters
invariant-characters l = record {
  nothing : All (λ (is : Option Bool). is ≡ None) l.known.items;
  room : length l.known.items ≡ l.counter;
  upto : l.counter ≤ 0x110000;
}
