use Rattle.std.proofs.Common.{length, ◌-◌, ◌≡◌, ◌≤◌, ◌++◌, take, true}
use Rattle.std.specs.Prelude.{All, cond, flat_map}
use Rattle.icu_collator.specs.PlainPrimaries.{GivesPlain, between, own_bytes}
use Rattle.icu_collator.proofs.key_bytes.buffer.KeyBytes.put_short_primaries.Given as goal

abbrev pub invariant-elements : goal.invariant-elements
invariant-elements l = record {
  onward : l.from ≤ l.index;
  within : l.index ≤ length l.elements;
  array : length l.self-inside.array ≡ 512;
  room : l.length ≤ 512;
  full : l.self-inside.is_long ≡ true → l.length ≡ 512;
  plain : All (GivesPlain l.lead l.variable_end) (between l.from l.index l.elements);
  put : cond l.self-inside.is_long l.self-inside.list.items (take l.length l.self-inside.array)
      ≡ l.fn.self.items ++ flat_map (own_bytes l.left_out) (between l.from l.index l.elements);
}

abbrev pub decreases-elements : goal.decreases-elements
decreases-elements l = length l.elements - l.index
