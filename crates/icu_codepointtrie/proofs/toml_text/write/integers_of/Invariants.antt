use Rattle.std.proofs.Common.{◌≡◌, Some, take}
use Rattle.toml.specs.View.{items_view}
use Rattle.icu_codepointtrie.specs.TomlTables.{values_in, integers_of}
use Rattle.icu_codepointtrie.proofs.toml_text.write.integers_of.Given as goal

abbrev pub invariant-loop-slot : goal.invariant-loop-slot
invariant-loop-slot g l = record {
  integers : items_view l.array.items ≡ integers_of g.T.TrieValue.number (take l.slot l.values);
  reads_back : values_in g.T.TrieValue.of_number (items_view l.array.items) ≡ Some (take l.slot l.values);
}
