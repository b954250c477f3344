use Rattle.std.proofs.Common.{◌≡◌, Some, take}
use Rattle.toml.specs.View.{items_view}
use Rattle.icu_codepointtrie.specs.TomlTables.{values_in}
use Rattle.icu_codepointtrie.proofs.toml_text.read.values_of.Given as goal

abbrev pub invariant-loop-value : goal.invariant-loop-value
invariant-loop-value g l = values_in g.T.TrieValue.of_number (items_view (take l.value-index l.array)) ≡ Some l.values.items
