use Rattle.std.proofs.Common.{◌≡◌, map, take}
use Rattle.serde_json.specs.View.{view}
use Rattle.icu_collections_sets.specs.Json.{SpellSet}
use Rattle.icu_collections_sets.proofs.texts.JsonLemmas.{least_behind}
use Rattle.icu_collections_sets.proofs.json.code_point_list.read_edges.Given as goal

abbrev pub invariant-loop-index : goal.invariant-loop-index
invariant-loop-index l = record {
  spells : SpellSet (take l.index (map view l.items)) l.edges.items;
  least : l.least ≡ least_behind 0 l.edges.items;
}
