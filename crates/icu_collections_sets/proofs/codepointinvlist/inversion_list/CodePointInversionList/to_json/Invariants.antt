use Rattle.std.proofs.Common.{◌≡◌, ◌++◌, map}
use Rattle.serde_json.specs.Data.{string}
use Rattle.serde_json.specs.View.{view}
use Rattle.icu_collections_sets.specs.CodePoints.{ranges_of}
use Rattle.icu_collections_sets.specs.Spelling.{range_text}
use Rattle.icu_collections_sets.proofs.texts.JsonLemmas.{AreRanges}
use Rattle.icu_collections_sets.proofs.codepointinvlist.inversion_list.CodePointInversionList.to_json.Given as goal

abbrev pub invariant-loop-range : goal.invariant-loop-range
invariant-loop-range l = record {
  written : map view l.items.items ++ map (λ range. string (range_text range)) l.range-iterator ≡ map (λ range. string (range_text range)) (ranges_of l.self);
  ranges : AreRanges l.range-iterator;
}
