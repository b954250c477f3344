use Rattle.std.proofs.Common.{◌≡◌, ℕ, ◌≤◌, ◌++◌, List, length, map, take, refl, ap, sym, ◌∙◌, arith}
use Rattle.std.specs.Prelude.{flat_map}
use Rattle.std.proofs.lemmas.List.{length-map, take_all}
use Rattle.icu_normalizer_core.specs.declared.builder.given.GivenClass.{GivenClass}
use Rattle.icu_normalizer_core.specs.declared.builder.given.GivenMapping.{GivenMapping}
use Rattle.icu_normalizer_core.specs.CompatibilityMaps.{BuilderMaps, maps_in}
use Rattle.collate_rules.specs.Accepted.{HasSmallClass}
use Rattle.collate_records.specs.Maps.{AreAllMapsOf, MapsToSome, classes_in, compatibilities_in, compatibility_pair, mappings_in}
use Rattle.collate_lines.specs.declared.rule.Rule.TheVariants.{C3}
use Rattle.collate_lines.specs.Record.{Record, said}
use Rattle.collate_rules.proofs.offenders.LimitLemmas.{given_to}
use Rattle.collate_rules.proofs.lookups.RuleLookupLemmas.{All-map_at}
use Rattle.collate_records.proofs.maps.AnyStepLemmas.{accepted_some}
use Rattle.collate_records.proofs.maps.MapLineLemmas.{all_given}
use Rattle.collate_records.proofs.offenders.ClassLemmas.{All-HasSmallClass}
use Rattle.collate_records.proofs.given_maps.given_maps.Goals as goal

-- what all lines gave is their maps
all_maps : (lines : List Record) (i : ℕ) (maps : BuilderMaps) → length lines ≤ i
    → maps.canonical.classes ≡ flat_map classes_in (take i lines) → maps.canonical.mappings ≡ flat_map mappings_in (take i lines)
    → map compatibility_pair maps.compatibilities ≡ flat_map compatibilities_in (take i lines) → AreAllMapsOf lines (maps_in maps)
all_maps lines i maps whole classes mappings compatibilities = record {
  canonical = all_given lines i maps.canonical whole classes mappings;
  compatibilities = compatibilities ∙ ap (flat_map compatibilities_in) (take_all i lines whole);
}

pub give-requires : goal.give-requires
give-requires c =
    let lines = map said c.args.records.now in
    record {
      classes = All-map_at HasSmallClass said c.args.records.now c.args.records.now c.loop-given.given-index c.given-item.result refl c.loop-given-test.true c.given-item.is
          (All-HasSmallClass lines (c.requires.keep_rules C3));
      mappings = All-map_at MapsToSome said c.args.records.now c.args.records.now c.loop-given.given-index c.given-item.result refl c.loop-given-test.true c.given-item.is
          (accepted_some lines c.requires);
    }

pub loop-given-preserved : goal.loop-given-preserved
loop-given-preserved c =
    let lines = c.args.records.now in
    let i = c.loop-given.given-index in (
      c.give.ensures.limit ∙ c.loop-given.invariant.0,
      c.in_ok-give.ensures.classes ∙ ap (λ (gs : List GivenClass). gs ++ classes_in (said c.given-item.result)) c.loop-given.invariant.1
          ∙ sym (given_to classes_in lines i c.given-item.result c.loop-given-test.true c.given-item.is),
      c.in_ok-give.ensures.mappings ∙ ap (λ (gs : List GivenMapping). gs ++ mappings_in (said c.given-item.result)) c.loop-given.invariant.2
          ∙ sym (given_to mappings_in lines i c.given-item.result c.loop-given-test.true c.given-item.is),
      c.in_ok-give.ensures.compatibilities ∙ ap (λ (ps : List (ℕ × List ℕ)). ps ++ compatibilities_in (said c.given-item.result)) c.loop-given.invariant.3
          ∙ sym (given_to compatibilities_in lines i c.given-item.result c.loop-given-test.true c.given-item.is),
    )

pub returns-clause-maps : goal.returns-clause-maps
returns-clause-maps c =
    let lines = map said c.args.records.now in
    let whole : length lines ≤ c.loop-given.given-index = omega (arith, length-map c.args.records.now said, c.loop-given-test.false) in
    all_maps lines c.loop-given.given-index c.loop-given.maps whole c.loop-given.invariant.1 c.loop-given.invariant.2 c.loop-given.invariant.3
