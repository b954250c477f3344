use Rattle.std.proofs.Common.{◌≡◌, take, map}
use Rattle.std.specs.Prelude.{flat_map}
use Rattle.collate_records.specs.Maps.{classes_in, compatibilities_in, compatibility_pair, mappings_in}
use Rattle.collate_lines.specs.Record.{said}
use Rattle.collate_records.proofs.given_maps.given_maps.Given as goal

abbrev pub invariant-loop-given : goal.invariant-loop-given
invariant-loop-given l =
    (l.maps.limit ≡ l.limit)
    × (l.maps.canonical.classes ≡ flat_map classes_in (take l.given-index (map said l.records)))
    × (l.maps.canonical.mappings ≡ flat_map mappings_in (take l.given-index (map said l.records)))
    × (map compatibility_pair l.maps.compatibilities ≡ flat_map compatibilities_in (take l.given-index (map said l.records)))
