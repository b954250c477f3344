-- What records keep beside the lines of their file.
use Rattle.std.specs.Prelude.{◌≡◌, ◌≤◌, map}
use Rattle.icu_normalizer_core.specs.CanonicalFaults.{IsAccepted}
use Rattle.icu_normalizer_core.specs.CanonicalMaps.{AreMeaning}
use Rattle.icu_normalizer_core.specs.CanonicalMeaning.{lists_of, meaning}
use Rattle.collate_rules.specs.Accepted.{AreAccepted}
use Rattle.collate_rules.specs.Rules.{names_in}
use Rattle.collate_records.specs.Maps.{maps_of}
use Rattle.collate_lines.specs.Record.{said}
use Rattle.collate_records.specs.declared.records.Records.TheInside.{Inside}

-- The lines are those of an accepted file, which name no more code points than the limits let them; the canonical tables are made of them and pass every check, and the canonical data
-- are of these tables.
pub record IsKept (s : Inside) : Type 0 where
  pub accepted : AreAccepted (map said s.records.items)
  pub few : names_in (map said s.records.items) ≤ s.limits.code_points
  pub means : AreMeaning (maps_of (map said s.records.items)) (meaning s.tables)
  pub checked : IsAccepted (lists_of s.tables)
  pub canonical : s.canonical ≡ s.tables
