use Rattle.std.proofs.Common.{map, subst, arith, ⊎_elim}
use Rattle.icu_normalizer_core.specs.CanonicalMaps.{AreMeaning, CanonicalMaps}
use Rattle.icu_normalizer_core.specs.CompatibilityMaps.{maps_in}
use Rattle.icu_normalizer_core.specs.CanonicalMeaning.{meaning}
use Rattle.collate_lines.specs.Record.{said}
use Rattle.collate_records.proofs.maps.BuildErrorLemmas.{not_both}
use Rattle.collate_records.proofs.maps.AllMapLemmas.{keep_all}
use Rattle.collate_records.proofs.canonical_data.canonical_tables.Goals as goal

pub returns-in-Ok-clause-means : goal.returns-in-Ok-clause-means
returns-in-Ok-clause-means c =
    subst (λ (maps : CanonicalMaps). AreMeaning maps (meaning c.in-Ok.tables)) c.in_ok-maps.ensures.maps.canonical c.in-Ok.ensures.means

pub unreachable-requires : goal.unreachable-requires
unreachable-requires c =
    let are = c.in_ok-maps.ensures.maps in
    ⊎_elim (λ memory. not_both c.in-Err-Rules.field-0 c.in-Err-Rules.field-0-is memory)
    (λ w. w.1 (keep_all (map said c.args.records.now) (maps_in c.in_ok-maps.maps) c.requires.accepted are c.in_ok-maps.maps.limit (omega (arith, c.requires.few, c.in_ok-maps.ensures.limit))).0) c.in-Err-Rules.ensures.refused
