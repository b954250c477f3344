use Rattle.std.proofs.Common.{map, subst, arith, ⊎_elim}
use Rattle.icu_normalizer_core.specs.CanonicalMaps.{CanonicalMaps}
use Rattle.icu_normalizer_core.specs.CompatibilityMaps.{AreAcceptedOver, maps_in}
use Rattle.icu_normalizer_core.specs.CompatibilityMeaning.{nfkd_lists}
use Rattle.collate_lines.specs.Record.{said}
use Rattle.collate_records.proofs.maps.BuildErrorLemmas.{not_both}
use Rattle.collate_records.proofs.maps.AllMapLemmas.{keep_all, words_of_maps}
use Rattle.collate_records.proofs.compatibility_data.compatibility_data.Goals as goal

pub returns-in-Ok-clause-means : goal.returns-in-Ok-clause-means
returns-in-Ok-clause-means c =
    words_of_maps (map said c.args.records.now) (maps_in c.in_ok-maps.maps) c.requires.accepted c.in_ok-maps.ensures.maps (nfkd_lists c.in-Ok.tables) c.in-Ok.ensures.means

pub returns-in-Ok-clause-accepted : goal.returns-in-Ok-clause-accepted
returns-in-Ok-clause-accepted c =
    subst (λ (maps : CanonicalMaps). AreAcceptedOver maps (nfkd_lists c.in-Ok.tables)) c.in_ok-maps.ensures.maps.canonical c.in-Ok.ensures.accepted

pub unreachable-requires : goal.unreachable-requires
unreachable-requires c =
    let are = c.in_ok-maps.ensures.maps in
    ⊎_elim (λ memory. not_both c.in-Err-Rules.field-0 c.in-Err-Rules.field-0-is memory)
    (λ w. w.1 (keep_all (map said c.args.records.now) (maps_in c.in_ok-maps.maps) c.requires.accepted are c.in_ok-maps.maps.limit (omega (arith, c.requires.few, c.in_ok-maps.ensures.limit)))) c.in-Err-Rules.ensures.refused
