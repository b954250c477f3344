-- Tables that were written of accepted lines are compiled of them.
use Rattle.std.specs.Prelude.{List}
use Rattle.icu_normalizer_core.specs.CanonicalFaults.{IsAccepted as IsAcceptedCanonical}
use Rattle.icu_normalizer_core.specs.CanonicalMaps.{AreMeaning}
use Rattle.icu_normalizer_core.specs.CanonicalMeaning.{lists_of, meaning}
use Rattle.icu_normalizer_core.specs.CompatibilityMaps.{AreAcceptedOver}
use Rattle.icu_normalizer_core.specs.CompatibilityMeaning.{nfkd_lists}
use Rattle.collate_lines.specs.Record.{Record}
use Rattle.collate_compile.specs.Provided.{Provided}
use Rattle.collate_rules.specs.Accepted.{AreAccepted}
use Rattle.collate_compile.specs.Compiled.{AreCompiledFrom}
use Rattle.collate_compile.proofs.laws.AcceptedLemmas.{compiled_accepted}
use Rattle.collate_records.proofs.reading.ReadingSoundSettingLemmas.{accepted_soundly_set}
use Rattle.collate_compile.proofs.laws.CompiledSettingLemmas.{whole_leads}
use Rattle.collate_compile.proofs.laws.CompiledSamenessLemmas.{same_settings, same_weights}
use Rattle.collate_records.specs.CompiledOf.{IsCompiledOf}
use Rattle.collate_records.specs.Maps.{AreWordsOf, maps_of}
use Rattle.collate_records.proofs.maps.AcceptedAllMapsLemmas.{accepted_same}
use Rattle.collate_records.proofs.reading.ReadingSoundWeightLemmas.{accepted_weights}

pub compiled_of : (records : List Record) (provided : Provided) → AreAccepted records
    → IsAcceptedCanonical (lists_of provided.canonical) → AreMeaning (maps_of records) (meaning provided.canonical)
    → AreWordsOf records (nfkd_lists provided.compatibility) → AreAcceptedOver (maps_of records) (nfkd_lists provided.compatibility)
    → AreCompiledFrom records provided.collation → IsCompiledOf records provided
compiled_of records provided accepted checked means words over compiled =
    let canonical = meaning provided.canonical in
    let sound = accepted_weights records accepted in
    let soundly = accepted_soundly_set records accepted in
    let same = accepted_same records canonical accepted means in
    record {
      canonical = record { accepted = checked; meant = means };
      compatibility = record { accepted = over (lists_of provided.canonical) checked means; meant = words };
      collation = record {
        accepted = compiled_accepted records canonical provided.collation accepted sound soundly same compiled;
        weights = same_weights records canonical provided.collation accepted sound compiled;
        settings = same_settings records canonical provided.collation compiled;
        leads = whole_leads records soundly provided.collation compiled;
        tailored = compiled.tailored;
        reordering = compiled.is_reordering;
      };
    }
