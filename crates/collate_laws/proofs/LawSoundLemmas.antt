-- Accepted lines give data that keep the rules of the laws of keys.
use Rattle.std.proofs.Common.{◌≡◌, ℕ, List, [], refl, sym, ap, ◌∙◌}
use Rattle.icu_collator_core.specs.Collation.{reordered_lead}
use Rattle.icu_collator_core.specs.WeightRules.{is_letter_lead}
use Rattle.icu_collator_core.proofs.weights.ReorderingLemmas.{given_lead, given_rest}
use Rattle.icu_collator.specs.Settings.{AreSoundSettings}
use Rattle.icu_collator.specs.SoundCollation.{IsSoundCollation}
use Rattle.collate_lines.specs.Record.{Record}
use Rattle.collate_records.proofs.reading.ReadingSoundSettingLemmas.{accepted_soundly_set}
use Rattle.collate_records.proofs.reading.ReadingSoundWeightLemmas.{accepted_weights}
use Rattle.collate_rules.specs.Accepted.{AreAccepted}
use Rattle.collate_rules.specs.Meaning.{collation_of, place_among, reorder_in, set_to}

-- the lead that takes the place of another
places : List Record → ℕ → ℕ
places records = place_among (set_to reorder_in [] records)

pub accepted_settings : (records : List Record) → AreAccepted records → AreSoundSettings (collation_of records)
unfolding places
accepted_settings records accepted =
    let set = accepted_soundly_set records accepted in
    let lead : (n : ℕ) → reordered_lead (collation_of records) n ≡ places records n = given_lead (collation_of records) (places records) (λ p. refl) in
    record {
      numeric_lead = set.numeric_lead;
      groups = set.groups;
      compressible = set.compressible;
      rest = given_rest (collation_of records) (places records) (λ p. refl);
      outside = λ n h. lead n ∙ set.leads.outside n h;
      inside = λ n h. ap is_letter_lead (lead n) ∙ set.leads.inside n h;
      one_to_one = λ a b h. set.leads.one_to_one a b (sym (lead a) ∙ h ∙ lead b);
    }

pub accepted_sound : (records : List Record) → AreAccepted records → IsSoundCollation (collation_of records)
accepted_sound records accepted = record { weights = accepted_weights records accepted; settings = accepted_settings records accepted }
