-- What lines set, where none of them offends against the rule on settings.
use Rattle.std.specs.Prelude.{◌≡◌, ℕ, Bool, true, false, ◌==◌, ◌||◌, List}
use Rattle.icu_collator_core.specs.SettingRules.{are_sound_groups}
use Rattle.icu_collator_core.specs.WeightRules.{is_letter_lead}
use Rattle.collate_lines.specs.Record.{Record}
use Rattle.collate_rules.specs.Meaning.{is_compressible_in, place_among}
use Rattle.collate_rules.specs.SettingLines.{groups_of, numeric_of, reorder_of}

-- leads of letters change places, each with one as compressible as itself
pub record ExchangesLeads (is_compressible : ℕ → Bool) (place : ℕ → ℕ) : Type 0 where
  pub outside : (lead : ℕ) → is_letter_lead lead ≡ false → place lead ≡ lead
  pub inside : (lead : ℕ) → is_letter_lead lead ≡ true → is_letter_lead (place lead) ≡ true
  pub one_to_one : (a b : ℕ) → place a ≡ place b → a ≡ b
  pub alike : (lead : ℕ) → is_compressible (place lead) ≡ is_compressible lead

-- what lines set is sound
pub record AreSoundlySet (records : List Record) : Type 0 where
  pub numeric_lead : is_letter_lead (numeric_of records) ≡ true
  pub groups : are_sound_groups (numeric_of records) (groups_of records) ≡ true
  -- the implicit lead is always compressible
  pub implicit : is_compressible_in records 0xfe ≡ true
  pub compressible : (lead : ℕ) → is_compressible_in records lead ≡ true → (is_letter_lead lead || (lead == 0xfe)) ≡ true
  pub leads : ExchangesLeads (is_compressible_in records) (place_among (reorder_of records))
