-- What a collation's settings must keep (rule `set` of records files), and when keys order as levels do.
use Rattle.std.specs.Prelude.{◌≡◌, ℕ, Bool, true, false, not, ◌==◌, ◌||◌}
use Rattle.icu_collator_types.specs.declared.options.ResolvedCollatorOptions.{ResolvedCollatorOptions}
use Rattle.icu_collator_types.specs.Options.{is_numeric}
use Rattle.icu_collator_core.specs.SettingRules.{are_sound_groups}
use Rattle.icu_collator_core.specs.WeightRules.{is_letter_lead}
use Rattle.icu_collator_core.specs.Collation.{Collation, with_lead, reordered_lead}

-- settings that keep the rule
pub record AreSoundSettings (collation : Collation) : Type 0 where
  pub numeric_lead : is_letter_lead collation.weights.numeric_lead ≡ true
  pub groups : are_sound_groups collation.weights.numeric_lead collation.groups ≡ true
  pub compressible :
      (lead : ℕ) → collation.weights.is_compressible lead ≡ true → (is_letter_lead lead || (lead == 0xfe)) ≡ true
  -- reordering gives a primary another lead, and keeps its rest
  pub rest : (p : ℕ) → collation.reordered p ≡ with_lead (reordered_lead collation) p
  -- it exchanges leads of letters
  pub outside : (lead : ℕ) → is_letter_lead lead ≡ false → reordered_lead collation lead ≡ lead
  pub inside : (lead : ℕ) → is_letter_lead lead ≡ true → is_letter_lead (reordered_lead collation lead) ≡ true
  pub one_to_one : (a b : ℕ) → reordered_lead collation a ≡ reordered_lead collation b → a ≡ b

-- Plain leads: numeric ordering is off, or the lead of numbers isn't compressible. The second bytes of numbers begin at
-- 02, so under a compressible lead they would meet the bytes that end a run.
abbrev pub has_plain_leads : Collation → ResolvedCollatorOptions → Bool
has_plain_leads collation options =
    not (is_numeric options.numeric) || not (collation.weights.is_compressible collation.weights.numeric_lead)
