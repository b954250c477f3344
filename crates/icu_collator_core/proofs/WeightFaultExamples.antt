-- Weights of tables that keep the rules, and some that don't.
use Rattle.std.proofs.Common.{◌≡◌, ℕ, ◌+◌, ◌*◌, ◌^◌, true, false, [], ◌∷◌, Some, refl}
use Rattle.icu_char16trie.specs.Cursors.{value_of_key}
use Rattle.icu_char16trie.specs.UnitSteps.{small_part, target_in}
use Rattle.icu_collator_types.specs.declared.elements.Element.{Element}
use Rattle.icu_collator_core.specs.declared.tables.metadata.CollationMetadata.{CollationMetadata}
use Rattle.icu_collator_core.specs.declared.tables.special_primaries.CollationSpecialPrimaries.{CollationSpecialPrimaries}
use Rattle.icu_collator_core.specs.Defaults.{moved_primary, special_primary, jamo_primary, implicit_primary}
use Rattle.icu_collator_core.specs.Numbers.{without_last_zeros}
use Rattle.icu_collator_core.specs.Pools.{Pools, elements_of_word, lone_word, offset_primary, suffix_word, unprefixed_word, word_in_context}
use Rattle.icu_collator_core.specs.TableMeaning.{own_primary}
use Rattle.icu_collator_core.specs.TableSettings.{is_compressible_in}
use Rattle.icu_collator_core.specs.SettingRules.{are_sound_groups}
use Rattle.icu_collator_core.specs.WeightFaults.{is_diacritic_count, is_primary_element, is_sound_diacritic, is_sound_in_context, is_sound_lone_word, is_sound_offset, is_sound_spelled, is_sound_word}

unfoldable computing : Unit {0}
unfolding small_part target_in value_of_key word_in_context unprefixed_word lone_word suffix_word is_compressible_in moved_primary offset_primary special_primary jamo_primary implicit_primary without_last_zeros elements_of_word is_primary_element is_sound_diacritic is_sound_offset is_sound_spelled is_sound_word
computing = tt

-- ---- Elements

-- four groups, and the lead of numbers 10
special : CollationSpecialPrimaries
special = record { last_primaries = 0x300 ∷ 0x400 ∷ 0x500 ∷ 0x600 ∷ []; numeric_primary = 0x10 }

letter : ℕ → ℕ → Element
letter primary case = record { primary = primary; secondary = 0x500; case = case; tertiary = 0x500; quaternary = 0 }

upper_case : is_sound_spelled special (letter 0x2a10_0000 2) ≡ true
unfolding computing special letter
upper_case = refl

fourth_case : is_sound_spelled special (letter 0x2a10_0000 3) ≡ false
unfolding computing special letter
fourth_case = refl

lead_of_numbers : is_sound_spelled special (letter 0x1010_0000 0) ≡ false
unfolding computing special letter
lead_of_numbers = refl

-- ---- Words

-- an expansion in elements, and the entry of a range from U+4E00 on, step 1
few : Pools
few = record {
  ces = 0x2a10_0000_0500_0500 ∷ 0xfe00_0000_0500_0500 ∷ 0xe0ff_fe00_004e_0001 ∷ [];
  ce32s = [];
  contexts = [];
}

expansion : is_sound_lone_word special few 0x61 0x1c6 ≡ true
unfolding computing special few
expansion = refl

-- the second has a lead that letters don't have
second_unsound : is_sound_lone_word special few 0x61 0x2c6 ≡ false
unfolding computing special few
second_unsound = refl

nothing : is_sound_lone_word special few 0x61 0 ≡ true
unfolding computing special few
nothing = refl

-- U+FFFE itself may have the primary that no letter has, but not in a context
own : is_sound_lone_word special few 0xfffe 0x0200_0505 ≡ true
unfolding computing special few
own = refl

special_in_context : is_sound_in_context special few 0xfffe 0x0200_0505 ≡ false
unfolding computing special few
special_in_context = refl

of_another : is_sound_lone_word special few 0x61 0x0200_0505 ≡ false
unfolding computing special few
of_another = refl

range_first : is_sound_lone_word special few 0x4e00 0x40ce ≡ true
unfolding computing special few
range_first = refl

below_range : is_sound_lone_word special few 0x4dff 0x40ce ≡ false
unfolding computing special few
below_range = refl

range_last : is_sound_lone_word special few 0x4e01 0x40ce ≡ true
unfolding computing special few
range_last = refl

-- no primary is left under the lead
past_lead : is_sound_lone_word special few 0x4e02 0x40ce ≡ false
unfolding computing special few
past_lead = refl

-- what "a" has by itself, and a context where it has that alone and before "b"
in_context : Pools
in_context = record {
  ces = (own_primary 0x61 * 2 ^ 32 + 0x0500_0500) ∷ [];
  ce32s = [];
  contexts = 0 ∷ 0x1c6 ∷ 0x30 ∷ 0x62 ∷ 0xffff ∷ 0 ∷ 0x1c6 ∷ [];
}

own_alone : is_sound_lone_word special in_context 0x61 (lone_word in_context 0xc9) ≡ true
unfolding computing special in_context
own_alone = refl

before_b : suffix_word in_context 0xc9 (0x62 ∷ []) ≡ Some 0x1c6
unfolding computing in_context
before_b = refl

-- before "b" it would count as a record
own_before_b : is_sound_in_context special in_context 0x61 0x1c6 ≡ false
unfolding computing special in_context
own_before_b = refl

-- ---- Diacritics

abbrev settings : ℕ → CollationMetadata
settings bits = record { bits = bits }

root_count : is_diacritic_count (settings 0) 79 ≡ true
root_count = refl

too_few : is_diacritic_count (settings 0) 64 ≡ false
too_few = refl

fewer_in_tailoring : is_diacritic_count (settings 0x10) 64 ≡ true
fewer_in_tailoring = refl

too_many : is_diacritic_count (settings 0x10) 80 ≡ false
too_many = refl

common_run : is_sound_diacritic 0x4500 ≡ false
unfolding computing
common_run = refl

above_run : is_sound_diacritic 0x4600 ≡ true
unfolding computing
above_run = refl

-- ---- Groups

rising_groups : are_sound_groups 0x10 (0x300 ∷ 0x300 ∷ 0x400 ∷ 0x1000 ∷ []) ≡ true
rising_groups = refl

falling_groups : are_sound_groups 0x10 (0x300 ∷ 0x400 ∷ 0x300 ∷ 0x500 ∷ []) ≡ false
falling_groups = refl

within_numbers : are_sound_groups 0x10 (0x300 ∷ 0x300 ∷ 0x400 ∷ 0x1001 ∷ []) ≡ false
within_numbers = refl

three_groups : are_sound_groups 0x10 (0x300 ∷ 0x300 ∷ 0x400 ∷ []) ≡ false
three_groups = refl
