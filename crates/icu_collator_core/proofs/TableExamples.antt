-- Words of each form and what they say, a small collation in tables, and settings.
use Rattle.std.proofs.Common.{◌≡◌, ℕ, ◌||◌, cond, ◌==◌, true, false, List, [], ◌∷◌, ◌++◌, map, replicate, Option, None, Some, refl}
use Rattle.std.specs.List.{range_with_len}
use Rattle.icu_char16trie.specs.Cursors.{value_of_key}
use Rattle.icu_char16trie.specs.UnitSteps.{small_part, target_in}
use Rattle.icu_codepointtrie.specs.Slots.{TrieTables}
use Rattle.icu_codepointtrie.specs.declared.trie.TrieType.TheVariants.{Small}
use Rattle.icu_normalizer_core.specs.Canonical.{Canonical}
use Rattle.icu_collator_types.specs.declared.elements.Element.{Element}
use Rattle.icu_collator_types.specs.declared.options.AlternateHandling.TheVariants.{NonIgnorable, Shifted}
use Rattle.icu_collator_types.specs.declared.options.CollationCaseFirst.TheVariants.{False as NoCaseFirst, Lower, Upper}
use Rattle.icu_collator_types.specs.declared.options.MaxVariable.TheVariants.{Symbol, Currency}
use Rattle.icu_collator_core.specs.declared.tables.data.CollationData.{CollationData}
use Rattle.icu_collator_core.specs.declared.tables.reordering.CollationReordering.{CollationReordering}
use Rattle.icu_collator_core.specs.declared.tables.CollationTables.{CollationTables}
use Rattle.icu_collator_core.specs.declared.tables.metadata.CollationMetadata.{CollationMetadata}
use Rattle.icu_collator_core.specs.Defaults.{default_primary, implicit_primary, jamo_primary, moved_primary, primary_element, special_primary}
use Rattle.icu_collator_core.specs.Elements.{at_greatest, elements_of_list, elements_within, is_before_accent, joining, number_reading, placed_behind, reading, text_match, text_reading}
use Rattle.icu_collator_core.specs.Pools.{Pools, elements_of_word, lone_word, offset_primary, prefix_word, suffix_word, unprefixed_word, word_in_context}
use Rattle.icu_collator_core.specs.TableMeaning.{TableWord, collation_of, counting_word, digit_by, ranged_by, recorded_by, recorded_in, weights_of}
use Rattle.icu_collator_core.specs.TableSettings.{is_compressible_in, reordered_by, settings_of}

-- one word that opens what stands between a word and its elements
unfoldable pub computing : Unit {0}
unfolding small_part target_in value_of_key implicit_primary jamo_primary moved_primary special_primary default_primary
    elements_of_word offset_primary word_in_context unprefixed_word lone_word suffix_word prefix_word
    recorded_by ranged_by recorded_in counting_word is_compressible_in reordered_by
    at_greatest elements_within is_before_accent joining number_reading placed_behind reading text_match text_reading
computing = tt

-- ---- Forms of words

-- Two elements and a range; four words; a context of what stands after ("b") and one of what stands before ("a", "b").
few : Pools
few = record {
  ces = 0x2a10_0000_0500_0500 ∷ 0x8800_8540 ∷ 0xe002_0200_004e_0001 ∷ [];
  ce32s = 0x2a10_0505 ∷ 0x8800_05c2 ∷ 0 ∷ 0x2b40_0505 ∷ [];
  contexts = 0x2a10 ∷ 0x0505 ∷ 0x30 ∷ 0x62 ∷ 0xffff ∷ 0x2a60 ∷ 0x0505
      ∷ 0 ∷ 0xc9 ∷ 0x31 ∷ 0x62 ∷ 0x61 ∷ 0xffff ∷ 0x2a70 ∷ 0x0505 ∷ [];
}

abbrev entry : ℕ → TableWord
entry word = record { word = word; pools = few }

-- an element without primary
abbrev accent : ℕ → ℕ → ℕ → Element
accent secondary case_number quaternary =
    record { primary = 0; secondary = secondary; case = case_number; tertiary = 0x500; quaternary = quaternary }

ignorable : recorded_by (entry 0) 0x301 [] [] ≡ Some []
unfolding computing
ignorable = refl

simple : recorded_by (entry 0x2a10_0505) 0x61 [] [] ≡ Some (primary_element 0x2a10_0000 ∷ [])
unfolding computing few
simple = refl

upper_case :
    recorded_by (entry 0x2a10_0589) 0x41 [] []
    ≡ Some (record { primary = 0x2a10_0000; secondary = 0x500; case = 2; tertiary = 0x900; quaternary = 0 } ∷ [])
unfolding computing few
upper_case = refl

long_primary : recorded_by (entry 0x2a10_20c1) 0x61 [] [] ≡ Some (primary_element 0x2a10_2000 ∷ [])
unfolding computing few
long_primary = refl

long_secondary : recorded_by (entry 0x8800_05c2) 0x301 [] [] ≡ Some (accent 0x8800 0 0 ∷ [])
unfolding computing few
long_secondary = refl

-- the word of no element among those of an expansion adds none
words : recorded_by (entry 0x3c5) 0xe1 [] [] ≡ Some (primary_element 0x2a10_0000 ∷ accent 0x8800 0 0 ∷ [])
unfolding computing few
words = refl

elements : recorded_by (entry 0x2c6) 0xe1 [] [] ≡ Some (primary_element 0x2a10_0000 ∷ accent 0x8800 2 1 ∷ [])
unfolding computing few
elements = refl

contraction_alone : recorded_by (entry 0xc9) 0x61 [] [] ≡ Some (primary_element 0x2a10_0000 ∷ [])
unfolding computing few
contraction_alone = refl

contraction : recorded_by (entry 0xc9) 0x61 [] (0x62 ∷ []) ≡ Some (primary_element 0x2a60_0000 ∷ [])
unfolding computing few
contraction = refl

contraction_of_others : recorded_by (entry 0xc9) 0x61 [] (0x62 ∷ 0x62 ∷ []) ≡ None
unfolding computing few
contraction_of_others = refl

prefixed : recorded_by (entry 0xe0c8) 0x63 (0x61 ∷ 0x62 ∷ []) [] ≡ Some (primary_element 0x2a70_0000 ∷ [])
unfolding computing few
prefixed = refl

shorter_prefix : recorded_by (entry 0xe0c8) 0x63 (0x62 ∷ []) [] ≡ None
unfolding computing few
shorter_prefix = refl

unprefixed_contraction : recorded_by (entry 0xe0c8) 0x63 [] (0x62 ∷ []) ≡ Some (primary_element 0x2a60_0000 ∷ [])
unfolding computing few
unprefixed_contraction = refl

unprefixed_alone : recorded_by (entry 0xe0c8) 0x63 [] [] ≡ Some (primary_element 0x2a10_0000 ∷ [])
unfolding computing few
unprefixed_alone = refl

digit_alone : recorded_by (entry 0x67ca) 0x37 [] [] ≡ Some (primary_element 0x2b40_0000 ∷ [])
unfolding computing few
digit_alone = refl

seven : digit_by (entry 0x67ca) ≡ Some 7
unfolding computing few
seven = refl

implicit : recorded_by (entry 0xcf) 0x7a [] [] ≡ None
unfolding computing few
implicit = refl

range_first : ranged_by (entry 0x40ce) 0x4e00 ≡ Some 0xe002_0200
unfolding computing few
range_first = refl

range_later : ranged_by (entry 0x40ce) 0x4efe ≡ Some 0xe003_0200
unfolding computing few
range_later = refl

-- a range gives no record
range_unrecorded : recorded_by (entry 0x40ce) 0x4e00 [] [] ≡ None
unfolding computing few
range_unrecorded = refl

-- what a character is by itself is no record of it, but one of another character
own_jamo : recorded_by (entry 0xfd04_02c1) 0x1100 [] [] ≡ None
unfolding computing few
own_jamo = refl

other_jamo : recorded_by (entry 0xfd04_02c1) 0x1101 [] [] ≡ Some (primary_element 0xfd04_0200 ∷ [])
unfolding computing few
other_jamo = refl

own_special : recorded_by (entry 0x0200_0505) 0xfffe [] [] ≡ None
unfolding computing few
own_special = refl

-- ---- A collation

-- a trie with one word for U+0061 and another for U+0301 and most characters
letter_trie : ℕ → ℕ → TrieTables ℕ
letter_trie word other = record {
  header = record {
    high_start = 0x1000;
    shifted12_high_start = 1;
    index3_null_offset = 0x7fff;
    data_null_offset = 0xf_ffff;
    null_value = 0;
    trie_type = Small;
  };
  index = replicate 64 0;
  cells = replicate 33 other ++ word ∷ replicate 32 other;
}

abbrev letter_data : ℕ → ℕ → CollationData
letter_data word other = record { trie = letter_trie word other; ces = few.ces; ce32s = few.ce32s; contexts = few.contexts }

-- tables in which U+0061 has a context, and two marks and two jamo have weights
letters : Option CollationData → CollationTables
letters tailoring = record {
  root = letter_data 0xc9 0xcf;
  tailoring = tailoring;
  diacritics = record { secondaries = 0x8600 ∷ 0x8800 ∷ [] };
  jamo = record { ce32s = 0xfd04_02c1 ∷ 0x2a10_10c1 ∷ [] };
  reordering = None;
  metadata = record { bits = 0xc0 };
  special_primaries = record { last_primaries = 0x300 ∷ 0x400 ∷ 0x500 ∷ 0x600 ∷ []; numeric_primary = 0x10 };
}

marks : Canonical
marks = record {
  class = λ c. cond ((c == 0x300) || (c == 0x301)) 230 0;
  step = λ c. [];
  full = λ c. c ∷ [];
  pair = λ a b. None;
}

-- what the tables record of a text, without a tailoring and with one
abbrev of_root : List ℕ → Option (List Element)
of_root text = (weights_of marks (letters None)).recorded [] text

abbrev of_tailoring : ℕ → List ℕ → Option (List Element)
of_tailoring word text = (weights_of marks (letters (Some (letter_data word 0xc0)))).recorded [] text

root_contraction : of_root (0x61 ∷ 0x62 ∷ []) ≡ Some (primary_element 0x2a60_0000 ∷ [])
unfolding computing few letter_trie letters marks
root_contraction = refl

-- the tailoring's word replaces all that the root says of the character
tailored_alone : of_tailoring 0x2a20_0505 (0x61 ∷ []) ≡ Some (primary_element 0x2a20_0000 ∷ [])
unfolding computing few letter_trie letters marks
tailored_alone = refl

tailored_contraction : of_tailoring 0x2a20_0505 (0x61 ∷ 0x62 ∷ []) ≡ None
unfolding computing few letter_trie letters marks
tailored_contraction = refl

untailored : of_tailoring 0xc0 (0x61 ∷ 0x62 ∷ []) ≡ Some (primary_element 0x2a60_0000 ∷ [])
unfolding computing few letter_trie letters marks
untailored = refl

diacritic_of_mark : of_root (0x301 ∷ []) ≡ Some (accent 0x8800 0 0 ∷ [])
unfolding computing few letter_trie letters marks
diacritic_of_mark = refl

-- a mark past the table has the word of the trie, as has a character that is no mark
no_diacritic : of_root (0x302 ∷ []) ≡ None
unfolding computing few letter_trie letters marks
no_diacritic = refl

jamo_recorded : of_root (0x1101 ∷ []) ≡ Some (primary_element 0x2a10_1000 ∷ [])
unfolding computing few letter_trie letters marks
jamo_recorded = refl

-- a surrogate has no record
no_character : of_root (0xd821 ∷ []) ≡ None
unfolding computing few letter_trie letters marks
no_character = refl

read : elements_of_list marks (weights_of marks (letters None)) false (0x61 ∷ 0x301 ∷ 0x1100 ∷ 0x61 ∷ 0x62 ∷ [])
    ≡ primary_element 0x2a10_0000 ∷ accent 0x8800 0 0 ∷ primary_element 0xfd04_0200 ∷ primary_element 0x2a60_0000 ∷ []
unfolding computing few letter_trie letters marks
read = refl

backward_by_bit : (collation_of marks (letters None)).backward ≡ true
unfolding letters
backward_by_bit = refl

-- ---- Settings

abbrev settings_by : ℕ → CollationMetadata
settings_by bits = record { bits = bits }

upper_first_shifted :
    settings_of (settings_by 0x702)
    ≡ record { alternate_handling = Shifted; case_first = Upper; max_variable = Symbol }
upper_first_shifted = refl

-- the bit of upper case counts only with that of case first
lower_first : settings_of (settings_by 0x203) ≡ record { alternate_handling = NonIgnorable; case_first = Lower; max_variable = Currency }
lower_first = refl

no_case_first : (settings_of (settings_by 0x400)).case_first ≡ NoCaseFirst
no_case_first = refl

-- without words of their own the compressible leads are 61 to 80 and FE
abbrev four_groups : List ℕ
four_groups = 0x300 ∷ 0x300 ∷ 0x300 ∷ 0x300 ∷ []

usual_lead : is_compressible_in four_groups 0x80 ≡ true
unfolding computing
usual_lead = refl

unusual_lead : is_compressible_in four_groups 0x81 ≡ false
unfolding computing
unusual_lead = refl

lead_by_bit : is_compressible_in (four_groups ++ replicate 15 0 ++ 0x4000 ∷ []) 0xfe ≡ true
unfolding computing
lead_by_bit = refl

lead_without_bit : is_compressible_in (four_groups ++ replicate 15 0 ++ 0x4000 ∷ []) 0x80 ≡ false
unfolding computing
lead_without_bit = refl

-- 2A and 2B change places, and 2C is cut in two
exchange : CollationReordering
exchange = record {
  min_high_no_reorder = 0x2d00_0000;
  reorder_table = map (λ lead. cond (lead == 0x2a) 0x2b (cond (lead == 0x2b) 0x2a (cond (lead == 0x2c) 0 lead))) (range_with_len 0 256);
  reorder_ranges = 0x2c80_0001 ∷ 0x2d00_00ff ∷ [];
}

whole_lead : reordered_by exchange 0x2a10_2030 ≡ 0x2b10_2030
unfolding computing exchange
whole_lead = refl

first_part : reordered_by exchange 0x2c10_0000 ≡ 0x2d10_0000
unfolding computing exchange
first_part = refl

second_part : reordered_by exchange 0x2c80_0000 ≡ 0x2b80_0000
unfolding computing exchange
second_part = refl

below_all : reordered_by exchange 1 ≡ 1
unfolding computing exchange
below_all = refl
