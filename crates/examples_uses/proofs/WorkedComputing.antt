-- One word that opens every definition between a closed term and its value.
use Rattle.bstr.specs.Utf8.{pieces_from}
use Rattle.std.specs.Char.Utf16.{utf16_chars}
use Rattle.icu_normalizer_core.specs.BuiltIn.{syllable_step, syllable_of, singled_out, built_in_step, built_in_compatibility_step, built_in_class}
use Rattle.icu_normalizer_core.specs.Canonical.{put_in_order, marks_in_order, decomposed, composing, recomposed, composed}
use Rattle.icu_collator_core.specs.Defaults.{special_primary, moved_primary, range_primary, jamo_primary, implicit_primary, default_primary}
use Rattle.icu_collator_core.specs.Numbers.{significant, pairs_of, without_last_zeros, pair_bytes, elements_of_bytes, long_number, number_part, number_parts}
use Rattle.icu_collator_core.specs.Elements.{placed_behind, at_greatest, joining, text_match, text_reading, number_reading, is_before_accent, reading, elements_within}
use Rattle.icu_collator.specs.Shifted.{counted_behind}
use Rattle.icu_collator.specs.Levels.{backward_from, levels_of}
use Rattle.icu_collator.specs.Order.{levels_order}
use Rattle.collate_rules.specs.Meaning.{expanded}
use Rattle.collate_lists.specs.Names.{placed_before, in_order}

unfoldable pub computing : Unit {0}
unfolding pieces_from utf16_chars
    syllable_step syllable_of singled_out built_in_step built_in_compatibility_step built_in_class
    put_in_order marks_in_order decomposed composing recomposed composed
    special_primary moved_primary range_primary jamo_primary implicit_primary default_primary
    significant pairs_of without_last_zeros pair_bytes elements_of_bytes long_number number_part number_parts
    placed_behind at_greatest joining text_match text_reading number_reading is_before_accent reading elements_within
    counted_behind backward_from levels_of levels_order
    expanded placed_before in_order
computing = tt
