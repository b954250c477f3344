-- The rules on records, digits and settings, of a few lines: the fewest that break each, and the nearest that don't. Those
-- that lines break together are asked of the lines up to one, and of all lines.
use Rattle.std.proofs.Common.{◌≡◌, ℕ, true, false, List, [], ◌∷◌, take, refl}
use Rattle.icu_normalizer_core.specs.BuiltIn.{built_in_class, built_in_compatibility_step, built_in_step, singled_out, syllable_step}
use Rattle.icu_collator_types.specs.declared.elements.Element.{Element}
use Rattle.collate_lines.specs.Record.{Record, class, digit, dot_above, lone_weights, mapping, range, root, setting, tailoring, weights, numeric, groups, compress, reorder}
use Rattle.collate_rules.specs.RecordRules.{breaks_decomposed, breaks_digits, breaks_dot_above, breaks_marks_last, breaks_prefixes, is_bad_jamo_record, lacks_shorter, names_special}
use Rattle.collate_rules.specs.SettingLines.{breaks_settings}

-- [2A100000.0500.0.0500.0]
letter : Element
letter = record { primary = 0x2a100000; secondary = 0x500; case = 0; tertiary = 0x500; quaternary = 0 }

-- [0.8000.0.0500.0]
accent : Element
accent = record { primary = 0; secondary = 0x8000; case = 0; tertiary = 0x500; quaternary = 0 }

-- [2A101000.8000.0.0500.0], which no word says
wide : Element
wide = record { primary = 0x2a101000; secondary = 0x8000; case = 0; tertiary = 0x500; quaternary = 0 }

-- [2A100000.0500.0.0500.1], which none says either
quaternary_letter : Element
quaternary_letter = record { primary = 0x2a100000; secondary = 0x500; case = 0; tertiary = 0x500; quaternary = 1 }

-- ---- V7

mapped_text : breaks_decomposed (mapping 0xe1 (0x61 ∷ 0x301 ∷ []) false ∷ lone_weights 0xe1 [] ∷ []) ≡ true
unfolding built_in_step singled_out built_in_class built_in_compatibility_step
mapped_text = refl

unmapped_text : breaks_decomposed (lone_weights 0xe1 [] ∷ []) ≡ false
unfolding built_in_step singled_out built_in_class built_in_compatibility_step
unmapped_text = refl

-- it is built in that jamo have no mapping, and that syllables have one
jamo_text : breaks_decomposed (lone_weights 0x1100 [] ∷ []) ≡ false
unfolding built_in_step singled_out built_in_class built_in_compatibility_step
jamo_text = refl

syllable_text : breaks_decomposed (lone_weights 0xac00 [] ∷ []) ≡ true
unfolding built_in_step singled_out built_in_class built_in_compatibility_step syllable_step
syllable_text = refl

marks_in_order : breaks_decomposed (weights root (0x61 ∷ []) (0x62 ∷ 0xf72 ∷ 0x301 ∷ []) [] ∷ []) ≡ false
unfolding built_in_step singled_out built_in_class built_in_compatibility_step
marks_in_order = refl

marks_out_of_order : breaks_decomposed (weights root [] (0x62 ∷ 0x301 ∷ 0xf72 ∷ []) [] ∷ []) ≡ true
unfolding built_in_step singled_out built_in_class built_in_compatibility_step
marks_out_of_order = refl

mapped_prefix : breaks_decomposed (weights root (0xf73 ∷ []) (0x62 ∷ []) [] ∷ []) ≡ true
unfolding built_in_step singled_out built_in_class built_in_compatibility_step
mapped_prefix = refl

-- ---- V8

starter_behind_mark : breaks_marks_last [] (weights root [] (0x61 ∷ 0x301 ∷ 0x62 ∷ []) [] ∷ []) ≡ true
unfolding built_in_class
starter_behind_mark = refl

marks_behind_starters : breaks_marks_last [] (weights root [] (0x61 ∷ 0x62 ∷ 0x301 ∷ 0x301 ∷ []) [] ∷ []) ≡ false
unfolding built_in_class
marks_behind_starters = refl

-- a mark by a later line, far before the starter
late_mark : List Record
late_mark = weights root [] (0x350 ∷ 0x301 ∷ 0x62 ∷ []) [] ∷ class 0x350 220 ∷ weights tailoring [] (0x350 ∷ 0x62 ∷ []) [] ∷ []

no_mark_before_the_line : breaks_marks_last late_mark (weights root [] (0x350 ∷ 0x62 ∷ []) [] ∷ []) ≡ false
unfolding late_mark built_in_class
no_mark_before_the_line = refl

mark_from_the_line_on : breaks_marks_last late_mark (weights root [] (0x350 ∷ 0x62 ∷ []) [] ∷ class 0x350 220 ∷ []) ≡ true
unfolding late_mark built_in_class
mark_from_the_line_on = refl

-- what is a mark in the end is no starter before
mark_in_the_end : breaks_marks_last (class 0x350 220 ∷ []) (weights root [] (0x301 ∷ 0x350 ∷ []) [] ∷ []) ≡ false
unfolding built_in_class
mark_in_the_end = refl

-- ---- V9

shorter_recorded : lacks_shorter (weights tailoring [] (0x61 ∷ 0x62 ∷ []) [] ∷ []) (weights root [] (0x61 ∷ 0x62 ∷ 0x301 ∷ []) []) ≡ false
unfolding built_in_class
shorter_recorded = refl

shorter_lacks : lacks_shorter (weights root (0x63 ∷ []) (0x61 ∷ 0x62 ∷ []) [] ∷ []) (weights root [] (0x61 ∷ 0x62 ∷ 0x301 ∷ []) []) ≡ true
unfolding built_in_class
shorter_lacks = refl

two_characters : lacks_shorter [] (weights root [] (0x61 ∷ 0x301 ∷ []) []) ≡ false
unfolding built_in_class
two_characters = refl

three_starters : lacks_shorter [] (weights root [] (0x61 ∷ 0x62 ∷ 0x63 ∷ []) []) ≡ false
unfolding built_in_class
three_starters = refl

four_with_a_mark : lacks_shorter (weights root [] (0x61 ∷ 0x62 ∷ []) [] ∷ []) (weights root [] (0x61 ∷ 0x62 ∷ 0x301 ∷ 0x301 ∷ []) []) ≡ true
unfolding built_in_class
four_with_a_mark = refl

-- ---- V10

prefixed : List Record
prefixed = lone_weights 0x62 [] ∷ weights root (0x61 ∷ 0x63 ∷ []) (0x62 ∷ []) [] ∷ digit 0x61 1 ∷ class 0x62 9 ∷ []

prefix_kept : breaks_prefixes prefixed (take 2 prefixed) ≡ false
unfolding prefixed built_in_class
prefix_kept = refl

digit_in_prefix : breaks_prefixes prefixed (take 3 prefixed) ≡ true
unfolding prefixed built_in_class
digit_in_prefix = refl

prefixed_mark : breaks_prefixes (lone_weights 0x301 [] ∷ []) (weights root (0x61 ∷ []) (0x301 ∷ []) [] ∷ []) ≡ true
unfolding built_in_class
prefixed_mark = refl

prefixed_alone : breaks_prefixes [] (weights root (0x61 ∷ []) (0x62 ∷ []) [] ∷ []) ≡ true
unfolding built_in_class
prefixed_alone = refl

prefixed_text : breaks_prefixes (lone_weights 0x62 [] ∷ []) (weights root (0x61 ∷ []) (0x62 ∷ 0x63 ∷ []) [] ∷ []) ≡ true
unfolding built_in_class
prefixed_text = refl

null_in_prefix : breaks_prefixes (lone_weights 0x62 [] ∷ []) (weights root (0 ∷ []) (0x62 ∷ []) [] ∷ []) ≡ true
unfolding built_in_class
null_in_prefix = refl

jamo_in_prefix : breaks_prefixes (lone_weights 0x62 [] ∷ []) (weights root (0x1100 ∷ []) (0x62 ∷ []) [] ∷ []) ≡ true
unfolding built_in_class
jamo_in_prefix = refl

-- ---- V11

counted : List Record
counted = digit 0x661 1 ∷ lone_weights 0x661 [] ∷ weights root [] (0x661 ∷ 0x61 ∷ []) [] ∷ weights tailoring [] (0x661 ∷ 0x61 ∷ []) [] ∷ []

digit_recorded : breaks_digits (take 2 counted) (take 2 counted) ≡ false
unfolding counted built_in_class
digit_recorded = refl

-- what the tailoring replaces doesn't count
replaced_text : breaks_digits counted (take 3 counted) ≡ false
unfolding counted built_in_class
replaced_text = refl

further_text : breaks_digits counted (take 4 counted) ≡ true
unfolding counted built_in_class
further_text = refl

digit_without_record : breaks_digits [] (digit 0x661 1 ∷ []) ≡ true
unfolding built_in_class
digit_without_record = refl

digit_after_prefix : breaks_digits (lone_weights 0x661 [] ∷ []) (digit 0x661 1 ∷ weights root (0x61 ∷ []) (0x661 ∷ []) [] ∷ []) ≡ true
unfolding built_in_class
digit_after_prefix = refl

digit_behind_another : breaks_digits (lone_weights 0x661 [] ∷ []) (digit 0x661 1 ∷ weights root [] (0x61 ∷ 0x661 ∷ []) [] ∷ []) ≡ false
unfolding built_in_class
digit_behind_another = refl

marked_digit : breaks_digits (lone_weights 0x350 [] ∷ []) (digit 0x350 1 ∷ class 0x350 220 ∷ []) ≡ true
unfolding built_in_class
marked_digit = refl

-- ---- V12

jamo_alone : is_bad_jamo_record [] (lone_weights 0x1100 (letter ∷ [])) ≡ false
unfolding letter
jamo_alone = refl

jamo_in_text : is_bad_jamo_record [] (weights root [] (0x61 ∷ 0x11ff ∷ []) (letter ∷ [])) ≡ true
unfolding letter
jamo_in_text = refl

jamo_after_prefix : is_bad_jamo_record [] (weights root (0x61 ∷ []) (0x1100 ∷ []) (letter ∷ [])) ≡ true
unfolding letter
jamo_after_prefix = refl

ignorable_jamo : is_bad_jamo_record [] (lone_weights 0x1100 []) ≡ true
ignorable_jamo = refl

wide_jamo : is_bad_jamo_record [] (lone_weights 0x1100 (wide ∷ [])) ≡ true
unfolding wide
wide_jamo = refl

quaternary_jamo : is_bad_jamo_record [] (lone_weights 0x1100 (quaternary_letter ∷ [])) ≡ true
unfolding quaternary_letter
quaternary_jamo = refl

-- a record that is replaced may say anything
replaced_jamo : is_bad_jamo_record (weights tailoring [] (0x1100 ∷ []) (letter ∷ []) ∷ []) (lone_weights 0x1100 []) ≡ false
replaced_jamo = refl

tailored_jamo : is_bad_jamo_record (lone_weights 0x1100 (letter ∷ []) ∷ []) (weights tailoring [] (0x1100 ∷ []) []) ≡ true
tailored_jamo = refl

-- ---- V13

replacement_recorded : names_special (lone_weights 0xfffd []) ≡ true
replacement_recorded = refl

last_before : names_special (lone_weights 0xfffc []) ≡ false
last_before = refl

special_in_prefix : names_special (weights root (0xfffe ∷ []) (0x61 ∷ []) []) ≡ true
special_in_prefix = refl

special_digit : names_special (digit 0xffff 1) ≡ true
special_digit = refl

special_in_range : names_special (range (record { first = 0xfff0; last = 0xfffd; primary = 0x2a101000; step = 1 })) ≡ true
special_in_range = refl

range_before : names_special (range (record { first = 0xfff0; last = 0xfffc; primary = 0x2a101000; step = 1 })) ≡ false
range_before = refl

special_class : names_special (class 0xfffe 9) ≡ false
special_class = refl

-- ---- V15

mark : ℕ → Record
mark c = lone_weights c (accent ∷ [])

marks : List Record
marks = mark 0x300 ∷ mark 0x301 ∷ mark 0x302 ∷ mark 0x303 ∷ mark 0x304 ∷ mark 0x305 ∷ mark 0x306 ∷ mark 0x307 ∷ []

dot_above_kept : breaks_dot_above marks (setting (dot_above true) ∷ marks) ≡ false
unfolding marks mark accent
dot_above_kept = refl

seven_marks : breaks_dot_above (take 7 marks) (setting (dot_above true) ∷ []) ≡ true
unfolding marks mark accent
seven_marks = refl

dot_above_off : breaks_dot_above [] (setting (dot_above false) ∷ []) ≡ false
dot_above_off = refl

mark_as_letter : breaks_dot_above marks (setting (dot_above true) ∷ weights tailoring [] (0x307 ∷ []) (letter ∷ []) ∷ []) ≡ true
unfolding marks mark accent letter
mark_as_letter = refl

mark_with_another : breaks_dot_above marks (setting (dot_above true) ∷ weights root [] (0x300 ∷ 0x301 ∷ []) [] ∷ []) ≡ true
unfolding marks mark accent
mark_with_another = refl

-- ---- Settings

nothing_set : breaks_settings 0x10 [] ≡ false
nothing_set = refl

low_numbers : breaks_settings 0x02 (setting (numeric 0x02) ∷ []) ≡ true
low_numbers = refl

high_numbers : breaks_settings 0xfc (setting (numeric 0xfc) ∷ []) ≡ false
high_numbers = refl

implicit_lead_listed : breaks_settings 0x10 (setting (compress (0x20 ∷ 0xfe ∷ [])) ∷ []) ≡ true
implicit_lead_listed = refl

groups_fall : breaks_settings 0x10 (setting (groups (0x300 ∷ 0x400 ∷ 0x3ff ∷ 0x500 ∷ [])) ∷ []) ≡ true
groups_fall = refl

low_group : breaks_settings 0x10 (setting (groups (0x2ff ∷ 0x400 ∷ 0x400 ∷ 0x500 ∷ [])) ∷ []) ≡ true
low_group = refl

high_group : breaks_settings 0x10 (setting (groups (0x300 ∷ 0x400 ∷ 0x1000 ∷ 0xffff ∷ [])) ∷ []) ≡ false
high_group = refl

group_amid_numbers : breaks_settings 0x10 (setting (groups (0x300 ∷ 0x400 ∷ 0x400 ∷ 0x10ff ∷ [])) ∷ []) ≡ true
group_amid_numbers = refl

-- the lead that a later line sets counts, from that line on
group_before_lead : breaks_settings 0x20 (setting (groups (0x300 ∷ 0x400 ∷ 0x1001 ∷ 0x2001 ∷ [])) ∷ []) ≡ false
group_before_lead = refl

lead_behind_group : breaks_settings 0x20 (setting (groups (0x300 ∷ 0x400 ∷ 0x1001 ∷ 0x2001 ∷ [])) ∷ setting (numeric 0x20) ∷ []) ≡ true
lead_behind_group = refl

other_lead_behind_group : breaks_settings 0x30 (setting (groups (0x300 ∷ 0x400 ∷ 0x1001 ∷ 0x2001 ∷ [])) ∷ setting (numeric 0x30) ∷ []) ≡ false
other_lead_behind_group = refl

exchanged : breaks_settings 0x10 (setting (reorder ((0x20, 0x21) ∷ (0x21, 0x20) ∷ [])) ∷ []) ≡ false
exchanged = refl

moved_alone : breaks_settings 0x10 (setting (reorder ((0x20, 0x21) ∷ [])) ∷ []) ≡ true
moved_alone = refl

moved_twice : breaks_settings 0x10 (setting (reorder ((0x20, 0x21) ∷ (0x20, 0x20) ∷ (0x21, 0x21) ∷ [])) ∷ []) ≡ true
moved_twice = refl

implicit_lead_moved : breaks_settings 0x10 (setting (reorder ((0xfe, 0xfe) ∷ [])) ∷ []) ≡ true
implicit_lead_moved = refl

unlike_leads : breaks_settings 0x10 (setting (reorder ((0x20, 0x21) ∷ (0x21, 0x20) ∷ [])) ∷ setting (compress (0x20 ∷ [])) ∷ []) ≡ true
unlike_leads = refl

alike_leads : breaks_settings 0x10 (setting (compress (0x21 ∷ 0x20 ∷ [])) ∷ setting (reorder ((0x20, 0x21) ∷ (0x21, 0x20) ∷ [])) ∷ []) ≡ false
alike_leads = refl
