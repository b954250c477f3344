-- Words of the tables, 32 bits each: what form a word has, and the element of a word that states one by itself.
use Rattle.std.specs.Prelude.{ℕ, ◌-◌, ◌*◌, ◌/◌, ◌%◌, ◌^◌, Bool, cond, ◌&&◌, ◌||◌, ◌==◌, leb, Option, Some, None}
use Rattle.icu_collator_types.specs.declared.elements.word_tags.Tag.{Tag}
use Rattle.icu_collator_types.specs.declared.elements.word_tags.Tag.TheVariants.{Fallback, LongPrimary, LongSecondary, Reserved3, LatinExpansion, Expansion32, Expansion, BuilderData, Prefix, Contraction, Digit, U0000, Hangul, LeadSurrogate, Offset, Implicit}
use Rattle.icu_collator_types.specs.ElementBits.{element_bits}

-- the number of a tag
abbrev pub tag_number : Tag → ℕ
tag_number Fallback = 0
tag_number LongPrimary = 1
tag_number LongSecondary = 2
tag_number Reserved3 = 3
tag_number LatinExpansion = 4
tag_number Expansion32 = 5
tag_number Expansion = 6
tag_number BuilderData = 7
tag_number Prefix = 8
tag_number Contraction = 9
tag_number Digit = 10
tag_number U0000 = 11
tag_number Hangul = 12
tag_number LeadSurrogate = 13
tag_number Offset = 14
tag_number Implicit = 15

-- the word is more than the bytes of an element: its low byte is from C0
abbrev pub is_special : ℕ → Bool
is_special word = leb 0xc0 (word % 2 ^ 8)

-- the word has this tag
abbrev pub has_tag : Tag → ℕ → Bool
has_tag tag word = is_special word && (word % 2 ^ 4 == tag_number tag)

-- the word names a list of elements, and says its length
abbrev pub is_expansion : ℕ → Bool
is_expansion word = has_tag Expansion32 word || has_tag Expansion word

-- the word names an index in the tables
abbrev pub has_index : ℕ → Bool
has_index word =
    is_expansion word || (has_tag Prefix word || (has_tag Contraction word || (has_tag Digit word || has_tag Offset word)))

-- pppp ss tt: two bytes of a primary, one of a secondary, one of a tertiary with its case
abbrev pub simple_element : ℕ → ℕ
simple_element word = element_bits (word / 2 ^ 16 * 2 ^ 16) (word / 2 ^ 8 % 2 ^ 8 * 2 ^ 8) (word % 2 ^ 8 * 2 ^ 8)

-- pppppp C1: three bytes of a primary, with common weights
abbrev pub long_primary_element : ℕ → ℕ
long_primary_element word = element_bits (word - 0xc1) 0x0500 0x0500

-- the element of a word of these two forms
abbrev pub simple_or_long_primary : ℕ → Option ℕ
simple_or_long_primary word =
    cond (is_special word)
    (cond (word % 2 ^ 8 == 0xc1) (Some (long_primary_element word)) None)
    (Some (simple_element word))

-- the element of a word that states one by itself; the third form, ssss tt and the tag, is without primary
abbrev pub self_contained : ℕ → Option ℕ
self_contained word = cond (has_tag LongSecondary word) (Some (word / 2 ^ 8 * 2 ^ 8)) (simple_or_long_primary word)
