-- Whether what words of collation tables name is in the lists, those within other words too.
use Rattle.std.specs.Prelude.{ℕ, ◌+◌, Bool, not, ◌&&◌, ◌||◌, leb, ltb, length, slice_index, IsTrue}
use Rattle.icu_collator_types.specs.declared.elements.word_tags.Tag.{Tag}
use Rattle.icu_collator_types.specs.declared.elements.word_tags.Tag.TheVariants.{Expansion32, Expansion, Prefix, Contraction, Digit, Offset}
use Rattle.icu_collator_types.specs.ElementWords.{has_tag}
use Rattle.icu_collator_core.specs.Pools.{Pools, index_of, length_of}
use Rattle.icu_collator_core.specs.WordForms.{ValuesPass, default_of}

-- a word with this tag names a part of a list of this length, not empty
abbrev pub has_list : Tag → ℕ → ℕ → Bool
has_list tag len word =
    not (has_tag tag word) || (leb 1 (length_of word) && leb (index_of word + length_of word) len)

-- the words or elements that an expansion or an offset names are in the lists
abbrev pub has_items : Pools → ℕ → Bool
has_items pools word =
    has_list Expansion32 (length pools.ce32s) word
    && (has_list Expansion (length pools.ces) word
    && (not (has_tag Offset word) || ltb (index_of word) (length pools.ces)))

-- the word of a digit is in the list, and what it names
abbrev pub has_digit_word : Pools → ℕ → Bool
has_digit_word pools word =
    not (has_tag Digit word)
    || (ltb (index_of word) (length pools.ce32s) && has_items pools (slice_index pools.ce32s (index_of word)))

-- the default of a context is in the list, and one unit after it
abbrev pub has_context : Pools → ℕ → Bool
has_context pools word = ltb (index_of word + 2) (length pools.contexts)

-- the context of a contraction is in the list, and what the words in it name
abbrev pub IsContractionInside : Pools → ℕ → Type 0
IsContractionInside pools word =
    IsTrue (has_tag Contraction word)
    → IsTrue (has_context pools word && has_items pools (default_of pools word)) × ValuesPass pools (has_items pools) word

-- the same where no prefix counts
abbrev pub IsUnprefixedInside : Pools → ℕ → Type 0
IsUnprefixedInside pools word = IsTrue (has_items pools word && has_digit_word pools word) × IsContractionInside pools word

-- the context of a prefix is in the list, and what the words in it name
abbrev pub IsPrefixInside : Pools → ℕ → Type 0
IsPrefixInside pools word =
    IsTrue (has_tag Prefix word)
    → IsTrue (has_context pools word) × IsUnprefixedInside pools (default_of pools word) × ValuesPass pools (has_items pools) word

-- all that a word of a character names is in the lists
abbrev pub IsInside : Pools → ℕ → Type 0
IsInside pools word = IsUnprefixedInside pools word × IsPrefixInside pools word
