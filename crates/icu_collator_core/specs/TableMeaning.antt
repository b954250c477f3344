-- What tables mean, as they are read with canonical data: the word that counts for a character, and what it says.
use Rattle.std.specs.Prelude.{ℕ, ◌+◌, ◌-◌, ◌*◌, ◌^◌, Bool, false, cond, not, ◌==◌, ◌&&◌, leb, List, [], ◌∷◌, slice_get, slice_index, Option, Some, None, unwrap_or, option_and_then}
use lib.Utf8.{scalar, scalars}
use Rattle.icu_codepointtrie.specs.Slots.{value_at}
use Rattle.icu_normalizer_core.specs.BuiltIn.{is_jamo}
use Rattle.icu_normalizer_core.specs.Canonical.{Canonical, is_starter}
use Rattle.icu_collator_types.specs.declared.elements.Element.{Element}
use Rattle.icu_collator_types.specs.declared.elements.word_tags.Tag.TheVariants.{Digit, Offset}
use Rattle.icu_collator_types.specs.ElementWords.{has_tag}
use Rattle.icu_collator_core.specs.declared.tables.data.CollationData.{CollationData}
use Rattle.icu_collator_core.specs.declared.tables.CollationTables.{CollationTables}
use Rattle.icu_collator_core.specs.Weights.{Weights}
use Rattle.icu_collator_core.specs.Collation.{Collation}
use Rattle.icu_collator_core.specs.Defaults.{common, special_primary, jamo_primary, implicit_primary}
use Rattle.icu_collator_core.specs.Pools.{Pools, digit_value, elements_of_word, index_of, lone_word, offset_primary, prefix_word, suffix_word}
use Rattle.icu_collator_core.specs.TableSettings.{groups_of, has_bit, is_compressible_in, reordered_in, settings_of}

-- ## The word that counts

-- a word, and the lists that it names indices in
pub record TableWord : Type 0 where
  pub word : ℕ
  pub pools : Pools

-- the lists of data
abbrev pub pools_of : CollationData → Pools
pools_of source = record { ces = source.ces; ce32s = source.ce32s; contexts = source.contexts }

-- the word that data have for a character, and with the lists
abbrev pub word_at : CollationData → ℕ → ℕ
word_at source c = unwrap_or (value_at source.trie c) 0

abbrev pub word_in : CollationData → ℕ → TableWord
word_in source c = record { word = word_at source c; pools = pools_of source }

-- the word by which a tailoring leaves a character to the root
abbrev pub fallback : ℕ
fallback = 0xc0

-- the word of the tailoring, unless it leaves the character to the root
abbrev pub tailored_word : CollationTables → ℕ → TableWord
tailored_word tables c =
    let of_root = word_in tables.root c
    in elim tables.tailoring [ Some tailoring ↦ cond (word_at tailoring c == fallback) of_root (word_in tailoring c) | None ↦ of_root ]

-- the secondary that the table of diacritics has for a mark
abbrev pub diacritic : Canonical → List ℕ → ℕ → Option ℕ
diacritic canonical secondaries c =
    cond (leb 0x300 c && not (is_starter canonical c)) (slice_get secondaries (c - 0x300)) None

-- the word of an element with this secondary, the common tertiary and no primary
abbrev pub secondary_word : ℕ → ℕ
secondary_word secondary = secondary * 2 ^ 16 + 0x05c2

-- The word that counts for a character: that of a mark's secondary in the table of diacritics, that of a jamo in its
-- table, else that of the tailoring or the root.
unfoldable pub counting_word : Canonical → CollationTables → ℕ → TableWord
counting_word canonical tables c =
    let pools = pools_of tables.root
    in let jamo : TableWord = record { word = slice_index tables.jamo.ce32s (c - 0x1100); pools = pools }
    in let other = cond (is_jamo c) jamo (tailored_word tables c)
    in elim (diacritic canonical tables.diacritics.secondaries c) [
      | Some secondary ↦ record { word = secondary_word secondary; pools = pools }
      | None ↦ other
    ]

-- ## What it says

-- what a character is by itself, in no range: special, a jamo, or implicit
abbrev pub own_primary : ℕ → ℕ
own_primary c = unwrap_or (special_primary c) (cond (is_jamo c) (jamo_primary c) (implicit_primary c))

-- whether elements are a primary with common weights on the other levels
abbrev pub is_primary_alone : ℕ → List Element → Bool
is_primary_alone p [] = false
is_primary_alone p (e ∷ []) =
    (e.primary == p) && (e.secondary == common) && (e.case == 0) && (e.tertiary == common) && (e.quaternary == 0)
is_primary_alone p (e ∷ f ∷ es) = false

-- elements as a record of the character; those that it has by itself are none
abbrev pub unless_own : ℕ → List Element → Option (List Element)
unless_own c es = cond (is_primary_alone (own_primary c) es) None (Some es)

-- the record of a text after a prefix, by the word of its first character; the text is given by what stands after that
unfoldable pub recorded_by : TableWord → ℕ → List ℕ → List ℕ → Option (List Element)
recorded_by entry c [] [] =
    option_and_then (unless_own c) (elements_of_word entry.pools (lone_word entry.pools entry.word))
recorded_by entry c [] (d ∷ ds) =
    option_and_then (elements_of_word entry.pools) (suffix_word entry.pools entry.word (d ∷ ds))
recorded_by entry c (b ∷ bs) [] =
    option_and_then (elements_of_word entry.pools) (prefix_word entry.pools entry.word (b ∷ bs))
recorded_by entry c (b ∷ bs) (d ∷ ds) = None

-- the value of a digit, by its word
abbrev pub digit_by : TableWord → Option ℕ
digit_by entry = cond (has_tag Digit entry.word) (Some (digit_value entry.word)) None

-- the primary of a character in a range, by its word
unfoldable pub ranged_by : TableWord → ℕ → Option ℕ
ranged_by entry c =
    let lone = lone_word entry.pools entry.word
    in cond (has_tag Offset lone) (Some (offset_primary (slice_index entry.pools.ces (index_of lone)) c)) None

-- ## The whole

-- the record of a text after a prefix, by the word of each character; numbers that are no characters have none
unfoldable pub recorded_in : (ℕ → TableWord) → List ℕ → List ℕ → Option (List Element)
recorded_in words prefix [] = None
recorded_in words prefix (c ∷ cs) =
    cond (scalars prefix && scalars (c ∷ cs)) (recorded_by (words c) c prefix cs) None

-- what tables say of weights
abbrev pub weights_of : Canonical → CollationTables → Weights
weights_of canonical tables =
    let words = counting_word canonical tables
    in record {
      recorded = recorded_in words;
      digit = λ c. cond (scalar c) (digit_by (words c)) None;
      ranged_primary = λ c. cond (scalar c) (ranged_by (words c) c) None;
      is_compressible = is_compressible_in tables.special_primaries.last_primaries;
      numeric_lead = tables.special_primaries.numeric_primary;
      dot_above = has_bit 6 tables.metadata.bits;
    }

-- what tables mean, with canonical data
abbrev pub collation_of : Canonical → CollationTables → Collation
collation_of canonical tables =
    record {
      canonical = canonical;
      weights = weights_of canonical tables;
      options = settings_of tables.metadata;
      backward = has_bit 7 tables.metadata.bits;
      groups = groups_of tables.special_primaries.last_primaries;
      reordered = reordered_in tables.reordering;
    }
