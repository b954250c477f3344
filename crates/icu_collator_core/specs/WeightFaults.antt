-- What the tables of a collation are refused for by their weights: one predicate for each fault.
use Rattle.std.specs.Prelude.{◌≡◌, ◌≢◌, ℕ, ◌+◌, ◌-◌, ◌*◌, ◌/◌, ◌%◌, ◌^◌, ◌<◌, ◌↔◌, ◌⊎◌, Bool, true, false, cond, ◌==◌, ◌&&◌, ◌||◌, leb, ltb, min, List, [], ◌∷◌, length, slice_index, Option, Some, None, IfSome}
use Rattle.std.specs.List.{list_all}
use Rattle.icu_collator_types.specs.declared.elements.Element.{Element}
use Rattle.icu_collator_types.specs.declared.elements.word_tags.Tag.TheVariants.{Offset}
use Rattle.icu_collator_types.specs.ElementWords.{has_tag}
use Rattle.icu_collator_core.specs.declared.tables.CollationTables.{CollationTables}
use Rattle.icu_collator_core.specs.declared.tables.metadata.CollationMetadata.{CollationMetadata}
use Rattle.icu_collator_core.specs.declared.tables.reordering.CollationReordering.{CollationReordering}
use Rattle.icu_collator_core.specs.declared.tables.special_primaries.CollationSpecialPrimaries.{CollationSpecialPrimaries}
use Rattle.icu_collator_core.specs.SettingRules.{are_sound_groups}
use Rattle.icu_collator_core.specs.Weights.{Weights}
use Rattle.icu_collator_core.specs.WeightRules.{is_letter_lead, is_sound_element, is_sound_ranged, is_sound_secondary, lowest_second, second_count}
use Rattle.icu_collator_core.specs.PlainLeads.{leads_alone}
use Rattle.icu_collator_core.specs.Pools.{Pools, elements_of_word, index_of, offset_primary, stated_element}
use Rattle.icu_collator_core.specs.TableMeaning.{is_primary_alone, own_primary}
use Rattle.icu_collator_core.specs.TableSettings.{groups_of, has_bit, is_compressible_in, reordered_by}
use Rattle.icu_collator_core.specs.WordForms.{states_element}

-- ## Elements

-- what tables say of leads, and nothing else; the rules on one element ask no more
abbrev pub leads_of : CollationSpecialPrimaries → Weights
leads_of special_primaries =
    leads_alone (is_compressible_in special_primaries.last_primaries) special_primaries.numeric_primary

-- V1 to V4 of an element that tables spell; the last of the four values of case is none
unfoldable pub is_sound_spelled : CollationSpecialPrimaries → Element → Bool
is_sound_spelled special_primaries e = leb e.case 2 && is_sound_element (leads_of special_primaries) e

-- whether an element is a primary with common weights on the other levels
unfoldable pub is_primary_element : ℕ → Element → Bool
is_primary_element p e = is_primary_alone p (e ∷ [])

-- whether an element is the one that a character has by itself, by its primary there; in a context no element is that
abbrev pub is_own_element : Option ℕ → Element → Bool
is_own_element None e = false
is_own_element (Some p) e = is_primary_element p e

-- whether elements are that one
abbrev pub is_own_alone : Option ℕ → List Element → Bool
is_own_alone own [] = false
is_own_alone own (e ∷ []) = is_own_element own e
is_own_alone own (e ∷ f ∷ es) = false

-- whether elements keep V1 to V4, or are the one that the character has by itself
abbrev pub are_sound_spelled : CollationSpecialPrimaries → Option ℕ → List Element → Bool
are_sound_spelled special_primaries own es =
    is_own_alone own es || list_all (is_sound_spelled special_primaries) es

-- ## Words

-- how far the entry of a range moves its primary for a character
abbrev pub moved_by : ℕ → ℕ → ℕ
moved_by bits c = (c - bits / 2 ^ 8 % 2 ^ 24) * (bits % 2 ^ 7)

-- whether a primary that is moved on keeps its lead: its second byte doesn't pass the last one
abbrev pub keeps_lead : Bool → ℕ → ℕ → Bool
keeps_lead compressible primary by =
    let third = primary / 2 ^ 8 % 256 - 2 + by
    in let second = primary / 2 ^ 16 % 256 - lowest_second compressible + third / 254
    in ltb second (second_count compressible)

-- whether the entry of a range gives a character a primary that keeps the rules: the character isn't below the base
unfoldable pub is_sound_offset : CollationSpecialPrimaries → ℕ → ℕ → Bool
is_sound_offset special_primaries bits c =
    leb (bits / 2 ^ 8 % 2 ^ 24) c
    && keeps_lead (bits / 2 ^ 7 % 2 == 1) (bits / 2 ^ 32) (moved_by bits c)
    && is_sound_ranged (leads_of special_primaries) (offset_primary bits c)

-- whether what a word says of a character keeps the rules, or is the element that the character has by itself
unfoldable pub is_sound_word : CollationSpecialPrimaries → Pools → Option ℕ → ℕ → ℕ → Bool
is_sound_word special_primaries pools own c word =
    cond (has_tag Offset word) (is_sound_offset special_primaries (slice_index pools.ces (index_of word)) c)
    (elim (elements_of_word pools word) [ Some es ↦ are_sound_spelled special_primaries own es | None ↦ true ])

-- the same where nothing stands before or after the character: it may have its own element
abbrev pub is_sound_lone_word : CollationSpecialPrimaries → Pools → ℕ → ℕ → Bool
is_sound_lone_word special_primaries pools c word = is_sound_word special_primaries pools (Some (own_primary c)) c word

-- the same in a context, where that element counts as a record
abbrev pub is_sound_in_context : CollationSpecialPrimaries → Pools → ℕ → ℕ → Bool
is_sound_in_context special_primaries pools c word = is_sound_word special_primaries pools None c word

-- ## Diacritics: more than 79 secondaries, fewer where they are the root's, or one that breaks V3

-- the secondaries that the root has
abbrev pub diacritic_count : ℕ
diacritic_count = 79

-- whether there may be so many; a tailoring may have fewer
abbrev pub is_diacritic_count : CollationMetadata → ℕ → Bool
is_diacritic_count metadata count = leb count diacritic_count && (has_bit 4 metadata.bits || (count == diacritic_count))

-- whether the secondary of a mark keeps V3
unfoldable pub is_sound_diacritic : ℕ → Bool
is_sound_diacritic secondary = is_sound_secondary secondary

abbrev pub are_sound_diacritics : CollationTables → Bool
are_sound_diacritics tables =
    is_diacritic_count tables.metadata (length tables.diacritics.secondaries)
    && list_all is_sound_diacritic tables.diacritics.secondaries

-- ## SpecialPrimaries: groups, compressible leads or a lead of numbers that break the rule on settings

-- whether a lead may be compressible
abbrev pub may_be_compressible : ℕ → Bool
may_be_compressible lead = is_letter_lead lead || (lead == 0xfe)

-- a lead is not compressible, or may be
abbrev pub KeepsCompressibleLead : List ℕ → ℕ → Type 0
KeepsCompressibleLead last_primaries lead = is_compressible_in last_primaries lead ≡ true → may_be_compressible lead ≡ true

-- no lead is compressible but those that may be
abbrev pub AreSoundCompressible : List ℕ → Type 0
AreSoundCompressible last_primaries = (lead : ℕ) → KeepsCompressibleLead last_primaries lead

pub record AreSoundSpecialPrimaries (special_primaries : CollationSpecialPrimaries) : Type 0 where
  pub groups : are_sound_groups special_primaries.numeric_primary (groups_of special_primaries.last_primaries) ≡ true
  pub numeric : is_letter_lead special_primaries.numeric_primary ≡ true
  pub compressible : AreSoundCompressible special_primaries.last_primaries

-- ## Jamo: a table of other than 256 words, or a word of no sound element

-- whether the word of a jamo, by its index, states an element that keeps the rules, or the one that it has by itself
unfoldable pub is_sound_jamo : CollationTables → ℕ → Bool
is_sound_jamo tables index =
    states_element (slice_index tables.jamo.ce32s index)
    && elim (stated_element (slice_index tables.jamo.ce32s index)) [
      | Some e ↦ are_sound_spelled tables.special_primaries (Some (own_primary (0x1100 + index))) (e ∷ [])
      | None ↦ false
    ]

-- how many jamo the table has words of
abbrev pub jamo_count : ℕ
jamo_count = 256

pub record AreSoundJamo (tables : CollationTables) : Type 0 where
  pub count : length tables.jamo.ce32s ≡ jamo_count
  pub sound : (index : ℕ) → index < jamo_count → is_sound_jamo tables index ≡ true

-- the least index of a word that is none
pub record IsLeastJamo (tables : CollationTables) (index : ℕ) : Type 0 where
  pub count : length tables.jamo.ce32s ≡ jamo_count
  pub inside : index < jamo_count
  pub offends : is_sound_jamo tables index ≡ false
  pub before : (other : ℕ) → other < index → is_sound_jamo tables other ≡ true

-- of a table of another length, that is the fault: its end, or that of a table of 256 words
abbrev pub IsJamoFault : CollationTables → ℕ → Type 0
IsJamoFault tables index =
    IsLeastJamo tables index
    ⊎ ((length tables.jamo.ce32s ≢ jamo_count) × (index ≡ min (length tables.jamo.ce32s) jamo_count))

-- ## Reordering: a table of other than 256 bytes, or one that doesn't keep primaries apart

-- two primaries get the same upper half just where theirs are the same
abbrev pub KeepsApart : CollationReordering → Type 0
KeepsApart reordering =
    (p q : ℕ) → p < 2 ^ 32 → q < 2 ^ 32
    → (reordered_by reordering p / 2 ^ 16 ≡ reordered_by reordering q / 2 ^ 16) ↔ (p / 2 ^ 16 ≡ q / 2 ^ 16)

-- a primary whose lead is none of letters stays
abbrev pub KeepsOthers : CollationReordering → Type 0
KeepsOthers reordering = (p : ℕ) → p < 2 ^ 32 → is_letter_lead (p / 2 ^ 24) ≡ false → reordered_by reordering p ≡ p

-- where two primaries get the same lead, theirs are alike compressible
abbrev pub KeepsCompressible : CollationSpecialPrimaries → CollationReordering → Type 0
KeepsCompressible special_primaries reordering =
    (p q : ℕ) → p < 2 ^ 32 → q < 2 ^ 32
    → reordered_by reordering p / 2 ^ 24 ≡ reordered_by reordering q / 2 ^ 24
    → is_compressible_in special_primaries.last_primaries (p / 2 ^ 24)
    ≡ is_compressible_in special_primaries.last_primaries (q / 2 ^ 24)

pub record IsSoundReordering (special_primaries : CollationSpecialPrimaries) (reordering : CollationReordering) : Type 0 where
  pub count : length reordering.reorder_table ≡ 256
  pub apart : KeepsApart reordering
  pub others : KeepsOthers reordering
  pub compressible : KeepsCompressible special_primaries reordering

abbrev pub HasSoundReordering : CollationTables → Type 0
HasSoundReordering tables = IfSome tables.reordering (IsSoundReordering tables.special_primaries)
