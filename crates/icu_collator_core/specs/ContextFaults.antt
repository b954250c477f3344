-- Whether the word of a character keeps the rules on contexts, and the tests that decide it.
use Rattle.std.specs.Prelude.{ℕ, Bool, false, cond, not, ◌||◌, leb, List, length, IsTrue, Option, Some, None}
use Rattle.icu_normalizer_core.specs.Canonical.{Canonical}
use Rattle.icu_collator_types.specs.declared.elements.Element.{Element}
use Rattle.icu_collator_types.specs.declared.elements.word_tags.Tag.TheVariants.{Contraction, Digit, Prefix}
use Rattle.icu_collator_types.specs.ElementWords.{has_tag}
use Rattle.icu_collator_core.specs.declared.check.flags.Question.{Question}
use Rattle.icu_collator_core.specs.declared.check.flags.Question.TheVariants.{BeginsWithMark, EndsInNoMark, HoldsNoStarter}
use Rattle.icu_collator_core.specs.declared.check.layers.Layer.{Layer}
use Rattle.icu_collator_core.specs.declared.tables.CollationTables.{CollationTables}
use Rattle.icu_collator_core.specs.declared.tables.data.CollationData.{CollationData}
use Rattle.icu_collator_core.specs.ContextRules.{AreFlagsTrue, KeepsContextRules, KeysPass, begins_with_mark, ends_in_mark, holds_starter, is_prefix, is_recorded_by, is_suffix, longest_suffix, may_be_digit, may_have_prefix, units_named}
use Rattle.icu_collator_core.specs.TableMeaning.{TableWord, is_primary_alone, own_primary, pools_of, weights_of, word_in}

-- ## The rule

-- the word that data have for a character keeps the rules on contexts
abbrev pub HasContexts : Canonical → CollationTables → Layer → CollationData → ℕ → Type 0
HasContexts canonical tables layer source c = KeepsContextRules canonical (weights_of canonical tables).digit (word_in source c) c

-- ## Tests

-- a word with the lists of data
abbrev pub entry_in : CollationData → ℕ → TableWord
entry_in source word = record { word = word; pools = pools_of source }

-- elements, if a word says any, other than the one that the character has by itself
abbrev pub are_others : ℕ → Option (List Element) → Bool
are_others c None = false
are_others c (Some es) = not (is_primary_alone (own_primary c) es)

-- what is asked of each suffix for a flag
abbrev pub answer : Canonical → Question → List ℕ → Bool
answer canonical BeginsWithMark suffix = begins_with_mark canonical suffix
answer canonical EndsInNoMark suffix = not (ends_in_mark canonical suffix)
answer canonical HoldsNoStarter suffix = not (holds_starter canonical suffix)

-- a suffix that is no longer than it may be
abbrev pub is_short : List ℕ → Bool
is_short suffix = leb (length suffix) longest_suffix

-- a flag is set just where a fact holds
abbrev pub agree : Bool → Bool → Bool
agree flag fact = cond flag fact (not fact)

-- ## The rules, one after another

-- the word of a digit stands on a character that may be one
abbrev pub keeps_digit_rule : Canonical → TableWord → ℕ → Bool
keeps_digit_rule canonical entry c = not (has_tag Digit entry.word) || may_be_digit canonical (is_recorded_by entry) c

-- a character with prefixes may have them, and all keys of their context are prefixes
abbrev pub KeepsPrefixRules : Canonical → (ℕ → Option ℕ) → TableWord → ℕ → Type 0
KeepsPrefixRules canonical digit entry c =
    IsTrue (has_tag Prefix entry.word)
    → IsTrue (may_have_prefix canonical digit (is_recorded_by entry) c) × KeysPass (is_prefix canonical digit) (units_named entry entry.word)

-- all keys of a contraction are suffixes of the character, and its flags are true of them
abbrev pub KeepsSuffixRules : Canonical → TableWord → ℕ → ℕ → Type 0
KeepsSuffixRules canonical entry c word =
    IsTrue (has_tag Contraction word)
    → KeysPass (is_suffix canonical (is_recorded_by entry) c) (units_named entry word) × AreFlagsTrue canonical word (units_named entry word)
