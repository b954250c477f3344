-- Whether the words of a character spell what keeps the rules on weights: the word by itself, and those in its contexts.
use Rattle.std.specs.Prelude.{ℕ, IsTrue}
use Rattle.icu_collator_types.specs.declared.elements.word_tags.Tag.TheVariants.{Prefix, Contraction}
use Rattle.icu_collator_types.specs.ElementWords.{has_tag}
use Rattle.icu_collator_core.specs.declared.check.layers.Layer.{Layer}
use Rattle.icu_collator_core.specs.declared.tables.data.CollationData.{CollationData}
use Rattle.icu_collator_core.specs.declared.tables.special_primaries.CollationSpecialPrimaries.{CollationSpecialPrimaries}
use Rattle.icu_collator_core.specs.Pools.{Pools, lone_word, unprefixed_word}
use Rattle.icu_collator_core.specs.TableMeaning.{pools_of, word_at}
use Rattle.icu_collator_core.specs.WeightFaults.{is_sound_in_context, is_sound_lone_word}
use Rattle.icu_collator_core.specs.WordForms.{ValuesPass}

-- the word by itself may be that of the character's own element; those in contexts may not
abbrev pub HasSoundWords : CollationSpecialPrimaries → Pools → ℕ → ℕ → Type 0
HasSoundWords special_primaries pools c word =
    IsTrue (is_sound_lone_word special_primaries pools c (lone_word pools word))
    × (IsTrue (has_tag Contraction (unprefixed_word pools word))
    → ValuesPass pools (is_sound_in_context special_primaries pools c) (unprefixed_word pools word))
    × (IsTrue (has_tag Prefix word) → ValuesPass pools (is_sound_in_context special_primaries pools c) word)

-- the words that data have for a character do
abbrev pub HasWeights : CollationSpecialPrimaries → Layer → CollationData → ℕ → Type 0
HasWeights special_primaries layer source c = HasSoundWords special_primaries (pools_of source) c (word_at source c)
