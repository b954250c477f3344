-- Whether the weights that tables spell keep apart: all elements of all words, also of those that don't count because another
-- word does, of the table of diacritics and of that of jamo.
use Rattle.std.specs.Prelude.{◌≡◌, ℕ, ℤ, ◌⊎◌, true, List, slice_index, Some, IsTrue, MatchOption}
use Rattle.std.specs.Char.{IsScalar}
use Rattle.std.specs.Int.{cast_unsigned, w32}
use Rattle.std.specs.List.{Contains}
use Rattle.icu_char16trie.specs.UnitMaps.{MapsKey, at_node}
use Rattle.icu_collator_types.specs.declared.elements.Element.{Element}
use Rattle.icu_collator_types.specs.declared.elements.word_tags.Tag.TheVariants.{Prefix, Contraction, Offset}
use Rattle.icu_collator_types.specs.ElementWords.{has_tag}
use Rattle.icu_collator_core.specs.declared.tables.CollationTables.{CollationTables}
use Rattle.icu_collator_core.specs.declared.tables.data.CollationData.{CollationData}
use Rattle.icu_collator_core.specs.Pools.{Pools, elements_of_word, index_of, lone_word, offset_primary, trie_of, unprefixed_word}
use Rattle.icu_collator_core.specs.TableMeaning.{pools_of, secondary_word, word_at}
use Rattle.icu_collator_core.specs.WeightRules.{AreApart, is_beside_ranged}
use Rattle.icu_collator_core.specs.WordForms.{AreReadable}

-- ## Words

-- the context that a word names has a value, for some key
abbrev pub HasValue : Pools → ℕ → ℕ → Type 0
HasValue pools word value =
    (key : List ℕ) × (number : ℤ)
    × AreReadable (trie_of pools.contexts (index_of word))
    × MapsKey (trie_of pools.contexts (index_of word)) (at_node 0) key number
    × (cast_unsigned w32 number ≡ value)

-- the words within that of a character: by itself, before others, and after others
abbrev pub IsAmong : Pools → ℕ → ℕ → Type 0
IsAmong pools word one =
    (one ≡ lone_word pools word)
    ⊎ ((IsTrue (has_tag Contraction (unprefixed_word pools word)) × HasValue pools (unprefixed_word pools word) one)
    ⊎ (IsTrue (has_tag Prefix word) × HasValue pools word one))

-- a word of a character in data
abbrev pub IsWordIn : CollationData → ℕ → ℕ → Type 0
IsWordIn source c word = IsScalar c × IsAmong (pools_of source) (word_at source c) word

-- ## Elements, and primaries of ranges

-- an element that a word spells
abbrev pub Spells : Pools → ℕ → Element → Type 0
Spells pools word e = (es : List Element) × (elements_of_word pools word ≡ Some es) × Contains es e

abbrev pub IsSpelledIn : CollationData → Element → Type 0
IsSpelledIn source e = (c : ℕ) × (word : ℕ) × IsWordIn source c word × Spells (pools_of source) word e

-- of the root, the tailoring, the secondaries of marks, or the jamo
abbrev pub IsSpelled : CollationTables → Element → Type 0
IsSpelled tables e =
    (IsSpelledIn tables.root e ⊎ MatchOption tables.tailoring ⊥ (λ source. IsSpelledIn source e))
    ⊎ (((secondary : ℕ) × Contains tables.diacritics.secondaries secondary × Spells (pools_of tables.root) (secondary_word secondary) e)
    ⊎ ((word : ℕ) × Contains tables.jamo.ce32s word × Spells (pools_of tables.root) word e))

-- the primary that the entry of a range gives a character
abbrev pub IsRangedIn : CollationData → ℕ → Type 0
IsRangedIn source p =
    (c : ℕ) × (word : ℕ)
    × IsWordIn source c word
    × IsTrue (has_tag Offset word)
    × (p ≡ offset_primary (slice_index source.ces (index_of word)) c)

abbrev pub IsRanged : CollationTables → ℕ → Type 0
IsRanged tables p = IsRangedIn tables.root p ⊎ MatchOption tables.tailoring ⊥ (λ source. IsRangedIn source p)

-- ## The rule

-- no weight's bytes begin another's on its level, and a lead of ranges has no primaries but of three bytes
pub record AreWeightsApart (tables : CollationTables) : Type 0 where
  pub apart : AreApart (IsSpelled tables)
  pub beside : (p : ℕ) (e : Element) → IsRanged tables p → IsSpelled tables e → is_beside_ranged p e ≡ true
