-- Words, elements and leads gathered into lists, and the test of weights in order.
use Rattle.std.specs.Prelude.{◌≡◌, ℕ, ◌-◌, ◌*◌, ◌/◌, ◌%◌, ◌^◌, ◌⊎◌, ◌↔◌, Bool, true, not, ◌==◌, ◌&&◌, ◌||◌, ltb, List, [], ◌∷◌, slice_index, IsTrue, MatchOption}
use Rattle.std.specs.List.{Contains}
use Rattle.icu_collator_types.specs.declared.elements.Element.{Element}
use Rattle.icu_collator_types.specs.declared.elements.word_tags.Tag.TheVariants.{Offset}
use Rattle.icu_collator_types.specs.ElementWords.{has_tag}
use Rattle.icu_collator_core.specs.declared.check.apart.levels.Level.{Level}
use Rattle.icu_collator_core.specs.declared.check.apart.levels.Level.TheVariants.{Primary, Secondary, Tertiary}
use Rattle.icu_collator_core.specs.declared.tables.CollationTables.{CollationTables}
use Rattle.icu_collator_core.specs.declared.tables.data.CollationData.{CollationData}
use Rattle.icu_collator_core.specs.Pools.{Pools, index_of}
use Rattle.icu_collator_core.specs.PrefixFaults.{IsSpelledIn, IsWordIn, Spells}
use Rattle.icu_collator_core.specs.TableMeaning.{pools_of, secondary_word}
use Rattle.icu_collator_core.specs.WeightRules.{has_three_bytes}

-- ## Lists

-- a list has grown by just these items
abbrev pub Grows : {X : Type 0} → (X → Type 0) → List X → List X → Type 0
Grows {X} IsNew before after = (x : X) → Contains after x ↔ (Contains before x ⊎ IsNew x)

-- a list has just these items
abbrev pub Lists : {X : Type 0} → (X → Type 0) → List X → Type 0
Lists {X} IsOne items = (x : X) → Contains items x ↔ IsOne x

-- ## What words say

-- a word of data
abbrev pub IsWordOfData : CollationData → ℕ → Type 0
IsWordOfData source word = (c : ℕ) × IsWordIn source c word

-- a word of a mark by the table of diacritics
abbrev pub IsDiacriticWord : CollationTables → ℕ → Type 0
IsDiacriticWord tables word = (secondary : ℕ) × Contains tables.diacritics.secondaries secondary × (word ≡ secondary_word secondary)

-- an element that one of the words spells
abbrev pub AreSpelling : Pools → List ℕ → Element → Type 0
AreSpelling pools words e = (word : ℕ) × Contains words word × Spells pools word e

-- an element of the tailoring
abbrev pub IsSpelledByTailoring : CollationTables → Element → Type 0
IsSpelledByTailoring tables e = MatchOption tables.tailoring ⊥ (λ source. IsSpelledIn source e)

-- an element of the table of diacritics, or of that of jamo
abbrev pub IsSpelledByTables : CollationTables → Element → Type 0
IsSpelledByTables tables e =
    ((secondary : ℕ) × Contains tables.diacritics.secondaries secondary × Spells (pools_of tables.root) (secondary_word secondary) e)
    ⊎ ((word : ℕ) × Contains tables.jamo.ce32s word × Spells (pools_of tables.root) word e)

-- the lead of the primaries that the entry of a range gives
abbrev pub HasLead : CollationData → ℕ → ℕ → Type 0
HasLead source word lead = IsTrue (has_tag Offset word) × (lead ≡ slice_index source.ces (index_of word) / 2 ^ 56)

abbrev pub HaveLead : CollationData → List ℕ → ℕ → Type 0
HaveLead source words lead = (word : ℕ) × Contains words word × HasLead source word lead

abbrev pub IsLeadOf : CollationData → ℕ → Type 0
IsLeadOf source lead = (word : ℕ) × IsWordOfData source word × HasLead source word lead

abbrev pub IsLeadOfTailoring : CollationTables → ℕ → Type 0
IsLeadOfTailoring tables lead = MatchOption tables.tailoring ⊥ (λ source. IsLeadOf source lead)

abbrev pub IsRangedLead : CollationTables → ℕ → Type 0
IsRangedLead tables lead = IsLeadOf tables.root lead ⊎ IsLeadOfTailoring tables lead

-- a primary has another lead, or three bytes
abbrev pub is_beside_lead : ℕ → Element → Bool
is_beside_lead lead e = not (e.primary / 2 ^ 24 == lead) || has_three_bytes e.primary

-- ## Weights in order

-- the weight of a level, its lead where the lead of a primary is
abbrev pub weight_on : Level → Element → ℕ
weight_on Primary e = e.primary
weight_on Secondary e = e.secondary * 2 ^ 16
weight_on Tertiary e = e.tertiary * 2 ^ 16

-- the bytes of a weight begin those of a higher one: that one lies within the room that the bytes leave after them
abbrev pub begins : ℕ → ℕ → Bool
begins weight higher =
    not (weight == 0)
    && (ltb weight higher
    && (((weight % 2 ^ 24 == 0) && ltb (higher - weight) (2 ^ 24))
    || (((weight % 2 ^ 16 == 0) && ltb (higher - weight) (2 ^ 16))
    || ((weight % 2 ^ 8 == 0) && ltb (higher - weight) (2 ^ 8)))))

-- none begins the next one
abbrev pub are_steps_apart : ℕ → List ℕ → Bool
are_steps_apart before [] = true
are_steps_apart before (weight ∷ weights) = not (begins before weight) && are_steps_apart weight weights
