-- Which tables are collation data: those without any of the faults. Each fault comes only where no earlier one does.
use Rattle.std.specs.Prelude.{◌≡◌, ◌⊎◌, true, false}
use Rattle.icu_normalizer_core.specs.Canonical.{Canonical}
use Rattle.icu_normalizer_core.specs.declared.canonical.tables.CanonicalTables.{CanonicalTables}
use Rattle.icu_collator_core.specs.declared.check.TableFault.{TableFault}
use Rattle.icu_collator_core.specs.declared.check.TableFault.TheVariants.{Trie, Word, Index, Context, Weight, PrefixOfWeight, Diacritics, Jamo, Reordering, SpecialPrimaries, Memory}
use Rattle.icu_collator_core.specs.declared.tables.CollationTables.{CollationTables}
use Rattle.icu_collator_core.specs.ContextFaults.{HasContexts}
use Rattle.icu_collator_core.specs.PrefixFaults.{AreWeightsApart}
use Rattle.icu_collator_core.specs.TableFaults.{AllPassIn, HasCell, HasIndices, HasWord, IsFirstRefused}
use Rattle.icu_collator_core.specs.WeightFaults.{AreSoundJamo, AreSoundSpecialPrimaries, HasSoundReordering, IsJamoFault, are_sound_diacritics}
use Rattle.icu_collator_core.specs.WordWeights.{HasWeights}

-- tables with none of the faults that name a character
pub record HaveSoundWords (canonical : Canonical) (tables : CollationTables) : Type 0 where
  pub cells : AllPassIn tables HasCell
  pub words : AllPassIn tables HasWord
  pub indices : AllPassIn tables HasIndices
  pub contexts : AllPassIn tables (HasContexts canonical tables)
  pub weights : AllPassIn tables (HasWeights tables.special_primaries)

-- tables with no fault
pub record IsAccepted (canonical : Canonical) (tables : CollationTables) : Type 0 where
  pub characters : HaveSoundWords canonical tables
  pub apart : AreWeightsApart tables
  pub diacritics : are_sound_diacritics tables ≡ true
  pub jamo : AreSoundJamo tables
  pub reordering : HasSoundReordering tables
  pub special_primaries : AreSoundSpecialPrimaries tables.special_primaries

-- the first fault of tables; refused memory is none of theirs
abbrev pub IsFirstFault : Canonical → CollationTables → TableFault → Type 0
IsFirstFault canonical tables (Trie c) = IsFirstRefused tables HasCell c
IsFirstFault canonical tables (Word c) = AllPassIn tables HasCell × IsFirstRefused tables HasWord c
IsFirstFault canonical tables (Index c) = AllPassIn tables HasCell × AllPassIn tables HasWord × IsFirstRefused tables HasIndices c
IsFirstFault canonical tables (Context c) =
    AllPassIn tables HasCell × AllPassIn tables HasWord × AllPassIn tables HasIndices
    × IsFirstRefused tables (HasContexts canonical tables) c
IsFirstFault canonical tables (Weight c) =
    AllPassIn tables HasCell × AllPassIn tables HasWord × AllPassIn tables HasIndices × AllPassIn tables (HasContexts canonical tables)
    × IsFirstRefused tables (HasWeights tables.special_primaries) c
IsFirstFault canonical tables PrefixOfWeight = HaveSoundWords canonical tables × (AreWeightsApart tables → ⊥)
IsFirstFault canonical tables Diacritics =
    HaveSoundWords canonical tables × AreWeightsApart tables × (are_sound_diacritics tables ≡ false)
IsFirstFault canonical tables (Jamo index) =
    HaveSoundWords canonical tables × AreWeightsApart tables × (are_sound_diacritics tables ≡ true) × IsJamoFault tables index
IsFirstFault canonical tables Reordering =
    HaveSoundWords canonical tables × AreWeightsApart tables × (are_sound_diacritics tables ≡ true) × AreSoundJamo tables
    × (HasSoundReordering tables → ⊥)
IsFirstFault canonical tables SpecialPrimaries =
    HaveSoundWords canonical tables × AreWeightsApart tables × (are_sound_diacritics tables ≡ true) × AreSoundJamo tables
    × HasSoundReordering tables × (AreSoundSpecialPrimaries tables.special_primaries → ⊥)
IsFirstFault canonical tables Memory = ⊥

-- what the check answers where it accepts nothing; memory may lack for any tables
abbrev pub IsRefusal : Canonical → CollationTables → TableFault → Type 0
IsRefusal canonical tables fault = (fault ≡ Memory) ⊎ IsFirstFault canonical tables fault

-- canonical and collation tables together
pub record CollationSource : Type 0 where
  pub canonical : CanonicalTables
  pub tables : CollationTables
