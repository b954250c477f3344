-- Collation tables, as they are compiled of the lines of a records file.
use Rattle.std.specs.Prelude.{◌≡◌, ℕ, ◌+◌, ◌^◌, ◌<◌, true, false, List, [], ◌∷◌, All, IfSome, length, slice_index, IsTrue, MatchOption, Some, Option, is_some}
use Rattle.icu_codepointtrie.specs.declared.trie.TrieType.{TrieType}
use Rattle.icu_collator_types.specs.declared.elements.Element.{Element}
use Rattle.icu_collator_core.specs.declared.tables.CollationTables.{CollationTables}
use Rattle.icu_collator_core.specs.declared.tables.metadata.CollationMetadata.{CollationMetadata}
use Rattle.icu_collator_core.specs.declared.tables.reordering.CollationReordering.{CollationReordering}
use Rattle.icu_collator_core.specs.declared.tables.special_primaries.CollationSpecialPrimaries.{CollationSpecialPrimaries}
use Rattle.icu_collator_core.specs.Collation.{with_lead}
use Rattle.icu_collator_core.specs.Defaults.{jamo_primary}
use Rattle.icu_collator_core.specs.Pools.{stated_element}
use Rattle.icu_collator_core.specs.TableSettings.{groups_of, has_bit, is_compressible_in, reordered_in, settings_of}
use Rattle.icu_collator_core.specs.WordForms.{states_element}
use Rattle.collate_lines.specs.Record.{Record}
use Rattle.collate_rules.specs.Meaning as lines
use Rattle.collate_rules.specs.SettingLines as set
use Rattle.collate_compile.specs.LineSayings.{is_tailored}
use Rattle.collate_compile.specs.Layers.{HasTrieType, IsRootOf, IsTailoringOf}

-- ## The table of jamo

-- a word states the one element of a list
abbrev pub StatesAlone : ℕ → List Element → Type 0
StatesAlone word es = (e : Element) × (es ≡ e ∷ []) × IsTrue (states_element word) × (stated_element word ≡ Some e)

-- the word of a jamo: its record's, else that of the primary that it has by itself
abbrev pub IsJamoWord : List Record → ℕ → ℕ → Type 0
IsJamoWord records c word =
    (word < 2 ^ 32) × MatchOption (lines.recorded_in records [] (c ∷ [])) (word ≡ jamo_primary c + 0xc1) (StatesAlone word)

pub record AreJamoOf (records : List Record) (words : List ℕ) : Type 0 where
  pub count : length words ≡ 256
  pub each : (i : ℕ) → i < 256 → IsJamoWord records (0x1100 + i) (slice_index words i)

-- ## Settings

pub record AreSettingsOf (records : List Record) (metadata : CollationMetadata) : Type 0 where
  pub options : settings_of metadata ≡ lines.settings_of records
  pub backward : has_bit 7 metadata.bits ≡ lines.set_to lines.backward_in false records
  pub dot_above : has_bit 6 metadata.bits ≡ lines.set_to lines.dot_above_in false records
  -- the secondaries of marks are a tailoring's, of which there may be fewer
  pub diacritics : has_bit 4 metadata.bits ≡ true

pub record ArePrimariesOf (records : List Record) (special_primaries : CollationSpecialPrimaries) : Type 0 where
  pub count : length special_primaries.last_primaries ≡ 20
  pub groups : groups_of special_primaries.last_primaries ≡ set.groups_of records
  pub numeric : special_primaries.numeric_primary ≡ set.numeric_of records
  pub compressible : (lead : ℕ) → is_compressible_in special_primaries.last_primaries lead ≡ lines.is_compressible_in records lead

-- each primary is moved with its whole lead, which a byte of the table stands for
pub record IsReorderingOf (records : List Record) (reordering : Option CollationReordering) : Type 0 where
  pub moved : (p : ℕ) → reordered_in reordering p ≡ with_lead (lines.place_among (set.reorder_of records)) p
  pub count : IfSome reordering (λ r. length r.reorder_table ≡ 256)
  pub bytes : IfSome reordering (λ r. All (λ byte. byte < 2 ^ 8) r.reorder_table)

-- ## The type of tries

-- the tries of the root and of the tailoring, where there is one, are of this type
pub record HaveTrieType (trie_type : TrieType) (tables : CollationTables) : Type 0 where
  pub root : HasTrieType trie_type tables.root
  pub tailoring : IfSome tables.tailoring (HasTrieType trie_type)

-- ## The whole

pub record AreCompiledFrom (records : List Record) (tables : CollationTables) : Type 0 where
  pub root : IsRootOf records tables.root
  -- there is a tailoring where some character needs it
  pub tailoring : MatchOption tables.tailoring ((c : ℕ) → is_tailored records c ≡ false) (IsTailoringOf records)
  pub jamo : AreJamoOf records tables.jamo.ce32s
  pub no_diacritics : tables.diacritics.secondaries ≡ []
  pub settings : AreSettingsOf records tables.metadata
  pub tailored : has_bit 3 tables.metadata.bits ≡ is_some tables.tailoring
  pub is_reordering : has_bit 5 tables.metadata.bits ≡ is_some tables.reordering
  pub special_primaries : ArePrimariesOf records tables.special_primaries
  pub reordering : IsReorderingOf records tables.reordering
