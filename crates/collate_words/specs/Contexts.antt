-- Contexts that are written: whose keys are just some texts.
use Rattle.std.specs.Prelude.{◌≡◌, ◌≢◌, ℕ, ℤ, ◌-◌, ◌^◌, List, [], Some, IsTrue}
use Rattle.std.specs.List.{Contains}
use Rattle.icu_char16trie.specs.UnitGrammar.{IsUnitTrie, IsWithin}
use Rattle.icu_char16trie.specs.UnitMaps.{MapsKey, at_node}
use Rattle.icu_collator_types.specs.declared.elements.word_tags.Tag.{Tag}
use Rattle.icu_collator_types.specs.ElementWords.{has_tag}
use Rattle.icu_collator_core.specs.ContextRules.{characters_of_units}
use Rattle.icu_collator_core.specs.Pools.{Pools, index_of, trie_of}

-- the keys of a unit trie are these texts, in units; they are no longer than can be counted
pub record AreKeys (units : List ℕ) (texts : List (List ℕ)) : Type 0 where
  pub grammar : IsUnitTrie units
  pub counted : IsWithin units (2 ^ 64 - 1)
  pub read : (key : List ℕ) (number : ℤ) → MapsKey units (at_node 0) key number
      → (text : List ℕ) × (characters_of_units key ≡ Some text) × Contains texts text
  pub spelled : (text : List ℕ) → Contains texts text
      → (key : List ℕ) × (number : ℤ) × MapsKey units (at_node 0) key number × (characters_of_units key ≡ Some text)

-- a word has a tag only where there are such texts, and then they are the keys of the context that it names
pub record HasContext (pools : Pools) (tag : Tag) (word : ℕ) (texts : List (List ℕ)) : Type 0 where
  pub some : IsTrue (has_tag tag word) → texts ≢ []
  pub keys : IsTrue (has_tag tag word) → AreKeys (trie_of pools.contexts (index_of word)) texts
