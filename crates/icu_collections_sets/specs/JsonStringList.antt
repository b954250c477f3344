-- Sets of code points and strings as JSON: an object of the code points and the strings.
use Rattle.std.specs.Prelude.{◌≡◌, ◌≢◌, ℕ, List, map, Some, codes}
use Rattle.serde_json.specs.Data.{Data, string, array, object, Members, no_members, member}
use Rattle.serde_json.specs.Events.{members_len}
use Rattle.serde_json.specs.Find.{as_array, as_object, get}
use Rattle.serde_json.specs.View.{items_of}
use Rattle.icu_collections_sets.specs.Json.{json_of, SpellSet, IsItemFault, IsOrderFault}
use Rattle.icu_collections_sets.specs.StringList.{CodePointsAndStrings, AreStrings}
use Rattle.icu_collections_sets.specs.StringListFaults.{IsFirstFault}
use Rattle.icu_collections_sets.specs.declared.json.error.JsonError.{JsonError}
use Rattle.icu_collections_sets.specs.declared.json.error.JsonError.TheVariants.{JsonShape, JsonItem, JsonOrder, Strings, Memory}

-- what a set with strings is as JSON
abbrev pub string_list_json_of : CodePointsAndStrings → Data
string_list_json_of set =
    object (member (codes "code_points") (json_of set.code_points)
    (member (codes "strings") (array (items_of (map string set.strings))) no_members))

-- a value is an object of just two members, by their names
pub record HasMembers (value list texts : Data) : Type 0 where
  pub members : Members
  pub is_object : as_object value ≡ Some members
  pub two : members_len members ≡ 2
  pub has_list : get (codes "code_points") value ≡ Some list
  pub has_texts : get (codes "strings") value ≡ Some texts

-- a value is an object of an array and an array of texts
pub record HasShape (value : Data) (items : List Data) (strings : List (List ℕ)) : Type 0 where
  pub list : Data
  pub texts : Data
  pub has : HasMembers value list texts
  pub is_list : as_array list ≡ Some (items_of items)
  pub are_texts : as_array texts ≡ Some (items_of (map string strings))

-- a value stands for a set with strings
pub record IsStringListJson (value : Data) (set : CodePointsAndStrings) : Type 0 where
  pub items : List Data
  pub shape : HasShape value items set.strings
  pub spell : SpellSet items set.code_points
  pub strings : AreStrings set.strings

-- why a value is no array of texts
abbrev pub IsNoTexts : Data → JsonError → Type 0
IsNoTexts value JsonShape = (texts : List (List ℕ)) → as_array value ≢ Some (items_of (map string texts))
IsNoTexts value (JsonItem index) = ⊥
IsNoTexts value (JsonOrder index) = ⊥
IsNoTexts value (Strings fault) = ⊥
IsNoTexts value Memory = Unit {0}

-- why a value stands for no set with strings: it has not the shape, else its items spell no set, else its texts are no strings of a set
abbrev pub IsRefusedStringList : Data → JsonError → Type 0
IsRefusedStringList value JsonShape = (items : List Data) (strings : List (List ℕ)) → ¬ HasShape value items strings
IsRefusedStringList value (JsonItem index) = (items : List Data) × (strings : List (List ℕ)) × HasShape value items strings × IsItemFault items index
IsRefusedStringList value (JsonOrder index) = (items : List Data) × (strings : List (List ℕ)) × HasShape value items strings × IsOrderFault items index
IsRefusedStringList value (Strings fault) = (items : List Data) × (strings : List (List ℕ)) × HasShape value items strings × ((set : List ℕ) × SpellSet items set) × IsFirstFault strings fault
IsRefusedStringList value Memory = Unit {0}
