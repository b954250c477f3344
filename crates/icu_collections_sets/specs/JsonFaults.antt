-- Why a value is no set of code points.
use Rattle.std.specs.Prelude.{◌≡◌, ℕ, List, ◌++◌, Some, None, codes, decimal}
use Rattle.serde_json.specs.Data.{Data}
use Rattle.serde_json.specs.Find.{as_array}
use Rattle.serde_json.specs.View.{items_of}
use Rattle.icu_collections_sets.specs.Json.{IsItemFault, IsOrderFault}
use Rattle.icu_collections_sets.specs.StringListFaults.{fault_text}
use Rattle.icu_collections_sets.specs.declared.json.error.JsonError.{JsonError}
use Rattle.icu_collections_sets.specs.declared.json.error.JsonError.TheVariants.{JsonShape, JsonItem, JsonOrder, Strings, Memory}

-- why the values of an array spell no set: the first index at which a value spells no range, or one that does not come after the range before
abbrev pub IsRefusedItems : List Data → JsonError → Type 0
IsRefusedItems items JsonShape = ⊥
IsRefusedItems items (JsonItem index) = IsItemFault items index
IsRefusedItems items (JsonOrder index) = IsOrderFault items index
IsRefusedItems items (Strings fault) = ⊥
IsRefusedItems items Memory = Unit {0}

-- why a value stands for no set: it is no array, or its values spell none
abbrev pub IsRefusedJson : Data → JsonError → Type 0
IsRefusedJson value JsonShape = as_array value ≡ None
IsRefusedJson value (JsonItem index) = (items : List Data) × (as_array value ≡ Some (items_of items)) × IsItemFault items index
IsRefusedJson value (JsonOrder index) = (items : List Data) × (as_array value ≡ Some (items_of items)) × IsOrderFault items index
IsRefusedJson value (Strings fault) = ⊥
IsRefusedJson value Memory = Unit {0}

-- the refusal as it prints
abbrev pub refusal_text : JsonError → List ℕ
refusal_text JsonShape = codes "not the shape of a set"
refusal_text (JsonItem index) = codes "no range at item " ++ decimal index
refusal_text (JsonOrder index) = codes "not sorted at item " ++ decimal index
refusal_text (Strings fault) = fault_text fault
refusal_text Memory = codes "out of memory"
