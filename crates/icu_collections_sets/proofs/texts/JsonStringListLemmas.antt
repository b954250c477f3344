-- Facts on the JSON objects that stand for a set with strings.
use Rattle.std.proofs.Common.{◌≡◌, ℕ, ◌+◌, ◌-◌, ◌<◌, List, [], ◌∷◌, ◌++◌, length, get_or, take, map, None, Some, String, Global, string_bytes, codes, nat_cmp, Less, Equal, Greater, refl, sym, ap, ◌∙◌, subst, arith}
use Rattle.std.proofs.lemmas.Cmp.{nat_list_cmp_total, tied_itself}
use Rattle.std.proofs.lemmas.List.{get_or-map, length-map, map-append, take_more}
use Rattle.std.specs.Cmp.Lexicographic.{slice_cmp}
use Rattle.serde_json.proofs.Views.{Entry, members_len-members_view}
use Rattle.serde_json.specs.Data.{Data, null, string, boolean, number, array, object}
use Rattle.serde_json.specs.Events.{members_len}
use Rattle.serde_json.specs.Find.{as_str, as_array, as_object, get}
use Rattle.serde_json.specs.View.{view, items_of, members_view}
use Rattle.serde_json.specs.declared.value.Value.{Value}
use Rattle.icu_collections_sets.specs.CodePoints.{IsInversionList, ranges_of}
use Rattle.icu_collections_sets.specs.Json.{json_of, SpellRanges, SpellSet, IsJson, item_at}
use Rattle.icu_collections_sets.specs.JsonFaults.{IsRefusedJson}
use Rattle.icu_collections_sets.specs.JsonStringList.{string_list_json_of, HasMembers, HasShape, IsStringListJson, IsNoTexts, IsRefusedStringList}
use Rattle.icu_collections_sets.specs.StringList.{CodePointsAndStrings, AreStrings, text_at}
use Rattle.icu_collections_sets.specs.StringListFaults.{IsFirstFault, IsFaultAt}
use Rattle.icu_collections_sets.specs.declared.codepointinvliststringlist.InvalidStringList.{InvalidStringList}
use Rattle.icu_collections_sets.specs.declared.codepointinvliststringlist.InvalidStringList.TheVariants.{InvalidStringLength, StringListNotUnique, StringListNotSorted}
use Rattle.icu_collections_sets.specs.declared.json.error.JsonError.{JsonError}
use Rattle.icu_collections_sets.specs.declared.json.error.JsonError.TheVariants.{JsonShape, JsonItem, JsonOrder, Strings, Memory}
use Rattle.icu_collections_sets.proofs.texts.JsonLemmas.{some_same, same_items, item_at-map, no_item_fault, no_order_fault, one_list, one_set, IsJson-json_of}
use Rattle.icu_collections_sets.proofs.texts.StringListLemmas.{text_at-map}

-- ---- members and texts

pub counted : (value : Data) (entries : List Entry) (list texts : Data) → Some (members_view entries) ≡ as_object value → HasMembers value list texts → length entries ≡ 2
counted value entries list texts e h =
    let same : members_view entries ≡ h.members = some_same (members_view entries) h.members (e ∙ h.is_object) in
    sym (members_len-members_view entries) ∙ ap members_len same ∙ h.two

pub string_of : (value : Data) (text : List ℕ) → as_str value ≡ Some text → value ≡ string text
string_of null text h = cc
string_of (boolean b) text h = cc
string_of (number n) text h = cc
string_of (string s) text h = ap string (some_same s text h)
string_of (array ds) text h = cc
string_of (object ms) text h = cc

string-same : (xs ys : List ℕ) → string xs ≡ string ys → xs ≡ ys
string-same xs ys h = some_same xs ys (ap as_str h)

texts-same : (xs ys : List (List ℕ)) → map string xs ≡ map string ys → xs ≡ ys
texts-same [] [] h = refl
texts-same [] (y ∷ ys) h = cc
texts-same (x ∷ xs) [] h = cc
texts-same (x ∷ xs) (y ∷ ys) h =
    let head : string x ≡ string y = cc in
    let rest : map string xs ≡ map string ys = cc in
    ap (λ (t : List ℕ). t ∷ xs) (string-same x y head) ∙ ap (λ (ts : List (List ℕ)). y ∷ ts) (texts-same xs ys rest)

-- one more value of a list
pub map_more : {A : Type 0} (f : A → Data) (xs : List A) (x : A) (values : List Data) (index : ℕ) → index < length values → map f xs ≡ take index values → f x ≡ item_at values index → map f (xs ++ (x ∷ [])) ≡ take (index + 1) values
map_more f xs x values index h e at =
    map-append f xs (x ∷ []) ∙ ap (λ (ds : List Data). ds ++ (f x ∷ [])) e ∙ ap (λ (d : Data). take index values ++ (d ∷ [])) at ∙ sym (take_more values index null h)

pub map_more_texts : (xs : List (String Global)) (x : String Global) (values : List Data) (index : ℕ) → index < length values → map string (map string_bytes xs) ≡ take index values → string (string_bytes x) ≡ item_at values index
    → map string (map string_bytes (xs ++ (x ∷ []))) ≡ take (index + 1) values
map_more_texts xs x values index h e at =
    ap (map string) (map-append string_bytes xs (x ∷ [])) ∙ map_more string (map string_bytes xs) (string_bytes x) values index h e at

-- an array with a value that is no text
pub no_texts : (value : Data) (items : List Value) (texts : List (List ℕ)) (index : ℕ) (item : Value) → Some (items_of (map view items)) ≡ as_array value → index < length items → item ≡ get_or items index item → as_str (view item) ≡ None → as_array value ≡ Some (items_of (map string texts)) → ⊥
no_texts value items texts index item e h at none is =
    let same : map view items ≡ map string texts = same_items value (map view items) (map string texts) (sym e) is in
    let count = ap length same in
    let inside : index < length texts = omega (arith, h, length-map items view, length-map texts string, count) in
    let here : view item ≡ string (get_or texts index []) = sym (item_at-map items index item h at) ∙ ap (λ (ds : List Data). item_at ds index) same ∙ get_or-map string texts index [] null inside in
    let some : None ≡ Some (get_or texts index []) = sym none ∙ ap as_str here in
    cc

-- the value of a string at its index
pub value_at : (strings : List (String Global)) (index : ℕ) (text : String Global) → index < length strings → text ≡ get_or strings index text → string (string_bytes text) ≡ item_at (map string (map string_bytes strings)) index
value_at strings index text h e =
    ap string (text_at-map strings index text h e) ∙ sym (get_or-map string (map string_bytes strings) index [] null (omega (arith, length-map strings string_bytes)))

-- ---- what is refused

same_found : (value list other : Data) (name : List ℕ) → get name value ≡ Some list → get name value ≡ Some other → list ≡ other
same_found value list other name h l = some_same list other (sym h ∙ l)

pub HasShape-members : (value list texts : Data) (items : List Data) (strings : List (List ℕ)) → HasMembers value list texts → as_array list ≡ Some (items_of items) → as_array texts ≡ Some (items_of (map string strings)) → HasShape value items strings
HasShape-members value list texts items strings h a b = record { list = list; texts = texts; has = h; is_list = a; are_texts = b }

pub refused_list : (value list texts : Data) (strings : List (List ℕ)) (error : JsonError) → HasMembers value list texts → as_array texts ≡ Some (items_of (map string strings)) → IsRefusedJson list error → IsRefusedStringList value error
refused_list value list texts strings JsonShape has are h = λ items others shape.
    let same : shape.list ≡ list = same_found value shape.list list (codes "code_points") shape.has.has_list has.has_list in
    let none : None ≡ Some (items_of items) = sym h ∙ ap as_array (sym same) ∙ shape.is_list in
    cc
refused_list value list texts strings (JsonItem index) has are h = (h.0, strings, HasShape-members value list texts h.0 strings has h.1 are, h.2)
refused_list value list texts strings (JsonOrder index) has are h = (h.0, strings, HasShape-members value list texts h.0 strings has h.1 are, h.2)
refused_list value list texts strings (Strings fault) has are h = absurd h
refused_list value list texts strings Memory has are h = tt

pub refused_texts : (value list texts : Data) (error : JsonError) → HasMembers value list texts → IsNoTexts texts error → IsRefusedStringList value error
refused_texts value list texts JsonShape has h = λ items others shape.
    let same : shape.texts ≡ texts = same_found value shape.texts texts (codes "strings") shape.has.has_texts has.has_texts in
    h others (ap as_array (sym same) ∙ shape.are_texts)
refused_texts value list texts (JsonItem index) has h = absurd h
refused_texts value list texts (JsonOrder index) has h = absurd h
refused_texts value list texts (Strings fault) has h = absurd h
refused_texts value list texts Memory has h = tt

pub refused_members : (value : Data) → ((list texts : Data) → HasMembers value list texts → ⊥) → IsRefusedStringList value JsonShape
refused_members value none = λ items strings shape. none shape.list shape.texts shape.has

pub refused_strings : (value list texts : Data) (strings : List (List ℕ)) (set : List ℕ) (fault : InvalidStringList) → HasMembers value list texts → as_array texts ≡ Some (items_of (map string strings)) → IsJson list set → IsFirstFault strings fault → IsRefusedStringList value (Strings fault)
refused_strings value list texts strings set fault has are json first = (json.items, strings, HasShape-members value list texts json.items strings has json.is_array are, (set, json.spell), first)

pub IsStringListJson-members : (value list texts : Data) (set : CodePointsAndStrings) → HasMembers value list texts → as_array texts ≡ Some (items_of (map string set.strings)) → IsJson list set.code_points → AreStrings set.strings → IsStringListJson value set
IsStringListJson-members value list texts set has are json strings = record {
  items = json.items;
  shape = HasShape-members value list texts json.items set.strings has json.is_array are;
  spell = json.spell;
  strings = strings;
}

-- ---- what stands for a set is not refused

less≢greater : Less ≡ Greater → ⊥
less≢greater h = cc

less≢equal : Less ≡ Equal → ⊥
less≢equal h = cc

rising_to : (texts : List (List ℕ)) (index : ℕ) → AreStrings texts → 0 < index → index < length texts → slice_cmp nat_cmp (text_at texts (index - 1)) (text_at texts index) ≡ Less
rising_to texts index w h l =
    let same : index - 1 + 1 ≡ index = omega arith in
    subst (λ i. slice_cmp nat_cmp (text_at texts (index - 1)) (text_at texts i) ≡ Less) same (w.rising (index - 1) (omega arith))

no_fault_at : (texts : List (List ℕ)) (index : ℕ) (fault : InvalidStringList) → AreStrings texts → index < length texts → IsFaultAt texts index fault → ⊥
no_fault_at texts index (InvalidStringLength text) w l h = w.several index l h.1
no_fault_at texts index (StringListNotUnique text) w l h =
    less≢equal (sym (rising_to texts index w h.2 l) ∙ ap (λ t. slice_cmp nat_cmp t (text_at texts index)) h.3 ∙ tied_itself nat_list_cmp_total (text_at texts index))
no_fault_at texts index (StringListNotSorted before text) w l h = less≢greater (sym (rising_to texts index w h.3 l) ∙ h.4)

one_shape : (value : Data) (items others : List Data) (strings texts : List (List ℕ)) → HasShape value items strings → HasShape value others texts → (items ≡ others) × (strings ≡ texts)
one_shape value items others strings texts h l =
    let lists : h.list ≡ l.list = same_found value h.list l.list (codes "code_points") h.has.has_list l.has.has_list in
    let found : h.texts ≡ l.texts = same_found value h.texts l.texts (codes "strings") h.has.has_texts l.has.has_texts in (
      same_items l.list items others (ap as_array (sym lists) ∙ h.is_list) l.is_list,
      texts-same strings texts (same_items l.texts (map string strings) (map string texts) (ap as_array (sym found) ∙ h.are_texts) l.are_texts),
    )

pub not_refused_string_list : (value : Data) (set : CodePointsAndStrings) (error : JsonError) → IsStringListJson value set → IsRefusedStringList value error → error ≡ Memory
not_refused_string_list value set JsonShape w h = absurd (h w.items set.strings w.shape)
not_refused_string_list value set (JsonItem index) w h =
    let same = one_shape value w.items h.0 set.strings h.1 w.shape h.2 in
    absurd (no_item_fault h.0 index set.code_points (subst (λ ds. SpellSet ds set.code_points) same.0 w.spell) h.3)
not_refused_string_list value set (JsonOrder index) w h =
    let same = one_shape value w.items h.0 set.strings h.1 w.shape h.2 in
    absurd (no_order_fault h.0 index set.code_points (subst (λ ds. SpellSet ds set.code_points) same.0 w.spell) h.3)
not_refused_string_list value set (Strings fault) w h =
    let same = one_shape value w.items h.0 set.strings h.1 w.shape h.2 in
    let first = h.4 in
    absurd (no_fault_at h.1 first.index fault (subst AreStrings same.1 w.strings) first.within first.wrong)
not_refused_string_list value set Memory w h = refl

made : List ℕ → List (List ℕ) → CodePointsAndStrings
made code_points strings = record { code_points = code_points; strings = strings }

-- a value stands for one set with strings at most
pub one_string_list : (value : Data) (set other : CodePointsAndStrings) → IsStringListJson value set → IsStringListJson value other → set ≡ other
unfolding made
one_string_list value set other h l =
    let same = one_shape value h.items l.items set.strings other.strings h.shape l.shape in
    let ranges = one_list l.items (ranges_of set.code_points) (ranges_of other.code_points) (subst (λ ds. SpellRanges ds (ranges_of set.code_points)) same.0 h.spell.spelled) l.spell.spelled in
    let lists = one_set set.code_points other.code_points h.spell.list l.spell.list ranges in
    ap (λ x. made x set.strings) lists ∙ ap (made other.code_points) same.1

-- ---- what is written for a set stands for it

pub IsStringListJson-json_of : (set : CodePointsAndStrings) → IsInversionList set.code_points → AreStrings set.strings → IsStringListJson (string_list_json_of set) set
IsStringListJson-json_of set h strings =
    let json = IsJson-json_of set.code_points h in
    IsStringListJson-members (string_list_json_of set) (json_of set.code_points) (array (items_of (map string set.strings))) set
    record { members = _; is_object = refl; two = refl; has_list = refl; has_texts = refl } refl json strings

pub written_once : (set other : CodePointsAndStrings) → IsInversionList set.code_points → AreStrings set.strings → IsStringListJson (string_list_json_of set) other → other ≡ set
written_once set other h strings l = one_string_list (string_list_json_of set) other set l (IsStringListJson-json_of set h strings)

pub written_taken : (set : CodePointsAndStrings) (error : JsonError) → IsInversionList set.code_points → AreStrings set.strings → IsRefusedStringList (string_list_json_of set) error → error ≡ Memory
written_taken set error h strings l = not_refused_string_list (string_list_json_of set) set error (IsStringListJson-json_of set h strings) l
