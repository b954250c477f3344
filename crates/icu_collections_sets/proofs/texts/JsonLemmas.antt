-- Facts on the texts of an array that spell the ranges of a set.
use Rattle.std.proofs.Common.{◌≡◌, ℕ, zero, suc, ◌+◌, ◌-◌, ◌%◌, ◌<◌, ◌≤◌, List, [], ◌∷◌, ◌++◌, length, get_or, take, map, None, Some, refl, sym, ap, ◌∙◌, subst, arith}
use Rattle.std.proofs.lemmas.List.{get_or-map, take_more, length-append, take_all}
use Rattle.serde_json.specs.Data.{Data, null, string, no_items, item as put_item}
use Rattle.serde_json.specs.Find.{as_array}
use Rattle.serde_json.specs.View.{items_of, view}
use Rattle.serde_json.specs.declared.value.Value.{Value}
use Rattle.icu_collections_sets.specs.CodePoints.{Rises, IsInversionList, ranges_of, in_ranges}
use Rattle.icu_collections_sets.specs.Json.{IsItem, SpellRanges, SpellSet, IsJson, item_at, IsItemFault, IsOrderFault, json_of}
use Rattle.icu_collections_sets.specs.JsonFaults.{IsRefusedItems, IsRefusedJson}
use Rattle.icu_collections_sets.specs.Spelling.{SpellsRange, range_text}
use Rattle.icu_collections_sets.specs.declared.json.error.JsonError.{JsonError}
use Rattle.icu_collections_sets.specs.declared.json.error.JsonError.TheVariants.{JsonShape, JsonItem, JsonOrder, Strings, Memory}
use Rattle.icu_collections_sets.proofs.sets.InversionListLemmas.{in_ranges_of}
use Rattle.icu_collections_sets.proofs.texts.SpellingLemmas.{one_range, SpellsRange-range_text}
use Rattle.icu_collections_sets.proofs.sets.UniqueListLemmas.{same_list}

-- ---- one reading

pub some_same : {A : Type 0} → (x y : A) → Some x ≡ Some y → x ≡ y
some_same x y e = cc

pub one_item : (item : Data) (range other : ℕ × ℕ) → IsItem item range → IsItem item other → (range.0 ≡ other.0) × (range.1 ≡ other.1)
one_item item range other h l =
    let same : h.text ≡ l.text = some_same h.text l.text (sym h.is_text ∙ l.is_text) in
    one_range l.text range other (subst (λ t. SpellsRange t range) same h.spells) l.spells

pair : (range other : ℕ × ℕ) → range.0 ≡ other.0 → range.1 ≡ other.1 → range ≡ other
pair range other e f = ap (λ (n : ℕ). (n, range.1)) e ∙ ap (λ (n : ℕ). (other.0, n)) f

pub one_list : (items : List Data) (ranges others : List (ℕ × ℕ)) → SpellRanges items ranges → SpellRanges items others → ranges ≡ others
one_list [] [] [] h l = refl
one_list [] [] (r ∷ rs) h l = absurd l
one_list [] (r ∷ rs) others h l = absurd h
one_list (i ∷ items) [] others h l = absurd h
one_list (i ∷ items) (r ∷ rs) [] h l = absurd l
one_list (i ∷ items) (r ∷ rs) (s ∷ ss) h l =
    let same = one_item i r s h.0 l.0 in
    ap (λ (x : ℕ × ℕ). x ∷ rs) (pair r s same.0 same.1) ∙ ap (λ (xs : List (ℕ × ℕ)). s ∷ xs) (one_list items rs ss h.1 l.1)

pub one_set : (xs ys : List ℕ) → IsInversionList xs → IsInversionList ys → ranges_of xs ≡ ranges_of ys → xs ≡ ys
one_set xs ys h l e =
    same_list xs ys h l (λ c m. sym (in_ranges_of 0 xs c h.rises h.even) ∙ ap (λ rs. in_ranges rs c) e ∙ in_ranges_of 0 ys c l.rises l.even)

pub items_of-same : (xs ys : List Data) → items_of xs ≡ items_of ys → xs ≡ ys
items_of-same [] [] e = refl
items_of-same [] (y ∷ ys) e = let f : no_items ≡ put_item y (items_of ys) = e in cc
items_of-same (x ∷ xs) [] e = let f : put_item x (items_of xs) ≡ no_items = e in cc
items_of-same (x ∷ xs) (y ∷ ys) e =
    let f : put_item x (items_of xs) ≡ put_item y (items_of ys) = e in
    let head : x ≡ y = cc in
    let rest : items_of xs ≡ items_of ys = cc in
    ap (λ (d : Data). d ∷ xs) head ∙ ap (λ (ds : List Data). y ∷ ds) (items_of-same xs ys rest)

pub same_items : (value : Data) (xs ys : List Data) → as_array value ≡ Some (items_of xs) → as_array value ≡ Some (items_of ys) → xs ≡ ys
same_items value xs ys h l = items_of-same xs ys (some_same (items_of xs) (items_of ys) (sym h ∙ l))

-- the value at an index, by the item there
pub item_at-map : (items : List Value) (index : ℕ) (item : Value) → index < length items → item ≡ get_or items index item → item_at (map view items) index ≡ view item
item_at-map items index item h e = get_or-map view items index item null h ∙ ap view (sym e)

-- ---- a set grows by a range

-- the least number that may follow
unfoldable pub least_behind : ℕ → List ℕ → ℕ
least_behind least [] = least
least_behind least (x ∷ xs) = least_behind (x + 1) xs

pub Rises-append : (least : ℕ) (xs ys : List ℕ) → Rises least xs → Rises (least_behind least xs) ys → Rises least (xs ++ ys)
unfolding least_behind
Rises-append least [] ys h l = l
Rises-append least (x ∷ xs) ys h l = (h.0, h.1, Rises-append (x + 1) xs ys h.2 l)

pub least_behind-append : (least : ℕ) (xs : List ℕ) (a b : ℕ) → least_behind least (xs ++ (a ∷ b ∷ [])) ≡ b + 1
unfolding least_behind
least_behind-append least [] a b = refl
least_behind-append least (x ∷ xs) a b = least_behind-append (x + 1) xs a b

pub least_behind-none : least_behind 0 [] ≡ 0
unfolding least_behind
least_behind-none = refl

-- it is one more than the last number
pub least_behind-last : (least x : ℕ) (xs : List ℕ) → least_behind least (x ∷ xs) ≡ get_or (x ∷ xs) (length (x ∷ xs) - 1) 0 + 1
unfolding least_behind
least_behind-last least x [] = refl
least_behind-last least x (y ∷ ys) =
    let step : suc (length (y ∷ ys) - 1) ≡ length (x ∷ y ∷ ys) - 1 = omega arith in
    least_behind-last (x + 1) y ys ∙ ap (λ i. get_or (x ∷ y ∷ ys) i 0 + 1) step

pub ranges_of-append : (xs : List ℕ) (a b : ℕ) → length xs % 2 ≡ 0 → ranges_of (xs ++ (a ∷ b ∷ [])) ≡ ranges_of xs ++ ((a, b - 1) ∷ [])
ranges_of-append [] a b e = refl
ranges_of-append (x ∷ []) a b e = absurd (omega arith)
ranges_of-append (x ∷ y ∷ xs) a b e = ap (λ (rs : List (ℕ × ℕ)). (x, y - 1) ∷ rs) (ranges_of-append xs a b (omega arith))

pub SpellRanges-append : (items : List Data) (ranges : List (ℕ × ℕ)) (i : Data) (r : ℕ × ℕ) → SpellRanges items ranges → IsItem i r → SpellRanges (items ++ (i ∷ [])) (ranges ++ (r ∷ []))
SpellRanges-append [] [] i r h l = (l, tt)
SpellRanges-append [] (s ∷ ss) i r h l = absurd h
SpellRanges-append (j ∷ items) [] i r h l = absurd h
SpellRanges-append (j ∷ items) (s ∷ ss) i r h l = (h.0, SpellRanges-append items ss i r h.1 l)

pub SpellSet-none : SpellSet [] []
SpellSet-none = record { spelled = tt; list = record { even = refl; rises = tt } }

-- one more item, after the others
pub SpellSet-more : (items : List Data) (index : ℕ) (set : List ℕ) (range : ℕ × ℕ) → index < length items → SpellSet (take index items) set → IsItem (item_at items index) range → least_behind 0 set ≤ range.0 → SpellSet (take (index + 1) items) (set ++ (range.0 ∷ (range.1 + 1) ∷ []))
SpellSet-more items index set range h w l behind =
    let last : range.1 + 1 - 1 ≡ range.1 = omega arith in
    let spells = l.spells in
    let spelled : SpellRanges (take index items ++ (item_at items index ∷ [])) (ranges_of set ++ ((range.0, range.1 + 1 - 1) ∷ [])) =
    SpellRanges-append (take index items) (ranges_of set) (item_at items index) (range.0, range.1 + 1 - 1) w.spelled (subst (λ n. IsItem (item_at items index) (range.0, n)) (sym last) l) in
    record {
      spelled = subst (λ ds. SpellRanges ds (ranges_of (set ++ (range.0 ∷ (range.1 + 1) ∷ [])))) (sym (take_more items index null h)) (subst (SpellRanges (take index items ++ (item_at items index ∷ []))) (sym (ranges_of-append set range.0 (range.1 + 1) w.list.even)) spelled);
      list = record {
        even = omega (arith, length-append set (range.0 ∷ (range.1 + 1) ∷ []), w.list.even);
        rises = Rises-append 0 set (range.0 ∷ (range.1 + 1) ∷ []) w.list.rises (behind, omega (arith, spells.rises, spells.within), (omega (arith, spells.rises), omega (arith, spells.within), tt));
      };
    }

pub SpellSet-all : (items : List Data) (index : ℕ) (set : List ℕ) → length items ≤ index → SpellSet (take index items) set → SpellSet items set
SpellSet-all items index set h w = subst (λ ds. SpellSet ds set) (take_all index items h) w

-- an item that begins too early
pub IsOrderFault-early : (items : List Data) (index : ℕ) (set : List ℕ) (range : ℕ × ℕ) → index < length items → SpellSet (take index items) set → IsItem (item_at items index) range → range.0 < least_behind 0 set → IsOrderFault items index
IsOrderFault-early items index [] range h w l early = absurd (omega (arith, least_behind-none))
IsOrderFault-early items index (x ∷ xs) range h w l early = record {
  within = h;
  set = x ∷ xs;
  before = w;
  some = λ none. cc;
  range = range;
  item = l;
  begins = omega (arith, least_behind-last 0 x xs);
}

-- ---- what stands for a set is not refused

-- an item among those that spell ranges spells one
item_among : (items : List Data) (ranges : List (ℕ × ℕ)) (index : ℕ) → SpellRanges items ranges → index < length items → (range : ℕ × ℕ) × IsItem (item_at items index) range
item_among [] ranges index h l = absurd (omega arith)
item_among (i ∷ items) [] index h l = absurd h
item_among (i ∷ items) (r ∷ rs) zero h l = (r, h.0)
item_among (i ∷ items) (r ∷ rs) (suc index) h l = item_among items rs index h.1 (omega arith)

pub no_item_fault : (items : List Data) (index : ℕ) (set : List ℕ) → SpellSet items set → IsItemFault items index → ⊥
no_item_fault items index set w fault =
    let found = item_among items (ranges_of set) index w.spelled fault.within in
    fault.no_range found.0 found.1

-- the set of the first items ends before the next item begins
ends_before : (least : ℕ) (items : List Data) (index : ℕ) (full part : List ℕ) (range : ℕ × ℕ) → Rises least full → length full % 2 ≡ 0 → Rises least part → length part % 2 ≡ 0 → SpellRanges items (ranges_of full) → SpellRanges (take index items) (ranges_of part) → index < length items → IsItem (item_at items index) range → least_behind least part ≤ range.0
unfolding least_behind
ends_before least [] index full part range r e s f w v h l = absurd (omega arith)
ends_before least (i ∷ items) index [] part range r e s f w v h l = absurd w
ends_before least (i ∷ items) index (a ∷ []) part range r e s f w v h l = absurd w
ends_before least (i ∷ items) zero (a ∷ b ∷ full) [] range r e s f w v h l =
    let same = one_item i range (a, b - 1) l w.0 in
    omega (arith, same.0, r.0)
ends_before least (i ∷ items) zero (a ∷ b ∷ full) (p ∷ []) range r e s f w v h l = absurd (omega arith)
ends_before least (i ∷ items) zero (a ∷ b ∷ full) (p ∷ q ∷ part) range r e s f w v h l = absurd v
ends_before least (i ∷ items) (suc index) (a ∷ b ∷ full) [] range r e s f w v h l = absurd v
ends_before least (i ∷ items) (suc index) (a ∷ b ∷ full) (p ∷ []) range r e s f w v h l = absurd v
ends_before least (i ∷ items) (suc index) (a ∷ b ∷ full) (p ∷ q ∷ part) range r e s f w v h l =
    let same = one_item i (a, b - 1) (p, q - 1) w.0 v.0 in
    let end : b ≡ q = omega (arith, same.1, r.2.0, s.2.0) in
    let rises : Rises (q + 1) full = subst (λ (n : ℕ). Rises (n + 1) full) end r.2.2 in
    ends_before (q + 1) items index full part range rises (omega arith) s.2.2 (omega arith) w.1 v.1 (omega arith) l

not_early : (set : List ℕ) (first : ℕ) → (set ≡ [] → ⊥) → least_behind 0 set ≤ first → first ≤ get_or set (length set - 1) 0 → ⊥
not_early [] first some behind begins = some refl
not_early (x ∷ xs) first some behind begins = absurd (omega (arith, least_behind-last 0 x xs))

pub no_order_fault : (items : List Data) (index : ℕ) (set : List ℕ) → SpellSet items set → IsOrderFault items index → ⊥
no_order_fault items index set w fault =
    let behind = ends_before 0 items index set fault.set fault.range w.list.rises w.list.even fault.before.list.rises fault.before.list.even w.spelled fault.before.spelled fault.within fault.item in
    not_early fault.set fault.range.0 fault.some behind fault.begins

pub not_refused : (items : List Data) (set : List ℕ) (error : JsonError) → SpellSet items set → IsRefusedItems items error → error ≡ Memory
not_refused items set JsonShape w h = absurd h
not_refused items set (JsonItem index) w h = absurd (no_item_fault items index set w h)
not_refused items set (JsonOrder index) w h = absurd (no_order_fault items index set w h)
not_refused items set (Strings fault) w h = absurd h
not_refused items set Memory w h = refl

pub not_refused_json : (value : Data) (set : List ℕ) (error : JsonError) → IsJson value set → IsRefusedJson value error → error ≡ Memory
not_refused_json value set JsonShape w h = let none : Some (items_of w.items) ≡ None = sym w.is_array ∙ h in cc
not_refused_json value set (JsonItem index) w h = absurd (no_item_fault h.0 index set (subst (λ ds. SpellSet ds set) (same_items value w.items h.0 w.is_array h.1) w.spell) h.2)
not_refused_json value set (JsonOrder index) w h = absurd (no_order_fault h.0 index set (subst (λ ds. SpellSet ds set) (same_items value w.items h.0 w.is_array h.1) w.spell) h.2)
not_refused_json value set (Strings fault) w h = absurd h
not_refused_json value set Memory w h = refl

-- a value stands for one set at most
pub one_json : (value : Data) (set other : List ℕ) → IsJson value set → IsJson value other → set ≡ other
one_json value set other h l =
    let same = same_items value h.items l.items h.is_array l.is_array in
    one_set set other h.spell.list l.spell.list (one_list l.items (ranges_of set) (ranges_of other) (subst (λ ds. SpellRanges ds (ranges_of set)) same h.spell.spelled) l.spell.spelled)

pub not_refused_of : (value : Data) (items : List Data) (set : List ℕ) (error : JsonError) → Some (items_of items) ≡ as_array value → IsJson value set → IsRefusedItems items error → error ≡ Memory
not_refused_of value items set error e w h =
    let same = same_items value w.items items w.is_array (sym e) in
    not_refused items set error (subst (λ ds. SpellSet ds set) same w.spell) h

pub reads_of : (value : Data) (items : List Data) (edges list set : List ℕ) → Some (items_of items) ≡ as_array value → SpellSet items edges → list ≡ edges → IsJson value set → list ≡ set
reads_of value items edges list set e w same h =
    let own : IsJson value edges = record { items = items; is_array = sym e; spell = w } in
    same ∙ one_json value edges set own h

-- ---- what is written for a set stands for it

-- the ranges of a set are code points, none of them empty
abbrev pub AreRanges : List (ℕ × ℕ) → Type 0
AreRanges [] = Unit {0}
AreRanges (r ∷ rs) = (r.0 ≤ r.1) × (r.1 < 1114112) × AreRanges rs

pub AreRanges-Rises : (least : ℕ) (xs : List ℕ) → Rises least xs → AreRanges (ranges_of xs)
AreRanges-Rises least [] h = tt
AreRanges-Rises least (x ∷ []) h = tt
AreRanges-Rises least (x ∷ y ∷ xs) h = (omega (arith, h.2.0), omega (arith, h.2.0, h.2.1), AreRanges-Rises (y + 1) xs h.2.2)

texts_spell : (ranges : List (ℕ × ℕ)) → AreRanges ranges → SpellRanges (map (λ range. string (range_text range)) ranges) ranges
texts_spell [] h = tt
texts_spell (r ∷ rs) h = (record { text = range_text r; is_text = refl; spells = SpellsRange-range_text r h.0 h.1 }, texts_spell rs h.2)

pub IsJson-json_of : (set : List ℕ) → IsInversionList set → IsJson (json_of set) set
IsJson-json_of set h = record {
  items = map (λ range. string (range_text range)) (ranges_of set);
  is_array = refl;
  spell = record { spelled = texts_spell (ranges_of set) (AreRanges-Rises 0 set h.rises); list = h };
}

pub written_once : (set other : List ℕ) → IsInversionList set → IsJson (json_of set) other → other ≡ set
written_once set other h l = one_json (json_of set) other set l (IsJson-json_of set h)

pub written_taken : (set : List ℕ) (error : JsonError) → IsInversionList set → IsRefusedJson (json_of set) error → error ≡ Memory
written_taken set error h l = not_refused_json (json_of set) set error (IsJson-json_of set h) l
