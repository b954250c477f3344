-- lists of lines as their callers see them, after what is done to the lines with their keys
use Rattle.std.proofs.Common.{◌≡◌, ℕ, ◌++◌, ◌∷◌, [], ◌∙◌, Bool, List, Option, ap, arith, length, map, refl, subst, sym}
use Rattle.std.specs.Prelude.{Err, IfNone, IfSome, Ok, OnErr, OnOk, Result, slice_get}
use Rattle.std.specs.List.{All}
use Rattle.std.specs.declared.cmp.Ordering.{Ordering}
use Rattle.std.proofs.lemmas.List.{length-map}
use Rattle.std.proofs.lemmas.List.Elements.{All-push, All-same}
use Rattle.std.proofs.lemmas.List.Sorted.{All-permutation}
use Rattle.std.proofs.lemmas.Option.{IfSome_then}
use Rattle.std.proofs.lemmas.Simd.{map-map}
use Rattle.std.proofs.lemmas.Result.{on_err_weaker, on_ok_weaker}
use Rattle.collate_keyed_lines.specs.KeyedLines.{AreInOrder, IsFirstUnordered, KeyedLine, first_of_equals, key_order, turned}
use Rattle.collate_keyed_lines.specs.declared.direction.Direction.{Direction}
use Rattle.collate_keyed_lines.proofs.KeptLemmas.{none_then, sorted_all}
use Rattle.collate_keyed_lines.proofs.MappedLemmas.{All-first, first_mapped, in_order_mapped, order_mapped, unordered_mapped}
use Rattle.collate_keyed_lines.proofs.SlotLemmas.{map_alike}
use Rattle.collate_lists.specs.Names.{in_order}
use Rattle.collate_lists.proofs.NamesLemmas.{in_order_is_permutation}
use Rattle.collate_sort.specs.Keys.{key_by_rule}
use Rattle.collate_sort.specs.Listing.{Listing}
use Rattle.collate_sort.specs.Lists.{IsKept, IsKeyed, listing_of, without_key}
use Rattle.collate_sort.specs.Orders.{Line, LineRule, line_order}
use Rattle.collate_sort.specs.declared.list.LineList.TheInside.{Inside}
use Rattle.collate_sort.proofs.LineLemmas.{lines_compare}

-- a line for the want of one
abbrev no_line : KeyedLine
no_line = record { line = []; text = []; key = [] }

map-push : {A B : Type 0} (f : A → B) (xs : List A) (x : A) → map f (xs ++ x ∷ []) ≡ map f xs ++ f x ∷ []
map-push f [] x = refl
map-push f (y ∷ ys) x = ap (λ zs. f y ∷ zs) (map-push f ys x)

either_way : {T E P Q R : Type 0} (result : Result T E) → (P → R) → (Q → R) → OnOk result P → OnErr result Q → R
either_way (Ok x) f g ok err = f ok
either_way (Err e) f g ok err = g err

module _ (s : Inside) (kept : IsKept s) (now : Listing) (is : listing_of s ≡ now) where
  abbrev rule : LineRule
  rule = s.order.now

  abbrev order : KeyedLine → KeyedLine → Ordering
  order = turned rule.direction key_order

  -- a list of these lines by the same rule
  abbrev with_lines : List KeyedLine → Listing
  with_lines lines = record { rule = rule; lines = map without_key lines }

  -- what is told of the lines with their keys, as the caller sees it
  listed : (lines : List KeyedLine) (change : LineRule → List Line → List Line) → map without_key lines ≡ change rule (map without_key s.lines)
      → with_lines lines ≡ record now { lines = change now.rule now.lines }
  listed lines change told =
      ap (λ (ls : List Line). record { rule = rule; lines = ls }) told
      ∙ ap (λ (l : Listing). record l { lines = change l.rule l.lines }) is

  -- a line more, with its key
  module _ {T E : Type 0} (result : Result T E) (lines : List KeyedLine) (line text key : List ℕ) (of : key ≡ key_by_rule rule text)
      (added : OnOk result (lines ≡ s.lines ++ record { line = line; text = text; key = key } ∷ [])) (unchanged : OnErr result (lines ≡ s.lines)) where
    abbrev keyed : KeyedLine
    keyed = record { line = line; text = text; key = key }

    pub added_keyed : All (IsKeyed rule) lines
    added_keyed =
        either_way result (λ told. All-same (IsKeyed rule) lines (s.lines ++ keyed ∷ []) told (All-push (IsKeyed rule) s.lines keyed kept.keyed of))
        (λ told. All-same (IsKeyed rule) lines s.lines told kept.keyed) added unchanged

    pub added_listing : OnOk result (with_lines lines ≡ record now { lines = now.lines ++ record { line = line; text = text } ∷ [] })
    added_listing =
        on_ok_weaker result
        (λ told. listed lines (λ r ls. ls ++ record { line = line; text = text } ∷ []) (ap (map without_key) told ∙ map-push without_key s.lines keyed)) added

  pub unchanged_listing : {T E : Type 0} (result : Result T E) (lines : List KeyedLine) → OnErr result (lines ≡ s.lines) → OnErr result (with_lines lines ≡ now)
  unchanged_listing result lines unchanged = on_err_weaker result (λ told. ap with_lines told ∙ is) unchanged

  module _ {T E : Type 0} (d : Direction) (same : d ≡ rule.direction) (result : Result T E) (lines : List KeyedLine) (unchanged : OnErr result (lines ≡ s.lines)) where
    in_order_told : lines ≡ in_order (turned d key_order) s.lines → map without_key lines ≡ in_order (line_order rule) (map without_key s.lines)
    in_order_told told =
        ap (map without_key) (told ∙ ap (λ (e : Direction). in_order (turned e key_order) s.lines) same)
        ∙ in_order_mapped without_key (IsKeyed rule) order (line_order rule) (lines_compare rule kept.accepted) s.lines kept.keyed

    pub sorted_keyed : OnOk result (lines ≡ in_order (turned d key_order) s.lines) → All (IsKeyed rule) lines
    sorted_keyed sorted = sorted_all (turned d key_order) (IsKeyed rule) result s.lines lines sorted unchanged kept.keyed

    pub sorted_listing : OnOk result (lines ≡ in_order (turned d key_order) s.lines)
        → OnOk result (with_lines lines ≡ record now { lines = in_order (line_order now.rule) now.lines })
    sorted_listing sorted = on_ok_weaker result (λ told. listed lines (λ r ls. in_order (line_order r) ls) (in_order_told told)) sorted

    unique_keyed_in_order : All (IsKeyed rule) (in_order (turned d key_order) s.lines)
    unique_keyed_in_order = All-permutation (IsKeyed rule) s.lines (in_order (turned d key_order) s.lines) (in_order_is_permutation (turned d key_order) s.lines) kept.keyed

    abbrev firsts : Direction → List KeyedLine
    firsts e = first_of_equals (turned e key_order) (in_order (turned e key_order) s.lines)

    unique_told : lines ≡ firsts d → map without_key lines ≡ first_of_equals (line_order rule) (in_order (line_order rule) (map without_key s.lines))
    unique_told told =
        ap (map without_key) (told ∙ ap firsts same)
        ∙ first_mapped without_key (IsKeyed rule) order (line_order rule) (lines_compare rule kept.accepted) (in_order order s.lines)
        (subst (λ (e : Direction). All (IsKeyed rule) (in_order (turned e key_order) s.lines)) same unique_keyed_in_order)
        ∙ ap (first_of_equals (line_order rule))
        (in_order_mapped without_key (IsKeyed rule) order (line_order rule) (lines_compare rule kept.accepted) s.lines kept.keyed)

    pub unique_listing : OnOk result (lines ≡ firsts d)
        → OnOk result (with_lines lines ≡ record now { lines = first_of_equals (line_order now.rule) (in_order (line_order now.rule) now.lines) })
    unique_listing sorted = on_ok_weaker result (λ told. listed lines (λ r ls. first_of_equals (line_order r) (in_order (line_order r) ls)) (unique_told told)) sorted

    unique_all : lines ≡ firsts d → All (IsKeyed rule) lines
    unique_all told = All-same (IsKeyed rule) lines (firsts d) told (All-first (turned d key_order) (IsKeyed rule) (in_order (turned d key_order) s.lines) unique_keyed_in_order)

    pub unique_keyed : OnOk result (lines ≡ firsts d) → All (IsKeyed rule) lines
    unique_keyed sorted = either_way result unique_all (λ told. All-same (IsKeyed rule) lines s.lines told kept.keyed) sorted unchanged

  module _ (d : Direction) (same : d ≡ rule.direction) (unique : Bool) (result : Option ℕ) where
    pub unordered_none : IfNone result (AreInOrder unique (turned d key_order) s.lines (length s.lines))
        → IfNone result (AreInOrder unique (line_order now.rule) now.lines (length now.lines))
    unordered_none told =
        none_then result
        (λ h. subst (λ (l : Listing). AreInOrder unique (line_order l.rule) l.lines (length l.lines)) is
        (subst (λ (n : ℕ). AreInOrder unique (line_order rule) (map without_key s.lines) n) (sym (length-map s.lines without_key))
        (order_mapped without_key (IsKeyed rule) order (line_order rule) (lines_compare rule kept.accepted) no_line unique s.lines kept.keyed (length s.lines) (omega arith)
        (subst (λ (e : Direction). AreInOrder unique (turned e key_order) s.lines (length s.lines)) same h))))
        told

    pub unordered_first : IfSome result (IsFirstUnordered unique (turned d key_order) s.lines) → IfSome result (IsFirstUnordered unique (line_order now.rule) now.lines)
    unordered_first told =
        IfSome_then result told
        (λ index h. subst (λ (l : Listing). IsFirstUnordered unique (line_order l.rule) l.lines index) is
        (unordered_mapped without_key (IsKeyed rule) order (line_order rule) (lines_compare rule kept.accepted) no_line unique s.lines kept.keyed index
        (subst (λ (e : Direction). IsFirstUnordered unique (turned e key_order) s.lines index) same h)))

  pub line_found : (index : ℕ) → slice_get (map (λ (line : KeyedLine). line.line) s.lines) index ≡ slice_get (map (λ (line : Line). line.line) now.lines) index
  line_found index =
      ap (λ (ls : List (List ℕ)). slice_get ls index) (sym (map-map (λ (line : Line). line.line) without_key s.lines))
      ∙ ap (λ (l : Listing). slice_get (map (λ (line : Line). line.line) l.lines) index) is

  pub key_found : (index : ℕ)
      → slice_get (map (λ (line : KeyedLine). line.key) s.lines) index ≡ slice_get (map (λ (line : Line). key_by_rule now.rule line.text) now.lines) index
  key_found index =
      ap (λ (ls : List (List ℕ)). slice_get ls index)
      (map_alike (λ (line : KeyedLine). line.key) (λ (line : KeyedLine). key_by_rule rule line.text) s.lines kept.keyed
      ∙ sym (map-map (λ (line : Line). key_by_rule rule line.text) without_key s.lines))
      ∙ ap (λ (l : Listing). slice_get (map (λ (line : Line). key_by_rule l.rule line.text) l.lines) index) is
