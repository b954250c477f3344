-- The rules on weights, V1 to V6: what a recorded element, a range, and all weights of a level together must keep for
-- keys to order as levels do. A file's reader and the check of tables ask them, and the laws of keys rest on them.
use Rattle.std.specs.Prelude.{◌≡◌, ℕ, ◌+◌, ◌-◌, ◌*◌, ◌/◌, ◌%◌, ◌^◌, Bool, true, false, cond, not, ◌==◌, ◌&&◌, ◌||◌, leb, ltb, List, [], ◌∷◌, Some}
use Rattle.std.specs.List.{list_all, Contains}
use Rattle.icu_normalizer_core.specs.BuiltIn.{is_within}
use Rattle.icu_collator_types.specs.declared.elements.Element.{Element}
use Rattle.icu_collator_core.specs.Weights.{Range, Weights}
use Rattle.icu_collator_core.specs.Numbers.{without_last_zeros}

-- the bytes of a primary after its lead, without those of 00 at the end
abbrev pub primary_rest : ℕ → List ℕ
primary_rest p = without_last_zeros (p / 2 ^ 16 % 256 ∷ p / 2 ^ 8 % 256 ∷ p % 256 ∷ [])

-- the bytes of a primary; its lead is never 00
abbrev pub primary_bytes : ℕ → List ℕ
primary_bytes p = p / 2 ^ 24 ∷ primary_rest p

-- the bytes of a secondary or tertiary weight; its lead is never 00
abbrev pub weight_bytes : ℕ → List ℕ
weight_bytes w = w / 256 ∷ cond (w % 256 == 0) [] (w % 256 ∷ [])

-- whether a lead byte may be used by letters, numbers and ranges
abbrev pub is_letter_lead : ℕ → Bool
is_letter_lead lead = is_within 0x03 0xfc lead

-- whether none of these bytes, which stand after a lead, is one that ends or separates levels
abbrev pub are_inner_bytes : List ℕ → Bool
are_inner_bytes bytes = list_all (leb 2) bytes

-- whether a list is empty
abbrev pub is_empty : List ℕ → Bool
is_empty [] = true
is_empty (b ∷ bs) = false

-- V1: an element is primary, with three weights; secondary, with two; or tertiary, of upper case and above the common weight
abbrev pub is_sound_kind : Element → Bool
is_sound_kind e =
    let is_primary = not (e.primary == 0) && not (e.secondary == 0) && not (e.tertiary == 0)
    in let is_secondary = (e.primary == 0) && not (e.secondary == 0) && not (e.tertiary == 0)
    in let is_tertiary = (e.primary == 0) && (e.secondary == 0) && (e.case == 2) && leb 0x06 (e.tertiary / 256)
    in is_primary || is_secondary || is_tertiary

-- V2: a primary of two to four bytes, its lead not that of numbers; under a compressible lead the second byte leaves room
-- below and above for what ends a run
abbrev pub is_sound_primary : Weights → ℕ → Bool
is_sound_primary weights p =
    let lead = p / 2 ^ 24
    in let second = p / 2 ^ 16 % 256
    in is_letter_lead lead
    && not (lead == weights.numeric_lead)
    && not (is_empty (primary_rest p))
    && are_inner_bytes (primary_rest p)
    && (not (weights.is_compressible lead) || is_within 0x04 0xfe second)

-- V3: a secondary is the common weight, or its lead is outside the bytes that runs of the common weight take
abbrev pub is_sound_secondary : ℕ → Bool
is_sound_secondary s =
    let lead = s / 256
    in (s == 0x500) || ((is_within 0x03 0x04 lead || is_within 0x46 0xff lead) && not (s % 256 == 1))

-- V4: a tertiary likewise; its upper bits are free for case
abbrev pub is_sound_tertiary : ℕ → Bool
is_sound_tertiary t =
    let lead = t / 256
    in (t == 0x500)
    || ((is_within 0x02 0x04 lead || is_within 0x06 0x3f lead) && leb (t % 256) 0x3f && not (t % 256 == 1))

-- V1 to V4 of an element; a weight of 0 is none
abbrev pub is_sound_element : Weights → Element → Bool
is_sound_element weights e =
    is_sound_kind e
    && ((e.primary == 0) || is_sound_primary weights e.primary)
    && ((e.secondary == 0) || is_sound_secondary e.secondary)
    && ((e.tertiary == 0) || is_sound_tertiary e.tertiary)

-- whether a list stands at the beginning of a longer one
unfoldable pub is_proper_beginning : List ℕ → List ℕ → Bool
is_proper_beginning [] [] = false
is_proper_beginning [] (y ∷ ys) = true
is_proper_beginning (x ∷ xs) [] = false
is_proper_beginning (x ∷ xs) (y ∷ ys) = (x == y) && is_proper_beginning xs ys

-- V5 of two weights of a level: neither's bytes begin the other's, unless one is 0, that is, none
abbrev pub are_apart : (ℕ → List ℕ) → ℕ → ℕ → Bool
are_apart bytes v w =
    (v == 0)
    || (w == 0)
    || (not (is_proper_beginning (bytes v) (bytes w)) && not (is_proper_beginning (bytes w) (bytes v)))

-- V5 of two elements, on each level; case takes no part
abbrev pub are_apart_elements : Element → Element → Bool
are_apart_elements d e =
    are_apart primary_bytes d.primary e.primary
    && are_apart weight_bytes d.secondary e.secondary
    && are_apart weight_bytes d.tertiary e.tertiary

-- V5 of elements: no weight's bytes begin another's on its level
abbrev pub AreApart : (Element → Type 0) → Type 0
AreApart IsOne = (d e : Element) → IsOne d → IsOne e → are_apart_elements d e ≡ true

-- how many second bytes stand under a lead, from the lowest one on
abbrev pub lowest_second : Bool → ℕ
lowest_second compressible = cond compressible 4 2

abbrev pub second_count : Bool → ℕ
second_count compressible = cond compressible 251 254

-- V6: whether the primary of a range's last character has the lead of the first
abbrev pub stays_in_lead : Weights → Range → Bool
stays_in_lead weights range =
    let compressible = weights.is_compressible (range.primary / 2 ^ 24)
    in let third = range.primary / 2 ^ 8 % 256 - 2 + (range.last - range.first) * range.step
    in let second = range.primary / 2 ^ 16 % 256 - lowest_second compressible + third / 254
    in ltb second (second_count compressible)

-- V6 of a range by itself: its primary has three bytes
abbrev pub is_sound_range : Weights → Range → Bool
is_sound_range weights range =
    leb range.first range.last
    && is_within 1 127 range.step
    && is_sound_primary weights range.primary
    && (range.primary % 256 == 0)
    && leb 2 (range.primary / 2 ^ 8 % 256)
    && stays_in_lead weights range
    && (ltb range.last 0x1100 || ltb 0x11ff range.first)

-- V6 of two ranges: no character is in both
abbrev pub are_disjoint : Range → Range → Bool
are_disjoint a b = ltb a.last b.first || ltb b.last a.first

-- V6 of a range and an element: the element's primary, if it has one, has another lead
abbrev pub is_of_other_lead : Range → Element → Bool
is_of_other_lead range e = (e.primary == 0) || not (e.primary / 2 ^ 24 == range.primary / 2 ^ 24)

-- whether a primary has three bytes: its fourth is 00, and its third isn't
abbrev pub has_three_bytes : ℕ → Bool
has_three_bytes p = (p % 256 == 0) && not (p / 2 ^ 8 % 256 == 0)

-- what V6 gives of the primary of a character in a range
abbrev pub is_sound_ranged : Weights → ℕ → Bool
is_sound_ranged weights p = is_sound_primary weights p && has_three_bytes p

-- and of an element beside it: its primary has another lead, or three bytes too
abbrev pub is_beside_ranged : ℕ → Element → Bool
is_beside_ranged p e = not (e.primary / 2 ^ 24 == p / 2 ^ 24) || has_three_bytes e.primary

-- whether the numbers of an element are of their widths; a line of a file can't say others
abbrev pub has_widths : Element → Bool
has_widths e =
    ltb e.primary (2 ^ 32) && ltb e.secondary (2 ^ 16) && ltb e.tertiary (2 ^ 16) && leb e.case 2 && leb e.quaternary 3

-- an element of a record
abbrev pub IsRecorded : Weights → Element → Type 0
IsRecorded weights e =
    (prefix : List ℕ) × (text : List ℕ) × (elements : List Element)
    × (weights.recorded prefix text ≡ Some elements)
    × Contains elements e

-- weights that keep the rules
pub record AreSoundWeights (weights : Weights) : Type 0 where
  pub widths : (e : Element) → IsRecorded weights e → has_widths e ≡ true
  pub elements : (e : Element) → IsRecorded weights e → is_sound_element weights e ≡ true
  pub apart : AreApart (IsRecorded weights)
  pub ranged : (c p : ℕ) → weights.ranged_primary c ≡ Some p → is_sound_ranged weights p ≡ true
  pub beside :
      (c p : ℕ) (e : Element) → weights.ranged_primary c ≡ Some p → IsRecorded weights e → is_beside_ranged p e ≡ true
  pub digits : (c d : ℕ) → weights.digit c ≡ Some d → leb d 9 ≡ true
