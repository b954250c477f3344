-- The rules on lines that are in the grammar: which line offends against a rule. Lines count from 0 here.
use Rattle.std.specs.Prelude.{◌≡◌, ◌≢◌, ℕ, ◌+◌, ◌*◌, ◌<◌, ◌⊎◌, Bool, true, false, cond, not, ◌==◌, ◌&&◌, ◌||◌, List, [], ◌∷◌, ◌++◌, Option, count_by, flat_map, filter, length, map, sum_by, take, Some, None, IsTrue, bytes_eq}
use Rattle.std.specs.Option.{is_some}
use Rattle.std.specs.List.{list_any}
use Rattle.icu_normalizer_core.specs.BuiltIn.{built_in_class, built_in_step, built_in_compatibility_step, is_jamo, is_syllable, is_within, is_built_in}
use Rattle.icu_normalizer_core.specs.Canonical.{Reaches, composed}
use Rattle.icu_normalizer_core.specs.ListRoom.{list_room}
use Rattle.icu_normalizer_core.specs.Named.{narrow_block, wide_block}
use Rattle.collate_lines.specs.declared.rule.Rule.{Rule}
use Rattle.collate_lines.specs.declared.rule.Rule.TheVariants.{Grammar, Limit, Set, C1, C2, C3, C4, C5, C6, C7, C8, C9, V1, V2, V3, V4, V5, V6, V7, V8, V9, V10, V11, V12, V13, V14, V15}
use Rattle.collate_lines.specs.declared.limits.Limits.{Limits}
use Rattle.collate_lines.specs.Record.{Record, class, mapping, compatibility, weights, range, digit}
use Rattle.collate_rules.specs.Meaning.{first_found, mapping_in, compatibility_in, class_of, step_of, compatibility_of, canonical_of, any_step, expanded, full_of}
use Rattle.collate_rules.specs.RecordRules.{breaks_decomposed, breaks_digits, breaks_dot_above, breaks_marks_last, breaks_prefixes, is_bad_jamo_record, lacks_shorter, names_special}
use Rattle.collate_rules.specs.SettingLines.{breaks_settings, numeric_of}
use Rattle.collate_lines.specs.Repeats.{record_at, says_something, Repeats}
use Rattle.icu_collator_core.specs.WeightRules.{is_sound_kind}
use Rattle.collate_rules.specs.GivenWeights.{BreakApart, BreakPrimaries, BreakRanges, HasRefused, has_sound_secondary, has_sound_tertiary}

-- the code points that a line names, those of a range aside
abbrev pub named : Record → List ℕ
named (class c k) = c ∷ []
named (mapping c ds is_excluded) = c ∷ ds
named (compatibility c ds) = c ∷ ds
named (weights layer prefix text es) = prefix ++ text
named (digit c value) = c ∷ []
named _ = []

abbrev pub is_range : Record → Bool
is_range (range r) = true
is_range _ = false

-- how many different numbers stand in a list
unfoldable pub different : List ℕ → ℕ
different [] = 0
different (c ∷ cs) = let others = different cs in cond (list_any (λ d. c == d) cs) others (1 + others)

-- how many code points lines name, each range for one
abbrev pub names_in : List Record → ℕ
names_in records = different (flat_map named records) + count_by is_range records

-- a line lists over eight characters or elements
abbrev pub IsLong : Record → Type 0
IsLong (compatibility c ds) = 8 < length ds
IsLong (weights layer prefix text es) = (8 < length text) ⊎ (8 < length es)
IsLong _ = ⊥

-- the blocks in which lines name a code point, a range counted as three
abbrev pub blocks_in : (ℕ → ℕ) → List Record → ℕ
blocks_in block_of records = different (map block_of (flat_map named records)) + 3 * count_by is_range records

-- a text of several characters, or one after a prefix
abbrev pub is_beside : Record → Bool
is_beside (weights layer [] (c ∷ []) es) = false
is_beside (weights layer prefix text es) = true
is_beside _ = false

-- how many elements a line gives, and one for what it says them of
abbrev pub element_room : Record → ℕ
element_room (weights layer prefix text es) = 1 + length es
element_room (range r) = 1
element_room (digit c value) = 1
element_room _ = 0

-- how many characters the full list of a line's character takes at most, by canonical mappings, and by those of both kinds
abbrev pub canonical_room : List Record → Record → ℕ
canonical_room records (mapping c ds is_excluded) = list_room (step_of records) ds
canonical_room records _ = 0

abbrev pub mapping_room : List Record → Record → ℕ
mapping_room records (mapping c ds is_excluded) = list_room (any_step records) ds
mapping_room records (compatibility c ds) = list_room (any_step records) ds
mapping_room records _ = 0

-- What tables have room for, whatever the limits: some lines take more.
abbrev pub LackRoom : List Record → List Record → Type 0
LackRoom records lines =
    (700 < blocks_in wide_block lines)
    ⊎ ((11000 < blocks_in narrow_block lines)
    ⊎ ((520000 < sum_by element_room lines)
    ⊎ ((3600 < count_by is_beside lines)
    ⊎ ((16000 < sum_by (canonical_room records) lines)
    ⊎ (16000 < sum_by (mapping_room records) lines)))))

-- limit, whatever numbers are set: the lines up to here take more than tables have room for, or this one lists over eight
-- characters or elements
abbrev pub IsTooLarge : List Record → ℕ → Type 0
IsTooLarge records i = LackRoom records (take (i + 1) records) ⊎ IsLong (record_at records i)

-- limit, with the numbers that are set: the lines up to here name more code points, or more of them say something
abbrev pub IsOverLimit : Limits → List Record → ℕ → Type 0
IsOverLimit limits records i =
    let lines = take (i + 1) records
    in (limits.code_points < names_in lines) ⊎ ((limits.records < length (filter says_something lines)) ⊎ IsTooLarge records i)

-- whether a line maps a character, canonically or by compatibility
abbrev pub is_mapped : List Record → ℕ → Bool
is_mapped records c = is_some (first_found (mapping_in c) records) || is_some (first_found (compatibility_in c) records)

-- whether lines map a character both canonically and by compatibility
abbrev pub is_mapped_twice : List Record → ℕ → Bool
is_mapped_twice records c = is_some (first_found (mapping_in c) records) && is_some (first_found (compatibility_in c) records)

-- a character that isn't built in has a mapping, and another one or a class other than 0
abbrev pub IsMappedMark : List Record → ℕ → Type 0
IsMappedMark records c =
    IsTrue (is_mapped records c) × (is_built_in c ≡ false) × ((class_of records c ≢ 0) ⊎ IsTrue (is_mapped_twice records c))

-- C1: there is such a character
abbrev pub MapsMark : List Record → Type 0
MapsMark records = (c : ℕ) × IsMappedMark records c

-- C2: mapping steps lead from a character to itself
abbrev pub HasLoop : List Record → Type 0
HasLoop records = (c : ℕ) × Reaches (any_step records) (any_step records c) c

-- C3: a class outside 1 to 254, other than one that is built in
abbrev pub IsBadClass : Record → Type 0
IsBadClass (class c k) = ((k ≡ 0) ⊎ (254 < k)) × (built_in_class c ≢ Some k)
IsBadClass _ = ⊥

-- whether a list begins with a mark
abbrev pub begins_with_mark : List Record → List ℕ → Bool
begins_with_mark records [] = false
begins_with_mark records (c ∷ cs) = not (class_of records c == 0)

-- what is left of a character after all steps of either kind
abbrev pub compatibility_full_of : List Record → ℕ → List ℕ
compatibility_full_of records c = expanded (any_step records) 0x110000 c

-- a list has over eight characters, or begins with a mark
abbrev pub IsBadList : List Record → List ℕ → Type 0
IsBadList records list = (8 < length list) ⊎ (begins_with_mark records list ≡ true)

-- a full list of a mapped character that isn't built in is bad, by canonical mappings or by all
abbrev pub IsBadlyMapped : List Record → ℕ → Type 0
IsBadlyMapped records c =
    IsTrue (is_mapped records c) × (is_built_in c ≡ false)
    × (IsBadList records (full_of records c) ⊎ IsBadList records (compatibility_full_of records c))

-- C4: there is such a character
abbrev pub HasBadList : List Record → Type 0
HasBadList records = (c : ℕ) × IsBadlyMapped records c

-- the two characters that a line composes, unless what it says of them is built in
abbrev pub pair_in : Record → Option (ℕ × ℕ)
pair_in (mapping c (d ∷ e ∷ []) false) = cond (is_built_in c) None (Some (d, e))
pair_in _ = None

-- whether two lines compose the same two characters
abbrev pub is_same_pair : Option (ℕ × ℕ) → Option (ℕ × ℕ) → Bool
is_same_pair (Some p) (Some q) = (p.0 == q.0) && (p.1 == q.1)
is_same_pair _ _ = false

-- C5: an earlier line composes the same two characters
abbrev pub RepeatsPair : List Record → ℕ → Type 0
RepeatsPair records i =
    IsTrue (list_any (λ s. is_same_pair (pair_in s) (pair_in (record_at records i))) (take i records))

-- the second of two characters is below 0300, or a vowel or final consonant of Hangul
abbrev pub HasBadSecond : Option (ℕ × ℕ) → Type 0
HasBadSecond (Some p) = (p.1 < 0x300) ⊎ IsTrue (is_within 0x1161 0x11ff p.1)
HasBadSecond None = ⊥

-- C6: a line composes two characters of which the second is so
abbrev pub IsBadlyComposed : Record → Type 0
IsBadlyComposed given = HasBadSecond (pair_in given)

-- a character below 0300 is a mark or not its own composed list, one below 00C0 has a canonical mapping, or one below 00A0 a
-- compatibility mapping
abbrev pub IsBadlyLow : List Record → ℕ → Type 0
IsBadlyLow records c =
    (c < 0x300)
    × ((class_of records c ≢ 0) ⊎ ((composed (canonical_of records) (c ∷ []) ≢ c ∷ [])
    ⊎ (((c < 0xc0) × (step_of records c ≢ [])) ⊎ ((c < 0xa0) × (compatibility_of records c ≢ [])))))

-- C7: there is such a character
abbrev pub HasBadLow : List Record → Type 0
HasBadLow records = (c : ℕ) × IsBadlyLow records c

-- whether a line says exactly what is built in; a syllable alone is composed
abbrev pub is_built_in_record : Record → Bool
is_built_in_record (mapping c (d ∷ []) is_excluded) =
    elim (built_in_step c) [ Some (e ∷ []) ↦ d == e | _ ↦ false ]
is_built_in_record (mapping c (d ∷ e ∷ []) is_excluded) =
    let agrees = cond (is_syllable c) (not is_excluded) is_excluded
    in elim (built_in_step c) [ Some (f ∷ g ∷ []) ↦ (d == f) && (e == g) && agrees | _ ↦ false ]
is_built_in_record (compatibility c ds) = elim (built_in_compatibility_step c) [ Some es ↦ bytes_eq ds es | None ↦ false ]
is_built_in_record (class c k) = elim (built_in_class c) [ Some l ↦ k == l | None ↦ false ]
is_built_in_record _ = false

-- C8: a line contradicts what is built in
abbrev pub Contradicts : Record → Type 0
Contradicts (class c k) = IsTrue (is_some (built_in_class c)) × (is_built_in_record (class c k) ≡ false)
Contradicts (mapping c ds x) = (is_built_in c ≡ true) × (is_built_in_record (mapping c ds x) ≡ false)
Contradicts (compatibility c ds) = (is_built_in c ≡ true) × (is_built_in_record (compatibility c ds) ≡ false)
Contradicts _ = ⊥

-- whether a jamo or a syllable stands in a list
abbrev pub has_hangul : List ℕ → Bool
has_hangul list = list_any (λ d. is_jamo d || is_syllable d) list

-- C9: a mapping that isn't built in names a jamo or a syllable
abbrev pub MapsHangul : Record → Type 0
MapsHangul (mapping c ds x) = IsTrue (has_hangul (c ∷ ds)) × (is_built_in_record (mapping c ds x) ≡ false)
MapsHangul (compatibility c ds) = IsTrue (has_hangul (c ∷ ds)) × (is_built_in_record (compatibility c ds) ≡ false)
MapsHangul _ = ⊥

-- Line i offends against a rule, whatever the limits. A breach that several lines make together offends from the latest of them on: there the
-- lines up to i are in breach.
abbrev pub Offends : Rule → List Record → ℕ → Type 0
Offends V14 records i = Repeats records i
Offends Limit records i = IsTooLarge records i
Offends C1 records i = MapsMark (take (i + 1) records)
Offends C2 records i = HasLoop (take (i + 1) records)
Offends C3 records i = IsBadClass (record_at records i)
Offends C4 records i = HasBadList (take (i + 1) records)
Offends C5 records i = RepeatsPair records i
Offends C6 records i = IsBadlyComposed (record_at records i)
Offends C7 records i = HasBadLow (take (i + 1) records)
Offends C8 records i = Contradicts (record_at records i)
Offends C9 records i = MapsHangul (record_at records i)
Offends V1 records i = HasRefused is_sound_kind (record_at records i)
Offends V2 records i = BreakPrimaries records (take (i + 1) records)
Offends V3 records i = HasRefused has_sound_secondary (record_at records i)
Offends V4 records i = HasRefused has_sound_tertiary (record_at records i)
Offends V5 records i = BreakApart (take (i + 1) records)
Offends V6 records i = BreakRanges records (take (i + 1) records)
Offends V7 records i = IsTrue (breaks_decomposed (take (i + 1) records))
Offends V8 records i = IsTrue (breaks_marks_last records (take (i + 1) records))
Offends V9 records i = IsTrue (lacks_shorter records (record_at records i))
Offends V10 records i = IsTrue (breaks_prefixes records (take (i + 1) records))
Offends V11 records i = IsTrue (breaks_digits records (take (i + 1) records))
Offends V12 records i = IsTrue (is_bad_jamo_record records (record_at records i))
Offends V13 records i = IsTrue (names_special (record_at records i))
Offends V15 records i = IsTrue (breaks_dot_above records (take (i + 1) records))
Offends Set records i = IsTrue (breaks_settings (numeric_of records) (take (i + 1) records))
Offends _ records i = ⊥

-- line i offends against a rule, by these limits
abbrev pub OffendsWithin : Limits → Rule → List Record → ℕ → Type 0
OffendsWithin limits Limit records i = IsOverLimit limits records i
OffendsWithin limits rule records i = Offends rule records i

-- The fault order: the grammar with V14, then the limits, then one rule after another.
abbrev pub rank : Rule → ℕ
rank Grammar = 0
rank V14 = 0
rank Limit = 1
rank C1 = 2
rank C2 = 3
rank C3 = 4
rank C4 = 5
rank C5 = 6
rank C6 = 7
rank C7 = 8
rank C8 = 9
rank C9 = 10
rank V1 = 11
rank V2 = 12
rank V3 = 13
rank V4 = 14
rank V5 = 15
rank V6 = 16
rank V7 = 17
rank V8 = 18
rank V9 = 19
rank V10 = 20
rank V11 = 21
rank V12 = 22
rank V13 = 23
rank V15 = 24
rank Set = 25
