-- Lines that break the rules on weights, and the nearest ones that don't.
use Rattle.std.proofs.Common.{◌≡◌, ℕ, true, false, List, [], ◌∷◌, refl}
use Rattle.std.specs.List.{list_all}
use Rattle.icu_collator_types.specs.declared.elements.Element.{Element}
use Rattle.icu_collator_core.specs.Numbers.{without_last_zeros}
use Rattle.icu_collator_core.specs.WeightRules.{is_proper_beginning, is_sound_kind}
use Rattle.collate_lines.specs.Record.{Record, lone_weights, range, setting, numeric, compress}
use Rattle.collate_rules.specs.GivenWeights.{HasRefused, are_all_apart, are_sound_ranges, elements_of, given_elements, given_ranges, has_sound_primary, has_sound_secondary, has_sound_tertiary, leads_to}

-- an element of common weights: [P.0500.0.0500.0]
letter : ℕ → Element
letter primary = record { primary = primary; secondary = 0x500; case = 0; tertiary = 0x500; quaternary = 0 }

-- one of a secondary and a tertiary: [0.S.0.T.0]
mark : ℕ → ℕ → Element
mark secondary tertiary = record { primary = 0; secondary = secondary; case = 0; tertiary = tertiary; quaternary = 0 }

line : ℕ → Element → Record
line c e = lone_weights c (e ∷ [])

unfoldable given : Unit {0}
unfolding letter mark line without_last_zeros is_proper_beginning
given = tt

-- ---- V1: a mark has a tertiary

with_tertiary : list_all is_sound_kind (elements_of (line 0x300 (mark 0x8000 0x500))) ≡ true
unfolding given letter mark line
with_tertiary = refl

without_tertiary : HasRefused is_sound_kind (line 0x300 (mark 0x8000 0))
unfolding given letter mark line
without_tertiary = refl

-- ---- V2: the lead 2A becomes that of numbers by the second line, or compressible, where 03 may not be the second byte

numbers_later : List Record
numbers_later = line 0x61 (letter 0x2a10_0000) ∷ setting (numeric 0x2a) ∷ []

not_yet : list_all (has_sound_primary (leads_to numbers_later (line 0x61 (letter 0x2a10_0000) ∷ []))) (given_elements numbers_later) ≡ true
unfolding given letter mark line numbers_later
not_yet = refl

then : list_all (has_sound_primary (leads_to numbers_later numbers_later)) (given_elements numbers_later) ≡ false
unfolding given letter mark line numbers_later
then = refl

-- the default lead, 10, is that of numbers only where no line sets another
moved_numbers : List Record
moved_numbers = line 0x61 (letter 0x1010_0000) ∷ setting (numeric 0x20) ∷ []

moved : list_all (has_sound_primary (leads_to moved_numbers moved_numbers)) (given_elements moved_numbers) ≡ true
unfolding given letter mark line moved_numbers
moved = refl

at_default : let lines = line 0x61 (letter 0x1010_0000) ∷ [] in list_all (has_sound_primary (leads_to lines lines)) (given_elements lines) ≡ false
unfolding given letter mark line
at_default = refl

compressed_later : List Record
compressed_later = line 0x61 (letter 0x2a03_0000) ∷ setting (compress (0x2b ∷ 0x2a ∷ [])) ∷ []

room_yet : list_all (has_sound_primary (leads_to compressed_later (line 0x61 (letter 0x2a03_0000) ∷ []))) (given_elements compressed_later) ≡ true
unfolding given letter mark line compressed_later
room_yet = refl

no_room_then : list_all (has_sound_primary (leads_to compressed_later compressed_later)) (given_elements compressed_later) ≡ false
unfolding given letter mark line compressed_later
no_room_then = refl

-- ---- V3 and V4

secondary : list_all has_sound_secondary (elements_of (line 0x300 (mark 0x4600 0x500))) ≡ true
unfolding given letter mark line
secondary = refl

low_secondary : HasRefused has_sound_secondary (line 0x300 (mark 0x4500 0x500))
unfolding given letter mark line
low_secondary = refl

tertiary : list_all has_sound_tertiary (elements_of (line 0x300 (mark 0x8000 0x3f3f))) ≡ true
unfolding given letter mark line
tertiary = refl

high_tertiary : HasRefused has_sound_tertiary (line 0x300 (mark 0x8000 0x3f40))
unfolding given letter mark line
high_tertiary = refl

-- ---- V5: 2A 10 begins 2A 10 20, also with another weight between them; equal weights keep apart

begun : are_all_apart (letter 0x2a10_0000 ∷ letter 0x2b10_0000 ∷ letter 0x2a10_2000 ∷ []) ≡ false
unfolding given letter mark line
begun = refl

apart : are_all_apart (letter 0x2a10_0000 ∷ letter 0x2a10_0000 ∷ letter 0x2a11_2000 ∷ []) ≡ true
unfolding given letter mark line
apart = refl

-- the secondary 80 00 begins 80 02
begun_secondary : are_all_apart (mark 0x8000 0x500 ∷ mark 0x8002 0x500 ∷ []) ≡ false
unfolding given letter mark line
begun_secondary = refl

-- ---- V6

ideographs : ℕ → ℕ → ℕ → Record
ideographs first last step = range (record { first = first; last = last; primary = 0xe002_0200; step = step })

one_range : let lines = ideographs 0x4e00 0x9fff 1 ∷ line 0x61 (letter 0x2a10_0000) ∷ []
    in are_sound_ranges (leads_to lines lines) (given_ranges lines) (given_elements lines) ≡ true
unfolding given letter mark line ideographs
one_range = refl

-- the last primary leaves the lead
far : let lines = ideographs 0x4e00 0x9fff 127 ∷ [] in are_sound_ranges (leads_to lines lines) (given_ranges lines) (given_elements lines) ≡ false
unfolding given letter mark line ideographs
far = refl

-- U+9FFF is in both
overlapping : let lines = ideographs 0x4e00 0x9fff 1 ∷ ideographs 0x9fff 0xa000 1 ∷ []
    in are_sound_ranges (leads_to lines lines) (given_ranges lines) (given_elements lines) ≡ false
unfolding given letter mark line ideographs
overlapping = refl

-- an element has the lead of the range
same_lead : let lines = ideographs 0x4e00 0x9fff 1 ∷ line 0x61 (letter 0xe010_0000) ∷ []
    in are_sound_ranges (leads_to lines lines) (given_ranges lines) (given_elements lines) ≡ false
unfolding given letter mark line ideographs
same_lead = refl

-- a jamo is inside
with_jamo : let lines = ideographs 0x10ff 0x1100 1 ∷ [] in are_sound_ranges (leads_to lines lines) (given_ranges lines) (given_elements lines) ≡ false
unfolding given letter mark line ideographs
with_jamo = refl
