-- What tables say of one character, tested against what is built in. A test fails just where the tables contradict it.
use Rattle.std.specs.Prelude.{ℕ, Bool, true, false, not, ◌==◌, ◌&&◌, ◌||◌, leb, List, [], ◌∷◌, take, Option, Some, None, nat_eq}
use Rattle.std.specs.List.{list_any}
use Rattle.std.specs.Cmp.Lexicographic.{pointwise}
use Rattle.icu_normalizer_core.specs.BuiltIn.{is_syllable, is_jamo, built_in_step, built_in_class}
use Rattle.icu_normalizer_core.specs.CanonicalWords.{is_inside, built_in_full}
use Rattle.icu_normalizer_core.specs.CanonicalLists.{CanonicalLists, canonical_of, listed_step}

abbrev pub is_nothing : List ℕ → Bool
is_nothing [] = true
is_nothing (c ∷ cs) = false

abbrev pub is_letter : ℕ → Bool
is_letter c = is_jamo c || is_syllable c

-- the class is the built-in one, where one is built in
abbrev pub is_class : Option ℕ → ℕ → Bool
is_class None class = true
is_class (Some k) class = class == k

-- a mapping is listed beside a built-in one only if it is the same
abbrev pub is_listed_step : Option (List ℕ) → List ℕ → Bool
is_listed_step None listed = true
is_listed_step (Some ds) listed = is_nothing listed || pointwise nat_eq listed ds

-- where a full list is built in, that of the tables is inside the lists, and its first nine characters are the built-in list; those have at most three
abbrev pub is_full_list : Option (List ℕ) → Bool → List ℕ → Bool
is_full_list None inside first_nine = true
is_full_list (Some list) inside first_nine = inside && pointwise nat_eq first_nine list

-- a character below U+0300 is a starter
abbrev pub is_starter_if_low : ℕ → ℕ → Bool
is_starter_if_low c class = leb 0x300 c || (class == 0)

-- a character below U+00C0 has no mapping
abbrev pub is_unmapped_if_low : ℕ → List ℕ → Bool
is_unmapped_if_low c listed = leb 0xc0 c || is_nothing listed

-- a listed mapping names no jamo or syllable, where none is built in
abbrev pub names_no_letter : Option (List ℕ) → List ℕ → Bool
names_no_letter (Some ds) listed = true
names_no_letter None listed = not (list_any is_letter listed)

-- the tables contradict nothing that is built in of the character
unfoldable pub agrees : CanonicalLists → ℕ → Bool
agrees lists c =
    let class = (canonical_of lists).class c
    in let listed = listed_step lists.steps c
    in let inside = is_inside lists.scalars16 lists.scalars24 (lists.word c)
    in let first_nine = take 9 ((canonical_of lists).full c)
    in is_class (built_in_class c) class
    && (is_starter_if_low c class
    && (is_unmapped_if_low c listed
    && (is_listed_step (built_in_step c) listed
    && (names_no_letter (built_in_step c) listed
    && is_full_list (built_in_full c) inside first_nine))))
