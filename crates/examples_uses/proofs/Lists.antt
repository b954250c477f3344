-- Names in order, each given by its bytes.
use Rattle.std.specs.Prelude.{◌≡◌, ℕ, List, [], ◌∷◌, ◌++◌, refl, codes}
use Rattle.std.specs.declared.cmp.Ordering.TheVariants.{Less}
use Rattle.icu_collator_types.specs.declared.options.Strength.TheVariants.{Primary, Tertiary}
use Rattle.icu_normalizer_core.specs.Decoding.{utf8_chars}
use Rattle.examples_uses.specs.Files.{Lines}
use Rattle.examples_uses.specs.Asked.{at_strength, order, list_of}
use Rattle.collate_lists.specs.Names.{equal_names}
use Rattle.examples_uses.specs.Letters.{letters}
use Rattle.examples_uses.proofs.WorkedComputing.{computing}

-- three names as they arrive
abbrev arrived : List (List ℕ)
arrived = codes "ch" ∷ codes "cl" ∷ codes "ab" ∷ []

-- Letter by letter "ch" is below "cl".
pub names_letter_by_letter : list_of letters (at_strength Primary) arrived ≡ codes "ab" ∷ codes "ch" ∷ codes "cl" ∷ []
unfolding computing
names_letter_by_letter = refl

-- "ch" as a letter after "c"
abbrev with_ch : Lines
with_ch = letters ++ codes "w 0063 0068 ; [2A400000.0500.0.0500.0]" ∷ []

-- As a letter of its own it is above "cl".
pub names_with_ch : list_of with_ch (at_strength Primary) arrived ≡ codes "ab" ∷ codes "cl" ∷ codes "ch" ∷ []
unfolding computing
names_with_ch = refl

-- "b", "á" (of two bytes) and "a" as they arrive
abbrev accented : List (List ℕ)
accented = codes "b" ∷ (0xc3 ∷ 0xa1 ∷ []) ∷ codes "a" ∷ []

-- The accent counts at Tertiary.
pub names_with_an_accent :
    list_of letters (at_strength Tertiary) accented ≡ codes "a" ∷ (0xc3 ∷ 0xa1 ∷ []) ∷ codes "b" ∷ []
unfolding computing
names_with_an_accent = refl

-- At Primary it doesn't: both names are found, in order of arrival.
pub names_equal_to_a :
    equal_names
    (λ x y. order letters (at_strength Primary) (utf8_chars x) (utf8_chars y))
    (codes "a")
    (list_of letters (at_strength Primary) accented)
    ≡ (0xc3 ∷ 0xa1 ∷ []) ∷ codes "a" ∷ []
unfolding computing
names_equal_to_a = refl

-- A beginning of a name is below it.
pub a_is_below_ab : order letters (at_strength Primary) (codes "a") (codes "ab") ≡ Less
unfolding computing
a_is_below_ab = refl
