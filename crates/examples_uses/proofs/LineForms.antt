-- How the bytes of a file are read: its lines, and what can stand in them.
use Rattle.std.specs.Prelude.{◌≡◌, [], ◌∷◌, ◌++◌, length, refl, codes}
use Rattle.std.specs.declared.cmp.Ordering.TheVariants.{Equal, Greater}
use Rattle.icu_collator_types.specs.declared.options.Strength.TheVariants.{Primary, Tertiary}
use Rattle.icu_collator_core.specs.Defaults.{primary_element}
use Rattle.collate_lines.specs.Lines.{records_of}
use Rattle.collate_rules.specs.Meaning.{compatibility_of}
use Rattle.examples_uses.specs.Files.{file}
use Rattle.examples_uses.specs.Asked.{at_strength, order, elements}
use Rattle.examples_uses.specs.Letters.{letters, with_ideographs}
use Rattle.examples_uses.proofs.WorkedComputing.{computing}

-- Each line is one record.
pub lines_of_the_letters : length (records_of (file letters)) ≡ 15
lines_of_the_letters = refl

-- The last line may lack its LF.
pub last_line_without_an_end :
    records_of (file letters ++ codes "class 0350 230") ≡ records_of (file (letters ++ codes "class 0350 230" ∷ []))
last_line_without_an_end = refl

-- A file of no bytes has no line.
pub nothing_is_no_line : length (records_of []) ≡ 0
nothing_is_no_line = refl

-- Comments and empty lines say nothing.
pub comments_say_nothing :
    order (codes "# w 0061 ; [2AA00000.0500.0.0500.0]" ∷ [] ∷ letters) (at_strength Tertiary) (codes "b") (codes "a") ≡ Greater
unfolding computing
comments_say_nothing = refl

-- A text can have several elements: U+00C6 as "a" and "e".
pub several_elements :
    order (letters ++ codes "w 00C6 ; [2A100000.0500.0.0500.0] [2A500000.0500.0.0500.0]" ∷ [])
    (at_strength Tertiary)
    (codes "cÆ")
    (codes "cae")
    ≡ Equal
unfolding computing
several_elements = refl

-- An element has its five weights in the order primary, secondary, case, tertiary, quaternary.
pub five_weights :
    elements (letters ++ codes "w 0041 ; [2A100000.0500.2.0900.3]" ∷ []) (at_strength Primary) (codes "A")
    ≡ record { primary = 0x2a100000; secondary = 0x500; case = 2; tertiary = 0x900; quaternary = 3 } ∷ []
unfolding computing
five_weights = refl

-- A code point of five digits, and one of six.
pub code_point_of_five_digits :
    elements (letters ++ codes "w 1F600 ; [2B500000.0500.0.0500.0]" ∷ []) (at_strength Primary) (0x1f600 ∷ [])
    ≡ primary_element 0x2b500000 ∷ []
unfolding computing
code_point_of_five_digits = refl

pub code_point_of_six_digits :
    elements (letters ++ codes "w 10FFFD ; [2B500000.0500.0.0500.0]" ∷ []) (at_strength Primary) (0x10fffd ∷ [])
    ≡ primary_element 0x2b500000 ∷ []
unfolding computing
code_point_of_six_digits = refl

-- In a range each character is a step above the one before; a record of its own wins over the range.
pub second_of_a_range_in_steps_of_seven :
    elements (letters ++ codes "range 4E00 4E09 E0020200 7" ∷ []) (at_strength Primary) (0x4e01 ∷ [])
    ≡ primary_element 0xe0020900 ∷ []
unfolding computing
second_of_a_range_in_steps_of_seven = refl

pub record_in_a_range :
    elements (with_ideographs ++ codes "w 4E00 ; [2C100000.0500.0.0500.0]" ∷ []) (at_strength Primary) (0x4e00 ∷ [])
    ≡ primary_element 0x2c100000 ∷ []
unfolding computing
record_in_a_range = refl

-- A range ends with its last character: the next one's primary goes by its number.
pub behind_a_range :
    elements (letters ++ codes "range 4E00 4E09 E0020200 7" ∷ []) (at_strength Primary) (0x4e0a ∷ [])
    ≡ elements letters (at_strength Primary) (0x4e0a ∷ [])
unfolding computing
behind_a_range = refl

-- A compatibility mapping is of one or more characters.
pub compatibility_of_a_ligature : compatibility_of (records_of (codes "kmap FB01 0066 0069")) 0xfb01 ≡ 0x66 ∷ 0x69 ∷ []
unfolding computing
compatibility_of_a_ligature = refl
