-- Keys of short texts, level by level.
use Rattle.std.specs.Prelude.{◌≡◌, ℕ, List, [], ◌∷◌, ◌++◌, replicate, refl, codes}
use Rattle.std.specs.List.{flat_map}
use Rattle.std.specs.declared.cmp.Ordering.TheVariants.{Less}
use Rattle.icu_normalizer_core.specs.Decoding.{utf8_chars}
use Rattle.icu_collator_types.specs.declared.options.Strength.TheVariants.{Primary, Secondary, Tertiary, Quaternary, Identical}
use Rattle.examples_uses.specs.Asked.{at_strength, by_value, shifted_at, accents_then_upper_first}
use Rattle.examples_uses.specs.Letters.{letters, with_upper_a, with_digits, with_punctuation, with_ideographs, with_e_behind_abc, with_two_prefixes}
use Rattle.examples_uses.specs.Keys.{key, hex, last_bytes, bytes_order}
use Rattle.examples_uses.proofs.KeyRowComputing.{computing}

-- Primary, secondary and tertiary of one letter, and of none.
pub key_of_a : key letters (at_strength Tertiary) (codes "a") ≡ hex (codes "2a10010501010501")
unfolding computing
key_of_a = refl

pub key_of_nothing : key letters (at_strength Tertiary) [] ≡ hex (codes "01010101")
unfolding computing
key_of_nothing = refl

-- An accent of its own is as good as one composed with its letter.
pub key_of_a_acute : key letters (at_strength Tertiary) (0xe1 ∷ []) ≡ hex (codes "2a1001458801010601")
unfolding computing
key_of_a_acute = refl

pub key_of_a_and_acute : key letters (at_strength Tertiary) (0x61 ∷ 0x301 ∷ []) ≡ hex (codes "2a1001458801010601")
unfolding computing
key_of_a_and_acute = refl

-- At Identical a quaternary level of common weights alone, and the characters, follow.
pub identical_key_of_a : key letters (at_strength Identical) (codes "a") ≡ hex (codes "2a1001050101050101010192")
unfolding computing
identical_key_of_a = refl

-- Characters are written as differences, ideographs in another way than those after it.
pub characters_behind_the_last_ideograph :
    last_bytes 7 (key letters (at_strength Identical) (0x9fff ∷ 0x61 ∷ [])) ≡ hex (codes "01fca4950688a8")
unfolding computing
characters_behind_the_last_ideograph = refl

pub characters_past_the_ideographs :
    last_bytes 7 (key letters (at_strength Identical) (0xa000 ∷ 0x61 ∷ [])) ≡ hex (codes "01fca496065e2e")
unfolding computing
characters_past_the_ideographs = refl

-- Primaries with one compressible lead.
pub key_of_z : key letters (at_strength Primary) (codes "z") ≡ hex (codes "fe0408d4")
unfolding computing
key_of_z = refl

pub key_of_zz : key letters (at_strength Primary) (codes "zz") ≡ hex (codes "fe0408d40408d4")
unfolding computing
key_of_zz = refl

-- A lower lead ends the run with 03.
pub key_of_za : key letters (at_strength Primary) (codes "za") ≡ hex (codes "fe0408d4032a10")
unfolding computing
key_of_za = refl

-- U+FFFE ends it with nothing.
pub key_of_end_before_nulls : key letters (at_strength Primary) (0xfffe ∷ 0 ∷ 0 ∷ []) ≡ hex (codes "02fe040210040210")
unfolding computing
key_of_end_before_nulls = refl

pub key_of_end_between_nulls : key letters (at_strength Primary) (0 ∷ 0xfffe ∷ 0 ∷ []) ≡ hex (codes "fe04021002fe040210")
unfolding computing
key_of_end_between_nulls = refl

pub earlier_end_has_the_lower_key :
    bytes_order (key letters (at_strength Primary) (0xfffe ∷ 0 ∷ 0 ∷ []))
    (key letters (at_strength Primary) (0 ∷ 0xfffe ∷ 0 ∷ []))
    ≡ Less
unfolding computing
earlier_end_has_the_lower_key = refl

-- fourteen times the primary of "a"
abbrev fourteen_letters : List ℕ
fourteen_letters = flat_map (λ b. b) (replicate 14 (0x2a ∷ 0x10 ∷ []))

-- A full block of thirteen lower cases is written 15.
pub upper_case_behind_thirteen :
    key with_upper_a accents_then_upper_first (replicate 13 0x61 ++ codes "A") ≡ fourteen_letters ++ hex (codes "01120101f1")
unfolding computing
upper_case_behind_thirteen = refl

pub fourteen_lower_cases :
    key with_upper_a accents_then_upper_first (replicate 14 0x61) ≡ fourteen_letters ++ hex (codes "01120101f3")
unfolding computing
fourteen_lower_cases = refl

-- Under backward too the secondary level of nothing is its end alone.
pub key_of_nothing_backward : key (letters ++ codes "set backward on" ∷ []) (at_strength Secondary) [] ≡ hex (codes "0101")
unfolding computing
key_of_nothing_backward = refl

-- What is damaged in the same way has the same key.
pub keys_of_damaged_text :
    key letters (at_strength Identical) (utf8_chars (0xf0 ∷ 0x90 ∷ []))
    ≡ key letters (at_strength Identical) (utf8_chars (0xef ∷ 0xbf ∷ 0xbd ∷ []))
unfolding computing
keys_of_damaged_text = refl

-- A syllable has the key of its jamo.
pub key_of_a_syllable : key letters (at_strength Primary) (0xac00 ∷ []) ≡ hex (codes "fd0402fd0463")
unfolding computing
key_of_a_syllable = refl

pub key_of_two_jamo : key letters (at_strength Primary) (0x1100 ∷ 0x1161 ∷ []) ≡ hex (codes "fd0402fd0463")
unfolding computing
key_of_two_jamo = refl

pub key_of_the_first_ideograph : key with_ideographs (at_strength Primary) (0x4e00 ∷ []) ≡ hex (codes "e00202")
unfolding computing
key_of_the_first_ideograph = refl

pub key_of_an_ideograph : key with_ideographs (at_strength Primary) (0x4efe ∷ []) ≡ hex (codes "e00302")
unfolding computing
key_of_an_ideograph = refl

-- A space counts at the quaternary level alone, between two runs of common weights.
pub key_of_a_space_c :
    key with_punctuation (shifted_at Quaternary) (codes "a c") ≡ hex (codes "2a102a30010601010601011c03041c01")
unfolding computing
key_of_a_space_c = refl

pub key_of_ac : key with_punctuation (shifted_at Quaternary) (codes "ac") ≡ hex (codes "2a102a30010601010601011d01")
unfolding computing
key_of_ac = refl

-- Where nothing can be shifted, common quaternaries alone are only an end.
pub quaternary_key_of_ac : key with_punctuation (at_strength Quaternary) (codes "ac") ≡ hex (codes "2a102a300106010106010101")
unfolding computing
quaternary_key_of_ac = refl

-- After a prefix of three letters "e" has another primary.
pub key_behind_a_prefix : key with_e_behind_abc (at_strength Primary) (codes "abce") ≡ hex (codes "2a102a202a302aa0")
unfolding computing
key_behind_a_prefix = refl

-- Besides, "e" after "c" alone is a letter between "e" and "h". After "bc" only that prefix is there.
pub key_behind_the_shorter_prefix :
    key with_two_prefixes (at_strength Primary) (codes "bce")
    ≡ hex (codes "2a202a302a70")
unfolding computing
key_behind_the_shorter_prefix = refl

-- A compressible lead that the file sets is left out after the same lead.
pub key_under_a_compressible_lead :
    key (letters ++ codes "set compress 2A" ∷ []) (at_strength Primary) (codes "ab")
    ≡ hex (codes "2a1020")
unfolding computing
key_under_a_compressible_lead = refl

-- A higher lead ends such a run with FF, the end of the text with nothing.
pub key_across_two_leads :
    key (letters ++ codes "set compress 2A" ∷ []) (at_strength Primary) (codes "abtab")
    ≡ hex (codes "2a1020ff2b402a1020")
unfolding computing
key_across_two_leads = refl

-- Each lead that a line lists is compressible.
pub key_under_two_compressible_leads :
    key (letters ++ codes "set compress 2A 2B" ∷ codes "w 0073 ; [2B100000.0500.0.0500.0]" ∷ []) (at_strength Primary) (codes "abst")
    ≡ hex (codes "2a1020ff2b1040")
unfolding computing
key_under_two_compressible_leads = refl

pub key_without_a_compressible_lead : key letters (at_strength Primary) (codes "ab") ≡ hex (codes "2a102a20")
unfolding computing
key_without_a_compressible_lead = refl

-- Leads that change places do so in keys.
pub key_reordered :
    key (letters ++ codes "set reorder 2A 2B 2B 2A" ∷ []) (at_strength Primary) (codes "at")
    ≡ hex (codes "2b102a40")
unfolding computing
key_reordered = refl

-- A number by value under the lead that the file sets.
pub key_of_a_number_under_another_lead :
    key (with_digits ++ codes "set numeric 12" ∷ []) (by_value Primary) (codes "10233")
    ≡ hex (codes "1273ff")
unfolding computing
key_of_a_number_under_another_lead = refl

-- A weight of the tailoring takes the place of the root's.
pub key_of_a_moved_letter :
    key (letters ++ codes "t 0061 ; [2A600000.0500.0.0500.0]" ∷ []) (at_strength Primary) (codes "ab")
    ≡ hex (codes "2a602a20")
unfolding computing
key_of_a_moved_letter = refl
