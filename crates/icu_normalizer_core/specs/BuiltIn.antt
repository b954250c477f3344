-- What is built in: Hangul, jamo, U+FFFD, seven decompositions that compose to nothing, two compatibility mappings,
-- and the classes of the marks that these name (UAX 15; the list is that of docs/RECORDS.md).
use Rattle.std.specs.Prelude.{ℕ, ◌+◌, ◌-◌, ◌*◌, ◌/◌, ◌%◌, Bool, cond, ◌==◌, ◌&&◌, ◌||◌, leb, List, [], ◌∷◌, Option, Some, None}
use Rattle.std.specs.Option.{is_some}

-- first ≤ c ≤ last
abbrev pub is_within : ℕ → ℕ → ℕ → Bool
is_within first last c = leb first c && leb c last

-- a Hangul syllable
abbrev pub is_syllable : ℕ → Bool
is_syllable c = is_within 0xac00 0xd7a3 c

-- a Hangul syllable of two jamo, which is built in as first and second
abbrev pub is_open_syllable : ℕ → Bool
is_open_syllable c = is_syllable c && (((c - 0xac00) % 28) == 0)

-- a letter of the block of Hangul jamo
abbrev pub is_jamo : ℕ → Bool
is_jamo c = is_within 0x1100 0x11ff c

-- the leading consonant and the vowel of a syllable with no trailing consonant; else the syllable without the trailing
-- consonant, and that consonant
unfoldable pub syllable_step : ℕ → List ℕ
syllable_step c =
    let i = c - 0xac00
    in let short = (0x1100 + i / 588) ∷ (0x1161 + i % 588 / 28) ∷ []
    in let long = (c - i % 28) ∷ (0x11a7 + i % 28) ∷ []
    in cond ((i % 28) == 0) short long

-- the syllable that two characters compose to
unfoldable pub syllable_of : ℕ → ℕ → Option ℕ
syllable_of first second =
    let of_jamo = Some (0xac00 + ((first - 0x1100) * 21 + (second - 0x1161)) * 28)
    in let of_syllable = Some (first + (second - 0x11a7))
    in cond (is_within 0x1100 0x1112 first && is_within 0x1161 0x1175 second)
    of_jamo
    (cond (is_open_syllable first && is_within 0x11a8 0x11c2 second) of_syllable None)

-- the seven whose mapping is built in without a composed pair
unfoldable pub singled_out : ℕ → Option (List ℕ)
singled_out c =
    cond (c == 0x340) (Some (0x300 ∷ []))
    (cond (c == 0x341) (Some (0x301 ∷ []))
    (cond (c == 0x343) (Some (0x313 ∷ []))
    (cond (c == 0x344) (Some (0x308 ∷ 0x301 ∷ []))
    (cond (c == 0xf73) (Some (0xf71 ∷ 0xf72 ∷ []))
    (cond (c == 0xf75) (Some (0xf71 ∷ 0xf74 ∷ []))
    (cond (c == 0xf81) (Some (0xf71 ∷ 0xf80 ∷ [])) None))))))

-- the canonical mapping of a character that has a built-in one; the empty list where it is built in that there is none
unfoldable pub built_in_step : ℕ → Option (List ℕ)
built_in_step c =
    cond (is_syllable c) (Some (syllable_step c))
    (cond (is_jamo c || (c == 0xfffd)) (Some []) (singled_out c))

-- the compatibility mapping of a character that has a built-in one
unfoldable pub built_in_compatibility_step : ℕ → Option (List ℕ)
built_in_compatibility_step c =
    cond (c == 0xff9e) (Some (0x3099 ∷ [])) (cond (c == 0xff9f) (Some (0x309a ∷ [])) None)

-- whether a mapping of this character, of either kind, or that it has none, is built in
abbrev pub is_built_in : ℕ → Bool
is_built_in c = is_some (built_in_step c) || is_some (built_in_compatibility_step c)

-- the class of a character that has a built-in one
unfoldable pub built_in_class : ℕ → Option ℕ
built_in_class c =
    let above =
    (c == 0x300) || (c == 0x301) || (c == 0x308) || (c == 0x313)
    || (c == 0x340) || (c == 0x341) || (c == 0x343) || (c == 0x344)
    in let none =
    is_syllable c || is_jamo c || (c == 0xfffd)
    || (c == 0xf73) || (c == 0xf75) || (c == 0xf81) || (c == 0xff9e) || (c == 0xff9f)
    in cond above (Some 230)
    (cond (c == 0xf71) (Some 129)
    (cond ((c == 0xf72) || (c == 0xf80)) (Some 130)
    (cond (c == 0xf74) (Some 132)
    (cond ((c == 0x3099) || (c == 0x309a)) (Some 8)
    (cond none (Some 0) None)))))
