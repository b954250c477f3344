-- Mappings as numbers: a character and what it is mapped to, or a composed pair, in one number each.
use Rattle.std.specs.Prelude.{◌≢◌, ℕ, ◌+◌, ◌*◌, ◌/◌, ◌%◌, ◌^◌, ◌&&◌, not, cond, List, [], ◌∷◌}
use Rattle.std.specs.Char.{IsScalar}
use Rattle.std.specs.Option.{is_some, unwrap_or}
use Rattle.icu_normalizer_core.specs.declared.builder.given.GivenMapping.{GivenMapping}
use Rattle.icu_normalizer_core.specs.BuiltIn.{built_in_step}

-- the second character of a mapping, 110000 where there is none
abbrev pub second_code : GivenMapping → ℕ
second_code g = unwrap_or g.second 0x110000

-- the character, what it is mapped to first, and second
abbrev pub mapping_number : GivenMapping → ℕ
mapping_number g = g.character * 2 ^ 42 + g.first * 2 ^ 21 + second_code g

-- the number of a mapping that isn't built in
abbrev pub mapping_numbers : GivenMapping → List ℕ
mapping_numbers g = cond (is_some (built_in_step g.character)) [] (mapping_number g ∷ [])

-- the two that a character is composed of, and the character
abbrev pub pair_number : GivenMapping → ℕ
pair_number g = g.first * 2 ^ 42 + second_code g * 2 ^ 21 + g.character

-- the number of a composed pair that isn't built in
abbrev pub pair_numbers : GivenMapping → List ℕ
pair_numbers g = cond (g.is_composed && (is_some g.second && not (is_some (built_in_step g.character)))) (pair_number g ∷ []) []

-- three numbers in one
abbrev pub triple : ℕ → List ℕ
triple n = (n / 2 ^ 42) ∷ (n / 2 ^ 21 % 2 ^ 21) ∷ (n % 2 ^ 21) ∷ []

-- the number is that of a mapping of scalar values
pub record IsMappingNumber (n : ℕ) : Type 0 where
  pub character : IsScalar (n / 2 ^ 42)
  pub first : IsScalar (n / 2 ^ 21 % 2 ^ 21)
  pub second : n % 2 ^ 21 ≢ 0x110000 → IsScalar (n % 2 ^ 21)

-- the number is that of a composed pair of scalar values
pub record IsPairNumber (n : ℕ) : Type 0 where
  pub first : IsScalar (n / 2 ^ 42)
  pub second : IsScalar (n / 2 ^ 21 % 2 ^ 21)
  pub composed : IsScalar (n % 2 ^ 21)
