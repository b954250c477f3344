-- Compatibility mappings that are given to a builder are of characters.
use Rattle.std.specs.Prelude.{◌<◌, length}
use Rattle.std.specs.List.{All}
use Rattle.std.specs.Char.{IsScalar}
use Rattle.icu_normalizer_core.specs.declared.builder.given.GivenCompatibility.{GivenCompatibility}

-- the mapping is of scalar values, one or more
pub record IsOfCharacters (g : GivenCompatibility) : Type 0 where
  pub character : IsScalar g.character
  pub mapping : All IsScalar g.mapping.items
  pub some : 0 < length g.mapping.items
