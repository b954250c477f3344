-- What is given to a builder of canonical tables is of characters.
use Rattle.std.specs.Prelude.{IfSome}
use Rattle.std.specs.List.{All}
use Rattle.std.specs.Char.{IsScalar}
use Rattle.icu_normalizer_core.specs.declared.builder.given.GivenMapping.{GivenMapping}
use Rattle.icu_normalizer_core.specs.CanonicalMaps.{CanonicalMaps}

-- the mapping is of scalar values
pub record IsOfScalars (g : GivenMapping) : Type 0 where
  pub character : IsScalar g.character
  pub first : IsScalar g.first
  pub second : IfSome g.second IsScalar

-- maps name scalar values alone
pub record AreOfScalars (maps : CanonicalMaps) : Type 0 where
  pub classes : All (λ g. IsScalar g.character) maps.classes
  pub mappings : All IsOfScalars maps.mappings
