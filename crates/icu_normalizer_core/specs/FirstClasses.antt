-- A map of the first class that is given for each character.
use Rattle.std.specs.Prelude.{◌≡◌, ℕ, List, option_map}
use Rattle.std.specs.BTreeMap.{BTreeMap, get}
use Rattle.std.specs.Ordering.{nat_cmp}
use Rattle.icu_normalizer_core.specs.declared.builder.given.GivenClass.{GivenClass}
use Rattle.icu_normalizer_core.specs.CanonicalMaps.{first_class}

-- a map has the first class of each character
abbrev pub HasFirstClasses : List GivenClass → BTreeMap ℕ ℕ → Type 0
HasFirstClasses classes firsts = (c : ℕ) → get nat_cmp firsts c ≡ option_map (λ g. g.class) (first_class classes c)
