-- what the data's types mean
use Rattle.std.specs.Prelude.{ℕ, List, [], ◌∷◌}
use Rattle.icu_normalizer_core.specs.declared.decomposed.Decomposed.{Decomposed}
use Rattle.icu_normalizer_core.specs.declared.decomposed.Decomposed.TheVariants.{Default, Singleton, Expansion}

-- the characters of a mapping; none where there is no mapping
abbrev pub mapped_to : Decomposed → List ℕ
mapped_to Default = []
mapped_to (Singleton c) = c ∷ []
mapped_to (Expansion c d) = c ∷ d ∷ []
