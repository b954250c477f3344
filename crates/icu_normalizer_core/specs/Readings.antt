-- What one read of words tells.
use Rattle.std.specs.Prelude.{◌≡◌, ℕ, [], ◌∷◌}
use Rattle.icu_normalizer_core.specs.Canonical.{Canonical}
use Rattle.icu_normalizer_core.specs.Words.{WordLists, full_in, class_in}
use Rattle.icu_normalizer_core.specs.declared.canonical.character_data.Reading.{Reading}
use Rattle.icu_normalizer_core.specs.declared.canonical.character_data.Reading.TheVariants.{Itself, Two, Three, Other}

-- what it tells of the character is so
abbrev pub IsTold : Canonical → ℕ → Reading → Type 0
IsTold canonical c (Itself class) = (canonical.full c ≡ c ∷ []) × (canonical.class c ≡ class)
IsTold canonical c (Two a b) = canonical.full c ≡ a ∷ b ∷ []
IsTold canonical c (Three a b d) = canonical.full c ≡ a ∷ b ∷ d ∷ []
IsTold canonical c Other = Unit {0}

-- what it tells of the character is so by the words
abbrev pub IsToldBy : WordLists → ℕ → Reading → Type 0
IsToldBy words c (Itself class) = (full_in words c ≡ c ∷ []) × (class_in words c ≡ class)
IsToldBy words c (Two a b) = full_in words c ≡ a ∷ b ∷ []
IsToldBy words c (Three a b d) = full_in words c ≡ a ∷ b ∷ d ∷ []
IsToldBy words c Other = Unit {0}
