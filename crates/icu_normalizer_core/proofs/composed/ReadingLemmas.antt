-- What words tell of characters, told of what has their lists and classes.
use Rattle.std.proofs.Common.{◌≡◌, ℕ, ◌∙◌}
use Rattle.icu_normalizer_core.specs.Canonical.{Canonical}
use Rattle.icu_normalizer_core.specs.Readings.{IsTold, IsToldBy}
use Rattle.icu_normalizer_core.specs.declared.canonical.character_data.Reading.{Reading}
use Rattle.icu_normalizer_core.specs.declared.canonical.character_data.Reading.TheVariants.{Itself, Two, Three, Other}
use Rattle.icu_normalizer_core.specs.Words.{WordLists, full_in, class_in}

pub told : (canonical : Canonical) (words : WordLists) (c : ℕ) → canonical.full c ≡ full_in words c → canonical.class c ≡ class_in words c
    → (reading : Reading) → IsToldBy words c reading → IsTold canonical c reading
told canonical words c full class (Itself k) is = (full ∙ is.0, class ∙ is.1)
told canonical words c full class (Two a b) is = full ∙ is
told canonical words c full class (Three a b d) is = full ∙ is
told canonical words c full class Other is = tt
