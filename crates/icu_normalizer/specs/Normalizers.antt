-- The data of normalisers.
use Rattle.std.specs.Prelude.{ℕ}
use Rattle.icu_normalizer_core.specs.Canonical.{Canonical}
use Rattle.icu_normalizer_core.specs.FormData.{form_meaning, form_canonical, low_bound}
use Rattle.icu_normalizer.specs.declared.composing.normalizer.ComposingNormalizerBorrowed.{ComposingNormalizerBorrowed}
use Rattle.icu_normalizer.specs.declared.decomposing.normalizer.DecomposingNormalizerBorrowed.{DecomposingNormalizerBorrowed}

-- what its data say of characters
abbrev pub normalizer_data : DecomposingNormalizerBorrowed → Canonical
normalizer_data normalizer = form_meaning normalizer.basis

-- what the canonical data beneath say
abbrev pub normalizer_canonical : DecomposingNormalizerBorrowed → Canonical
normalizer_canonical normalizer = form_canonical normalizer.basis

-- a bound below which each character stands for itself
abbrev pub normalizer_bound : DecomposingNormalizerBorrowed → ℕ
normalizer_bound normalizer = low_bound normalizer.basis

abbrev pub composing_data : ComposingNormalizerBorrowed → Canonical
composing_data normalizer = form_meaning normalizer.basis

abbrev pub composing_canonical : ComposingNormalizerBorrowed → Canonical
composing_canonical normalizer = form_canonical normalizer.basis
