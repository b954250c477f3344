-- Tables that can't be built are refused for one reason.
use Rattle.std.proofs.Common.{◌≡◌}
use Rattle.icu_normalizer_core.specs.declared.builder.given.CanonicalDataBuildError.{CanonicalDataBuildError}
use Rattle.icu_normalizer_core.specs.declared.builder.given.CanonicalDataBuildError.TheVariants.{Rules, Memory}

pub not_both : (e : CanonicalDataBuildError) → e ≡ Rules → e ≡ Memory → ⊥
not_both Rules is memory = cc
not_both Memory is memory = cc
