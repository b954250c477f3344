use Rattle.std.proofs.Common.{List, [], ◌∷◌, ◌++◌, refl, ap, ◌∙◌}
use Rattle.icu_normalizer_core.specs.declared.builder.given.GivenCompatibility.{GivenCompatibility}
use Rattle.icu_normalizer_core.specs.CompatibilityMaps.{BuilderMaps}
use Rattle.icu_normalizer_core.proofs.builder.CanonicalDataBuilder.kmap.Goals as goal

pub returns-clause-compatibilities : goal.returns-clause-compatibilities
returns-clause-compatibilities c =
    let g : GivenCompatibility = record { character = c.args.c; mapping = c.in_ok-mapping.mapping } in (
      g,
      c.in_ok-push.ensures.items ∙ ap (λ (gs : List GivenCompatibility). gs ++ g ∷ []) (ap (λ (given : BuilderMaps). given.compatibilities) c.self.view_is),
      refl,
      c.in_ok-mapping.ensures.items,
    )
