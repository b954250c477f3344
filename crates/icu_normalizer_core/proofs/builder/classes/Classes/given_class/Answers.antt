use Rattle.std.proofs.Common.{ℕ, Option, ap, ◌∙◌}
use Rattle.std.specs.Option.{unwrap_or}
use Rattle.icu_normalizer_core.proofs.building.FirstClassLemmas.{class_found}
use Rattle.icu_normalizer_core.proofs.builder.classes.Classes.given_class.Goals as goal

pub returns : goal.returns
returns c =
    c.unwrap_or.ensures ∙ ap (λ (o : Option ℕ). unwrap_or o 0) (c.copied.ensures ∙ c.get.ensures.value)
    ∙ class_found c.args.self.now.given.now c.args.self.now.firsts c.args.c c.args.self.now.has_firsts
