use Rattle.std.proofs.Common.{sym, ◌∙◌}
use Rattle.icu_normalizer_core.proofs.builder.one_mapping.are_apart.Goals as goal

pub returns : goal.returns
returns c =
    let has = c.in_ok-firsts.ensures in (
      λ t k d h free. sym (has _) ∙ c.are_unnoted.ensures.0 t k d h free,
      λ all. c.are_unnoted.ensures.1 (λ k d h free. has _ ∙ all k d h free),
    )
