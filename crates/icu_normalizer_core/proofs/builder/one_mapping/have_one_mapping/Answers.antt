use Rattle.std.proofs.Common.{sym, ◌∙◌}
use Rattle.icu_normalizer_core.proofs.builder.one_mapping.have_one_mapping.Goals as goal

pub returns : goal.returns
returns c =
    let has = c.in_ok-firsts.ensures in (
      λ t k d h. sym (has _) ∙ c.are_noted.ensures.0 t k d h,
      λ all. c.are_noted.ensures.1 (λ k d h. has _ ∙ all k d h),
    )
