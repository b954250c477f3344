use Rattle.std.proofs.Common.{sym, ap, ◌∙◌}
use Rattle.icu_normalizer_core.specs.FirstMappings.{mapping_of}
use Rattle.icu_normalizer_core.proofs.builder.one_mapping.have_one_compatibility.Goals as goal

pub returns : goal.returns
returns c =
    let has = c.in_ok-firsts.ensures in (
      λ t k d h. sym (ap mapping_of (has _)) ∙ c.are_alike.ensures.0 t k d h,
      λ all. c.are_alike.ensures.1 (λ k d h. ap mapping_of (has _) ∙ all k d h),
    )
