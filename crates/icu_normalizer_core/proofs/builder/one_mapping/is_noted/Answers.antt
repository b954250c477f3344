use Rattle.std.proofs.Common.{◌≡◌, sym, ap, ◌∙◌}
use Rattle.std.specs.Bool.{Decides}
use Rattle.std.specs.Prelude.{option_copied}
use Rattle.std.specs.BTreeMap.{get}
use Rattle.std.specs.Ordering.{nat_cmp}
use Rattle.std.proofs.lemmas.Bool.Decides.{Decides-eqb}
use Rattle.std.proofs.lemmas.Slice.Eq.{slice_eq-Decides}
use Rattle.icu_normalizer_core.specs.FirstMappings.{mapping_of}
use Rattle.icu_normalizer_core.proofs.builder.one_mapping.is_noted.Goals as goal

pub returns : goal.returns
returns c =
    let found : c.copied-first.result ≡ get nat_cmp c.args.firsts.now c.args.one.now.character = c.copied-first.ensures ∙ c.get.ensures.value in
    let is = c.mapping_of.ensures ∙ ap (λ o. mapping_of (option_copied o)) found in
    let same : Decides c.eq.result (c.mapping_of.result.now ≡ c.as_slice.result.now) =
    slice_eq-Decides Decides-eqb c.mapping_of.result.now c.as_slice.result.now c.eq.result c.eq.ensures in (
      λ t. sym is ∙ same.0 t ∙ c.as_slice.ensures.value,
      λ e. same.1 (is ∙ e ∙ sym c.as_slice.ensures.value),
    )
