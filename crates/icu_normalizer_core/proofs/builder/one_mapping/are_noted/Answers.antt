use Rattle.std.proofs.Common.{◌≡◌, Some, refl, sym, ◌∙◌}
use Rattle.std.specs.BTreeMap.{get}
use Rattle.std.specs.Ordering.{nat_cmp}
use Rattle.icu_normalizer_core.specs.declared.builder.given.GivenMapping.{GivenMapping}
use Rattle.icu_normalizer_core.proofs.building.FirstMappingLemmas.{each_more, one_isnt}
use Rattle.icu_normalizer_core.proofs.builder.one_mapping.are_noted.Goals as goal

pub returns-then-not-is_mapping : goal.returns-then-not-is_mapping
returns-then-not-is_mapping c =
    one_isnt (λ (g : GivenMapping). get nat_cmp c.args.firsts.now g.character ≡ Some g) c.args.mappings.now c.loop-given.given-index _ _ c.is_mapping.result c.loop-given-test.true c.if-not-is_mapping.true
    (λ e. c.is_mapping.ensures.1 (c.copied.ensures ∙ c.get.ensures.value ∙ e)) refl

pub loop-given-preserved : goal.loop-given-preserved
loop-given-preserved c =
    each_more (λ (g : GivenMapping). get nat_cmp c.args.firsts.now g.character ≡ Some g) c.args.mappings.now c.loop-given.given-index _ _ c.loop-given-test.true c.loop-given.invariant
    (sym (c.copied.ensures ∙ c.get.ensures.value) ∙ c.is_mapping.ensures.0 c.if-not-is_mapping.false) refl
