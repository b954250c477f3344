use Rattle.std.proofs.Common.{◌≡◌}
use Rattle.std.specs.Prelude.{option_copied}
use Rattle.std.specs.BTreeMap.{get}
use Rattle.std.specs.Ordering.{nat_cmp}
use Rattle.icu_normalizer_core.specs.declared.builder.given.GivenCompatibility.{GivenCompatibility}
use Rattle.icu_normalizer_core.specs.FirstMappings.{mapping_of}
use Rattle.icu_normalizer_core.proofs.building.FirstMappingLemmas.{each_more, one_isnt}
use Rattle.icu_normalizer_core.proofs.builder.one_mapping.are_alike.Goals as goal

pub returns-then-not-is_noted : goal.returns-then-not-is_noted
returns-then-not-is_noted c =
    one_isnt (λ (g : GivenCompatibility). mapping_of (option_copied (get nat_cmp c.args.firsts.now g.character)) ≡ g.mapping.items) c.args.given.now c.loop-one.one-index c.one-item.result c.one-item.result
    c.is_noted.result c.loop-one-test.true c.if-not-is_noted.true c.is_noted.ensures.1 c.one-item.is

pub loop-one-preserved : goal.loop-one-preserved
loop-one-preserved c =
    each_more (λ (g : GivenCompatibility). mapping_of (option_copied (get nat_cmp c.args.firsts.now g.character)) ≡ g.mapping.items) c.args.given.now c.loop-one.one-index c.one-item.result c.one-item.result
    c.loop-one-test.true c.loop-one.invariant (c.is_noted.ensures.0 c.if-not-is_noted.false) c.one-item.is
