use Rattle.std.proofs.Common.{◌≡◌, false, None, arith}
use Rattle.std.specs.BTreeMap.{get}
use Rattle.std.specs.Ordering.{nat_cmp}
use Rattle.icu_normalizer_core.specs.declared.builder.given.GivenCompatibility.{GivenCompatibility}
use Rattle.icu_normalizer_core.specs.BuiltIn.{is_built_in}
use Rattle.icu_normalizer_core.proofs.building.FirstMappingLemmas.{each_is}
use Rattle.icu_normalizer_core.proofs.builder.one_mapping.are_unnoted.Goals as goal

pub returns : goal.returns
returns c =
    let past = c.loop-one-test.false in
    each_is (λ (g : GivenCompatibility). is_built_in g.character ≡ false → get nat_cmp c.args.firsts.now g.character ≡ None) c.args.given.now c.loop-one.one-index (omega (arith, past)) c.loop-one.invariant
