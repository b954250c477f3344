use Rattle.std.proofs.Common.{ap, arith, map, sym, ◌∙◌}
use Rattle.std.proofs.lemmas.List.{take_all}
use Rattle.std.proofs.lemmas.Simd.{map-map}
use Rattle.icu_collator_core.specs.Pools.{element_of}
use Rattle.icu_collator_core.specs.WeightLists.{weight_on}
use Rattle.icu_collator_core.proofs.check.apart.levels.weights_on.Goals as goal

pub returns : goal.returns
returns c =
    let level = c.args.level in
    let list = c.args.elements.now in
    let past = c.loop-index-test.false in
    c.loop-index.invariant
    ∙ ap (map (λ bits. weight_on level (element_of bits))) (take_all c.loop-index.index list (omega (arith, past)))
    ∙ sym (map-map (weight_on level) element_of list)
