use Rattle.std.proofs.Common.{ap, ◌∙◌}
use Rattle.icu_collator_core.specs.WeightLists.{are_steps_apart}
use Rattle.icu_collator_core.proofs.apart.LevelLemmas.{order_tells}
use Rattle.icu_collator_core.proofs.weight_rules.apart.are_apart.Goals as goal

pub returns : goal.returns
returns c =
    order_tells c.args.weights.items c.sort.new.self.items c.are_steps_apart.result
    c.sort.ensures.permutation c.in_ok-sort.ensures.sorted (c.are_steps_apart.ensures ∙ ap (are_steps_apart 0) c.as_slice.ensures.value)
