use Rattle.icu_collator_core.specs.ElementLists.{unpacked}
use Rattle.icu_collator_core.proofs.apart.LevelLemmas.{level_tells}
use Rattle.icu_collator_core.proofs.check.apart.levels.are_apart_on.Goals as goal

pub returns : goal.returns
returns c =
    level_tells c.args.level (unpacked c.args.elements.now) c.in_ok-weights.weights.items c.in_ok-apart.apart
    c.in_ok-weights.ensures c.in_ok-apart.ensures
