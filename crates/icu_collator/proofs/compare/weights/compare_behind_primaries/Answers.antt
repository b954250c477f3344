use Rattle.std.proofs.Common.{◌∙◌, rules, sym}
use Rattle.icu_collator.specs.Collators.{source_collation}
use Rattle.icu_collator.proofs.orders.WeightOrderLemmas.{two_levels}
use Rattle.icu_collator.proofs.compare.weights.compare_behind_primaries.Goals as goal

pub returns-in-Some : goal.returns-in-Some
returns-in-Some c =
    c.in-Some.ensures
    ∙ sym (two_levels (source_collation c.args.checked.now) c.args.options.now c.args.left c.args.right (search rules) c.requires.left_whole c.requires.right_whole)
