use Rattle.std.proofs.Common.{rules, ◌∙◌}
use Rattle.std.specs.Prelude.{option_map}
use Rattle.icu_collator.specs.LevelLists.{counted_list}
use Rattle.icu_collator.specs.Levels.{secondary_at}
use Rattle.icu_collator.specs.Order.{secondary_rank}
use Rattle.icu_collator.proofs.lists.CollatorListLemmas.{ranks_by}
use Rattle.icu_collator.proofs.levels.level_lists.forward_ranks.Goals as goal

pub returns : goal.returns
returns c =
    c.in_ok-list.ensures.list (λ e. option_map secondary_rank (secondary_at e)) (λ e w h. search rules)
    ∙ ranks_by secondary_rank secondary_at (counted_list c.args.variable_end c.args.elements.now)
