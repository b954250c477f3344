use Rattle.std.proofs.Common.{rules, ltb, ◌+◌, ◌^◌, ◌∙◌}
use Rattle.std.specs.Prelude.{option_map}
use Rattle.icu_collator.specs.Collators.{source_collation}
use Rattle.icu_collator.specs.KeyCodes.{gives_small_place}
use Rattle.icu_collator.specs.LevelLists.{counted_list}
use Rattle.icu_collator.specs.Levels.{quaternary_at}
use Rattle.icu_collator.specs.Order.{quaternary_rank}
use Rattle.icu_collator.proofs.lists.BoundLemmas.{all_below}
use Rattle.icu_collator.proofs.lists.ListGivenLemmas.{all_given}
use Rattle.icu_collator.proofs.lists.CollatorListLemmas.{ranks_by}
use Rattle.icu_collator.proofs.levels.level_lists.quaternaries.Goals as goal

pub returns-clause-ranks : goal.returns-clause-ranks
returns-clause-ranks c =
    let at = quaternary_at (source_collation c.args.checked.now)
    in c.in_ok-list.ensures.list (λ e. option_map quaternary_rank (at e)) (λ e w h. search rules)
    ∙ ranks_by quaternary_rank at (counted_list c.args.variable_end c.args.elements.now)

pub returns-clause-bound : goal.returns-clause-bound
returns-clause-bound c = all_below (2 ^ 32 + 4) _ (c.in_ok-list.ensures.each (λ rank. ltb rank (2 ^ 32 + 4)) (λ e w h. search rules))

pub returns-clause-shifted : goal.returns-clause-shifted
returns-clause-shifted c =
    let at = quaternary_at (source_collation c.args.checked.now)
    in all_given at (counted_list c.args.variable_end c.args.elements.now) (c.in_ok-list.ensures.holds (λ e. gives_small_place (at e)) (λ e w h. search rules))
