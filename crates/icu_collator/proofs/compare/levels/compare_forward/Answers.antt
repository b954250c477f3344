use Rattle.std.proofs.Common.{◌∙◌, refl, rules}
use Rattle.std.specs.Prelude.{option_map}
use Rattle.icu_collator.specs.Levels.{secondary_at}
use Rattle.icu_collator.specs.Order.{secondary_rank}
use Rattle.icu_collator.specs.TextsRead.{counted_in}
use Rattle.icu_collator.proofs.lists.CollatorListLemmas.{ranks_by}
use Rattle.icu_collator.proofs.compare.levels.compare_forward.Goals as goal

pub returns : goal.returns
returns c =
    let lefts = ranks_by secondary_rank secondary_at (counted_in c.args.left) in
    let rights = ranks_by secondary_rank secondary_at (counted_in c.args.right) in
    c.order_given.ensures (λ e. option_map secondary_rank (secondary_at e)) (λ e w h. search rules)
    ∙ rw (← lefts, ← rights) refl
