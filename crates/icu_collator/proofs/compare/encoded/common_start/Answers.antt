use Rattle.icu_collator.specs.Collators.{source_collation}
use Rattle.icu_collator.proofs.boundaries.ReadingStartLemmas.{index_of_both}
use Rattle.icu_collator.proofs.compare.encoded.common_start.Goals as goal

pub returns : goal.returns
returns g c =
    let left = g.T.Characters.characters c.args.left in
    let right = g.U.Characters.characters c.args.right in
    let difference = c.first_difference-difference in
    index_of_both (source_collation c.args.checked.now) c.args.options.now left right difference.result.common c.reading_start.result
    difference.result.left difference.result.right c.reading_start.ensures c.chars.ensures.scalars c.chars-2.ensures.scalars
    (difference.ensures left right c.chars.ensures.spelled c.chars-2.ensures.spelled)
