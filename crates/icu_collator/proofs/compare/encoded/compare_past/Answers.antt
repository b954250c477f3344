use Rattle.icu_collator.specs.Collators.{source_collation}
use Rattle.icu_collator.proofs.boundaries.ReadingStartLemmas.{read_from, within_left, within_right}
use Rattle.icu_collator.proofs.compare.encoded.compare_past.Goals as goal

pub returns : goal.returns
returns g c =
    let difference = c.args.difference in
    read_from (source_collation c.args.checked.now) c.args.options.now (g.T.Characters.characters c.args.left) (g.U.Characters.characters c.args.right)
    difference.common c.reading_start-index.result difference.left difference.right c.in_ok-order.order c.reading_start-index.ensures
    c.requires.left_scalars c.requires.right_scalars c.requires.parts c.in_ok-order.ensures

pub compare_behind-requires-clause-left_reaches : goal.compare_behind-requires-clause-left_reaches
compare_behind-requires-clause-left_reaches g c =
    let difference = c.args.difference in
    within_left (g.T.Characters.characters c.args.left) (g.U.Characters.characters c.args.right) difference.common c.reading_start-index.result
    difference.left difference.right c.requires.parts c.reading_start-index.ensures.within

pub compare_behind-requires-clause-right_reaches : goal.compare_behind-requires-clause-right_reaches
compare_behind-requires-clause-right_reaches g c =
    let difference = c.args.difference in
    within_right (g.T.Characters.characters c.args.left) (g.U.Characters.characters c.args.right) difference.common c.reading_start-index.result
    difference.left difference.right c.requires.parts c.reading_start-index.ensures.within
