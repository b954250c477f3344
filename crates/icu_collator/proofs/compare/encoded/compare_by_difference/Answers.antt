use Rattle.icu_collator.proofs.compare.encoded.compare_by_difference.Goals as goal

pub returns-in-Some-order_by_difference : goal.returns-in-Some-order_by_difference
returns-in-Some-order_by_difference g c =
    let left = g.T.Characters.characters c.args.left in
    let right = g.U.Characters.characters c.args.right in
    c.in-Some-order_by_difference.ensures left right c.chars.ensures.scalars c.chars-2.ensures.scalars
    (c.difference_and_boundary-boundary.ensures.parts left right c.chars.ensures.spelled c.chars-2.ensures.spelled)

pub returns-in-Some-2 : goal.returns-in-Some-2
returns-in-Some-2 g c =
    let left = g.T.Characters.characters c.args.left in
    let right = g.U.Characters.characters c.args.right in
    let said = rw c.in-Some-2.is at c.in_ok-order-2.ensures in
    said left right c.chars.ensures.scalars c.chars-2.ensures.scalars
    (c.difference_and_boundary-boundary.ensures.boundary left right c.chars.ensures.spelled c.chars-2.ensures.spelled)

pub compare_past-requires-clause-parts : goal.compare_past-requires-clause-parts
compare_past-requires-clause-parts g c =
    c.difference_and_boundary-boundary.ensures.parts (g.T.Characters.characters c.args.left) (g.U.Characters.characters c.args.right) c.chars.ensures.spelled c.chars-2.ensures.spelled
