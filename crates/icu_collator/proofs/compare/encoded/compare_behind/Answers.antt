use Rattle.std.proofs.Common.{◌∙◌, drop}
use Rattle.icu_collator.specs.Collators.{source_collation}
use Rattle.icu_collator.proofs.lists.CompareLemmas.{texts_read}
use Rattle.icu_collator.proofs.compare.encoded.compare_behind.Goals as goal

pub returns : goal.returns
returns g c =
    let left = drop c.args.index (g.T.Characters.characters c.args.left) in
    let right = drop c.args.index (g.U.Characters.characters c.args.right) in
    let spelled = c.behind.ensures.text (g.T.Characters.characters c.args.left) c.chars.ensures.spelled c.requires.left_reaches in
    let others = c.behind-2.ensures.text (g.U.Characters.characters c.args.right) c.chars-2.ensures.spelled c.requires.right_reaches in
    let lefts = c.as_read.ensures in
    let rights = c.as_read-2.ensures in
    c.in_ok-order.ensures ∙ texts_read (source_collation c.args.checked.now) c.args.options.now left right c.as_read.result c.as_read-2.result
    (rw (lefts.elements, lefts.variable_end, lefts.characters) (c.in_ok-lefts.ensures left spelled))
    (rw (rights.elements, rights.variable_end, rights.characters) (c.in_ok-rights.ensures right others))

pub read_text-requires-clause-can : goal.read_text-requires-clause-can
read_text-requires-clause-can g c =
    c.behind.ensures.can (g.T.Characters.characters c.args.left) c.chars.ensures.spelled c.requires.left_reaches

pub read_text-requires-2-clause-can : goal.read_text-requires-2-clause-can
read_text-requires-2-clause-can g c =
    c.behind-2.ensures.can (g.U.Characters.characters c.args.right) c.chars-2.ensures.spelled c.requires.right_reaches
