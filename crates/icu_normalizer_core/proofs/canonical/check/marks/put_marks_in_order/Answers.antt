use Rattle.std.proofs.Common.{arith, ◌∙◌, ◌-◌}
use Rattle.icu_normalizer_core.specs.CanonicalMeaning.{meaning}
use Rattle.icu_normalizer_core.proofs.decomposed_lists.MarkLemmas.{marks_all, marks_previous, nothing_in_order}
use Rattle.icu_normalizer_core.proofs.canonical.check.marks.put_marks_in_order.Goals as goal

pub loop-index-init : goal.loop-index-init
loop-index-init c = (omega arith, nothing_in_order (meaning c.args.tables.now).class c.args.list.now)

pub loop-index-preserved : goal.loop-index-preserved
loop-index-preserved c = (
  omega arith,
  c.put_mark_in_order.ensures
      ∙ marks_previous (meaning c.args.tables.now).class c.args.list.now c.loop-index.list c.loop-index.index (c.loop-index.index - 1)
      (omega arith) (omega arith) c.loop-index.invariant.1,
)

pub returns : goal.returns
returns c = marks_all _ c.args.list.now c.loop-index.list c.loop-index.index c.loop-index-test.false c.loop-index.invariant.1
