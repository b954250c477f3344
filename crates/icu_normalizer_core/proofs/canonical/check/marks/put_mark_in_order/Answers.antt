-- Each turn moves one mark of a lower class to the left, and the end puts the character after them.
use Rattle.std.proofs.Common.{arith, ◌∙◌, ◌+◌, length-set, inl, inr, slice_index_or}
use Rattle.icu_normalizer_core.specs.CanonicalMeaning.{meaning}
use Rattle.icu_normalizer_core.proofs.decomposed_lists.MarkLemmas.{put_step, put_end, test_at}
use Rattle.icu_normalizer_core.proofs.canonical.check.marks.put_mark_in_order.Goals as goal
use Rattle.icu_normalizer_core.proofs.canonical.check.marks.put_mark_in_order.Goals.{else-loop-index-test, then-loop-index-test+then-not-is_mark_below}

pub loop-index-preserved : goal.loop-index-preserved
loop-index-preserved c =
    let class = (meaning c.args.tables.now).class
    in let h = test_at _ _ _ _ _ _ c.class_of.ensures c.class_of-class.ensures c.is_mark_below.ensures c.if-not-is_mark_below.false
    in (
      omega (arith, length-set c.loop-index.list c.loop-index.index (slice_index_or c.loop-index.list (c.loop-index.index + 1) 0)),
      put_step class _ c.loop-index.list c.loop-index.index c.loop-index-test.true h ∙ c.loop-index.invariant.1,
    )

pub returns : goal.returns
returns c =
    let class = (meaning c.args.tables.now).class
    in elim c.loop-index-test.branch [
      | else-loop-index-test w ↦ put_end class _ c.loop-index.list c.loop-index.index c.loop-index.invariant.0 (inl w.loop-index-test.false) ∙ c.loop-index.invariant.1
      | then-loop-index-test+then-not-is_mark_below w ↦ put_end class _ c.loop-index.list c.loop-index.index c.loop-index.invariant.0 (inr (test_at _ _ _ _ _ _ w.class_of.ensures c.class_of-class.ensures w.is_mark_below.ensures w.if-not-is_mark_below.true)) ∙ c.loop-index.invariant.1
    ]
