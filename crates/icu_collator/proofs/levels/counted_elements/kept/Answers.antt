use Rattle.std.proofs.Common.{refl, sym, ◌∙◌}
use Rattle.icu_collator.proofs.lists.CountedLemmas.{ignored_more, listed_all, variable_more, whole_more}
use Rattle.icu_collator.proofs.levels.counted_elements.kept.Goals.{then-is_variable+in_ok-push, else-is_variable+then-not-is_ignored+in_ok-push-2, else-is_variable+else-not-is_ignored}
use Rattle.icu_collator.proofs.levels.counted_elements.kept.Goals as goal

pub loop-element-preserved : goal.loop-element-preserved
loop-element-preserved c = λ collation options end.
    let xs = c.args.elements.now
    in let so_far = c.loop-element.invariant collation options end
    in elim c.if-is_variable.branch [
      | then-is_variable+in_ok-push w ↦ rw (w.list-is, w.is_behind-is)
          (variable_more collation options _ end xs c.loop-element.element-index c.element-item.result c.primary-primary.result c.loop-element-test.true
          c.element-item.is c.primary-primary.ensures c.loop-element.list.items _ c.loop-element.is_behind _ so_far
          (sym c.is_variable.ensures ∙ w.if-is_variable.true) w.in_ok-push.ensures.ok)
      | else-is_variable+then-not-is_ignored+in_ok-push-2 w ↦ rw (w.list-is, w.is_behind-is)
          (whole_more collation options _ end xs c.loop-element.element-index c.element-item.result c.primary-primary.result c.loop-element-test.true
          c.element-item.is c.primary-primary.ensures c.loop-element.list.items _ c.loop-element.is_behind _ so_far
          (sym c.is_variable.ensures ∙ w.if-is_variable.false) (sym w.is_ignored.ensures ∙ w.if-not-is_ignored.true) w.in_ok-push-2.ensures.ok)
      | else-is_variable+else-not-is_ignored w ↦ rw (w.list-is, w.is_behind-is)
          (ignored_more collation options _ end xs c.loop-element.element-index c.element-item.result c.primary-primary.result c.loop-element-test.true
          c.element-item.is c.primary-primary.ensures c.loop-element.list.items c.loop-element.list.items c.loop-element.is_behind _ so_far
          (sym c.is_variable.ensures ∙ w.if-is_variable.false) (sym w.is_ignored.ensures ∙ w.if-not-is_ignored.false) refl)
    ]

pub returns : goal.returns
returns c = λ collation options end.
    listed_all collation options _ c.args.elements.now c.loop-element.element-index c.loop-element.list.items c.loop-element.is_behind _ c.loop-element-test.false
    (c.loop-element.invariant collation options end)
