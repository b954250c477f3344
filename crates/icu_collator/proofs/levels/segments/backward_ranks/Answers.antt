use Rattle.std.proofs.Common.{ℕ, Option, ap, sym, ◌∙◌}
use Rattle.std.specs.Prelude.{option_map}
use Rattle.icu_collator.specs.Levels.{is_segment_end, secondary_at}
use Rattle.icu_collator.specs.Order.{secondary_rank}
use Rattle.icu_collator.specs.Shifted.{Counted}
use Rattle.icu_collator.proofs.lists.BackwardLemmas.{backward_all, ended_more, none_more, rank_more}
use Rattle.icu_collator.proofs.levels.segments.backward_ranks.Goals.{then-is_segment_end+in_ok-move_reversed+in_ok-push, else-is_segment_end+in-Some+in_ok-push-2, else-is_segment_end+in_default}
use Rattle.icu_collator.proofs.levels.segments.backward_ranks.Goals as goal

abbrev rank_at : Counted → Option ℕ
rank_at e = option_map secondary_rank (secondary_at e)

pub loop-element-preserved : goal.loop-element-preserved
loop-element-preserved c =
    let xs = c.args.elements.now
    in let i = c.loop-element.element-index
    in let x = c.element-item.result
    in let of = c.counted_element.ensures
    in elim c.if-is_segment_end.branch [
      | then-is_segment_end+in_ok-move_reversed+in_ok-push w ↦ rw (w.list-is, w.segment-is)
          (ended_more c.args.variable_end xs i x c.loop-element-test.true c.element-item.is c.loop-element.list.items c.loop-element.segment.items _ c.loop-element.invariant
          _ _ _ (sym (c.is_segment_end.ensures ∙ ap is_segment_end of) ∙ w.if-is_segment_end.true) w.in_ok-move_reversed.ensures.list w.in_ok-push.ensures.ok w.in_ok-move_reversed.ensures.segment)
      | else-is_segment_end+in-Some+in_ok-push-2 w ↦ rw (w.list-is, w.segment-is)
          (rank_more c.args.variable_end xs i x c.loop-element-test.true c.element-item.is c.loop-element.list.items c.loop-element.segment.items _ c.loop-element.invariant
          _ _ (sym (c.is_segment_end.ensures ∙ ap is_segment_end of) ∙ w.if-is_segment_end.false) (sym w.in-Some.is ∙ w.secondary_rank_at.ensures.rank ∙ ap rank_at w.counted_element-else-is_segment_end.ensures) w.in_ok-push-2.ensures.ok)
      | else-is_segment_end+in_default w ↦ rw (w.list-is, w.segment-is)
          (none_more c.args.variable_end xs i x c.loop-element-test.true c.element-item.is c.loop-element.list.items c.loop-element.segment.items _ c.loop-element.invariant
          (sym (c.is_segment_end.ensures ∙ ap is_segment_end of) ∙ w.if-is_segment_end.false) (sym w.in_default.is ∙ w.secondary_rank_at.ensures.rank ∙ ap rank_at w.counted_element-else-is_segment_end.ensures))
    ]

pub returns : goal.returns
returns c = backward_all c.args.variable_end c.args.elements.now c.loop-element.element-index c.loop-element.list.items c.loop-element.segment.items _ c.loop-element-test.false
    c.loop-element.invariant c.in_ok-move_reversed-2.ensures.list
