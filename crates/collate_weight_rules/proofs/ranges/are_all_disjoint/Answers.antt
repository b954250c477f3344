use Rattle.std.proofs.Common.{ℕ, List, map, ◌∙◌, subst}
use Rattle.std.specs.Bool.{IsTrue}
use Rattle.icu_collator_core.specs.PrimaryRanges.{range_of}
use Rattle.collate_weight_rules.proofs.soundness.RangeOrderLemmas.{AreStepsApart, spans_of_ranges, told_by_steps}
use Rattle.collate_weight_rules.proofs.ranges.are_all_disjoint.Goals as goal

pub returns : goal.returns
returns c =
    let told = c.are_steps_apart.result in
    told_by_steps (map range_of c.args.ranges.now) c.in_ok-spans.spans.items c.sort.new.self.items told c.requires
    (c.in_ok-spans.ensures ∙ spans_of_ranges c.args.ranges.now) c.sort.ensures.permutation c.in_ok-sort.ensures.sorted
    (subst (λ (l : List (ℕ × ℕ)). (IsTrue told → AreStepsApart l) × (AreStepsApart l → IsTrue told)) c.as_slice.ensures.value c.are_steps_apart.ensures)
