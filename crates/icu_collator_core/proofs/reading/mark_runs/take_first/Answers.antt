use Rattle.std.proofs.Common.{◌<◌, ◌≤◌, ◌∙◌, arith, length, sym, ap, ◌∷◌}
use Rattle.icu_collator_core.specs.MarkRuns.{are_of_classes, is_class_of_marks, marks_left}
use Rattle.icu_collator_core.proofs.lookups.MarksLeftLemmas.{all_new, first_taken, none_left, still_none, without_first}
use Rattle.icu_collator_core.proofs.reading.mark_runs.take_first.Goals as goal

pub loop-i-preserved : goal.loop-i-preserved
loop-i-preserved c =
    let classes = c.loop-i.classes in
    let i = c.loop-i.i in
    let inside : i < length classes = omega arith in
    record {
      same = c.loop-i.invariant.same;
      empty = still_none classes i inside c.class_at-left.result c.class_at-left.ensures c.loop-i.invariant.empty c.in_default.ensures.marks;
    }

pub returns-in-Some-clause-taken : goal.returns-in-Some-clause-taken
returns-in-Some-clause-taken c =
    let classes = c.loop-i.classes in
    let i = c.loop-i.i in
    let inside : i < length classes = omega arith in
    ap marks_left (sym c.loop-i.invariant.same)
    ∙ first_taken classes i inside c.class_at-left.result c.class_at-left.ensures c.loop-i.invariant.empty c.in-Some.first c.in-Some.rest c.in-Some.ensures.marks
    ∙ ap (λ l. c.in-Some.first ∷ marks_left l) (sym c.put_class.ensures)

pub returns-in-Some-clause-marks : goal.returns-in-Some-clause-marks
returns-in-Some-clause-marks c = λ class of.
    let classes = c.loop-i.classes in
    let i = c.loop-i.i in
    let inside : i < length classes = omega arith in
    ap (are_of_classes class) c.put_class.ensures
    ∙ all_new classes i inside c.class_at-left.result c.class_at-left.ensures c.in-Some.rest (is_class_of_marks class)
    (without_first class c.class_at-left.result c.in-Some.rest c.in-Some.first c.in-Some.ensures.class c.in-Some.ensures.marks)
    (ap (are_of_classes class) c.loop-i.invariant.same ∙ of)

pub returns-clause-taken : goal.returns-clause-taken
returns-clause-taken c =
    let over : length c.loop-i.classes ≤ c.loop-i.i = let end = c.loop-i-test.false in let same = ap length c.loop-i.invariant.same in omega (arith, end, same) in
    ap marks_left (sym c.loop-i.invariant.same) ∙ none_left c.loop-i.classes c.loop-i.i over c.loop-i.invariant.empty

pub returns-clause-marks : goal.returns-clause-marks
returns-clause-marks c = λ class of. ap (are_of_classes class) c.loop-i.invariant.same ∙ of
