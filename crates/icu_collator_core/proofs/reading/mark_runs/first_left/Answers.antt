use Rattle.std.proofs.Common.{◌<◌, ◌≤◌, arith, length}
use Rattle.icu_collator_core.proofs.lookups.MarksLeftLemmas.{first_is, none_left, still_none}
use Rattle.icu_collator_core.proofs.reading.mark_runs.first_left.Goals as goal

pub loop-i-preserved : goal.loop-i-preserved
loop-i-preserved c =
    let classes = c.args.classes.now in
    let i = c.loop-i.i in
    let inside : i < length classes = omega arith in
    still_none classes i inside c.class_at-left.result c.class_at-left.ensures c.loop-i.invariant c.in_default.ensures.marks

pub returns-in-Some : goal.returns-in-Some
returns-in-Some c =
    let classes = c.args.classes.now in
    let i = c.loop-i.i in
    let inside : i < length classes = omega arith in
    first_is classes i inside c.class_at-left.result c.class_at-left.ensures c.loop-i.invariant c.in-Some.first c.in-Some._rest.marks.now c.in-Some.ensures.marks

pub returns : goal.returns
returns c =
    let over : length c.args.classes.now ≤ c.loop-i.i = let end = c.loop-i-test.false in omega (arith, end) in
    none_left c.args.classes.now c.loop-i.i over c.loop-i.invariant
