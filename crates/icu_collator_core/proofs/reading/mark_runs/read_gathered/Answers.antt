use Rattle.std.proofs.Common.{◌≡◌, ◌≤◌, ◌∷◌, length, arith, ap}
use Rattle.std.specs.Option.{is_some}
use Rattle.icu_collator_core.specs.MarkRuns.{marks_left}
use Rattle.icu_collator_core.specs.ReadSources.{canonical_by, weights_by}
use Rattle.icu_collator_core.proofs.lookups.MarksLeftLemmas.{first_is_mark, nothing_there, part_length}
use Rattle.icu_collator_core.proofs.readings.MarkReadLemmas.{run_begins, run_ends, run_on}
use Rattle.icu_collator_core.proofs.reading.mark_runs.read_gathered.Goals as goal

pub loop-mark-init : goal.loop-mark-init
loop-mark-init c =
    let source = c.args.sound.now in
    let list = c.args.list.now in
    let index = c.args.index in
    let end = c.args.end in
    let classes = c.args.classes.now in
    let sum = part_length index end list (marks_left classes) c.requires.order c.requires.inside c.requires.left in
    record {
      fewer = omega (arith, sum);
      marks = c.requires.marks;
      run =
          λ numeric. run_begins (canonical_by source) (weights_by numeric source) (is_some numeric) list index end c.args.ready.now.items classes
          c.requires.order c.requires.left;
    }

pub read_mark-requires-clause-mark : goal.read_mark-requires-clause-mark
read_mark-requires-clause-mark c =
    first_is_mark (canonical_by c.args.sound.now).class c.loop-mark.classes c.in-Some.c (marks_left c.take_first.new.classes) c.loop-mark.invariant.marks
    c.in-Some.ensures.taken

pub loop-mark-preserved : goal.loop-mark-preserved
loop-mark-preserved c =
    let source = c.args.sound.now in
    let old = c.loop-mark.classes in
    let mid = c.take_first.new.classes in
    let new = c.read_mark.new.classes in
    let was = c.loop-mark.invariant in
    let taken : marks_left old ≡ c.in-Some.c ∷ marks_left mid = c.in-Some.ensures.taken in
    record {
      fewer = let before = was.fewer in let one = ap length taken in let less = c.in_ok-read_mark.ensures.fewer in omega (arith, before, one, less);
      marks = c.in_ok-read_mark.ensures.marks;
      run =
          λ numeric. run_on (canonical_by source) (weights_by numeric source) (is_some numeric) c.args.list.now c.args.index c.args.end c.args.ready.now.items
          old mid new c.in-Some.c c.loop-mark.ready.items c.read_mark.new.ready.items taken (was.run numeric) (c.in_ok-read_mark.ensures.read numeric);
    }

pub returns-in_default : goal.returns-in_default
returns-in_default c = λ numeric.
    let source = c.args.sound.now in
    run_ends (canonical_by source) (weights_by numeric source) (is_some numeric) c.args.list.now c.args.index c.args.end c.args.ready.now.items
    c.loop-mark.classes c.loop-mark.ready.items c.in_default.ensures.taken (c.loop-mark.invariant.run numeric)

pub returns : goal.returns
returns c = λ numeric.
    let source = c.args.sound.now in
    let few : length (marks_left c.loop-mark.classes) ≤ 0 =
    let before = c.loop-mark.invariant.fewer in let past = c.loop-mark-test.false in omega (arith, before, past) in
    run_ends (canonical_by source) (weights_by numeric source) (is_some numeric) c.args.list.now c.args.index c.args.end c.args.ready.now.items
    c.loop-mark.classes c.loop-mark.ready.items (nothing_there (marks_left c.loop-mark.classes) few) (c.loop-mark.invariant.run numeric)
