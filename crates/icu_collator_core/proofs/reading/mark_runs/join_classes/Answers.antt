use Rattle.std.proofs.Common.{◌≤◌, ◌<◌, ◌+◌, ◌∙◌, ap, sym, subst, arith, refl, length}
use Rattle.std.proofs.lemmas.List.{length-set}
use Rattle.icu_char16trie.specs.UnitSteps.{start}
use Rattle.icu_collator_core.specs.MarkRuns.{are_of_classes, is_class_of_marks, marks_left}
use Rattle.icu_collator_core.specs.ReadWords.{table_word}
use Rattle.icu_collator_core.proofs.lookups.MarksLeftLemmas.{HaveMet, all_met, all_new, fewer_new, none_met, one_more_met}
use Rattle.icu_collator_core.proofs.reading.mark_runs.join_classes.Goals as goal

pub loop-i-init : goal.loop-i-init
loop-i-init c =
    record {
      count = refl;
      marks = λ class h. h;
      fewer = omega arith;
      met = none_met (table_word c.args.entry) c.args.classes.now c.iter.result (c.iter.ensures.units ∙ c.requires.trie) (c.iter.ensures.start ∙ ap start c.requires.trie);
    }

pub loop-i-preserved : goal.loop-i-preserved
loop-i-preserved c =
    let entry = table_word c.args.entry in
    let classes = c.loop-i.classes in
    let i = c.loop-i.i in
    let x = c.class_at-left.result in
    let y = c.meets_class-later.result in
    let inside : i < length classes = omega arith in
    let read = c.class_at-left.ensures in
    let before = c.loop-i.invariant in
    let put = c.put_class.ensures in
    record {
      count = ap length put ∙ length-set classes i y ∙ before.count;
      marks = λ class h. ap (are_of_classes class) put ∙ all_new classes i inside x read y (is_class_of_marks class) (c.meets_class-later.ensures.marks class) (before.marks class h);
      fewer =
          let less = fewer_new classes i inside x read y c.meets_class-later.ensures.fewer in let was = before.fewer in let same = ap (λ l. length (marks_left l)) put in
          omega (arith, less, was, same);
      met =
          subst (λ l. HaveMet entry c.args.classes.now l (i + 1) c.meets_class-later.new.self) (sym put)
          (one_more_met entry c.args.classes.now classes i c.loop-i.text x y c.meets_class-later.new.self inside read c.requires.suffixes before.marks c.meets_class-later.ensures.met before.met);
    }

pub returns-clause-left : goal.returns-clause-left
returns-clause-left c =
    let over : length c.loop-i.classes ≤ c.loop-i.i = let end = c.loop-i-test.false in let same = c.loop-i.invariant.count in omega (arith, end, same) in
    all_met (table_word c.args.entry) c.args.classes.now c.loop-i.classes c.loop-i.i c.loop-i.text over c.loop-i.invariant.met
