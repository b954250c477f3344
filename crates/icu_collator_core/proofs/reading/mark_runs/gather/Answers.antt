use Rattle.std.proofs.Common.{◌≡◌, ◌<◌, ◌∙◌, ◌==◌, arith, ap, sym, length, take, true}
use Rattle.std.specs.Prelude.{not, slice_index}
use Rattle.std.proofs.lemmas.Bool.{and_from, ne_eqb}
use Rattle.std.proofs.lemmas.List.{drop_all, get_or_read, length-take-le}
use Rattle.icu_normalizer_core.specs.BorrowedMeaning.{borrowed_meaning}
use Rattle.icu_collator_core.specs.MarkRuns.{are_of_class, are_of_classes, marks_left}
use Rattle.icu_collator_core.proofs.lookups.MarksLeftLemmas.{classes_more, ends_at_end, ends_at_starter, gathered_more}
use Rattle.icu_collator_core.proofs.reading.mark_runs.gather.Goals as goal

pub gathering-init : goal.gathering-init
gathering-init c =
    let list = c.args.list.now in
    let index = c.args.index in
    let count = length-take-le index list c.requires.inside in
    record {
      begins = omega arith;
      within = c.requires.inside;
      left = ap marks_left c.requires.none ∙ sym (drop_all index (take index list) (omega (arith, count)));
      marks = ap (are_of_classes (borrowed_meaning c.args.canonical).class) c.requires.none;
    }

pub gathering-preserved : goal.gathering-preserved
gathering-preserved c =
    let class = (borrowed_meaning c.args.canonical).class in
    let list = c.args.list.now in
    let index = c.args.index in
    let end = c.gathering.end in
    let next = c.class_end-next.result in
    let x = c.class_marks.result in
    let items = c.gathering.classes.items in
    let was = c.gathering.invariant in
    let begins = was.begins in
    let inside : end < length list = omega arith in
    let read : c.index-list-end.result ≡ slice_index list end = get_or_read list end c.index-list-end.result inside c.index-list-end.is 0 in
    let is : class (slice_index list end) ≡ c.class-class.result = ap class (sym read) ∙ sym c.class-class.ensures in
    let onward : end < next = c.class_end-next.ensures.onward inside is in
    record {
      begins = omega (arith, begins, onward);
      within = c.class_end-next.ensures.within;
      left =
          ap marks_left c.in_ok-push.ensures.items
          ∙ gathered_more class index end next list items x begins (omega (arith, onward)) c.class_end-next.ensures.within c.class_marks.ensures.marks was.left;
      marks =
          ap (are_of_classes class) c.in_ok-push.ensures.items
          ∙ classes_more class items x was.marks
          (and_from (not (x.class == 0)) (are_of_class class x.class x.marks.now)
          (ap (λ k. not (k == 0)) c.class_marks.ensures.class ∙ ap not (ne_eqb c.class-class.result 0 c.if-class-eq0.false))
          (ap (λ k. are_of_class class k x.marks.now) c.class_marks.ensures.class ∙ ap (are_of_class class c.class-class.result) c.class_marks.ensures.marks
          ∙ c.class_end-next.ensures.marks));
    }

pub gathering-smaller : goal.gathering-smaller
gathering-smaller c =
    let class = (borrowed_meaning c.args.canonical).class in
    let list = c.args.list.now in
    let end = c.gathering.end in
    let inside : end < length list = omega arith in
    let read : c.index-list-end.result ≡ slice_index list end = get_or_read list end c.index-list-end.result inside c.index-list-end.is 0 in
    let is : class (slice_index list end) ≡ c.class-class.result = ap class (sym read) ∙ sym c.class-class.ensures in
    let onward : end < c.class_end-next.result = c.class_end-next.ensures.onward inside is in
    omega (arith, inside, onward)

pub returns-then-class-eq0-clause-ended : goal.returns-then-class-eq0-clause-ended
returns-then-class-eq0-clause-ended c =
    let class = (borrowed_meaning c.args.canonical).class in
    let list = c.args.list.now in
    let end = c.gathering.end in
    let inside : end < length list = omega arith in
    let read : c.index-list-end.result ≡ slice_index list end = get_or_read list end c.index-list-end.result inside c.index-list-end.is 0 in
    ends_at_starter class end list inside (ap class (sym read) ∙ sym c.class-class.ensures ∙ c.if-class-eq0.true)

pub returns-clause-ended : goal.returns-clause-ended
returns-clause-ended c =
    let class = (borrowed_meaning c.args.canonical).class in
    let within = c.gathering.invariant.within in
    let over : c.gathering.end ≡ length c.args.list.now = let past = c.gathering-test.false in omega (arith, within, past) in
    ends_at_end class c.gathering.end c.args.list.now over
