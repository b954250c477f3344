use Rattle.std.proofs.Common.{true, ◌∙◌, ◌==◌, arith, ap, sym, drop, length, length-drop}
use Rattle.std.specs.Prelude.{not}
use Rattle.std.proofs.lemmas.Bool.{and_from, and_parts}
use Rattle.icu_collator_core.specs.MarkRuns.{are_of_class}
use Rattle.icu_collator_core.specs.ReadWords.{table_word}
use Rattle.icu_collator_core.proofs.lookups.MarkRunLemmas.{class_passed, characters_dropped, class_dropped}
use Rattle.icu_collator_core.proofs.lookups.MarksLeftLemmas.{some_class}
use Rattle.icu_collator_core.proofs.reading.mark_runs.MarkedText.meets_class.Goals as goal

pub returns-then-left-self-clause-met : goal.returns-then-left-self-clause-met
returns-then-left-self-clause-met c = λ canonical weights d between here behind whole said suffixed of is h.
    let left = c.args.left in
    let parts = and_parts (not (left.class == 0)) (are_of_class canonical.class left.class left.marks.now) of in (
      here,
      is,
      class_passed canonical weights (table_word c.args.entry) d left.class c.args.self.now between here behind whole
          (some_class left.class parts.0) c.if-left-self.true (ap (are_of_class canonical.class left.class) is ∙ parts.1) h,
    )

pub returns-clause-met : goal.returns-clause-met
returns-clause-met c = λ canonical weights d between here behind whole said suffixed of is h.
    let left = c.args.left in
    let count = c.join_class-count.result in
    let parts = and_parts (not (left.class == 0)) (are_of_class canonical.class left.class left.marks.now) of in (
      drop count here,
      characters_dropped count here ∙ ap (drop count) is ∙ sym c.without.ensures.marks,
      c.join_class-count.ensures.joined canonical weights d between here behind whole said suffixed parts.1 is h,
    )

pub returns-clause-marks : goal.returns-clause-marks
returns-clause-marks c = λ class of.
    let left = c.args.left in
    let count = c.join_class-count.result in
    let later = c.without.result in
    let parts = and_parts (not (left.class == 0)) (are_of_class class left.class left.marks.now) of in
    and_from (not (later.class == 0)) (are_of_class class later.class later.marks.now) (ap (λ k. not (k == 0)) c.without.ensures.class ∙ parts.0)
    (ap (λ k. are_of_class class k later.marks.now) c.without.ensures.class ∙ ap (are_of_class class left.class) c.without.ensures.marks
    ∙ class_dropped class left.class count left.marks.now parts.1)

pub returns-clause-fewer : goal.returns-clause-fewer
returns-clause-fewer c =
    let fewer = ap length c.without.ensures.marks ∙ length-drop c.join_class-count.result c.args.left.marks.now in
    omega (arith, fewer)
